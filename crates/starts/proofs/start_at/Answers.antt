-- The early tests, and the row and its number, are the rules': where a start before has made the choices, and where this one makes them.
use Rattle.std.proofs.Common.{refl, ◌≡◌, ℕ, List}
use Rattle.std.specs.Prelude.{Option, Some, None, MatchOption}
use Rattle.plant.specs.declared.Plant.{Plant}
use Rattle.choice.specs.Table.{ChoicesIn, Tabled}
use Rattle.rules.specs.Rules.{start}
use Rattle.refusal.specs.Number.{answer_of}
use Rattle.calls.specs.Lent.{Does}
use Rattle.refusal.proofs.NotZero.{handed_on, not_0}
use Rattle.choice.proofs.Linked.{linked}
use Rattle.calls.proofs.Ready.{plant_valid}
use Rattle.calls.proofs.Late.{search_reads, table_looked}
use Rattle.calls.proofs.Steps.{still_passes}
use Rattle.calls.proofs.Start.{refused_early, started, done_late}
use Rattle.starts.proofs.start_at.Goals.{After-start_late}
use Rattle.starts.proofs.start_at.Goals as goal

pub returns-in_err-start_early-clause-does : goal.returns-in_err-start_early-clause-does
returns-in_err-start_early-clause-does c =
    rw (handed_on _ _ c.from_residual.ensures) (refused_early _ c.args.tested.now.passes_test_20 c.in_err-start_early.ensures (not_0 c.in_err-start_early.field-0.0))

pub get_or_insert_with-choices-requires : goal.get_or_insert_with-choices-requires
get_or_insert_with-choices-requires c = λ e. linked _ (plant_valid _ c.args.tested.now.passes_test_20)

-- the table, made before or here
tabled : {P : Plant} (made : Option (List (List (Option ℕ)))) {choices : List (List (Option ℕ))} → Tabled P made → MatchOption made (ChoicesIn P choices) (λ x. choices ≡ x) → ChoicesIn P choices
tabled None t e = e
tabled (Some x) t e = rw e t

pub start_late-requires-clause-reads : goal.start_late-requires-clause-reads
start_late-requires-clause-reads c =
    let W = started _ c.args.tested.now.passes_test_20 c.in_ok-start_early.ensures refl in
    record { startable = W; table = table_looked (search_reads W) (tabled _ c.requires.table c.get_or_insert_with-choices.ensures.cases) }

-- the start is what the rules say, by which the record left passes test 20 too
done : (c : After-start_late) → Does c.args.tested.now.monitor (start c.args.s c.args.t) (answer_of c.start_late.result) c.start_late.new.m
done c = done_late _ c.args.tested.now.passes_test_20 c.in_ok-start_early.ensures refl c.start_late.ensures

pub returns-clause-does : goal.returns-clause-does
returns-clause-does c = done (goal.at.returns-clause-does c).After-start_late

pub invariant_of-tested-2 : goal.invariant_of-tested-2
invariant_of-tested-2 c = still_passes c.args.tested.now (done c)
