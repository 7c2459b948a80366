-- The early tests, and what is found in the choices searched for, are the rules'.
use Rattle.std.proofs.Common.{refl}
use Rattle.rules.specs.Rules.{start}
use Rattle.refusal.specs.Number.{answer_of}
use Rattle.refusal.proofs.NotZero.{handed_on, not_0}
use Rattle.calls.specs.Lent.{Does}
use Rattle.calls.proofs.Late.{search_reads}
use Rattle.calls.proofs.Steps.{still_passes}
use Rattle.calls.proofs.Start.{refused_early, started, done_late}
use Rattle.single.proofs.start_alone.Goals.{After-start_late}
use Rattle.single.proofs.start_alone.Goals as goal

pub returns-in_err-start_early : goal.returns-in_err-start_early
returns-in_err-start_early c =
    rw (handed_on _ _ c.from_residual.ensures) (refused_early _ c.args.tested.now.passes_test_20 c.in_err-start_early.ensures (not_0 c.in_err-start_early.field-0.0))

pub choices_for-made-requires-clause-reads : goal.choices_for-made-requires-clause-reads
choices_for-made-requires-clause-reads c = search_reads (started _ c.args.tested.now.passes_test_20 c.in_ok-start_early.ensures refl)

pub start_late-requires-clause-reads : goal.start_late-requires-clause-reads
start_late-requires-clause-reads c =
    record { startable = started _ c.args.tested.now.passes_test_20 c.in_ok-start_early.ensures refl; table = c.choices_for-made.ensures }

-- the start is what the rules say, by which the record left passes test 20 too
done : (c : After-start_late) → Does c.args.tested.now.monitor (start c.args.s c.args.t) (answer_of c.start_late.result) c.start_late.new.m
done c = done_late _ c.args.tested.now.passes_test_20 c.in_ok-start_early.ensures refl c.start_late.ensures

pub returns : goal.returns
returns c = done (goal.at.returns c).After-start_late

pub invariant_of-tested-2 : goal.invariant_of-tested-2
invariant_of-tested-2 c = still_passes c.args.tested.now (done c)
