-- The tests are the rules', in their order, and the level goes to its place.
use Rattle.std.proofs.Common.{refl, arith}
use borrow.Author.Tests.{lt-leb, le-leb}
use Rattle.refusal.proofs.NotZero.{handed_on, number_not_0}
use Rattle.rules.specs.Rules.{set}
use Rattle.calls.specs.Lent.{Does}
use Rattle.calls.proofs.Steps.{set_missing, set_fits, set_level, still_passes}
use Rattle.steps.proofs.set_at.Goals.{After-put_level}
use Rattle.steps.proofs.set_at.Goals as goal

pub returns-in_err-check_set : goal.returns-in_err-check_set
returns-in_err-check_set c =
    rw (handed_on _ _ c.from_residual.ensures) (set_missing _ c.args.tested.now.passes_test_20 _ _ _ c.args.v c.in_err-check_set.ensures (number_not_0 c.in_err-check_set.field-0.0))

pub levels_of-requires : goal.levels_of-requires
levels_of-requires c = rw c.from.ensures (set_fits _ c.args.tested.now.passes_test_20 _ _ _ c.args.v c.in_ok-check_set.ensures refl).1

pub returns-then-levels_of-v : goal.returns-then-levels_of-v
returns-then-levels_of-v c =
    let h = rw (c.levels_of.ensures, c.from.ensures) at c.if-levels_of-v.true in
    set_level _ c.args.tested.now.passes_test_20 _ _ _ _ c.in_ok-check_set.ensures refl (simp (le-leb _ _ h)) refl

pub put_level-requires : goal.put_level-requires
put_level-requires c =
    let k = set_fits _ c.args.tested.now.passes_test_20 _ _ _ c.args.v c.in_ok-check_set.ensures refl in
    rw (c.from-2.ensures, c.from-3.ensures, c.from-4.ensures) (omega (arith, k), omega (arith, k), omega (arith, k))

-- the set is what the rules say, by which the record left passes test 20 too
stored : (c : After-put_level) → Does c.args.tested.now.monitor (set c.args.s c.args.t c.args.d c.args.v) 0 c.put_level.new.self
stored c =
    let h = rw (c.levels_of.ensures, c.from.ensures) at c.if-levels_of-v.false in
    set_level _ c.args.tested.now.passes_test_20 _ _ _ _ c.in_ok-check_set.ensures refl (simp (lt-leb _ _ h)) (rw (c.from-2.ensures, c.from-3.ensures, c.from-4.ensures) at c.put_level.ensures)

pub returns : goal.returns
returns c = stored (goal.at.returns c).After-put_level

pub invariant_of-tested-2 : goal.invariant_of-tested-2
invariant_of-tested-2 c = still_passes c.args.tested.now (stored c)
