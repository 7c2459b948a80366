-- The groups of the set are looked at one after the other.
use Rattle.std.proofs.Common.{◌≡◌, rules}
use Rattle.std.specs.Prelude.{Err}
use Rattle.refusal.specs.declared.Refusal.TheVariants.{LevelNotSet}
use Rattle.calls.proofs.Known.{is_set, is_unset}
use Rattle.calls.proofs.Groups.{none_found, tank_found, tank_lacking, ends_unset, all_found, some_lack}
use Rattle.chosen.proofs.choose_row.Goals as goal

pub loop-g-init : goal.loop-g-init
loop-g-init c = rw (c.into_iter-g-iterator.ensures.into_iter_gives, c.of-g-items.ensures) (none_found _ _ _ _ _ c.args.start.now.need)

pub returns-in_err-v : goal.returns-in_err-v
returns-in_err-v c =
    let T = c.in-Some.ensures.steps in
    let e : c.from_residual.result ≡ Err LevelNotSet = search rules in
    rw e (ends_unset c.loop-g.invariant (c.requires c.in-Some.g (c.loop-g.invariant.so_far.part _ T.was_in)).0 T (is_unset _ (rw c.in_err-v.ensures.ok_part at c.level.ensures)))

pub loop-g-preserved-in-Some-made : goal.loop-g-preserved-in-Some-made
loop-g-preserved-in-Some-made c =
    let T = c.in-Some.ensures.steps in
    let w = is_set _ (rw c.in_ok-v.ensures.ok_part at c.level.ensures) in
    tank_found c.loop-g.invariant (c.requires c.in-Some.g (c.loop-g.invariant.so_far.part _ T.was_in)).0 T w.0 (rw (← w.1) c.in-Some-made.is)

pub loop-g-preserved : goal.loop-g-preserved
loop-g-preserved c =
    let T = c.in-Some.ensures.steps in
    let w = is_set _ (rw c.in_ok-v.ensures.ok_part at c.level.ensures) in
    tank_lacking c.loop-g.invariant (c.requires c.in-Some.g (c.loop-g.invariant.so_far.part _ T.was_in)).0 T w.0 (rw (← w.1) c.in-None-made.is)

pub returns-then-lacking : goal.returns-then-lacking
returns-then-lacking c = some_lack c.loop-g.invariant c.in-None.ensures.steps c.if-lacking.true

pub returns : goal.returns
returns c = all_found c.loop-g.invariant c.in-None.ensures.steps c.if-lacking.false
