-- A tank whose place is taken is at one level with a tank before it, and each step takes one place more.
use Rattle.std.proofs.Common.{arith, rules}
use Rattle.std.proofs.lemmas.List.{length-append}
use Rattle.base.proofs.Scan.{all_more, all_stops}
use Rattle.plant.specs.Checks.{levels_distinct}
use Rattle.plant.proofs.Places.{taken_more, is_taken, is_free}
use Rattle.plant.proofs.Tanks.{tank}
use Rattle.items.proofs.Numbered.levels_distinct.Goals as goal

pub bounds-taken-group-else-taken-level : goal.bounds-taken-group-else-taken-level
bounds-taken-group-else-taken-level c =
    let t = tank c.args.self.now.plant.now _ _ _ c.next.new.self c.loop-level.yielded_by c.next.ensures.steps c.in-Some.is c.from-level.ensures c.from-group.ensures (cc) (cc) (search rules) in
    omega (arith, c.args.self.now.group_in _ t.there, t.group)

pub returns-then-taken-level : goal.returns-then-taken-level
unfolding levels_distinct
returns-then-taken-level c =
    let p = c.args.self.now.plant.now in
    let t = tank p _ _ _ c.next.new.self c.loop-level.yielded_by c.next.ensures.steps c.in-Some.is c.from-level.ensures c.from-group.ensures (cc) (cc) (search rules) in
    all_stops _ _ _ t.there (is_taken p _ (omega (arith, t.level)) (c.args.self.now.group_in _ t.there) c.loop-level.invariant.0 t.level t.group c.if-taken-level.true)

pub loop-level-preserved : goal.loop-level-preserved
loop-level-preserved c =
    let p = c.args.self.now.plant.now in
    let t = tank p _ _ _ c.next.new.self c.loop-level.yielded_by c.next.ensures.steps c.in-Some.is c.from-level.ensures c.from-group.ensures (cc) (cc) (search rules) in
    rw (length-append c.loop-level.yielded _) (
      taken_more p _ c.loop-level.invariant.0 t.level t.group,
      all_more _ _ c.loop-level.invariant.1 (is_free p _ (omega (arith, t.level)) (c.args.self.now.group_in _ t.there) c.loop-level.invariant.0 t.level t.group c.if-taken-level.false),
    )
