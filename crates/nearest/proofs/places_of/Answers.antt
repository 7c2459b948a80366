-- Each tank's group has a place, and the places after a step are those of one tank more.
use Rattle.std.proofs.Common.{rules}
use Rattle.std.proofs.lemmas.List.{length-append}
use Rattle.plant.proofs.Tanks.{tank}
use Rattle.choice.proofs.Places.{places_none, places_next}
use Rattle.nearest.proofs.places_of.Goals as goal

pub loop-level-init : goal.loop-level-init
loop-level-init c = places_none c.args.p.now.tank_group c.args.p.now.tank_level

pub loop-level-preserved : goal.loop-level-preserved
loop-level-preserved c =
    let p = c.args.p.now in
    let t = tank p _ _ _ c.next.new.self c.loop-level.yielded_by c.next.ensures.steps c.in-Some.is c.from.ensures c.from-g.ensures (cc) (cc) (search rules) in
    let made = rw (t.group, t.level) at c.with_one.ensures in
    rw (length-append c.loop-level.yielded _, t.group)
    (places_next p.tank_group p.tank_level _ c.loop-level.places _ (c.requires.group_there _ t.there) c.loop-level.invariant made)
