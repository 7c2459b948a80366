-- The tank that is found is the lowest that is nearest.
use Rattle.std.proofs.Common.{rules, tests, ◌≤◌, arith}
use Rattle.choice.specs.Search.{choice_in}
use Rattle.choice.specs.Table.{group_near}
use Rattle.base.proofs.Find.{find_in_range}
use Rattle.search.proofs.Group.choice.Goals as goal

pub returns : goal.returns
unfolding choice_in
returns c =
    let places = c.args.self.now.places.now in
    let P = places.plant.now in
    let k : P.tanks ≤ 255 = omega (arith, places.tanks_there.tanks_fit) in
    find_in_range 255 (group_near P c.args.self.now.number c.args.v) P.tanks k _ _ c.find.result c.find.ensures.ran (λ x b q k. search (rules, tests))
