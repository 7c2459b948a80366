-- Each level that is taken from the rest is joined, and at the end none is left.
use Rattle.choice.proofs.Levels.{union_next, union_ends}
use Rattle.nearest.proofs.above_in.Goals as goal

pub loop-y-preserved : goal.loop-y-preserved
loop-y-preserved c =
    let T = c.in-Some.ensures.steps in
    union_next c.args.p.now.lattice_sets c.args.l c.args.these _ _ c.in-Some.y T.was_in T.leaves T.low c.loop-y.all _
    c.loop-y.invariant (rw c.above-all.ensures)

pub returns : goal.returns
returns c = union_ends c.args.p.now.lattice_sets c.args.l c.args.these c.loop-y.all _ c.loop-y.invariant c.in-None.ensures.steps
