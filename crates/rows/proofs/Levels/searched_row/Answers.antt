-- Each level that is taken from the rest is put in, and at the end none is left.
use Rattle.lattice.proofs.Marked.{row_starts, row_marked, row_ends}
use Rattle.rows.proofs.Levels.searched_row.Goals as goal

pub loop-k-init : goal.loop-k-init
loop-k-init c =
    let levels = c.args.self.now in
    rw (c.into_iter-k-iterator.ensures.into_iter_gives, c.of-k-items.ensures) (row_starts levels.count levels.above levels.ordered c.args.i c.requires)

pub loop-k-preserved : goal.loop-k-preserved
loop-k-preserved c =
    let levels = c.args.self.now in
    let T = c.in-Some.ensures.steps in
    rw c.mark.ensures (row_marked levels.count levels.above levels.ordered c.args.i c.requires c.loop-k.invariant _ _ T.was_in T.leaves)

pub returns : goal.returns
returns c =
    let levels = c.args.self.now in
    row_ends levels.count levels.above levels.ordered c.args.i c.requires c.loop-k.invariant c.in-None.ensures.steps
