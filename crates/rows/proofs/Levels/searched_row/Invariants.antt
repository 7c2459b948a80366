-- The row has the joins among the levels that are no longer in the rest.
use Rattle.lattice.proofs.Marked.{RowBut}
use Rattle.rows.proofs.Levels.searched_row.Given as goal

abbrev pub invariant-loop-k : goal.invariant-loop-k
invariant-loop-k l = RowBut l.self.count l.self.above l.i l.k-iterator.rest l.found
