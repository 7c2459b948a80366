-- The levels passed have their row, and the rest of the table, with the part that the loop does not have, is empty.
use Rattle.std.proofs.Common.{◌≡◌, ◌++◌, drop, replicate}
use Rattle.base.specs.Fill.{fill}
use Rattle.lattice.specs.Sets.{under_in}
use Rattle.lattice.specs.Table.{empty_row, join_row}
use Rattle.joins.proofs.table.Given as goal

abbrev pub invariant-loop-i : goal.invariant-loop-i
invariant-loop-i l =
    l.row-items ++ drop l.levels.count (replicate 16 empty_row) ≡ fill (join_row l.levels.count (under_in l.levels.above)) (replicate 16 empty_row) l.i
