-- The row has level k at each level passed where it belongs, and from there on what it held.
use Rattle.std.proofs.Common.{◌≡◌}
use Rattle.base.specs.Fill.{fill}
use Rattle.lattice.specs.Sets.{marked_at}
use Rattle.rows.proofs.mark.Given as goal

abbrev pub invariant-loop-j : goal.invariant-loop-j
invariant-loop-j l = l.row ≡ fill (marked_at l.s l.x l.k l.initial.row) l.initial.row l.j
