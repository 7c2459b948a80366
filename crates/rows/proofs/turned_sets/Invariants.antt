-- The turned sets have the levels passed.
use Rattle.std.proofs.Common.{◌≡◌}
use Rattle.lattice.proofs.Gathered.{turned_to}
use Rattle.rows.proofs.turned_sets.Given as goal

abbrev pub invariant-loop-i : goal.invariant-loop-i
invariant-loop-i l = l.t ≡ turned_to l.s l.i
