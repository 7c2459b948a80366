-- The levels passed have level i in their sets, where it belongs.
use Rattle.std.proofs.Common.{◌≡◌}
use Rattle.base.specs.Fill.{fill}
use Rattle.lattice.specs.Sets.{added_at}
use Rattle.rows.proofs.add_level.Given as goal

abbrev pub invariant-loop-j : goal.invariant-loop-j
invariant-loop-j l = l.t ≡ fill (added_at l.initial.t l.x l.i) l.initial.t l.j
