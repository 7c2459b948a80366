-- The levels passed have what lies above level j where they have level j, and the rest are as they were.
use Rattle.std.proofs.Common.{◌≡◌}
use Rattle.base.specs.Fill.{fill}
use Rattle.lattice.specs.Sets.{raised_at}
use Rattle.above.proofs.add_above.Given as goal

abbrev pub invariant-loop-i : goal.invariant-loop-i
invariant-loop-i l = l.further ≡ fill (raised_at l.strict l.j l.x l.initial.further) l.initial.further l.i
