-- The levels passed are under themselves, and what lies above them is added.
use Rattle.std.proofs.Common.{◌≡◌, true}
use Rattle.base.specs.Below.{all_below}
use Rattle.lattice.specs.Levels.{under}
use Rattle.lattice.proofs.Rows.{FurtherTo}
use Rattle.above.proofs.in_order.Given as goal

abbrev pub invariant-loop-j : goal.invariant-loop-j
invariant-loop-j l = record {
  reflexive : all_below (λ i. under l.lattice i i) l.j ≡ true;
  added : FurtherTo l.lattice.sets l.j l.further;
}
