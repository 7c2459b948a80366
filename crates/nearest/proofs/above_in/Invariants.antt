-- The sets of the levels that are no longer in the rest are joined.
use Rattle.choice.proofs.Levels.{UnionBut}
use Rattle.nearest.proofs.above_in.Given as goal

abbrev pub invariant-loop-y : goal.invariant-loop-y
invariant-loop-y l = UnionBut l.p.lattice_sets l.l l.these l.all l.y-iterator.rest
