-- The levels for which a tank is nearest, by the three sets that the code makes.
use Rattle.choice.proofs.Levels.{nearest_made}
use Rattle.nearest.proofs.nearest_for.Goals as goal

pub returns : goal.returns
returns c =
    nearest_made c.args.p.now.lattice_sets c.args.l c.args.places c.args.x _ _ _
    (rw c.above-own.ensures at c.without_one-nearer.ensures) c.above_in-taken.ensures (rw c.above-own.ensures at c.without_set.ensures)
