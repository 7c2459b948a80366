-- The turned sets are in order too, and they are those of the turned order.
use Rattle.lattice.proofs.Meets.{turned_ordered, turned_agrees}
use Rattle.rows.proofs.Levels.of.Goals as goal

pub invariant_of-result : goal.invariant_of-result
invariant_of-result c =
    let l = c.args.lattice.now in
    rw (c.from-count.ensures, c.turned_sets.ensures) (record {
      ordered = c.requires;
      turned = turned_agrees l.sets l.n c.requires.clean;
      numbered = rw c.from-count.ensures at c.numbers_to.ensures;
    })

pub returns-clause-under_ordered : goal.returns-clause-under_ordered
returns-clause-under_ordered c =
    let l = c.args.lattice.now in
    rw (c.from-count.ensures, c.turned_sets.ensures) (turned_ordered l.sets l.n c.requires)
