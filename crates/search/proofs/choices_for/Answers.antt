-- The groups of the set are looked at one after the other, and the choice of each goes to its entry, if its level is set.
use Rattle.calls.proofs.Known.{is_set}
use Rattle.calls.proofs.Searched.{looked_put}
use Rattle.search.proofs.choices_for.Goals as goal

pub loop-g-preserved-in-Some-level : goal.loop-g-preserved-in-Some-level
loop-g-preserved-in-Some-level c =
    let w = is_set _ c.in-Some-level.ensures in
    rw w.1 (looked_put c.loop-g.invariant c.requires.reads c.requires.need c.in-Some.ensures.steps w.0 (rw w.1 at (rw c.of-places.ensures at c.choice.ensures)))
