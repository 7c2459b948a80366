-- The choices of the groups that are no longer in the rest of the set are in their places.
use Rattle.calls.proofs.Searched.{LookedSoFar}
use Rattle.search.proofs.choices_for.Given as goal

abbrev pub invariant-loop-g : goal.invariant-loop-g
invariant-loop-g l = LookedSoFar l.m.plant l.m.levels l.start.skid l.start.task l.start.need l.g-iterator.rest l.made
