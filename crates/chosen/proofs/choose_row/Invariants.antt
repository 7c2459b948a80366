-- What is known of the groups that are no longer in the rest of the set.
use Rattle.choice.specs.Table.{made_at}
use Rattle.calls.proofs.Groups.{FoundSoFar}
use Rattle.chosen.proofs.choose_row.Given as goal

abbrev pub invariant-loop-g : goal.invariant-loop-g
invariant-loop-g l = FoundSoFar (made_at l.made) l.m.plant.group_requirement l.m.levels l.start.skid l.start.task l.start.need l.g-iterator.rest l.lacking l.row
