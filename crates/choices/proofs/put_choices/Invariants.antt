-- The levels that are no longer in the rest of the set are put in the group's row.
use Rattle.choice.proofs.Row.{PutBut}
use Rattle.choices.proofs.put_choices.Given as goal

abbrev pub invariant-loop-v : goal.invariant-loop-v
invariant-loop-v l = PutBut l.g l.near l.o l.initial.made l.v-iterator.rest l.made
