-- From the highest tank down, each tank passed is put where it is nearest.
use Rattle.choice.proofs.Table.{MadeFrom}
use Rattle.choices.proofs.make_choices.Given as goal

abbrev pub invariant-loop-o : goal.invariant-loop-o
invariant-loop-o l = MadeFrom l.p l.o l.made
