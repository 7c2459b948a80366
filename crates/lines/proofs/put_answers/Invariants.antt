-- The lines of the answers before this one are written.
use Rattle.printing.specs.Text.{answer_lines}
use Rattle.writer.specs.Writing.{Writes}
use Rattle.lines.proofs.put_answers.Given as goal

abbrev pub invariant-loop-i : goal.invariant-loop-i
invariant-loop-i l = Writes (answer_lines l.answers l.i) l.initial.text l.text
