-- The lines of the rights before this one are written.
use Rattle.printing.specs.Text.{right_lines}
use Rattle.writer.specs.Writing.{Writes}
use Rattle.lines.proofs.put_rights.Given as goal

abbrev pub invariant-loop-skid : goal.invariant-loop-skid
invariant-loop-skid l = Writes (right_lines l.rights l.skid-index) l.initial.text l.text
