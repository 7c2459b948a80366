-- The first number with its space, then the line of the other.
use Rattle.std.proofs.Common.{[]}
use Rattle.printing.specs.Decimal.{decimal}
use Rattle.text.proofs.Lines.{line_written}
use Rattle.text.proofs.put_pair.Goals as goal

pub returns : goal.returns
returns c = line_written (decimal c.args.a) (decimal c.args.b) [] c.requires.room c.put_field.ensures (rw c.from.ensures at c.put_field-2.ensures)
