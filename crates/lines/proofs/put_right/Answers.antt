-- The skid with its space, then the line of the tank and the right.
use Rattle.std.proofs.Common.{[], ◌∷◌}
use Rattle.printing.specs.Decimal.{decimal}
use Rattle.text.proofs.Lines.{line_written}
use Rattle.lines.proofs.put_right.Goals as goal

pub returns : goal.returns
returns c =
    line_written (decimal c.args.skid) (decimal c.args.tank) (decimal c.args.right ∷ []) c.requires (rw c.from.ensures at c.put_field.ensures) (rw c.from-2.ensures at c.put_pair.ensures)
