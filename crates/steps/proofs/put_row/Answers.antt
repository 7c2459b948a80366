-- One copy stores the row.
use Rattle.std.proofs.Common.{arith, ◌*◌}
use Rattle.calls.proofs.Rows.{row_copied}
use Rattle.steps.proofs.put_row.Goals as goal

pub returns : goal.returns
returns c = rw c.copy_from_slice.ensures.after (row_copied c.args.rows.now c.args.row.now (c.args.s * 8) (omega arith) (omega arith))
