-- One byte written: `wrote_byte` at the place.
use Rattle.std.proofs.Common.{refl, arith}
use Rattle.std.proofs.Math.ListN.{length-set}
use Rattle.base.proofs.Written.{wrote_byte}
use Rattle.writer.proofs.Writer.byte.Goals as goal

pub returns : goal.returns
returns c = record { same_buffer = refl; same_length = length-set _ _ _; wrote = wrote_byte c.args.self.now.bytes.now c.args.self.now.at c.args.byte (omega arith) }
