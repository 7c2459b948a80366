-- Input that is too long, a plant that is not all there, or a batch: what is `printed` in each case.
use Rattle.std.proofs.Common.{sym, lit<, arith}
use Rattle.printing.proofs.Bounds.{refusal_short}
use Rattle.printing.proofs.Printed.{long_lines}
use Rattle.writer.proofs.Written.{writes_as}
use Rattle.session.proofs.print_session.Goals as goal

pub returns-then-input-gt-LONGEST : goal.returns-then-input-gt-LONGEST
returns-then-input-gt-LONGEST c = writes_as (sym (long_lines c.args.input.now c.if-input-gt-LONGEST.true)) c.word.ensures

pub put_refusal-requires : goal.put_refusal-requires
put_refusal-requires c = rw c.from.ensures (record { fits = omega (arith, refusal_short 1 (lit< tt)) })

pub returns-in-None : goal.returns-in-None
returns-in-None c = writes_as (sym c.in-None.ensures) (rw c.from.ensures at c.put_refusal.ensures)

pub returns-in-Some : goal.returns-in-Some
returns-in-Some c = writes_as (sym c.in-Some.ensures.0) c.print_batch.ensures
