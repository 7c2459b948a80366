-- A refused queue makes no call.
use Rattle.refusal.proofs.NotZero.{not_0}
use Rattle.queue.proofs.Turns.{refused}
use Rattle.queue.proofs.queue.Goals as goal

pub returns-in-Err : goal.returns-in-Err
returns-in-Err c = rw c.refused.ensures (refused c.args.m c.args.rs.now c.args.out.now c.in-Err.ensures.number (not_0 _))
