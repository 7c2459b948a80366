-- The rights of a task are a part of eight.
use Rattle.std.proofs.Common.{arith}
use Rattle.base.proofs.Chunks.{chunk_at}
use Rattle.plant.proofs.Plant.rights_row.Goals as goal

pub returns : goal.returns
returns c = λ g l. rw c.as_chunks.ensures.front (chunk_at 8 _ c.args.self.now.task_rights c.args.t g (omega (arith, c.as_chunks.ensures.front_len)) l)
