-- The parts of five are the requests of the bytes.
use Rattle.calls.proofs.Served.{chunk_calls}
use Rattle.batch_call.proofs.check_sizes.Goals as goal

pub returns-clause-calls : goal.returns-clause-calls
returns-clause-calls c = chunk_calls _ _ c.as_chunks.ensures.front c.as_chunks.ensures.front_len
