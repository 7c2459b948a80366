-- What is printed of a batch does not depend on the buffer that it wrote into, which has room.
use Rattle.std.proofs.Common.{◌∙◌, arith}
use Rattle.std.proofs.Math.ListN.{replicate, length-replicate}
use Rattle.std.proofs.lemmas.List.{take-append-drop}
use Rattle.printing.proofs.Batched.{batched_lines}
use Rattle.writer.proofs.Written.{writes_as}
use Rattle.session.proofs.print_batch.Goals as goal

pub returns : goal.returns
returns c =
    let e = c.call_batch.ensures in
    let parts = c.split_at.ensures in
    writes_as
    (rw (parts.front_len, parts.front, parts.back, take-append-drop)
    (batched_lines c.args.plant.now c.args.requests.now (replicate 13873 0) (rw length-replicate (omega arith)) (c.answer-number.ensures ∙ e.0) e.1))
    c.print_outcome.ensures
