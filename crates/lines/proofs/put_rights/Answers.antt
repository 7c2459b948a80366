-- Right by right: the room for its line, and what is written with it.
use Rattle.std.proofs.Common.{◌/◌, ◌<◌, length, sym, arith}
use Rattle.printing.specs.Text.{right_line_at}
use Rattle.writer.proofs.Written.{room_as, writes_as, writes_none, room_more, writes_more}
use Rattle.lines.proofs.Chunks.{chunk_line}
use Rattle.lines.proofs.put_rights.Goals as goal

pub loop-skid-init : goal.loop-skid-init
loop-skid-init c = writes_none _ _

pub put_right-requires : goal.put_right-requires
put_right-requires c =
    let rights = c.args.rights.now in
    let n = length rights / 3 in
    let i = c.loop-skid.skid-index in
    let l : i < n = omega (arith, c.as_chunks.ensures.front_len) in
    rw c.as_chunks.ensures.front (room_as (sym (chunk_line rights n i l)) (room_more (right_line_at rights) i n l c.requires c.loop-skid.invariant))

pub loop-skid-preserved : goal.loop-skid-preserved
loop-skid-preserved c =
    let rights = c.args.rights.now in
    let n = length rights / 3 in
    let i = c.loop-skid.skid-index in
    let l : i < n = omega (arith, c.as_chunks.ensures.front_len) in
    writes_more (right_line_at rights) i n l c.requires c.loop-skid.invariant
    (writes_as (chunk_line rights n i l) (rw c.as_chunks.ensures.front at c.put_right.ensures))
