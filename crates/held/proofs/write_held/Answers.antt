-- The rights from the second byte on, and their count in the first.
use Rattle.std.proofs.Common.{rules, ◌∙◌, arith}
use Rattle.listing.specs.Work.{skids_bytes_in}
use Rattle.listing.proofs.Bound.{list_short}
use Rattle.writer.proofs.Written.{lent_wrote}
use Rattle.held.proofs.Put.{counted}
use Rattle.held.proofs.write_held.Goals as goal

pub write_skids-requires : goal.write_skids-requires
write_skids-requires c =
    record { fits = simp c.new-list.ensures.begins.0 (omega (arith, list_short c.args.m.now c.requires.known, c.split_at_mut-count.ensures.back_len)) }

pub overflow_cast-count : goal.overflow_cast-count
overflow_cast-count c =
    omega
    (arith, list_short c.args.m.now c.requires.known, c.new-list.ensures.begins.1, c.write_skids.ensures.wrote.place, c.end-bytes.ensures.1)

pub returns : goal.returns
returns c =
    let parts = c.split_at_mut-count.ensures in
    let b = c.new-list.ensures.begins in
    counted c.args.out.now (skids_bytes_in c.args.m.now) (omega arith) parts.front
    (lent_wrote (b.0 ∙ parts.back) b.1 c.write_skids.ensures (search rules) c.end-bytes.ensures.1)
