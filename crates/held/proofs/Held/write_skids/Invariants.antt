-- The first s skids' rights are written.
use Rattle.base.specs.Collect.{collect}
use Rattle.listing.specs.Work.{skid_bytes_in}
use Rattle.writer.specs.Writing.{Writes}
use Rattle.held.proofs.Held.write_skids.Given as goal

abbrev pub invariant-loop-s : goal.invariant-loop-s
invariant-loop-s l = Writes (collect (skid_bytes_in l.self.monitor.now) l.s) l.initial.list l.list
