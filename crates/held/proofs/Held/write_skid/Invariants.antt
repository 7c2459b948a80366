-- The skid's rights on the first o tanks are written.
use Rattle.base.specs.Collect.{collect}
use Rattle.listing.specs.Work.{tank_bytes_in}
use Rattle.writer.specs.Writing.{Writes}
use Rattle.held.proofs.Held.write_skid.Given as goal

abbrev pub invariant-loop-o : goal.invariant-loop-o
invariant-loop-o l = Writes (collect (tank_bytes_in l.self.monitor.now l.s) l.o) l.initial.list l.list
