-- Of the rights before this one, those that are held on the tank are written.
use Rattle.std.proofs.Common.{get_or}
use Rattle.base.specs.Collect.{collect}
use Rattle.plant.specs.Right.{all_rights}
use Rattle.listing.specs.Work.{right_bytes_in}
use Rattle.writer.specs.Writing.{Writes}
use Rattle.held.proofs.Held.write_tank.Given as goal

abbrev pub invariant-loop-r : goal.invariant-loop-r
invariant-loop-r l = Writes (collect (λ k. right_bytes_in l.self.monitor.now l.s l.o (get_or all_rights k 0)) l.r-index) l.initial.list l.list
