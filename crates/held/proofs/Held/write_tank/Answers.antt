-- Right by right, in the order of `Right::all`.
use Rattle.writer.proofs.Written.{writes_none, room_more, writes_more}
use Rattle.held.proofs.Held.write_tank.Goals as goal

pub loop-r-init : goal.loop-r-init
loop-r-init c = writes_none _ _

pub write_right-requires-clause-room : goal.write_right-requires-clause-room
write_right-requires-clause-room c = rw c.all-r-items.ensures (room_more _ c.loop-r.r-index 3 c.loop-r-test.true c.requires.room c.loop-r.invariant)

pub loop-r-preserved : goal.loop-r-preserved
loop-r-preserved c =
    writes_more _ c.loop-r.r-index 3 c.loop-r-test.true c.requires.room c.loop-r.invariant (rw c.all-r-items.ensures at c.write_right.ensures)
