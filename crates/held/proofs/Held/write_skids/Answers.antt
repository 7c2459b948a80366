-- Skid by skid.
use Rattle.writer.proofs.Written.{writes_none, room_more, writes_more}
use Rattle.held.proofs.Held.write_skids.Goals as goal

pub loop-s-init : goal.loop-s-init
loop-s-init c = writes_none _ _

pub write_skid-requires-clause-room : goal.write_skid-requires-clause-room
write_skid-requires-clause-room c = room_more _ c.loop-s.s c.args.self.now.monitor.now.plant.skids c.loop-s-test.true c.requires c.loop-s.invariant

pub loop-s-preserved : goal.loop-s-preserved
loop-s-preserved c = writes_more _ c.loop-s.s c.args.self.now.monitor.now.plant.skids c.loop-s-test.true c.requires c.loop-s.invariant c.write_skid.ensures
