-- Tank by tank.
use Rattle.writer.proofs.Written.{writes_none, room_more, writes_more}
use Rattle.held.proofs.Held.write_skid.Goals as goal

pub loop-o-init : goal.loop-o-init
loop-o-init c = writes_none _ _

pub write_tank-requires-clause-room : goal.write_tank-requires-clause-room
write_tank-requires-clause-room c = room_more _ c.loop-o.o c.args.self.now.monitor.now.plant.tanks c.loop-o-test.true c.requires.room c.loop-o.invariant

pub loop-o-preserved : goal.loop-o-preserved
loop-o-preserved c = writes_more _ c.loop-o.o c.args.self.now.monitor.now.plant.tanks c.loop-o-test.true c.requires.room c.loop-o.invariant c.write_tank.ensures
