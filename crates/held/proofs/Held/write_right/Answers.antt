-- The bytes of a right: three where it is held, and else none.
use Rattle.std.proofs.Common.{rules}
use Rattle.base.proofs.Below.{all_at}
use Rattle.plant.proofs.Links.{entry_at}
use Rattle.calls.specs.Work.{task_known}
use Rattle.writer.proofs.Written.{writes_nothing}
use Rattle.held.proofs.Held.write_right.Goals as goal

pub is_held-requires-clause-o_bound : goal.is_held-requires-clause-o_bound
is_held-requires-clause-o_bound c =
    let m = c.args.self.now.monitor.now in
    let k = c.args.self.now.known in (
      entry_at m.plant.tank_group 8 m.plant.tanks c.args.o k.groups_there c.requires.in_range.1,
      rw c.from.ensures (all_at m.plant.skids (task_known m.running) k.tasks_known c.args.s c.requires.in_range.0),
    )

pub returns-else-is_held : goal.returns-else-is_held
returns-else-is_held c = search (rules, writes_nothing)
