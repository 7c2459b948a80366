-- The row that is copied is the task's.
use Rattle.std.proofs.Common.{◌∙◌, ◌*◌}
use Rattle.calls.proofs.Rows.{row_same}
use Rattle.calls.specs.Work.{rights_in}
use Rattle.steps.proofs.grant_row.Goals as goal

pub returns : goal.returns
returns c = c.put_row.ensures ∙ row_same c.args.granted.now (c.args.s * 8) _ (rights_in c.args.p.now.task_rights c.args.t) 8 c.rights_row.ensures
