-- A row that is stored in the front of the table is stored in the table.
use Rattle.std.proofs.Common.{sym, ◌∙◌, rules}
use lib.ListN.{take-append-drop}
use lib.Seq.{set-append_left}
use Rattle.base.proofs.Filled.{fill_none, fill_next}
use Rattle.joins.proofs.table.Goals as goal

pub loop-i-init : goal.loop-i-init
loop-i-init c = take-append-drop _ _ ∙ fill_none _ _

pub loop-i-preserved : goal.loop-i-preserved
loop-i-preserved c =
    sym (set-append_left c.loop-i.row-items _ c.loop-i.i _ (search rules)) ∙ fill_next _ _ c.loop-i.i c.loop-i.invariant c.join_row.ensures
