-- A cell that is stored in the front of the array is stored in the array.
use Rattle.std.proofs.Common.{sym, ◌∙◌, rules}
use lib.ListN.{take-append-drop}
use lib.Seq.{set-append_left}
use Rattle.base.proofs.Filled.{fill_none, fill_next}
use Rattle.cells.proofs.PartField.cells.Goals as goal

pub loop-k-init : goal.loop-k-init
loop-k-init g c = rw c.ZERO-cells.ensures (take-append-drop _ _ ∙ fill_none _ _)

pub loop-k-preserved : goal.loop-k-preserved
loop-k-preserved g c = sym (set-append_left c.loop-k.cell-items _ c.loop-k.k _ (search rules)) ∙ fill_next _ _ c.loop-k.k c.loop-k.invariant c.cell.ensures
