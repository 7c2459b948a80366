-- The fresh monitor of a plant that passes its checks passes test 20, and nothing is made yet.
use Rattle.plant.proofs.Sound.{sound_law}
use Rattle.plant.proofs.Valid.{valid}
use Rattle.calls.proofs.Served.{fresh_passes}
use Rattle.turns.proofs.Batch.new.Goals as goal

pub invariant_of-result : goal.invariant_of-result
invariant_of-result c = rw c.fresh_monitor.ensures (fresh_passes c.args.checked.plant c.args.checked.passes_checks)

pub invariant_of-result-2 : goal.invariant_of-result-2
invariant_of-result-2 c =
    let checked = c.args.checked in
    rw c.fresh_monitor.ensures (record { keeps = c.new.ensures checked.plant (valid checked.plant ((sound_law checked.plant).0 checked.passes_checks)).counts.skids_fit })
