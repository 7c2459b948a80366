-- A stop that is accepted leaves the skid no rights, and one that is refused leaves both.
use Rattle.std.proofs.Common.{refl}
use Rattle.refusal.proofs.NotZero.{not_0}
use Rattle.calls.proofs.Ready.{plant_valid}
use Rattle.calls.proofs.Steps.{plant_kept}
use Rattle.calls.proofs.Grants.{stop_item, stop_grants, stop_refused}
use Rattle.turns.proofs.Batch.stop.Goals as goal

pub invariant_of-self : goal.invariant_of-self
invariant_of-self c =
    let batch = c.args.self.now in
    let d = c.in_err-stop_at.ensures in
    record {
      keeps = rw (← plant_kept d) (record {
        tables = batch.keeps.tables;
        grants = stop_refused _ batch.keeps.grants c.args.s d (not_0 c.in_err-stop_at.field-0.0);
      });
    }

pub put_row-requires : goal.put_row-requires
put_row-requires c =
    let batch = c.args.self.now in
    rw c.from.ensures (stop_item _ batch.keeps.grants c.args.s (plant_valid _ batch.tested.passes_test_20).counts.skids_fit c.in_ok-stop_at.ensures refl)

pub invariant_of-self-2 : goal.invariant_of-self-2
invariant_of-self-2 c =
    let batch = c.args.self.now in
    let d = c.in_ok-stop_at.ensures in
    record {
      keeps = rw (c.put_row.ensures, c.from.ensures, ← plant_kept d) (record {
        tables = batch.keeps.tables;
        grants = stop_grants _ batch.keeps.grants c.args.s (plant_valid _ batch.tested.passes_test_20).counts.skids_fit d refl;
      });
    }
