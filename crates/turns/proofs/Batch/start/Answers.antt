-- A start that is accepted gives the skid the rights of its task, and one that is refused leaves both.
use Rattle.std.proofs.Common.{refl, arith}
use Rattle.refusal.proofs.NotZero.{not_0}
use Rattle.calls.proofs.Ready.{plant_valid}
use Rattle.calls.proofs.Steps.{plant_kept}
use Rattle.calls.proofs.Grants.{start_items, start_grants, start_refused}
use Rattle.turns.proofs.Batch.start.Goals as goal

pub invariant_of-self : goal.invariant_of-self
invariant_of-self c =
    let batch = c.args.self.now in
    let d = c.in_err-start_at.ensures.does in
    record {
      keeps = rw (← plant_kept d) (record {
        tables = c.start_at.ensures.tables;
        grants = start_refused _ batch.keeps.grants c.args.s c.args.t d (not_0 c.in_err-start_at.field-0.0);
      });
    }

pub grant_row-requires : goal.grant_row-requires
grant_row-requires c =
    let batch = c.args.self.now in
    let f = (plant_valid _ batch.tested.passes_test_20).counts in
    let l = start_items _ batch.keeps.grants c.args.s c.args.t f.skids_fit f.tasks_fit c.in_ok-start_at.ensures.does refl in
    (omega arith, omega arith)

pub invariant_of-self-2 : goal.invariant_of-self-2
invariant_of-self-2 c = let tested = c.start_at.new.tested in (tested.sized, (tested.passes_test_20, tt))

pub invariant_of-self-3 : goal.invariant_of-self-3
invariant_of-self-3 c =
    let batch = c.args.self.now in
    let f = (plant_valid _ batch.tested.passes_test_20).counts in
    let d = c.in_ok-start_at.ensures.does in
    record {
      keeps = rw (c.grant_row.ensures, c.from.ensures, c.from-2.ensures, ← plant_kept d) (record {
        tables = c.start_at.ensures.tables;
        grants = start_grants _ batch.keeps.grants c.args.s c.args.t f.skids_fit f.tasks_fit d refl;
      });
    }
