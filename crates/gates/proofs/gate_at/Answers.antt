-- A gate whose items are there answers by the record.
use Rattle.std.proofs.Common.{refl}
use Rattle.calls.proofs.Steps.{gate_handed_on, gate_bounds, items_fit, task_in, gate_by_record}
use Rattle.gates.proofs.gate_at.Goals as goal

pub returns-in_err-check_gate : goal.returns-in_err-check_gate
returns-in_err-check_gate c = gate_handed_on c.args.tested.now _ _ c.args.r _ c.in_err-check_gate.ensures _ c.from_residual.ensures

pub is_held-requires-clause-s_bound : goal.is_held-requires-clause-s_bound
is_held-requires-clause-s_bound c = gate_bounds c.args.tested.now _ _ c.args.r c.in_ok-check_gate.ensures c.from.ensures

pub is_held-requires-clause-o_bound : goal.is_held-requires-clause-o_bound
is_held-requires-clause-o_bound c =
    let e = c.in_ok-check_gate.ensures in
    ((items_fit _ c.args.tested.now.passes_test_20 _ _ c.args.r e refl).1, rw c.from.ensures (task_in _ c.args.tested.now.passes_test_20 _ _ c.args.r e refl))

pub returns : goal.returns
returns c = gate_by_record _ c.args.tested.now.passes_test_20 _ _ _ c.in_ok-check_gate.ensures refl (rw (← c.from.ensures) c.is_held.ensures)
