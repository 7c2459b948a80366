-- A gate whose items are there answers by the rights granted.
use Rattle.std.proofs.Common.{refl}
use Rattle.calls.proofs.Steps.{gate_handed_on, gate_bounds, items_fit, gate_by_grants}
use Rattle.gates.proofs.gate_granted.Goals as goal

pub returns-in_err-check_gate : goal.returns-in_err-check_gate
returns-in_err-check_gate c = gate_handed_on c.args.tested.now _ _ c.args.r _ c.in_err-check_gate.ensures _ c.from_residual.ensures

pub is_granted-requires-clause-s_bound : goal.is_granted-requires-clause-s_bound
is_granted-requires-clause-s_bound c = gate_bounds c.args.tested.now _ _ c.args.r c.in_ok-check_gate.ensures c.from.ensures

pub is_granted-requires-clause-o_bound : goal.is_granted-requires-clause-o_bound
is_granted-requires-clause-o_bound c = (items_fit _ c.args.tested.now.passes_test_20 _ _ c.args.r c.in_ok-check_gate.ensures refl).1

pub returns : goal.returns
returns c =
    gate_by_grants _ c.args.tested.now.passes_test_20 _ _ _ c.in_ok-check_gate.ensures refl c.requires (rw (← c.from.ensures) c.is_granted.ensures)
