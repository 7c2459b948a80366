-- The three tests are the rules'.
use Rattle.std.proofs.Common.{sym, ◌∙◌}
use Rattle.calls.proofs.There.{three_items}
use Rattle.calls.proofs.Steps.{gate_number}
use Rattle.gates.proofs.check_gate.Goals as goal

pub returns : goal.returns
returns c = λ vs.
    c.check_present.ensures
    ∙ three_items _ _ _ _ _ _ c.then_some.ensures c.then_some-2.ensures c.then_some-3.ensures
    ∙ sym (gate_number _ _ _ _ vs c.valid.ensures)
