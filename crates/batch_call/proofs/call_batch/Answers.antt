-- A refusal with nothing written, or the outcome.
use Rattle.refusal.proofs.NotZero.{not_0}
use Rattle.outcome.proofs.Refused.{refused, written, opening_refuses, sizes_decide}
use Rattle.batch_call.proofs.call_batch.Goals as goal

pub returns-in_err-checked : goal.returns-in_err-checked
returns-in_err-checked c =
    refused c.args.plant.now c.args.requests.now c.args.out.now _ _ c.from_residual.ensures
    (opening_refuses _ _ _ c.in_err-checked.ensures.refused (not_0 _))

pub returns-in_err-requests : goal.returns-in_err-requests
returns-in_err-requests c =
    refused c.args.plant.now c.args.requests.now c.args.out.now _ _ c.from_residual-in_err-requests.ensures
    (sizes_decide _ _ _ c.in_ok-checked.ensures.refused c.in_err-requests.ensures.refused)

pub returns : goal.returns
returns c =
    written c.args.plant.now c.args.requests.now c.args.out.now (sizes_decide _ _ _ c.in_ok-checked.ensures.refused c.in_ok-requests.ensures.refused)
    (rw (← c.in_ok-checked.ensures.plant, ← c.in_ok-requests.ensures.calls) c.write_outcome.ensures)
