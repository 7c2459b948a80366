-- Test 20, and the request behind it.
use Rattle.std.proofs.Common.{◌∙◌}
use Rattle.refusal.proofs.NotZero.{not_0}
use Rattle.requests.specs.Requests.{call_of}
use Rattle.requests.proofs.Step.{answered_20}
use Rattle.monitor.proofs.step.Goals as goal

pub returns-in-Err : goal.returns-in-Err
returns-in-Err c = c.refused.ensures ∙ answered_20 c.args.m (call_of c.args.r) c.in-Err.ensures.number (not_0 _)
