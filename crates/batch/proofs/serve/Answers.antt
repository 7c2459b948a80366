-- Each turn is the run's next call.
use Rattle.calls.proofs.Served.{serving_none, serving_more, serving_all}
use Rattle.batch.proofs.serve.Goals as goal

pub loop-i-init : goal.loop-i-init
loop-i-init c = rw c.new-batch.ensures (serving_none _ _ _)

pub loop-i-preserved : goal.loop-i-preserved
loop-i-preserved c = serving_more _ _ _ c.requires c.loop-i-test.true c.loop-i.invariant (rw c.from.ensures at c.turn.ensures)

pub returns : goal.returns
returns c = let run = serving_all _ _ _ c.loop-i-test.false c.loop-i.invariant in record { record_after = run.0; answers = run.1 }
