-- Each call's work is what the rules say; a request of no kind answers 32.
use Rattle.calls.proofs.Steps.{unknown_does}
use Rattle.single.proofs.call_at.Goals as goal

pub returns-in-Err : goal.returns-in-Err
returns-in-Err c = rw (c.from.ensures, c.in-Err.ensures.0, c.in-Err.ensures.1) (unknown_does _)
