-- Each call's work is what the rules say; a request of no kind answers 32.
use Rattle.calls.proofs.Steps.{plant_kept, unknown_does}
use Rattle.calls.proofs.Grants.{set_granted}
use Rattle.turns.proofs.Batch.turn.Goals as goal

pub invariant_of-self : goal.invariant_of-self
invariant_of-self c =
    let batch = c.args.self.now in
    let d = c.set_at.ensures in
    record {
      keeps = rw (← plant_kept d) (record { tables = batch.keeps.tables; grants = set_granted _ batch.keeps.grants _ _ _ _ d });
    }

pub returns-in-Err : goal.returns-in-Err
returns-in-Err c = rw (c.from.ensures, c.in-Err.ensures.0, c.in-Err.ensures.1) (unknown_does _)
