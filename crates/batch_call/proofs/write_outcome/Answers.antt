-- The answers, and behind them the list of rights.
use Rattle.std.proofs.Math.ListN.{length-map}
use Rattle.outcome.proofs.Outcome.{rights_known, outcome_out}
use Rattle.batch_call.proofs.write_outcome.Goals as goal

pub write_held-requires-clause-known : goal.write_held-requires-clause-known
write_held-requires-clause-known c = rights_known _ c.args.checked.passes_checks _ c.serve-m.ensures.record_after

pub returns : goal.returns
returns c =
    let e = c.serve-m.ensures in
    outcome_out _ c.args.checked.passes_checks _ e.record_after _ (length-map _ _) c.requires e.answers c.write_held.ensures
