-- Before request i: the record and the answers so far are the run's.
use Rattle.rules.specs.Record.{fresh}
use Rattle.calls.proofs.Served.{Serving}
use Rattle.batch.proofs.serve.Given as goal

abbrev pub invariant-loop-i : goal.invariant-loop-i
invariant-loop-i l = Serving (fresh l.fn.checked.plant) l.requests l.initial.out l.out l.batch.tested.monitor l.i
