-- Nothing is made, and the fresh monitor runs nothing.
use Rattle.plant.proofs.Zeros.{zeros}
use Rattle.rules.specs.Record.{fresh}
use Rattle.calls.proofs.Made.{none_made}
use Rattle.calls.proofs.Grants.{none_granted}
use Rattle.calls.proofs.Kept.new.Goals as goal

pub returns : goal.returns
unfolding fresh
returns c =
    let d = c.default.ensures in
    λ P l. record { tables = none_made P d.0 d.1.0; grants = rw (zeros d.1.1) (none_granted P.task_rights P.skids l) }
