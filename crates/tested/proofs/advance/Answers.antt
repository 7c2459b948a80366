-- The work on the record is the call.
use Rattle.requests.proofs.Step.{passed_on}
use Rattle.tested.proofs.advance.Goals as goal

pub returns : goal.returns
returns c = passed_on c.args.tested c.call_at.ensures
