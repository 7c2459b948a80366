-- The first that is there decides.
use Rattle.std.proofs.Common.{arith}
use Rattle.calls.proofs.There.{first_there}
use Rattle.calls.proofs.check_present.Goals as goal

pub returns : goal.returns
returns c = first_there c.args.missing (omega arith) tt _ (rw (c.or-2.ensures, c.or.ensures) at c.map_or.ensures)
