-- Each requirement is asked.
use Rattle.std.proofs.Common.{rules}
use Rattle.base.proofs.All.{all_in_range}
use Rattle.stored.proofs.Stored.row_ok.Goals as goal

pub returns : goal.returns
returns c = all_in_range _ _ c.all.ensures.ran (cc) (λ x b q k. search rules)
