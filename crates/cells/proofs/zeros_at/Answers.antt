-- The byte of each record is tested.
use Rattle.std.proofs.Common.{rules, tests}
use Rattle.base.proofs.All.{all_in_range}
use Rattle.layout.specs.Layout.{zeros_at}
use Rattle.cells.proofs.zeros_at.Goals as goal

pub returns : goal.returns
unfolding zeros_at
returns c = all_in_range _ _ c.all.ensures.ran (cc) (λ x b q k. search (rules, tests))
