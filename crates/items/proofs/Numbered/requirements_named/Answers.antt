-- Each task is asked.
use Rattle.std.proofs.Common.{rules}
use Rattle.base.proofs.All.{all_in_range}
use Rattle.plant.specs.Checks.{requirements_named}
use Rattle.items.proofs.Numbered.requirements_named.Goals as goal

pub returns : goal.returns
unfolding requirements_named
returns c = all_in_range _ _ c.all.ensures.ran (cc) (λ x b q k. search rules)
