-- The counts of all sections are tested.
use Rattle.std.proofs.Common.{rules, tests}
use Rattle.layout.proofs.Sections.{all_tested}
use Rattle.plant.specs.Checks.{counts_in}
use Rattle.checks.proofs.counts_in.Goals as goal

pub returns : goal.returns
unfolding counts_in
returns c = all_tested _ c.all.ensures.ran (cc) (λ x b q k. search (rules, tests))
