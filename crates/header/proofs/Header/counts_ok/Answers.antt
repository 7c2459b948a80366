-- The counts of all sections are tested.
use Rattle.std.proofs.Common.{rules, tests}
use Rattle.layout.specs.Header.{counts_ok}
use Rattle.layout.proofs.Sections.{all_tested}
use Rattle.header.proofs.Header.counts_ok.Goals as goal

pub returns : goal.returns
unfolding counts_ok
returns c = all_tested _ c.all.ensures.ran (cc) (λ x b q k. search (rules, tests))
