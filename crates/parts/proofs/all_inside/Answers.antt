-- All sections are tested.
use Rattle.std.proofs.Common.{rules, tests}
use Rattle.layout.specs.Header.{all_inside}
use Rattle.layout.proofs.Sections.{all_tested}
use Rattle.parts.proofs.all_inside.Goals as goal

pub returns : goal.returns
unfolding all_inside
returns c = all_tested _ c.all.ensures.ran (cc) (λ x b q k. search (rules, tests))
