-- The sections before this one are tested.
use Rattle.std.proofs.Common.{rules, tests, ◌∙◌, arith}
use Rattle.layout.proofs.Sections.{earlier_tested}
use Rattle.parts.proofs.apart_from_earlier.Goals as goal

pub returns : goal.returns
returns c = earlier_tested _ c.all.ensures.ran c.args.section (c.iter.ensures.rest ∙ grind arith) (λ x b q k. search (rules, tests))
