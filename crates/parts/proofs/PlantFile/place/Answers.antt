-- Check 5 holds, so the section ends within the file.
use Rattle.std.proofs.Common.{arith}
use Rattle.layout.specs.Section.{section_number}
use Rattle.layout.proofs.Header.{sections_inside}
use Rattle.layout.proofs.Sections.{number_below}
use Rattle.parts.proofs.PlantFile.place.Goals as goal

pub returns-clause-within : goal.returns-clause-within
returns-clause-within c = omega (arith, c.offset-begin.ensures.0, c.end-end.ensures, (sections_inside _ c.args.self.placed (section_number c.args.section) (number_below c.args.section)).1)
