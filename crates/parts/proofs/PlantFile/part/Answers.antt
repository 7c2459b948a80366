-- Checks 1 to 6 hold, so the part lies within the file and has the section's records, which are no longer than a file.
use Rattle.std.proofs.Common.{rules, ◌∙◌}
use Rattle.layout.specs.Section.{section_number}
use Rattle.layout.proofs.Header.{counts_in_range}
use Rattle.layout.proofs.Parts.{part_records, records_fit}
use Rattle.layout.proofs.Sections.{number_below}
use Rattle.parts.proofs.PlantFile.part.Goals as goal

pub invariant_of-result : goal.invariant_of-result
invariant_of-result c =
    let k = section_number c.args.section in
    let l = number_below c.args.section in
    let h = part_records _ c.args.self.placed k l (search rules) (c.from.ensures ∙ c.count.ensures) in
    record { there = rw c.width_of.ensures.0 h.there; within_limit = rw c.width_of.ensures.0 (records_fit h l) }

pub returns-clause-few : goal.returns-clause-few
returns-clause-few c = rw (c.from.ensures ∙ c.count.ensures) (counts_in_range _ c.args.self.placed (section_number c.args.section) (number_below c.args.section)).1
