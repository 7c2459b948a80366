-- The number of each section, in the header's order, and which numbers have none.
use Rattle.std.specs.Prelude.{◌≡◌, ℕ, ◌≤◌, Result, MatchResult}
use Rattle.layout.specs.declared.Section.{Section}
use Rattle.layout.specs.declared.Section.TheVariants.{Lattices, Requirements, Groups, Tanks, Tasks, Skids}
use Rattle.layout.specs.declared.NoSuchSection.{NoSuchSection}
use Rattle.layout.specs.Layout.{lattices, requirements, groups, tanks, tasks, skids, sections}

abbrev pub section_number : Section → ℕ
section_number Lattices = lattices
section_number Requirements = requirements
section_number Groups = groups
section_number Tanks = tanks
section_number Tasks = tasks
section_number Skids = skids

-- the section of this number, or that no section has it
abbrev pub HasNumber : ℕ → Result Section NoSuchSection → Type 0
HasNumber number found = MatchResult found (λ section. section_number section ≡ number) (λ refused. (refused.0 ≡ number) × (sections ≤ number))
