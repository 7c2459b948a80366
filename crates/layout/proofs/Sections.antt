-- Each section has a number below 6, and what tests the sections, or those before one, tests their numbers. Assumes nothing.
use mathlib.Core.Path.{◌≡◌, refl, ◌∙◌}
use Prim.Native.Nat.{ℕ, ◌<◌}
use mathlib.Core.Bool.{Bool, true, and-true, and_assoc}
use mathlib.Core.List.{List, [], ◌∷◌}
use native.Mathlib.Omega.{arith}
use lib.ListN.{take}
use denote.Param.Members.{Mut}
use denote.Ref.{Bor}
use Rattle.std.specs.List.{list_all}
use Rattle.std.proofs.Common.{Iter}
use Rattle.std.specs.Slice.Iter.{iter_rest}
use Rattle.std.proofs.iter.Yields.{fronts}
use Rattle.std.proofs.lemmas.Iterator.{YieldsList-from_slice}
use Rattle.std.proofs.lemmas.Iterator.Search.{all_from_yields_List}
use Rattle.base.specs.Below.{all_below}
use Rattle.base.proofs.All.{Ran, Computes}
use Rattle.layout.specs.declared.Section.{Section}
use Rattle.layout.specs.declared.Section.TheVariants.{Lattices, Requirements, Groups, Tanks, Tasks, Skids}
use Rattle.layout.specs.Layout.{sections}
use Rattle.layout.specs.Section.{section_number}

pub number_below : (section : Section) → section_number section < sections
number_below Lattices = omega arith
number_below Requirements = omega arith
number_below Groups = omega arith
number_below Tanks = omega arith
number_below Tasks = omega arith
number_below Skids = omega arith

abbrev pub every : List Section
every = Lattices ∷ Requirements ∷ Groups ∷ Tanks ∷ Tasks ∷ Skids ∷ []

module _ (p : ℕ → Bool) where
  all_sections : list_all (λ section. p (section_number section)) every ≡ all_below p sections
  unfolding all_below
  all_sections = simp (and_assoc, and-true)

  all_earlier : (section : Section) → list_all (λ earlier. p (section_number earlier)) (take (section_number section) every) ≡ all_below p (section_number section)
  unfolding all_below
  all_earlier Lattices = refl
  all_earlier Requirements = simp and-true
  all_earlier Groups = simp and-true
  all_earlier Tanks = simp (and_assoc, and-true)
  all_earlier Tasks = simp (and_assoc, and-true)
  all_earlier Skids = simp (and_assoc, and-true)

  -- The test of each section, or of each before one: r is what the call returned.
  module _ {F : Type 0} {g : Mut F (Bor Section × Unit {0}) Bool} {s u : Iter Section} {f : F} {r : Bool} (ran : Ran fronts g true r s u f) where
    -- `Section::ALL.iter().all(..)`
    pub all_tested : iter_rest s ≡ every → Computes g f (λ x. section_number x.now) p → r ≡ all_below p sections
    all_tested e k = all_from_yields_List (λ section. p (section_number section)) u f r ran (YieldsList-from_slice every e) k ∙ all_sections

    -- `Section::ALL[..usize::from(section)].iter().all(..)`
    pub earlier_tested : (section : Section) → iter_rest s ≡ take (section_number section) every → Computes g f (λ x. section_number x.now) p → r ≡ all_below p (section_number section)
    earlier_tested section e k = all_from_yields_List (λ earlier. p (section_number earlier)) u f r ran (YieldsList-from_slice _ e) k ∙ all_earlier section
