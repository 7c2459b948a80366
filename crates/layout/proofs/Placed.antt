-- The section call: the two numbers of a section lie within the file and give the very part that the call returns. Assumes nothing.
use mathlib.Core.Path.{◌≡◌, ap, ap₂, ◌∙◌}
use Prim.Native.Nat.{ℕ, ◌+◌, ◌≤◌, ◌<◌, zero-le}
use mathlib.Core.List.{List}
use mathlib.Core.Bool.{false}
use lib.Dec.{eqb, ltb}
use lib.ListN.{length, take, drop}
use borrow.Author.Tests.{eqb-true, ltb-true, lt-ltb, le-ltb}
use Rattle.base.proofs.Logic.{split, and_true}
use Rattle.layout.specs.declared.Place.{Place}
use Rattle.layout.specs.Layout.{sections, offset, size}
use Rattle.layout.specs.Header.{header_refusal, has_section, section_of, no_place, section_place}
use Rattle.layout.proofs.Header.{sections_inside}

place_is : {place : Place} {b l : ℕ} → place.begin ≡ b → place.length ≡ l → place ≡ record { begin = b; length = l }
place_is p q = ap₂ (λ (b l : ℕ). record { begin = b; length = l }) p q

-- a place of two zeros, as `Place::default` makes it
pub place_empty : {place : Place} → (place.begin ≡ 0) × (place.length ≡ 0) → place ≡ no_place
place_empty h = place_is h.0 h.1

-- the part of the file that a place says
abbrev pub part_at : List ℕ → Place → List ℕ
part_at file place = take place.length (drop place.begin file)

module _ (file : List ℕ) (kind : ℕ) where
  pub section_placed : part_at file (section_place file kind) ≡ section_of file kind
  unfolding section_place section_of
  section_placed = split (has_section file kind) (λ h. rw h) (λ h. rw h)

  within : (section_place file kind).begin + (section_place file kind).length ≤ length file
  unfolding section_place
  within =
      split (has_section file kind)
      (λ h.
      let q = and_true (eqb (header_refusal file) 0) (ltb kind sections) h in
      rw h (sections_inside file (eqb-true _ _ q.0) kind (ltb-true _ _ q.1)).1)
      (λ h. rw h zero-le)

  -- r is the place that was found
  pub place_within : {r : Place} → r ≡ section_place file kind → r.begin + r.length ≤ length file
  place_within e = rw e within

  pub place_part : {r : Place} → r ≡ section_place file kind → part_at file r ≡ section_of file kind
  place_part e = ap (part_at file) e ∙ section_placed

  -- The three ways out. A refused file, whose number is k; no such section; and the section, which stands at a place r.
  pub place_refused : {k : ℕ} → k ≡ header_refusal file → eqb k 0 ≡ false → no_place ≡ section_place file kind
  unfolding section_place
  place_refused e n = rw (← e, n)

  module _ (accepted : 0 ≡ header_refusal file) where
    pub place_unknown : sections ≤ kind → no_place ≡ section_place file kind
    unfolding section_place
    place_unknown l = rw (← accepted, le-ltb kind sections l)

    pub place_known : {f : List ℕ} {r : Place} → f ≡ file → kind < sections → r.begin ≡ offset f kind → r.length ≡ size f kind → r ≡ section_place file kind
    unfolding section_place
    place_known same l p q = place_is p q ∙ rw (← accepted, lt-ltb kind sections l, same)
