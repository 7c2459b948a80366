-- The groups of a set, one after the other, in whatever order: one whose level is unset ends the walk with 27; one without a tank makes the number
-- 28 and the next is looked at all the same. Assumes nothing.
use mathlib.Core.Path.{◌≡◌, refl, sym, ap, ◌∙◌}
use mathlib.Core.Logic.{◌≢◌}
use Prim.Native.Nat.{ℕ, ◌^◌, ◌<◌}
use native.Mathlib.Omega.{arith}
use mathlib.Core.Bool.{Bool, true, false, cond, not, ◌&&◌, and-false, and-not_self}
use mathlib.Core.Bool as bool
use mathlib.Core.List.{List, [], ◌∷◌}
use lib.Count.{count_trailing_zeros}
use lib.Dec.{eqb}
use lib.ListN.{length, get_or, set, replicate, length-replicate, get_or-replicate, length-set}
use lib.Seq.{get_or-set_same, get_or-set_other, set-get_or, ext_get_or}
use borrow.Author.Tests.{eqb-true, eqb-false, eq-eqb}
use Rattle.std.specs.Prelude.{Option, Some, None, is_none, unwrap_or, Result, Ok, Err, IfOk}
use Rattle.base.specs.Below.{any_below}
use Rattle.base.specs.Bits.{bit}
use Rattle.base.specs.Chain.{◌gives◌, first}
use Rattle.base.proofs.Logic.{split, true_false, and_both}
use Rattle.base.proofs.Below.{any_yes, any_none, any_same}
use Rattle.base.proofs.Bits.{zero_bit}
use Rattle.base.proofs.Shared.{within_lt}
use Rattle.base.proofs.Members.{lowest_in, part_left, without_less}
use Rattle.base.proofs.Filled.{fill_at, fill_length}
use Rattle.refusal.specs.declared.Refusal.{Refusal}
use Rattle.refusal.specs.declared.Refusal.TheVariants.{LevelNotSet, NoTankAtOrUnder}
use Rattle.refusal.specs.Number.{answer_of}
use Rattle.sets.specs.Members.{TakenFrom}
use Rattle.calls.specs.Work.{wish_in, found_in, pick_in, row_in, GroupDone, RowDone}

-- a is that a level is unset, b that there is no tank
abbrev number_of : Bool → Bool → ℕ
number_of a b = first (a gives 27 ∷ b gives 28 ∷ [])

is_27 : (a b : Bool) → number_of a b ≡ 27 → a ≡ true
is_27 true b e = refl
is_27 false true e = absurd (omega (arith, e))
is_27 false false e = absurd (omega (arith, e))

not_27 : (a b : Bool) → number_of a b ≢ 27 → a ≡ false
not_27 true b h = absurd (h refl)
not_27 false b h = refl

is_28 : (a b : Bool) → number_of a b ≡ 28 → b ≡ true
is_28 true b e = absurd (omega (arith, e))
is_28 false true e = refl
is_28 false false e = absurd (omega (arith, e))

not_28 : (a b : Bool) → a ≡ false → number_of a b ≢ 28 → b ≡ false
not_28 true b z h = cc
not_28 false true z h = absurd (h refl)
not_28 false false z h = refl

-- a group of the set is seen once it is not in the rest
abbrev pub seen : ℕ → ℕ → ℕ → Bool
seen need rest g = bit need g && not (bit rest g)

-- p says of a group that its level is unset, q that it has no tank, and `tank` which it has
module _ (p q : ℕ → Bool) (tank : ℕ → ℕ) where
  -- what is found at one group
  pub record OneDone (g : ℕ) (row : List ℕ) (number : ℕ) (row' : List ℕ) : Type 0 where
    pub answers : number ≡ number_of (p g) (q g)
    pub chooses : row' ≡ cond (p g) row (set row g (tank g))

  -- what is found over the set
  pub record SetDone (need number : ℕ) (row : List ℕ) : Type 0 where
    pub answers : number ≡ number_of (any_below (λ g. bit need g && p g) 8) (any_below (λ g. bit need g && q g) 8)
    pub chooses : number ≡ 0 → (g : ℕ) → g < 8 → get_or row g 0 ≡ cond (bit need g) (tank g) 255

  -- what the loop knows when `rest` is left of the set
  pub record RowSoFar (need rest number : ℕ) (row : List ℕ) : Type 0 where
    pub part : (g : ℕ) → bit rest g ≡ true → bit need g ≡ true
    pub all_set : (g : ℕ) → seen need rest g ≡ true → p g ≡ false
    pub answers : number ≡ cond (any_below (λ g. seen need rest g && q g) 8) 28 0
    pub size : length row ≡ 8
    pub chooses : (g : ℕ) → g < 8 → get_or row g 0 ≡ cond (seen need rest g) (tank g) 255

  pub none_yet : (need : ℕ) {row : List ℕ} → row ≡ replicate 8 255 → RowSoFar need need 0 row
  none_yet need e = record {
    part = λ g h. h;
    all_set = λ g h. absurd (let z : ◌≡◌ {A = Bool} true false = sym h ∙ and-not_self (bit need g) in true_false z);
    answers = sym (rw (any_none 8 (λ g. seen need need g && q g) (λ g l. rw (and-not_self (bit need g)))));
    size = rw e (length-replicate {A = ℕ} 8 255);
    chooses = λ g l. rw (e, and-not_self (bit need g)) (get_or-replicate {A = ℕ} 8 g 255 0 l);
  }

-- the groups of a set are below eight
abbrev pub Eight : ℕ → Type 0
Eight need = (g : ℕ) → bit need g ≡ true → g < 8

small : (x : ℕ) → Eight x → x < 2 ^ 16
small x e =
    let b : x < 256 = within_lt 8 x (λ i h. split (bit x i) (λ y. absurd (let l = e i y in omega (arith, l))) (λ y. y)) in
    omega (arith, b)

-- the lowest group of a set that is not empty
pub next_group : (rest : ℕ) → Eight rest → rest ≢ 0 → (count_trailing_zeros 16 rest < 8) × (bit rest (count_trailing_zeros 16 rest) ≡ true)
next_group rest e n =
    let l = lowest_in 16 rest (omega (arith, n)) (small rest e) in
    (e (count_trailing_zeros 16 rest) l.1, l.1)

-- a set without one of its groups is a smaller number
pub goes_down : (rest left g : ℕ) → Eight rest → bit rest g ≡ true → ((j : ℕ) → bit left j ≡ bit rest j && not (eqb g j)) → left < rest
goes_down rest left g e h w = without_less 16 rest left g (small left (λ j b. e j (part_left rest left g w j b))) h w

module _ {p q : ℕ → Bool} {tank : ℕ → ℕ} {need rest number : ℕ} {row : List ℕ} (v : RowSoFar p q tank need rest number row) where
  pub all_seen : rest ≡ 0 → SetDone p q tank need number row
  all_seen z =
      let same : (g : ℕ) → seen need rest g ≡ bit need g = λ g. rw (z, zero_bit g) (bool.and-true (bit need g)) in
      record {
        answers = v.answers ∙ rw (
          any_same 8 (λ g. seen need rest g && q g) (λ g. bit need g && q g) (λ g l. rw (same g)),
          any_none 8 (λ g. bit need g && p g) (λ g l. split (bit need g) (λ b. rw (b, v.all_set g (same g ∙ b))) (λ b. rw b)),
        );
        chooses = λ y g l. v.chooses g l ∙ rw (same g);
      }

  -- n is the number of group g by itself, which is in the rest, and `left` the rest without it
  module _ (g left : ℕ) {n : ℕ} {row' : List ℕ} (l : g < 8) (h : bit rest g ≡ true) (w : (j : ℕ) → bit left j ≡ bit rest j && not (eqb g j))
      (d : OneDone p q tank g row n row') where
    pub ends_27 : n ≡ 27 → SetDone p q tank need n row'
    ends_27 e = record {
      answers = e ∙ sym (rw (any_yes 8 (λ g. bit need g && p g) g l (and_both _ _ (v.part g h) (is_27 (p g) (q g) (sym d.answers ∙ e)))));
      chooses = λ z. absurd (omega (arith, z, e));
    }

    -- group g is seen now, and the others as before
    seen_own : seen need left g ≡ true
    seen_own = rw (w g, h, v.part g h, eq-eqb g g refl)

    seen_other : (j : ℕ) → eqb g j ≡ false → seen need left j ≡ seen need rest j
    seen_other j z = rw (w j, z, bool.and-true (bit rest j))

    module _ (e : n ≢ 27) where
      is_set : p g ≡ false
      is_set = not_27 (p g) (q g) (λ z. e (d.answers ∙ z))

      placed : row' ≡ set row g (tank g)
      placed = d.chooses ∙ rw is_set

      -- the loop goes on, with a number that says whether a group seen so far lacks a tank
      go_on : {number' : ℕ} → number' ≡ cond (any_below (λ j. seen need left j && q j) 8) 28 0 → RowSoFar p q tank need left number' row'
      go_on a = record {
        part = λ j b. v.part j (part_left rest left g w j b);
        all_set = λ j b. split (eqb g j)
            (λ z. rw (← eqb-true g j z) is_set)
            (λ z. v.all_set j (sym (seen_other j z) ∙ b));
        answers = a;
        size = rw placed (simp length-set v.size);
        chooses = λ j m. split (eqb g j)
            (λ z. rw (placed, ← eqb-true g j z, seen_own) (get_or-set_same row g (tank g) 0 (omega (arith, l, v.size))))
            (λ z. rw (placed, seen_other j z) (get_or-set_other row g j (tank g) 0 (λ e. eqb-false g j z (sym e)) ∙ v.chooses j m));
      }

      pub becomes_28 : {number' : ℕ} → n ≡ 28 → number' ≡ 28 → RowSoFar p q tank need left number' row'
      becomes_28 y a = go_on (a ∙ sym (rw (any_yes 8 (λ j. seen need left j && q j) g l (and_both _ _ seen_own (is_28 (p g) (q g) (sym d.answers ∙ y))))))

      pub stays : {number' : ℕ} → n ≢ 28 → number' ≡ number → RowSoFar p q tank need left number' row'
      stays y a =
          let own : q g ≡ false = not_28 (p g) (q g) is_set (λ z. y (d.answers ∙ z)) in
          go_on (a ∙ v.answers ∙ ap (λ b. cond b 28 0) (any_same 8 (λ j. seen need rest j && q j) (λ j. seen need left j && q j)
          (λ j m. split (eqb g j)
          (λ z. rw (← eqb-true g j z, own) (and-false (seen need rest g) ∙ sym (and-false (seen need left g))))
          (λ z. rw (seen_other j z)))))

-- what is looked up in arrays: a level that is unset, and a tank, if there is one
module _ (found : ℕ → ℕ → Option ℕ) (requirement levels : List ℕ) (s t : ℕ) where
  abbrev pub unset_in : ℕ → Bool
  unset_in g = eqb (wish_in requirement levels s t g) 255

  abbrev pub none_in : ℕ → Bool
  none_in g = is_none (found_in found requirement levels s t g)

  abbrev pub tank_in : ℕ → ℕ
  tank_in g = unwrap_or (found_in found requirement levels s t g) 255

  -- the loop keeps whether a group seen so far lacks a tank, in place of the number
  pub record FoundSoFar (need rest : ℕ) (lacking : Bool) (row : List ℕ) : Type 0 where
    pub so_far : RowSoFar unset_in none_in tank_in need rest (cond lacking 28 0) row

  pub none_found : (need : ℕ) → FoundSoFar need need false (replicate 8 255)
  none_found need = record { so_far = none_yet unset_in none_in tank_in need refl }

  pub one_done : {g : ℕ} {row : List ℕ} {n : ℕ} {row' : List ℕ} → GroupDone found requirement levels s t g row n row' → OneDone unset_in none_in tank_in g row n row'
  one_done d = record { answers = d.answers; chooses = d.chooses }

  -- the row of the set: a list of eight is what stands at its places
  pub row_done : (need : ℕ) (outcome : Result (List ℕ) Refusal) {row : List ℕ} → IfOk outcome (λ r. (r ≡ row) × (length row ≡ 8)) → SetDone unset_in none_in tank_in need (answer_of outcome) row
      → RowDone found requirement levels s t (bit need) 8 outcome
  row_done need (Err r) e d = record { answers = d.answers; chooses = tt }
  row_done need (Ok r) {row} e d = record {
    answers = d.answers;
    chooses = e.0 ∙ ext_get_or 0 row (row_in found requirement levels s t (bit need) 8)
        (e.1 ∙ sym (fill_length _ (replicate 8 255) 8 ∙ length-replicate {A = ℕ} 8 255))
        (λ g l.
        let m : g < 8 = omega (arith, l, e.1) in
        d.chooses refl g m ∙ sym (fill_at (pick_in found requirement levels s t (bit need)) (replicate 8 255) 8 g 0 (omega (arith, length-replicate {A = ℕ} 8 255)) m));
  }

module _ {found : ℕ → ℕ → Option ℕ} {requirement levels : List ℕ} {s t need rest : ℕ} {lacking : Bool} {row : List ℕ} (v : FoundSoFar found requirement levels s t need rest lacking row) where
  -- group g is taken from the rest, and `left` is the rest without it
  module _ {g left : ℕ} (l : g < 8) (T : TakenFrom rest g left) where
    pub ends_unset : unset_in found requirement levels s t g ≡ true → RowDone found requirement levels s t (bit need) 8 (Err LevelNotSet)
    ends_unset e =
        let d : GroupDone found requirement levels s t g row 27 row = record { answers = rw e; chooses = rw e } in
        record { answers = (ends_27 v.so_far g left l T.was_in T.leaves (one_done found requirement levels s t d) refl).answers; chooses = tt }

    module _ (e : unset_in found requirement levels s t g ≡ false) where
      pub tank_found : {k : ℕ} → found_in found requirement levels s t g ≡ Some k → FoundSoFar found requirement levels s t need left lacking (set row g k)
      tank_found {k} f =
          let d : GroupDone found requirement levels s t g row 0 (set row g k) = record { answers = rw (e, f); chooses = rw (e, f) } in
          record { so_far = stays v.so_far g left l T.was_in T.leaves (one_done found requirement levels s t d) (λ z. omega (arith, z)) (λ z. omega (arith, z)) refl }

      -- the row has 255 there already
      pub tank_lacking : found_in found requirement levels s t g ≡ None → FoundSoFar found requirement levels s t need left true row
      tank_lacking f =
          let has : get_or row g 0 ≡ 255 = v.so_far.chooses g l ∙ rw (T.was_in, and-false (bit need g)) in
          let d : GroupDone found requirement levels s t g row 28 row = record { answers = rw (e, f); chooses = rw (e, f) (sym (set-get_or row g 0) ∙ ap (set row g) has) } in
          record { so_far = becomes_28 v.so_far g left l T.was_in T.leaves (one_done found requirement levels s t d) (λ z. omega (arith, z)) refl refl }

  -- all are seen
  module _ (z : rest ≡ 0) where
    pub some_lack : lacking ≡ true → RowDone found requirement levels s t (bit need) 8 (Err NoTankAtOrUnder)
    some_lack e = row_done found requirement levels s t need (Err NoTankAtOrUnder) {row = row} tt (rw e at (all_seen v.so_far z))

    pub all_found : lacking ≡ false → RowDone found requirement levels s t (bit need) 8 (Ok row)
    all_found e = row_done found requirement levels s t need (Ok row) {row = row} (refl, v.so_far.size) (rw e at (all_seen v.so_far z))
