-- The test `.all(..)` over a range, over the front of a slice and over the pairs of two slices, and `.contains(..)` of such a front, in the words of
-- specs/Below: r is what the call returned. Assumes nothing.
use mathlib.Core.Path.{◌≡◌, refl, sym, ap, ap₂, ◌∙◌}
use Prim.Native.Nat.{ℕ, zero, suc, ◌+◌, ◌≤◌}
use native.Mathlib.Numerals.{add-one}
use native.Mathlib.Omega.{arith}
use mathlib.Core.Bool.{Bool, true, false, not, ◌&&◌, ◌||◌, and-true}
use mathlib.Core.List.{List, [], ◌∷◌, ◌++◌}
use lib.ListN.{length, get_or, take}
use denote.Param.Members.{Mut}
use denote.Ref.{Bor}
use Rattle.std.specs.Fn.{Called}
use Rattle.std.specs.Iterator.{YieldsThen}
use Rattle.std.specs.Iterator.Adapters.{zip_first, zip_second}
use Rattle.std.specs.List.{list_all, list_any, range_with_len, zip, FoldsTo}
use Rattle.std.specs.Option.{MatchOption}
use Rattle.std.specs.Slice.Iter.{iter_rest}
use Rattle.std.specs.declared.option.Option.{Option}
use Rattle.std.specs.declared.iter.Zip.{Zip}
use Rattle.std.specs.declared.ops.Range.{Range}
use Rattle.std.specs.declared.slice.Iter.{Iter}
use Rattle.std.proofs.iter.Yields.{fronts, nat_range_steps}
use Rattle.std.proofs.lemmas.Iterator.{zips, YieldsList-from_slice, YieldsList-from_range, YieldsList-from_zip}
use Rattle.std.proofs.lemmas.Iterator.Search.{all_from_yields_List}
use Rattle.std.proofs.lemmas.List.{take_all}
use Rattle.std.proofs.lemmas.List.Folds.{list_all_more, list_any_more, list_all-append}
use Rattle.std.proofs.lemmas.Slice.Zip.{length-zip, get_or-zip}
use Rattle.base.specs.Below.{all_below}
use Rattle.base.proofs.Below.{all_same}

not_or : (a b : Bool) → not (a || b) ≡ not a && not b
not_or true b = refl
not_or false b = refl

range_more : (a n b : ℕ) → a + n ≡ b → range_with_len a (suc n) ≡ range_with_len a n ++ b ∷ []
range_more a zero b e = ap (λ (m : ℕ). m ∷ []) (omega arith)
range_more a (suc n) b e = ap (λ (l : List ℕ). a ∷ l) (range_more (a + 1) n b (omega arith))

module _ (p : ℕ → Bool) where
  range_all : (n : ℕ) → list_all p (range_with_len 0 n) ≡ all_below p n
  unfolding all_below
  range_all zero = refl
  range_all (suc n) = ap (list_all p) (range_more 0 n n (omega arith)) ∙ list_all-append p _ (n ∷ []) ∙ ap₂ ◌&&◌ (range_all n) (and-true (p n))

module _ {A : Type 0} (p : A → Bool) (d : A) (xs : List A) where
  front_all : (n : ℕ) → n ≤ length xs → list_all p (take n xs) ≡ all_below (λ i. p (get_or xs i d)) n
  unfolding all_below
  front_all zero l = refl
  front_all (suc n) l = rw (← add-one) (list_all_more p xs n d (omega arith) ∙ ap (λ b. b && p (get_or xs n d)) (front_all n (omega arith)))

  -- `!xs[..n].contains(&x)`: p says which elements are x
  pub none_in_front : (n : ℕ) → n ≤ length xs → not (list_any p (take n xs)) ≡ all_below (λ i. not (p (get_or xs i d))) n
  unfolding all_below
  none_in_front zero l = refl
  none_in_front (suc n) l =
      rw (← add-one) (ap not (list_any_more p xs n d (omega arith)) ∙ not_or _ _ ∙ ap (λ b. b && not (p (get_or xs n d))) (none_in_front n (omega arith)))

-- What the clause `ran` of the call says: it took the items xs, and then o, at which it stopped.
abbrev pub Ran : {S A F : Type 0} → (S → Option A → S → Type 0) → Mut F (A × Unit {0}) Bool → Bool → Bool → S → S → F → Type 0
Ran {S} {A} {F} steps g go r s u f = (xs : List A) × (o : Option A) × (j : F) × YieldsThen steps s xs o u × FoldsTo (λ p x q. Called g p (x, tt) go q) f xs j
    × MatchOption o (r ≡ go) (λ x. (r ≡ not go) × ((h : F) × Called g j (x, tt) (not go) h))

-- The closure f computes p of what v shows of an item, and a call leaves f as it is.
abbrev pub Computes : {A B F : Type 0} → Mut F (A × Unit {0}) Bool → F → (A → B) → (B → Bool) → Type 0
Computes {A} {B} {F} g f v p = (x : A) (b : Bool) (q : F) → Called g f (x, tt) b q → (q ≡ f) × (b ≡ p (v x))

-- `(0..n).all(|i| ..)`
module _ {F : Type 0} {g : Mut F (ℕ × Unit {0}) Bool} {s u : Range ℕ} {f : F} {r : Bool} (p : ℕ → Bool) (n : ℕ) where
  pub all_in_range : Ran nat_range_steps g true r s u f → s ≡ record { start = 0; end = n } → Computes g f (λ x. x) p → r ≡ all_below p n
  all_in_range ran e k = all_from_yields_List p u f r ran (YieldsList-from_range 0 n n e (omega arith)) k ∙ range_all p n

-- `xs[..n].iter().all(|x| ..)`
module _ {A F : Type 0} {g : Mut F (Bor A × Unit {0}) Bool} {s u : Iter A} {f : F} {r : Bool} (p : A → Bool) (d : A) (xs : List A) (n : ℕ) where
  pub all_in_front : Ran fronts g true r s u f → iter_rest s ≡ take n xs → n ≤ length xs → Computes g f (λ x. x.now) p → r ≡ all_below (λ i. p (get_or xs i d)) n
  all_in_front ran e l k = all_from_yields_List p u f r ran (YieldsList-from_slice (take n xs) e) k ∙ front_all p d xs n l

-- `xs.iter().zip(ys).all(|(x, y)| ..)`, of two lists of n elements
module _ {A B F : Type 0} {g : Mut F ((Bor A × Bor B) × Unit {0}) Bool} {s : Zip (Iter A) (Iter B)} {f : F} {r : Bool} (u : Zip (Iter A) (Iter B)) (p : A → B → Bool) (d : A) (e : B) (xs : List A) (ys : List B) (n : ℕ) where
  pub all_in_pairs : Ran (zips fronts fronts) g true r s u f → iter_rest (zip_first s) ≡ xs → iter_rest (zip_second s) ≡ ys → length xs ≡ n → length ys ≡ n
      → Computes {B = A × B} g f (λ x. (x.0.now, x.1.now)) (λ q. p q.0 q.1) → r ≡ all_below (λ i. p (get_or xs i d) (get_or ys i e)) n
  all_in_pairs ran a b k l h =
      all_from_yields_List (λ q. p q.0 q.1) u f r ran (YieldsList-from_zip (YieldsList-from_slice xs a) (YieldsList-from_slice ys b)) h
      ∙ ap (list_all (λ q. p q.0 q.1)) (sym (take_all n (zip xs ys) (omega (arith, length-zip xs ys))))
      ∙ front_all (λ q. p q.0 q.1) (d, e) (zip xs ys) n (omega (arith, length-zip xs ys))
      ∙ all_same n _ _ (λ i m. ap (λ q. p q.0 q.1) (get_or-zip xs ys i (d, e) (omega arith) (omega arith)))
