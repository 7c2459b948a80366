-- `.find(..)` over a range, in the words of specs/Below: r is what the call returned, and `none` stands for none. Assumes nothing.
use mathlib.Core.Path.{◌≡◌, sym}
use Prim.Native.Nat.{ℕ, ◌≤◌, ◌<◌}
use native.Mathlib.Omega.{arith}
use mathlib.Core.Bool.{Bool, true, false, cond}
use mathlib.Core.List.{List}
use lib.Dec.{eqb}
use borrow.Author.Tests.{eq-eqb, ne_eqb}
use denote.Param.Members.{Mut}
use denote.Ref.{Bor}
use Rattle.std.specs.Bool.{⊤}
use Rattle.std.specs.Fn.{CalledAt}
use Rattle.std.specs.Iterator.{YieldsThen}
use Rattle.std.specs.List.{FoldsTo}
use Rattle.std.specs.Option.{MatchOption}
use Rattle.std.specs.declared.option.Option.{Option}
use Rattle.std.specs.declared.option.Option.TheVariants.{Some, None}
use Rattle.std.specs.declared.ops.Range.{Range}
use Rattle.std.proofs.iter.Yields.{nat_range_steps}
use Rattle.std.proofs.lemmas.Iterator.{first_from_Range}
use Rattle.base.specs.Below.{first_below}
use Rattle.base.proofs.Below.{any_none, first_none, first_at}

module _ (none : ℕ) (p : ℕ → Bool) (n : ℕ) (fits : n ≤ none) where
  -- the lowest index that passes, if one does
  abbrev pub lowest_if_any : Option ℕ
  lowest_if_any = cond (eqb (first_below none p n) none) None (Some (first_below none p n))

  lowest : (r : Option ℕ)
      → MatchOption r ((k : ℕ) → 0 ≤ k → k < n → p k ≡ false) (λ i. (0 ≤ i) × (i < n) × (p i ≡ true) × ((k : ℕ) → 0 ≤ k → k < i → p k ≡ false))
      → r ≡ lowest_if_any
  lowest None h = sym (rw (eq-eqb _ _ (first_none none n p (any_none n p (λ k l. h k (omega arith) l)))))
  lowest (Some i) h =
      let e : i ≡ first_below none p n = first_at none n p i (record { below = h.1; passes = h.2; first = λ k l. h.3 k (omega arith) l }) in
      rw (← e) (sym (rw (ne_eqb i none (λ z. omega (arith, h.1, fits, z)))))

  -- `(0..n).find(|&i| ..)`, where the closure f computes p, and a call leaves f as it is
  pub find_in_range : {F : Type 0} {g : Mut F (Bor ℕ × Unit {0}) Bool} (u : Range ℕ) (f : F) (r : Option ℕ)
      → (xs : List ℕ) × (j : F) × YieldsThen nat_range_steps (record { start = 0; end = n }) xs r u × FoldsTo (λ f x q. CalledAt g f x false q) f xs j × MatchOption r ⊤ (λ x. (h : F) × CalledAt g j x true h)
      → ((x : ℕ) (b : Bool) (q : F) → CalledAt g f x b q → (q ≡ f) × (b ≡ p x)) → r ≡ lowest_if_any
  find_in_range u f r ran k =
      lowest r (first_from_Range (record { start = 0; end = n }) u f r (λ x. p x ≡ true) (λ x. p x ≡ false) ran
      (λ x q c. sym (k x true q c).1) (λ x q c. let t = k x false q c in (t.0, sym t.1)))
