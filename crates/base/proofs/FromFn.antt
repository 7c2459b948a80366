-- What `array::from_fn` makes: each element is what the closure makes of its index. Assumes nothing.
use mathlib.Core.Path.{◌≡◌, sym, subst, ◌∙◌}
use Prim.Native.Nat.{ℕ, zero, suc, ◌+◌, ◌≤◌, ◌<◌}
use native.Mathlib.Omega.{arith}
use native.Mathlib.Decide.{ℕ_discrete}
use mathlib.Core.Bool.{cond}
use mathlib.Core.List.{List}
use lib.Dec.{ltb}
use lib.ListN.{length, get_or, replicate, length-replicate}
use lib.Seq.{ext_get_or}
use borrow.Author.Tests.{lt-ltb, le-ltb}
use denote.Param.Members.{Mut}
use Rattle.std.specs.Fn.{Called}
use Rattle.std.specs.Array.{IsFromFnResult, IsFromFnResultFrom}
use Rattle.base.specs.Fill.{fill}
use Rattle.base.proofs.Filled.{fill_at, fill_length, fill_over}

module _ {F B : Type 0} {g : Mut F (ℕ × Unit {0}) B} (R : ℕ → B → Type 0) (d : B) (f : F) (ys : List B) (leaves : (i : ℕ) (y : B) (q : F) → Called g f (i, tt) y q → (q ≡ f) × R i y) where
  made_from : (n i : ℕ) → IsFromFnResultFrom g f ys i n → (k : ℕ) → i ≤ k → k < i + n → R k (get_or ys k d)
  made_from zero i h k a b = absurd (omega arith)
  made_from (suc n) i h k a b =
      let told = leaves i h.1 h.0 h.3 in
      elim (ℕ_discrete k i) [
        | yes e ↦ subst (λ (m : ℕ). R m (get_or ys m d)) (sym e) (subst (λ y. R i y) (sym (h.2.1 d)) told.1)
        | no e ↦ made_from n (i + 1) (subst (λ q. IsFromFnResultFrom g q ys (i + 1) n) told.0 h.4) k (omega arith) (omega arith)
      ]

  -- element i and its index are in the relation R that each call of the closure keeps
  pub made_at : (n : ℕ) → IsFromFnResult g f ys n → (i : ℕ) → i < n → R i (get_or ys i d)
  made_at n h i l = made_from n 0 h.each i (omega arith) (omega arith)

-- the closure computes h
pub made_fill : {F B : Type 0} {g : Mut F (ℕ × Unit {0}) B} {f : F} {ys : List B} (h : ℕ → B) (d : B) (xs : List B) (n : ℕ) → length xs ≡ n → IsFromFnResult g f ys n
    → ((i : ℕ) (y : B) (q : F) → Called g f (i, tt) y q → (q ≡ f) × (y ≡ h i)) → ys ≡ fill h xs n
made_fill {f = f} {ys = ys} h d xs n e m k =
    ext_get_or d ys (fill h xs n) (m.long ∙ sym (fill_length h xs n ∙ e))
    (λ i l. let b : i < n = subst (λ (z : ℕ). i < z) m.long l in made_at (λ i y. y ≡ h i) d f ys k n m i b ∙ sym (fill_at h xs n i d (omega arith) b))

-- the closure computes h below n, and gives d from there on
pub made_front : {F B : Type 0} {g : Mut F (ℕ × Unit {0}) B} {f : F} {ys : List B} (h : ℕ → B) (d : B) (m n : ℕ) → n ≤ m → IsFromFnResult g f ys m
    → ((i : ℕ) (y : B) (q : F) → Called g f (i, tt) y q → (q ≡ f) × (y ≡ cond (ltb i n) (h i) d)) → ys ≡ fill h (replicate m d) n
made_front h d m n l r k =
    made_fill (λ i. cond (ltb i n) (h i) d) d (replicate m d) m (length-replicate m d) r k
    ∙ fill_over d (λ i. cond (ltb i n) (h i) d) h m n l (λ i p. rw (lt-ltb i n p)) (λ i p _. rw (le-ltb i n p))
