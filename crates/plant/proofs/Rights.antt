-- The rights are those of 01, and a set of rights has a right where its bit is set. Assumes nothing.
use mathlib.Core.Path.{◌≡◌, refl, ap, ◌∙◌}
use mathlib.Core.Logic.{◌⊎◌, inl, inr, ⊎_elim}
use Prim.Native.Nat.{ℕ, zero, suc, ◌≤◌, ◌<◌}
use mathlib.Core.Bool.{true, false, not}
use native.Mathlib.Omega.{arith}
use lib.Bits.{and_zero_r}
use lib.Dec.{eqb}
use lib.ListN.{get_or}
use borrow.Author.Tests.{le-leb, lt-leb, leb-true, eqb-false, not-true}
use Rattle.base.specs.Bits.{bit}
use Rattle.base.proofs.Logic.{split}
use Rattle.base.proofs.Bits.{no_bits, and_power}
use Rattle.plant.specs.declared.Plant.{Plant}
use Rattle.plant.specs.Plant.{rights_of, names_right, needs}
use Rattle.plant.specs.Checks.{Numbers}
use Rattle.plant.specs.Right.{all_rights, has_right, RightsNumbered}

pub has_bit : (x r : ℕ) → r < 3 → has_right x r ≡ bit x r
has_bit x r l = rw (le-leb r 2 (omega arith)) (and_power x r)

pub has_none : (x r : ℕ) → 3 ≤ r → has_right x r ≡ false
has_none x r l = rw (lt-leb r 2 (omega arith)) (ap (λ (y : ℕ). not (eqb y 0)) (and_zero_r x))

-- a set of rights that is not empty has one of them
no_bit : (x : ℕ) → bit x 0 ≡ false → bit x 1 ≡ false → bit x 2 ≡ false → ((i : ℕ) → bit x i ≡ true → i < 3) → (i : ℕ) → bit x i ≡ false
no_bit x a b c k zero = a
no_bit x a b c k (suc zero) = b
no_bit x a b c k (suc (suc zero)) = c
no_bit x a b c k (suc (suc (suc i))) = split (bit x (suc (suc (suc i)))) (λ e. absurd (omega (arith, k (suc (suc (suc i))) e))) (λ e. e)

pub needs_names : (p : Plant) → Numbers p → (t g : ℕ) → t < p.tasks → g < 8 → needs p t g ≡ true → (r : ℕ) × (r < 3) × (names_right p t r g ≡ true)
needs_names p N t g l m n =
    let x = rights_of p t g in
    split (bit x 0) (λ a. (0, omega arith, has_bit x 0 (omega arith) ∙ a))
    (λ a. split (bit x 1) (λ b. (1, omega arith, has_bit x 1 (omega arith) ∙ b))
    (λ b. split (bit x 2) (λ c. (2, omega arith, has_bit x 2 (omega arith) ∙ c))
    (λ c. absurd (eqb-false x 0 (not-true _ n) (no_bits x (no_bit x a b c (λ i e. N.rights_known t g i l m e)))))))

-- the rights in their order are their numbers
pub number_at : (i : ℕ) → i < 3 → get_or all_rights i 0 ≡ i
number_at zero l = refl
number_at (suc zero) l = refl
number_at (suc (suc zero)) l = refl
number_at (suc (suc (suc i))) l = absurd (omega arith)

pub number_rises : (i j : ℕ) → i < j → j < 3 → get_or all_rights i 0 < get_or all_rights j 0
number_rises i j l m = omega (arith, number_at i (omega arith), number_at j m)

pub rights_numbered : RightsNumbered
rights_numbered = record {
  draw_is = refl;
  return_is = refl;
  sample_is = refl;
  no_others = λ r. (λ e. one_of r (leb-true r 2 e), ⊎_elim (λ e. rw e) (⊎_elim (λ e. rw e) (λ e. rw e)));
  draw_worth = refl;
  return_worth = refl;
  sample_worth = refl;
  named = has_bit;
  none_named = has_none;
}
  where
    one_of : (r : ℕ) → r ≤ 2 → (r ≡ 0) ⊎ ((r ≡ 1) ⊎ (r ≡ 2))
    one_of zero l = inl refl
    one_of (suc zero) l = inr (inl refl)
    one_of (suc (suc zero)) l = inr (inr refl)
    one_of (suc (suc (suc r))) l = absurd (omega arith)
