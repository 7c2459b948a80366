-- The flat lists: where entries stand, and what `fill_from` leaves. Assumes nothing.
use mathlib.Core.Path.{◌≡◌, refl, ◌∙◌}
use mathlib.Core.Logic.{◌≢◌}
use Prim.Native.Nat.{ℕ, zero, suc, ◌+◌, ◌≤◌, ◌<◌}
use native.Mathlib.Omega.{arith}
use native.Mathlib.Decide.{ℕ_discrete}
use mathlib.Core.List.{List}
use lib.ListN.{length, get_or, length-set}
use lib.Seq.{get_or-set_same, get_or-set_other}
use Rattle.rules.specs.Record.{level_at, fill_from}

pub level_at_inj : (s t d s' t' d' : ℕ) → t < 16 → t' < 16 → d < 8 → d' < 8 → level_at s t d ≡ level_at s' t' d' → (s ≡ s') × (t ≡ t') × (d ≡ d')
level_at_inj s t d s' t' d' a b c e h = omega arith

pub length_fill_from : (xs : List ℕ) (b : ℕ) (f : ℕ → ℕ) (n : ℕ) → length (fill_from xs b f n) ≡ length xs
unfolding fill_from
length_fill_from xs b f zero = refl
length_fill_from xs b f (suc n) = simp length-set (length_fill_from xs b f n)

pub fill_from_out : (xs : List ℕ) (b : ℕ) (f : ℕ → ℕ) (n i : ℕ) → ((k : ℕ) → k < n → i ≢ b + k) → get_or (fill_from xs b f n) i 0 ≡ get_or xs i 0
unfolding fill_from
fill_from_out xs b f zero i h = refl
fill_from_out xs b f (suc n) i h = get_or-set_other (fill_from xs b f n) (b + n) i (f n) 0 (h n (omega arith)) ∙ fill_from_out xs b f n i (λ k l. h k (omega arith))

pub fill_from_in : (xs : List ℕ) (b : ℕ) (f : ℕ → ℕ) (n k : ℕ) → b + n ≤ length xs → k < n → get_or (fill_from xs b f n) (b + k) 0 ≡ f k
unfolding fill_from
fill_from_in xs b f zero k l h = absurd (omega arith)
fill_from_in xs b f (suc n) k l h =
    elim (ℕ_discrete k n) [
      | yes e ↦ rw e (get_or-set_same (fill_from xs b f n) (b + n) (f n) 0 (rw length_fill_from (omega arith)))
      | no e ↦ get_or-set_other (fill_from xs b f n) (b + n) (b + k) (f n) 0 (omega arith) ∙ fill_from_in xs b f n k (omega arith) (omega arith)
    ]
