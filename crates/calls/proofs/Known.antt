-- A stored task or level that is not 255 can be looked up, and what it is as an option. Assumes nothing.
use mathlib.Core.Path.{◌≡◌, refl, sym}
use Prim.Native.Nat.{ℕ, ◌<◌}
use mathlib.Core.Bool.{Bool, true, false, cond, ◌||◌}
use lib.Dec.{eqb, ltb}
use borrow.Author.Tests.{eqb-true, ltb-true, ne_eqb}
use Rattle.std.specs.Prelude.{Option, Some, None, is_none, unwrap_or}
use Rattle.base.proofs.Logic.{split, or_cases}
use Rattle.choice.specs.Choice.{if_set}

pub known : (x bound : ℕ) → eqb x 255 || ltb x bound ≡ true → (x ≡ 255 → ⊥) → x < bound
known x bound e n = ltb-true x bound (or_cases (eqb x 255) (ltb x bound) e (ne_eqb x 255 n))

some_if : (b : Bool) (x : ℕ) {v : ℕ} → ◌≡◌ {A = Option ℕ} (Some v) (cond b None (Some x)) → (b ≡ false) × (v ≡ x)
some_if true x e = cc
some_if false x e = (refl, cc)

none_if : (b : Bool) (x : ℕ) → ◌≡◌ {A = Option ℕ} None (cond b None (Some x)) → b ≡ true
none_if true x e = refl
none_if false x e = cc

pub is_set : (x : ℕ) {v : ℕ} → Some v ≡ if_set x → (eqb x 255 ≡ false) × (v ≡ x)
is_set x = some_if (eqb x 255) x

pub is_unset : (x : ℕ) → None ≡ if_set x → eqb x 255 ≡ true
is_unset x = none_if (eqb x 255) x

pub none_set : (x : ℕ) → is_none (if_set x) ≡ eqb x 255
none_set x = split (eqb x 255) (λ e. rw e) (λ e. rw e)

pub byte_set : (x : ℕ) → unwrap_or (if_set x) 255 ≡ x
byte_set x = split (eqb x 255) (λ e. rw e (sym (eqb-true x 255 e))) (λ e. rw e)
