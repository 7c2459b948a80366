-- An item that is not there: a right, and the first of three. Assumes nothing.
use mathlib.Core.Path.{◌≡◌, refl, sym, ap, ◌∙◌}
use Prim.Native.Nat.{ℕ}
use mathlib.Core.Bool.{Bool, true, false, not}
use mathlib.Core.List.{List, [], ◌∷◌, map}
use lib.ListN.{get_or, length}
use Rattle.std.specs.Prelude.{Option, None, Some, MatchOption, Result, Ok, Err}
use Rattle.std.specs.Bool.{then_some}
use Rattle.std.specs.Option.{option_or}
use Rattle.base.specs.Chain.{◌gives◌, first}
use Rattle.refusal.specs.declared.Refusal.{Refusal}
use Rattle.refusal.specs.Number.{number_of, answer_of}
use Rattle.calls.specs.Requests.{missing_item}
use lib.Dec.{leb}
use borrow.Author.Tests.{leb-true, leb-false, lt-leb, le-leb}
use native.Mathlib.Omega.{arith}
use Rattle.base.proofs.Logic.{split}
use Rattle.plant.specs.Right.{rights, valid_right}

-- what is no right
pub no_right : (r : ℕ) {x : Bool} → x ≡ valid_right r → not x ≡ leb rights r
no_right r e = ap not e ∙ split (leb r 2) (λ h. rw h (sym (lt-leb 3 r (omega (arith, leb-true r 2 h))))) (λ h. rw h (sym (le-leb 3 r (leb-false r 2 h))))

-- of three items the first that is missing
pub first_there : (l : List (Option Refusal)) → length l ≡ 3 → {A : Type 0} (a : A) (r : Result A Refusal)
    → MatchOption (option_or (option_or (get_or l 0 None) (get_or l 1 None)) (get_or l 2 None)) (r ≡ Ok a) (λ x. r ≡ Err x)
    → answer_of r ≡ first (map missing_item l)
first_there [] n a r e = absurd (omega (arith, n))
first_there (x ∷ []) n a r e = absurd (omega (arith, n))
first_there (x ∷ y ∷ []) n a r e = absurd (omega (arith, n))
first_there (x ∷ y ∷ z ∷ w ∷ l) n a r e = absurd (omega (arith, n))
first_there (Some x ∷ y ∷ z ∷ []) n a r e = ap answer_of e
first_there (None ∷ Some y ∷ z ∷ []) n a r e = ap answer_of e
first_there (None ∷ None ∷ Some z ∷ []) n a r e = ap answer_of e
first_there (None ∷ None ∷ None ∷ []) n a r e = ap answer_of e

-- three tests of items, each with its refusal
three_tested : (a b c : Bool) (x y z : Refusal)
    → first (map missing_item (then_some a x ∷ then_some b y ∷ then_some c z ∷ [])) ≡ first (a gives number_of x ∷ b gives number_of y ∷ c gives number_of z ∷ [])
three_tested true b c x y z = refl
three_tested false true c x y z = refl
three_tested false false true x y z = refl
three_tested false false false x y z = refl

pub three_items : (a b c : Bool) (x y z : Refusal) {o p q : Option Refusal} → o ≡ then_some a x → p ≡ then_some b y → q ≡ then_some c z
    → first (map missing_item (o ∷ p ∷ q ∷ [])) ≡ first (a gives number_of x ∷ b gives number_of y ∷ c gives number_of z ∷ [])
three_items a b c x y z e f g = rw (e, f, g) (three_tested a b c x y z)
