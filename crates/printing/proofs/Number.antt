-- A number of at most five digits as text, place by place: a place that it does not reach has no digit. Assumes nothing.
use Prim.Native.Nat.{ℕ, ◌+◌, ◌*◌, ◌/◌, ◌≤◌, ◌<◌}
use mathlib.Core.Path.{◌≡◌, sym, ap, ◌∙◌}
use mathlib.Core.Bool.{cond}
use mathlib.Core.List.{List, [], ◌++◌}
use native.Mathlib.Nat.{div-eq_of_lt, div-div-eq-div-mul, mod-eq_of_lt}
use native.Mathlib.Decide.{dec_lt}
use native.Mathlib.Omega.{arith}
use lib.Dec.{eqb}
use lib.ListN.{length, length-append}
use borrow.Author.Tests.{ne_eqb}
use Rattle.base.specs.Overlay.{Wrote}
use Rattle.base.proofs.Written.{appended}
use Rattle.printing.specs.Decimal.{decimal, decimal_place}
use Rattle.printing.proofs.Decimal.{tenth_some, decimal_small, decimal_more}

-- what m puts in front of further digits: its text, and nothing where it is 0
abbrev leading : ℕ → List ℕ
leading m = cond (eqb m 0) [] (decimal m)

leading_is : (m : ℕ) → 0 < m → leading m ≡ decimal m
leading_is m h = rw (ne_eqb m 0 (omega arith))

leading_digit : (m : ℕ) → m < 10 → leading m ≡ decimal_place m
leading_digit m l = rw (mod-eq_of_lt l, ← (decimal_small m l))

leading_more : (m : ℕ) → leading m ≡ leading (m / 10) ++ decimal_place m
leading_more m = elim (dec_lt m 10) [
  | yes l ↦ rw (div-eq_of_lt l) (leading_digit m l)
  | no l ↦
      let h : 10 ≤ m = omega arith in
      rw (leading_is (m / 10) (tenth_some m h), ne_eqb m 0 (omega arith)) (decimal_more m h)
]

leading_place : (n k : ℕ) → leading (n / k) ≡ leading (n / (k * 10)) ++ decimal_place (n / k)
leading_place n k = leading_more (n / k) ∙ ap (λ (m : ℕ). leading m ++ decimal_place (n / k)) (div-div-eq-div-mul n k 10)

abbrev five_places : ℕ → List ℕ
five_places n = (((decimal_place (n / 10000) ++ decimal_place (n / 1000)) ++ decimal_place (n / 100)) ++ decimal_place (n / 10)) ++ decimal_place n

abbrev pub five_lengths : ℕ → ℕ
five_lengths n = length (decimal_place (n / 10000)) + length (decimal_place (n / 1000)) + length (decimal_place (n / 100)) + length (decimal_place (n / 10)) + length (decimal_place n)

module _ (n : ℕ) (h : 10 ≤ n) (l : n < 100000) where
  number_places : decimal n ≡ five_places n
  number_places =
      sym (leading_is n (omega arith)) ∙ leading_more n
      ∙ rw (leading_place n 10, leading_place n 100, leading_place n 1000, leading_place n 10000, div-eq_of_lt l)

  pub places_length : length (decimal n) ≡ five_lengths n
  places_length = rw number_places (simp length-append)

  -- the places written one behind the other
  pub wrote_places : {out out₁ out₂ out₃ out₄ out₅ : List ℕ} {at at₁ at₂ at₃ at₄ at₅ : ℕ} → at + length (decimal n) ≤ length out → Wrote (decimal_place (n / 10000)) out at out₁ at₁ → Wrote (decimal_place (n / 1000)) out₁ at₁ out₂ at₂ → Wrote (decimal_place (n / 100)) out₂ at₂ out₃ at₃ → Wrote (decimal_place (n / 10)) out₃ at₃ out₄ at₄ → Wrote (decimal_place n) out₄ at₄ out₅ at₅ → Wrote (decimal n) out at out₅ at₅
  wrote_places room a b c d e = rw number_places (let room' = rw number_places at room in search appended depth 12)
