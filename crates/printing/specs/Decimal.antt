-- A number as text: its digits in base ten, the most significant first, and what makes such a text right.
use Rattle.std.specs.Prelude.{ℕ, zero, suc, ◌+◌, ◌-◌, ◌*◌, ◌/◌, ◌%◌, ◌≤◌, ◌<◌, ◌≡◌, cond, List, [], ◌∷◌, ◌++◌, ltb, eqb, length, get_or}

-- the character of a digit: `0` has the code 48
abbrev pub digit : ℕ → ℕ
digit d = 48 + d

-- the digits of n, where `most` is more than their number
unfoldable pub digits_in : ℕ → ℕ → List ℕ
digits_in zero n = []
digits_in (suc most) n = cond (ltb n 10) (digit n ∷ []) (digits_in most (n / 10) ++ (digit (n % 10) ∷ []))

-- A number has no more digits than one more than itself.
unfoldable pub decimal : ℕ → List ℕ
decimal n = digits_in (suc n) n

-- The last digit of m, or nothing where m is 0: `decimal_place (n / 100)` is what the hundreds of n put into its text.
abbrev pub decimal_place : ℕ → List ℕ
decimal_place m = cond (eqb m 0) [] (digit (m % 10) ∷ [])

-- the number that a text of digits says, read from the left; `seen` is what the digits before it say
unfoldable pub read_on : ℕ → List ℕ → ℕ
read_on seen [] = seen
read_on seen (c ∷ text) = read_on (seen * 10 + (c - 48)) text

-- A text is the number n in base ten. proofs/Decimal has that `decimal n` is (`says`), and that no other text is (`says_only`).
pub record Says (n : ℕ) (text : List ℕ) : Type 0 where
  pub reads : read_on 0 text ≡ n
  pub digits : (i : ℕ) → i < length text → (48 ≤ get_or text i 0) × (get_or text i 0 ≤ 57)
  pub something : 0 < length text
  -- no zero leads a text of more than one digit
  pub lead : 1 < length text → 48 < get_or text 0 0
