-- How long the text of an outcome can be: a line's fields are numbers of few digits. Assumes nothing.
use Prim.Native.Nat.{ℕ, ◌+◌, ◌*◌, ◌≤◌, ◌<◌}
use mathlib.Core.Path.{◌≡◌}
use mathlib.Core.List.{List, [], ◌∷◌, ◌++◌}
use native.Mathlib.Decide.{ℕ_discrete}
use native.Mathlib.Omega.{arith}
use lib.Dec.{eqb}
use lib.ListN.{length, drop, get_or, length-append}
use lib.Seq.{get_or-drop}
use Rattle.base.proofs.Logic.{split}
use Rattle.base.proofs.Written.{collect_short}
use Rattle.layout.specs.Layout.{byte_at}
use Rattle.printing.specs.Decimal.{decimal}
use Rattle.printing.specs.Text.{codes, line, answer_line, answer_line_at, answer_lines, right_line, right_line_at, right_lines, held_line, held_lines, refusal_line, outcome_lines}
use Rattle.printing.proofs.Decimal.{decimal_short}
use Rattle.printing.proofs.Outcome.{refused_lines, accepted_lines}

-- every element is a byte
abbrev pub Bytes : List ℕ → Type 0
Bytes s = (i : ℕ) → get_or s i 0 < 256

byte_short : (b : ℕ) → b < 256 → length (decimal b) ≤ 3
byte_short b l = decimal_short 2 b (omega arith)

one_length : (w : List ℕ) → length (line (w ∷ [])) ≡ length w + 1
one_length w = length-append w (codes "\n")

more_length : (w v : List ℕ) (ws : List (List ℕ)) → length (line (w ∷ v ∷ ws)) ≡ length w + (1 + length (line (v ∷ ws)))
more_length w v ws = omega (arith, length-append w (codes " " ++ line (v ∷ ws)))

answer_short : (k a : ℕ) → k < 100000 → a < 256 → length (answer_line k a) ≤ 10
answer_short k a l m =
    omega (arith, more_length (decimal k) (decimal a) [], one_length (decimal a), decimal_short 4 k (omega arith), byte_short a m)

right_short : (s o r : ℕ) → s < 256 → o < 256 → r < 256 → length (right_line s o r) ≤ 12
right_short s o r a b c =
    omega
    (arith, more_length (decimal s) (decimal o) (decimal r ∷ []), more_length (decimal o) (decimal r) [], one_length (decimal r), byte_short s a, byte_short o b, byte_short r c)

held_short : (n : ℕ) → n < 256 → length (held_line n) ≤ 9
held_short n l = omega (arith, one_length (decimal n), byte_short n l)

pub refusal_short : (n : ℕ) → n < 256 → length (refusal_line n) ≤ 13
refusal_short n l = split (eqb n 34) (λ e. rw e (omega (arith, one_length (decimal n), byte_short n l))) (λ e. rw e (omega (arith, one_length (decimal n), byte_short n l)))

pub answers_short : (answers : List ℕ) (n : ℕ) → Bytes answers → n < 100000 → length (answer_lines answers n) ≤ n * 10
answers_short answers n b l = collect_short (answer_line_at answers) 10 n (λ i m. answer_short _ _ (omega arith) (b i))

rights_short : (rights : List ℕ) (n : ℕ) → Bytes rights → length (right_lines rights n) ≤ n * 12
rights_short rights n b =
    collect_short (right_line_at rights) 12 n (λ i m. right_short _ _ _ (b _) (b _) (b _))

bytes_drop : (s : List ℕ) (n : ℕ) → Bytes s → Bytes (drop n s)
bytes_drop s n b i = rw (get_or-drop n s i 0) (b (n + i))

-- A count is one byte: at most 255 rights.
pub held_lines_short : (held : List ℕ) → Bytes held → length (held_lines held) ≤ 3069
held_lines_short held b =
    let k = byte_at held 0 in
    omega
    (arith, length-append (held_line k) (right_lines (drop 1 held) k), held_short k (b 0), rights_short (drop 1 held) k (bytes_drop held 1 b), b 0)

pub outcome_short : (number n : ℕ) (results : List ℕ) → number < 256 → n < 100000 → Bytes results → length (outcome_lines number n results) ≤ n * 10 + 3069
outcome_short number n results l m b = elim (ℕ_discrete number 0) [
  | yes e ↦
      rw (accepted_lines number n results e)
      (omega (arith, length-append (answer_lines results n) (held_lines (drop n results)), answers_short results n b m, held_lines_short (drop n results) (bytes_drop results n b)))
  | no e ↦ rw (refused_lines number n results e) (omega (arith, refusal_short number l))
]
