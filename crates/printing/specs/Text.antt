-- What the program prints, as bytes: words, lines, and the lines of a batch's outcome.
use Rattle.std.specs.Prelude.{ℕ, ◌+◌, ◌*◌, cond, List, [], ◌∷◌, ◌++◌, eqb, drop}
use Prim.Native.String.{String}
use Prim.Native.Char.{code}
use Rattle.base.specs.Collect.{collect}
use Rattle.layout.specs.Layout.{byte_at}
use Rattle.printing.specs.Decimal.{decimal}

-- a quoted text as bytes, the code of each character
abbrev pub codes : String → List ℕ
codes String.[] = []
codes (String.◌∷◌ c s) = code c ∷ codes s

-- words with a space between two of them, and a newline behind the last
abbrev pub line : List (List ℕ) → List ℕ
line [] = codes "\n"
line (w ∷ []) = w ++ codes "\n"
line (w ∷ v ∷ ws) = w ++ (codes " " ++ line (v ∷ ws))

-- a request's number and its answer
abbrev pub answer_line : ℕ → ℕ → List ℕ
answer_line number answer = line (decimal number ∷ decimal answer ∷ [])

abbrev pub right_line : ℕ → ℕ → ℕ → List ℕ
right_line skid tank right = line (decimal skid ∷ decimal tank ∷ decimal right ∷ [])

abbrev pub held_line : ℕ → List ℕ
held_line count = line (codes "held" ∷ decimal count ∷ [])

-- 34 is about the requests; every other number is about the plant.
abbrev pub refusal_line : ℕ → List ℕ
refusal_line number = line (cond (eqb number 34) (codes "requests") (codes "plant") ∷ decimal number ∷ [])

-- The line of answer i. The first request, at place 0, is number 1.
abbrev pub answer_line_at : List ℕ → ℕ → List ℕ
answer_line_at answers i = answer_line (i + 1) (byte_at answers i)

abbrev pub answer_lines : List ℕ → ℕ → List ℕ
answer_lines answers n = collect (answer_line_at answers) n

-- The line of right i. A right has three bytes: skid, tank, right.
abbrev pub right_line_at : List ℕ → ℕ → List ℕ
right_line_at rights i = right_line (byte_at rights (i * 3)) (byte_at rights (i * 3 + 1)) (byte_at rights (i * 3 + 2))

abbrev pub right_lines : List ℕ → ℕ → List ℕ
right_lines rights n = collect (right_line_at rights) n

-- From the byte after the last answer on: the count of rights held, and the rights.
abbrev pub held_lines : List ℕ → List ℕ
held_lines held = held_line (byte_at held 0) ++ right_lines (drop 1 held) (byte_at held 0)

-- What is printed of a batch of n requests: its number where that is a refusal, else what it wrote into `results`.
unfoldable pub outcome_lines : ℕ → ℕ → List ℕ → List ℕ
outcome_lines number n results = cond (eqb number 0) (answer_lines results n ++ held_lines (drop n results)) (refusal_line number)
