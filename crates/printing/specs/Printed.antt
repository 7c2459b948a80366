-- What the program prints for its input: a plant file, then request bytes.
use Rattle.std.specs.Prelude.{ℕ, ◌+◌, ◌<◌, cond, ◌||◌, List, [], ◌∷◌, ltb, length, take, drop}
use Rattle.base.specs.Overlay.{Wrote}
use Rattle.layout.specs.Layout.{word_at, header_bytes, length_at}
use Rattle.opening.specs.Reading.{reading_of}
use Rattle.outcome.specs.Batch.{request_count, batch_refusal, batch_calls, outcome}
use Rattle.printing.specs.Text.{codes, line, refusal_line, outcome_lines}

-- the most bytes that the program takes
abbrev pub input_limit : ℕ
input_limit = 65536

-- what is printed of a batch, which has the room that it asks for: how large the program's own buffer is does not show
unfoldable pub batch_lines : List ℕ → List ℕ → List ℕ
batch_lines plant requests =
    outcome_lines (batch_refusal plant requests (request_count requests + 577)) (request_count requests) (outcome (reading_of plant).plant (batch_calls requests))

-- the plant file's length, as its header says
abbrev pub plant_length : List ℕ → ℕ
plant_length input = word_at input length_at

-- Input that ends before the header or before the plant does is refused as a file of another length than it says, 1.
unfoldable pub printed : List ℕ → List ℕ
printed input =
    cond (ltb input_limit (length input)) (line (codes "long" ∷ []))
    (cond (ltb (length input) header_bytes || ltb (length input) (plant_length input)) (refusal_line 1)
    (batch_lines (take (plant_length input) input) (drop (plant_length input) input)))

-- The program read n bytes into an array, and k bytes of `out` are what it prints of them. The array has room for a byte more than is taken: input
-- that is too long shows by that byte.
pub record PrintsRead (array : List ℕ) (n : ℕ) (out out' : List ℕ) (k : ℕ) : Type 0 where
  pub text : Wrote (printed (take n array)) out 0 out' k
  pub room : 65536 < length array
