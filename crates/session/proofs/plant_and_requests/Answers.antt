-- A header or a plant that is not all there is refused, and the rest is a batch: what is `printed` in each case.
use Rattle.std.proofs.Common.{◌≡◌, ◌<◌, ◌≤◌, ◌+◌, ℕ, List, length, take, drop, ap₂, ◌∙◌, sym, arith, Bor}
use Rattle.std.specs.Prelude.{Option, Some, None, MatchOption}
use Rattle.printing.specs.Text.{refusal_line}
use Rattle.printing.specs.Printed.{plant_length, batch_lines, printed}
use Rattle.printing.proofs.Printed.{short_lines, cut_lines, whole_lines}
use Rattle.session.proofs.plant_and_requests.Goals as goal

module _ (input : List ℕ) (l : length input ≤ 65536) (h : 24 ≤ length input) where
  abbrev n : ℕ
  n = plant_length input

  parts_lines : (parts : Option (Bor (List ℕ) × Bor (List ℕ)))
      → MatchOption parts (length input < n) (λ p. (n ≤ length input) × (p.0.now ≡ take n input) × (p.1.now ≡ drop n input) × (length p.0.now ≡ n) × (length p.1.now + n ≡ length input))
      → MatchOption parts (printed input ≡ refusal_line 1) (λ p. (printed input ≡ batch_lines p.0.now p.1.now) × (length p.1.now ≤ 65536))
  parts_lines None e = cut_lines input l h e
  parts_lines (Some p) e = (whole_lines input l h e.0 ∙ sym (ap₂ batch_lines e.1 e.2), omega (arith, e.4, l))

pub returns-then-input-lt-HEADER_BYTES : goal.returns-then-input-lt-HEADER_BYTES
returns-then-input-lt-HEADER_BYTES c = short_lines c.args.input.now c.requires c.if-input-lt-HEADER_BYTES.true

pub returns : goal.returns
returns c = parts_lines c.args.input.now c.requires c.if-input-lt-HEADER_BYTES.false _ (rw c.length_said.ensures.0 at c.split_at_checked.ensures.cases)
