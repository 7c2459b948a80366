-- What is printed of an outcome, by cases: a refusal's line, or the answers and the rights. Assumes nothing.
use Prim.Native.Nat.{ℕ, ◌+◌, ◌*◌, ◌/◌, ◌≤◌}
use mathlib.Core.Path.{◌≡◌, refl, ap, ap₂, ◌∙◌}
use mathlib.Core.List.{List, ◌++◌}
use native.Mathlib.Omega.{arith}
use lib.ListN.{length, take, drop, get_or-append}
use lib.Seq.{length-take-le, drop-append_seam}
use Rattle.std.proofs.lemmas.List.{get_or-take}
use Rattle.base.proofs.Collected.{collect_same}
use borrow.Author.Tests.{eq-eqb, ne_eqb}
use Rattle.printing.specs.Text.{answer_line_at, answer_lines, right_line_at, right_lines, held_lines, refusal_line, outcome_lines}

module _ (number n : ℕ) (results : List ℕ) where
  pub refused_lines : (number ≡ 0 → ⊥) → outcome_lines number n results ≡ refusal_line number
  unfolding outcome_lines
  refused_lines h = rw (ne_eqb number 0 h)

  pub accepted_lines : number ≡ 0 → outcome_lines number n results ≡ answer_lines results n ++ held_lines (drop n results)
  unfolding outcome_lines
  accepted_lines h = rw (eq-eqb number 0 h)

-- the results are the answers and, behind them, the list of the rights held
pub parted_lines : (answers held : List ℕ) → outcome_lines 0 (length answers) (answers ++ held) ≡ answer_lines answers (length answers) ++ held_lines held
parted_lines answers held =
    accepted_lines 0 (length answers) (answers ++ held) refl
    ∙ ap₂ (λ (front rest : List ℕ). front ++ rest)
    (collect_same (answer_line_at (answers ++ held)) (answer_line_at answers) (length answers) (λ i l. rw (get_or-append answers held 0 i l)))
    (ap held_lines (drop-append_seam answers held))

-- n rights take three bytes each
pub front_rights : (bytes : List ℕ) (n size : ℕ) → size ≡ n * 3 → n * 3 ≤ length bytes → right_lines (take size bytes) (length (take size bytes) / 3) ≡ right_lines bytes n
front_rights bytes n size s h =
    let e : length (take size bytes) / 3 ≡ n = omega (arith, length-take-le size bytes (omega arith)) in
    ap (right_lines (take size bytes)) e
    ∙ collect_same (right_line_at (take size bytes)) (right_line_at bytes) n
    (λ i l. rw (get_or-take size bytes (i * 3) 0 (omega arith), get_or-take size bytes (i * 3 + 1) 0 (omega arith), get_or-take size bytes (i * 3 + 2) 0 (omega arith)))
