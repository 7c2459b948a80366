-- What is printed of a batch does not depend on the buffer that it wrote into: neither on the buffer's length, where it has room, nor on the
-- bytes behind the outcome. Assumes nothing.
use Prim.Native.Nat.{ℕ, suc, ◌+◌, ◌*◌, ◌%◌, ◌≤◌, ◌<◌}
use mathlib.Core.Path.{◌≡◌, refl, sym, ap, ap₂, ◌∙◌}
use mathlib.Core.Bool.{cond, not}
use mathlib.Core.List.{List, [], ◌∷◌, ◌++◌}
use native.Mathlib.Decide.{ℕ_discrete}
use native.Mathlib.Omega.{arith}
use lib.Dec.{eqb}
use lib.ListN.{length, drop, length-append}
use lib.Seq.{get_or-drop, get_or-append_seam}
use borrow.Author.Tests.{le-ltb}
use Rattle.base.specs.Overlay.{overlay}
use Rattle.base.proofs.Overlaid.{overlay_at}
use Rattle.base.proofs.Collected.{collect_same}
use Rattle.layout.specs.Layout.{byte_at}
use Rattle.plant.specs.declared.Plant.{Plant}
use Rattle.opening.specs.Reading.{reading_of}
use Rattle.rules.specs.Rules.{Call}
use Rattle.rules.specs.History.{history_view, history_answers, history, with_call}
use Rattle.calls.proofs.Served.{calls_length}
use Rattle.listing.specs.Held.{HeldRight, rights_held, right_bytes}
use Rattle.listing.proofs.Listed.{bytes_length}
use Rattle.outcome.specs.Batch.{request_count, batch_refusal, batch_calls, outcome, batch_out}
use Rattle.outcome.proofs.Refused.{refusal_is}
use Rattle.printing.specs.Text.{answer_line_at, answer_lines, right_line_at, right_lines, held_line, held_lines, outcome_lines}
use Rattle.printing.specs.Printed.{batch_lines}
use Rattle.printing.proofs.Outcome.{refused_lines, accepted_lines}

-- the two agree on the count of rights and on the rights
held_same : (xs ys : List ℕ) → ((j : ℕ) → j < 1 + byte_at ys 0 * 3 → byte_at xs j ≡ byte_at ys j) → held_lines xs ≡ held_lines ys
held_same xs ys h =
    let c : byte_at xs 0 ≡ byte_at ys 0 = h 0 (omega arith) in
    let at : (j : ℕ) → j < byte_at ys 0 * 3 → byte_at (drop 1 xs) j ≡ byte_at (drop 1 ys) j = λ j l. get_or-drop 1 xs j 0 ∙ h (1 + j) (omega arith) ∙ sym (get_or-drop 1 ys j 0) in
    let same : (i : ℕ) → i < byte_at ys 0 → right_line_at (drop 1 xs) i ≡ right_line_at (drop 1 ys) i = λ i l. rw (at (i * 3) (omega arith), at (i * 3 + 1) (omega arith), at (i * 3 + 2) (omega arith)) in
    ap₂ (λ (a b : List ℕ). a ++ b) (ap held_line c) (ap (right_lines (drop 1 xs)) c ∙ collect_same (right_line_at (drop 1 xs)) (right_line_at (drop 1 ys)) (byte_at ys 0) same)

module _ (n : ℕ) (xs ys : List ℕ) (h : (i : ℕ) → i < n + (1 + byte_at ys n * 3) → byte_at xs i ≡ byte_at ys i) where
  answers_same : answer_lines xs n ≡ answer_lines ys n
  answers_same = collect_same (answer_line_at xs) (answer_line_at ys) n (λ i l. rw (h i (omega arith)))

  rights_same : held_lines (drop n xs) ≡ held_lines (drop n ys)
  rights_same =
      let z : byte_at (drop n ys) 0 ≡ byte_at ys n = get_or-drop n ys 0 0 ∙ ap (byte_at ys) (let e : n + 0 ≡ n = omega arith in e) in
      held_same (drop n xs) (drop n ys) (λ j l. get_or-drop n xs j 0 ∙ h (n + j) (omega (arith, z)) ∙ sym (get_or-drop n ys j 0))

  pub accepted_same : outcome_lines 0 n xs ≡ outcome_lines 0 n ys
  accepted_same = accepted_lines 0 n xs refl ∙ ap₂ (λ (a b : List ℕ). a ++ b) answers_same rights_same ∙ sym (accepted_lines 0 n ys refl)

-- an answer for each call
answers_length : (P : Plant) (cs a : List Call) → length (history_answers P a cs) ≡ length cs
unfolding history_answers
answers_length P [] a = refl
answers_length P (c ∷ cs) a = ap suc (answers_length P cs (with_call P a c))

-- the outcome in a buffer
module _ (P : Plant) (cs : List Call) (n : ℕ) (a : length cs ≡ n) where
  abbrev held : List HeldRight
  held = rights_held P (history_view P (history P [] cs))

  outcome_length : length (outcome P cs) ≡ n + (1 + length held * 3)
  unfolding outcome
  outcome_length = omega (arith, length-append (history_answers P [] cs) (length held ∷ right_bytes held), answers_length P cs [], bytes_length held)

  outcome_count : byte_at (outcome P cs) n ≡ length held
  unfolding outcome
  outcome_count = ap (λ (k : ℕ). byte_at (outcome P cs) k) (sym (answers_length P cs [] ∙ a)) ∙ get_or-append_seam (history_answers P [] cs) (length held) (right_bytes held) 0

  pub overlaid_lines : (out : List ℕ) → outcome_lines 0 n (overlay out 0 (outcome P cs)) ≡ outcome_lines 0 n (outcome P cs)
  overlaid_lines out = accepted_same n (overlay out 0 (outcome P cs)) (outcome P cs)
      (λ i l.
      ap (byte_at (overlay out 0 (outcome P cs))) (let e : i ≡ 0 + i = omega arith in e)
      ∙ overlay_at out 0 (outcome P cs) i (omega arith) (omega (arith, outcome_length, outcome_count)))

-- the number of a batch that has room
with_room : (plant requests : List ℕ) (room : ℕ) → request_count requests + 577 ≤ room → batch_refusal plant requests room ≡ cond (eqb (reading_of plant).answer 0) (cond (not (eqb (length requests % 5) 0)) 34 0) (reading_of plant).answer
with_room plant requests room h = refusal_is plant requests room ∙ rw (le-ltb room (request_count requests + 577) h)

module _ (plant requests out : List ℕ) (room : request_count requests + 577 ≤ length out) where
  abbrev n : ℕ
  n = request_count requests

  same_refusal : batch_refusal plant requests (length out) ≡ batch_refusal plant requests (n + 577)
  same_refusal = with_room plant requests (length out) room ∙ sym (with_room plant requests (n + 577) (omega arith))

  -- number and buffer as the batch left them
  pub batched_lines : {k : ℕ} {out' : List ℕ} → k ≡ batch_refusal plant requests (length out) → out' ≡ batch_out plant requests out → outcome_lines k n out' ≡ batch_lines plant requests
  unfolding batch_out batch_lines
  batched_lines {k} {out'} r w = ap₂ (λ (j : ℕ) (l : List ℕ). outcome_lines j n l) r w ∙ elim (ℕ_discrete (batch_refusal plant requests (length out)) 0) [
    | yes e ↦ rw (← same_refusal, e) (overlaid_lines (reading_of plant).plant (batch_calls requests) n (calls_length requests n) out)
    | no e ↦
        refused_lines _ n _ e ∙ sym (refused_lines _ n _ e)
        ∙ ap (λ (j : ℕ). outcome_lines j n (outcome (reading_of plant).plant (batch_calls requests))) same_refusal
  ]
