-- The queue's loop in lists: after i requests the record is that of their calls, and the buffer begins with their answers. Assumes nothing.
use mathlib.Core.Path.{◌≡◌, refl, sym, ap, ◌∙◌}
use Prim.Native.Nat.{ℕ, suc, ◌+◌, ◌≤◌, ◌<◌}
use native.Mathlib.Nat.{le_antisymm}
use native.Mathlib.Omega.{arith}
use mathlib.Core.List.{List, [], ◌∷◌, ◌++◌, map}
use lib.ListN.{length, get_or, take, set, length-map}
use lib.Seq.{length-take-le, take-length}
use Rattle.std.proofs.lemmas.List.{map_more}
use borrow.Author.Tests.{ne_eqb}
use Rattle.base.specs.Overlay.{overlay}
use Rattle.base.proofs.Overlaid.{overlay_none}
use Rattle.rules.specs.declared.Monitor.{Monitor}
use Rattle.rules.specs.Rules.{Call}
use Rattle.rules.specs.Record.{after, replies, final}
use Rattle.rules.proofs.Lists.{final_snoc, replies_snoc}
use Rattle.requests.specs.declared.Answered.{Answered}
use Rattle.requests.specs.Calls.{step_of}
use Rattle.calls.specs.declared.Request.{Request}
use Rattle.calls.proofs.Served.{answer_stored}
use Rattle.requests.specs.Requests.{call_of}
use Rattle.queue.specs.Queue.{queue_refusal, queue_of, queue_out}

abbrev pub no_request : Request
no_request = record { kind = 0; a = 0; b = 0; c = 0; d = 0 }

-- the calls of the first i requests
abbrev pub calls : List Request → ℕ → List Call
calls rs i = map call_of (take i rs)

length_replies : (cs : List Call) (m : Monitor) → length (replies m cs) ≡ length cs
unfolding replies
length_replies [] m = refl
length_replies (c ∷ cs) m = ap suc (length_replies cs (after m.plant m c))

module _ (m : Monitor) (rs : List Request) (ys : List ℕ) where
  abbrev pub state : ℕ → Monitor
  state i = final m (calls rs i)

  abbrev pub buffer : ℕ → List ℕ
  buffer i = overlay ys 0 (replies m (calls rs i))

  answered : (i : ℕ) → i ≤ length rs → length (replies m (calls rs i)) ≡ i
  answered i l = length_replies (calls rs i) m ∙ length-map (take i rs) call_of ∙ length-take-le i rs l

  pub first_state : m ≡ state 0
  unfolding final
  first_state = refl

  pub first_buffer : ys ≡ buffer 0
  unfolding replies
  first_buffer = overlay_none ys 0

  one_more : (i : ℕ) → i < length rs → calls rs (i + 1) ≡ calls rs i ++ (call_of (get_or rs i no_request) ∷ [])
  one_more i l = map_more call_of rs i no_request l

  pub next_state : (i : ℕ) → i < length rs → {cur : Monitor} {r : Answered} → cur ≡ state i → r ≡ step_of cur (call_of (get_or rs i no_request)) → r.monitor ≡ state (i + 1)
  next_state i l h e = rw (e, h, one_more i l) (sym (final_snoc (calls rs i) m (call_of (get_or rs i no_request))))

  more_answers : (i : ℕ) → i < length rs → {cur : Monitor} {r : Answered} → cur ≡ state i → r ≡ step_of cur (call_of (get_or rs i no_request))
      → replies m (calls rs i) ++ (r.answer ∷ []) ≡ replies m (calls rs (i + 1))
  more_answers i l h e = rw (e, h, one_more i l) (sym (replies_snoc (calls rs i) m (call_of (get_or rs i no_request))))

  pub next_buffer : (i : ℕ) → i < length rs → i < length ys → {cur : Monitor} {zs : List ℕ} {r : Answered} → cur ≡ state i → zs ≡ buffer i → r ≡ step_of cur (call_of (get_or rs i no_request)) → set zs i r.answer ≡ buffer (i + 1)
  next_buffer i l l' {r = r} h b e =
      answer_stored ys (replies m (calls rs i)) r.answer b (answered i (omega (arith, l))) l' ∙ ap (overlay ys 0) (more_answers i l h e)

-- all requests are made, or none is
module _ (m : Monitor) (rs : List Request) (ys : List ℕ) where
  pub all_made : (i : ℕ) → i ≤ length rs → length rs ≤ i → calls rs i ≡ map call_of rs
  all_made i a b = ap (calls rs) (le_antisymm a b) ∙ ap (map call_of) (take-length rs)

  -- a queue that is refused makes no call
  pub refused : {n : ℕ} → n ≡ queue_refusal m (length rs) (length ys) → (n ≡ 0 → ⊥)
      → (record { answer = n; monitor = m } ≡ queue_of m rs ys) × (ys ≡ queue_out m rs ys)
  unfolding replies final
  refused {n} e f = rw (← e, ne_eqb n 0 f) (refl, overlay_none ys 0)
