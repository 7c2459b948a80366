-- Requests in words, and that a queue's and a batch's answers are the history's. Assumes nothing.
use mathlib.Core.Path.{◌≡◌, refl, sym, subst}
use Prim.Native.Nat.{ℕ, ◌/◌, ◌≤◌}
use native.Mathlib.Omega.{arith}
use mathlib.Core.Bool.{true}
use mathlib.Core.List.{List, [], map}
use lib.ListN.{length}
use borrow.Author.Tests.{le-ltb, ne_eqb}
use Rattle.rules.specs.declared.Monitor.{Monitor}
use Rattle.rules.specs.Rules.{unknown}
use Rattle.rules.specs.Record.{fresh, intact, final}
use Rattle.requests.specs.Calls.{opened_of}
use Rattle.calls.specs.declared.Request.{Request}
use Rattle.requests.specs.Requests.{call_of}
use Rattle.queue.specs.Queue.{queue_refusal}
use Rattle.calls.proofs.Served.{calls_length, calls_at}
use Rattle.listing.proofs.Listed.{lists_same}
use Rattle.outcome.specs.Batch.{batch_refusal, batch_calls}
use Rattle.order.specs.Order.{Kinds, Requests, QueueTold, BatchTold}
use Rattle.order.proofs.Runs.{D, sound, same_fresh, list_demand}
use Rattle.order.proofs.Answers.{queue_served}
use Rattle.order.proofs.Served.{batch_opened, batch_served}

pub kinds : (a b c d : ℕ) → Kinds a b c d
kinds a b c d = record {
  kind_0 = refl;
  kind_1 = refl;
  kind_2 = refl;
  kind_3 = refl;
  other_kind = λ k l. rw (ne_eqb k 0 (λ e. omega (arith, e)), ne_eqb k 1 (λ e. omega (arith, e)), ne_eqb k 2 (λ e. omega (arith, e)), ne_eqb k 3 (λ e. omega (arith, e)));
}

pub requests : (bytes : List ℕ) → Requests bytes
requests bytes = record { as_many = calls_length bytes (length bytes / 5); each = λ i l. calls_at bytes (length bytes / 5) i unknown l }

module _ (file : List ℕ) (z : (opened_of file).answer ≡ 0) where
  -- an opened monitor passes test 20
  opened_intact : intact (opened_of file).monitor.plant (opened_of file).monitor ≡ true
  unfolding fresh final
  opened_intact = subst (λ (m : Monitor). intact m.plant m ≡ true) (sym (same_fresh file z)) (D _ (sound file z) []).never_20

  pub queue_told : (rs : List Request) (out : List ℕ) → length rs ≤ length out → QueueTold (opened_of file).monitor rs out
  queue_told rs out l =
      let d = list_demand file z (map call_of rs) in
      let e : queue_refusal (opened_of file).monitor (length rs) (length out) ≡ 0 = rw (opened_intact, le-ltb (length out) (length rs) l) in
      record { answers = _; accepted = d.accepted; history = d.history; served = e; written = (queue_served (opened_of file).monitor rs out e).1 }

pub batch_told : (plant requests out : List ℕ) → batch_refusal plant requests (length out) ≡ 0 → BatchTold plant requests out
batch_told plant bytes out e =
    let d = list_demand plant (batch_opened plant bytes out e) (batch_calls bytes) in
    let q = batch_served plant bytes out e in
    record {
      answers = q.0;
      accepted = d.accepted;
      history = rw q.2.answers d.history;
      held = q.1;
      rights = lists_same _ _ q.1 d.gates q.2.rights;
      written = q.3;
    }
