-- What the panel can rely on, for every plant, requests and buffer. Assumes nothing.
use mathlib.Core.Path.{◌≡◌, refl, sym, ap, ap₂, subst, ◌∙◌}
use mathlib.Core.Logic.{◌↔◌}
use Prim.Native.Nat.{ℕ, suc, ◌+◌, ◌*◌, ◌≤◌, ◌<◌}
use mathlib.Core.Bool.{Bool, true, cond}
use mathlib.Core.List.{List, [], ◌++◌}
use native.Mathlib.Omega.{arith}
use lib.ListN.{length, get_or, length-append, get_or-append}
use lib.Seq.{get_or-append-add}
use Rattle.base.specs.Overlay.{overlay}
use Rattle.base.proofs.Overlaid.{overlay_at, overlay_past, overlay_length}
use Rattle.plant.specs.declared.Plant.{Plant}
use Rattle.plant.specs.Checks.{plant_refusal, Sound}
use Rattle.opening.specs.Reading.{reading_of}
use Rattle.opening.specs.Admitted.{Admitted}
use Rattle.opening.proofs.Opening.{opens}
use Rattle.rules.specs.declared.Monitor.{Monitor}
use Rattle.rules.specs.Rules.{Call, gate, unknown, answer}
use Rattle.rules.specs.Record.{fresh, reply, final, view_of, intact}
use Rattle.rules.specs.History.{history_answers, history, history_view}
use Rattle.rules.specs.Rights.{Gives}
use Rattle.rules.specs.Demand.{Demand3}
use Rattle.rules.proofs.Demand.{demand3}
use Rattle.rules.proofs.Accepted.{gate_zero}
use Rattle.rules.proofs.Agree.{fresh_agree, list_agree}
use Rattle.calls.proofs.Served.{runs_length, calls_length, calls_at}
use Rattle.listing.specs.Held.{HeldRight, Lists, rights_held, right_bytes, listing}
use Rattle.listing.proofs.Listed.{HeldIn, lists_same, rights_listed, bytes_length, bytes_at, held_at_most}
use Rattle.outcome.specs.Batch.{request_count, refusal_by, batch_refusal, outcome, batch_out}
use Rattle.outcome.specs.Served.{Admits, none, P, calls, held, Served, Batch}
use Rattle.outcome.proofs.Outcome.{same_answers, same_rights}
use Rattle.outcome.proofs.Refused.{refusal_is, unwritten, by_opening, by_requests, by_room, by_none, accepts, plant_passes}

-- The rights at the end of a list from the fresh monitor are those that its history gives.
module _ (P : Plant) (q : plant_refusal true true P ≡ 0) (W : Sound P) (cs : List Call) where
  D : Demand3 P cs
  D = demand3 P W cs

  gate_held : (s o r : ℕ) → reply P (final (fresh P) cs) (gate s o r) ≡ 0 → HeldIn P (view_of P (final (fresh P) cs)) s o r
  unfolding reply
  gate_held s o r e =
      let k = (gate_zero P (view_of P (final (fresh P) cs)) s o r).0 (subst (λ (b : Bool). cond b (answer P (view_of P (final (fresh P) cs)) (gate s o r)) 20 ≡ 0) D.never_20 e) in
      record { skid = k.0.skid; tank = k.0.tank; right = k.0.right; held = k.1 }

  given : (s o r : ℕ) → HeldIn P (view_of P (final (fresh P) cs)) s o r ↔ Gives P (history P [] cs) s o r
  given s o r = (λ h. (D.held s o r h.tank h.right).0 h.held, λ G. gate_held s o r ((D.gates s o r).1 G))

  listed_gives : Lists (Gives P (history P [] cs)) (rights_held P (history_view P (history P [] cs)))
  listed_gives =
      lists_same (HeldIn P (view_of P (final (fresh P) cs))) (Gives P (history P [] cs)) _ given
      (subst (Lists (HeldIn P (view_of P (final (fresh P) cs)))) (same_rights P q cs) (rights_listed P (view_of P (final (fresh P) cs))))

  listed_gates : Lists (λ s o r. reply P (final (fresh P) cs) (gate s o r) ≡ 0) (rights_held P (history_view P (history P [] cs)))
  listed_gates = lists_same (Gives P (history P [] cs)) _ _ (λ s o r. ((D.gates s o r).1, (D.gates s o r).0)) listed_gives

  short : length (rights_held P (history_view P (history P [] cs))) ≤ 192
  short =
      let A = list_agree P W cs (fresh P) [] (fresh_agree P W) in
      let m : Monitor = final (fresh P) cs in
      subst (λ (l : List HeldRight). length l ≤ 192) (same_rights P q cs)
      (subst (λ (p : Plant). length (rights_held p (view_of p m)) ≤ 192) A.kept (held_at_most m (subst (λ (p : Plant). intact p m ≡ true) (sym A.kept) D.never_20)))

  answered : length (history_answers P [] cs) ≡ length cs
  answered = ap length (sym (same_answers P q cs)) ∙ runs_length cs (fresh P)

-- the outcome's bytes in the buffer
module _ (answers : List ℕ) (l : List HeldRight) (out : List ℕ) (n : ℕ) (a : length answers ≡ n) (room : n + (1 + length l * 3) ≤ length out) where
  abbrev ws : List ℕ
  ws = answers ++ listing l

  size : length ws ≡ n + (1 + length l * 3)
  size = omega (arith, length-append answers (listing l), bytes_length l)

  at_answer : (i : ℕ) → i < n → get_or (overlay out 0 ws) i 0 ≡ get_or answers i 0
  at_answer i h = ap (λ (k : ℕ). get_or (overlay out 0 ws) k 0) (let e : i ≡ 0 + i = omega arith in e) ∙ overlay_at out 0 ws i (omega arith) (omega (arith, size)) ∙ get_or-append answers (listing l) 0 i (omega arith)

  at_listing : (i : ℕ) → i < 1 + length l * 3 → get_or (overlay out 0 ws) (n + i) 0 ≡ get_or (listing l) i 0
  at_listing i h =
      ap (λ (k : ℕ). get_or (overlay out 0 ws) k 0) (let e : n + i ≡ 0 + (length answers + i) = omega (arith, a) in e)
      ∙ overlay_at out 0 ws (length answers + i) (omega arith) (omega (arith, size)) ∙ get_or-append-add answers (listing l) i 0

  at_right : (k j : ℕ) → k ≡ suc j → j < length l * 3 → get_or (overlay out 0 ws) (n + k) 0 ≡ get_or (right_bytes l) j 0
  at_right k j e h = at_listing k (omega arith) ∙ ap (λ (x : ℕ). get_or (listing l) x 0) e

  at_rest : (i : ℕ) → n + (1 + length l * 3) ≤ i → get_or (overlay out 0 ws) i 0 ≡ get_or out i 0
  at_rest i h = overlay_past out 0 ws i (omega arith) (omega (arith, size))

  kept_length : length (overlay out 0 ws) ≡ length out
  kept_length = overlay_length out 0 ws (omega (arith, size))

module _ (plant requests out : List ℕ) where
  abbrev n : ℕ
  n = request_count requests

  opened : (reading_of plant).answer ≡ 0 → Admitted plant
  opened z = (opens plant).accepts.0 z

  -- the number as it is made of opening's
  made : batch_refusal plant requests (length out) ≡ refusal_by (reading_of plant).answer (length requests) (length out)
  made = refusal_is plant requests (length out)

  admits : batch_refusal plant requests (length out) ≡ 0 → Admits plant requests out
  admits e =
      let c = accepts (reading_of plant).answer (length requests) (length out) made e in
      record { plant_admitted = opened c.opened; whole_requests = omega (arith, c.whole); room = c.room_enough }

  zero : Admitted plant → (reading_of plant).answer ≡ 0
  zero A = (opens plant).accepts.1 A

  accepted : Admits plant requests out → batch_refusal plant requests (length out) ≡ 0
  accepted A = made ∙ sym (by_none _ (length requests) (length out) (zero A.plant_admitted) (omega (arith, A.whole_requests)) A.room)

  bytes : batch_refusal plant requests (length out) ≡ 0 → batch_out plant requests out ≡ overlay out 0 (history_answers (P plant requests out) [] (calls plant requests out) ++ listing (held plant requests out))
  unfolding batch_out outcome
  bytes e = rw e

  served : batch_refusal plant requests (length out) ≡ 0 → Served plant requests out
  served e =
      let A = admits e in
      let p : Plant = P plant requests out in
      let cs : List Call = calls plant requests out in
      let q = plant_passes plant (zero A.plant_admitted) in
      let W = (opens plant).sound A.plant_admitted in
      let a : length (history_answers p [] cs) ≡ n = answered p q W cs ∙ calls_length requests n in
      let l : List HeldRight = held plant requests out in
      let s : length l ≤ 192 = short p q W cs in
      let r : n + (1 + length l * 3) ≤ length out = omega (arith, A.room) in
      let at : (i j : ℕ) → i ≡ j → get_or (batch_out plant requests out) i 0 ≡ get_or (overlay out 0 (history_answers p [] cs ++ listing l)) j 0 = λ i j f. ap₂ (λ (x : List ℕ) (k : ℕ). get_or x k 0) (bytes e) f in
      record {
        as_many = calls_length requests n;
        in_order = λ i h. calls_at requests n i unknown h;
        demand = demand3 p W cs;
        answers = λ i h. at i i refl ∙ at_answer (history_answers p [] cs) l out n a r i h;
        rights = listed_gives p q W cs;
        gates = listed_gates p q W cs;
        at_most = s;
        count = at n (n + 0) (let f : n ≡ n + 0 = omega arith in f) ∙ at_listing (history_answers p [] cs) l out n a r 0 (omega arith);
        skids = λ i h. at (n + (1 + i * 3)) (n + (1 + i * 3)) refl ∙ at_right (history_answers p [] cs) l out n a r (1 + i * 3) (i * 3) (omega arith) (omega arith) ∙ (bytes_at l none i h).0;
        tanks = λ i h. at (n + (2 + i * 3)) (n + (2 + i * 3)) refl ∙ at_right (history_answers p [] cs) l out n a r (2 + i * 3) (i * 3 + 1) (omega arith) (omega arith) ∙ (bytes_at l none i h).1.0;
        right_numbers = λ i h. at (n + (3 + i * 3)) (n + (3 + i * 3)) refl ∙ at_right (history_answers p [] cs) l out n a r (3 + i * 3) (i * 3 + 2) (omega arith) (omega arith) ∙ (bytes_at l none i h).1.1;
        as_long = ap length (bytes e) ∙ kept_length (history_answers p [] cs) l out n a r;
        rest = λ i h. at i i refl ∙ at_rest (history_answers p [] cs) l out n a r i h;
      }

  pub batch : Batch plant requests out
  batch = record {
    accepts = (admits, accepted);
    served = served;
    unwritten = λ k. sym (unwritten plant requests out refl k).1;
    plant_first = λ k h b. let e = ((opens plant).refuses k h).1 b in made ∙ sym (by_opening _ (length requests) (length out) (λ z. omega (arith, z, e))) ∙ e;
    then_34 = λ A w. made ∙ sym (by_requests _ (length requests) (length out) (zero A) (λ z. w (omega (arith, z))));
    then_31 = λ A w l. made ∙ sym (by_room _ (length requests) (length out) (zero A) (omega (arith, w)) l);
  }
