-- The number that refuses a batch, test by test, and the buffer that goes with it. Assumes nothing.
use mathlib.Core.Path.{◌≡◌, refl, sym, ap, subst, ◌∙◌}
use mathlib.Core.Logic.{◌≢◌}
use Prim.Native.Nat.{ℕ, ◌+◌, ◌/◌, ◌%◌, ◌≤◌, ◌<◌}
use mathlib.Core.Bool.{Bool, true, cond}
use mathlib.Core.List.{List}
use native.Mathlib.Omega.{arith}
use lib.Dec.{eqb}
use lib.ListN.{length}
use borrow.Author.Tests.{eqb-true, eqb-false, ne_eqb, lt-ltb, le-ltb, ltb-false, not-false}
use Rattle.std.specs.Prelude.{Result}
use Rattle.std.specs.Result.{IsErr, IsErrAnd}
use Rattle.base.specs.Chain.{first}
use Rattle.base.specs.Overlay.{overlay}
use Rattle.base.proofs.Logic.{split}
use Rattle.base.proofs.Chain.{first_append, clear}
use Rattle.refusal.specs.declared.Refusal.{Refusal}
use Rattle.refusal.specs.Number.{number_of, answer_of}
use Rattle.refusal.proofs.NotZero.{handed_on, not_0}
use Rattle.opening.specs.Reading.{Reading, opening_checks, opening_refusal, reading_of}
use Rattle.plant.specs.Checks.{plant_refusal}
use Rattle.plant.proofs.Sound.{sound_law}
use Rattle.opening.proofs.Opening.{opens}
use Rattle.outcome.specs.Batch.{size_checks, request_checks, refusal_by, batch_refusal, outcome, batch_calls, batch_out}

module _ (plant requests : List ℕ) where
  -- opening decides first
  pub refusal_is : (room : ℕ) → batch_refusal plant requests room ≡ cond (eqb (reading_of plant).answer 0) (first (request_checks requests room)) (reading_of plant).answer
  unfolding batch_refusal reading_of opening_refusal
  refusal_is room = first_append (opening_checks plant) (request_checks requests room) (refl, (refl, (refl, (refl, (refl, (refl, (refl, (refl, (refl, (refl, (refl, (refl, tt))))))))))))

  -- a plant that opening refuses, and else the sizes
  pub opening_refuses : (room : ℕ) {k : ℕ} → k ≡ (reading_of plant).answer → k ≢ 0 → k ≡ batch_refusal plant requests room
  opening_refuses room {k} e n = e ∙ sym (refusal_is room ∙ rw (← e, ne_eqb k 0 n))

  pub sizes_decide : (room : ℕ) {k : ℕ} → 0 ≡ (reading_of plant).answer → k ≡ first (request_checks requests room) → k ≡ batch_refusal plant requests room
  sizes_decide room e h = h ∙ sym (refusal_is room ∙ rw (← e))

  -- the buffer after a refusal, and after an accepted batch
  module _ (out : List ℕ) where
    pub unwritten : {k : ℕ} → k ≡ batch_refusal plant requests (length out) → k ≢ 0 → (k ≡ batch_refusal plant requests (length out)) × (out ≡ batch_out plant requests out)
    unfolding batch_out
    unwritten {k} e n = (e, rw (← e, ne_eqb k 0 n))

    -- a check refuses, and `?` hands that on
    pub refused : {A : Type 0} (r : Result A Refusal) (e : Refusal) → IsErr r × IsErrAnd r (λ x. x ≡ e) → number_of e ≡ batch_refusal plant requests (length out) → (answer_of r ≡ batch_refusal plant requests (length out)) × (out ≡ batch_out plant requests out)
    refused r e h n = unwritten (handed_on r e h ∙ n) (λ z. not_0 e (sym (handed_on r e h) ∙ z))

    pub written : {out' : List ℕ} → 0 ≡ batch_refusal plant requests (length out) → out' ≡ overlay out 0 (outcome (reading_of plant).plant (batch_calls requests)) → (0 ≡ batch_refusal plant requests (length out)) × (out' ≡ batch_out plant requests out)
    unfolding batch_out
    written e h = (e, h ∙ rw (← e))

  -- r is what the reader returned, and k the number made of it
  module _ {r : Reading} (e : r ≡ reading_of plant) (room : ℕ) where
    pub refusal_by_lem : {k : ℕ} → k ≡ refusal_by r.answer (length requests) room → k ≡ batch_refusal plant requests room
    refusal_by_lem h = h ∙ ap (λ (x : Reading). refusal_by x.answer (length requests) room) e ∙ sym (refusal_is room)

-- each test of the number
module _ (opening bytes room : ℕ) where
  pub by_opening : opening ≢ 0 → opening ≡ refusal_by opening bytes room
  by_opening n = rw (ne_eqb opening 0 n)

  module _ (z : opening ≡ 0) where
    pub by_requests : bytes % 5 ≢ 0 → 34 ≡ refusal_by opening bytes room
    by_requests n = rw (z, ne_eqb (bytes % 5) 0 n)

    pub by_room : bytes % 5 ≡ 0 → room < bytes / 5 + 577 → 31 ≡ refusal_by opening bytes room
    by_room w l = rw (z, w, lt-ltb room (bytes / 5 + 577) l)

    pub by_none : bytes % 5 ≡ 0 → bytes / 5 + 577 ≤ room → 0 ≡ refusal_by opening bytes room
    by_none w l = rw (z, w, le-ltb room (bytes / 5 + 577) l)

-- what 0 says of it
pub record Accepts (opening bytes room : ℕ) : Type 0 where
  pub opened : opening ≡ 0
  pub whole : bytes % 5 ≡ 0
  pub room_enough : bytes / 5 + 577 ≤ room

pub accepts : (opening bytes room : ℕ) {k : ℕ} → k ≡ refusal_by opening bytes room → k ≡ 0 → Accepts opening bytes room
accepts opening bytes room {k} e z = split (eqb opening 0)
    (λ y.
    let c = clear (size_checks bytes room) (refl, (refl, tt)) (subst (λ (b : Bool). cond b (first (size_checks bytes room)) opening ≡ 0) y (sym e ∙ z)) in
    record { opened = eqb-true _ 0 y; whole = eqb-true (bytes % 5) 0 (not-false _ c.0); room_enough = omega (arith, ltb-false room (bytes / 5 + 577) c.1.0) })
    (λ y. absurd (eqb-false _ 0 y (subst (λ (b : Bool). cond b (first (size_checks bytes room)) opening ≡ 0) y (sym e ∙ z))))

-- a plant that opening accepts passes the checks of a record
pub plant_passes : (plant : List ℕ) → (reading_of plant).answer ≡ 0 → plant_refusal true true (reading_of plant).plant ≡ 0
plant_passes plant z = (sound_law (reading_of plant).plant).1 ((opens plant).sound ((opens plant).accepts.0 z))
