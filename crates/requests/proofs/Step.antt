-- The two ways out of a call: a record that fails test 20, and one that passes it. Assumes nothing.
use mathlib.Core.Path.{◌≡◌, refl, sym}
use Prim.Native.Nat.{ℕ}
use mathlib.Core.Bool.{Bool, true, false, cond}
use Rattle.base.proofs.Logic.{split}
use Rattle.rules.specs.declared.Monitor.{Monitor}
use Rattle.rules.specs.declared.Tested.{Tested}
use Rattle.rules.specs.Rules.{Call, answer}
use Rattle.rules.specs.Record.{view_of, intact, stepped, reply, after}
use Rattle.calls.specs.Lent.{Does}
use Rattle.requests.specs.Calls.{step_of}

module _ (m : Monitor) (c : Call) where
  module _ {b : Bool} (e : b ≡ intact m.plant m) where
    pub refused_20 : b ≡ false → record { answer = 20; monitor = m } ≡ step_of m c
    unfolding reply after
    refused_20 n = rw (← e, n)

    pub stepped_on : b ≡ true → {a : ℕ} {m' : Monitor} → a ≡ answer m.plant (view_of m.plant m) c → m' ≡ stepped m.plant m c → record { answer = a; monitor = m' } ≡ step_of m c
    unfolding reply after
    stepped_on n p q = rw (← e, n, p, q)

  -- the first by the number that the test answers
  pub answered_20 : {n : ℕ} → n ≡ cond (intact m.plant m) 0 20 → (n ≡ 0 → ⊥) → record { answer = n; monitor = m } ≡ step_of m c
  answered_20 e f = split (intact m.plant m) (λ h. absurd (f (rw h at e))) (λ h. rw (e, h) (refused_20 refl h))

-- the second on a record that is known to pass
pub passed_on : (tested : Tested) {c : Call} {a : ℕ} {left : Monitor} → Does tested.monitor c a left → record { answer = a; monitor = left } ≡ step_of tested.monitor c
passed_on tested {c} d = stepped_on tested.monitor c (sym tested.passes_test_20) refl d.answers d.leaves
