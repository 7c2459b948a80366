-- What an accepted call tells: each test of the chain failed. Assumes nothing.
use mathlib.Core.Logic.{◌↔◌}
use mathlib.Core.Path.{◌≡◌, refl}
use Prim.Native.Nat.{ℕ, ◌<◌}
use native.Mathlib.Omega.{arith}
use mathlib.Core.Bool.{true, false}
use lib.Dec.{eqb}
use borrow.Author.Tests.{leb-false, lt-leb, eqb-true, eqb-false, not-false}
use Rattle.plant.specs.declared.Plant.{Plant}
use Rattle.choice.specs.Choice.{unset}
use Rattle.plant.specs.Plant.{levels_of, may_run}
use Rattle.rules.specs.Rules.{Call, set, start, stop, gate, unknown, View, conditions, refusal, blank, lacking, answer, accepted_answer, holds}
use Rattle.base.proofs.Logic.{split}
use Rattle.base.specs.Chain.{Clear}
use Rattle.base.proofs.Chain.{Numbered, clear}

-- The numbers of a call's conditions are above 0. Words has it too, as `call_numbered`: cited from there, the must-fail edit set_asks_permission, whose
-- proof follows here, is one that the check cannot read.
numbered : (P : Plant) (vs : ℕ → View) (c : Call) → Numbered (conditions P vs c)
unfolding conditions
numbered P vs (set s t d v) = (refl, (refl, (refl, (refl, tt))))
numbered P vs (start s t) = (refl, (refl, (refl, (refl, (refl, (refl, tt))))))
numbered P vs (stop s) = (refl, tt)
numbered P vs (gate s o r) = (refl, (refl, (refl, tt)))
numbered P vs unknown = (refl, tt)

module _ (P : Plant) (vs : ℕ → View) where
  pub accepted : (c : Call) → refusal P vs c ≡ 0 → Clear (conditions P vs c)
  unfolding refusal
  accepted c e = clear (conditions P vs c) (numbered P vs c) e

  pub record SetOk (s t d v : ℕ) : Type 0 where
    pub skid : s < P.skids
    pub task : t < P.tasks
    pub req : d < P.requirements
    pub lev : v < levels_of P d

  pub record StartOk (s t : ℕ) : Type 0 where
    pub skid : s < P.skids
    pub task : t < P.tasks
    pub allowed : may_run P s t ≡ true
    pub idle : (vs s).running ≡ unset
    pub filled : blank P t ((vs s).level t) ≡ false
    pub stocked : lacking P t ((vs s).level t) ≡ false

  pub record GateOk (s o r : ℕ) : Type 0 where
    pub skid : s < P.skids
    pub tank : o < P.tanks
    pub right : r < 3

  pub set_ok : (s t d v : ℕ) → refusal P vs (set s t d v) ≡ 0 → SetOk s t d v
  unfolding conditions
  set_ok s t d v e =
      let k = accepted (set s t d v) e in
      record { skid = leb-false _ _ k.0; task = leb-false _ _ k.1.0; req = leb-false _ _ k.1.1.0; lev = leb-false _ _ k.1.1.1.0 }

  pub start_ok : (s t : ℕ) → refusal P vs (start s t) ≡ 0 → StartOk s t
  unfolding conditions
  start_ok s t e =
      let k = accepted (start s t) e in
      record {
        skid = leb-false _ _ k.0;
        task = leb-false _ _ k.1.0;
        allowed = not-false _ k.1.1.0;
        idle = eqb-true _ _ (not-false _ k.1.1.1.0);
        filled = k.1.1.1.1.0;
        stocked = k.1.1.1.1.1.0;
      }

  pub stop_ok : (s : ℕ) → refusal P vs (stop s) ≡ 0 → s < P.skids
  unfolding conditions
  stop_ok s e = leb-false _ _ (accepted (stop s) e).0

  pub gate_ok : (s o r : ℕ) → refusal P vs (gate s o r) ≡ 0 → GateOk s o r
  unfolding conditions
  gate_ok s o r e = let k = accepted (gate s o r) e in record { skid = leb-false _ _ k.0; tank = leb-false _ _ k.1.0; right = leb-false _ _ k.1.1.0 }

  pub gate_let : (s o r : ℕ) → GateOk s o r → refusal P vs (gate s o r) ≡ 0
  unfolding refusal conditions
  gate_let s o r k = search (lt-leb, arith)

  -- a gate answers 0 exactly where it is accepted and the right is held
  pub gate_zero : (s o r : ℕ) → answer P vs (gate s o r) ≡ 0 ↔ GateOk s o r × (holds P (vs s) o r ≡ true)
  unfolding answer accepted_answer
  gate_zero s o r = (to, λ k. rw (gate_let s o r k.0, k.1))
    where
      to : answer P vs (gate s o r) ≡ 0 → GateOk s o r × (holds P (vs s) o r ≡ true)
      to e = split (eqb (refusal P vs (gate s o r)) 0)
          (λ y. (gate_ok s o r (eqb-true _ _ y), split (holds P (vs s) o r) (λ h. h) (λ h. let z : ◌≡◌ {A = ℕ} 33 0 = rw (y, h) at e in absurd (omega arith))))
          (λ y. absurd (eqb-false _ _ y (rw y at e)))
