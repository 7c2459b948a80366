-- The work of set, stop and gate does what the rules say, on every record that passes test 20. Assumes nothing.
use mathlib.Core.Path.{◌≡◌, refl, sym, ap, subst, ◌∙◌}
use Prim.Native.Nat.{ℕ, ◌*◌, ◌<◌}
use native.Mathlib.Omega.{arith}
use mathlib.Core.Bool.{Bool, true, false, cond, not}
use mathlib.Core.List.{List, [], ◌∷◌}
use lib.Dec.{eqb, leb}
use lib.ListN.{get_or, replicate, get_or-replicate}
use lib.ListN as ListN
use borrow.Author.Tests.{leb-false, eqb-true}
use Rattle.std.specs.Prelude.{Result, Ok, Err}
use Rattle.std.specs.Result.{IsErr, IsErrAnd}
use Rattle.base.specs.Chain.{Test, ◌gives◌, first}
use Rattle.base.proofs.Chain.{clear, first_append}
use Rattle.base.proofs.Logic.{split}
use Rattle.base.proofs.Below.{all_at}
use Rattle.plant.specs.declared.Plant.{Plant}
use Rattle.plant.specs.Plant.{lattice_of, levels_of}
use Rattle.plant.specs.Right.{valid_right}
use Rattle.choice.specs.Choice.{unset}
use Rattle.refusal.specs.declared.Refusal.{Refusal}
use Rattle.refusal.specs.Number.{number_of, gate_answer_of}
use Rattle.refusal.proofs.NotZero.{number_not_0}
use Rattle.rules.specs.declared.Monitor.{Monitor}
use Rattle.rules.specs.declared.Tested.{Tested}
use Rattle.rules.specs.Rules.{Call, set, start, stop, gate, unknown, skid_of, View, holds, conditions, refusal, accepted_answer, answer}
use Rattle.rules.specs.Record.{Sized, view_of, level_at, fill_from, intact, changed, stepped, after, with_levels, with_task}
use Rattle.rules.proofs.Accepted.{GateOk, gate_ok}
use Rattle.rules.proofs.IntactKept.{Passes, after_stepped, after_passes}
use Rattle.calls.specs.Work.{task_known, Granted, held_in, granted_in, set_items, get_row}
use Rattle.calls.specs.Lent.{Does}
use Rattle.calls.proofs.Rows.{row_same}
use Rattle.calls.proofs.There.{no_right}
use Rattle.calls.proofs.Views.{held_same}
use Rattle.calls.proofs.Grants.{same_held}
use Rattle.calls.proofs.Ready.{plant_valid, groups_there, tasks_known}

-- a call that answers 0 where it is accepted
pub does : (m : Monitor) (c : Call) {r : ℕ} {left : Monitor} → accepted_answer m.plant (view_of m.plant m (skid_of c)) c ≡ 0
    → r ≡ refusal m.plant (view_of m.plant m) c → left ≡ cond (eqb r 0) (changed m.plant m c) m → Does m c r left
unfolding answer stepped
does m c z e l = record {
  answers = e ∙ sym (split (eqb (refusal m.plant (view_of m.plant m) c) 0) (λ h. rw h (z ∙ sym (eqb-true _ _ h))) (λ h. rw h));
  leaves = l ∙ rw e;
}

-- no call changes the plant
changed_plant : (m : Monitor) (c : Call) → (changed m.plant m c).plant ≡ m.plant
unfolding changed
changed_plant m (set s t d v) = refl
changed_plant m (start s t) = refl
changed_plant m (stop s) = refl
changed_plant m (gate s o r) = refl
changed_plant m unknown = refl

pub plant_kept : {m : Monitor} {c : Call} {r : ℕ} {left : Monitor} → Does m c r left → m.plant ≡ left.plant
unfolding stepped
plant_kept {m} {c} d = sym (ap (λ (x : Monitor). x.plant) d.leaves ∙ split (eqb (refusal m.plant (view_of m.plant m) c) 0) (λ h. rw h (changed_plant m c)) (λ h. rw h))

-- a record that has passed test 20 passes it after any call
pub still_passes : (tested : Tested) {c : Call} {r : ℕ} {left : Monitor} → Does tested.monitor c r left
    → record { sized : Sized left; passes_test_20 : intact left.plant left ≡ true }
still_passes tested {c} {r} {left} d =
    let m = tested.monitor in
    let A : Passes m.plant m = record { kept = refl; sized = tested.sized; passes = tested.passes_test_20 } in
    let B : Passes m.plant (after m.plant m c) = after_passes m.plant m A c in
    rw (d.leaves, ← after_stepped m.plant m A c)
    (record { sized = B.sized; passes_test_20 = subst (λ (p : Plant). intact p (after m.plant m c) ≡ true) (sym B.kept) B.passes })

module _ (m : Monitor) (i : intact m.plant m ≡ true) where
  abbrev P : Plant
  P = m.plant

  abbrev vs : ℕ → View
  vs = view_of P m

  -- set
  module _ (s t d v : ℕ) where
    abbrev items : List Test
    items = set_items P s t d

    abbrev level : List Test
    level = leb (levels_of P d) v gives 24 ∷ []

    set_number : refusal P vs (set s t d v) ≡ cond (eqb (first items) 0) (first level) (first items)
    unfolding refusal conditions
    set_number = first_append items level (refl, (refl, (refl, tt)))

    set_does : {r : ℕ} {left : Monitor} → r ≡ cond (eqb (first items) 0) (first level) (first items)
        → left ≡ cond (eqb r 0) (with_levels m (ListN.set m.levels (level_at s t d) v)) m → Does m (set s t d v) r left
    unfolding accepted_answer changed
    set_does e l = does m (set s t d v) refl (e ∙ sym set_number) l

    -- `x` is the number of the first of the items that is missing, 0 where all are there
    module _ {x : ℕ} (e : x ≡ first items) where
      pub set_missing : eqb x 0 ≡ false → Does m (set s t d v) x m
      set_missing n = set_does (e ∙ sym (rw (rw e at n))) (rw n)

      module _ (z : x ≡ 0) where
        pub set_fits : ((s < 8) × (t < 16)) × ((d < 8) × (lattice_of P d < 8))
        set_fits =
            let k = clear items (refl, (refl, (refl, tt))) (sym e ∙ z) in
            let w = plant_valid m i in
            let l : d < P.requirements = leb-false _ _ k.1.1.0 in (
              (omega (arith, leb-false _ _ k.0, w.counts.skids_fit), omega (arith, leb-false _ _ k.1.0, w.counts.tasks_fit)),
              (omega (arith, l, w.counts.requirements_fit), omega (arith, w.lattice_in d l, w.counts.lattices_fit)),
            )

        pub set_level : {r : ℕ} {left : Monitor} → r ≡ first level → left ≡ cond (eqb r 0) (with_levels m (ListN.set m.levels (level_at s t d) v)) m
            → Does m (set s t d v) r left
        set_level a l = set_does (a ∙ sym (rw (sym e ∙ z))) l

  -- stop
  pub stop_does : (s : ℕ) {r : ℕ} {left : Monitor} → r ≡ first (leb P.skids s gives 21 ∷ [])
      → left ≡ cond (eqb r 0) (with_task m (ListN.set m.running s 255) (fill_from m.chosen (s * 8) (get_row (replicate 8 255)) 8)) m → Does m (stop s) r left
  unfolding refusal conditions accepted_answer changed
  stop_does s {r} e l = does m (stop s) refl e
      (l ∙ rw (row_same m.chosen (s * 8) (get_row (replicate 8 255)) (λ g. unset) 8 (λ g l. get_or-replicate 8 g 255 0 l)))

-- gate: the number where the skid, the tank or the right is not there
pub gate_number : (P : Plant) (s o r : ℕ) (vs : ℕ → View) {right : Bool} → right ≡ valid_right r → refusal P vs (gate s o r) ≡ first (leb P.skids s gives 21 ∷ leb P.tanks o gives 29 ∷ not right gives 30 ∷ [])
unfolding refusal conditions
gate_number P s o r vs e = rw (no_right r e)

-- A gate whose items are tested: `x` is the number of the first that is not there.
module _ (m : Monitor) (i : intact m.plant m ≡ true) (s o r : ℕ) {x : ℕ} (e : (vs : ℕ → View) → x ≡ refusal m.plant vs (gate s o r)) where
  abbrev number : ℕ
  number = refusal m.plant (view_of m.plant m) (gate s o r)

  -- a gate leaves the record, refused or not
  gate_leaves : m ≡ stepped m.plant m (gate s o r)
  unfolding stepped changed
  gate_leaves = split (eqb number 0) (λ h. rw h) (λ h. rw h)

  same_number : x ≡ number
  same_number = e (view_of m.plant m)

  pub gate_refused : eqb x 0 ≡ false → Does m (gate s o r) x m
  unfolding answer
  gate_refused n = record { answers = same_number ∙ sym (rw (rw same_number at n)); leaves = gate_leaves }

  module _ (z : x ≡ 0) where
    none_missing : number ≡ 0
    none_missing = sym same_number ∙ z

    ok : GateOk m.plant (view_of m.plant m) s o r
    ok = gate_ok m.plant (view_of m.plant m) s o r none_missing

    tells : {held : Bool} → held ≡ holds m.plant (view_of m.plant m s) o r → Does m (gate s o r) (cond held 0 33) m
    unfolding answer accepted_answer
    tells h = record { answers = rw (none_missing, h); leaves = gate_leaves }

    pub items_fit : ((s < 8) × (o < 64)) × (get_or m.plant.tank_group o 0 < 8)
    items_fit =
        let w = plant_valid m i in
        ((omega (arith, ok.skid, w.counts.skids_fit), omega (arith, ok.tank, w.counts.tanks_fit)), omega (arith, w.group_in o ok.tank, w.counts.groups_fit))

    -- the right is held by the record exactly where the rules say so
    pub task_in : task_known m.running s ≡ true
    task_in = all_at m.plant.skids (task_known m.running) (tasks_known m i) s ok.skid

    pub held_told : held_in m.plant.tank_group m.plant.task_rights m.running m.chosen s o r ≡ holds m.plant (view_of m.plant m s) o r
    held_told = held_same m i s o r ok.skid ok.tank

    pub gate_by_record : {held : Bool} → held ≡ held_in m.plant.tank_group m.plant.task_rights m.running m.chosen s o r → Does m (gate s o r) (cond held 0 33) m
    gate_by_record k = tells (k ∙ held_told)

    -- and by the rights granted
    module _ {granted : List ℕ} (G : Granted m.plant.task_rights m.running m.plant.skids granted) where
      pub granted_told : granted_in m.plant.tank_group granted m.chosen s o r ≡ holds m.plant (view_of m.plant m s) o r
      granted_told =
          same_held m.plant.tank_group m.plant.task_rights m.running m.chosen m.plant.tanks G (groups_there m i) s o r ok.skid ok.tank ∙ held_told

      pub gate_by_grants : {held : Bool} → held ≡ granted_in m.plant.tank_group granted m.chosen s o r → Does m (gate s o r) (cond held 0 33) m
      gate_by_grants k = tells (k ∙ granted_told)

-- a gate whose check accepts: `at` is its skid as an index
pub gate_bounds : (tested : Tested) (s o r : ℕ) → ((vs : ℕ → View) → 0 ≡ refusal tested.monitor.plant vs (gate s o r)) → {at : ℕ} → at ≡ s → (at < 8) × (o < 64)
gate_bounds tested s o r e w = rw w (items_fit tested.monitor tested.passes_test_20 s o r e refl).0

-- a gate whose check refuses, with what `?` hands on
pub gate_handed_on : (tested : Tested) (s o r : ℕ) (f : Refusal) → ((vs : ℕ → View) → number_of f ≡ refusal tested.monitor.plant vs (gate s o r))
    → (outcome : Result Bool Refusal) → IsErr outcome × IsErrAnd outcome (λ x. x ≡ f) → Does tested.monitor (gate s o r) (gate_answer_of outcome) tested.monitor
gate_handed_on tested s o r f e (Ok held) h = absurd h.1
gate_handed_on tested s o r f e (Err x) h = rw h.1 (gate_refused tested.monitor tested.passes_test_20 s o r e (number_not_0 f))

-- a request of no known kind
pub unknown_does : (m : Monitor) → Does m unknown 32 m
unfolding refusal conditions accepted_answer
unknown_does m = does m unknown refl refl refl
