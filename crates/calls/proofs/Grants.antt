-- The rights of the running tasks, kept beside the record: how a start and a stop keep them, and that the gate by them is the gate. Assumes nothing.
use mathlib.Core.Path.{◌≡◌, refl, sym, ◌∙◌}
use mathlib.Core.Logic.{◌≢◌}
use Prim.Native.Nat.{ℕ, ◌+◌, ◌*◌, ◌<◌, ◌≤◌}
use native.Mathlib.Decide.{ℕ_discrete}
use native.Mathlib.Omega.{arith}
use mathlib.Core.Bool.{true, and_comm, and-false}
use mathlib.Core.List.{List}
use lib.Dec.{eqb}
use lib.ListN.{get_or, set, replicate, get_or-replicate, length-replicate, length-set}
use lib.Seq.{get_or-set_same, get_or-set_other}
use borrow.Author.Tests.{eqb-true, eq-eqb, ne_eqb}
use Rattle.base.specs.Below.{all_below}
use Rattle.base.proofs.Logic.{split}
use Rattle.plant.specs.Checks.{entry_below}
use Rattle.plant.specs.Right.{has_right}
use Rattle.plant.proofs.Links.{entry_at}
use Rattle.rules.specs.declared.Monitor.{Monitor}
use Rattle.rules.specs.Rules.{Call, start, stop, skid_of, refusal, answer}
use Rattle.rules.specs.Rules as rules
use Rattle.rules.specs.Record.{view_of, changed, stepped, chosen_at, fill_from}
use Rattle.rules.proofs.Accepted.{start_ok, stop_ok}
use Rattle.rules.proofs.Flat.{length_fill_from, fill_from_in, fill_from_out}
use Rattle.calls.specs.Lent.{Does}
use Rattle.calls.specs.Work.{grant_in, Granted, rights_in, get_row, held_in, granted_in}

module _ (rights running : List ℕ) where
  -- a skid's row is its task's rights, or empty
  of_task : (s t : ℕ) → get_or running s 0 ≡ t → t ≢ 255 → (g : ℕ) → rights_in rights t g ≡ grant_in rights running s g
  of_task s t e n g = sym (rw (e, ne_eqb t 255 n))

  of_none : (s g : ℕ) → get_or running s 0 ≡ 255 → 0 ≡ grant_in rights running s g
  of_none s g e = sym (rw (eq-eqb (get_or running s 0) 255 e))

  -- a skid's task changes, and its row with it
  pub put_row : {skids : ℕ} {granted : List ℕ} (s t : ℕ) (f : ℕ → ℕ) → s < 8 → Granted rights running skids granted
      → ((g : ℕ) → g < 8 → f g ≡ grant_in rights (set running s t) s g) → Granted rights (set running s t) skids (fill_from granted (s * 8) f 8)
  put_row {skids} {granted} s t f l G h = record {
    tasks = length-set running s t ∙ G.tasks;
    size = length_fill_from granted (s * 8) f 8 ∙ G.size;
    right = λ s' g a b. elim (ℕ_discrete s' s) [
      | yes z ↦ rw z (fill_from_in granted (s * 8) f 8 g (omega (arith, G.size)) b ∙ h g b)
      | no z ↦ fill_from_out granted (s * 8) f 8 (chosen_at s' g) (λ k d. omega arith) ∙ G.right s' g a b ∙ sym (rw (get_or-set_other running s s' t 0 z))
    ];
  }

module _ (rights running : List ℕ) {skids : ℕ} {granted : List ℕ} (s : ℕ) (l : s < 8) (G : Granted rights running skids granted) where
  now_runs : (t : ℕ) → get_or (set running s t) s 0 ≡ t
  now_runs t = get_or-set_same running s t 0 (omega (arith, G.tasks))

  pub task_put : (t : ℕ) → t < 16 → Granted rights (set running s t) skids (fill_from granted (s * 8) (rights_in rights t) 8)
  task_put t h = put_row rights running s t (rights_in rights t) l G (λ g b. of_task rights (set running s t) s t (now_runs t) (λ z. omega arith) g)

  none_put : Granted rights (set running s 255) skids (fill_from granted (s * 8) (get_row (replicate 8 0)) 8)
  none_put = put_row rights running s 255 (get_row (replicate 8 0)) l G (λ g b. get_or-replicate 8 g 0 0 b ∙ of_none rights (set running s 255) s g (now_runs 255))

-- the fresh monitor runs nothing
pub none_granted : (rights : List ℕ) (skids : ℕ) → skids ≤ 8 → Granted rights (replicate 8 255) skids (replicate 64 0)
none_granted rights skids l = record {
  tasks = length-replicate {A = ℕ} 8 255;
  size = length-replicate {A = ℕ} 64 0;
  right = λ s g a b. get_or-replicate 64 (chosen_at s g) 0 0 (omega arith) ∙ of_none rights (replicate 8 255) s g (get_or-replicate 8 s 255 0 (omega arith));
}

-- The rights are kept by a start and by a stop: where it is accepted the skid's row changes with its task, and else neither does.
module _ (m : Monitor) {granted : List ℕ} (G : Granted m.plant.task_rights m.running m.plant.skids granted) where
  -- a call that is not accepted
  refused_granted : (c : Call) {r : ℕ} {left : Monitor} → rules.accepted_answer m.plant (view_of m.plant m (skid_of c)) c ≡ 0 → Does m c r left → r ≢ 0 → Granted m.plant.task_rights left.running m.plant.skids granted
  unfolding answer stepped
  refused_granted c z d n = rw (d.leaves, ne_eqb (refusal m.plant (view_of m.plant m) c) 0 (λ e. n (d.answers ∙ rw (e, z)))) G

  pub start_refused : (s t : ℕ) {r : ℕ} {left : Monitor} → Does m (start s t) r left → r ≢ 0 → Granted m.plant.task_rights left.running m.plant.skids granted
  unfolding rules.accepted_answer
  start_refused s t = refused_granted (start s t) refl

  pub stop_refused : (s : ℕ) {r : ℕ} {left : Monitor} → Does m (stop s) r left → r ≢ 0 → Granted m.plant.task_rights left.running m.plant.skids granted
  unfolding rules.accepted_answer
  stop_refused s = refused_granted (stop s) refl

  -- a set leaves the running tasks
  pub set_granted : (s t d v : ℕ) {r : ℕ} {left : Monitor} → Does m (rules.set s t d v) r left → Granted m.plant.task_rights left.running m.plant.skids granted
  unfolding stepped changed
  set_granted s t d v w = rw w.leaves (split (eqb (refusal m.plant (view_of m.plant m) (rules.set s t d v)) 0) (λ h. rw h G) (λ h. rw h G))

  -- the call is accepted where its answer is 0
  zero : (c : Call) {r : ℕ} {left : Monitor} → Does m c r left → r ≡ 0 → refusal m.plant (view_of m.plant m) c ≡ 0
  unfolding answer
  zero c d e = split (eqb (refusal m.plant (view_of m.plant m) c) 0) (λ h. eqb-true _ _ h) (λ h. let f = sym d.answers ∙ e in rw h at f)

  pub start_items : (s t : ℕ) → m.plant.skids ≤ 8 → m.plant.tasks ≤ 16 → {r : ℕ} {left : Monitor} → Does m (start s t) r left → r ≡ 0 → (s < 8) × (t < 16)
  start_items s t a b d e = let k = start_ok m.plant (view_of m.plant m) s t (zero (start s t) d e) in (omega (arith, k.skid), omega (arith, k.task))

  pub stop_item : (s : ℕ) → m.plant.skids ≤ 8 → {r : ℕ} {left : Monitor} → Does m (stop s) r left → r ≡ 0 → s < 8
  stop_item s a d e = omega (arith, stop_ok m.plant (view_of m.plant m) s (zero (stop s) d e))

  pub start_granted : (s t : ℕ) → (s < 8) × (t < 16) → {r : ℕ} {left : Monitor} → Does m (start s t) r left → r ≡ 0
      → Granted m.plant.task_rights left.running m.plant.skids (fill_from granted (s * 8) (rights_in m.plant.task_rights t) 8)
  unfolding stepped changed
  start_granted s t l d e = rw (d.leaves, zero (start s t) d e) (task_put m.plant.task_rights m.running s l.0 G t l.1)

  pub stop_granted : (s : ℕ) → s < 8 → {r : ℕ} {left : Monitor} → Does m (stop s) r left → r ≡ 0
      → Granted m.plant.task_rights left.running m.plant.skids (fill_from granted (s * 8) (get_row (replicate 8 0)) 8)
  unfolding stepped changed
  stop_granted s l d e = rw (d.leaves, zero (stop s) d e) (none_put m.plant.task_rights m.running s l G)

  -- the same where the counts are within the record: the call is accepted, and so its items are there
  pub start_grants : (s t : ℕ) → m.plant.skids ≤ 8 → m.plant.tasks ≤ 16 → {r : ℕ} {left : Monitor} → Does m (start s t) r left → r ≡ 0
      → Granted m.plant.task_rights left.running m.plant.skids (fill_from granted (s * 8) (rights_in m.plant.task_rights t) 8)
  start_grants s t a b d e = start_granted s t (start_items s t a b d e) d e

  pub stop_grants : (s : ℕ) → m.plant.skids ≤ 8 → {r : ℕ} {left : Monitor} → Does m (stop s) r left → r ≡ 0
      → Granted m.plant.task_rights left.running m.plant.skids (fill_from granted (s * 8) (get_row (replicate 8 0)) 8)
  stop_grants s a d e = stop_granted s (stop_item s a d e) d e

-- the gate by them is the gate
module _ (group rights running chosen : List ℕ) {skids : ℕ} {granted : List ℕ} (tanks : ℕ) (G : Granted rights running skids granted) (there : all_below (entry_below group 8) tanks ≡ true) where
  pub same_held : (s o r : ℕ) → s < skids → o < tanks → granted_in group granted chosen s o r ≡ held_in group rights running chosen s o r
  same_held s o r a b = rw (G.right s (get_or group o 0) a (entry_at group 8 tanks o there b))
      (split (eqb (get_or running s 0) 255) (λ e. rw e (and-false (eqb (get_or chosen (chosen_at s (get_or group o 0)) 0) o))) (λ e. rw e (and_comm (eqb (get_or chosen (chosen_at s (get_or group o 0)) 0) o) (has_right (get_or rights (get_or running s 0 * 8 + get_or group o 0) 0) r))))
