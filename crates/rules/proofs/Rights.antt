-- What the history's views say is what 01's words for the history say. Assumes nothing.
use mathlib.Core.Path.{◌≡◌, refl, ap}
use mathlib.Core.Logic.{◌≢◌}
use Prim.Native.Nat.{ℕ}
use native.Mathlib.Omega.{arith}
use mathlib.Core.List.{List, [], ◌∷◌, ◌++◌}
use lib.Dec.{eqb}
use borrow.Author.Tests.{eqb-true, eqb-false, eq-eqb, ne_eqb}
use Rattle.plant.specs.declared.Plant.{Plant}
use Rattle.choice.specs.Choice.{unset}
use Rattle.plant.specs.Checks.{Fits}
use Rattle.rules.specs.Rules.{Call, set, start, stop, gate, unknown}
use Rattle.rules.specs.History.{since, last_start, started_task, history_view}
use Rattle.rules.specs.Rights.{Unstopped, Runs}
use Rattle.base.proofs.Logic.{split}
use Rattle.rules.proofs.Kept.{AllAccepted, accepted_after}
use Rattle.rules.proofs.Accepted.{StartOk, start_ok}

zero_one : ◌≡◌ {A = ℕ} 0 1 → ⊥
zero_one e = omega arith

-- the latest start that no stop followed, found by walking the list
runs_more : (c : Call) (a : List Call) (s t : ℕ) (b : List Call) → c ≢ stop s → Runs a s t b → Runs (c ∷ a) s t b
runs_more c a s t b n R = record { later = c ∷ R.later; parts = ap (λ l. c ∷ l) R.parts; unstopped = (n, R.unstopped) }

pub started_runs : (a : List Call) (s t : ℕ) (b : List Call) → last_start a s ≡ since t b → Runs a s t b
unfolding last_start
started_runs [] s t b e = absurd (zero_one (cc))
started_runs (set s' t' d v ∷ a) s t b e = runs_more _ a s t b (λ z. zero_one (cc)) (started_runs a s t b e)
started_runs (start s' t' ∷ a) s t b e = split (eqb s s')
    (λ y. let h : since t' a ≡ since t b = rw y at e in
    let i = eqb-true s s' y in
    record { later = []; parts = cc; unstopped = tt })
    (λ n. runs_more _ a s t b (λ z. zero_one (cc)) (started_runs a s t b (rw n at e)))
started_runs (stop s' ∷ a) s t b e = split (eqb s s')
    (λ y. absurd (zero_one (cc)))
    (λ n. runs_more _ a s t b (λ z. eqb-false s s' n (cc)) (started_runs a s t b (rw n at e)))
started_runs (gate s' o r ∷ a) s t b e = runs_more _ a s t b (λ z. zero_one (cc)) (started_runs a s t b e)
started_runs (unknown ∷ a) s t b e = runs_more _ a s t b (λ z. zero_one (cc)) (started_runs a s t b e)

module _ (P : Plant) (C : Fits P) where
  -- an accepted start, seen from later
  pub start_was : (l : List Call) (s t : ℕ) (b : List Call) → AllAccepted P (l ++ (start s t ∷ b)) → StartOk P (history_view P b) s t
  start_was l s t b S = start_ok P (history_view P b) s t (accepted_after P l (start s t ∷ b) S).0

  runs_on : (l : List Call) (s t : ℕ) (b : List Call) → AllAccepted P (l ++ (start s t ∷ b)) → Unstopped s l → last_start (l ++ (start s t ∷ b)) s ≡ since t b
  unfolding last_start history_view
  runs_on [] s t b S u = rw (eq-eqb s s refl)
  runs_on (set s' t' d v ∷ l) s t b S u = runs_on l s t b S.1 u.1
  runs_on (start s' t' ∷ l) s t b S u =
      let h = runs_on l s t b S.1 u.1 in
      split (eqb s s')
      (λ y. let i = eqb-true s s' y in
      let k : started_task (last_start (l ++ (start s t ∷ b)) s') ≡ unset = (start_ok P (history_view P (l ++ (start s t ∷ b))) s' t' S.0).idle in
      let z : t ≡ unset = cc in
      absurd (omega (arith, start_was l s t b S.1)))
      (λ n. rw n h)
  runs_on (stop s' ∷ l) s t b S u = rw (ne_eqb s s' (λ z. u.0 (cc))) (runs_on l s t b S.1 u.1)
  runs_on (gate s' o r ∷ l) s t b S u = runs_on l s t b S.1 u.1
  runs_on (unknown ∷ l) s t b S u = runs_on l s t b S.1 u.1

  pub runs_started : (a : List Call) (s t : ℕ) (b : List Call) → AllAccepted P a → Runs a s t b → last_start a s ≡ since t b
  runs_started a s t b S R = rw R.parts (runs_on R.later s t b (rw R.parts at S) R.unstopped)

  -- at most one task, and one start of it
  pub one_task : (a : List Call) (s t t' : ℕ) (b b' : List Call) → AllAccepted P a → Runs a s t b → Runs a s t' b' → (t ≡ t') × (b ≡ b')
  one_task a s t t' b b' S R R' =
      let p = runs_started a s t b S R in
      let q = runs_started a s t' b' S R' in
      (cc, cc)
