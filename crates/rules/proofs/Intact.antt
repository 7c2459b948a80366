-- Test 20 passes all along a history. Assumes nothing.
use mathlib.Core.Path.{◌≡◌, refl}
use Prim.Native.Nat.{ℕ, ◌<◌}
use mathlib.Core.Bool.{Bool, true, false, cond, not, ◌&&◌, ◌||◌, or-true}
use mathlib.Core.List.{List, [], ◌∷◌}
use lib.Dec.{eqb, ltb}
use borrow.Author.Tests.{eq-eqb, eqb-true, lt-ltb, not-false}
use Rattle.base.specs.Below.{all_below}
use Rattle.plant.specs.declared.Plant.{Plant}
use Rattle.choice.specs.Choice.{unset}
use Rattle.plant.specs.Plant.{levels_of, group_of, needs}
use Rattle.plant.specs.Valid.{Valid}
use Rattle.choice.specs.Choice.{served, choice}
use Rattle.rules.specs.Rules.{Call, set, start, stop, gate, unknown, pick_for, lacking}
use Rattle.rules.specs.Intact.{level_ok, task_ok, tank_ok, intact_view}
use Rattle.rules.specs.History.{history_level, LastStart, idle, since, last_start, history_view}
use Rattle.base.proofs.Logic.{split, and_intro, and_both, and_true, or_right}
use Rattle.base.proofs.Below.{any_no, all_yes}
use Rattle.rules.proofs.Kept.{AllAccepted}
use Rattle.rules.proofs.Accepted.{set_ok, StartOk}
use Rattle.rules.proofs.Rights.{started_runs, start_was}
use Rattle.choice.proofs.Choice.{choice_is}

module _ (P : Plant) where
  -- of two levels one is a level of its lattice or unset where each is
  one_of : (b : Bool) (d v w : ℕ) → (b ≡ true → ltb v (levels_of P d) ≡ true) → eqb w unset || ltb w (levels_of P d) ≡ true → eqb (cond b v w) unset || ltb (cond b v w) (levels_of P d) ≡ true
  one_of true d v w f h = or_right (eqb v unset) (ltb v (levels_of P d)) (f refl)
  one_of false d v w f h = h

  level_fits : (d d' v : ℕ) → eqb d d' ≡ true → v < levels_of P d' → ltb v (levels_of P d) ≡ true
  level_fits d d' v e l = rw (eqb-true d d' e, lt-ltb v (levels_of P d') l)

  level_intact : (a : List Call) → AllAccepted P a → (s t d : ℕ) → eqb (history_level a s t d) unset || ltb (history_level a s t d) (levels_of P d) ≡ true
  unfolding history_level
  level_intact [] S s t d = refl
  level_intact (set s' t' d' v ∷ a) S s t d = one_of _ d v (history_level a s t d)
      (λ y. level_fits d d' v (and_true _ _ (and_true _ _ y).1).1 (set_ok P (history_view P a) s' t' d' v S.0).lev)
      (level_intact a S.1 s t d)
  level_intact (start s' t' ∷ a) S s t d = level_intact a S.1 s t d
  level_intact (stop s' ∷ a) S s t d = level_intact a S.1 s t d
  level_intact (gate s' o r ∷ a) S s t d = level_intact a S.1 s t d
  level_intact (unknown ∷ a) S s t d = level_intact a S.1 s t d

module _ (P : Plant) (X : Valid P) (a : List Call) (S : AllAccepted P a) (s : ℕ) where
  -- the start that a history shows was accepted over the calls before it
  started_ok : (t : ℕ) (b : List Call) → last_start a s ≡ since t b → StartOk P (history_view P b) s t
  started_ok t b e = let R = started_runs a s t b e in start_was P X.counts R.later s t b (rw R.parts at S)

  tank_intact : (t : ℕ) (b : List Call) → StartOk P (history_view P b) s t → (g : ℕ) → g < P.groups
      → eqb t unset || (not (needs P t g) || (ltb (pick_for P t (history_level b s t) g) P.tanks && eqb (group_of P (pick_for P t (history_level b s t) g)) g)) ≡ true
  unfolding pick_for history_view lacking
  tank_intact t b k g l = split (needs P t g)
      (λ y. let f = any_no P.groups (λ g. needs P t g && not (served P g (history_level b s t))) k.stocked g l in
      let c = choice_is P X g l (history_level b s t) (not-false _ (rw y at f)) in
      rw (y, lt-ltb g P.groups l, lt-ltb (choice P g (history_level b s t)) P.tanks c.is_nearest.is_tank, eq-eqb (group_of P (choice P g (history_level b s t))) g c.is_nearest.of_group, or-true))
      (λ n. rw (n, or-true))

  pub history_intact : intact_view P s (history_view P a s) ≡ true
  unfolding intact_view history_view level_ok task_ok tank_ok
  history_intact = and_intro (all_yes P.tasks (λ t. all_below (λ d. level_ok P (history_view P a s) t d) P.requirements) (λ t lt. all_yes P.requirements (λ d. level_ok P (history_view P a s) t d) (λ d ld. level_intact P a S s t d)))
      (by_start (last_start a s) refl)
    where
      by_start : (z : LastStart) → last_start a s ≡ z → task_ok P s (history_view P a s) && all_below (λ g. tank_ok P (history_view P a s) g) P.groups ≡ true
      by_start idle e = and_both (task_ok P s (history_view P a s)) (all_below (λ g. tank_ok P (history_view P a s) g) P.groups) (rw e) (all_yes P.groups (λ g. tank_ok P (history_view P a s) g) (λ g l. rw e))
      by_start (since t b) e =
          let k = started_ok t b e in
          and_both (task_ok P s (history_view P a s)) (all_below (λ g. tank_ok P (history_view P a s) g) P.groups) (rw (e, lt-ltb t P.tasks k.task, k.allowed, or-true)) (all_yes P.groups (λ g. tank_ok P (history_view P a s) g) (λ g l. rw e (tank_intact t b k g l)))
