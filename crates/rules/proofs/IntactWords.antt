-- Test 20 means its words, of a skid's view and of all of them. Assumes nothing.
use mathlib.Core.Path.{◌≡◌}
use mathlib.Core.Logic.{◌⊎◌, inl, inr, ⊎_elim, ◌↔◌}
use Prim.Native.Nat.{ℕ, ◌<◌}
use mathlib.Core.Bool.{Bool, true, not, ◌&&◌, ◌||◌}
use lib.Dec.{eqb, ltb}
use borrow.Author.Tests.{eqb-true, eqb-false, eq-eqb, ne_eqb, ltb-true, lt-ltb}
use Rattle.base.specs.Below.{all_below}
use Rattle.base.proofs.Logic.{split, and_true, and_both, or_cases, or_left, or_right, not_is_false, not_is_true}
use Rattle.base.proofs.Below.{all_at, all_yes}
use Rattle.plant.specs.declared.Plant.{Plant}
use Rattle.plant.specs.Plant.{levels_of, group_of, needs, may_run}
use Rattle.plant.specs.Checks.{plant_refusal}
use Rattle.plant.proofs.Sound.{sound_law}
use Rattle.choice.specs.Choice.{unset}
use Rattle.rules.specs.Rules.{View}
use Rattle.rules.specs.Intact.{level_ok, task_ok, tank_ok, intact_view, IntactView, intact_views, IntactViews}

-- a number that is unset, or passes a test that means A
unset_or : (n : ℕ) (b : Bool) {A : Type 0} → (b ≡ true) ↔ A → (eqb n unset || b ≡ true) ↔ ((n ≡ unset) ⊎ A)
unset_or n b i = (
  λ e. split (eqb n unset) (λ y. inl (eqb-true _ _ y)) (λ z. inr (i.0 (or_cases (eqb n unset) b e z))),
  ⊎_elim (λ h. or_left (eqb n unset) b (eq-eqb _ _ h)) (λ h. or_right (eqb n unset) b (i.1 h)),
)

module _ (P : Plant) (s : ℕ) (w : View) where
  level_means : (t d : ℕ) → (level_ok P w t d ≡ true) ↔ ((w.level t d ≡ unset) ⊎ (w.level t d < levels_of P d))
  unfolding level_ok
  level_means t d = unset_or (w.level t d) (ltb (w.level t d) (levels_of P d)) (ltb-true _ _, lt-ltb _ _)

  task_means : (task_ok P s w ≡ true) ↔ ((w.running ≡ unset) ⊎ ((w.running < P.tasks) × (may_run P s w.running ≡ true)))
  unfolding task_ok
  task_means = unset_or w.running (ltb w.running P.tasks && may_run P s w.running) (
    (λ e. let q = and_true (ltb w.running P.tasks) (may_run P s w.running) e in (ltb-true _ _ q.0, q.1)),
    (λ k. and_both _ _ (lt-ltb _ _ k.0) k.1),
  )

  tank_words : (g : ℕ) → tank_ok P w g ≡ true → (w.running ≡ unset → ⊥) → needs P w.running g ≡ true → (w.chosen g < P.tanks) × (group_of P (w.chosen g) ≡ g)
  unfolding tank_ok
  tank_words g e n y =
      let inGroup = ltb (w.chosen g) P.tanks && eqb (group_of P (w.chosen g)) g in
      let a = or_cases (eqb w.running unset) (not (needs P w.running g) || inGroup) e (ne_eqb _ _ n) in
      let b = and_true (ltb (w.chosen g) P.tanks) (eqb (group_of P (w.chosen g)) g) (or_cases (not (needs P w.running g)) inGroup a (not_is_false _ y)) in
      (ltb-true _ _ b.0, eqb-true _ _ b.1)

  tank_back : (g : ℕ) → ((w.running ≡ unset → ⊥) → needs P w.running g ≡ true → (w.chosen g < P.tanks) × (group_of P (w.chosen g) ≡ g)) → tank_ok P w g ≡ true
  unfolding tank_ok
  tank_back g f =
      let inGroup = ltb (w.chosen g) P.tanks && eqb (group_of P (w.chosen g)) g in
      split (eqb w.running unset)
      (λ y. or_left (eqb w.running unset) (not (needs P w.running g) || inGroup) y)
      (λ z. or_right (eqb w.running unset) (not (needs P w.running g) || inGroup) (split (needs P w.running g)
      (λ y. let k = f (eqb-false _ _ z) y in or_right (not (needs P w.running g)) inGroup (and_both _ _ (lt-ltb _ _ k.0) (eq-eqb _ _ k.1)))
      (λ y. or_left (not (needs P w.running g)) inGroup (not_is_true _ y))))

  levels_ok : ℕ → Bool
  levels_ok t = all_below (λ (d : ℕ). level_ok P w t d) P.requirements

  pub view_means : (intact_view P s w ≡ true) ↔ IntactView P s w
  unfolding intact_view levels_ok
  view_means = (to, from)
    where
      to : intact_view P s w ≡ true → IntactView P s w
      to e =
          let a = and_true (all_below levels_ok P.tasks) (task_ok P s w && all_below (λ (g : ℕ). tank_ok P w g) P.groups) e in
          let b = and_true (task_ok P s w) (all_below (λ (g : ℕ). tank_ok P w g) P.groups) a.1 in
          record {
            levels_known = λ t d lt ld. (level_means t d).0 (all_at P.requirements (λ (d' : ℕ). level_ok P w t d') (all_at P.tasks levels_ok a.0 t lt) d ld);
            task_allowed = task_means.0 b.0;
            tanks_of_group = λ g l. tank_words g (all_at P.groups (λ (g' : ℕ). tank_ok P w g') b.1 g l);
          }

      from : IntactView P s w → intact_view P s w ≡ true
      from k = and_both _ _ (all_yes P.tasks levels_ok (λ t lt. all_yes P.requirements (λ (d : ℕ). level_ok P w t d) (λ d ld. (level_means t d).1 (k.levels_known t d lt ld))))
          (and_both _ _ (task_means.1 k.task_allowed) (all_yes P.groups (λ (g : ℕ). tank_ok P w g) (λ g l. tank_back g (k.tanks_of_group g l))))

-- test 20 passes exactly where the plant is sound and what is known of each skid is as the words have it
pub intact_means : (P : Plant) (vs : ℕ → View) → (intact_views P vs ≡ true) ↔ IntactViews P vs
unfolding intact_views
intact_means P vs = (
  (λ e.
      let a = and_true (eqb (plant_refusal true true P) 0) (all_below (λ (s : ℕ). intact_view P s (vs s)) P.skids) e in
      record {
        plant_sound = (sound_law P).0 (eqb-true _ _ a.0);
        skids_intact = λ s l. (view_means P s (vs s)).0 (all_at P.skids (λ (s : ℕ). intact_view P s (vs s)) a.1 s l);
      }),
  (λ k. and_both _ _ (eq-eqb _ _ ((sound_law P).1 k.plant_sound))
      (all_yes P.skids (λ (s : ℕ). intact_view P s (vs s)) (λ s l. (view_means P s (vs s)).1 (k.skids_intact s l)))),
)
