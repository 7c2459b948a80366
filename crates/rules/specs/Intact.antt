-- Test 20: what a monitor's record must be like before a call looks at it. A record can come from anywhere, so every call asks this first.
use Rattle.std.specs.Prelude.{◌≡◌, ◌⊎◌, ℕ, ◌<◌, Bool, true, not, ◌&&◌, ◌||◌, eqb, ltb}
use Rattle.base.specs.Below.{all_below}
use Rattle.plant.specs.declared.Plant.{Plant}
use Rattle.plant.specs.Plant.{levels_of, group_of, needs, may_run}
use Rattle.plant.specs.Checks.{Sound, plant_refusal}
use Rattle.choice.specs.Choice.{unset}
use Rattle.rules.specs.Rules.{View}

module _ (P : Plant) where
  -- A level is unset or one of its lattice: any other compares with no tank, or with whatever bits lie behind the lattice's own.
  unfoldable pub level_ok : View → ℕ → ℕ → Bool
  level_ok w t d = eqb (w.level t d) unset || ltb (w.level t d) (levels_of P d)

  -- A running task is none or one that the skid may run: no start can have begun another, and its rights would be nobody's decision.
  unfoldable pub task_ok : ℕ → View → Bool
  task_ok s w = eqb w.running unset || (ltb w.running P.tasks && may_run P s w.running)

  -- Where the running task has a right, the chosen tank is one of that group: a gate would else open on another component.
  unfoldable pub tank_ok : View → ℕ → Bool
  tank_ok w g = eqb w.running unset || (not (needs P w.running g) || (ltb (w.chosen g) P.tanks && eqb (group_of P (w.chosen g)) g))

  -- the view of skid s passes, in the items within the counts
  unfoldable pub intact_view : ℕ → View → Bool
  intact_view s w = all_below (λ t. all_below (λ d. level_ok w t d) P.requirements) P.tasks && (task_ok s w && all_below (λ g. tank_ok w g) P.groups)

  -- Test 20, of the plant and of what is known of every skid: the plant, read within the counts, keeps 3 and 7 to 12, and each skid's view passes.
  unfoldable pub intact_views : (ℕ → View) → Bool
  intact_views vs = eqb (plant_refusal true true P) 0 && all_below (λ s. intact_view s (vs s)) P.skids

-- The same in words. proofs/IntactWords has that the test means this.
pub record IntactView (P : Plant) (s : ℕ) (w : View) : Type 0 where
  pub levels_known : (t d : ℕ) → t < P.tasks → d < P.requirements → (w.level t d ≡ unset) ⊎ (w.level t d < levels_of P d)
  pub task_allowed : (w.running ≡ unset) ⊎ ((w.running < P.tasks) × (may_run P s w.running ≡ true))
  pub tanks_of_group : (g : ℕ) → g < P.groups → (w.running ≡ unset → ⊥) → needs P w.running g ≡ true → (w.chosen g < P.tanks) × (group_of P (w.chosen g) ≡ g)

pub record IntactViews (P : Plant) (vs : ℕ → View) : Type 0 where
  pub plant_sound : Sound P
  pub skids_intact : (s : ℕ) → s < P.skids → IntactView P s (vs s)
