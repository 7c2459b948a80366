-- What a start finds at its groups and what it stores, on the record that is lent to it.
use Rattle.std.specs.Prelude.{◌≡◌, ◌≢◌, ℕ, ◌<◌, true, cond, List, Option, eqb, get_or, drop}
use Rattle.base.specs.Chain.{Test, first}
use Rattle.plant.specs.declared.Plant.{Plant}
use Rattle.plant.specs.Plant.{requirement_of, needs}
use Rattle.plant.specs.Valid.{Valid}
use Rattle.choice.specs.Choice.{unset, if_set, choice}
use Rattle.choice.specs.Table.{made_at}
use Rattle.rules.specs.declared.Monitor.{Monitor}
use Rattle.rules.specs.Rules.{start, conditions}
use Rattle.rules.specs.Record.{view_of, level_at, changed, intact}
use Rattle.calls.specs.Work.{level_known}

-- The rules' conditions of a start behind 21 to 26, which ask nothing of the levels and the groups.
abbrev pub late_tests : Monitor → ℕ → ℕ → List Test
late_tests m s t = drop 4 (conditions m.plant (view_of m.plant m) (start s t))

-- task t needs group g
abbrev pub NeedsAt : Plant → ℕ → ℕ → Type 0
NeedsAt P t g = (g < P.groups) × (needs P t g ≡ true)

-- the level that the skid has for each requirement in the task
abbrev pub wish_of : Monitor → ℕ → ℕ → ℕ → ℕ
wish_of m s t = (view_of m.plant m s).level t

-- the same, as it is stored
abbrev pub stored_wish : List ℕ → ℕ → ℕ → ℕ → ℕ
stored_wish levels s t d = get_or levels (level_at s t d) 0

-- `made` has what a start looks up: for each group that the task needs, the choice under the level that the skid has. A list has it of every level.
abbrev pub Looked : Plant → List ℕ → ℕ → ℕ → List (List (Option ℕ)) → Type 0
Looked P levels s t made = (g : ℕ) → NeedsAt P t g → stored_wish levels s t (requirement_of P g) ≢ unset
    → made_at made g (stored_wish levels s t (requirement_of P g)) ≡ if_set (choice P g (stored_wish levels s t))

-- What the choices are searched in: the plant's items are linked, and the skid's levels in the task are unset or levels.
pub record SearchReads (P : Plant) (levels : List ℕ) (s t : ℕ) : Type 0 where
  pub valid : Valid P
  pub skid : s < 8
  pub task : t < 16
  pub levels_known : (g : ℕ) → g < P.groups → level_known levels s t (requirement_of P g) ≡ true

-- a record that passes test 20, and a skid and a task that are there
pub record Startable (s t : ℕ) (m : Monitor) : Type 0 where
  pub passes : intact m.plant m ≡ true
  pub skid : s < m.plant.skids
  pub task : t < m.plant.tasks

-- what the late conditions read
pub record LateReads (made : List (List (Option ℕ))) (s t : ℕ) (m : Monitor) : Type 0 where
  pub startable : Startable s t m
  pub table : Looked m.plant m.levels s t made

-- what the late conditions and the storing do
pub record LateDone (m : Monitor) (s t number : ℕ) (left : Monitor) : Type 0 where
  pub answers : number ≡ first (late_tests m s t)
  pub leaves : left ≡ cond (eqb number 0) (changed m.plant m (start s t)) m
