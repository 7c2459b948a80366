-- Within the counts, what a record that passes test 20 says of a skid is what its arrays hold. Assumes nothing.
use mathlib.Core.Path.{◌≡◌}
use Prim.Native.Nat.{ℕ, ◌<◌}
use mathlib.Core.Bool.{true}
use lib.ListN.{get_or}
use borrow.Author.Tests.{lt-ltb}
use Rattle.plant.specs.declared.Plant.{Plant}
use Rattle.plant.specs.Plant.{requirement_of, group_of}
use Rattle.plant.specs.Valid.{Valid}
use Rattle.rules.specs.declared.Monitor.{Monitor}
use Rattle.rules.specs.Rules.{View, holds}
use Rattle.rules.specs.Record.{view_of, level_at, chosen_at, intact}
use Rattle.calls.specs.Work.{held_in}
use Rattle.calls.proofs.Ready.{plant_valid}

module _ (m : Monitor) (i : intact m.plant m ≡ true) where
  abbrev P : Plant
  P = m.plant

  abbrev vs : ℕ → View
  vs = view_of P m

  X : Valid P
  X = plant_valid m i

  pub level_is : (s t g : ℕ) → s < P.skids → t < P.tasks → g < P.groups → (vs s).level t (requirement_of P g) ≡ get_or m.levels (level_at s t (requirement_of P g)) 0
  unfolding view_of
  level_is s t g a b c = rw (lt-ltb s P.skids a, lt-ltb t P.tasks b, lt-ltb (requirement_of P g) P.requirements (X.req_in g c))

  pub running_is : (s : ℕ) → s < P.skids → (vs s).running ≡ get_or m.running s 0
  unfolding view_of
  running_is s a = rw (lt-ltb s P.skids a)

  pub chosen_is : (s g : ℕ) → s < P.skids → g < P.groups → (vs s).chosen g ≡ get_or m.chosen (chosen_at s g) 0
  unfolding view_of
  chosen_is s g a b = rw (lt-ltb s P.skids a, lt-ltb g P.groups b)

  -- what the arrays say of a right held is what the view says
  pub held_same : (s o r : ℕ) → s < P.skids → o < P.tanks → held_in P.tank_group P.task_rights m.running m.chosen s o r ≡ holds P (vs s) o r
  unfolding holds
  held_same s o r a b = rw (running_is s a, chosen_is s (group_of P o) a (X.group_in o b))
