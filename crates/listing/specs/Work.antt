-- What the writer of the list puts into the buffer, read off the record's arrays. proofs/Listed has that on a record that passes test 20 this is the listing of the rights held.
use Rattle.std.specs.Prelude.{ℕ, ◌/◌, ◌≤◌, ◌≡◌, true, cond, List, [], ◌∷◌, length, get_or}
use Rattle.base.specs.Below.{all_below}
use Rattle.base.specs.Collect.{collect}
use Rattle.plant.specs.Checks.{entry_below}
use Rattle.plant.specs.Right.{all_rights}
use Rattle.rules.specs.declared.Monitor.{Monitor}
use Rattle.calls.specs.Work.{held_in, task_known}

-- what the writer leans on in the record
pub record Known (m : Monitor) : Type 0 where
  pub skids_fit : m.plant.skids ≤ 8
  pub tanks_fit : m.plant.tanks ≤ 64
  pub groups_there : all_below (entry_below m.plant.tank_group 8) m.plant.tanks ≡ true
  pub tasks_known : all_below (task_known m.running) m.plant.skids ≡ true

module _ (m : Monitor) where
  abbrev pub right_bytes_in : ℕ → ℕ → ℕ → List ℕ
  right_bytes_in s o r = cond (held_in m.plant.tank_group m.plant.task_rights m.running m.chosen s o r) (s ∷ o ∷ r ∷ []) []

  abbrev pub tank_bytes_in : ℕ → ℕ → List ℕ
  tank_bytes_in s o = collect (λ i. right_bytes_in s o (get_or all_rights i 0)) (length all_rights)

  abbrev pub skid_bytes_in : ℕ → List ℕ
  skid_bytes_in s = collect (tank_bytes_in s) m.plant.tanks

  abbrev pub skids_bytes_in : List ℕ
  skids_bytes_in = collect skid_bytes_in m.plant.skids

  -- the count, a third of the bytes, and the bytes
  abbrev pub list_bytes_in : List ℕ
  list_bytes_in = length skids_bytes_in / 3 ∷ skids_bytes_in
