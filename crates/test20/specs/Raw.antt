-- Test 20 on the record's flat lists, in the order in which the code reads them. proofs/Views has that within the counts this is the test
-- of each skid's view.
use Rattle.std.specs.Prelude.{ℕ, ◌+◌, ◌*◌, Bool, ◌&&◌, ◌||◌, List, eqb, ltb, get_or, replicate}
use Rattle.base.specs.Below.{all_below}
use Rattle.base.specs.Bits.{bit}
use Rattle.base.specs.Fill.{fill}
use Rattle.plant.specs.declared.Plant.{Plant}
use Rattle.plant.specs.Plant.{levels_of}
use Rattle.choice.specs.Choice.{unset}

-- How many levels each requirement has, and 255 past the count.
abbrev pub most : Plant → List ℕ
most p = fill (levels_of p) (replicate 8 255) p.requirements

-- level v is unset or one of n levels
abbrev pub level_in : ℕ → ℕ → Bool
level_in v n = eqb v unset || ltb v n

-- A level passes, at its requirement's place in the row of a skid and a task; all of such a row; all rows of a skid. xs has the number of
-- levels of each requirement.
abbrev pub row_level_in : List ℕ → List ℕ → ℕ → ℕ → Bool
row_level_in levels xs row d = level_in (get_or levels (row * 8 + d) 0) (get_or xs d 0)

abbrev pub task_levels_in : List ℕ → List ℕ → ℕ → ℕ → ℕ → Bool
task_levels_in levels xs requirements s t = all_below (row_level_in levels xs (s * 16 + t)) requirements

abbrev pub skid_levels_in : List ℕ → List ℕ → ℕ → ℕ → ℕ → Bool
skid_levels_in levels xs requirements tasks s = all_below (task_levels_in levels xs requirements s) tasks

-- task t is one of the plant's, and one that skid s may run
abbrev pub task_in : List ℕ → ℕ → ℕ → ℕ → Bool
task_in may tasks t s = ltb t tasks && bit (get_or may s 0) t

-- where the running task has a right on group g, tank o is one of that group
abbrev pub tank_in : List ℕ → ℕ → ℕ → ℕ → ℕ → Bool
tank_in group tanks right o g = eqb right 0 || (ltb o tanks && eqb (get_or group o 0) g)

abbrev pub chosen_in : List ℕ → List ℕ → List ℕ → ℕ → ℕ → ℕ → ℕ → Bool
chosen_in rights group chosen tanks t s g = tank_in group tanks (get_or rights (t * 8 + g) 0) (get_or chosen (s * 8 + g) 0) g

-- a skid that runs nothing passes; else its task and its chosen tanks are asked
abbrev pub runs_in : List ℕ → List ℕ → List ℕ → List ℕ → ℕ → ℕ → ℕ → ℕ → ℕ → Bool
runs_in rights group may chosen tasks groups tanks t s =
    eqb t unset || (task_in may tasks t s && all_below (chosen_in rights group chosen tanks t s) groups)

abbrev pub skid_runs_in : Plant → List ℕ → List ℕ → ℕ → Bool
skid_runs_in p running chosen s = runs_in p.task_rights p.tank_group p.skid_tasks chosen p.tasks p.groups p.tanks (get_or running s 0) s

-- the three changing parts, on every skid
abbrev pub parts_in : Plant → List ℕ → List ℕ → List ℕ → Bool
parts_in p levels running chosen = all_below (skid_levels_in levels (most p) p.requirements p.tasks) p.skids && all_below (skid_runs_in p running chosen) p.skids
