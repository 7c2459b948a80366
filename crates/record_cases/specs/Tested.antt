-- Cases of test 20: a record for each clause, one step away from being right, and what is free past the counts.
use Rattle.std.specs.Prelude.{ℕ, List, [], ◌∷◌, eqb}
use Rattle.std.proofs.Math.ListN as ListN
use Rattle.opening.specs.Reading.{plant_of}
use Rattle.rules.specs.declared.Monitor.{Monitor}
use Rattle.rules.specs.Rules.{stop}
use Rattle.rules.specs.Record.{fresh}
use Rattle.requests.specs.Calls.{opened_of, step_of}
use Rattle.inputs.specs.Case.{Case}
use Rattle.inputs.specs.Plants.{session, crossed, with1, flat, rising, narrow}
use Rattle.record_cases.specs.Records.{record20, parts, skid1, beyond, free_past, counted}

-- a record that nobody opened, and what a stop of skid 0 answers on it
unfoldable pub tested : Monitor → ℕ → Case
tested m number = eqb (step_of m (stop 0)).answer number

unfoldable pub tested_plant_cases : List Case
tested_plant_cases =
    -- 20: a plant that breaks 3 or 7 to 12
    tested (fresh (plant_of session)) 0
    ∷ tested (fresh (plant_of (with1 4 0))) 20
    ∷ tested (fresh (plant_of (with1 24 17))) 20
    ∷ tested (fresh (plant_of (with1 28 4))) 20
    ∷ tested (fresh (plant_of flat)) 20
    ∷ tested (fresh (plant_of (with1 110 9))) 20
    ∷ tested (fresh (plant_of (with1 103 0))) 20
    ∷ tested (fresh (plant_of (with1 108 1))) 20
    ∷ tested (opened_of (with1 0 2)).monitor 20
    -- what is free past the counts, and what is not
    ∷ tested (fresh (beyond 0 0)) 0
    ∷ tested (fresh (beyond 1 0)) 20
    ∷ tested (fresh (beyond 0 1)) 20
    ∷ []

unfoldable pub part_cases : List Case
part_cases =
    -- 20: a level of skid 0, task 0 and requirement 0 that is none of its lattice, and one past the count of skids; a task that is none, or not
    -- the skid's; a chosen tank of another group, none where the task has a right, and any where it runs none
    tested (record20 0 2 0 0 0 0) 0
    ∷ tested (record20 0 3 0 0 0 0) 20
    ∷ tested (record20 256 77 0 0 0 0) 0
    ∷ tested (record20 0 2 0 2 0 0) 20
    ∷ tested (record20 0 2 1 0 0 0) 20
    ∷ tested (record20 0 2 0 0 0 3) 20
    ∷ tested (record20 0 2 0 0 0 255) 20
    ∷ tested (record20 0 2 0 0 1 0) 20
    ∷ tested (record20 0 2 0 255 0 3) 0
    ∷ []

unfoldable pub skid_cases : List Case
skid_cases =
    -- 20: a level of task 1, of skid 1, of requirement 1, which has four; past the counts of tasks and requirements any
    tested (record20 8 3 0 0 0 0) 20
    ∷ tested (record20 128 3 0 0 0 0) 20
    ∷ tested (record20 1 3 0 0 0 0) 0
    ∷ tested (record20 1 4 0 0 0 0) 20
    ∷ tested (record20 16 77 0 0 0 0) 0
    ∷ tested (record20 2 77 0 0 0 0) 0
    -- a level of a requirement that the task does not name; any task and tank of a skid past the count
    ∷ tested (record20 9 4 0 0 0 0) 20
    ∷ tested (record20 0 2 2 99 16 99) 0
    -- a level in the lattice of its requirement, whatever their numbers are
    ∷ tested (skid1 crossed (3 ∷ 2 ∷ []) 255 255 255) 0
    ∷ tested (skid1 crossed (3 ∷ 3 ∷ []) 255 255 255) 20
    ∷ []

unfoldable pub tank_cases : List Case
tank_cases =
    -- 20: skid 1 runs task 1, which returns to group 0 alone: its tank, none, one of group 1, and one past the count of tanks; then task 0, which it
    -- may not run; and where it may, with tanks of groups 0 and 1, and with two of group 0
    tested (skid1 session [] 1 1 255) 0
    ∷ tested (skid1 session [] 1 255 255) 20
    ∷ tested (skid1 session [] 1 2 255) 20
    ∷ tested (skid1 session [] 1 4 255) 20
    ∷ tested (skid1 session [] 0 1 2) 20
    ∷ tested (skid1 (with1 130 3) [] 0 1 2) 0
    ∷ tested (skid1 (with1 130 3) [] 0 1 1) 20
    ∷ []

unfoldable pub last_part_cases : List Case
last_part_cases =
    -- 20 of the last skid's last level, of its task, and of the tank of the last group on which a task has a right
    tested (parts rising 553 1 0 5 2 0) 0
    ∷ tested (parts rising 553 2 0 5 2 0) 20
    ∷ tested (parts rising 553 1 4 5 34 0) 20
    ∷ tested (parts rising 553 1 0 5 2 3) 20
    ∷ tested (parts narrow 132 1 1 0 11 2) 0
    ∷ tested (parts narrow 132 2 1 0 11 2) 20
    ∷ tested (parts narrow 132 1 1 0 11 0) 20
    -- the last skid's task and tank
    ∷ tested (parts (ListN.set rising 144 32) 553 1 4 5 34 0) 0
    ∷ []

unfoldable pub free_cases : List Case
free_cases =
    -- what no rule asks: of a running skid, the tank of a group on which its task has no right
    tested (skid1 session [] 1 1 0) 0
    -- entries past the counts, whichever count is the larger; and no skids
    ∷ tested (fresh (free_past narrow)) 0
    ∷ tested (fresh (free_past rising)) 0
    ∷ tested (fresh (plant_of (with1 6 0))) 20
    ∷ []

unfoldable pub range_cases : List Case
range_cases =
    -- 20: a record's count of each kind past its limit, with nothing else wrong
    tested (fresh (counted 9 2 2 2)) 20
    ∷ tested (fresh (counted 2 9 2 2)) 20
    ∷ tested (fresh (counted 2 2 17 2)) 20
    ∷ tested (fresh (counted 2 2 2 9)) 20
    ∷ []

unfoldable pub cases_of_records : List (List Case)
cases_of_records = tested_plant_cases ∷ part_cases ∷ skid_cases ∷ tank_cases ∷ last_part_cases ∷ free_cases ∷ range_cases ∷ []
