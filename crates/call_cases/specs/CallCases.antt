-- Cases of calls on the paper's plant, and on it with a tank, a link or a right changed: their answers, what they leave of the record, and what
-- striking out the other skids' calls leaves of them.
use Rattle.std.specs.Prelude.{ℕ, ◌&&◌, List, [], ◌∷◌, ◌++◌, replicate}
use Rattle.std.proofs.Math.ListN as ListN
use Rattle.opening.specs.Reading.{plant_of, reading_of}
use Rattle.rules.specs.declared.Monitor.{Monitor}
use Rattle.rules.specs.Rules.{Call, set, start, stop, gate, unknown}
use Rattle.rules.specs.Record.{record_of, view_of, replies, final}
use Rattle.rules.specs.History.{calls_naming, skid_answers}
use Rattle.requests.specs.Calls.{opened_of, step_of}
use Rattle.listing.specs.Held.{rights_held, right_bytes}
use Rattle.inputs.specs.Case.{Case, same_list}
use Rattle.inputs.specs.Plants.{session, crossed, tank0_at_level1, with1, with2, exchanged, pentagon}

abbrev pub opened : List ℕ → Monitor
opened file = (opened_of file).monitor

-- a plant file, calls from its fresh monitor, and their answers
unfoldable pub answers : List ℕ → List Call → List ℕ → Case
answers file calls numbers = same_list (replies (opened file) calls) numbers

-- a plant file, calls from its fresh monitor, and every right held at the end: skid, tank, right, rising in that order
unfoldable pub held : List ℕ → List Call → List ℕ → Case
held file calls triples = same_list (right_bytes (rights_held (reading_of file).plant (view_of (reading_of file).plant (final (opened file) calls)))) triples

-- a plant file, calls, a skid, and the answers to that skid's calls, with the other skids' calls struck out or not
unfoldable pub struck : List ℕ → List Call → ℕ → List ℕ → Case
struck file calls s numbers = same_list (skid_answers s calls (replies (opened file) calls)) numbers && same_list (replies (opened file) (calls_naming s calls)) numbers

-- a record, a call, and the running tasks and the chosen tanks that it leaves
unfoldable pub left : Monitor → Call → List ℕ → List ℕ → Case
left m c tasks tanks = same_list (step_of m c).monitor.running tasks && same_list (step_of m c).monitor.chosen tanks

-- the paper's session
unfoldable pub requests : List Call
requests = start 0 0 ∷ set 0 0 0 1 ∷ set 0 0 1 3 ∷ start 0 0 ∷ gate 0 0 0 ∷ set 0 0 0 2 ∷ gate 0 1 0 ∷ start 0 1 ∷ stop 1 ∷ start 1 0 ∷ []

unfoldable pub crossed_calls : List Call
crossed_calls = set 0 0 0 3 ∷ set 0 0 1 3 ∷ set 0 0 0 1 ∷ set 0 0 1 2 ∷ start 0 0 ∷ gate 0 0 0 ∷ gate 0 3 2 ∷ gate 0 2 2 ∷ []

-- the session's plant with a level for task 1 of skid 0, a task that the skid runs, and old tanks everywhere: tank 1 for its group 0, and else 7
unfoldable pub old_tanks : ℕ → Monitor
old_tanks task = record_of (plant_of session) (ListN.set (replicate 1024 255) 8 0) (ListN.set (replicate 8 255) 0 task) (ListN.set (replicate 64 7) 0 1)

unfoldable pub condition_cases : List Case
condition_cases =
    -- no such skid, task, requirement, level, tank, right
    answers session (set 2 2 2 9 ∷ start 2 2 ∷ stop 2 ∷ gate 2 4 3 ∷ []) (21 ∷ 21 ∷ 21 ∷ 21 ∷ [])
    ∷ answers session (set 1 2 2 9 ∷ start 1 2 ∷ set 1 1 2 9 ∷ set 1 1 0 3 ∷ set 1 1 0 255 ∷ gate 1 4 3 ∷ gate 1 3 3 ∷ gate 1 3 2 ∷ []) (22 ∷ 22 ∷ 23 ∷ 24 ∷ 24 ∷ 29 ∷ 30 ∷ 33 ∷ [])
    -- a level of another task, and of another skid, is none; a skid that runs nothing is stopped; a task started again
    ∷ answers session (set 0 0 0 1 ∷ set 0 0 1 3 ∷ start 0 1 ∷ []) (0 ∷ 0 ∷ 27 ∷ [])
    ∷ answers session (set 1 1 0 2 ∷ start 0 1 ∷ start 1 1 ∷ start 1 1 ∷ stop 0 ∷ []) (0 ∷ 27 ∷ 0 ∷ 26 ∷ 0 ∷ [])
    -- 25 before 26
    ∷ answers session (set 1 1 0 2 ∷ start 1 1 ∷ start 1 0 ∷ []) (0 ∷ 0 ∷ 25 ∷ [])
    ∷ []

unfoldable pub start_cases : List Case
start_cases =
    -- two skids with levels of their own; a stop of one leaves the other
    answers session
    (set 0 1 0 0 ∷ set 1 1 0 2 ∷ start 0 1 ∷ start 1 1 ∷ gate 0 0 1 ∷ gate 1 1 1 ∷ gate 0 1 1 ∷ stop 0 ∷ gate 1 1 1 ∷ gate 0 0 1 ∷ [])
    (0 ∷ 0 ∷ 0 ∷ 0 ∷ 0 ∷ 0 ∷ 33 ∷ 0 ∷ 0 ∷ 33 ∷ [])
    -- a level that is set while the task runs counts from the next start on
    ∷ answers session
    (set 0 1 0 0 ∷ start 0 1 ∷ set 0 1 0 2 ∷ gate 0 0 1 ∷ gate 0 1 1 ∷ stop 0 ∷ start 0 1 ∷ gate 0 0 1 ∷ gate 0 1 1 ∷ [])
    (0 ∷ 0 ∷ 0 ∷ 0 ∷ 33 ∷ 0 ∷ 0 ∷ 33 ∷ 0 ∷ [])
    -- the last of two sets counts
    ∷ answers session (set 0 1 0 2 ∷ set 0 1 0 0 ∷ start 0 1 ∷ gate 0 0 1 ∷ gate 0 1 1 ∷ []) (0 ∷ 0 ∷ 0 ∷ 0 ∷ 33 ∷ [])
    -- a task without a right starts and holds nothing
    ∷ answers (with2 110 0 111 0) (start 0 0 ∷ gate 0 0 0 ∷ start 0 0 ∷ []) (0 ∷ 33 ∷ 26 ∷ [])
    -- a level set lower while the task runs leaves its tank, and the record still passes
    ∷ answers session (set 0 1 0 2 ∷ start 0 1 ∷ set 0 1 0 0 ∷ gate 0 1 1 ∷ gate 0 0 1 ∷ []) (0 ∷ 0 ∷ 0 ∷ 0 ∷ 33 ∷ [])
    -- two skids on one tank: each holds its own right there
    ∷ held session (set 0 1 0 2 ∷ set 1 1 0 2 ∷ start 0 1 ∷ start 1 1 ∷ []) (0 ∷ 1 ∷ 1 ∷ 1 ∷ 1 ∷ 1 ∷ [])
    -- sampling alone needs a group: its level, and its tank
    ∷ answers (with1 110 4) (set 0 0 1 3 ∷ start 0 0 ∷ set 0 0 0 1 ∷ start 0 0 ∷ gate 0 0 2 ∷ []) (0 ∷ 27 ∷ 0 ∷ 0 ∷ 0 ∷ [])
    -- two groups of one requirement: one level, and a tank of each
    ∷ answers (with1 98 0) (set 0 0 0 1 ∷ start 0 0 ∷ gate 0 0 0 ∷ gate 0 2 0 ∷ []) (0 ∷ 0 ∷ 0 ∷ 0 ∷ [])
    -- a start that is refused for want of a tank runs nothing
    ∷ answers session (set 0 0 0 1 ∷ set 0 0 1 0 ∷ start 0 0 ∷ start 0 0 ∷ []) (0 ∷ 0 ∷ 28 ∷ 28 ∷ [])
    -- tanks 1, 2 and 3 at levels 1, 3 and 2: both 2 and 3 are nearest for 4. Whoever climbs from the lowest tank passes tank 2 by
    ∷ held (ListN.set (ListN.set (ListN.set (ListN.set pentagon 102 1) 103 1) 105 3) 107 2) (set 0 0 0 0 ∷ set 0 0 1 4 ∷ start 0 0 ∷ []) (0 ∷ 0 ∷ 0 ∷ 0 ∷ 2 ∷ 0 ∷ 0 ∷ 2 ∷ 2 ∷ [])
    -- tanks 2 and 3 at levels 1 and 3: both are nearest for 4, though fewer levels lie between it and 3
    ∷ held (ListN.set pentagon 107 3) (set 0 0 0 0 ∷ set 0 0 1 4 ∷ start 0 0 ∷ []) (0 ∷ 0 ∷ 0 ∷ 0 ∷ 2 ∷ 0 ∷ 0 ∷ 2 ∷ 2 ∷ [])
    ∷ []

unfoldable pub link_cases : List Case
link_cases =
    -- 27 of group 1 decides before 28 of group 0
    answers tank0_at_level1 (set 0 0 0 0 ∷ start 0 0 ∷ set 0 0 1 3 ∷ start 0 0 ∷ []) (0 ∷ 27 ∷ 0 ∷ 28 ∷ [])
    -- requirement 0 in lattice 1 and requirement 1 in lattice 0: level 3 is one of the first and none of the second; under 1 of the first
    -- tank 1 at level 2 is not at or under, and under 2 of the second tank 3 at level 2 is
    ∷ answers crossed crossed_calls (0 ∷ 24 ∷ 0 ∷ 0 ∷ 0 ∷ 0 ∷ 0 ∷ 33 ∷ [])
    -- groups judged by their requirement's level, and in its lattice, which may have more levels, and not by their own number's
    ∷ answers exchanged (set 0 0 0 2 ∷ set 0 0 1 3 ∷ start 0 0 ∷ gate 0 1 0 ∷ gate 0 3 0 ∷ []) (0 ∷ 0 ∷ 0 ∷ 0 ∷ 0 ∷ [])
    ∷ answers exchanged (set 0 0 0 2 ∷ set 0 0 1 1 ∷ start 0 0 ∷ gate 0 0 0 ∷ gate 0 3 0 ∷ []) (0 ∷ 0 ∷ 0 ∷ 0 ∷ 0 ∷ [])
    ∷ []

unfoldable pub struck_cases : List Case
struck_cases =
    -- the paper's session with each skid's calls alone
    struck session requests 0 (27 ∷ 0 ∷ 0 ∷ 0 ∷ 0 ∷ 0 ∷ 33 ∷ 26 ∷ [])
    ∷ struck session requests 1 (0 ∷ 25 ∷ [])
    -- the skid that a set names, and not its task
    ∷ struck session (set 1 0 0 1 ∷ set 0 1 0 0 ∷ start 0 1 ∷ []) 0 (0 ∷ 0 ∷ [])
    -- a request of no known kind names no skid
    ∷ struck session (set 0 1 0 0 ∷ unknown ∷ start 0 1 ∷ []) 0 (0 ∷ 0 ∷ [])
    ∷ []

unfoldable pub left_cases : List Case
left_cases =
    -- a start and a stop write the skid's row of eight, and no other; a refused start and a gate write nothing
    left (old_tanks 255) (start 0 1) (1 ∷ replicate 7 255) (0 ∷ (replicate 7 255 ++ replicate 56 7))
    ∷ left (old_tanks 1) (stop 0) (replicate 8 255) (replicate 8 255 ++ replicate 56 7)
    ∷ left (old_tanks 1) (stop 1) (1 ∷ replicate 7 255) (1 ∷ (replicate 7 7 ++ (replicate 8 255 ++ replicate 48 7)))
    ∷ left (old_tanks 1) (start 0 1) (1 ∷ replicate 7 255) (1 ∷ replicate 63 7)
    ∷ left (old_tanks 1) (gate 0 1 1) (1 ∷ replicate 7 255) (1 ∷ replicate 63 7)
    -- a level set while the task runs leaves its tank
    ∷ left (old_tanks 1) (set 0 1 0 2) (1 ∷ replicate 7 255) (1 ∷ replicate 63 7)
    -- a group on which the task has no right gets no tank, though its requirement has a level
    ∷ left (step_of (old_tanks 255) (set 0 1 1 3)).monitor (start 0 1) (1 ∷ replicate 7 255) (0 ∷ (replicate 7 255 ++ replicate 56 7))
    ∷ []

unfoldable pub cases_of_calls : List (List Case)
cases_of_calls = condition_cases ∷ start_cases ∷ link_cases ∷ struck_cases ∷ left_cases ∷ []
