-- The requests of queues and batches that the cases go through. The first bytes are those of the paper's session.
use Rattle.std.specs.Prelude.{ℕ, List, [], ◌∷◌}
use Rattle.calls.specs.declared.Request.{Request}

-- the session's requests as a batch has them, five bytes each
unfoldable pub request_bytes : List ℕ
request_bytes =
    1 ∷ 0 ∷ 0 ∷ 0 ∷ 0
    ∷ 0 ∷ 0 ∷ 0 ∷ 0 ∷ 1
    ∷ 0 ∷ 0 ∷ 0 ∷ 1 ∷ 3
    ∷ 1 ∷ 0 ∷ 0 ∷ 0 ∷ 0
    ∷ 3 ∷ 0 ∷ 0 ∷ 0 ∷ 0
    ∷ 0 ∷ 0 ∷ 0 ∷ 0 ∷ 2
    ∷ 3 ∷ 0 ∷ 1 ∷ 0 ∷ 0
    ∷ 1 ∷ 0 ∷ 1 ∷ 0 ∷ 0
    ∷ 2 ∷ 1 ∷ 0 ∷ 0 ∷ 0
    ∷ 1 ∷ 1 ∷ 0 ∷ 0 ∷ 0
    ∷ []

-- Requests of every kind, with arguments that tell their places apart and unused bytes that are not zero: set 0 1 0 2, start 0 1, gate 0 1 1,
-- stop 0, set 0 0 0 1, set 0 0 1 3, start 0 0, gate 0 2 0, gate 0 0 2, and two of no known kind.
unfoldable pub every_kind : List ℕ
every_kind =
    0 ∷ 0 ∷ 1 ∷ 0 ∷ 2
    ∷ 1 ∷ 0 ∷ 1 ∷ 9 ∷ 9
    ∷ 3 ∷ 0 ∷ 1 ∷ 1 ∷ 9
    ∷ 2 ∷ 0 ∷ 7 ∷ 7 ∷ 7
    ∷ 0 ∷ 0 ∷ 0 ∷ 0 ∷ 1
    ∷ 0 ∷ 0 ∷ 0 ∷ 1 ∷ 3
    ∷ 1 ∷ 0 ∷ 0 ∷ 8 ∷ 8
    ∷ 3 ∷ 0 ∷ 2 ∷ 0 ∷ 5
    ∷ 3 ∷ 0 ∷ 0 ∷ 2 ∷ 5
    ∷ 4 ∷ 0 ∷ 0 ∷ 0 ∷ 0
    ∷ 255 ∷ 0 ∷ 0 ∷ 0 ∷ 0
    ∷ []

-- Both skids run, between them a request of no known kind: skid 0 task 0 on group 1 and group 0, skid 1 task 1, which returns to group 0.
unfoldable pub both_skids : List ℕ
both_skids =
    0 ∷ 1 ∷ 1 ∷ 0 ∷ 2
    ∷ 1 ∷ 1 ∷ 1 ∷ 0 ∷ 0
    ∷ 9 ∷ 0 ∷ 0 ∷ 0 ∷ 0
    ∷ 0 ∷ 0 ∷ 0 ∷ 0 ∷ 1
    ∷ 0 ∷ 0 ∷ 0 ∷ 1 ∷ 3
    ∷ 1 ∷ 0 ∷ 0 ∷ 0 ∷ 0
    ∷ []

-- every call but an unknown one with a number of 255; then a set of a task that the skid may not run, and of a requirement that the task does not name
unfoldable pub far_numbers : List ℕ
far_numbers =
    0 ∷ 255 ∷ 0 ∷ 0 ∷ 0
    ∷ 0 ∷ 0 ∷ 255 ∷ 0 ∷ 0
    ∷ 0 ∷ 0 ∷ 0 ∷ 255 ∷ 0
    ∷ 1 ∷ 255 ∷ 0 ∷ 0 ∷ 0
    ∷ 1 ∷ 0 ∷ 255 ∷ 0 ∷ 0
    ∷ 2 ∷ 255 ∷ 0 ∷ 0 ∷ 0
    ∷ 3 ∷ 255 ∷ 0 ∷ 0 ∷ 0
    ∷ 3 ∷ 0 ∷ 255 ∷ 0 ∷ 0
    ∷ 3 ∷ 0 ∷ 0 ∷ 255 ∷ 0
    ∷ 0 ∷ 1 ∷ 0 ∷ 0 ∷ 1
    ∷ 0 ∷ 0 ∷ 1 ∷ 1 ∷ 3
    ∷ []

-- stop 4, stop 5, gate 4 3 0, gate 5 3 0, start 0 5, set 0 5 1 0, start 0 5
unfoldable pub last_numbers : List ℕ
last_numbers =
    2 ∷ 4 ∷ 0 ∷ 0 ∷ 0
    ∷ 2 ∷ 5 ∷ 0 ∷ 0 ∷ 0
    ∷ 3 ∷ 4 ∷ 3 ∷ 0 ∷ 0
    ∷ 3 ∷ 5 ∷ 3 ∷ 0 ∷ 0
    ∷ 1 ∷ 0 ∷ 5 ∷ 0 ∷ 0
    ∷ 0 ∷ 0 ∷ 5 ∷ 1 ∷ 0
    ∷ 1 ∷ 0 ∷ 5 ∷ 0 ∷ 0
    ∷ []

-- set 2 0 4 1, set 1 1 4 1, set 1 0 5 0, set 1 0 4 2, stop 2, gate 2 2 0, start 1 0, set 1 0 4 1, start 0 0, start 1 0, gate 1 3 0, gate 1 2 0, gate 1 1 0
unfoldable pub narrow_requests : List ℕ
narrow_requests =
    0 ∷ 2 ∷ 0 ∷ 4 ∷ 1
    ∷ 0 ∷ 1 ∷ 1 ∷ 4 ∷ 1
    ∷ 0 ∷ 1 ∷ 0 ∷ 5 ∷ 0
    ∷ 0 ∷ 1 ∷ 0 ∷ 4 ∷ 2
    ∷ 2 ∷ 2 ∷ 0 ∷ 0 ∷ 0
    ∷ 3 ∷ 2 ∷ 2 ∷ 0 ∷ 0
    ∷ 1 ∷ 1 ∷ 0 ∷ 0 ∷ 0
    ∷ 0 ∷ 1 ∷ 0 ∷ 4 ∷ 1
    ∷ 1 ∷ 0 ∷ 0 ∷ 0 ∷ 0
    ∷ 1 ∷ 1 ∷ 0 ∷ 0 ∷ 0
    ∷ 3 ∷ 1 ∷ 3 ∷ 0 ∷ 0
    ∷ 3 ∷ 1 ∷ 2 ∷ 0 ∷ 0
    ∷ 3 ∷ 1 ∷ 1 ∷ 0 ∷ 0
    ∷ []

-- set 0 0 0 1, a request of no known kind, and stop 1
unfoldable pub three_requests : List Request
three_requests =
    record { kind = 0; a = 0; b = 0; c = 0; d = 1 }
    ∷ record { kind = 4; a = 0; b = 0; c = 0; d = 0 }
    ∷ record { kind = 2; a = 1; b = 9; c = 9; d = 9 }
    ∷ []

-- set 0 0 0 1 and set 0 0 1 3; then start 0 0 and gate 0 2 2
unfoldable pub two_sets : List Request
two_sets = record { kind = 0; a = 0; b = 0; c = 0; d = 1 } ∷ record { kind = 0; a = 0; b = 0; c = 1; d = 3 } ∷ []

unfoldable pub start_and_gate : List Request
start_and_gate = record { kind = 1; a = 0; b = 0; c = 9; d = 9 } ∷ record { kind = 3; a = 0; b = 2; c = 2; d = 9 } ∷ []
