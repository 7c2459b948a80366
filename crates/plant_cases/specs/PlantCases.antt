-- Cases of calls on plants with other counts than the paper's, up to a lattice of nine levels and numbers with a high byte: what counts one kind of
-- item by another's count, or reads a byte where there are two, answers otherwise.
use Rattle.std.specs.Prelude.{List, [], ◌∷◌}
use Rattle.std.proofs.Math.ListN as ListN
use Rattle.rules.specs.Rules.{Call, set, start, stop, gate}
use Rattle.inputs.specs.Case.{Case}
use Rattle.inputs.specs.Plants.{with1, wide, smallest, narrow}
use Rattle.call_cases.specs.CallCases.{answers, held}

unfoldable pub wide_calls : List Call
wide_calls = set 0 8 1 9 ∷ set 0 8 1 8 ∷ start 0 8 ∷ gate 0 0 1 ∷ gate 0 1 1 ∷ stop 0 ∷ set 0 8 1 7 ∷ start 0 8 ∷ gate 0 1 1 ∷ gate 0 0 1 ∷ start 1 8 ∷ []

unfoldable pub other_count_cases : List Case
other_count_cases =
    -- with two tanks alone group 1 has none: 28 once its level is set
    answers (with1 4 2) (set 0 0 0 1 ∷ start 0 0 ∷ set 0 0 1 3 ∷ start 0 0 ∷ []) (0 ∷ 27 ∷ 0 ∷ 28 ∷ [])
    -- high bytes and six different counts
    ∷ answers wide wide_calls (24 ∷ 0 ∷ 0 ∷ 0 ∷ 33 ∷ 0 ∷ 0 ∷ 0 ∷ 0 ∷ 33 ∷ 25 ∷ [])
    -- 27 and 28 of the last group where the counts fall; tank 1 is in group 1
    ∷ answers (ListN.set narrow 248 1) (start 1 0 ∷ set 1 0 4 0 ∷ start 1 0 ∷ []) (27 ∷ 0 ∷ 28 ∷ [])
    -- the smallest plant, and its one right
    ∷ held smallest (set 0 0 0 0 ∷ start 0 0 ∷ []) (0 ∷ 0 ∷ 0 ∷ [])
    ∷ []

unfoldable pub cases_of_plants : List (List Case)
cases_of_plants = other_count_cases ∷ []
