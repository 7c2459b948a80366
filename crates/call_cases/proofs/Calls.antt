-- Each case of a call comes out as it says: one `refl` for each, in the order of the list. Assumes nothing.
use mathlib.Core.Path.{refl}
use Prim.Native.Nat.{ℕ}
use mathlib.Core.List.{List}
use Rattle.base.specs.Collect.{collect}
use Rattle.choice.specs.Choice.{fits, tank_le, tank_eq, serves, above, nearest, served, choice}
use Rattle.rules.specs.Rules.{Call, blank_at, blank, lacking, holds, pick_for}
use Rattle.rules.specs.Record.{fill_from, changed, stepped, after, replies, final}
use Rattle.rules.specs.History.{calls_naming, skid_answers}
use Rattle.listing.specs.Held.{rights_held, right_bytes}
use Rattle.inputs.specs.Case.{Case, EachRight, AllRight}
use Rattle.record_cases.proofs.Tested as Tested
use Rattle.call_cases.specs.CallCases.{answers, held, struck, left, requests, crossed_calls, old_tanks, condition_cases, start_cases, link_cases, struck_cases, left_cases, cases_of_calls}

-- whoever opens this opens every definition by which a case of a call computes
unfoldable pub computed : List ℕ → List Call → List ℕ → Case
unfolding Tested.computed collect fits tank_le tank_eq serves above nearest served choice blank_at blank lacking holds pick_for fill_from changed stepped after replies final calls_naming skid_answers rights_held right_bytes answers held struck left requests crossed_calls old_tanks
computed file calls numbers = answers file calls numbers

condition_right : EachRight condition_cases
unfolding computed condition_cases
condition_right = (refl, (refl, (refl, (refl, (refl, tt)))))

start_right : EachRight start_cases
unfolding computed start_cases
start_right = (refl, (refl, (refl, (refl, (refl, (refl, (refl, (refl, (refl, (refl, (refl, tt)))))))))))

link_right : EachRight link_cases
unfolding computed link_cases
link_right = (refl, (refl, (refl, (refl, tt))))

struck_right : EachRight struck_cases
unfolding computed struck_cases
struck_right = (refl, (refl, (refl, (refl, tt))))

left_right : EachRight left_cases
unfolding computed left_cases
left_right = (refl, (refl, (refl, (refl, (refl, (refl, (refl, tt)))))))

pub calls_right : AllRight cases_of_calls
unfolding cases_of_calls
calls_right = (condition_right, (start_right, (link_right, (struck_right, (left_right, tt)))))
