-- Each case of a list of requests comes out as it says: one `refl` for each, in the order of the list. Assumes nothing.
use mathlib.Core.Path.{refl}
use mathlib.Core.List.{List}
use Prim.Native.Nat.{ℕ}
use Rattle.base.specs.Overlay.{overlay}
use Rattle.rules.specs.History.{history_level, last_start, history_view, with_call, history_answer, history_answers, history}
use Rattle.calls.specs.RequestBytes.{calls_of}
use Rattle.outcome.specs.Batch.{batch_refusal, outcome, batch_out}
use Rattle.printing.specs.Decimal.{digits_in, decimal}
use Rattle.printing.specs.Text.{outcome_lines}
use Rattle.printing.specs.Printed.{batch_lines, printed}
use Rattle.inputs.specs.Case.{Case, EachRight, AllRight}
use Rattle.call_cases.proofs.Calls as Calls
use Rattle.list_cases.specs.RequestLists.{request_bytes, every_kind, both_skids, far_numbers, last_numbers, narrow_requests, three_requests, two_sets, start_and_gate}
use Rattle.list_cases.specs.Lists.{queue, refused, batch, prints, queue_cases, batch_cases, print_cases, refusal_cases, cases_of_lists}

-- whoever opens this opens every definition by which a case of a list computes
unfoldable pub computed : List ℕ → List ℕ → List ℕ → Case
unfolding Calls.computed overlay history_level last_start history_view with_call history_answer history_answers history calls_of batch_refusal outcome batch_out digits_in decimal outcome_lines batch_lines printed request_bytes every_kind both_skids far_numbers last_numbers narrow_requests three_requests two_sets start_and_gate queue refused batch prints
computed file requests bytes = batch file requests bytes

queue_right : EachRight queue_cases
unfolding computed queue_cases
queue_right = (refl, (refl, (refl, (refl, (refl, (refl, (refl, tt)))))))

batch_right : EachRight batch_cases
unfolding computed batch_cases
batch_right = (refl, (refl, (refl, (refl, (refl, (refl, (refl, (refl, (refl, (refl, (refl, (refl, tt))))))))))))

print_right : EachRight print_cases
unfolding computed print_cases
print_right = (refl, (refl, (refl, (refl, (refl, (refl, (refl, (refl, (refl, (refl, (refl, (refl, tt))))))))))))

refusal_right : EachRight refusal_cases
unfolding computed refusal_cases
refusal_right = (refl, (refl, (refl, (refl, (refl, (refl, (refl, (refl, (refl, (refl, (refl, (refl, (refl, tt)))))))))))))

pub lists_right : AllRight cases_of_lists
unfolding cases_of_lists
lists_right = (queue_right, (batch_right, (print_right, (refusal_right, tt))))
