-- The calls by value: a monitor in, the answer and the monitor out.
use Rattle.std.specs.Prelude.{ℕ, cond, List, eqb}
use Rattle.opening.specs.Reading.{reading_of}
use Rattle.refusal.specs.declared.Refusal.{Refusal}
use Rattle.refusal.specs.Number.{number_of}
use Rattle.rules.specs.declared.Monitor.{Monitor}
use Rattle.rules.specs.Rules.{Call}
use Rattle.rules.specs.Record.{fresh, reply, after}
use Rattle.test20.specs.Zeros.{zero_monitor}
use Rattle.requests.specs.declared.Answered.{Answered}

-- One call on any record whatever: test 20 first, then the call's conditions; a refusal gives the record back as it was.
abbrev pub step_of : Monitor → Call → Answered
step_of m c = record { answer = reply m.plant m c; monitor = after m.plant m c }

-- the answer to a request that is refused
abbrev pub refused : Refusal → Monitor → Answered
refused refusal m = record { answer = number_of refusal; monitor = m }

-- Opening: the reader's number, and the fresh monitor where it is 0. A refused opening hands back a record of zeros, which 20 refuses.
abbrev pub opened_of : List ℕ → Answered
opened_of file = record { answer = (reading_of file).answer; monitor = cond (eqb (reading_of file).answer 0) (fresh (reading_of file).plant) zero_monitor }
