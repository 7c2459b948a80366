-- The panel's batch: what refuses it, and what the buffer holds after it.
use Rattle.std.specs.Prelude.{ℕ, ◌+◌, ◌/◌, ◌%◌, cond, not, List, [], ◌∷◌, ◌++◌, eqb, ltb, length}
use Rattle.base.specs.Chain.{Test, ◌gives◌, first}
use Rattle.base.specs.Overlay.{overlay}
use Rattle.plant.specs.declared.Plant.{Plant}
use Rattle.opening.specs.Reading.{opening_checks, reading_of}
use Rattle.rules.specs.Rules.{Call}
use Rattle.rules.specs.History.{history_view, history_answers, history}
use Rattle.calls.specs.RequestBytes.{calls_of}
use Rattle.listing.specs.Held.{rights_held, listing}

-- how many requests so many bytes are, five each
abbrev pub request_count : List ℕ → ℕ
request_count requests = length requests / 5

-- 34: a request is cut off. 31: the buffer has no room for an answer to each request and for the longest list of rights, 577 bytes, whatever
-- the list turns out to be; so the panel's room does not depend on what the skids hold.
abbrev pub size_checks : ℕ → ℕ → List Test
size_checks bytes room = not (eqb (bytes % 5) 0) gives 34 ∷ ltb room (bytes / 5 + 577) gives 31 ∷ []

abbrev pub request_checks : List ℕ → ℕ → List Test
request_checks requests room = size_checks (length requests) room

-- opening's numbers first
unfoldable pub batch_refusal : List ℕ → List ℕ → ℕ → ℕ
batch_refusal plant requests room = first (opening_checks plant ++ request_checks requests room)

-- the same from opening's number; proofs/Refused has that it is
abbrev pub refusal_by : ℕ → ℕ → ℕ → ℕ
refusal_by opening bytes room = cond (eqb opening 0) (first (size_checks bytes room)) opening

-- What a list of calls brings from the fresh monitor: the answers that its history gives, and the rights that it gives at the end.
unfoldable pub outcome : Plant → List Call → List ℕ
outcome P cs = history_answers P [] cs ++ listing (rights_held P (history_view P (history P [] cs)))

-- the calls of a batch
abbrev pub batch_calls : List ℕ → List Call
batch_calls requests = calls_of requests (request_count requests)

-- The buffer: the outcome from its first byte on and the rest as it was, or all as it was after a refusal.
unfoldable pub batch_out : List ℕ → List ℕ → List ℕ → List ℕ
batch_out plant requests out =
    cond (eqb (batch_refusal plant requests (length out)) 0) (overlay out 0 (outcome (reading_of plant).plant (batch_calls requests))) out
