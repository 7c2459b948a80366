-- What the panel can rely on, in the order's words: the answers and the rights of a batch are the history's, and nothing else is written.
use Rattle.std.specs.Prelude.{◌≡◌, ◌↔◌, ◌≢◌, ℕ, ◌+◌, ◌*◌, ◌≤◌, ◌<◌, List, [], length, get_or}
use Rattle.plant.specs.declared.Plant.{Plant}
use Rattle.opening.specs.Admitted.{Admitted, rules}
use Rattle.base.specs.Chain.{Breaks}
use Rattle.opening.specs.Reading.{reading_of}
use Rattle.rules.specs.Rules.{Call, gate, unknown}
use Rattle.rules.specs.Record.{fresh, reply, final}
use Rattle.rules.specs.History.{history_answers, history, history_view}
use Rattle.rules.specs.Rights.{Gives}
use Rattle.rules.specs.Demand.{Demand3}
use Rattle.calls.specs.RequestBytes.{call_at}
use Rattle.listing.specs.Held.{HeldRight, Lists, rights_held}
use Rattle.outcome.specs.Batch.{request_count, batch_refusal, batch_calls, batch_out}

-- what an accepted batch keeps: opening's rules, whole requests, room
pub record Admits (plant requests out : List ℕ) : Type 0 where
  pub plant_admitted : Admitted plant
  pub whole_requests : length requests ≡ request_count requests * 5
  pub room : request_count requests + 577 ≤ length out

-- an entry past the end of a list
abbrev pub none : HeldRight
none = record { skid = 0; tank = 0; right = 0 }

module _ (plant requests out : List ℕ) where
  abbrev pub P : Plant
  P = (reading_of plant).plant

  abbrev pub calls : List Call
  calls = batch_calls requests

  abbrev pub held : List HeldRight
  held = rights_held P (history_view P (history P [] calls))

  -- After an accepted batch.
  pub record Served : Type 0 where
    -- the list has a call for each request, in their order, and demand 3 holds of it
    pub as_many : length calls ≡ request_count requests
    pub in_order : (i : ℕ) → i < request_count requests → get_or calls i unknown ≡ call_at requests i
    pub demand : Demand3 P calls
    -- answer i is the one that the history gives to request i
    pub answers : (i : ℕ) → i < request_count requests → get_or (batch_out plant requests out) i 0 ≡ get_or (history_answers P [] calls) i 0
    -- the listed rights are exactly those that the history gives, each once, rising; these are those for which a gate call would return 0
    pub rights : Lists (Gives P (history P [] calls)) held
    pub gates : Lists (λ s o r. reply P (final (fresh P) calls) (gate s o r) ≡ 0) held
    -- behind the answers stand their count, at most 192, and skid, tank and right of each
    pub at_most : length held ≤ 192
    pub count : get_or (batch_out plant requests out) (request_count requests) 0 ≡ length held
    pub skids : (i : ℕ) → i < length held → get_or (batch_out plant requests out) (request_count requests + (1 + i * 3)) 0 ≡ (get_or held i none).skid
    pub tanks : (i : ℕ) → i < length held → get_or (batch_out plant requests out) (request_count requests + (2 + i * 3)) 0 ≡ (get_or held i none).tank
    pub right_numbers : (i : ℕ) → i < length held → get_or (batch_out plant requests out) (request_count requests + (3 + i * 3)) 0 ≡ (get_or held i none).right
    -- every other byte is as it was
    pub as_long : length (batch_out plant requests out) ≡ length out
    pub rest : (i : ℕ) → request_count requests + (1 + length held * 3) ≤ i → get_or (batch_out plant requests out) i 0 ≡ get_or out i 0

  -- For every plant, requests and buffer.
  pub record Batch : Type 0 where
    -- refused with nothing written, or served
    pub accepts : (batch_refusal plant requests (length out) ≡ 0) ↔ Admits plant requests out
    pub served : batch_refusal plant requests (length out) ≡ 0 → Served
    pub unwritten : batch_refusal plant requests (length out) ≢ 0 → batch_out plant requests out ≡ out
    -- a bad plant decides first, then a cut request, then the buffer
    pub plant_first : (k : ℕ) → 1 ≤ k → Breaks (rules plant) k → batch_refusal plant requests (length out) ≡ k
    pub then_34 : Admitted plant → length requests ≢ request_count requests * 5 → batch_refusal plant requests (length out) ≡ 34
    pub then_31 : Admitted plant → length requests ≡ request_count requests * 5 → length out < request_count requests + 577 → batch_refusal plant requests (length out) ≡ 31
