-- A list of calls with test 20 left out: what is done with a record that is known to pass it, as the fresh one of a batch. And a list in parts.
use Rattle.std.specs.Prelude.{◌≡◌, ◌≢◌, ℕ, true, List, [], ◌∷◌, ◌++◌, get_or}
use Rattle.rules.specs.declared.Monitor.{Monitor}
use Rattle.rules.specs.Rules.{Call, answer}
use Rattle.rules.specs.Record.{view_of, stepped, intact, replies, final}

-- the answers, and the record at the end
unfoldable pub runs : Monitor → List Call → List ℕ
runs m [] = []
runs m (c ∷ cs) = answer m.plant (view_of m.plant m) c ∷ runs (stepped m.plant m c) cs

unfoldable pub ends : Monitor → List Call → Monitor
ends m [] = m
ends m (c ∷ cs) = ends (stepped m.plant m c) cs

-- A list that is served in parts, as by a console that mixes calls and queues, is served as one. proofs/Lists has it of every record.
pub record InParts (m : Monitor) (cs ds : List Call) : Type 0 where
  pub same_answers : replies m (cs ++ ds) ≡ replies m cs ++ replies (final m cs) ds
  pub same_record : final m (cs ++ ds) ≡ final (final m cs) ds

-- One test is enough for a list: the answers and the record are those of a test before each call. proofs/IntactKept has it of every record
-- that passes, one that nobody opened too.
pub record TestedOnce (m : Monitor) (cs : List Call) : Type 0 where
  pub same_answers : replies m cs ≡ runs m cs
  pub same_record : final m cs ≡ ends m cs
  pub never_20 : (i : ℕ) → get_or (runs m cs) i 0 ≢ 20
  pub still_passes : intact m.plant (ends m cs) ≡ true
  pub same_plant : (ends m cs).plant ≡ m.plant
