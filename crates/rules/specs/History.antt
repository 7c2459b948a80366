-- 01's history of a list of calls: the accepted calls, the latest first, read from the plant and the calls' arguments alone.
use Rattle.std.specs.Prelude.{ℕ, cond, ◌&&◌, List, [], ◌∷◌, eqb}
use Rattle.plant.specs.declared.Plant.{Plant}
use Rattle.choice.specs.Choice.{unset}
use Rattle.rules.specs.Rules.{Call, set, start, stop, gate, unknown, skid_of, View, refusal, answer, pick_for}

-- the level of skid s, task t and requirement d: that of the last accepted set of them, and unset before
unfoldable pub history_level : List Call → ℕ → ℕ → ℕ → ℕ
history_level [] s t d = unset
history_level (set s' t' d' v ∷ a) s t d = cond (eqb s s' && (eqb t t' && eqb d d')) v (history_level a s t d)
history_level (start s' t' ∷ a) s t d = history_level a s t d
history_level (stop s' ∷ a) s t d = history_level a s t d
history_level (gate s' o r ∷ a) s t d = history_level a s t d
history_level (unknown ∷ a) s t d = history_level a s t d

-- what stands of skid s's last accepted start, if no accepted stop of it came later: the task, and the calls before that start
pub data LastStart : Type 0 where
  idle : LastStart
  since : ℕ → List Call → LastStart

unfoldable pub last_start : List Call → ℕ → LastStart
last_start [] s = idle
last_start (set s' t d v ∷ a) s = last_start a s
last_start (start s' t ∷ a) s = cond (eqb s s') (since t a) (last_start a s)
last_start (stop s' ∷ a) s = cond (eqb s s') idle (last_start a s)
last_start (gate s' o r ∷ a) s = last_start a s
last_start (unknown ∷ a) s = last_start a s

abbrev pub started_task : LastStart → ℕ
started_task idle = unset
started_task (since t a) = t

module _ (P : Plant) where
  abbrev pub started_tank : ℕ → LastStart → ℕ → ℕ
  started_tank s idle g = unset
  started_tank s (since t a) g = pick_for P t (history_level a s t) g

  -- what the history says of skid s
  unfoldable pub history_view : List Call → ℕ → View
  history_view a s = record { level = history_level a s; running = started_task (last_start a s); chosen = started_tank s (last_start a s) }

  -- the history with one call more
  unfoldable pub with_call : List Call → Call → List Call
  with_call a c = cond (eqb (refusal P (history_view a) c) 0) (c ∷ a) a

  unfoldable pub history_answer : List Call → Call → ℕ
  history_answer a c = answer P (history_view a) c

  -- the answers that the history gives, and the history of a list that follows on one
  unfoldable pub history_answers : List Call → List Call → List ℕ
  history_answers a [] = []
  history_answers a (c ∷ cs) = history_answer a c ∷ history_answers (with_call a c) cs

  unfoldable pub history : List Call → List Call → List Call
  history a [] = a
  history a (c ∷ cs) = history (with_call a c) cs

-- the calls of a list that name skid s, and of the answers to a list those to such calls
unfoldable pub calls_naming : ℕ → List Call → List Call
calls_naming s [] = []
calls_naming s (c ∷ cs) = cond (eqb (skid_of c) s) (c ∷ calls_naming s cs) (calls_naming s cs)

unfoldable pub skid_answers : ℕ → List Call → List ℕ → List ℕ
skid_answers s [] xs = []
skid_answers s (c ∷ cs) [] = []
skid_answers s (c ∷ cs) (x ∷ xs) = cond (eqb (skid_of c) s) (x ∷ skid_answers s cs xs) (skid_answers s cs xs)
