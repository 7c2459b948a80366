-- Demand 3 as one claim about a whole list of calls from the fresh monitor, in the order's words.
use Rattle.std.specs.Prelude.{◌≡◌, ◌↔◌, ◌≢◌, ℕ, ◌<◌, true, false, List, []}
use Rattle.plant.specs.declared.Plant.{Plant}
use Rattle.plant.specs.Plant.{names_right, group_of}
use Rattle.choice.specs.Choice.{unset}
use Rattle.rules.specs.Rules.{Call, gate, holds}
use Rattle.rules.specs.Record.{fresh, view_of, intact, reply, replies, final}
use Rattle.rules.specs.History.{history_answers, history, calls_naming, skid_answers}
use Rattle.rules.specs.Rights.{Runs, Gives}

pub record Demand3 (P : Plant) (cs : List Call) : Type 0 where
  -- Every answer is the history's, which is never 20, and the record that is left passes test 20.
  pub answers : replies (fresh P) cs ≡ history_answers P [] cs
  pub never_20 : intact P (final (fresh P) cs) ≡ true
  -- A right is held, and a gate call for it would return 0, exactly where the history gives it.
  pub held : (s o r : ℕ) → o < P.tanks → r < 3 → holds P (view_of P (final (fresh P) cs) s) o r ≡ true ↔ Gives P (history P [] cs) s o r
  pub gates : (s o r : ℕ) → reply P (final (fresh P) cs) (gate s o r) ≡ 0 ↔ Gives P (history P [] cs) s o r
  -- A skid runs at most one task, that of such a start.
  pub task : (s t : ℕ) → t ≢ unset → (view_of P (final (fresh P) cs) s).running ≡ t ↔ ((b : List Call) × Runs (history P [] cs) s t b)
  -- While it runs one it holds exactly one tank for each right that its task names on each group, and while it runs none nothing.
  pub tank : (s g r : ℕ) → (view_of P (final (fresh P) cs) s).running ≢ unset → g < P.groups → r < 3
      → names_right P (view_of P (final (fresh P) cs) s).running r g ≡ true
      → (o : ℕ) × (o < P.tanks) × (group_of P o ≡ g) × (holds P (view_of P (final (fresh P) cs) s) o r ≡ true)
      × ((o' : ℕ) → o' < P.tanks → group_of P o' ≡ g → holds P (view_of P (final (fresh P) cs) s) o' r ≡ true → o' ≡ o)
  pub nothing : (s o r : ℕ) → (view_of P (final (fresh P) cs) s).running ≡ unset → holds P (view_of P (final (fresh P) cs) s) o r ≡ false
  -- Striking out every call that names another skid leaves this skid's answers, in their order, and its rights.
  pub struck_answers : (s : ℕ) → skid_answers s cs (replies (fresh P) cs) ≡ replies (fresh P) (calls_naming s cs)
  pub struck_rights : (s o r : ℕ) → holds P (view_of P (final (fresh P) cs) s) o r ≡ holds P (view_of P (final (fresh P) (calls_naming s cs)) s) o r
