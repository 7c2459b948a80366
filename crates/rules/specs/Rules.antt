-- The calls and their conditions, in the paper's order, read over what is known of each skid: its levels, its running task and its chosen tanks.
-- They are written once. The record and the history each give such views (Record, History). In this crate nobody but the laws in proofs/Accepted,
-- proofs/Strike, proofs/Told and proofs/Words opens the conditions; above it those that tie the code to them do (crate calls, proofs/Steps and
-- proofs/Start), and the cases, which compute everything (crate record_cases, proofs/Tested, and those above it).
use Rattle.std.specs.Prelude.{ℕ, Bool, true, cond, not, ◌&&◌, List, [], ◌∷◌, eqb, ltb, leb}
use Rattle.base.specs.Chain.{Test, ◌gives◌, first}
use Rattle.base.specs.Below.{any_below}
use Rattle.plant.specs.declared.Plant.{Plant}
use Rattle.plant.specs.Plant.{levels_of, requirement_of, group_of, names_right, needs, may_run}
use Rattle.plant.specs.Right.{rights}
use Rattle.choice.specs.Choice.{unset, served, choice}

-- Set (skid, task, requirement, level), start (skid, task), stop (skid), gate (skid, tank, right). The article's commands are the first
-- three; it has no query, so the gate is the paper's.
pub data Call : Type 0 where
  set : ℕ → ℕ → ℕ → ℕ → Call
  start : ℕ → ℕ → Call
  stop : ℕ → Call
  gate : ℕ → ℕ → ℕ → Call
  -- a request of no known kind, which a queue or a batch can hold; it names no skid
  unknown : Call

-- the skid that a call names
abbrev pub skid_of : Call → ℕ
skid_of (set s t d v) = s
skid_of (start s t) = s
skid_of (stop s) = s
skid_of (gate s o r) = s
skid_of unknown = unset

-- What is known of one skid. The article's level function is global in one place and for each subject and task in another: here there is
-- one level for each skid, task and requirement, or 255.
pub record View : Type 0 where
  pub level : ℕ → ℕ → ℕ
  pub running : ℕ
  pub chosen : ℕ → ℕ

module _ (P : Plant) where
  -- `wish d` is the level that is asked for requirement d.
  -- 27: a needed group's requirement is unset. A group is needed where the task names any right on it.
  unfoldable pub blank_at : ℕ → (ℕ → ℕ) → ℕ → Bool
  blank_at t wish g = needs P t g && eqb (wish (requirement_of P g)) unset

  unfoldable pub blank : ℕ → (ℕ → ℕ) → Bool
  blank t wish = any_below (blank_at t wish) P.groups

  -- 28: a needed group has no tank at or under its level
  unfoldable pub lacking : ℕ → (ℕ → ℕ) → Bool
  lacking t wish = any_below (λ g. needs P t g && not (served P g wish)) P.groups

  -- The skid of this view holds right r on tank o: its running task names r on o's group, and o is the chosen tank there. The article
  -- allows any object of a group in its prose, and ties neither the running task nor the object's own requirement to an access.
  unfoldable pub holds : View → ℕ → ℕ → Bool
  holds w o r = not (eqb w.running unset) && (names_right P w.running r (group_of P o) && eqb (w.chosen (group_of P o)) o)

  -- A call's conditions in the paper's order: the first that holds refuses the call. Each is asked of all groups before the next. The
  -- article's transition function is total, yet gives a failed precondition no outcome. specs/Words has each as a rule, with its reason.
  unfoldable pub conditions : (ℕ → View) → Call → List Test
  conditions vs (set s t d v) = leb P.skids s gives 21 ∷ leb P.tasks t gives 22 ∷ leb P.requirements d gives 23 ∷ leb (levels_of P d) v gives 24 ∷ []
  conditions vs (start s t) =
      leb P.skids s gives 21
      ∷ leb P.tasks t gives 22
      ∷ not (may_run P s t) gives 25
      ∷ not (eqb (vs s).running unset) gives 26
      ∷ blank t ((vs s).level t) gives 27
      ∷ lacking t ((vs s).level t) gives 28
      ∷ []
  conditions vs (stop s) = leb P.skids s gives 21 ∷ []
  conditions vs (gate s o r) = leb P.skids s gives 21 ∷ leb P.tanks o gives 29 ∷ leb rights r gives 30 ∷ []
  conditions vs unknown = true gives 32 ∷ []

  -- the number that decides a refusal, or 0 where the call is accepted
  unfoldable pub refusal : (ℕ → View) → Call → ℕ
  refusal vs c = first (conditions vs c)

  -- the answer to a call that is accepted
  unfoldable pub accepted_answer : View → Call → ℕ
  accepted_answer w (set s t d v) = 0
  accepted_answer w (start s t) = 0
  accepted_answer w (stop s) = 0
  accepted_answer w (gate s o r) = cond (holds w o r) 0 33
  accepted_answer w unknown = 0

  unfoldable pub answer : (ℕ → View) → Call → ℕ
  answer vs c = cond (eqb (refusal vs c) 0) (accepted_answer (vs (skid_of c)) c) (refusal vs c)

  -- the tank chosen from group g by a start of task t under the wish, or 255 where the task has no right there
  unfoldable pub pick_for : ℕ → (ℕ → ℕ) → ℕ → ℕ
  pick_for t wish g = cond (ltb g P.groups && needs P t g) (choice P g wish) unset

  -- What an accepted call makes of the view of the skid that it names. A level set during a task leaves the chosen tanks: accesses are
  -- judged by the levels at the start, where the article says so and then judges them by the new level. A blend under way must not change
  -- its tank.
  unfoldable pub effect : View → Call → View
  effect w (set s t d v) = record { level = λ t' d'. cond (eqb t' t && eqb d' d) v (w.level t' d'); running = w.running; chosen = w.chosen }
  effect w (start s t) = record { level = w.level; running = t; chosen = pick_for t (w.level t) }
  effect w (stop s) = record { level = w.level; running = unset; chosen = λ g. unset }
  effect w (gate s o r) = w
  effect w unknown = w
