-- Demand 3, over every list of calls from the fresh monitor, as one claim. Assumes nothing.
use mathlib.Core.Path.{◌≡◌, refl, sym, ap, ◌∙◌}
use mathlib.Core.Logic.{◌↔◌, ◌≢◌}
use Prim.Native.Nat.{ℕ, ◌<◌}
use mathlib.Core.Bool.{true, false}
use mathlib.Core.List.{List, []}
use Rattle.plant.specs.declared.Plant.{Plant}
use Rattle.choice.specs.Choice.{unset}
use Rattle.plant.specs.Plant.{names_right, group_of}
use Rattle.plant.specs.Valid.{Valid}
use Rattle.plant.proofs.Valid.{valid}
use Rattle.plant.specs.Checks.{Sound}
use Rattle.rules.specs.Demand.{Demand3}
use Rattle.rules.specs.Rules.{Call, gate, holds}
use Rattle.rules.specs.Record.{fresh, view_of, reply, replies, final}
use Rattle.rules.specs.History.{LastStart, idle, since, last_start, started_task, history_view, history_answers, history, calls_naming}
use Rattle.rules.specs.Rights.{Runs, Gives}
use Rattle.rules.proofs.Accepted.{gate_zero}
use Rattle.rules.proofs.Agree.{Agree, fresh_agree, list_agree, list_replies, intact_true}
use Rattle.rules.proofs.Kept.{AllAccepted}
use Rattle.rules.proofs.Rights.{started_runs, runs_started, start_was}
use Rattle.rules.proofs.Gives.{gives_holds, holds_gives, one_tank}
use Rattle.rules.proofs.Strike.{strike_view, strike_answers}

module _ (P : Plant) (W : Sound P) (cs : List Call) where
  X : Valid P
  X = valid P W

  agree : (l : List Call) → Agree P (final (fresh P) l) (history P [] l)
  agree l = list_agree P W l (fresh P) [] (fresh_agree P W)

  answers_of : (l : List Call) → replies (fresh P) l ≡ history_answers P [] l
  answers_of l = list_replies P W l (fresh P) [] (fresh_agree P W)

  S : AllAccepted P (history P [] cs)
  S = (agree cs).sound

  same : (s : ℕ) → view_of P (final (fresh P) cs) s ≡ history_view P (history P [] cs) s
  same s = (agree cs).views s

  held : (s o r : ℕ) → o < P.tanks → r < 3 → holds P (view_of P (final (fresh P) cs) s) o r ≡ true ↔ Gives P (history P [] cs) s o r
  held s o r l k = rw (same s) (holds_gives P X (history P [] cs) S s o r l k, gives_holds P X (history P [] cs) S s o r)

  gates : (s o r : ℕ) → reply P (final (fresh P) cs) (gate s o r) ≡ 0 ↔ Gives P (history P [] cs) s o r
  unfolding reply
  gates s o r = rw (intact_true P W (final (fresh P) cs) (history P [] cs) (agree cs)) (
    λ e. let k = (gate_zero P (view_of P (final (fresh P) cs)) s o r).0 e in (held s o r k.0.tank k.0.right).0 k.1,
    λ G. (gate_zero P (view_of P (final (fresh P) cs)) s o r).1 (
      record { skid = (start_was P X.counts G.runs.later s G.task G.before (rw G.runs.parts at S)).skid; tank = G.chosen.is_nearest.is_tank; right = G.right },
      (held s o r G.chosen.is_nearest.is_tank G.right).1 G,
    ),
  )

  task : (s t : ℕ) → t ≢ unset → (view_of P (final (fresh P) cs) s).running ≡ t ↔ ((b : List Call) × Runs (history P [] cs) s t b)
  unfolding history_view
  task s t n = rw (same s) (go (last_start (history P [] cs) s) refl, λ R. rw (runs_started P X.counts (history P [] cs) s t R.0 S R.1))
    where
      go : (z : LastStart) → last_start (history P [] cs) s ≡ z → started_task (last_start (history P [] cs) s) ≡ t → (b : List Call) × Runs (history P [] cs) s t b
      go idle e h = absurd (n (sym h ∙ ap started_task e))
      go (since t' b) e h = (b, started_runs (history P [] cs) s t b (e ∙ ap (λ x. since x b) (sym (ap started_task e) ∙ h)))

  tank : (s g r : ℕ) → (view_of P (final (fresh P) cs) s).running ≢ unset → g < P.groups → r < 3
      → names_right P (view_of P (final (fresh P) cs) s).running r g ≡ true
      → (o : ℕ) × (o < P.tanks) × (group_of P o ≡ g) × (holds P (view_of P (final (fresh P) cs) s) o r ≡ true)
      × ((o' : ℕ) → o' < P.tanks → group_of P o' ≡ g → holds P (view_of P (final (fresh P) cs) s) o' r ≡ true → o' ≡ o)
  tank s g r n l k m = made ((task s (view_of P (final (fresh P) cs) s).running n).0 refl)
    where
      made : (b : List Call) × Runs (history P [] cs) s (view_of P (final (fresh P) cs) s).running b → (o : ℕ) × (o < P.tanks) × (group_of P o ≡ g) × (holds P (view_of P (final (fresh P) cs) s) o r ≡ true)
          × ((o' : ℕ) → o' < P.tanks → group_of P o' ≡ g → holds P (view_of P (final (fresh P) cs) s) o' r ≡ true → o' ≡ o)
      made R = let T = one_tank P X (history P [] cs) S s (view_of P (final (fresh P) cs) s).running R.0 R.1 g r l k m in
          (T.tank, T.given.chosen.is_nearest.is_tank, T.of_group, (held s T.tank r T.given.chosen.is_nearest.is_tank k).1 T.given, λ o' lo e h. T.only o' e ((held s o' r lo k).0 h))

  nothing : (s o r : ℕ) → (view_of P (final (fresh P) cs) s).running ≡ unset → holds P (view_of P (final (fresh P) cs) s) o r ≡ false
  unfolding holds
  nothing s o r e = rw e

  -- Demand 3, for every sound plant and every list
  pub demand3 : Demand3 P cs
  demand3 = record {
    answers = answers_of cs;
    never_20 = intact_true P W (final (fresh P) cs) (history P [] cs) (agree cs);
    held = held;
    gates = gates;
    task = task;
    tank = tank;
    nothing = nothing;
    struck_answers = λ s. rw (answers_of cs, answers_of (calls_naming s cs)) (strike_answers P s cs [] [] tt tt refl);
    struck_rights = λ s o r. ap (λ w. holds P w o r) (same s ∙ strike_view P s cs [] [] tt tt refl ∙ sym ((agree (calls_naming s cs)).views s));
  }
