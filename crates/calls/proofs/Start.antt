-- The conditions of a start up to 26, which no group is asked for: what they say of the skid and the task, and what they refuse. Assumes nothing.
use mathlib.Core.Path.{◌≡◌, refl, sym, ◌∙◌}
use mathlib.Core.Logic.{◌≢◌}
use Prim.Native.Nat.{ℕ, ◌<◌}
use mathlib.Core.Bool.{true}
use mathlib.Core.List.{List}
use borrow.Author.Tests.{leb-false, ne_eqb}
use Rattle.base.specs.Chain.{first}
use Rattle.base.proofs.Chain.{Numbered, clear}
use Rattle.rules.specs.declared.Monitor.{Monitor}
use Rattle.rules.specs.Rules.{start, accepted_answer}
use Rattle.rules.specs.Record.{intact, with_task}
use Rattle.calls.specs.Lent.{Does}
use Rattle.calls.specs.Start.{Startable, LateDone}
use Rattle.calls.specs.Work.{early_tests}
use Rattle.calls.proofs.Late.{skid_fits, task_fits_lem}
use Rattle.calls.proofs.Steps.{does}
use Rattle.calls.proofs.Store.{number_is}

-- the skid and the task are there, once 21 to 26 are passed
module _ (may running : List ℕ) (skids tasks s t : ℕ) where
  numbered : Numbered (early_tests may running skids tasks s t)
  numbered = (refl, (refl, (refl, (refl, tt))))

  pub passed : {r : ℕ} → r ≡ first (early_tests may running skids tasks s t) → r ≡ 0 → (s < skids) × (t < tasks)
  passed e z =
      let k = clear (early_tests may running skids tasks s t) numbered (sym e ∙ z) in
      (leb-false _ _ k.0, leb-false _ _ k.1.0)

-- `r` is what the code asks of the arrays up to 26
module _ (m : Monitor) (i : intact m.plant m ≡ true) {s t r : ℕ} (e : r ≡ first (early_tests m.plant.skid_tasks m.running m.plant.skids m.plant.tasks s t)) where
  -- a start that they refuse changes nothing
  pub refused_early : r ≢ 0 → Does m (start s t) r (with_task m m.running m.chosen)
  unfolding accepted_answer
  refused_early n = does m (start s t) refl (rw (← e, ne_eqb r 0 n) at (number_is m i s t)) (rw (ne_eqb r 0 n))

  -- a start whose skid and task are there, once they are passed
  pub started : r ≡ 0 → Startable s t m
  started z =
      let k = passed m.plant.skid_tasks m.running m.plant.skids m.plant.tasks s t e z in
      record { passes = i; skid = k.0; task = k.1 }

  pub in_range : r ≡ 0 → (s < 8) × (t < 16)
  in_range z = (skid_fits (started z), task_fits_lem (started z))

  -- and the rest makes the start that the rules say
  pub done_late : r ≡ 0 → {n : ℕ} {left : Monitor} → LateDone m s t n left → Does m (start s t) n left
  unfolding accepted_answer
  done_late z d = does m (start s t) refl (d.answers ∙ (rw (← e, z) at (number_is m i s t))) d.leaves
