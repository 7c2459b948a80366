-- The rest of a start, behind 21 to 26: what it answers and stores is what the rules say. Assumes nothing.
use mathlib.Core.Path.{◌≡◌, refl, sym, ap}
use Prim.Native.Nat.{ℕ, ◌*◌}
use mathlib.Core.Bool.{true, false, cond}
use mathlib.Core.List.{List}
use lib.Dec.{eqb, leb}
use lib.ListN.{take}
use lib.ListN as ListN
use borrow.Author.Tests.{leb-false}
use Rattle.std.specs.Prelude.{Ok}
use Rattle.base.specs.Chain.{Test, first}
use Rattle.base.proofs.Chain.{Numbered, first_append}
use Rattle.base.proofs.Logic.{split}
use Rattle.rules.specs.declared.Monitor.{Monitor}
use Rattle.rules.specs.Rules.{start, conditions, refusal, pick_for}
use Rattle.rules.specs.Record.{view_of, fill_from, changed, intact, with_task}
use Rattle.calls.specs.Work.{early_tests, get_row}
use Rattle.calls.specs.Start.{late_tests, wish_of, LateDone}
use Rattle.calls.proofs.Rows.{row_same}
use Rattle.calls.proofs.Views.{running_is}
use Rattle.calls.proofs.Late.{RowChosen}

-- the rules' conditions up to 26
abbrev early_conditions : Monitor → ℕ → ℕ → List Test
early_conditions m s t = take 4 (conditions m.plant (view_of m.plant m) (start s t))

module _ (m : Monitor) (i : intact m.plant m ≡ true) (s t : ℕ) where
  -- what the code asks of the arrays up to 26
  abbrev early : ℕ
  early = first (early_tests m.plant.skid_tasks m.running m.plant.skids m.plant.tasks s t)

  early_is : early ≡ first (early_conditions m s t)
  unfolding conditions
  early_is = split (leb m.plant.skids s) (λ h. rw h) (λ h. rw (h, running_is m i s (leb-false _ _ h)))

  in_order : Numbered (early_conditions m s t)
  unfolding conditions
  in_order = (refl, (refl, (refl, (refl, tt))))

  -- the two parts of the conditions are all of them
  pub number_is : cond (eqb early 0) (first (late_tests m s t)) early ≡ refusal m.plant (view_of m.plant m) (start s t)
  unfolding refusal conditions
  number_is = rw early_is (sym (first_append (early_conditions m s t) (late_tests m s t) in_order))

-- the late conditions and the storing
module _ {m : Monitor} {s t : ℕ} where
  pub late_refused : {n : ℕ} → n ≡ first (late_tests m s t) → eqb n 0 ≡ false → LateDone m s t n m
  late_refused e z = record { answers = e; leaves = rw z }

  pub late_accepted : {row running chosen : List ℕ} → RowChosen m s t (Ok row) → running ≡ ListN.set m.running s t → chosen ≡ fill_from m.chosen (s * 8) (get_row row) 8
      → LateDone m s t 0 (with_task m running chosen)
  unfolding changed
  late_accepted {row} d u w = record {
    answers = d.answers;
    leaves =
        rw (u, w) (ap (λ (l : List ℕ). with_task m (ListN.set m.running s t) l)
        (row_same m.chosen (s * 8) (get_row row) (pick_for m.plant t (wish_of m s t)) 8 d.chooses));
  }
