-- At most 192 rights are held, so the list has at most 577 bytes: a skid holds rights on at most one tank of each of eight groups. Assumes nothing.
use mathlib.Core.Path.{sym, ap, ◌∙◌}
use Prim.Native.Nat.{ℕ, ◌+◌, ◌*◌, ◌≤◌}
use mathlib.Core.Bool.{Bool, true, cond, not}
use native.Mathlib.Omega.{arith}
use lib.Dec.{eqb}
use lib.ListN.{length, get_or}
use borrow.Author.Tests.{eqb-true}
use Rattle.base.specs.Count.{count_below}
use Rattle.base.proofs.Logic.{split, and_true}
use Rattle.base.proofs.Count.{count_all, count_none, count_places, collect_bound}
use Rattle.plant.specs.Right.{all_rights, has_right}
use Rattle.plant.proofs.Links.{entry_at}
use Rattle.rules.specs.declared.Monitor.{Monitor}
use Rattle.rules.specs.Record.{chosen_at}
use Rattle.calls.specs.Work.{held_in}
use Rattle.listing.specs.Work.{Known, right_bytes_in, tank_bytes_in, skid_bytes_in, skids_bytes_in}

module _ (m : Monitor) where
  -- tank o is the one that skid s has in o's group
  chosen_here : ℕ → ℕ → Bool
  chosen_here s o = eqb (get_or m.chosen (chosen_at s (get_or m.plant.tank_group o 0)) 0) o

  right_short : (s o r : ℕ) → length (right_bytes_in m s o r) ≤ cond (chosen_here s o) 3 0
  unfolding chosen_here
  right_short s o r = split (held_in m.plant.tank_group m.plant.task_rights m.running m.chosen s o r)
      (λ h. let e = (and_true (has_right (get_or m.plant.task_rights (get_or m.running s 0 * 8 + get_or m.plant.tank_group o 0) 0) r) (chosen_here s o) (and_true (not (eqb (get_or m.running s 0) 255)) _ h).1).1 in rw (h, e) (omega arith))
      (λ h. rw h (omega arith))

  tank_short : (s o : ℕ) → length (tank_bytes_in m s o) ≤ cond (chosen_here s o) 9 0
  tank_short s o =
      let b = collect_bound (λ i. right_bytes_in m s o (get_or all_rights i 0)) (λ i. chosen_here s o) 3 3 (λ i l. right_short s o (get_or all_rights i 0)) in
      split (chosen_here s o)
      (λ h. rw h (omega (arith, b, count_all (λ r. chosen_here s o) 3)))
      (λ h. rw h (omega (arith, b, count_none (λ r. chosen_here s o) 3 (λ r l. h))))

  module _ (k : Known m) where
    skid_short : (s : ℕ) → length (skid_bytes_in m s) ≤ 72
    unfolding chosen_here
    skid_short s =
        let b = collect_bound (tank_bytes_in m s) (chosen_here s) 9 m.plant.tanks (λ o l. tank_short s o) in
        let n : count_below (chosen_here s) m.plant.tanks ≤ 8 =
        count_places (λ o. get_or m.plant.tank_group o 0) 8 m.plant.tanks (chosen_here s) (λ o l h. entry_at m.plant.tank_group 8 m.plant.tanks o k.groups_there l)
        (λ i j a c x y e. sym (eqb-true _ i x) ∙ ap (λ (g : ℕ). get_or m.chosen (chosen_at s g) 0) e ∙ eqb-true _ j y)
        in
        omega (arith, b, n)

    pub list_short : length (skids_bytes_in m) ≤ 576
    list_short =
        let b = collect_bound (skid_bytes_in m) (λ s. true) 72 m.plant.skids (λ s l. skid_short s) in
        omega (arith, b, count_all (λ s. true) m.plant.skids, k.skids_fit)
