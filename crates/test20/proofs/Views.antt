-- Of a sound plant, test 20 on the flat lists is the test of each skid's view, and every number that the code reads by is within the record. Assumes nothing.
use mathlib.Core.Path.{◌≡◌, sym, ap, ap₂, ◌∙◌}
use Prim.Native.Nat.{ℕ, ◌+◌, ◌*◌, ◌<◌}
use native.Mathlib.Omega.{arith}
use mathlib.Core.Bool.{Bool, true, false, ◌&&◌, ◌||◌}
use lib.Dec.{eqb}
use lib.ListN.{get_or, replicate, length-replicate}
use borrow.Author.Tests.{lt-ltb, eq-eqb, ne_eqb}
use Rattle.base.specs.Below.{all_below}
use Rattle.base.proofs.Below.{all_yes, all_at, all_same}
use Rattle.base.proofs.Filled.{fill_at}
use Rattle.base.proofs.Logic.{split, same_test, and_true, and_intro}
use Rattle.plant.specs.declared.Plant.{Plant}
use Rattle.plant.specs.Plant.{levels_of, lattice_of, rights_of}
use Rattle.plant.specs.Checks.{Fits, plant_refusal}
use Rattle.plant.specs.Valid.{Valid}
use Rattle.plant.proofs.Sound.{sound_law}
use Rattle.plant.proofs.Valid.{valid}
use Rattle.choice.specs.Choice.{unset}
use Rattle.rules.specs.declared.Monitor.{Monitor}
use Rattle.rules.specs.Intact.{level_ok, task_ok, tank_ok, intact_view, intact_views}
use Rattle.rules.specs.Record.{view_of, intact}
use Rattle.test20.specs.Raw.{most, row_level_in, task_levels_in, skid_levels_in, task_in, chosen_in, skid_runs_in, parts_in}

-- two tests of each index, asked one after the other or at once
all_both : (n : ℕ) (p q : ℕ → Bool) → all_below (λ i. p i && q i) n ≡ all_below p n && all_below q n
all_both n p q = same_test (all_below (λ (i : ℕ). p i && q i) n) (all_below p n && all_below q n)
    (λ e. and_intro (all_yes n p (λ i l. (and_true (p i) (q i) (all_at n (λ (i : ℕ). p i && q i) e i l)).0)) (all_yes n q (λ i l. (and_true (p i) (q i) (all_at n (λ (i : ℕ). p i && q i) e i l)).1)))
    (λ e. let h = and_true (all_below p n) (all_below q n) e in all_yes n (λ (i : ℕ). p i && q i) (λ i l. and_intro (all_at n p h.0 i l) (all_at n q h.1 i l)))

module _ (P : Plant) (m : Monitor) (F : Fits P) (s : ℕ) (l : s < P.skids) where
  level_same : (t d : ℕ) → t < P.tasks → d < P.requirements → level_ok P (view_of P m s) t d ≡ row_level_in m.levels (most P) (s * 16 + t) d
  unfolding level_ok view_of
  level_same t d a b =
      let r = F.requirements_fit in
      rw (lt-ltb s P.skids l, lt-ltb t P.tasks a, lt-ltb d P.requirements b, fill_at (levels_of P) (replicate 8 255) P.requirements d 0 (omega (arith, length-replicate {A = ℕ} 8 255)) b)

  levels_same : all_below (λ t. all_below (λ d. level_ok P (view_of P m s) t d) P.requirements) P.tasks ≡ skid_levels_in m.levels (most P) P.requirements P.tasks s
  levels_same = all_same P.tasks _ (task_levels_in m.levels (most P) P.requirements s) (λ t a. all_same P.requirements _ (row_level_in m.levels (most P) (s * 16 + t)) (λ d b. level_same t d a b))

  -- with nothing running no tank is asked
  tank_free : eqb (get_or m.running s 0) unset ≡ true → (g : ℕ) → tank_ok P (view_of P m s) g ≡ true
  unfolding tank_ok view_of
  tank_free e g = rw (lt-ltb s P.skids l, e)

  tank_same : eqb (get_or m.running s 0) unset ≡ false → (g : ℕ) → g < P.groups → tank_ok P (view_of P m s) g ≡ chosen_in P.task_rights P.tank_group m.chosen P.tanks (get_or m.running s 0) s g
  unfolding tank_ok view_of
  tank_same e g a = rw (lt-ltb s P.skids l, lt-ltb g P.groups a, e) (split (eqb (rights_of P (get_or m.running s 0) g) 0) (λ z. rw z) (λ z. rw z))

  task_same : task_ok P s (view_of P m s) ≡ eqb (get_or m.running s 0) unset || task_in P.skid_tasks P.tasks (get_or m.running s 0) s
  unfolding task_ok view_of
  task_same = rw (lt-ltb s P.skids l)

  runs_same : task_ok P s (view_of P m s) && all_below (λ g. tank_ok P (view_of P m s) g) P.groups ≡ skid_runs_in P m.running m.chosen s
  runs_same = rw task_same (split (eqb (get_or m.running s 0) unset)
      (λ e. rw e (all_yes P.groups _ (λ g a. tank_free e g)))
      (λ e. rw e (ap (λ (b : Bool). task_in P.skid_tasks P.tasks (get_or m.running s 0) s && b) (all_same P.groups _ _ (λ g a. tank_same e g a)))))

  view_same : intact_view P s (view_of P m s) ≡ skid_levels_in m.levels (most P) P.requirements P.tasks s && skid_runs_in P m.running m.chosen s
  unfolding intact_view
  view_same = ap₂ ◌&&◌ levels_same runs_same

-- k is the number that refuses the plant, or 0
module _ (P : Plant) {k : ℕ} (e : k ≡ plant_refusal true true P) where
  pub refused : (m : Monitor) → (k ≡ 0 → ⊥) → false ≡ intact P m
  unfolding intact_views
  refused m n = rw (← e, ne_eqb k 0 n)

  module _ (z : k ≡ 0) where
    known : Valid P
    known = valid P ((sound_law P).0 (sym e ∙ z))

    pub fits : Fits P
    fits = known.counts

    pub lattices_in : (d : ℕ) → d < P.requirements → lattice_of P d < 8
    lattices_in d l = omega (arith, fits.lattices_fit, known.lattice_in d l)

    -- r is what the test of the changing parts returned
    pub intact_same : (m : Monitor) {r : Bool} → r ≡ parts_in P m.levels m.running m.chosen → r ≡ intact P m
    unfolding intact_views
    intact_same m h = h ∙ sym (rw (eq-eqb _ _ (sym e ∙ z))
        (all_same P.skids _ _ (λ s l. view_same P m fits s l) ∙ all_both P.skids (skid_levels_in m.levels (most P) P.requirements P.tasks) (skid_runs_in P m.running m.chosen)))
