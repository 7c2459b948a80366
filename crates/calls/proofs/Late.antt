-- What a start finds at its groups is what the rules say, on every record that passes test 20. Assumes nothing.
use mathlib.Core.Path.{◌≡◌, refl, sym, ap, ◌∙◌}
use Prim.Native.Nat.{ℕ, ◌<◌}
use native.Mathlib.Omega.{arith}
use mathlib.Core.Bool.{Bool, true, false, cond, not, ◌&&◌, and_assoc}
use mathlib.Core.List.{List}
use lib.Dec.{eqb, ltb}
use lib.ListN.{replicate, length-replicate}
use borrow.Author.Tests.{eqb-false, eq-eqb, ne_eqb}
use Rattle.std.specs.Prelude.{Option, unwrap_or, Result, Ok, Err, IfOk}
use Rattle.base.specs.Below.{any_below}
use Rattle.base.specs.Bits.{bit}
use Rattle.base.specs.Chain.{first}
use Rattle.base.proofs.Logic.{split}
use Rattle.base.proofs.Below.{any_no, any_same, any_upto}
use Rattle.base.proofs.Filled.{fill_at}
use Rattle.plant.specs.declared.Plant.{Plant}
use Rattle.plant.specs.Plant.{requirement_of, needs}
use Rattle.plant.specs.Valid.{Valid}
use Rattle.choice.specs.Choice.{unset, if_set, served, choice}
use Rattle.choice.proofs.Choice.{choice_is, choice_none}
use Rattle.choice.specs.Table.{made_at, ChoicesIn}
use Rattle.choice.proofs.Search.{table_choice, choice_same}
use Rattle.refusal.specs.declared.Refusal.{Refusal}
use Rattle.refusal.specs.Number.{answer_of}
use Rattle.rules.specs.declared.Monitor.{Monitor}
use Rattle.rules.specs.Rules.{blank_at, blank, lacking, conditions, pick_for}
use Rattle.calls.specs.Work.{level_known, wish_in, found_in, blank_in, lacking_in, pick_in, NeedOf, Reached, RowDone, get_row}
use Rattle.calls.specs.Start.{Startable, SearchReads, LateReads, Looked, NeedsAt, wish_of, stored_wish, late_tests}
use Rattle.calls.proofs.Made.{needed_there}
use Rattle.calls.proofs.Known.{known, none_set, byte_set}
use Rattle.calls.proofs.Ready.{plant_valid, level_there}
use Rattle.calls.proofs.Views.{level_is}

-- of a group: its level is unset, it has no tank, and the tank that it has
module _ (m : Monitor) (s t : ℕ) where
  abbrev pub level_unset : ℕ → Bool
  level_unset g = eqb (wish_of m s t (requirement_of m.plant g)) unset

  abbrev pub no_tank : ℕ → Bool
  no_tank g = not (served m.plant g (wish_of m s t))

  abbrev pub tank_for : ℕ → ℕ
  tank_for g = choice m.plant g (wish_of m s t)

-- what is found over all groups, in the rules' words
pub record RowChosen (m : Monitor) (s t : ℕ) (outcome : Result (List ℕ) Refusal) : Type 0 where
  pub answers : answer_of outcome ≡ first (late_tests m s t)
  pub chooses : IfOk outcome (λ row. (g : ℕ) → g < 8 → get_row row g ≡ pick_for m.plant t (wish_of m s t) g)

-- what is looked up is there, and the level that is stored is the wish
module _ {s t : ℕ} {m : Monitor} (W : Startable s t m) where
  is_valid : Valid m.plant
  is_valid = plant_valid m W.passes

  pub skid_fits : s < 8
  skid_fits = omega (arith, W.skid, is_valid.counts.skids_fit)

  pub task_fits_lem : t < 16
  task_fits_lem = omega (arith, W.task, is_valid.counts.tasks_fit)

  module _ (g : ℕ) (l : g < m.plant.groups) where
    pub group_fits : g < 8
    group_fits = omega (arith, is_valid.counts.groups_fit)

    pub is_wish : wish_in m.plant.group_requirement m.levels s t g ≡ wish_of m s t (requirement_of m.plant g)
    is_wish = sym (level_is m W.passes s t g W.skid W.task l)

    stored_known : level_known m.levels s t (requirement_of m.plant g) ≡ true
    stored_known = level_there m W.passes s t (requirement_of m.plant g) W.skid W.task (is_valid.req_in g l)

  -- what the tanks of the groups are searched in
  pub search_reads : SearchReads m.plant m.levels s t
  search_reads = record { valid = is_valid; skid = skid_fits; task = task_fits_lem; levels_known = stored_known }

  -- the groups of the set of those that the task needs
  module _ (need : ℕ) (n : NeedOf m.plant t need) where
    pub reached : Reached m.plant.group_requirement m.levels s t need
    reached g e =
        let l = (needed_there m.plant t need n g e).0 in
        (group_fits g l, (omega (arith, is_valid.req_in g l, is_valid.counts.requirements_fit), stored_known g l))

    -- a test of the groups of the set, and one of the groups that the task needs
    pub over_needed : (p : ℕ → Bool) → any_below (λ g. bit need g && p g) 8 ≡ any_below (λ g. needs m.plant t g && p g) m.plant.groups
    over_needed p =
        any_same 8 (λ g. bit need g && p g) (λ g. ltb g m.plant.groups && (needs m.plant t g && p g)) (λ g l. ap (λ x. x && p g) (n g) ∙ and_assoc (ltb g m.plant.groups) (needs m.plant t g) (p g))
        ∙ any_upto 8 m.plant.groups (λ g. needs m.plant t g && p g) is_valid.counts.groups_fit

-- a table of all choices has what a start looks up
pub table_looked : {P : Plant} {levels : List ℕ} {s t : ℕ} → SearchReads P levels s t → {made : List (List (Option ℕ))} → ChoicesIn P made → Looked P levels s t made
table_looked {P} {levels} {s} {t} R c g l n = table_choice P c g (stored_wish levels s t) l.0 (known (stored_wish levels s t (requirement_of P g)) 16 (R.levels_known g l.0) n)

-- What the row of a start is in the rules' words, where `need` is the set of the task's groups.
module _ {made : List (List (Option ℕ))} {s t : ℕ} {m : Monitor} (R : LateReads made s t m) (need : ℕ) (n : NeedOf m.plant t need) where
  abbrev P : Plant
  P = m.plant

  X : Valid P
  X = is_valid R.startable

  abbrev found : ℕ → Option ℕ
  found = found_in (made_at made) m.plant.group_requirement m.levels s t

  there : (g : ℕ) → bit need g ≡ true → NeedsAt P t g
  there = needed_there P t need n

  same_unset : any_below (blank_in m.plant.group_requirement m.levels s t (bit need)) 8 ≡ any_below (λ g. needs P t g && level_unset m s t g) P.groups
  same_unset =
      any_same 8 (blank_in m.plant.group_requirement m.levels s t (bit need)) (λ g. bit need g && level_unset m s t g)
      (λ g l. split (bit need g) (λ b. rw (b, is_wish R.startable g (there g b).0)) (λ b. rw b))
      ∙ over_needed R.startable need n (level_unset m s t)

  -- no level of the set is unset: the table has the choices
  module _ (z : any_below (blank_in m.plant.group_requirement m.levels s t (bit need)) 8 ≡ false) where
    same_found : (g : ℕ) → bit need g ≡ true → found g ≡ if_set (tank_for m s t g)
    same_found g b =
        let l = there g b in
        let w = is_wish R.startable g l.0 in
        let u : eqb (wish_in m.plant.group_requirement m.levels s t g) 255 ≡ false = rw b at (any_no 8 (blank_in m.plant.group_requirement m.levels s t (bit need)) z g (group_fits R.startable g l.0)) in
        R.table g l (eqb-false (wish_in m.plant.group_requirement m.levels s t g) 255 u) ∙ ap if_set (choice_same P g (stored_wish m.levels s t) (wish_of m s t) w)

    -- a group that is served has a tank, and 255 stands for none
    none_served : (g : ℕ) → g < P.groups → eqb (tank_for m s t g) 255 ≡ no_tank m s t g
    none_served g l = split (served P g (wish_of m s t))
        (λ y. rw y (ne_eqb (tank_for m s t g) 255 (λ e. omega (arith, e, (choice_is P X g l (wish_of m s t) y).is_nearest.is_tank, X.counts.tanks_fit))))
        (λ y. rw y (eq-eqb (tank_for m s t g) 255 (choice_none P X g l (wish_of m s t) y)))

    same_lacking : any_below (lacking_in (made_at made) m.plant.group_requirement m.levels s t (bit need)) 8 ≡ any_below (λ g. needs P t g && no_tank m s t g) P.groups
    same_lacking =
        any_same 8 (lacking_in (made_at made) m.plant.group_requirement m.levels s t (bit need)) (λ g. bit need g && no_tank m s t g)
        (λ g l. split (bit need g) (λ b. rw (b, same_found g b) (none_set (tank_for m s t g) ∙ none_served g (there g b).0)) (λ b. rw b))
        ∙ over_needed R.startable need n (no_tank m s t)

    same_pick : (g : ℕ) → cond (bit need g) (unwrap_or (found g) 255) 255 ≡ cond (bit need g) (tank_for m s t g) 255
    same_pick g = split (bit need g) (λ b. rw (b, same_found g b) (byte_set (tank_for m s t g))) (λ b. rw b)

  module _ {outcome : Result (List ℕ) Refusal} (d : RowDone (made_at made) m.plant.group_requirement m.levels s t (bit need) 8 outcome) where
    number_is : answer_of outcome ≡ first (late_tests m s t)
    unfolding conditions blank blank_at lacking
    number_is = split (any_below (blank_in m.plant.group_requirement m.levels s t (bit need)) 8)
        (λ z. (rw z at d.answers) ∙ sym (rw (sym same_unset ∙ z)))
        (λ z. d.answers ∙ rw (same_unset, same_lacking z))

    -- none is unset where none is refused
    all_set : answer_of outcome ≡ 0 → any_below (blank_in m.plant.group_requirement m.levels s t (bit need)) 8 ≡ false
    all_set e = split (any_below (blank_in m.plant.group_requirement m.levels s t (bit need)) 8) (λ z. absurd (omega (arith, e, rw z at d.answers))) (λ z. z)

  pub row_chosen : (outcome : Result (List ℕ) Refusal) → RowDone (made_at made) m.plant.group_requirement m.levels s t (bit need) 8 outcome → RowChosen m s t outcome
  unfolding pick_for
  row_chosen (Err r) d = record { answers = number_is d; chooses = tt }
  row_chosen (Ok row) d = record {
    answers = number_is d;
    chooses = λ g l.
        ap (λ (r : List ℕ). get_row r g) d.chooses
        ∙ fill_at (pick_in (made_at made) m.plant.group_requirement m.levels s t (bit need)) (replicate 8 255) 8 g 0 (omega (arith, length-replicate {A = ℕ} 8 255)) l
        ∙ same_pick (all_set d refl) g ∙ rw (n g);
  }
