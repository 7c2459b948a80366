-- The choices that a start by itself looks up, searched for one group after the other. Assumes nothing.
use mathlib.Core.Path.{◌≡◌, sym, ap, ◌∙◌}
use mathlib.Core.Logic.{◌≢◌}
use Prim.Native.Nat.{ℕ, ◌<◌}
use native.Mathlib.Omega.{arith}
use mathlib.Core.Bool.{true, false, not, ◌&&◌}
use mathlib.Core.Bool as bool
use mathlib.Core.List.{List}
use lib.Dec.{eqb}
use borrow.Author.Tests.{eqb-true, eqb-false}
use Rattle.std.specs.Prelude.{Option}
use Rattle.base.specs.Bits.{bit}
use Rattle.base.proofs.Logic.{split, and_true}
use Rattle.base.proofs.Members.{part_left}
use Rattle.plant.specs.declared.Plant.{Plant}
use Rattle.plant.specs.Plant.{requirement_of}
use Rattle.choice.specs.Choice.{unset, if_set, choice}
use Rattle.choice.specs.Table.{made_at, with_made, EightRows, group_choice}
use Rattle.choice.proofs.Entries.{rows_put, entry_own, entry_other_group}
use Rattle.choice.proofs.Search.{search_choice}
use Rattle.sets.specs.Members.{TakenFrom}
use Rattle.calls.specs.Work.{NeedOf}
use Rattle.calls.specs.Start.{SearchReads, stored_wish}
use Rattle.calls.proofs.Groups.{seen}
use Rattle.calls.proofs.Known.{known}
use Rattle.calls.proofs.Made.{needed_there}

module _ {P : Plant} {levels : List ℕ} {s t : ℕ} (R : SearchReads P levels s t) where
  -- the level that the skid has for group g
  abbrev level_for : ℕ → ℕ
  level_for g = stored_wish levels s t (requirement_of P g)

  module _ (g : ℕ) (l : g < P.groups) where
    pub group_low : g < 8
    group_low = omega (arith, R.valid.counts.groups_fit)

    pub level_low : level_for g ≢ unset → level_for g < 16
    level_low = known (level_for g) 16 (R.levels_known g l)

-- what the loop knows when `rest` is left of the set
module _ (P : Plant) (levels : List ℕ) (s t need : ℕ) where
  pub record LookedSoFar (rest : ℕ) (made : List (List (Option ℕ))) : Type 0 where
    pub part : (g : ℕ) → bit rest g ≡ true → bit need g ≡ true
    pub size : EightRows made
    pub entries : (g : ℕ) → seen need rest g ≡ true → stored_wish levels s t (requirement_of P g) ≢ unset
        → made_at made g (stored_wish levels s t (requirement_of P g)) ≡ if_set (choice P g (stored_wish levels s t))

module _ {P : Plant} {levels : List ℕ} {s t need rest : ℕ} {made : List (List (Option ℕ))} (v : LookedSoFar P levels s t need rest made) (R : SearchReads P levels s t) (n : NeedOf P t need) where
  abbrev level : ℕ → ℕ
  level g = stored_wish levels s t (requirement_of P g)

  -- a level that is set is one of sixteen
  low : (j : ℕ) → bit need j ≡ true → level j ≢ unset → level j < 16
  low j b = level_low R j (needed_there P t need n j b).0

  abbrev entry : List (List (Option ℕ)) → ℕ → Option ℕ
  entry xs j = made_at xs j (level j)

  -- group g is taken from the rest, and `left` is the rest without it
  module _ {g left : ℕ} (T : TakenFrom rest g left) where
    -- its entry is right after the step, and those of the others are as before
    next : {made' : List (List (Option ℕ))} → EightRows made' → (level g ≢ unset → entry made' g ≡ if_set (choice P g (stored_wish levels s t)))
        → ((j : ℕ) → eqb g j ≡ false → bit need j ≡ true → level j ≢ unset → entry made' j ≡ entry made j) → LookedSoFar P levels s t need left made'
    next a b c = record {
      part = λ j h. v.part j (part_left rest left g T.leaves j h);
      size = a;
      entries = λ j h x. split (eqb g j)
          (λ z. let e = eqb-true g j z in let y : level g ≢ unset = rw e x in rw (← e) (b y))
          (λ z.
          let k : seen need rest j ≡ true = rw (T.leaves j, z, bool.and-true (bit rest j)) at h in
          c j z (and_true (bit need j) (not (bit rest j)) k).0 x ∙ v.entries j k x);
    }

    pub looked_put : eqb (level g) unset ≡ false → {o : Option ℕ} → o ≡ if_set (group_choice P g (level g)) → LookedSoFar P levels s t need left (with_made made g (level g) o)
    looked_put f {o} e =
        let b = v.part g T.was_in in
        let k = group_low R g (needed_there P t need n g b).0 in
        let l = low g b (eqb-false _ _ f) in
        next (rows_put v.size g (level g) k o)
        (λ x. entry_own v.size g (level g) k o l ∙ e ∙ ap if_set (search_choice P g (stored_wish levels s t)))
        (λ j z h x. entry_other_group v.size g (level g) k o j (level j) (λ y. eqb-false g j z (sym y)))
