-- What the code keeps beside the record while it serves a list (rights granted, groups needed), and what a start looks for, group by group. Each
-- has its law in proofs/: on a record that passes test 20 it is what the rules say.
use Rattle.std.specs.Prelude.{◌≡◌, ℕ, ◌+◌, ◌*◌, ◌<◌, Bool, true, not, cond, ◌&&◌, ◌||◌, List, [], ◌∷◌, eqb, ltb, leb, get_or, length, replicate, Option, None, is_none, unwrap_or, IfSome, Result, IfOk}
use Rattle.std.proofs.Math.ListN as ListN
use Rattle.base.specs.Below.{any_below}
use Rattle.base.specs.Bits.{bit}
use Rattle.base.specs.Chain.{Test, ◌gives◌, first}
use Rattle.base.specs.Fill.{fill}
use Rattle.plant.specs.declared.Plant.{Plant}
use Rattle.plant.specs.Right.{has_right}
use Rattle.refusal.specs.declared.Refusal.{Refusal}
use Rattle.refusal.specs.Number.{answer_of}
use Rattle.rules.specs.Record.{level_at, chosen_at}

-- a stored task is none or a task; a stored level is unset or a level
abbrev pub task_known : List ℕ → ℕ → Bool
task_known running s = eqb (get_or running s 0) 255 || ltb (get_or running s 0) 16

abbrev pub level_known : List ℕ → ℕ → ℕ → ℕ → Bool
level_known levels s t d = eqb (get_or levels (level_at s t d) 0) 255 || ltb (get_or levels (level_at s t d) 0) 16

-- whether skid s holds right r on tank o, read off the arrays; proofs/Views has that this is what the rules say
abbrev pub held_in : List ℕ → List ℕ → List ℕ → List ℕ → ℕ → ℕ → ℕ → Bool
held_in group rights running chosen s o r =
    not (eqb (get_or running s 0) 255)
    && (has_right (get_or rights (get_or running s 0 * 8 + get_or group o 0) 0) r && eqb (get_or chosen (chosen_at s (get_or group o 0)) 0) o)

-- the rights that task t names on group g, and that it names one there
abbrev pub rights_in : List ℕ → ℕ → ℕ → ℕ
rights_in rights t g = get_or rights (t * 8 + g) 0

abbrev pub needs_in : List ℕ → ℕ → ℕ → Bool
needs_in rights t g = not (eqb (rights_in rights t g) 0)

-- those of the task that skid s runs, and none where it runs nothing
abbrev pub grant_in : List ℕ → List ℕ → ℕ → ℕ → ℕ
grant_in rights running s g = cond (eqb (get_or running s 0) 255) 0 (rights_in rights (get_or running s 0) g)

-- The rights of the running tasks, kept beside the record so that a gate asks one entry: each start and stop keeps them so.
pub record Granted (rights running : List ℕ) (skids : ℕ) (granted : List ℕ) : Type 0 where
  pub tasks : length running ≡ 8
  pub size : length granted ≡ 64
  pub right : (s g : ℕ) → s < skids → g < 8 → get_or granted (chosen_at s g) 0 ≡ grant_in rights running s g

-- the same as held_in, by them; proofs/Grants has that it is
abbrev pub granted_in : List ℕ → List ℕ → List ℕ → ℕ → ℕ → ℕ → Bool
granted_in group granted chosen s o r = eqb (get_or chosen (chosen_at s (get_or group o 0)) 0) o && has_right (get_or granted (chosen_at s (get_or group o 0)) 0) r

-- the groups on which task t names a right, as a set
abbrev pub NeedIn : List ℕ → ℕ → ℕ → ℕ → Type 0
NeedIn rights t groups need = (g : ℕ) → bit need g ≡ ltb g groups && needs_in rights t g

-- the same of a plant
abbrev pub NeedOf : Plant → ℕ → ℕ → Type 0
NeedOf P t need = NeedIn P.task_rights t P.groups need

-- The sets of all tasks. Each is made at the first start of its task in a list that passes 26.
pub record Needed (P : Plant) (needs : List (Option ℕ)) : Type 0 where
  pub size : length needs ≡ 16
  pub right : (t : ℕ) → t < 16 → IfSome (get_or needs t None) (NeedOf P t)

-- set's conditions before the level: whether its items are there
abbrev pub set_items : Plant → ℕ → ℕ → ℕ → List Test
set_items P s t d = leb P.skids s gives 21 ∷ leb P.tasks t gives 22 ∷ leb P.requirements d gives 23 ∷ []

-- start's conditions: those that are asked before any group is looked at
abbrev pub early_tests : List ℕ → List ℕ → ℕ → ℕ → ℕ → ℕ → List Test
early_tests may running skids tasks s t =
    leb skids s gives 21 ∷ leb tasks t gives 22 ∷ not (bit (get_or may s 0) t) gives 25 ∷ not (eqb (get_or running s 0) 255) gives 26 ∷ []

-- the level that the skid has for the requirement of group g
abbrev pub wish_in : List ℕ → List ℕ → ℕ → ℕ → ℕ → ℕ
wish_in requirement levels s t g = get_or levels (level_at s t (get_or requirement g 0)) 0

-- and those of the groups: `needed` says on which of them the task names a right, and `found` which tank a group has for a level
abbrev pub blank_in : List ℕ → List ℕ → ℕ → ℕ → (ℕ → Bool) → ℕ → Bool
blank_in requirement levels s t needed g = needed g && eqb (wish_in requirement levels s t g) 255

module _ (found : ℕ → ℕ → Option ℕ) (requirement levels : List ℕ) (s t : ℕ) where
  -- the tank for the level of group g
  abbrev pub found_in : ℕ → Option ℕ
  found_in g = found g (wish_in requirement levels s t g)

  -- what is found at one group, whose tank goes to the row
  pub record GroupDone (g : ℕ) (row : List ℕ) (number : ℕ) (row' : List ℕ) : Type 0 where
    pub answers : number ≡ first (eqb (wish_in requirement levels s t g) 255 gives 27 ∷ is_none (found_in g) gives 28 ∷ [])
    pub chooses : row' ≡ cond (eqb (wish_in requirement levels s t g) 255) row (ListN.set row g (unwrap_or (found_in g) 255))

  module _ (needed : ℕ → Bool) where
    -- a group that is needed has no tank; and its tank as the row has it, 255 where it has none or is not needed
    abbrev pub lacking_in : ℕ → Bool
    lacking_in g = needed g && is_none (found_in g)

    abbrev pub pick_in : ℕ → ℕ
    pick_in g = cond (needed g) (unwrap_or (found_in g) 255) 255

    abbrev pub row_in : ℕ → List ℕ
    row_in groups = fill pick_in (replicate 8 255) groups

    -- 27 of any group comes before 28 of any
    abbrev pub row_tests : ℕ → List Test
    row_tests groups = any_below (blank_in requirement levels s t needed) groups gives 27 ∷ any_below lacking_in groups gives 28 ∷ []

    -- what is found over all groups: 27, 28 or the row of their tanks
    pub record RowDone (groups : ℕ) (outcome : Result (List ℕ) Refusal) : Type 0 where
      pub answers : answer_of outcome ≡ first (row_tests groups)
      pub chooses : IfOk outcome (λ row. row ≡ row_in groups)

-- each group of the set is there, and its level is unset or a level
abbrev pub Reached : List ℕ → List ℕ → ℕ → ℕ → ℕ → Type 0
Reached requirement levels s t need = (g : ℕ) → bit need g ≡ true → (g < 8) × ((get_or requirement g 0 < 8) × (level_known levels s t (get_or requirement g 0) ≡ true))

-- an entry of a row of choices
abbrev pub get_row : List ℕ → ℕ → ℕ
get_row row g = get_or row g 0
