-- The rights held, as a list: what it has to hold, the list itself, and its bytes.
use Rattle.std.specs.Prelude.{◌≡◌, ◌⊎◌, ◌↔◌, ℕ, ◌<◌, cond, List, [], ◌∷◌, length, get_or}
use Rattle.base.specs.Collect.{collect}
use Rattle.base.specs.Rising.{In, Rising}
use Rattle.plant.specs.declared.Plant.{Plant}
use Rattle.plant.specs.Right.{all_rights}
use Rattle.rules.specs.Rules.{View, holds}

-- One right that a skid holds on a tank: the article's current access, an element of B.
pub record HeldRight : Type 0 where
  pub skid : ℕ
  pub tank : ℕ
  pub right : ℕ

-- by skid, then by tank, then by right
abbrev pub Before : HeldRight → HeldRight → Type 0
Before a b = (a.skid < b.skid) ⊎ ((a.skid ≡ b.skid) × ((a.tank < b.tank) ⊎ ((a.tank ≡ b.tank) × (a.right < b.right))))

-- l lists what H says is held: exactly those rights, each once, rising. proofs/Listed has that there is no other such list.
pub record Lists (H : ℕ → ℕ → ℕ → Type 0) (l : List HeldRight) : Type 0 where
  pub exactly : (s o r : ℕ) → In (record { skid = s; tank = o; right = r }) l ↔ H s o r
  pub rising : Rising Before l

-- The list, over what is known of each skid: the record's views or the history's. Going through the groups would give another order where a
-- higher group's tank has the lower number.
module _ (P : Plant) (vs : ℕ → View) where
  abbrev pub right_at : ℕ → ℕ → ℕ → List HeldRight
  right_at s o r = cond (holds P (vs s) o r) (record { skid = s; tank = o; right = r } ∷ []) []

  abbrev pub rights_on : ℕ → ℕ → List HeldRight
  rights_on s o = collect (λ i. right_at s o (get_or all_rights i 0)) (length all_rights)

  abbrev pub rights_by : ℕ → List HeldRight
  rights_by s = collect (rights_on s) P.tanks

  unfoldable pub rights_held : List HeldRight
  rights_held = collect rights_by P.skids

-- Three bytes for each right: skid, tank, right.
unfoldable pub right_bytes : List HeldRight → List ℕ
right_bytes [] = []
right_bytes (h ∷ l) = h.skid ∷ h.tank ∷ h.right ∷ right_bytes l

-- How many there are, and then each.
abbrev pub listing : List HeldRight → List ℕ
listing l = length l ∷ right_bytes l
