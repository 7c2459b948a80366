-- A table of choices by rows: what an entry that is stored leaves. Assumes nothing.
use mathlib.Core.Path.{◌≡◌, ap, ◌∙◌}
use mathlib.Core.Logic.{◌≢◌}
use Prim.Native.Nat.{ℕ, ◌<◌}
use mathlib.Core.List.{List, []}
use native.Mathlib.Omega.{arith}
use native.Mathlib.Decide.{ℕ_discrete}
use lib.ListN.{length, get_or, set, replicate, length-set, length-replicate, get_or-replicate}
use lib.Seq.{get_or-set_same, get_or-set_other}
use Rattle.std.specs.Prelude.{Option, None}
use Rattle.choice.specs.Table.{made_at, with_made, EightRows}

-- a table without an entry
pub rows_none : EightRows (replicate 8 (replicate 16 None))
rows_none = record {
  rows = length-replicate {A = List (Option ℕ)} 8 (replicate 16 None);
  row = λ g l. ap length (get_or-replicate {A = List (Option ℕ)} 8 g (replicate 16 None) [] l) ∙ length-replicate {A = Option ℕ} 16 None;
}

pub entry_none : (g v : ℕ) → g < 8 → v < 16 → made_at (replicate 8 (replicate 16 None)) g v ≡ None
entry_none g v l m = ap (λ row. get_or row v None) (get_or-replicate {A = List (Option ℕ)} 8 g (replicate 16 None) [] l) ∙ get_or-replicate {A = Option ℕ} 16 v None None m

module _ {made : List (List (Option ℕ))} (e : EightRows made) (g v : ℕ) (l : g < 8) (o : Option ℕ) where
  -- the row of the group, and that of another
  own_row : get_or (with_made made g v o) g [] ≡ set (get_or made g []) v o
  own_row = get_or-set_same made g _ [] (omega (arith, l, e.rows))

  other_row : (h : ℕ) → h ≢ g → get_or (with_made made g v o) h [] ≡ get_or made h []
  other_row h n = get_or-set_other made g h _ [] n

  pub rows_put : EightRows (with_made made g v o)
  rows_put = record {
    rows = length-set made g _ ∙ e.rows;
    row = λ h m. elim (ℕ_discrete h g) [
      | yes z ↦ rw z (ap length own_row ∙ length-set (get_or made g []) v o ∙ e.row g l)
      | no z ↦ ap length (other_row h z) ∙ e.row h m
    ];
  }

  pub entry_own : v < 16 → made_at (with_made made g v o) g v ≡ o
  entry_own m = ap (λ row. get_or row v None) own_row ∙ get_or-set_same (get_or made g []) v o None (omega (arith, m, e.row g l))

  pub entry_other_group : (h w : ℕ) → h ≢ g → made_at (with_made made g v o) h w ≡ made_at made h w
  entry_other_group h w n = ap (λ row. get_or row w None) (other_row h n)

  pub entry_other_level : (h w : ℕ) → w ≢ v → made_at (with_made made g v o) h w ≡ made_at made h w
  entry_other_level h w n = elim (ℕ_discrete h g) [
    | yes z ↦ rw z (ap (λ row. get_or row w None) own_row ∙ get_or-set_other (get_or made g []) v w o None n)
    | no z ↦ entry_other_group h w z
  ]
