-- The count that is stored in front of the rights. Assumes nothing.
use mathlib.Core.Path.{◌≡◌, ap, ap₂, ◌∙◌}
use Prim.Native.Nat.{ℕ, suc, ◌+◌, ◌/◌, ◌≤◌}
use mathlib.Core.List.{List, [], ◌∷◌, ◌++◌}
use native.Mathlib.Omega.{arith}
use lib.ListN.{length, set, take, drop}
use Rattle.base.specs.Overlay.{overlay, Wrote}

-- the rights stand behind the first byte, and a third of their bytes goes into it
pub counted : (out ws : List ℕ) {front rest : List ℕ} {end : ℕ} → 1 ≤ length out → front ≡ take 1 out → Wrote ws (drop 1 out) 0 rest end → set front 0 (end / 3) ++ rest ≡ overlay out 0 (length ws / 3 ∷ ws)
unfolding overlay
counted [] ws h f w = absurd (omega arith)
counted (x ∷ xs) ws {front} {rest} {end} h f w =
    let n : end ≡ length ws = omega (arith, w.place) in
    let e : suc (0 + length ws) ≡ 0 + suc (length ws) = omega arith in
    ap (λ (l : List ℕ). set l 0 (end / 3) ++ rest) f
    ∙ ap₂ (λ (k : ℕ) (l : List ℕ). k / 3 ∷ l) n (w.bytes ∙ ap (λ (k : ℕ). ws ++ drop k (x ∷ xs)) e)

-- the count goes in front
pub overlay_front : (xs : List ℕ) (v : ℕ) (ws : List ℕ) → 1 ≤ length xs → set (overlay xs 1 ws) 0 v ≡ overlay xs 0 (v ∷ ws)
unfolding overlay
overlay_front [] v ws h = absurd (omega arith)
overlay_front (x ∷ xs) v ws h = ap (λ (k : ℕ). v ∷ (ws ++ drop k (x ∷ xs))) (let e : 1 + length ws ≡ 0 + suc (length ws) = omega arith in e)
