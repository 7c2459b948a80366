-- A line is its first word with the space behind it, and then the line of the others. Assumes nothing.
use Prim.Native.Nat.{ℕ}
use mathlib.Core.Path.{◌≡◌, sym}
use mathlib.Core.List.{List, ◌∷◌, ◌++◌, append_assoc}
use Rattle.printing.specs.Text.{codes, line}

-- a word and the space behind it
abbrev pub spaced : List ℕ → List ℕ
spaced w = w ++ codes " "

pub line_parts : (w v : List ℕ) (ws : List (List ℕ)) → line (w ∷ v ∷ ws) ≡ spaced w ++ line (v ∷ ws)
line_parts w v ws = sym (append_assoc w (codes " ") (line (v ∷ ws)))
