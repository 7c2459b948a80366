-- A line written in two parts: its first word with the space behind it, then the line of the others. Assumes nothing.
use Prim.Native.Nat.{ℕ}
use mathlib.Core.Path.{sym}
use mathlib.Core.List.{List, ◌∷◌}
use Rattle.printing.specs.Text.{line}
use Rattle.printing.proofs.Lines.{spaced, line_parts}
use Rattle.writer.specs.declared.Writer.{Writer}
use Rattle.writer.specs.Writing.{Room, Writes}
use Rattle.writer.proofs.Written.{room_as, writes_as, writes_both}

pub line_written : (w v : List ℕ) (ws : List (List ℕ)) {t t' t'' : Writer} → Room (line (w ∷ v ∷ ws)) t → Writes (spaced w) t t' → Writes (line (v ∷ ws)) t' t'' → Writes (line (w ∷ v ∷ ws)) t t''
line_written w v ws h a b =
    let e = line_parts w v ws in
    writes_as (sym e) (writes_both (spaced w) (line (v ∷ ws)) (room_as e h) a b)
