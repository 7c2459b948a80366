-- What a writer of a lent buffer has room for, and what it has written.
use Rattle.std.specs.Prelude.{◌≡◌, ℕ, ◌+◌, ◌≤◌, List, length}
use Rattle.base.specs.Overlay.{Wrote}
use Rattle.writer.specs.declared.Writer.{Writer}

-- There is room for ws from the writer's place on.
pub record Room (ws : List ℕ) (w : Writer) : Type 0 where
  pub fits : w.at + length ws ≤ length w.bytes.now

-- From w to w' the writer wrote ws, in the same buffer.
pub record Writes (ws : List ℕ) (w w' : Writer) : Type 0 where
  pub same_buffer : w'.bytes.ghost_name ≡ w.bytes.ghost_name
  pub same_length : length w'.bytes.now ≡ length w.bytes.now
  pub wrote : Wrote ws w.bytes.now w.at w'.bytes.now w'.at
