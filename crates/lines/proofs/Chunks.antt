-- The line of a right that stands in three bytes of a list. Assumes nothing.
use Prim.Native.Nat.{ℕ, ◌<◌}
use mathlib.Core.Path.{◌≡◌}
use mathlib.Core.List.{List, []}
use native.Mathlib.Nat.{add-zero}
use native.Mathlib.Omega.{arith}
use lib.ListN.{get_or}
use Rattle.std.specs.Simd.{first_chunks}
use Rattle.printing.specs.Text.{right_line, right_line_at}
use Rattle.base.proofs.Chunks.{chunk_at}

pub chunk_line : (bytes : List ℕ) (k i : ℕ) → i < k → right_line (get_or (get_or (first_chunks 3 k bytes) i []) 0 0) (get_or (get_or (first_chunks 3 k bytes) i []) 1 0) (get_or (get_or (first_chunks 3 k bytes) i []) 2 0) ≡ right_line_at bytes i
chunk_line bytes k i l =
    rw (chunk_at 3 k bytes i 0 l (omega arith), chunk_at 3 k bytes i 1 l (omega arith), chunk_at 3 k bytes i 2 l (omega arith), add-zero)
