-- A kind that is no section's has no part, whether the file is refused or not. Assumes nothing.
use mathlib.Core.Path.{◌≡◌}
use mathlib.Core.Bool.{and-false}
use Prim.Native.Nat.{ℕ, ◌≤◌}
use mathlib.Core.List.{List}
use lib.Dec.{eqb}
use borrow.Author.Tests.{le-ltb}
use Rattle.layout.specs.Layout.{sections}
use Rattle.layout.specs.Header.{header_refusal, no_place, section_place}

pub place_beyond : (file : List ℕ) (kind : ℕ) → sections ≤ kind → no_place ≡ section_place file kind
unfolding section_place
place_beyond file kind l = rw (le-ltb kind sections l, and-false (eqb (header_refusal file) 0))
