-- What the program prints, by cases: input that is too long, a plant that is not all there, a batch. Assumes nothing.
use Prim.Native.Nat.{ℕ, ◌≤◌, ◌<◌}
use mathlib.Core.Path.{◌≡◌}
use mathlib.Core.List.{List, [], ◌∷◌}
use lib.ListN.{length, take, drop}
use borrow.Author.Tests.{lt-ltb, le-ltb}
use Rattle.printing.specs.Text.{codes, line, refusal_line}
use Rattle.printing.specs.Printed.{plant_length, batch_lines, printed}

module _ (input : List ℕ) where
  pub long_lines : 65536 < length input → printed input ≡ line (codes "long" ∷ [])
  unfolding printed
  long_lines l = rw (lt-ltb 65536 (length input) l)

  module _ (h : length input ≤ 65536) where
    pub short_lines : length input < 24 → printed input ≡ refusal_line 1
    unfolding printed
    short_lines l = rw (le-ltb 65536 (length input) h, lt-ltb (length input) 24 l)

    module _ (s : 24 ≤ length input) where
      pub cut_lines : length input < plant_length input → printed input ≡ refusal_line 1
      unfolding printed
      cut_lines l = rw (le-ltb 65536 (length input) h, le-ltb (length input) 24 s, lt-ltb (length input) (plant_length input) l)

      pub whole_lines : plant_length input ≤ length input → printed input ≡ batch_lines (take (plant_length input) input) (drop (plant_length input) input)
      unfolding printed
      whole_lines l = rw (le-ltb 65536 (length input) h, le-ltb (length input) 24 s, le-ltb (length input) (plant_length input) l)
