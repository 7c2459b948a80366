-- The cells of a field: those of the records of a part, and those of a section of a file.
use Rattle.std.specs.Prelude.{ℕ, ◌*◌, List}
use Rattle.base.specs.Fill.{fill}
use Rattle.layout.specs.Layout.{place, part, width, count}

-- The cells of the n records in s, one after the other, in a list that was xs before: a record of w bytes has `run` cells of e bytes, from its byte `from`
-- on, and number_at gives the number in the cell at a place.
abbrev pub cells_of : {A : Type 0} → (List ℕ → ℕ → A) → ℕ → List ℕ → ℕ → ℕ → ℕ → ℕ → List A → List A
cells_of number_at e s w from run n xs = fill (λ k. number_at s (place w from run e k)) xs (n * run)

-- the same of section k of a file: they are read from the part that the section fills
abbrev pub section_cells : {A : Type 0} → (List ℕ → ℕ → A) → ℕ → List ℕ → ℕ → ℕ → ℕ → List A → List A
section_cells number_at e file k from run xs = cells_of number_at e (part file k) (width k) from run (count file k) xs
