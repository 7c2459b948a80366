-- How opening's checks follow one another: what each early return of the reader says of the whole chain. Assumes nothing.
use mathlib.Core.Path.{◌≡◌, refl, sym, ap, ◌∙◌}
use Prim.Native.Nat.{ℕ}
use mathlib.Core.Bool.{Bool, cond}
use mathlib.Core.List.{List}
use lib.Dec.{eqb}
use borrow.Author.Tests.{ne_eqb}
use Rattle.base.specs.Below.{all_below}
use Rattle.base.specs.Chain.{first}
use Rattle.base.proofs.Chain.{first_append}
use Rattle.layout.specs.Header.{header_checks, header_refusal, counts_ok}
use Rattle.layout.proofs.Header.{counts_back, counts_in_range}
use Rattle.plant.specs.declared.Plant.{Plant}
use Rattle.plant.specs.Checks.{counts_in, record_checks, plant_refusal}
use Rattle.opening.specs.Reading.{Reading, plant_of, lattice_zeros, other_zeros, refused_with, opening_refusal, reading_of}

module _ (file : List ℕ) where
  -- the plant has the file's counts
  pub counts_same : counts_in (plant_of file) ≡ counts_ok file
  unfolding counts_in counts_ok all_below
  counts_same = refl

  chained : opening_refusal file ≡ cond (eqb (header_refusal file) 0) (first (record_checks (lattice_zeros file) (other_zeros file) (plant_of file))) (header_refusal file)
  unfolding opening_refusal header_refusal
  chained = first_append (header_checks file) (record_checks (lattice_zeros file) (other_zeros file) (plant_of file)) (refl, (refl, (refl, (refl, (refl, (refl, tt))))))

  -- a file that passes 1 to 6 has the number of its record
  record_number : header_refusal file ≡ 0 → opening_refusal file ≡ plant_refusal (lattice_zeros file) (other_zeros file) (plant_of file)
  unfolding plant_refusal
  record_number e = chained ∙ rw (e, counts_same ∙ counts_back file (counts_in_range file e))

  -- any other number refuses, and 0 gives the plant
  refuse : {n : ℕ} → n ≡ opening_refusal file → (n ≡ 0 → ⊥) → refused_with n ≡ reading_of file
  unfolding reading_of
  refuse {n} e f = rw (← e, ne_eqb n 0 f)

  accept : 0 ≡ opening_refusal file → record { answer = 0; plant = plant_of file } ≡ reading_of file
  unfolding reading_of
  accept e = rw (← e)

  -- r is the number from checks 1 to 6, and x what is returned
  module _ {r : ℕ} (e : r ≡ header_refusal file) where
    pub refused_early : {x : Reading} → (r ≡ 0 → ⊥) → x ≡ refused_with r → x ≡ reading_of file
    refused_early f h = h ∙ refuse (e ∙ sym (chained ∙ rw (← e, ne_eqb r 0 f))) f

    -- the same of the number alone
    pub early_number : (r ≡ 0 → ⊥) → r ≡ (reading_of file).answer
    early_number f = ap (λ (x : Reading). x.answer) (refused_early {x = refused_with r} f refl)

    -- p is the plant that was read, z7 and z10 the tests of the zero bytes, n the number of the record
    module _ (z : r ≡ 0) {p : Plant} {z7 z10 : Bool} {n : ℕ} (q : p ≡ plant_of file) (s : z7 ≡ lattice_zeros file) (t : z10 ≡ other_zeros file) (m : n ≡ plant_refusal z7 z10 p) where
      number : n ≡ opening_refusal file
      number = m ∙ rw (q, s, t) (sym (record_number (sym e ∙ z)))

      pub refused_late : {x : Reading} → (n ≡ 0 → ⊥) → x ≡ refused_with n → x ≡ reading_of file
      refused_late f h = h ∙ refuse number f

      pub accepted : {x : Reading} → n ≡ 0 → x ≡ record { answer = 0; plant = p } → x ≡ reading_of file
      accepted y h = h ∙ rw q (accept (sym y ∙ number))

  -- They accept, and f is the file as they found it: p is the plant that was read from it, z7 and z10 the tests of the zero bytes, n the number
  -- of the record.
  module _ (e : 0 ≡ header_refusal file) {f : List ℕ} (same : f ≡ file) {p : Plant} {z7 z10 : Bool} {n : ℕ}
      (q : p ≡ plant_of f) (s : z7 ≡ lattice_zeros f) (t : z10 ≡ other_zeros f) (m : n ≡ plant_refusal z7 z10 p) where
    pub late_number : n ≡ (reading_of file).answer
    unfolding reading_of
    late_number = number e refl (q ∙ ap plant_of same) (s ∙ ap lattice_zeros same) (t ∙ ap other_zeros same) m

    pub late_plant : n ≡ 0 → p ≡ (reading_of file).plant
    late_plant y =
        ap (λ (x : Reading). x.plant)
        (accepted e refl (q ∙ ap plant_of same) (s ∙ ap lattice_zeros same) (t ∙ ap other_zeros same) m y refl)
