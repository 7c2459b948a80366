-- An outcome with the number and the plant of a file's reading says that reading: a refusal stands for the plant of zeros. Assumes nothing.
use mathlib.Core.Path.{◌≡◌, sym, ap₂, ◌∙◌}
use Prim.Native.Nat.{ℕ}
use mathlib.Core.List.{List}
use Rattle.std.specs.Prelude.{Result, Ok, Err}
use Rattle.std.specs.Result.{IsErr, IsErrAnd}
use Rattle.refusal.specs.declared.Refusal.{Refusal}
use Rattle.refusal.specs.Number.{answer_of}
use Rattle.refusal.proofs.NotZero.{not_0}
use Rattle.plant.specs.declared.Plant.{Plant}
use Rattle.plant.specs.declared.Checked.{Checked}
use Rattle.opening.specs.Reading.{Reading, reading_of}
use Rattle.opening.proofs.Opening.{opens}
use Rattle.reader.specs.Said.{said_by}

abbrev reading : ℕ → Plant → Reading
reading n p = record { answer = n; plant = p }

module _ (file : List ℕ) where
  pub said_read : {p : Plant} → 0 ≡ (reading_of file).answer → p ≡ (reading_of file).plant → record { answer = 0; plant = p } ≡ reading_of file
  unfolding reading_of
  said_read e q = ap₂ reading e q

  -- `check(..)?` where the check refuses
  pub said_refused : (outcome : Result Checked Refusal) (r : Refusal) → IsErr outcome × IsErrAnd outcome (λ x. x ≡ r) → answer_of outcome ≡ (reading_of file).answer → said_by outcome ≡ reading_of file
  unfolding reading_of
  said_refused (Ok checked) r h e = absurd h.1
  said_refused (Err x) r h e = ap₂ reading e (sym ((opens file).empty (λ z. not_0 x (e ∙ z))))
