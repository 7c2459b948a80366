-- Sets of numbers under sixteen, gone through one number after the other.
use Rattle.std.specs.Prelude.{◌≡◌, ℕ, ◌<◌, true, not, ◌&&◌, eqb}
use Rattle.base.specs.Bits.{bit}

-- the number i is taken from the set x, and y is left
pub record TakenFrom (x i y : ℕ) : Type 0 where
  pub low : i < 16
  pub was_in : bit x i ≡ true
  pub leaves : (j : ℕ) → bit y j ≡ bit x j && not (eqb i j)
