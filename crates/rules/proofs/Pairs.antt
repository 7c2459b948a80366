-- Two numbers equal to two others, as one test. Assumes nothing.
use mathlib.Core.Path.{◌≡◌}
use Prim.Native.Nat.{ℕ}
use native.Mathlib.Omega.{arith}
use mathlib.Core.Bool.{true, false, ◌&&◌}
use lib.Dec.{eqb}
use borrow.Author.Tests.{eqb-true, eq-eqb}
use Rattle.base.proofs.Logic.{and_true, true_false}

pub same : (t d t' d' : ℕ) → eqb t t' && eqb d d' ≡ true → (t ≡ t') × (d ≡ d')
same t d t' d' e = let p = and_true (eqb t t') (eqb d d') e in omega (arith, eqb-true)

pub differ : (t d t' d' : ℕ) → eqb t t' && eqb d d' ≡ false → (t ≡ t') × (d ≡ d') → ⊥
differ t d t' d' e h = true_false (cc (eq-eqb _ _ h.0, eq-eqb _ _ h.1))
