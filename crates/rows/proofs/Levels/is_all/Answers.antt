-- The number one under 2 ^ count has each bit below count.
use Rattle.std.proofs.Common.{ℕ, ◌+◌, ◌<◌, sym, ap, ◌∙◌, arith}
use native.Mathlib.Nat.{one-mul}
use lib.Pow.{shl_exact}
use borrow.Author.Tests.{eqb-true}
use Rattle.lattice.proofs.Compared.{all_bits}
use Rattle.rows.proofs.Levels.is_all.Goals as goal

pub returns : goal.returns
returns c e =
    let few = c.args.self.now.ordered.clean.at_most_16 in
    all_bits _ _ (ap (λ (m : ℕ). m + 1) (sym c.from.ensures) ∙ eqb-true _ _ e
    ∙ shl_exact 1 _ 32 (let b : 1 < 2 = omega arith in b) (omega (arith, few)) ∙ one-mul _)
