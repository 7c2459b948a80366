-- Each set has lost its own level.
use Rattle.std.proofs.Common.{ℕ, ◌≡◌, rules, tests}
use Rattle.base.specs.Bits.{bit}
use Rattle.base.proofs.FromFn.{made_at}
use Rattle.lattice.specs.Sets.{strictly}
use Rattle.above.proofs.strict_sets.Goals as goal

pub returns : goal.returns
returns c = λ i k l. made_at (λ i y. (k : ℕ) → bit y k ≡ strictly c.args.s.now i k) 0 _ _ (λ i y q d. search (rules, tests)) 16 c.from_fn.ensures.items i l k
