-- Each set is compared with the set at its place.
use Rattle.std.proofs.Common.{rules, tests}
use lib.Bits.{bit_and}
use lib.Dec.{eqb}
use Rattle.base.proofs.All.{all_in_pairs}
use Rattle.above.proofs.all_within.Goals as goal

pub returns : goal.returns
returns c =
    all_in_pairs c.all.new.self (λ x y. eqb (bit_and x y) x) 0 0 c.args.further.now c.args.strict.now 16 c.all.ensures.ran (search rules) (search rules) c.told-further c.told-strict
    (λ x b q k. search (rules, tests))
