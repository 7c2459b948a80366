-- Each set is made of what it was.
use Rattle.std.proofs.Common.{cond, get_or, bit_or, rules, tests}
use Rattle.base.specs.Bits.{bit}
use Rattle.base.proofs.Filled.{fill_map}
use Rattle.above.proofs.add_above.Goals as goal

pub loop-i-preserved : goal.loop-i-preserved
loop-i-preserved c =
    let a = c.args in
    fill_map 0 (λ i old. cond (bit (get_or a.strict.now i 0) a.j) (bit_or old a.x) old) a.further.now c.loop-i.i c.loop-i.invariant (search (rules, tests))
