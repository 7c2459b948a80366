-- Each entry is made of what it held.
use Rattle.std.proofs.Common.{cond, bit_and, get_or, rules, tests}
use Rattle.base.proofs.Filled.{fill_map}
use Rattle.lattice.specs.Sets.{is_set}
use Rattle.rows.proofs.mark.Goals as goal

pub loop-j-preserved : goal.loop-j-preserved
loop-j-preserved c =
    let a = c.args in
    fill_map 0 (λ j old. cond (is_set a.s.now (bit_and a.x (get_or a.s.now j 0)) a.k) a.k old) a.row.now c.loop-j.j c.loop-j.invariant (search (rules, tests))
