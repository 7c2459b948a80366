-- What lies further above is added level by level, and then the law of whole sets.
use Rattle.std.proofs.Common.{◌≡◌, ◌<◌, sym, ◌∙◌, arith}
use lib.ListN.{length-take}
use lib.Seq.{get_or-take}
use Rattle.base.proofs.Below.{all_at}
use Rattle.base.proofs.Scan.{all_none, all_more}
use Rattle.lattice.proofs.Rows.{further_starts, further_next, within_ordered, not_ordered}
use Rattle.above.proofs.in_order.Goals as goal

pub loop-j-init : goal.loop-j-init
loop-j-init c = record { reflexive = all_none _; added = further_starts c.args.lattice.now.sets }

pub returns-then-not-has : goal.returns-then-not-has
returns-then-not-has c =
    let l = c.args.lattice.now in
    let b : c.loop-j.j < c.from.result = omega (arith, length-take c.from.result l.sets) in
    let fails = rw (get_or-take c.from.result l.sets c.loop-j.j 0 b) at c.has.ensures in
    not_ordered l.n l.sets c.requires c.loop-j.j (omega arith) (sym fails ∙ c.if-not-has.true)

pub loop-j-preserved : goal.loop-j-preserved
loop-j-preserved c =
    let l = c.args.lattice.now in
    let i = c.loop-j.invariant in
    let b : c.loop-j.j < c.from.result = omega (arith, length-take c.from.result l.sets) in
    let own = get_or-take c.from.result l.sets c.loop-j.j 0 b in
    record {
      reflexive = all_more _ c.loop-j.j i.reflexive (sym (rw own at c.has.ensures) ∙ c.if-not-has.false);
      added = further_next l.sets c.loop-j.j c.strict_sets-strict.result c.loop-j.further c.strict_sets-strict.ensures i.added (rw own at c.add_above.ensures);
    }

pub returns : goal.returns
returns c =
    let l = c.args.lattice.now in
    let e : c.loop-j.j ≡ l.n = omega (arith, length-take c.from.result l.sets, c.requires.at_most_16) in
    let i = rw e at c.loop-j.invariant in
    c.all_within.ensures
    ∙ within_ordered l.n l.sets c.requires c.strict_sets-strict.result c.loop-j.further c.strict_sets-strict.ensures i.added (all_at _ _ i.reflexive)
