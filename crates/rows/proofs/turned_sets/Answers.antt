-- Each level in turn goes into the sets of the levels above it.
use Rattle.std.proofs.Common.{rules, ap, ◌∙◌, get_or}
use Rattle.lattice.specs.Sets.{added}
use Rattle.lattice.proofs.Gathered.{turned_starts, turned_under, turned_more}
use Rattle.rows.proofs.turned_sets.Goals as goal

pub loop-i-init : goal.loop-i-init
loop-i-init c = turned_starts c.args.s.now

pub add_level-requires : goal.add_level-requires
add_level-requires c = (search rules, λ j q. rw c.loop-i.invariant (turned_under c.args.s.now c.loop-i.i j q))

pub loop-i-preserved : goal.loop-i-preserved
loop-i-preserved c =
    let s = c.args.s.now in
    c.add_level.ensures ∙ ap (λ t. added t (get_or s c.loop-i.i 0) c.loop-i.i) c.loop-i.invariant ∙ turned_more s c.loop-i.i
