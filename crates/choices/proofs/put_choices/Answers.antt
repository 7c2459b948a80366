-- The tank is put at each that is taken from the rest, and at the end none is left.
use Rattle.choice.proofs.Row.{put_starts, put_next, put_ends}
use Rattle.choices.proofs.put_choices.Goals as goal

pub loop-v-init : goal.loop-v-init
loop-v-init c = rw (c.into_iter-v-iterator.ensures.into_iter_gives, c.of-v-items.ensures) (put_starts c.args.g c.args.near c.args.o c.args.made.now c.requires.1)

pub loop-v-preserved : goal.loop-v-preserved
loop-v-preserved c =
    let T = c.in-Some.ensures.steps in
    put_next c.args.g c.args.near c.args.o c.args.made.now _ _ c.in-Some.v c.loop-v.made c.requires.0 T.low T.was_in T.leaves c.loop-v.invariant

pub returns : goal.returns
returns c = put_ends c.args.g c.args.near c.args.o c.args.made.now _ _ c.loop-v.invariant c.in-None.ensures.steps
