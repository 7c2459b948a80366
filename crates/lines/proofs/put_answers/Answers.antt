-- Answer by answer: the room for its line, and what is written with it.
use Rattle.std.proofs.Common.{length, arith}
use Rattle.printing.specs.Text.{answer_line_at}
use Rattle.writer.proofs.Written.{writes_none, room_more, writes_more}
use Rattle.lines.proofs.put_answers.Goals as goal

pub loop-i-init : goal.loop-i-init
loop-i-init c = writes_none _ _

pub put_pair-requires-clause-room : goal.put_pair-requires-clause-room
put_pair-requires-clause-room c =
    room_more (answer_line_at c.args.answers.now) c.loop-i.i (length c.args.answers.now) (omega arith) c.requires.room c.loop-i.invariant

pub loop-i-preserved : goal.loop-i-preserved
loop-i-preserved c =
    writes_more (answer_line_at c.args.answers.now) c.loop-i.i (length c.args.answers.now) (omega arith) c.requires.room c.loop-i.invariant c.put_pair.ensures
