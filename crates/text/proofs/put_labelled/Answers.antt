-- The label, then the number's field: one part behind the other.
use Rattle.writer.proofs.Written.{writes_both}
use Rattle.text.proofs.put_labelled.Goals as goal

pub returns : goal.returns
returns c = writes_both c.args.label.now _ c.requires c.word.ensures (rw c.from.ensures at c.put_field.ensures)
