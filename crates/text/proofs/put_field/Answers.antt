-- A number and the byte behind it.
use Rattle.writer.proofs.Written.{writes_both}
use Rattle.text.proofs.put_field.Goals as goal

pub returns : goal.returns
returns c = writes_both _ _ c.requires.room c.put_number.ensures c.byte.ensures
