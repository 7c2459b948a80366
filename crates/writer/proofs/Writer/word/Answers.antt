-- A word is copied to the place.
use Rattle.std.proofs.Common.{refl, rules}
use Rattle.base.proofs.Written.{wrote_word}
use Rattle.writer.proofs.Writer.word.Goals as goal

pub returns : goal.returns
returns c =
    let s = c.args.self.now in
    record { same_buffer = refl; same_length = search rules; wrote = rw c.copy_from_slice.ensures.after (wrote_word s.bytes.now c.args.word.now s.at) }
