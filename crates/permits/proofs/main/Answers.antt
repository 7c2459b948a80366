-- The text that is written lies within its buffer.
use Rattle.std.proofs.Common.{sym}
use Prim.Native.Nat.{zero-le}
use Rattle.std.proofs.Math.Seq.{length-take-le}
use Rattle.base.proofs.Written.{wrote_within}
use Rattle.permits.proofs.main.Goals as goal

pub slice_bounds-text-end : goal.slice_bounds-text-end
slice_bounds-text-end c = wrote_within _ _ 0 zero-le c.print_read-k.ensures.text

pub slice_bounds-write_all-end : goal.slice_bounds-write_all-end
slice_bounds-write_all-end c = sym (length-take-le _ _ (wrote_within _ _ 0 zero-le c.print_read-k.ensures.text))
