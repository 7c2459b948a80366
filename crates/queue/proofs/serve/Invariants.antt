-- After i requests the record is that of their calls, and the buffer begins with their answers.
use Rattle.std.proofs.Common.{◌≡◌}
use Rattle.queue.proofs.Turns.{state, buffer}
use Rattle.queue.proofs.serve.Given as goal

abbrev pub invariant-loop-i : goal.invariant-loop-i
invariant-loop-i l = record {
  record_is : l.tested.monitor ≡ state l.fn.tested.monitor l.rs l.fn.out l.i;
  buffer_is : l.out ≡ buffer l.fn.tested.monitor l.rs l.fn.out l.i;
}
