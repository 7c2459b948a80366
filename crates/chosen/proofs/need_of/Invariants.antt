-- The set has the groups below the one that the loop has come to.
use Rattle.calls.specs.Work.{NeedIn}
use Rattle.chosen.proofs.need_of.Given as goal

abbrev pub invariant-loop-g : goal.invariant-loop-g
invariant-loop-g l = NeedIn l.p.task_rights l.t l.g l.need
