-- The test is the rules', and the rows are emptied.
use Rattle.std.proofs.Common.{refl, set}
use borrow.Author.Tests.{le-leb, lt-leb}
use Rattle.rules.specs.Record.{with_task}
use Rattle.rules.specs.Rules.{stop}
use Rattle.calls.specs.Lent.{Does}
use Rattle.calls.proofs.Steps.{stop_does, still_passes}
use Rattle.steps.proofs.stop_at.Goals.{After-put_row}
use Rattle.steps.proofs.stop_at.Goals as goal

pub returns-then-m-s : goal.returns-then-m-s
returns-then-m-s c = stop_does _ c.args.tested.now.passes_test_20 _ (simp (le-leb _ _ c.if-m-s.true)) refl

-- the stop is what the rules say, by which the record left passes test 20 too
stopped : (c : After-put_row) → let m = c.args.tested.now.monitor in Does m (stop c.args.s) 0 (with_task m (set m.running c.from.result 255) c.put_row.new.rows)
stopped c = stop_does _ c.args.tested.now.passes_test_20 _ (simp (lt-leb _ _ c.if-m-s.false)) (rw (c.put_row.ensures, c.from.ensures, c.from-2.ensures))

pub returns : goal.returns
returns c = stopped (goal.at.returns c).After-put_row

pub invariant_of-tested-2 : goal.invariant_of-tested-2
invariant_of-tested-2 c = still_passes c.args.tested.now (stopped c)
