-- Each skid is asked.
use Rattle.std.proofs.Common.{rules}
use Rattle.base.specs.Bits.{none_from}
use Rattle.base.proofs.All.{all_in_front}
use Rattle.tasks.proofs.skids_fit.Goals as goal

pub returns : goal.returns
returns c = all_in_front (none_from c.args.p.now.tasks) 0 _ _ c.all.ensures.ran (cc) (search rules) (λ x b q k. search rules)
