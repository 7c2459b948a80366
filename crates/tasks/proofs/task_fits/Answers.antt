-- Where the requirements are in order the rights decide, and each of the eight places is asked.
use Rattle.std.proofs.Common.{rules, refl}
use Rattle.base.proofs.Both.{and_on}
use Rattle.base.proofs.All.{all_in_range}
use Rattle.tasks.proofs.task_fits.Goals as goal

pub returns-then-none_from : goal.returns-then-none_from
returns-then-none_from c = and_on _ _ (search rules) (all_in_range _ _ c.all.ensures.ran refl (λ x b q k. search rules))
