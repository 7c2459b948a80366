-- Each entry is made from its index.
use Rattle.std.proofs.Common.{rules, tests}
use Rattle.base.proofs.FromFn.{made_front}
use Rattle.rows.proofs.numbers_to.Goals as goal

pub returns : goal.returns
returns c = made_front (λ j. j) 255 16 c.args.n c.requires c.from_fn.ensures.items (λ j y q k. search (rules, tests))
