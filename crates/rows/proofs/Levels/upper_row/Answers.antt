-- Each entry is made from its index.
use Rattle.std.proofs.Common.{rules, tests}
use Rattle.base.proofs.FromFn.{made_fill}
use Rattle.lattice.proofs.Tables.{sixteen}
use Rattle.rows.proofs.Levels.upper_row.Goals as goal

pub returns : goal.returns
returns c = made_fill _ 255 _ 16 sixteen c.from_fn.ensures.items (λ j y q k. search (rules, tests))
