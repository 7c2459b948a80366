-- Each row is tested by its front.
use Rattle.std.proofs.Common.{rules, tests, [], length, arith}
use lib.Seq.{take-length}
use Rattle.base.proofs.All.{all_in_front}
use Rattle.lattice.proofs.Tables.{front_full}
use Rattle.lattice.specs.Table.{row_full}
use Rattle.joins.proofs.is_full.Goals as goal

pub returns : goal.returns
returns c =
    all_in_front (row_full (length c.args.rows.now)) [] _ (length c.args.rows.now) c.all.ensures.ran (rw take-length (search rules)) (omega arith) (λ x b q k. search (rules, tests, front_full))
