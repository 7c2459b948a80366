-- No entry is 255.
use Rattle.std.proofs.Common.{ap, not, nat_eq, length, ◌∙◌, arith}
use lib.Seq.{take-length}
use Rattle.base.proofs.All.{none_in_front}
use Rattle.joins.proofs.is_row_full.Goals as goal

pub returns : goal.returns
returns c =
    let row = c.args.row.now in
    ap not c.contains.ensures.value ∙ (rw take-length at (none_in_front (λ v. nat_eq v 255) 0 row (length row) (omega arith)))
