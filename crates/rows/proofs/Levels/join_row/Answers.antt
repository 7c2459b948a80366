-- Where the two sets of level i have every level, each level is under i or above it.
use Rattle.std.proofs.Common.{List, ℕ, ap, ◌∙◌}
use Rattle.lattice.specs.Sets.{upper_row}
use Rattle.lattice.proofs.Compared.{all_compared, upper_joins}
use Rattle.rows.proofs.Levels.join_row.Goals as goal

pub returns-then-is_all : goal.returns-then-is_all
returns-then-is_all c =
    let levels = c.args.self.now in
    let below = c.requires in
    c.upper_row.ensures
    ∙ ap (λ (x : List ℕ). upper_row levels.above x c.args.i) levels.numbered
    ∙ upper_joins levels.count levels.above c.args.i levels.ordered below
    (all_compared levels.count levels.above levels.under c.args.i below levels.turned (c.is_all.ensures c.if-is_all.true))
