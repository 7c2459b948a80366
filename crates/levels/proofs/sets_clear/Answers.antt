-- The sets of the levels are the front of the sets, and those that are not used the rest.
use Rattle.std.proofs.Common.{rules, tests, arith, drop, ◌∙◌}
use lib.Dec.{eqb}
use lib.Seq.{take-length}
use Rattle.base.specs.Bits.{none_from}
use Rattle.base.proofs.All.{all_in_front}
use Rattle.base.proofs.Both.{both_on, both_off}
use Rattle.lattice.proofs.Laws.{clear_parts}
use Rattle.levels.proofs.sets_clear.Goals as goal

pub returns-then-all : goal.returns-then-all
returns-then-all c =
    both_on _ _
    (all_in_front (none_from c.args.lattice.now.n) 0 c.args.lattice.now.sets _ c.all.ensures.ran (search rules) (search rules) (λ x b q k. search (rules, tests)))
    c.if-all.true
    (all_in_front (λ x. eqb x 0) 0 (drop c.args.lattice.now.n c.args.lattice.now.sets) _ c.all-then-all.ensures.ran (rw take-length (search rules)) (omega arith)
    (λ x b q k. search (rules, tests)))
    ∙ clear_parts c.args.lattice.now c.requires (search rules)

pub returns-else-all : goal.returns-else-all
returns-else-all c =
    both_off _ _
    (all_in_front (none_from c.args.lattice.now.n) 0 c.args.lattice.now.sets _ c.all.ensures.ran (search rules) (search rules) (λ x b q k. search (rules, tests)))
    c.if-all.false
    ∙ clear_parts c.args.lattice.now c.requires (search rules)
