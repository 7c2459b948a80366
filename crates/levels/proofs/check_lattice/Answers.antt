-- Each test that passed is what the next one relies on, and the numbers are those of the chain.
use Rattle.std.proofs.Common.{sym, ◌∙◌}
use Rattle.lattice.proofs.Laws.{layout_iff, order_iff}
use Rattle.levels.proofs.check_lattice.Goals as goal

pub in_order-requires : goal.in_order-requires
in_order-requires c = (layout_iff _).0 (sym c.laid_out.ensures ∙ c.if-not-laid_out.false)

pub is_complete-requires : goal.is_complete-requires
is_complete-requires c = record {
  clean = (layout_iff _).0 (sym c.laid_out.ensures ∙ c.if-not-laid_out.false);
  order = (order_iff _ _).0 (sym c.in_order.ensures ∙ c.if-not-in_order.false);
}
