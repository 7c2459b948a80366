-- The three tests are the rules'.
use Rattle.std.proofs.Common.{◌∙◌}
use Rattle.calls.proofs.There.{three_items}
use Rattle.steps.proofs.check_set.Goals as goal

pub returns : goal.returns
returns c = c.check_present.ensures ∙ three_items _ _ _ _ _ _ c.then_some.ensures c.then_some-2.ensures c.then_some-3.ensures
