-- A history holds only calls that were accepted over those before them. Assumes nothing.
use mathlib.Core.Path.{◌≡◌}
use mathlib.Core.List.{List, [], ◌∷◌, ◌++◌}
use lib.Dec.{eqb}
use borrow.Author.Tests.{eqb-true}
use Rattle.plant.specs.declared.Plant.{Plant}
use Rattle.rules.specs.Rules.{Call, refusal}
use Rattle.rules.specs.History.{history_view, with_call, history}
use Rattle.base.proofs.Logic.{split}

module _ (P : Plant) where
  -- every call of the list was accepted over those before it
  abbrev pub AllAccepted : List Call → Type 0
  AllAccepted [] = Unit
  AllAccepted (c ∷ a) = (refusal P (history_view P a) c ≡ 0) × AllAccepted a

  pub with_call_accepted : (a : List Call) (c : Call) → AllAccepted a → AllAccepted (with_call P a c)
  unfolding with_call
  with_call_accepted a c S = split (eqb (refusal P (history_view P a) c) 0) (λ e. rw e (eqb-true _ _ e, S)) (λ e. rw e S)

  pub history_accepted : (cs a : List Call) → AllAccepted a → AllAccepted (history P a cs)
  unfolding history
  history_accepted [] a S = S
  history_accepted (c ∷ cs) a S = history_accepted cs (with_call P a c) (with_call_accepted a c S)

  pub accepted_after : (l b : List Call) → AllAccepted (l ++ b) → AllAccepted b
  accepted_after [] b S = S
  accepted_after (c ∷ l) b S = accepted_after l b S.1
