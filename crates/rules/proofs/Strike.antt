-- Striking out the calls that name other skids leaves a skid's answers and its view. Assumes nothing.
use mathlib.Core.Path.{◌≡◌, refl, sym, ap, ap₂, ◌∙◌}
use Prim.Native.Nat.{ℕ}
use mathlib.Core.Bool.{false}
use mathlib.Core.List.{List, [], ◌∷◌}
use lib.Dec.{eqb}
use borrow.Author.Tests.{eqb-true, eqb-false}
use Rattle.plant.specs.declared.Plant.{Plant}
use Rattle.rules.specs.Rules.{Call, set, start, stop, gate, unknown, skid_of, conditions, refusal, answer, effect}
use Rattle.rules.specs.History.{history_view, with_call, history_answer, history_answers, history, calls_naming, skid_answers}
use Rattle.base.proofs.Logic.{split}
use Rattle.rules.proofs.Kept.{AllAccepted, with_call_accepted}
use Rattle.rules.proofs.HistoryView.{view_of_named, view_of_others}

-- The one place that says what a call's conditions read: the view of the skid that it names. A condition that reads other skids' views
-- is met here, by what `AllAccepted` tells of both histories.
own_refusal : (P : Plant) (a b : List Call) → AllAccepted P a → AllAccepted P b → (c : Call) → history_view P a (skid_of c) ≡ history_view P b (skid_of c) → refusal P (history_view P a) c ≡ refusal P (history_view P b) c
unfolding refusal conditions
own_refusal P a b S T (set s t d v) e = refl
own_refusal P a b S T (start s t) e = rw e
own_refusal P a b S T (stop s) e = refl
own_refusal P a b S T (gate s o r) e = refl
own_refusal P a b S T unknown e = refl

module _ (P : Plant) (s : ℕ) where
  others_view : (a : List Call) (c : Call) → eqb (skid_of c) s ≡ false → history_view P (with_call P a c) s ≡ history_view P a s
  unfolding with_call
  others_view a c n = split (eqb (refusal P (history_view P a) c) 0)
      (λ e. rw e (view_of_others P a c s (λ z. eqb-false (skid_of c) s n (sym z))))
      (λ e. rw e)

  module _ (a b : List Call) (S : AllAccepted P a) (T : AllAccepted P b) (c : Call) (z : skid_of c ≡ s) (e : history_view P a s ≡ history_view P b s) where
    own_view : history_view P a (skid_of c) ≡ history_view P b (skid_of c)
    own_view = rw (← z) at e

    named_view : history_view P (with_call P a c) s ≡ history_view P (with_call P b c) s
    unfolding with_call
    named_view = rw (own_refusal P a b S T c own_view, ← z) (split (eqb (refusal P (history_view P b) c) 0)
        (λ y. rw y (view_of_named P a c ∙ ap (λ w. effect P w c) own_view ∙ sym (view_of_named P b c)))
        (λ y. rw y own_view))

    named_answer : history_answer P a c ≡ history_answer P b c
    unfolding history_answer answer
    named_answer = rw (own_refusal P a b S T c own_view, own_view)

  pub strike_view : (cs : List Call) (a b : List Call) → AllAccepted P a → AllAccepted P b → history_view P a s ≡ history_view P b s → history_view P (history P a cs) s ≡ history_view P (history P b (calls_naming s cs)) s
  unfolding history calls_naming
  strike_view [] a b S T e = e
  strike_view (c ∷ cs) a b S T e = split (eqb (skid_of c) s)
      (λ y. rw y (strike_view cs (with_call P a c) (with_call P b c) (with_call_accepted P a c S) (with_call_accepted P b c T) (named_view a b S T c (eqb-true (skid_of c) s y) e)))
      (λ y. rw y (strike_view cs (with_call P a c) b (with_call_accepted P a c S) T (others_view a c y ∙ e)))

  pub strike_answers : (cs : List Call) (a b : List Call) → AllAccepted P a → AllAccepted P b → history_view P a s ≡ history_view P b s → skid_answers s cs (history_answers P a cs) ≡ history_answers P b (calls_naming s cs)
  unfolding history_answers calls_naming skid_answers
  strike_answers [] a b S T e = refl
  strike_answers (c ∷ cs) a b S T e = split (eqb (skid_of c) s)
      (λ y. let z = eqb-true (skid_of c) s y in
      rw y (ap₂ ◌∷◌ (named_answer a b S T c z e) (strike_answers cs (with_call P a c) (with_call P b c) (with_call_accepted P a c S) (with_call_accepted P b c T) (named_view a b S T c z e))))
      (λ y. rw y (strike_answers cs (with_call P a c) b (with_call_accepted P a c S) T (others_view a c y ∙ e)))
