-- The history's view of a skid: an accepted call has its `effect` on the skid that it names, and none on the others. Assumes nothing.
use mathlib.Core.Path.{◌≡◌, refl}
use mathlib.Core.Logic.{◌≢◌}
use Prim.Native.Nat.{ℕ}
use mathlib.Core.List.{List, ◌∷◌}
use borrow.Author.Tests.{eq-eqb, ne_eqb}
use Rattle.plant.specs.declared.Plant.{Plant}
use Rattle.rules.specs.Rules.{Call, set, start, stop, gate, unknown, skid_of, effect}
use Rattle.rules.specs.History.{history_level, last_start, history_view}
use Rattle.rules.proofs.Refine.{view_path}

module _ (P : Plant) (a : List Call) where
  pub view_of_named : (c : Call) → history_view P (c ∷ a) (skid_of c) ≡ effect P (history_view P a (skid_of c)) c
  unfolding history_view effect history_level last_start
  view_of_named (set s t d v) = view_path (λ t' d'. rw (eq-eqb s s refl)) refl (λ g. refl)
  view_of_named (start s t) = view_path (λ t' d'. refl) (rw (eq-eqb s s refl)) (λ g. rw (eq-eqb s s refl))
  view_of_named (stop s) = view_path (λ t' d'. refl) (rw (eq-eqb s s refl)) (λ g. rw (eq-eqb s s refl))
  view_of_named (gate s o r) = refl
  view_of_named unknown = refl

  pub view_of_others : (c : Call) (s : ℕ) → s ≢ skid_of c → history_view P (c ∷ a) s ≡ history_view P a s
  unfolding history_view history_level last_start
  view_of_others (set s' t d v) s n = view_path (λ t' d'. rw (ne_eqb s s' n)) refl (λ g. refl)
  view_of_others (start s' t) s n = view_path (λ t' d'. refl) (rw (ne_eqb s s' n)) (λ g. rw (ne_eqb s s' n))
  view_of_others (stop s') s n = view_path (λ t' d'. refl) (rw (ne_eqb s s' n)) (λ g. rw (ne_eqb s s' n))
  view_of_others (gate s' o r) s n = refl
  view_of_others unknown s n = refl
