-- What a list remembers, which is not made at first, and the groups that a task needs. Assumes nothing.
use mathlib.Core.Path.{◌≡◌, sym, ◌∙◌}
use Prim.Native.Nat.{ℕ}
use mathlib.Core.Bool.{true}
use lib.Dec.{ltb}
use mathlib.Core.List.{List}
use borrow.Author.Tests.{ltb-true}
use Rattle.std.specs.Prelude.{Option, None}
use Rattle.std.specs.Array.{AllOfLen}
use Rattle.base.specs.Bits.{bit}
use Rattle.base.proofs.Logic.{and_true}
use Rattle.plant.specs.declared.Plant.{Plant}
use Rattle.plant.specs.Plant.{needs}
use Rattle.calls.specs.Lent.{Tables}
use Rattle.calls.specs.Work.{NeedOf}
use Rattle.calls.specs.Start.{NeedsAt}

-- by the words of the derived `default`
pub none_made : (P : Plant) {made : Option (List (List (Option ℕ)))} {needs : List (Option ℕ)} → made ≡ None → AllOfLen (λ x. x ≡ None) needs 16 → Tables P made needs
none_made P e h = record { table = rw e tt; tasks = record { size = h.long; right = λ t l. rw (h.at t None l) tt } }

-- the groups of the set are those that the task needs
pub needed_there : (P : Plant) (t need : ℕ) → NeedOf P t need → (g : ℕ) → bit need g ≡ true → NeedsAt P t g
needed_there P t need n g e = let k = and_true (ltb g P.groups) (needs P t g) (sym (n g) ∙ e) in (ltb-true g P.groups k.0, k.1)
