-- The places taken are those of the tanks passed.
use Rattle.std.proofs.Common.{◌≡◌, true, not, ℕ, length}
use Rattle.base.specs.Below.{all_below}
use Rattle.plant.specs.Checks.{at_one_level}
use Rattle.plant.proofs.Places.{taken_by}
use Rattle.items.proofs.Numbered.levels_distinct.Given as goal

abbrev pub invariant-loop-level : goal.invariant-loop-level
invariant-loop-level l =
    let p = l.self.plant.now in
    (l.taken ≡ taken_by p (length l.yielded)) × (all_below (λ (x : ℕ). all_below (λ (y : ℕ). not (at_one_level p x y)) x) (length l.yielded) ≡ true)
