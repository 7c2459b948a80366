-- In a sound plant each tank's group, level, requirement and lattice can be looked up. Assumes nothing.
use Prim.Native.Nat.{ℕ, ◌<◌}
use native.Mathlib.Omega.{arith}
use Rattle.plant.specs.declared.Plant.{Plant}
use Rattle.plant.specs.Plant.{group_of, requirement_of}
use Rattle.plant.specs.Valid.{Valid}
use Rattle.choice.specs.Table.{TanksThere, Linked}

module _ (P : Plant) (X : Valid P) where
  requirement_in : (o : ℕ) → o < P.tanks → requirement_of P (group_of P o) < P.requirements
  requirement_in o l = X.req_in (group_of P o) (X.group_in o l)

  pub tanks_there : TanksThere P
  tanks_there = record {
    tanks_fit = X.counts.tanks_fit;
    group_there = λ o l. omega (arith, X.group_in o l, X.counts.groups_fit);
    level_there = λ o l. omega (arith, X.level_in_lattice o l, X.levels_fit _ (requirement_in o l));
  }

  pub linked : Linked P
  linked = record {
    groups_fit = X.counts.groups_fit;
    tanks_there = tanks_there;
    requirement_there = λ o l. omega (arith, requirement_in o l, X.counts.requirements_fit);
    lattice_there = λ o l. omega (arith, X.lattice_in _ (requirement_in o l), X.counts.lattices_fit);
  }
