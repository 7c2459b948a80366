-- A loop over the levels and the groups of the tanks, side by side: what it is given at each turn is the next tank's. Assumes nothing.
use mathlib.Core.Path.{◌≡◌, ◌∙◌}
use Prim.Native.Nat.{ℕ, ◌<◌}
use mathlib.Core.List.{List}
use lib.ListN.{length, take}
use denote.Ref.{Bor}
use Rattle.std.proofs.Common.{Option, Some}
use Rattle.std.proofs.iter.Yields.{fronts}
use Rattle.std.proofs.Math.Seq.{get_or-take}
use Rattle.std.proofs.lemmas.Iterator.{zips}
use Rattle.std.proofs.lemmas.Slice.Zip.{zip_turn}
use Rattle.std.specs.Iterator.{Yields}
use Rattle.std.specs.Iterator.Adapters.{zip_first, zip_second}
use Rattle.std.specs.Slice.Iter.{iter_rest}
use Rattle.std.specs.declared.iter.Zip.{Zip}
use Rattle.std.specs.declared.slice.Iter.{Iter}
use Rattle.plant.specs.declared.Plant.{Plant}
use Rattle.plant.specs.Plant.{level_of, group_of}

-- Level v and group g are those of tank o.
pub record Tank (p : Plant) (o v g : ℕ) : Type 0 where
  pub there : o < p.tanks
  pub level : v ≡ level_of p o
  pub group : g ≡ group_of p o

-- the pair q that the iterator gives behind the pairs xs is that of the tank with their number
pub tank : (p : Plant) (xs : List (Bor ℕ × Bor ℕ)) (s t u : Zip (Iter ℕ) (Iter ℕ)) {r : Option (Bor ℕ × Bor ℕ)} {q : Bor ℕ × Bor ℕ} {v g : ℕ}
    → Yields (zips fronts fronts) s xs t → zips fronts fronts t r u → r ≡ Some q → v ≡ q.0.now → g ≡ q.1.now
    → iter_rest (zip_first s) ≡ take p.tanks p.tank_level → iter_rest (zip_second s) ≡ take p.tanks p.tank_group → length (take p.tanks p.tank_level) ≡ p.tanks → Tank p (length xs) v g
tank p xs s t u {r} {q} y z h a b e f l =
    let w = zip_turn _ _ xs s t u r e f y q h z in
    let there : length xs < p.tanks = rw l at w.0 in
    record {
      there = there;
      level = a ∙ w.2 0 ∙ get_or-take p.tanks p.tank_level (length xs) 0 there;
      group = b ∙ w.3 0 ∙ get_or-take p.tanks p.tank_group (length xs) 0 there;
    }
