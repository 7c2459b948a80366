-- The plant of zeros that the derived `Default` makes: it says of each field that it is zero. Assumes nothing.
use mathlib.Core.Path.{◌≡◌, refl, sym, ◌∙◌}
use Prim.Native.Nat.{ℕ, ◌<◌}
use native.Mathlib.Omega.{arith}
use mathlib.Core.List.{List}
use lib.ListN.{replicate, length-replicate, get_or-replicate}
use lib.Seq.{ext_get_or}
use Rattle.std.specs.Array.{AllOfLen}
use Rattle.plant.specs.declared.Plant.{Plant}
use Rattle.plant.specs.Plant.{no_plant}

abbrev pub Zeros : List ℕ → ℕ → Type 0
Zeros xs n = AllOfLen (λ (x : ℕ). x ≡ 0) xs n

pub zeros : {n : ℕ} {xs : List ℕ} → Zeros xs n → xs ≡ replicate n 0
zeros {n} {xs} h =
    ext_get_or 0 xs (replicate n 0) (h.long ∙ sym (length-replicate {A = ℕ} n 0))
    (λ i l. let there : i < n = omega (arith, h.long) in h.at i 0 there ∙ sym (get_or-replicate {A = ℕ} n i 0 0 there))

-- The fields in their order.
same_fields : {a b c d e f : ℕ} {g h i j k l m n o : List ℕ} → (a ≡ 0) × (b ≡ 0) × (c ≡ 0) × (d ≡ 0) × (e ≡ 0) × (f ≡ 0)
    × Zeros g 8 × Zeros h 128 × Zeros i 8 × Zeros j 8 × Zeros k 64 × Zeros l 64 × Zeros m 16 × Zeros n 128 × Zeros o 8
    → record {
      lattices = a;
      requirements = b;
      groups = c;
      tanks = d;
      tasks = e;
      skids = f;
      lattice_sizes = g;
      lattice_sets = h;
      requirement_lattice = i;
      group_requirement = j;
      tank_group = k;
      tank_level = l;
      task_requirements = m;
      task_rights = n;
      skid_tasks = o;
    } ≡ no_plant
same_fields (a, b, c, d, e, f, g, h, i, j, k, l, m, n, o) =
    rw (a, b, c, d, e, f, zeros g, zeros h, zeros i, zeros j, zeros k, zeros l, zeros m, zeros n, zeros o) refl

-- The same of a plant, in the words of the derived `default`.
module _ (p : Plant) where
  abbrev pub Zeroed : Type 0
  Zeroed = (p.lattices ≡ 0) × (p.requirements ≡ 0) × (p.groups ≡ 0) × (p.tanks ≡ 0) × (p.tasks ≡ 0) × (p.skids ≡ 0)
      × Zeros p.lattice_sizes 8 × Zeros p.lattice_sets 128 × Zeros p.requirement_lattice 8 × Zeros p.group_requirement 8
      × Zeros p.tank_group 64 × Zeros p.tank_level 64 × Zeros p.task_requirements 16 × Zeros p.task_rights 128 × Zeros p.skid_tasks 8

  pub is_no_plant : Zeroed → p ≡ no_plant
  is_no_plant h = same_fields h
