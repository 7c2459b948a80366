-- A record that passes test 20 has what the work of a call leans on. Assumes nothing.
use mathlib.Core.Path.{◌≡◌}
use mathlib.Core.Logic.{⊎_elim}
use Prim.Native.Nat.{ℕ, ◌<◌}
use native.Mathlib.Omega.{arith}
use mathlib.Core.Bool.{true}
use lib.Dec.{eqb, ltb}
use lib.ListN.{get_or}
use borrow.Author.Tests.{lt-ltb, eq-eqb}
use Rattle.base.specs.Below.{all_below}
use Rattle.base.proofs.Logic.{and_both, or_left, or_right}
use Rattle.base.proofs.Below.{all_yes}
use Rattle.plant.specs.Plant.{requirement_of, levels_of, group_of, lattice_of}
use Rattle.plant.specs.Checks.{entry_below, Sound}
use Rattle.plant.specs.Valid.{Valid}
use Rattle.plant.proofs.Valid.{valid}
use Rattle.rules.specs.declared.Monitor.{Monitor}
use Rattle.rules.specs.Intact.{IntactView}
use Rattle.rules.specs.Record.{view_of, level_at, has_level, intact}
use Rattle.rules.proofs.IntactWords.{intact_means}
use Rattle.choice.specs.Table.{link_in}
use Rattle.choice.proofs.Table.{entries_wider}
use Rattle.calls.specs.Work.{task_known, level_known}

module _ (m : Monitor) (i : intact m.plant m ≡ true) where
  pub plant_sound : Sound m.plant
  plant_sound = ((intact_means m.plant (view_of m.plant m)).0 i).plant_sound

  pub plant_valid : Valid m.plant
  plant_valid = valid m.plant plant_sound

  skid_intact : (s : ℕ) → s < m.plant.skids → IntactView m.plant s (view_of m.plant m s)
  skid_intact = ((intact_means m.plant (view_of m.plant m)).0 i).skids_intact

  pub links_there : all_below (link_in m.plant.requirement_lattice m.plant.group_requirement) m.plant.groups ≡ true
  links_there = all_yes m.plant.groups (link_in m.plant.requirement_lattice m.plant.group_requirement)
      (λ g l. let r = plant_valid.req_in g l in
      and_both _ _ (lt-ltb (requirement_of m.plant g) 8 (omega (arith, plant_valid.counts.requirements_fit))) (lt-ltb (lattice_of m.plant (requirement_of m.plant g)) 8 (omega (arith, plant_valid.lattice_in (requirement_of m.plant g) r, plant_valid.counts.lattices_fit))))

  pub groups_counted : all_below (entry_below m.plant.tank_group m.plant.groups) m.plant.tanks ≡ true
  groups_counted = all_yes m.plant.tanks (entry_below m.plant.tank_group m.plant.groups) (λ o l. lt-ltb (group_of m.plant o) m.plant.groups (plant_valid.group_in o l))

  pub groups_there : all_below (entry_below m.plant.tank_group 8) m.plant.tanks ≡ true
  groups_there = entries_wider m.plant.tank_group m.plant.groups 8 m.plant.tanks plant_valid.counts.groups_fit groups_counted

  pub tasks_known : all_below (task_known m.running) m.plant.skids ≡ true
  unfolding view_of
  tasks_known = all_yes m.plant.skids (task_known m.running)
      (λ s l.
      let e = lt-ltb s m.plant.skids l in
      ⊎_elim
      (λ h. or_left (eqb (get_or m.running s 0) 255) (ltb (get_or m.running s 0) 16) (eq-eqb _ _ (rw e at h)))
      (λ h. let k : get_or m.running s 0 < m.plant.tasks = rw e at h.0 in
      or_right (eqb (get_or m.running s 0) 255) (ltb (get_or m.running s 0) 16) (lt-ltb (get_or m.running s 0) 16 (omega (arith, k, plant_valid.counts.tasks_fit))))
      (skid_intact s l).task_allowed)

  pub level_there : (s t d : ℕ) → s < m.plant.skids → t < m.plant.tasks → d < m.plant.requirements → level_known m.levels s t d ≡ true
  unfolding view_of
  level_there s t d a b c =
      let e : has_level m.plant s t d ≡ true = rw (lt-ltb s _ a, lt-ltb t _ b, lt-ltb d _ c) in
      ⊎_elim
      (λ h. or_left (eqb (get_or m.levels (level_at s t d) 0) 255) (ltb (get_or m.levels (level_at s t d) 0) 16) (eq-eqb _ _ (rw e at h)))
      (λ h. let k : get_or m.levels (level_at s t d) 0 < levels_of m.plant d = rw e at h in
      or_right (eqb (get_or m.levels (level_at s t d) 0) 255) (ltb (get_or m.levels (level_at s t d) 0) 16) (lt-ltb (get_or m.levels (level_at s t d) 0) 16 (omega (arith, k, plant_valid.levels_fit d c))))
      ((skid_intact s a).levels_known t d b c)
