-- Records that nobody opened: the paper's plant and others, each with a part that tells a misreading of test 20 from the rule.
use Rattle.std.specs.Prelude.{ℕ, ◌-◌, ◌*◌, List, ◌∷◌, ◌++◌, length, replicate}
use Rattle.std.proofs.Math.ListN as ListN
use Rattle.plant.specs.declared.Plant.{Plant}
use Rattle.opening.specs.Reading.{plant_of}
use Rattle.rules.specs.declared.Monitor.{Monitor}
use Rattle.rules.specs.Record.{record_of}
use Rattle.inputs.specs.Plants.{session}

-- the session's fresh record with other changing parts, each given by a place and a number
unfoldable pub record20 : ℕ → ℕ → ℕ → ℕ → ℕ → ℕ → Monitor
record20 level v skid task at tank = record_of (plant_of session) (ListN.set (replicate 1024 255) level v) (ListN.set (replicate 8 255) skid task) (ListN.set (ListN.set (replicate 64 255) 1 2) at tank)

-- a record over the plant of a file, with a level, a skid's running task and a chosen tank, each given by a place and a number
unfoldable pub parts : List ℕ → ℕ → ℕ → ℕ → ℕ → ℕ → ℕ → Monitor
parts file level v skid task at tank = record_of (plant_of file) (ListN.set (replicate 1024 255) level v) (ListN.set (replicate 8 255) skid task) (ListN.set (replicate 64 255) at tank)

-- a record over the plant of a file: the first levels, and of skid 1 the running task and the tanks chosen from groups 0 and 1
unfoldable pub skid1 : List ℕ → List ℕ → ℕ → ℕ → ℕ → Monitor
skid1 file levels task tank0 tank1 = record_of (plant_of file) (levels ++ replicate (1024 - length levels) 255) (255 ∷ task ∷ replicate 6 255) (replicate 8 255 ++ (tank0 ∷ tank1 ∷ replicate 54 255))

-- the session's plant with entries of every kind past the counts, which are free; s in a lattice's set from n on, and r in a task's rights on a
-- group past the count, which are not
unfoldable pub beyond : ℕ → ℕ → Plant
beyond s r = record {
  lattices = 2;
  requirements = 2;
  groups = 2;
  tanks = 4;
  tasks = 2;
  skids = 2;
  lattice_sizes = ListN.set (plant_of session).lattice_sizes 2 99;
  lattice_sets = ListN.set (ListN.set (plant_of session).lattice_sets 32 9) 3 s;
  requirement_lattice = ListN.set (plant_of session).requirement_lattice 2 9;
  group_requirement = ListN.set (plant_of session).group_requirement 2 9;
  tank_group = ListN.set (plant_of session).tank_group 4 9;
  tank_level = ListN.set (plant_of session).tank_level 4 99;
  task_requirements = ListN.set (plant_of session).task_requirements 2 255;
  task_rights = ListN.set (ListN.set (ListN.set (plant_of session).task_rights 16 255) 24 1) 2 r;
  skid_tasks = ListN.set (plant_of session).skid_tasks 2 65535;
}

-- the plant of a file with an entry of each kind right past its count, all of which are free
unfoldable pub free_past : List ℕ → Plant
free_past file = record {
  lattices = (plant_of file).lattices;
  requirements = (plant_of file).requirements;
  groups = (plant_of file).groups;
  tanks = (plant_of file).tanks;
  tasks = (plant_of file).tasks;
  skids = (plant_of file).skids;
  lattice_sizes = ListN.set (plant_of file).lattice_sizes (plant_of file).lattices 99;
  lattice_sets = (plant_of file).lattice_sets;
  requirement_lattice = ListN.set (plant_of file).requirement_lattice (plant_of file).requirements 9;
  group_requirement = ListN.set (plant_of file).group_requirement (plant_of file).groups 9;
  tank_group = ListN.set (plant_of file).tank_group (plant_of file).tanks 9;
  tank_level = ListN.set (plant_of file).tank_level (plant_of file).tanks 99;
  task_requirements = ListN.set (plant_of file).task_requirements (plant_of file).tasks 255;
  task_rights = ListN.set (plant_of file).task_rights ((plant_of file).tasks * 8) 255;
  skid_tasks = ListN.set (plant_of file).skid_tasks (plant_of file).skids 65535;
}

-- the session's plant with other counts of requirements, groups, tasks and skids
unfoldable pub counted : ℕ → ℕ → ℕ → ℕ → Plant
counted requirements groups tasks skids = record {
  lattices = 2;
  requirements = requirements;
  groups = groups;
  tanks = 4;
  tasks = tasks;
  skids = skids;
  lattice_sizes = (plant_of session).lattice_sizes;
  lattice_sets = (plant_of session).lattice_sets;
  requirement_lattice = (plant_of session).requirement_lattice;
  group_requirement = (plant_of session).group_requirement;
  tank_group = (plant_of session).tank_group;
  tank_level = (plant_of session).tank_level;
  task_requirements = (plant_of session).task_requirements;
  task_rights = (plant_of session).task_rights;
  skid_tasks = (plant_of session).skid_tasks;
}
