-- What a plant file says: the plant that its records make, the number that refuses it, and what the reader returns for any bytes.
use Rattle.std.specs.Prelude.{ℕ, ◌*◌, Bool, cond, ◌&&◌, List, ◌++◌, eqb, replicate}
use Rattle.base.specs.Chain.{Test, first}
use Rattle.layout.specs.Layout.{lattices, requirements, groups, tanks, tasks, skids, width, limit, count, part, bytes_of, words_of, zeros_at}
use Rattle.layout.specs.Header.{header_checks}
use Rattle.plant.specs.declared.Plant.{Plant}
use Rattle.plant.specs.Plant.{no_plant}
use Rattle.plant.specs.Checks.{record_checks}

-- Cells that each record of a section has: `run` of them, from its byte `from` on.
pub record Cell : Type 0 where
  pub section : ℕ
  pub from : ℕ
  pub run : ℕ

abbrev pub one_cell : ℕ → ℕ → Cell
one_cell section from = record { section = section; from = from; run = 1 }

abbrev pub first_cell : ℕ → Cell
first_cell section = one_cell section 0

-- Lattice: byte 0 is the number of levels; byte 1 is zero; then sixteen two-byte sets.
abbrev pub lattice_size : Cell
lattice_size = first_cell lattices

abbrev pub lattice_sets_cell : Cell
lattice_sets_cell = record { section = lattices; from = 2; run = 16 }

-- Requirement: its lattice, then zero.
abbrev pub requirement_lattice_cell : Cell
requirement_lattice_cell = first_cell requirements

-- Group: its requirement, then zero.
abbrev pub group_requirement_cell : Cell
group_requirement_cell = first_cell groups

-- Tank: its group, then its level.
abbrev pub tank_group_cell : Cell
tank_group_cell = first_cell tanks

abbrev pub tank_level_cell : Cell
tank_level_cell = one_cell tanks 1

-- Task: a byte that names requirements; a zero byte; eight bytes, one for the rights on each group.
abbrev pub task_requirements_cell : Cell
task_requirements_cell = first_cell tasks

abbrev pub task_rights_cell : Cell
task_rights_cell = record { section = tasks; from = 2; run = 8 }

-- Skid: the tasks that it may run, a two-byte set.
abbrev pub skid_tasks_cell : Cell
skid_tasks_cell = first_cell skids

-- the byte of a lattice, a requirement, a group or a task that is always zero
abbrev pub zero_byte : ℕ
zero_byte = 1

-- zeros, with room for the cells c of the most records
abbrev pub room : Cell → List ℕ
room c = replicate (limit c.section * c.run) 0

-- The cells c of the n records in s, one after the other. Past the n records the list has zeros.
abbrev pub bytes_in : Cell → List ℕ → ℕ → List ℕ
bytes_in c s n = bytes_of s (width c.section) c.from c.run n (room c)

abbrev pub words_in : Cell → List ℕ → ℕ → List ℕ
words_in c s n = words_of s (width c.section) c.from c.run n (room c)

-- the same of a file: they are read from the part that the section fills
abbrev pub bytes : List ℕ → Cell → List ℕ
bytes file c = bytes_in c (part file c.section) (count file c.section)

abbrev pub words : List ℕ → Cell → List ℕ
words file c = words_in c (part file c.section) (count file c.section)

-- The records of edition 1, field by field.
abbrev pub plant_of : List ℕ → Plant
plant_of file = record {
  lattices = count file lattices;
  requirements = count file requirements;
  groups = count file groups;
  tanks = count file tanks;
  tasks = count file tasks;
  skids = count file skids;
  lattice_sizes = bytes file lattice_size;
  lattice_sets = words file lattice_sets_cell;
  requirement_lattice = bytes file requirement_lattice_cell;
  group_requirement = bytes file group_requirement_cell;
  tank_group = bytes file tank_group_cell;
  tank_level = bytes file tank_level_cell;
  task_requirements = bytes file task_requirements_cell;
  task_rights = bytes file task_rights_cell;
  skid_tasks = words file skid_tasks_cell;
}

-- the zero byte of each record of section k
abbrev pub zeros : List ℕ → ℕ → Bool
zeros file k = zeros_at (part file k) (width k) zero_byte (count file k)

-- the bytes that are always zero: 7 has those of the lattice records, 10 those of the requirements, the groups and the tasks
unfoldable pub lattice_zeros : List ℕ → Bool
lattice_zeros file = zeros file lattices

unfoldable pub other_zeros : List ℕ → Bool
other_zeros file = zeros file requirements && (zeros file groups && zeros file tasks)

-- opening's twelve checks in their order, each over the whole file before the next
abbrev pub opening_checks : List ℕ → List Test
opening_checks file = header_checks file ++ record_checks (lattice_zeros file) (other_zeros file) (plant_of file)

-- the number of the first check that fails, or 0
unfoldable pub opening_refusal : List ℕ → ℕ
opening_refusal file = first (opening_checks file)

-- Opening's number, and the plant where it is 0. A refusal has a plant of zeros.
pub record Reading : Type 0 where
  pub answer : ℕ
  pub plant : Plant

-- a refusal with number n
abbrev pub refused_with : ℕ → Reading
refused_with n = record { answer = n; plant = no_plant }

-- What the reader returns: the number, and the plant where it is 0, or a plant of zeros.
unfoldable pub reading_of : List ℕ → Reading
reading_of file = record { answer = opening_refusal file; plant = cond (eqb (opening_refusal file) 0) (plant_of file) no_plant }
