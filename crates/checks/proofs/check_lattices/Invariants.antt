-- Of the lattices passed the lowest number decides.
use Rattle.std.proofs.Common.{◌≡◌}
use Rattle.plant.specs.Checks.{refusals_of, first_number}
use Rattle.refusal.specs.Number.{answer_of}
use Rattle.checks.proofs.check_lattices.Given as goal

abbrev pub invariant-loop-l : goal.invariant-loop-l
invariant-loop-l l = answer_of l.outcome ≡ first_number (refusals_of l.counted.plant.now.lattice_sizes l.counted.plant.now.lattice_sets l.counted.plant.now.lattices) l.l
