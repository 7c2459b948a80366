-- A check that refuses gives opening's number, and a file that none refuses its plant.
use Rattle.std.proofs.Common.{refl, sym, ◌∙◌}
use Rattle.refusal.proofs.NotZero.{handed_on, not_0}
use Rattle.plant.proofs.Sequence.{passes}
use Rattle.opening.proofs.Sequence.{early_number, late_number, late_plant}
use Rattle.reader.proofs.Said.{said_read, said_refused}
use Rattle.reader.proofs.read.Goals as goal

pub returns-in_err-plant_file-clause-refused : goal.returns-in_err-plant_file-clause-refused
returns-in_err-plant_file-clause-refused c = handed_on _ _ c.from_residual.ensures ∙ early_number _ c.in_err-plant_file.ensures.number (not_0 _)

pub returns-in_err-plant_file-clause-reading : goal.returns-in_err-plant_file-clause-reading
returns-in_err-plant_file-clause-reading c = said_refused _ _ _ c.from_residual.ensures (returns-in_err-plant_file-clause-refused c)

pub returns-in_err-check_plant-clause-refused : goal.returns-in_err-check_plant-clause-refused
returns-in_err-check_plant-clause-refused c =
    let h = c.in_ok-plant_file.ensures in
    handed_on _ _ c.from_residual-in_err-check_plant.ensures
    ∙ late_number _ h.number h.same c.plant_from-plant.ensures c.lattice_zeros.ensures c.other_zeros.ensures c.in_err-check_plant.ensures

pub returns-in_err-check_plant-clause-reading : goal.returns-in_err-check_plant-clause-reading
returns-in_err-check_plant-clause-reading c =
    said_refused _ _ _ c.from_residual-in_err-check_plant.ensures (returns-in_err-check_plant-clause-refused c)

pub invariant_of-result : goal.invariant_of-result
invariant_of-result c = record { passes_checks = passes _ _ _ (sym c.in_ok-check_plant.ensures) }

pub returns-clause-refused : goal.returns-clause-refused
returns-clause-refused c =
    let h = c.in_ok-plant_file.ensures in
    late_number _ h.number h.same c.plant_from-plant.ensures c.lattice_zeros.ensures c.other_zeros.ensures c.in_ok-check_plant.ensures

pub returns-clause-plant : goal.returns-clause-plant
returns-clause-plant c =
    let h = c.in_ok-plant_file.ensures in
    late_plant _ h.number h.same c.plant_from-plant.ensures c.lattice_zeros.ensures c.other_zeros.ensures c.in_ok-check_plant.ensures refl

pub returns-clause-reading : goal.returns-clause-reading
returns-clause-reading c = said_read _ (returns-clause-refused c) (returns-clause-plant c)
