-- What a case of a plant file computes by: the plants, and every definition on the way from their bytes to opening's number and the plant.
use mathlib.Core.List.{List}
use Prim.Native.Nat.{ℕ}
use Rattle.base.specs.Below.{all_below, any_below, first_below}
use Rattle.base.specs.Bits.{none_from}
use Rattle.base.specs.Fill.{fill}
use Rattle.lattice.specs.Levels.{layout, reflexive, antisymmetric, transitive, ordered, joined, complete, lattice_refusal}
use Rattle.layout.specs.Layout.{place, zeros_at}
use Rattle.layout.specs.Header.{length_ok, edition_ok, count_ok, counts_ok, zeros_ok, inside, all_inside, apart, all_apart, header_refusal}
use Rattle.plant.specs.Checks.{counts_in, lattice_fails, numbers_ok, levels_distinct, requirements_named, plant_refusal}
use Rattle.opening.specs.Reading.{Reading, lattice_zeros, other_zeros, opening_refusal, reading_of}
use Rattle.inputs.specs.Case.{same_list}
use Rattle.inputs.specs.Plants.{session, crossed, renumbered, tank0_at_level1, flat, exchanged, pentagon, wide, smallest, rising, narrow}

-- whoever opens this opens all of them
unfoldable pub reads : List ℕ → Reading
unfolding all_below any_below first_below none_from fill layout reflexive antisymmetric transitive ordered joined complete lattice_refusal place zeros_at length_ok edition_ok count_ok counts_ok zeros_ok inside all_inside apart all_apart header_refusal counts_in lattice_fails numbers_ok levels_distinct requirements_named plant_refusal lattice_zeros other_zeros opening_refusal reading_of same_list session crossed renumbered tank0_at_level1 flat exchanged pentagon wide smallest rising narrow
reads file = reading_of file
