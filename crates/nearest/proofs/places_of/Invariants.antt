-- The level of each tank passed is in its group's set.
use Rattle.std.proofs.Common.{length}
use Rattle.choice.proofs.Places.{PlacesTo}
use Rattle.nearest.proofs.places_of.Given as goal

abbrev pub invariant-loop-level : goal.invariant-loop-level
invariant-loop-level l = PlacesTo l.p.tank_group l.p.tank_level (length l.yielded) l.places
