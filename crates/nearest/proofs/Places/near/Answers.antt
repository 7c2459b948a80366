-- By the levels of its group's tanks the tank is nearest where it is by the tanks themselves.
use Rattle.std.proofs.Common.{◌≡◌, refl}
use Rattle.plant.specs.Plant.{group_of, requirement_of, lattice_of}
use Rattle.choice.proofs.Places.{nearest_here}
use Rattle.nearest.proofs.Places.near.Goals as goal

pub returns : goal.returns
returns c =
    let places = c.args.self.now in
    let P = places.plant.now in
    let g = group_of P c.args.o in
    let l : c.lattice_of-l.result ≡ lattice_of P (requirement_of P g) = rw (c.requirement_of.ensures, c.group_of-g.ensures) at c.lattice_of-l.ensures in
    λ v. nearest_here P.lattice_sets P.tank_group P.tank_level (lattice_of P (requirement_of P g)) g v P.tanks _ (places.known g (places.tanks_there.group_there c.args.o c.requires.tank)) c.args.o
    places.tanks_there.level_there _ (rw (l, c.group_of-g.ensures, c.level_of.ensures) at (c.nearest_for.ensures v)) refl
