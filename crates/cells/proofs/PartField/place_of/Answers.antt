-- A cell lies within the records: `within_cells`, at the place that is computed.
use Rattle.std.proofs.Common.{arith, refl}
use Rattle.layout.specs.Layout.{place, Cells}
use Rattle.layout.proofs.Sizes.{within_cells}
use Rattle.cells.proofs.PartField.place_of.Goals as goal

pub returns : goal.returns
unfolding place
returns g c =
    let p = c.args.self.now.part in
    let f = c.args.self.now.field in
    let cells : Cells p.width f.from f.run g.T.Cell.WIDTH p.count = record { some = f.some; within_record = c.args.self.now.within; within_limit = p.within_limit } in
    rw c.WIDTH.ensures (refl, omega (arith, p.there, within_cells c.args.k cells c.requires))
