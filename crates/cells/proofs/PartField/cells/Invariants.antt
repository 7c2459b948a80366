-- The cells passed have their number, and the rest of the array, with the part that the loop does not have, is zero.
use Rattle.std.proofs.Common.{◌≡◌, ◌*◌, ◌++◌, ℕ, drop, replicate}
use Rattle.base.specs.Fill.{fill}
use Rattle.layout.specs.Layout.{place}
use Rattle.cells.proofs.PartField.cells.Given as goal

abbrev pub invariant-loop-k : goal.invariant-loop-k
invariant-loop-k g l =
    let p = l.self.part in
    let f = l.self.field in
    let zeros = replicate g.row.N g.T.Cell.ZERO in
    l.cell-items ++ drop (p.count * f.run) zeros ≡ fill (λ (k : ℕ). g.T.Cell.number_at p.bytes.now (place p.width f.from f.run g.T.Cell.WIDTH k)) zeros l.k
