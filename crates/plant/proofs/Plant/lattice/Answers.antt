-- The sets are those of the lattice's part of the record.
use Rattle.std.proofs.Common.{◌*◌, ◌/◌, length, refl, replicate, arith}
use Rattle.base.proofs.Chunks.{chunk_is}
use Rattle.base.proofs.Filled.{fill_copy}
use Rattle.plant.proofs.Plant.lattice.Goals as goal

pub returns : goal.returns
returns c =
    let xs = c.args.self.now.lattice_sets in
    rw (
      c.as_chunks.ensures.front,
      chunk_is 16 (length xs / 16) xs c.args.l (omega (arith, c.as_chunks.ensures.front_len)),
      fill_copy 0 xs (replicate 16 0) (c.args.l * 16) 16 16 refl (omega arith) refl,
    ) refl
