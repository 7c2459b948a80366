-- Each entry is asked.
use Rattle.std.proofs.Common.{ℕ, rules, tests, ltb, length, arith, sym}
use Rattle.std.proofs.Math.Seq.{take-length}
use Rattle.base.proofs.All.{all_in_front}
use Rattle.entries.proofs.all_below.Goals as goal

pub returns : goal.returns
returns c =
    let xs = c.args.entries.now in
    all_in_front (λ (x : ℕ). ltb x c.args.bound) 0 xs (length xs) c.all.ensures.ran (let whole = sym (take-length xs) in cc) (omega arith) (λ x b q k. search (rules, tests))
