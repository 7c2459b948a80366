-- The lowest number is taken, and what is left is a lower number.
use Rattle.std.proofs.Common.{arith}
use Rattle.base.proofs.Members.{lowest_in, without_less}
use Rattle.sets.proofs.MembersIterator.next.Goals as goal

pub returns-clause-steps : goal.returns-clause-steps
returns-clause-steps c =
    let l = lowest_in 16 c.args.self.now.rest (omega (arith, c.if-self-eq0.false)) (omega arith) in
    record { low = l.0; was_in = l.1; leaves = c.without_one-self.ensures }

pub returns-clause-goes : goal.returns-clause-goes
returns-clause-goes c =
    let l = lowest_in 16 c.args.self.now.rest (omega (arith, c.if-self-eq0.false)) (omega arith) in
    record {
      on = λ f. (tt, tt, without_less 16 c.args.self.now.rest _ _ (omega arith) l.1 c.without_one-self.ensures);
      keeps = tt;
      rests = λ f. tt;
    }
