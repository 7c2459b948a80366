-- The row and its number are the rules', and an accepted start stores them.
use Rattle.refusal.proofs.NotZero.{handed_on, number_not_0}
use Rattle.calls.proofs.Late.{reached, row_chosen}
use Rattle.calls.proofs.Store.{late_refused, late_accepted}
use Rattle.starts.proofs.start_late.Goals as goal

pub choose_row-requires : goal.choose_row-requires
choose_row-requires c = reached c.requires.reads.startable c.args.start.now.need c.requires.need

pub returns-in_err-row : goal.returns-in_err-row
returns-in_err-row c =
    rw (handed_on _ _ c.from_residual.ensures)
    (late_refused (row_chosen c.requires.reads c.args.start.now.need c.requires.need _ c.in_err-row.ensures).answers (number_not_0 c.in_err-row.field-0.0))

pub returns : goal.returns
returns c =
    late_accepted (row_chosen c.requires.reads c.args.start.now.need c.requires.need _ c.in_ok-row.ensures) (rw c.from-s.ensures) (rw (← c.from-s.ensures) c.put_row.ensures)
