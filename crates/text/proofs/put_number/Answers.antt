-- A number's room and text are those of its places, one behind the other.
use Rattle.std.proofs.Common.{sym}
use Rattle.printing.proofs.Decimal.{decimal_small}
use Rattle.printing.proofs.Number.{wrote_places}
use Rattle.writer.proofs.Written.{writes_as}
use Rattle.text.proofs.put_number.Goals as goal

pub returns-then-n-lt10 : goal.returns-then-n-lt10
returns-then-n-lt10 c = writes_as (sym (decimal_small _ c.if-n-lt10.true)) c.put_digit.ensures

pub returns : goal.returns
returns c = record {
  same_buffer = cc;
  same_length = cc;
  wrote =
      wrote_places c.args.n c.if-n-lt10.false c.requires.in_range c.requires.room.fits
      c.put_place.ensures.wrote c.put_place-2.ensures.wrote c.put_place-3.ensures.wrote c.put_place-4.ensures.wrote c.put_place-5.ensures.wrote;
}
