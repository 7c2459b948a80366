-- A file whose length is right has a whole header.
use Rattle.std.proofs.Common.{ap}
use mathlib.Core.Bool.{not}
use Rattle.layout.proofs.Header.{whole_header}
use Rattle.parts.proofs.check_header.Goals as goal

pub invariant_of-header : goal.invariant_of-header
invariant_of-header c = record { whole = whole_header _ c.length_ok.ensures (ap not c.if-not-length_ok.false) }
