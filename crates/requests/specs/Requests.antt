-- The call that a request record makes.
use Rattle.rules.specs.Rules.{Call}
use Rattle.calls.specs.Lent.{call_by}
use Rattle.calls.specs.declared.Request.{Request}

abbrev pub call_of : Request → Call
call_of r = call_by r.kind r.a r.b r.c r.d
