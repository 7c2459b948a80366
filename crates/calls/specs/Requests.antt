-- What a request asks for: the rules' call, or 32 where they know none of its kind. And an item of a call that may be missing.
use Rattle.std.specs.Prelude.{◌≡◌, ℕ, true, false, List, Option, None, Some, Result, MatchResult}
use Rattle.base.specs.Chain.{Test, ◌gives◌}
use Rattle.layout.specs.Layout.{byte_at}
use Rattle.refusal.specs.Number.{number_of}
use Rattle.refusal.specs.declared.Refusal.{Refusal}
use Rattle.refusal.specs.declared.Refusal.TheVariants.{NoSuchKind}
use Rattle.rules.specs.Rules as rules
use Rattle.calls.specs.declared.Request.{Request}
use Rattle.calls.specs.declared.Call.{Call}
use Rattle.calls.specs.declared.Call.TheVariants.{Set, Start, Stop, Gate}
use Rattle.calls.specs.Lent.{call_by}

-- the request of five bytes: the kind, and then the call's arguments in their order
abbrev pub OfBytes : List ℕ → Request → Type 0
OfBytes bytes r = r ≡ record { kind = byte_at bytes 0; a = byte_at bytes 1; b = byte_at bytes 2; c = byte_at bytes 3; d = byte_at bytes 4 }

-- the rules' name of a call
abbrev pub ruled : Call → rules.Call
ruled (Set skid task requirement level) = rules.set skid task requirement level
ruled (Start skid task) = rules.start skid task
ruled (Stop skid) = rules.stop skid
ruled (Gate skid tank right) = rules.gate skid tank right

abbrev pub AsksFor : Request → Result Call Refusal → Type 0
AsksFor r asked = MatchResult asked (λ call. call_by r.kind r.a r.b r.c r.d ≡ ruled call) (λ refusal. (refusal ≡ NoSuchKind) × (call_by r.kind r.a r.b r.c r.d ≡ rules.unknown))

abbrev pub RequestFor : Call → Request → Type 0
RequestFor call r = call_by r.kind r.a r.b r.c r.d ≡ ruled call

-- whether it is missing, and the refusal if so
abbrev pub missing_item : Option Refusal → Test
missing_item None = false gives 0
missing_item (Some refusal) = true gives number_of refusal
