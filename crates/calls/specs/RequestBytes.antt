-- Request bytes, five for each request, as a list of calls.
use Rattle.std.specs.Prelude.{ℕ, zero, suc, ◌+◌, ◌*◌, List, [], ◌∷◌, ◌++◌}
use Rattle.layout.specs.Layout.{byte_at}
use Rattle.rules.specs.Rules.{Call}
use Rattle.calls.specs.Lent.{call_by}

-- the call that the five bytes of a request ask for
abbrev pub call_in : List ℕ → Call
call_in request = call_by (byte_at request 0) (byte_at request 1) (byte_at request 2) (byte_at request 3) (byte_at request 4)

-- the call of request i
abbrev pub call_at : List ℕ → ℕ → Call
call_at bytes i = call_by (byte_at bytes (i * 5)) (byte_at bytes (i * 5 + 1)) (byte_at bytes (i * 5 + 2)) (byte_at bytes (i * 5 + 3)) (byte_at bytes (i * 5 + 4))

-- the first n requests, the first one first
unfoldable pub calls_of : List ℕ → ℕ → List Call
calls_of bytes zero = []
calls_of bytes (suc n) = calls_of bytes n ++ (call_at bytes n ∷ [])
