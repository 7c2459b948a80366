-- A list in parts of n, as `as_chunks` hands them out: part i, and where its elements stand. Assumes nothing.
use Prim.Native.Nat.{ℕ, zero, suc, ◌+◌, ◌*◌, ◌<◌}
use mathlib.Core.Path.{◌≡◌, ap, ◌∙◌}
use mathlib.Core.List.{List, []}
use native.Mathlib.Omega.{arith}
use native.Mathlib.Nat.{suc-mul}
use lib.ListN.{get_or, take, drop}
use lib.Seq.{get_or-drop, get_or-take, drop-drop}
use Rattle.std.specs.Simd.{first_chunks}

pub chunk_is : (n k : ℕ) (xs : List ℕ) (i : ℕ) → i < k → get_or (first_chunks n k xs) i [] ≡ take n (drop (i * n) xs)
chunk_is n zero xs i a = absurd (omega arith)
chunk_is n (suc k) xs zero a = ap (λ (x : ℕ). take n (drop x xs)) (let e : 0 ≡ 0 * n = omega arith in e)
chunk_is n (suc k) xs (suc i) a =
    chunk_is n k (drop n xs) i (omega arith) ∙ ap (take n) (drop-drop (i * n) n xs)
    ∙ ap (λ (x : ℕ). take n (drop x xs)) (let e : n + i * n ≡ suc i * n = omega (arith, suc-mul i n) in e)

pub chunk_at : (n k : ℕ) (xs : List ℕ) (i j : ℕ) → i < k → j < n → get_or (get_or (first_chunks n k xs) i []) j 0 ≡ get_or xs (i * n + j) 0
chunk_at n k xs i j a b = rw (chunk_is n k xs i a, get_or-take n (drop (i * n) xs) j 0 b) (get_or-drop (i * n) xs j 0)
