-- A loop over request bytes makes the run of their calls from the fresh monitor. Assumes nothing.
use mathlib.Core.Path.{◌≡◌, refl, sym, ap, subst, ◌∙◌}
use Prim.Native.Nat.{ℕ, zero, suc, ◌+◌, ◌*◌, ◌<◌, ◌≤◌}
use native.Mathlib.Nat.{add-zero, zero-add}
use native.Mathlib.Omega.{arith}
use mathlib.Core.Bool.{true}
use mathlib.Core.List.{List, [], ◌∷◌, ◌++◌, map}
use native.Mathlib.Decide.{ℕ_discrete}
use lib.ListN.{length, set, get_or, take, length-set, length-map, length-append, get_or-append, get_or-map}
use lib.Seq.{get_or-append_seam, length-take-le, take_all, ext_get_or}
use Rattle.std.proofs.lemmas.List.{map_more}
use Rattle.base.specs.Overlay.{overlay}
use Rattle.base.proofs.Overlaid.{overlay_none, overlay_more}
use Rattle.plant.specs.declared.Plant.{Plant}
use Rattle.plant.specs.Checks.{plant_refusal, Sound}
use Rattle.plant.proofs.Sound.{sound_law}
use Rattle.rules.specs.declared.Monitor.{Monitor}
use Rattle.rules.specs.Rules.{Call, answer}
use Rattle.rules.specs.Record.{Sized, fresh, view_of, intact, stepped}
use Rattle.rules.specs.Run.{runs, ends, TestedOnce}
use Rattle.rules.proofs.Agree.{fresh_agree, intact_true}
use Rattle.rules.proofs.IntactKept.{tested_once}
use Rattle.std.specs.Simd.{first_chunks}
use Rattle.calls.specs.Lent.{Does}
use Rattle.calls.specs.RequestBytes.{call_in, call_at, calls_of}
use Rattle.base.proofs.Chunks.{chunk_at}

-- one call more at the end of a list
pub ends_more : (cs : List Call) (m : Monitor) (c : Call) → ends m (cs ++ (c ∷ [])) ≡ stepped (ends m cs).plant (ends m cs) c
unfolding ends
ends_more [] m c = refl
ends_more (x ∷ cs) m c = ends_more cs (stepped m.plant m x) c

pub runs_more : (cs : List Call) (m : Monitor) (c : Call) → runs m (cs ++ (c ∷ [])) ≡ runs m cs ++ (answer (ends m cs).plant (view_of (ends m cs).plant (ends m cs)) c ∷ [])
unfolding runs ends
runs_more [] m c = refl
runs_more (x ∷ cs) m c = ap (λ (l : List ℕ). answer m.plant (view_of m.plant m) x ∷ l) (runs_more cs (stepped m.plant m x) c)

pub runs_length : (cs : List Call) (m : Monitor) → length (runs m cs) ≡ length cs
unfolding runs
runs_length [] m = refl
runs_length (x ∷ cs) m = ap suc (runs_length cs (stepped m.plant m x))

pub calls_length : (bytes : List ℕ) (n : ℕ) → length (calls_of bytes n) ≡ n
unfolding calls_of
calls_length bytes zero = refl
calls_length bytes (suc n) = omega (arith, length-append (calls_of bytes n) (call_at bytes n ∷ []), calls_length bytes n)

-- call i is request i
pub calls_at : (bytes : List ℕ) (n i : ℕ) (d : Call) → i < n → get_or (calls_of bytes n) i d ≡ call_at bytes i
unfolding calls_of
calls_at bytes zero i d l = absurd (omega arith)
calls_at bytes (suc n) i d l = elim (ℕ_discrete i n) [
  | yes e ↦
      ap (λ (k : ℕ). get_or (calls_of bytes n ++ (call_at bytes n ∷ [])) k d) (let f : i ≡ length (calls_of bytes n) = e ∙ sym (calls_length bytes n) in f)
      ∙ get_or-append_seam (calls_of bytes n) (call_at bytes n) [] d ∙ ap (call_at bytes) (sym e)
  | no e ↦ get_or-append (calls_of bytes n) (call_at bytes n ∷ []) d i (omega (arith, calls_length bytes n)) ∙ calls_at bytes n i d (omega arith)
]

-- the calls of the parts of five bytes are those of the bytes
chunk_call : (bytes : List ℕ) (k i : ℕ) → i < k → call_in (get_or (first_chunks 5 k bytes) i []) ≡ call_at bytes i
chunk_call bytes k i l =
    let at : (j : ℕ) → j < 5 → get_or (get_or (first_chunks 5 k bytes) i []) j 0 ≡ get_or bytes (i * 5 + j) 0 = λ j b. chunk_at 5 k bytes i j l b in
    rw (at 0 (omega arith), at 1 (omega arith), at 2 (omega arith), at 3 (omega arith), at 4 (omega arith), add-zero)

pub chunk_calls : (bytes : List ℕ) (k : ℕ) {requests : List (List ℕ)} → requests ≡ first_chunks 5 k bytes → length requests ≡ k → map call_in requests ≡ calls_of bytes k
chunk_calls bytes k {requests} e n =
    ext_get_or (call_in []) (map call_in requests) (calls_of bytes k) (length-map requests call_in ∙ n ∙ sym (calls_length bytes k))
    (λ i l.
    let b : i < k = omega (arith, n, length-map requests call_in) in
    get_or-map call_in requests i [] ∙ ap (λ (x : List (List ℕ)). call_in (get_or x i [])) e ∙ chunk_call bytes k i b
    ∙ sym (calls_at bytes k i (call_in []) b))

module _ (P : Plant) (q : plant_refusal true true P ≡ 0) where
  sound : Sound P
  sound = (sound_law P).0 q

  -- the fresh monitor passes test 20, and so does every later one
  pub fresh_passes : record { sized : Sized (fresh P); passes_test_20 : intact (fresh P).plant (fresh P) ≡ true }
  unfolding fresh
  fresh_passes = let A = fresh_agree P sound in record { sized = A.sized; passes_test_20 = intact_true P sound (fresh P) [] A }

  pub once : (cs : List Call) → TestedOnce (fresh P) cs
  once = tested_once (fresh P) fresh_passes.sized fresh_passes.passes_test_20

  pub still_intact : (cs : List Call) {M : Monitor} → M ≡ ends (fresh P) cs → intact M.plant M ≡ true
  unfolding fresh
  still_intact cs e = subst (λ (x : Monitor). intact x.plant x ≡ true) (sym e) (subst (λ (p : Plant). intact p (ends (fresh P) cs) ≡ true) (sym (once cs).same_plant) (once cs).still_passes)

-- answer i is stored behind those before it
pub answer_stored : (ys answers : List ℕ) {zs : List ℕ} {i : ℕ} (v : ℕ) → zs ≡ overlay ys 0 answers → length answers ≡ i → i < length ys → set zs i v ≡ overlay ys 0 (answers ++ (v ∷ []))
answer_stored ys answers v e n l =
    rw e (ap (λ (k : ℕ). set (overlay ys 0 answers) k v) (sym (zero-add (length answers) ∙ n)) ∙ overlay_more ys 0 answers v (omega (arith, n)))

-- what the loop knows before request i: the record and the answers so far are the run's
pub record Serving (first : Monitor) (requests : List (List ℕ)) (out₀ out : List ℕ) (m : Monitor) (i : ℕ) : Type 0 where
  pub at_most : i ≤ length requests
  pub size : length out ≡ length out₀
  pub state : m ≡ ends first (map call_in (take i requests))
  pub answers : out ≡ overlay out₀ 0 (runs first (map call_in (take i requests)))

module _ (first : Monitor) (requests : List (List ℕ)) (out₀ : List ℕ) where
  -- before the first request
  pub serving_none : Serving first requests out₀ out₀ first 0
  unfolding ends runs
  serving_none = record { at_most = omega arith; size = refl; state = refl; answers = overlay_none out₀ 0 }

  -- a request more: its answer is stored, and it leaves the record left
  pub serving_more : {out : List ℕ} {m left : Monitor} {i v : ℕ} → length requests ≤ length out₀ → i < length requests → Serving first requests out₀ out m i → Does m (call_in (get_or requests i [])) v left → Serving first requests out₀ (set out i v) left (i + 1)
  serving_more {out} {m} {left} {i} {v} room l s d =
      let cs : List Call = map call_in (take i requests) in
      let c : Call = call_in (get_or requests i []) in
      let n : length (runs first cs) ≡ i = omega (arith, runs_length cs first, length-map (take i requests) call_in, length-take-le i requests s.at_most) in
      record {
        at_most = omega arith;
        size = simp length-set s.size;
        state = rw (map_more call_in requests i [] l, ends_more cs first c, ← s.state) d.leaves;
        answers =
            rw (map_more call_in requests i [] l, runs_more cs first c, ← s.state, ← d.answers)
            (answer_stored out₀ (runs first cs) v s.answers n (omega arith));
      }

  -- behind the last request
  pub serving_all : {out : List ℕ} {m : Monitor} {i : ℕ} → length requests ≤ i → Serving first requests out₀ out m i → (m ≡ ends first (map call_in requests)) × (out ≡ overlay out₀ 0 (runs first (map call_in requests)))
  serving_all {out} {m} {i} l s = rw (← take_all i requests l) (s.state, s.answers)
