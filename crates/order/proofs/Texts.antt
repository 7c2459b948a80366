-- The lines of answers and of rights as the order's page has them, one after the other; and what was read as the whole input. Assumes nothing.
use mathlib.Core.Path.{◌≡◌, refl, sym, ap, ap₂, ◌∙◌}
use Prim.Native.Nat.{ℕ, zero, suc, ◌+◌, ◌*◌, ◌<◌}
use native.Mathlib.Omega.{arith}
use mathlib.Core.List.{List, [], ◌∷◌, ◌++◌, append_assoc, append-nil}
use lib.Dec.{ltb}
use lib.ListN.{length, take, drop}
use lib.Seq.{take_all, length-take-le, take-append_seam}
use borrow.Author.Tests.{ltb-true, ltb-false}
use Rattle.base.specs.Collect.{collect}
use Rattle.base.specs.Overlay.{overlay}
use Rattle.base.proofs.Logic.{split}
use Rattle.base.proofs.Collected.{collect_same}
use Rattle.layout.specs.Layout.{byte_at}
use Rattle.listing.specs.Held.{HeldRight, right_bytes}
use Rattle.printing.specs.Text.{answer_line, answer_lines, right_line, right_line_at, right_lines}
use Rattle.printing.specs.Printed.{printed, PrintsRead}
use Rattle.printing.proofs.Printed.{long_lines}
use Rattle.order.specs.Order.{answers_text, rights_text}

-- a collected list from its front
collect_first : {A : Type 0} (f : ℕ → List A) (n : ℕ) → collect f (suc n) ≡ f 0 ++ collect (λ i. f (suc i)) n
unfolding collect
collect_first f zero = sym (append-nil (f 0))
collect_first f (suc n) = ap (λ l. l ++ f (suc n)) (collect_first f n) ∙ append_assoc (f 0) (collect (λ i. f (suc i)) n) (f (suc n))

answers_from : (ks : List ℕ) (from : ℕ) → collect (λ i. answer_line (i + from) (byte_at ks i)) (length ks) ≡ answers_text from ks
unfolding collect
answers_from [] from = refl
answers_from (k ∷ ks) from =
    collect_first (λ i. answer_line (i + from) (byte_at (k ∷ ks) i)) (length ks)
    ∙ ap₂ (λ (a b : List ℕ). a ++ b) (ap (λ (j : ℕ). answer_line j k) (let e : 0 + from ≡ from = omega arith in e))
    (collect_same _ (λ i. answer_line (i + (from + 1)) (byte_at ks i)) (length ks) (λ i h. ap (λ (j : ℕ). answer_line j (byte_at ks i)) (let e : suc i + from ≡ i + (from + 1) = omega arith in e))
    ∙ answers_from ks (from + 1))

pub answers_text_lem : (ks : List ℕ) → answer_lines ks (length ks) ≡ answers_text 1 ks
answers_text_lem ks = answers_from ks 1

-- what stands behind the three bytes of the first right
behind : (h : HeldRight) (l : List HeldRight) (i j : ℕ) → i ≡ suc (suc (suc j)) → byte_at (right_bytes (h ∷ l)) i ≡ byte_at (right_bytes l) j
unfolding right_bytes
behind h l i j e = ap (byte_at (right_bytes (h ∷ l))) e

first : (h : HeldRight) (l : List HeldRight) → right_line_at (right_bytes (h ∷ l)) 0 ≡ right_line h.skid h.tank h.right
unfolding right_bytes
first h l = refl

pub rights_text_lem : (l : List HeldRight) → right_lines (right_bytes l) (length l) ≡ rights_text l
unfolding collect
rights_text_lem [] = refl
rights_text_lem (h ∷ l) =
    collect_first (right_line_at (right_bytes (h ∷ l))) (length l)
    ∙ ap₂ (λ (a b : List ℕ). a ++ b) (first h l)
    (collect_same _ (right_line_at (right_bytes l)) (length l)
    (λ i m. rw (behind h l (suc i * 3) (i * 3) (omega arith), behind h l (suc i * 3 + 1) (i * 3 + 1) (omega arith), behind h l (suc i * 3 + 2) (i * 3 + 2) (omega arith)))
    ∙ rights_text_lem l)

-- An array that is longer than any input that is taken: what was read of a longer input is too long as well.
module _ (array : List ℕ) (room : 65536 < length array) (input : List ℕ) where
  whole_read : printed (take (length array) input) ≡ printed input
  whole_read = split (ltb (length array) (length input))
      (λ y.
      let l : length array < length input = ltb-true _ _ y in
      long_lines (take (length array) input) (omega (arith, room, length-take-le (length array) input (omega (arith, l)))) ∙ sym (long_lines input (omega (arith, room, l))))
      (λ y. ap printed (take_all (length array) input (ltb-false _ _ y)))

pub prints_read : (array : List ℕ) (n : ℕ) (out text : List ℕ) (k : ℕ) → PrintsRead array n out text k
    → (input : List ℕ) → take n array ≡ take (length array) input → take k text ≡ printed input
unfolding overlay
prints_read array n out text k p input e =
    let ws : List ℕ = printed (take n array) in
    let size : k ≡ length ws = omega (arith, p.text.place) in
    ap₂ take size p.text.bytes
    ∙ take-append_seam ws (drop (0 + length ws) out)
    ∙ ap printed e
    ∙ whole_read array p.room input
