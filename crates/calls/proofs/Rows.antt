-- A skid's row of eight that is stored: by one copy, and two that agree. Assumes nothing.
use mathlib.Core.Path.{◌≡◌, refl, sym, ap, ◌∙◌}
use Prim.Native.Nat.{ℕ, zero, suc, ◌+◌, ◌-◌, ◌≤◌, ◌<◌}
use native.Mathlib.Omega.{arith}
use mathlib.Core.List.{List, ◌++◌}
use lib.ListN.{set, take, length, get_or}
use lib.Seq.{take-suc, take_all, length-take-le, drop-drop}
use borrow.Rule.Slice.PartMut.{put_mid}
use Rattle.base.specs.Overlay.{overlay}
use Rattle.base.proofs.Overlaid.{overlay_none, overlay_more}
use Rattle.rules.specs.Record.{fill_from}
use Rattle.calls.specs.Work.{get_row}

module _ (xs : List ℕ) (base : ℕ) (f : ℕ → ℕ) where
  -- two rows that agree below n
  pub row_same : (g : ℕ → ℕ) (n : ℕ) → ((k : ℕ) → k < n → f k ≡ g k) → fill_from xs base f n ≡ fill_from xs base g n
  unfolding fill_from
  row_same g zero h = refl
  row_same g (suc n) h = rw (row_same g n (λ k l. h k (omega arith)), h n (omega arith))

module _ (xs ys : List ℕ) (base : ℕ) where
  -- entry by entry the front of the row is written
  front_filled : (n : ℕ) → n ≤ length ys → base + n ≤ length xs → fill_from xs base (get_row ys) n ≡ overlay xs base (take n ys)
  unfolding fill_from
  front_filled zero a b = overlay_none xs base
  front_filled (suc n) a b =
      let k : length (take n ys) ≡ n = length-take-le n ys (omega arith) in
      ap (λ (l : List ℕ). set l (base + n) (get_or ys n 0)) (front_filled n (omega arith) (omega arith))
      ∙ ap (λ (i : ℕ). set (overlay xs base (take n ys)) (base + i) (get_or ys n 0)) (sym k)
      ∙ overlay_more xs base (take n ys) (get_or ys n 0) (omega arith)
      ∙ ap (λ (l : List ℕ). overlay xs base l) (sym (take-suc ys n 0 (omega arith)))

  -- `xs[base..base + 8].copy_from_slice(ys)`
  pub row_copied : length ys ≡ 8 → base + 8 ≤ length xs → put_mid base (base + 8 - base) xs ys ≡ fill_from xs base (get_row ys) 8
  unfolding overlay
  row_copied e l =
      let k : base + 8 - base ≡ 8 = omega arith in
      let d : take 8 ys ≡ ys = take_all 8 ys (omega arith) in
      let f = front_filled 8 (omega arith) l in
      rw (f, d, k, e) (ap (λ (r : List ℕ). take base xs ++ (ys ++ r)) (drop-drop 8 base xs))
