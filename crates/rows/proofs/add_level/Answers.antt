-- Each set is under 2 ^ i, so that level i fits above it.
use Rattle.std.proofs.Common.{◌≡◌, refl, ap, ◌∙◌, List, get_or, ℕ, zero, suc, ◌+◌, ◌*◌, ◌/◌, ◌%◌, ◌^◌, ◌<◌, ◌≤◌, eqb, arith}
use mir.Val.{bool_byte}
use native.Mathlib.Nat.{mod-lt, zero-lt-suc, mul-le-mul_right, pow-suc}
use lib.Pow.{shl_exact, pow_mono}
use Rattle.base.specs.Fill.{fill}
use Rattle.base.proofs.Filled.{fill_entry, fill_next}
use Rattle.lattice.specs.Sets.{added_at}
use Rattle.rows.proofs.add_level.Goals as goal

byte_of : (d : ℕ) → d < 2 → bool_byte (eqb d 1) ≡ d
byte_of zero l = refl
byte_of (suc zero) l = refl
byte_of (suc (suc d)) l = absurd (omega arith)

-- e is what `u16::from(has(x, j))` gives, and h that t has the levels below j added
module _ (t₀ : List ℕ) (x i j : ℕ) (l : i < 16) {t : List ℕ} {e : ℕ} (h : t ≡ fill (added_at t₀ x i) t₀ j) (q : e ≡ bool_byte (eqb (x / 2 ^ j % 2) 1)) where
  small : x / 2 ^ j % 2 < 2
  small = mod-lt (x / 2 ^ j) (zero-lt-suc 1)

  -- the bit, moved to its place, loses nothing
  placed : (x / 2 ^ j % 2 * 2 ^ i) % 65536 ≡ x / 2 ^ j % 2 * 2 ^ i
  placed = shl_exact 1 i 16 small (omega arith)

  value : get_or t j 0 + (e * 2 ^ i) % 65536 ≡ added_at t₀ x i j
  value = rw (fill_entry (added_at t₀ x i) t₀ j 0 h, q, byte_of (x / 2 ^ j % 2) small, placed)

  fits : get_or t₀ j 0 < 2 ^ i → get_or t j 0 + (e * 2 ^ i) % 65536 < 65536
  fits o =
      let d : x / 2 ^ j % 2 * 2 ^ i ≤ 1 * 2 ^ i = mul-le-mul_right (2 ^ i) (let b : x / 2 ^ j % 2 ≤ 1 = omega (arith, small) in b) in
      let m : 2 ^ suc i ≤ 2 ^ 16 = pow_mono l in
      rw value (omega (arith, d, m, o, pow-suc 2 i))

pub overflow_add-set : goal.overflow_add-set
overflow_add-set c =
    let j = c.loop-j.j in
    omega (arith, fits c.args.t.now c.args.x c.args.i j c.requires.0 c.loop-j.invariant (c.from.ensures ∙ ap bool_byte c.has.ensures) (c.requires.1 j c.loop-j-test.true))

pub loop-j-preserved : goal.loop-j-preserved
loop-j-preserved c =
    let j = c.loop-j.j in
    fill_next _ _ j c.loop-j.invariant (value c.args.t.now c.args.x c.args.i j c.requires.0 c.loop-j.invariant (c.from.ensures ∙ ap bool_byte c.has.ensures))
