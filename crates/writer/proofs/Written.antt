-- The laws of what a writer has written: nothing, a part and the rest, and a list that is collected. Assumes nothing.
use Prim.Native.Nat.{ℕ, ◌+◌, ◌<◌}
use mathlib.Core.Path.{◌≡◌, refl, subst, ◌∙◌}
use mathlib.Core.List.{List, [], ◌++◌}
use Rattle.base.specs.Collect.{collect}
use Rattle.base.specs.Overlay.{Wrote}
use Rattle.base.proofs.Collected.{wrote_nothing, wrote_none, wrote_more, wrote_room}
use Rattle.base.proofs.Written.{front_room, rest_room, rest_wrote}
use Rattle.writer.specs.declared.Writer.{Writer}
use Rattle.writer.specs.Writing.{Room, Writes}

pub writes_nothing : (w : Writer) → Writes [] w w
writes_nothing w = record { same_buffer = refl; same_length = refl; wrote = wrote_nothing w.bytes.now w.at }

-- the same text, said in another way
pub writes_as : {ws vs : List ℕ} {w w' : Writer} → ws ≡ vs → Writes ws w w' → Writes vs w w'
writes_as {ws} {vs} {w} {w'} e h = subst (λ (l : List ℕ). Writes l w w') e h

pub room_as : {ws vs : List ℕ} {w : Writer} → ws ≡ vs → Room ws w → Room vs w
room_as {ws} {vs} {w} e h = subst (λ (l : List ℕ). Room l w) e h

-- where there is room for two parts, there is room for the first, and for the second once the first is written
pub room_first : (ws vs : List ℕ) {w : Writer} → Room (ws ++ vs) w → Room ws w
room_first ws vs {w} h = record { fits = front_room ws vs w.bytes.now w.at h.fits }

module _ (ws vs : List ℕ) {w w' : Writer} (h : Room (ws ++ vs) w) (a : Writes ws w w') where
  pub room_rest : Room vs w'
  room_rest = record { fits = rest_room ws vs w.bytes.now w.at h.fits a.wrote }

  pub writes_both : {w'' : Writer} → Writes vs w' w'' → Writes (ws ++ vs) w w''
  writes_both b = record { same_buffer = b.same_buffer ∙ a.same_buffer; same_length = b.same_length ∙ a.same_length; wrote = rest_wrote ws vs w.bytes.now w.at h.fits a.wrote b.wrote }

-- a loop that writes f i, for i from 0 up to n
pub writes_none : (f : ℕ → List ℕ) (w : Writer) → Writes (collect f 0) w w
writes_none f w = record { same_buffer = refl; same_length = refl; wrote = wrote_none f w.bytes.now w.at }

module _ (f : ℕ → List ℕ) (i n : ℕ) {w w' : Writer} (l : i < n) (h : Room (collect f n) w) (a : Writes (collect f i) w w') where
  pub room_more : Room (f i) w'
  room_more = record { fits = wrote_room f w.bytes.now w.at i n l h.fits a.wrote }

  pub writes_more : {w'' : Writer} → Writes (f i) w' w'' → Writes (collect f (i + 1)) w w''
  writes_more b = record { same_buffer = b.same_buffer ∙ a.same_buffer; same_length = b.same_length ∙ a.same_length; wrote = wrote_more f w.bytes.now w.at i n l h.fits a.wrote b.wrote }

-- what the writer wrote, said of the buffer that it was lent
pub lent_wrote : {ws : List ℕ} {w w' : Writer} {out out' : List ℕ} {at at' : ℕ} → w.bytes.now ≡ out → w.at ≡ at → Writes ws w w' → out' ≡ w'.bytes.now → at' ≡ w'.at → Wrote ws out at out' at'
lent_wrote {ws} {w} {w'} b p h e q = rw (← b, ← p, e, q) h.wrote
