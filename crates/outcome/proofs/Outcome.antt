-- A run from the fresh monitor, and the list of the rights held at its end, are the outcome that the history gives. Assumes nothing.
use mathlib.Core.Path.{◌≡◌, sym, ap, ap₂, ◌∙◌}
use Prim.Native.Nat.{ℕ, ◌+◌, ◌-◌, ◌≤◌}
use mathlib.Core.Bool.{true}
use mathlib.Core.List.{List, [], ◌++◌}
use native.Mathlib.Omega.{arith}
use lib.ListN.{length, take, drop, length-take, length-drop}
use Rattle.base.specs.Overlay.{overlay}
use Rattle.base.proofs.Overlaid.{overlay_part, overlay_length}
use Rattle.base.proofs.Collected.{overlay_append}
use Rattle.plant.specs.declared.Plant.{Plant}
use Rattle.plant.specs.Checks.{plant_refusal, Sound}
use Rattle.plant.proofs.Sound.{sound_law}
use Rattle.rules.specs.declared.Monitor.{Monitor}
use Rattle.rules.specs.Rules.{Call, View}
use Rattle.rules.specs.Record.{fresh, view_of, intact, final}
use Rattle.rules.specs.Run.{runs, ends}
use Rattle.rules.specs.History.{history_view, history_answers, history}
use Rattle.rules.proofs.Agree.{fresh_agree, list_agree, list_replies}
use Rattle.calls.proofs.Served.{once, still_intact, runs_length}
use Rattle.listing.specs.Held.{HeldRight, rights_held, listing}
use Rattle.listing.specs.Work.{Known, list_bytes_in}
use Rattle.listing.proofs.Listed.{known, written_listing}
use Rattle.outcome.specs.Batch.{outcome}

module _ (P : Plant) (q : plant_refusal true true P ≡ 0) (cs : List Call) where
  sound : Sound P
  sound = (sound_law P).0 q

  pub same_answers : runs (fresh P) cs ≡ history_answers P [] cs
  same_answers = sym (once P q cs).same_answers ∙ list_replies P sound cs (fresh P) [] (fresh_agree P sound)

  same_views : (s : ℕ) → view_of P (final (fresh P) cs) s ≡ history_view P (history P [] cs) s
  same_views s = (list_agree P sound cs (fresh P) [] (fresh_agree P sound)).views s

  pub same_rights : rights_held P (view_of P (final (fresh P) cs)) ≡ rights_held P (history_view P (history P [] cs))
  same_rights = ap (rights_held P) (λ i s. same_views s i)

  outcome_is : (m : Monitor) → m ≡ ends (fresh P) cs → runs (fresh P) cs ++ listing (rights_held P (view_of P m)) ≡ outcome P cs
  unfolding outcome
  outcome_is m e =
      ap₂ (λ (l : List ℕ) (vs : ℕ → View). l ++ listing (rights_held P vs)) same_answers (ap (view_of P) (e ∙ sym (once P q cs).same_record))
      ∙ ap (λ (l : List HeldRight). history_answers P [] cs ++ listing l) same_rights

-- n calls were served, and this is the record after them
module _ (P : Plant) (q : plant_refusal true true P ≡ 0) (cs : List Call) {m : Monitor} (e : m ≡ ends (fresh P) cs) where
  own_plant : m.plant ≡ P
  unfolding fresh
  own_plant = ap (λ (x : Monitor). x.plant) e ∙ (once P q cs).same_plant

  i : intact m.plant m ≡ true
  i = still_intact P q cs e

  pub rights_known : Known m
  rights_known = known m i

  -- out₁ is the buffer with the answers in it
  module _ (out : List ℕ) {out₁ : List ℕ} {n : ℕ} (l : length cs ≡ n) (r : n + 577 ≤ length out) (h : out₁ ≡ overlay out 0 (runs (fresh P) cs)) where
    answered : length (runs (fresh P) cs) ≡ n
    answered = runs_length cs (fresh P) ∙ l

    as_long : length out₁ ≡ length out
    as_long = ap length h ∙ overlay_length out 0 (runs (fresh P) cs) (omega (arith, answered))

    pub room_left : 577 ≤ length (take (length out₁ - n) (drop n out₁))
    room_left = omega (arith, as_long, length-take (length out₁ - n) (drop n out₁), length-drop n out₁)

    -- ys is the rest of the buffer with the list of rights in it
    pub outcome_out : {ys : List ℕ} → ys ≡ overlay (take (length out₁ - n) (drop n out₁)) 0 (list_bytes_in m) → take n out₁ ++ (ys ++ drop (length out₁ - n) (drop n out₁)) ≡ overlay out 0 (outcome P cs)
    outcome_out {ys} w =
        let ws : List ℕ = list_bytes_in m in
        let answers : List ℕ = runs (fresh P) cs in
        let at : 0 + length answers ≡ n = omega (arith, answered) in
        overlay_part out₁ n ws ys (omega (arith, as_long)) w
        ∙ ap₂ (λ (l : List ℕ) (k : ℕ). overlay l k ws) h (sym at) ∙ overlay_append out 0 answers ws (omega (arith, answered))
        ∙ ap (λ (l : List ℕ). overlay out 0 (answers ++ l)) (written_listing m i)
        ∙ ap (overlay out 0) (ap (λ (p : Plant). answers ++ listing (rights_held p (view_of p m))) own_plant ∙ outcome_is P q cs m e)
