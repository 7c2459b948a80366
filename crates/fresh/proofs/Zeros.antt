-- The record of zeros that the derived `Default` makes. Assumes nothing.
use mathlib.Core.Path.{◌≡◌, refl}
use Rattle.plant.proofs.Zeros.{Zeros, Zeroed, zeros, is_no_plant}
use Rattle.rules.specs.declared.Monitor.{Monitor}
use Rattle.test20.specs.Zeros.{zero_monitor}

module _ (m : Monitor) where
  pub is_zero_monitor : Zeroed m.plant × Zeros m.levels 1024 × Zeros m.running 8 × Zeros m.chosen 64 → m ≡ zero_monitor
  is_zero_monitor (p, a, b, c) = rw (is_no_plant m.plant p, zeros a, zeros b, zeros c) refl
