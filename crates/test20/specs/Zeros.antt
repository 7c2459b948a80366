-- The record of zeros, which a refused opening hands back.
use Rattle.std.specs.Prelude.{replicate}
use Rattle.plant.specs.Plant.{no_plant}
use Rattle.rules.specs.declared.Monitor.{Monitor}
use Rattle.rules.specs.Record.{record_of}

abbrev pub zero_monitor : Monitor
zero_monitor = record_of no_plant (replicate 1024 0) (replicate 8 0) (replicate 64 0)
