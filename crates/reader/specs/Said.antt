-- What the reader's outcome says of a file, as opening's reading of it.
use Rattle.std.specs.Prelude.{Result, Ok, Err}
use Rattle.refusal.specs.declared.Refusal.{Refusal}
use Rattle.refusal.specs.Number.{number_of}
use Rattle.plant.specs.declared.Checked.{Checked}
use Rattle.opening.specs.Reading.{Reading, refused_with}

-- A refusal has no plant of its own, and stands for a plant of zeros.
abbrev pub said_by : Result Checked Refusal → Reading
said_by (Ok checked) = record { answer = 0; plant = checked.plant }
said_by (Err refusal) = refused_with (number_of refusal)
