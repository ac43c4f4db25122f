-- What the states of a reader stand for. Assumes nothing.
use Rattle.std.specs.Prelude.{Some, None}
use Rattle.lines.specs.declared.reader.State.{State}
use Rattle.lines.specs.declared.reader.State.TheVariants.{Filling, Skipping, Ended}
use Rattle.lines.specs.Lines.{Reading, ended, filling, long, skipping, whole}

abbrev pub meant : State → Reading
meant (Filling l) = filling l.items
meant Skipping = skipping
meant (Ended (Some l)) = ended (whole l.items)
meant (Ended None) = ended long
