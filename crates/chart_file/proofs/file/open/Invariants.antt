use Rattle.std.proofs.Common.{◌≡◌, ◌≤◌, length}
use Rattle.std.specs.Slice.Iter.{iter_rest}
use Rattle.lines.specs.Lines.{given as gives, lines}
use Rattle.chart_file.proofs.file.open.Given as goal

abbrev pub invariant-loop-b : goal.invariant-loop-b
invariant-loop-b l = (gives l.reader.reading (iter_rest l.bytes) ≡ lines l.input) × (length (iter_rest l.bytes) ≤ length l.input)

abbrev pub decreases-loop-b : goal.decreases-loop-b
decreases-loop-b l = length (iter_rest l.bytes)
