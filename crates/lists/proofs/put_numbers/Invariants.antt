-- `lists::put_numbers`, by the loop's invariant: the first i numbers are stored. Assumes nothing.
use Rattle.std.proofs.Common.{◌≡◌, ◌≤◌, length, take}
use Rattle.std.proofs.lemmas.List.Edits.{sets}
use Rattle.lists.proofs.put_numbers.Given as goal

abbrev pub invariant-loop-i : goal.invariant-loop-i
invariant-loop-i g l = record { in_range : l.i ≤ length l.row; stored : l.s ≡ sets l.initial.s l.at (g.N.LittleEndian.bytes (take l.i l.row)) }
