-- `columns::entries::fill`, by the loop's invariant: the first two bytes for each entry passed are the table's. Assumes nothing.
use mathlib.Core.Path.{◌≡◌}
use Prim.Native.Nat.{ℕ, ◌*◌, ◌<◌}
use lib.ListN.{get_or}
use Rattle.columns.specs.Columns.{column_byte}
use Rattle.columns.proofs.entries.fill.Given as goal

abbrev pub invariant-loop-x : goal.invariant-loop-x
invariant-loop-x l = (j : ℕ) → j < 2 * l.x → get_or l.buffer j 0 ≡ column_byte j
