-- `table::columns`: the constant table is that of the rule, entry by entry, by computation. Assumes nothing.
use mathlib.Core.Path.{refl}
use Rattle.columns.specs.Columns.{table, column_entry, column_table}
use Rattle.columns.proofs.table.columns.Goals as goal

pub returns : goal.returns
unfolding column_table table column_entry
returns c = refl
