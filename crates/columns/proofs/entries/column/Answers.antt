-- `columns::entries::column`: the table's entry for x is the rule's. Assumes nothing.
use Prim.Native.Nat.{◌<◌}
use native.Mathlib.Omega.{arith}
use borrow.Author.Tests.{lt-ltb, le-ltb}
use Rattle.numbers.specs.Numbers.{first}
use Rattle.columns.specs.Columns.{column_entry, column_table, column_number, entry_given, column_given}
use Rattle.columns.proofs.Tables.{get_or_table}
use Rattle.columns.proofs.entries.column.Goals as goal

pub returns-then-x-ge-WIDTH : goal.returns-then-x-ge-WIDTH
unfolding column_given entry_given column_number first
returns-then-x-ge-WIDTH c = rw (le-ltb c.args.x 1280 (omega arith))

pub returns : goal.returns
unfolding column_given entry_given column_number first column_table
returns c =
    let x = c.args.x in
    let on : x < 1280 = omega arith in
    rw (c.columns-entries.ensures, get_or_table 1280 column_entry x on, lt-ltb x 1280 on)
