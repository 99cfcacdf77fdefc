-- 01, Numbers: the C door gives one 64-bit number. What each of its functions gives that the crates below do not say. Assumes nothing.
use Rattle.std.specs.Prelude.{List, ℕ, ◌+◌, ◌*◌, ◌^◌}
use Rattle.layout.specs.declared.Point.{Point}
use Rattle.numbers.specs.Numbers.{when_done}
use Rattle.layout.specs.Memory.{line_start}
use Rattle.layout.specs.Screen.{point_given}
use Rattle.columns.specs.Columns.{column_given, columns_number}
use Rattle.chip.specs.Answers.{valued, numbered, packed}
use Rattle.block.specs.Block.{decode_control}
use Rattle.block.specs.OnBlock.{fresh_block_number, block_line_number}

-- making a fresh chip
unfoldable pub fresh_packed : List ℕ → ℕ → ℕ
fresh_packed s P = packed (numbered (fresh_block_number s P))

-- a scan line's value is the offset of its 80 bytes in memory
unfoldable pub line_offset : List ℕ → List ℕ → ℕ → ℕ → ℕ → ℕ
line_offset s memory bank page line =
    let number = block_line_number s memory bank page line in
    packed (valued number (when_done number (line_start (decode_control s).pages bank page line) 0))

-- a point's value: bank in bits 31:28, page in 27:16, line in 15:8, column in 7:0
unfoldable pub point_value : Point → ℕ
point_value p = p.bank * 2 ^ 28 + p.page * 2 ^ 16 + p.line * 2 ^ 8 + p.column

unfoldable pub point_packed : ℕ → ℕ → ℕ → ℕ
point_packed P x y = let g = point_given P x y in packed (valued g.number (point_value g.point))

-- a column's value is the table's entry
unfoldable pub column_packed : ℕ → ℕ
column_packed x = let g = column_given x in packed (valued g.number g.entry)

-- filling a buffer of this length with the table
unfoldable pub columns_packed : ℕ → ℕ
columns_packed len = packed (numbered (columns_number len))
