-- The column table: 1,280 column numbers, and the same as bytes. Assumes nothing.
use Rattle.std.specs.Prelude.{Result, Ok, Err, ⊤, not, List, [], ◌∷◌, ℕ, zero, suc, ◌+◌, ◌*◌, ◌/◌, ◌%◌, ◌^◌, eqb, ltb, length}
use Rattle.numbers.specs.declared.Refusal.{Refusal}
use Rattle.numbers.specs.Numbers.{first, when_done}
use Rattle.numbers.specs.Refusals.{refusal_number}

-- the list of n entries whose entry k is f k
unfoldable pub table : ℕ → (ℕ → ℕ) → List ℕ
table zero f = []
table (suc n) f = f zero ∷ table n (λ k. f (suc k))

-- 01, Memory: entry x of the column table is 1024 × ((x mod 160) div 80) + 128 × (x div 160) + x mod 80
unfoldable pub column_entry : ℕ → ℕ
column_entry x = 1024 * (x % 160 / 80) + 128 * (x / 160) + x % 80

-- 01, Memory: the library holds a constant table of 1,280 column numbers
unfoldable pub column_table : List ℕ
column_table = table 1280 column_entry

-- 01, Memory: an x of 1280 or more gives 8
unfoldable pub column_number : ℕ → ℕ
column_number x = first ((8, not (ltb x 1280)) ∷ [])

-- 01, Memory: and entry 0
unfoldable pub entry_given : ℕ → ℕ
entry_given x = when_done (column_number x) (column_entry x) 0

-- a number, and an entry
pub record ColumnGiven : Type 0 where
  pub number : ℕ
  pub entry : ℕ

unfoldable pub column_given : ℕ → ColumnGiven
column_given x = record { number = column_number x; entry = entry_given x }

-- 01, Expected form: an enum, and this paper's number and values for each of its cases
abbrev pub found_given : Result ℕ Refusal → ColumnGiven
found_given (Ok entry) = record { number = 0; entry = entry }
found_given (Err refusal) = record { number = refusal_number refusal; entry = 0 }

-- ---- 01, Memory: the C drawing program indexes columns: the table in its own buffer, 1,280 entries of 16 bits, the lower byte first

-- byte j of the buffer: of entry j / 2, its byte j % 2
unfoldable pub column_byte : ℕ → ℕ
column_byte j = column_entry (j / 2) / 256 ^ (j % 2) % 256

unfoldable pub column_bytes : List ℕ
column_bytes = table 2560 column_byte

-- a buffer of another length gives 4
unfoldable pub columns_number : ℕ → ℕ
columns_number len = first ((4, not (eqb len 2560)) ∷ [])

-- and stays as it is
unfoldable pub columns_left : List ℕ → List ℕ
columns_left buffer = when_done (columns_number (length buffer)) column_bytes buffer

-- 01, Expected form: an enum, and this paper's number for each of its cases
abbrev pub filled_number : Result ⊤ Refusal → ℕ
filled_number (Ok done) = 0
filled_number (Err refusal) = refusal_number refusal
