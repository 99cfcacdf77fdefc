-- A call, a fresh chip and a scan line over a stored block: what the C door gives and leaves. Assumes nothing.
use Rattle.std.specs.Prelude.{ℕ, cond, not, List, [], ◌∷◌, length, ◌==◌}
use Rattle.numbers.specs.Numbers.{first, when_done}
use Rattle.layout.specs.Memory.{pages_fit}
use Rattle.chip.specs.declared.Call.{Call}
use Rattle.chip.specs.State.{fresh_of}
use Rattle.chip.specs.Answers.{GivenBack, numbered, packed}
use Rattle.chip.specs.Refusals.{scan_line_number}
use Rattle.chip.specs.Calls.{call_given, chip_of, memory_of}
use Rattle.block.specs.Block.{block_bytes, encode, decode, well_formed_block}

-- 01, Numbers, 1: block not of its length, or state not well formed; else what the call gives back
unfoldable pub block_given : List ℕ → List ℕ → Call → GivenBack
block_given s memory x = cond (well_formed_block s) (call_given (decode s) memory x) (numbered 1)

-- 01, Numbers: the C door gives one 64-bit number
unfoldable pub call_number : List ℕ → List ℕ → Call → ℕ
call_number s memory x = packed (block_given s memory x)

-- the state block after a call. (A refused call leaves the chip, and so the block: law `encode_decode`)
unfoldable pub block_after : List ℕ → List ℕ → Call → List ℕ
block_after s memory x = cond (well_formed_block s) (encode (chip_of (decode s) memory x)) s

-- the memory after a call
unfoldable pub block_memory : List ℕ → List ℕ → Call → List ℕ
block_memory s memory x = cond (well_formed_block s) (memory_of (decode s) memory x) memory

-- 01, Numbers: making a fresh chip: 1, block not of its length, whatever it holds; 4, P outside 1 to 257
unfoldable pub fresh_block_number : List ℕ → ℕ → ℕ
fresh_block_number s P = first ((1, not (length s == block_bytes)) ∷ (4, not (pages_fit P)) ∷ [])

unfoldable pub fresh_block : List ℕ → ℕ → List ℕ
fresh_block s P = when_done (fresh_block_number s P) (encode (fresh_of P)) s

-- 01, Numbers: a refused scan line (1, 2, or 4 for bank, page or line), its number given by a call beside it
unfoldable pub block_line_number : List ℕ → List ℕ → ℕ → ℕ → ℕ → ℕ
block_line_number s memory bank page line = cond (well_formed_block s) (scan_line_number (decode s).control (length memory) bank page line) 1
