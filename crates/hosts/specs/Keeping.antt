-- Demand 2 for hosts: a chip kept as a state block, and read back. Assumes nothing.
use Rattle.std.specs.Prelude.{Result, Ok, Err, ◌≡◌, not, ◌&&◌, List, [], ◌∷◌, ℕ, eqb, length}
use Rattle.numbers.specs.declared.Refusal.{Refusal}
use Rattle.numbers.specs.Numbers.{first, when_done}
use Rattle.numbers.specs.Refusals.{refusal_number}
use Rattle.lists.specs.Words.{Bytes}
use Rattle.chip.specs.declared.Chip.{Chip}
use Rattle.chip.specs.State.{well_formed}
use Rattle.block.specs.Block.{block_bytes, encode, decode}
use Rattle.block.specs.Kept.{Sized}
use Rattle.hosts.specs.Grown.{grown, readable}

-- 01, Numbers, 1: block not of its length, or state not well formed: here the state is the chip's, and the block is to be written
unfoldable pub keep_number : Chip → ℕ → ℕ
keep_number chip len = first ((1, not (eqb len block_bytes && well_formed chip.control)) ∷ [])

-- the block after it
unfoldable pub kept_block : Chip → List ℕ → List ℕ
kept_block chip s = when_done (keep_number chip (length s)) (encode chip) s

-- 01, Numbers, 1: of a block that is read; 02, T-01: or of an older one
unfoldable pub read_number : List ℕ → ℕ
read_number s = first ((1, not (readable s)) ∷ [])

-- the chip after it, where a chip is handed in
unfoldable pub read_chip : Chip → List ℕ → Chip
read_chip chip s = when_done (read_number s) (decode (grown s)) chip

-- 01, Expected form: an enum, and this paper's number for each of its cases
abbrev pub number_read : Result Chip Refusal → ℕ
number_read (Ok chip) = 0
number_read (Err refusal) = refusal_number refusal

-- ---- the round trips, as statements. Proved in proofs/KeptBack.antt

-- a chip that was kept is read back, whatever chip is handed in
unfoldable pub KeptIsRead : Type 0
KeptIsRead = (chip other : Chip) (s : List ℕ) → Sized chip → keep_number chip (length s) ≡ 0
    → (read_number (kept_block chip s) ≡ 0) × (read_chip other (kept_block chip s) ≡ chip)

-- a block that was read is kept again, in the newest form, over any block of its length
unfoldable pub ReadIsKept : Type 0
ReadIsKept = (other : Chip) (s over : List ℕ) → Bytes s → read_number s ≡ 0 → length over ≡ block_bytes
    → (keep_number (read_chip other s) (length over) ≡ 0) × (kept_block (read_chip other s) over ≡ grown s)
