-- Demand 2: a well formed state stored and read back is the same state; and demand 1: a refusal changes no byte. As statements, proved in
-- proofs/ReadBack.antt. Assumes nothing.
use Rattle.std.specs.Prelude.{◌≡◌, ℕ, ◌^◌, ◌<◌, true, ◌≢◌, List, length, slice_index}
use Rattle.lists.specs.Words.{Bytes}
use Rattle.chip.specs.declared.Call.{Call}
use Rattle.chip.specs.declared.Chip.{Chip}
use Rattle.chip.specs.Video.{video_bytes}
use Rattle.chip.specs.State.{well_formed}
use Rattle.block.specs.Block.{pixel_bytes, encode, decode, well_formed_block}
use Rattle.block.specs.OnBlock.{block_given, block_after, block_memory}

-- ---- what every chip that code holds has by its types: each array its length, and each number its width

-- n numbers, each below m
pub record Listed (n m : ℕ) (l : List ℕ) : Type 0 where
  pub long : length l ≡ n
  pub fit : (j : ℕ) → slice_index l j < m

pub record Sized (chip : Chip) : Type 0 where
  pub pages_fit : chip.control.pages < 2 ^ 16
  pub banks : Listed 4 (2 ^ 16) chip.control.banks
  pub registers : Listed 7 (2 ^ 32) chip.control.registers
  pub counter_fits : chip.control.counter < 2 ^ 32
  pub tags : Listed 8 (2 ^ 32) chip.control.tags
  pub scan_fits : (chip.control.scan.counter < 2 ^ 16) × (chip.control.scan.select < 2 ^ 16)
  pub pixels_long : length chip.pixels ≡ pixel_bytes
  pub video_long : length chip.video ≡ video_bytes

-- ---- stored and read back

-- a chip's block is well formed exactly if the chip is, and read back it is that chip, well formed or not
unfoldable pub ChipReadBack : Type 0
ChipReadBack = (chip : Chip) → Sized chip → (well_formed_block (encode chip) ≡ well_formed chip.control) × (decode (encode chip) ≡ chip)

-- a well formed block read, and the chip stored again, is the same bytes
unfoldable pub BlockReadBack : Type 0
BlockReadBack = (s : List ℕ) → Bytes s → well_formed_block s ≡ true → encode (decode s) ≡ s

-- ---- 01, Numbers: a refusal changes nothing: no byte of the block, and none of memory

unfoldable pub RefusalChangesNoByte : Type 0
RefusalChangesNoByte = (s memory : List ℕ) (x : Call) → Bytes s → (block_given s memory x).number ≢ 0
    → (block_after s memory x ≡ s) × (block_memory s memory x ≡ memory)
