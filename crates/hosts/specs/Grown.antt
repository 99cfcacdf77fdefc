-- 02, T-01: blocks of older forms, which hosts still read: each is grown to the newest form, and then read as one of that. The C door takes
-- the newest alone. Assumes nothing.
use Rattle.std.specs.Prelude.{◌≡◌, ◌≢◌, Bool, false, cond, ◌&&◌, List, [], ◌∷◌, ◌++◌, ℕ, eqb, length, set}
use Rattle.bits.specs.Bits.{within}
use Rattle.lists.specs.Words.{half_at, put_half, word_at, halves, halves_at}
use Rattle.chip.specs.declared.Chip.{Chip}
use Rattle.chip.specs.Video.{fresh_video, fresh_scan}
use Rattle.chip.specs.State.{well_formed}
use Rattle.chip.specs.Changes.{with_scan}
use Rattle.block.specs.Block.{flags_at, block_bytes, header, decode_control, pixels_in, decode, same, well_formed_block}

-- ---- the growths, oldest first

-- 02: how long blocks were before a part was added to them, and what is filled in for it
pub record Growth : Type 0 where
  pub bytes : ℕ
  pub filled : List ℕ → List ℕ

-- 01, Chip state: 348 bytes in all
abbrev pub base_bytes : ℕ
base_bytes = 348

-- 02, T-01: buffers, counter and select, as they start
abbrev pub fresh_display : List ℕ
fresh_display = fresh_video ++ halves (fresh_scan.counter ∷ fresh_scan.select ∷ [])

-- 02: a row for each request that adds to the stored form
unfoldable pub growths : List Growth
growths =
    -- 02, T-01: a 348-byte block is still read, with fresh values here
    record { bytes = base_bytes; filled = λ s. fresh_display }
    ∷ []

-- ---- a block grown

-- 01, Chip state: where the header says the whole length, in its last field
abbrev pub length_at : ℕ
length_at = 14

-- 02: a block gains bytes after its last part, and its header's last field says so
unfoldable pub longer : List ℕ → List ℕ → List ℕ
longer more s = put_half length_at (length (s ++ more)) (s ++ more)

-- by one growth, where it is as long as blocks were before it
unfoldable pub grown_by : Growth → List ℕ → List ℕ
grown_by g s = cond (eqb (length s) g.bytes) (longer (g.filled s) s) s

-- by each in turn
unfoldable pub grown_through : List Growth → List ℕ → List ℕ
grown_through [] s = s
grown_through (g ∷ gs) s = grown_through gs (grown_by g s)

-- to the newest form
unfoldable pub grown : List ℕ → List ℕ
grown s = grown_through growths s

-- 01, Chip state: whether a block says its own length
abbrev pub says_length : List ℕ → Bool
says_length s = eqb (half_at s length_at) (length s)

-- 02, T-01: a block is read exactly if it says its own length and, grown, is well formed
unfoldable pub readable : List ℕ → Bool
readable s = says_length s && well_formed_block (grown s)

-- ---- what is read of each length, as statements. Proved in proofs/OlderRead.antt

-- 01, Chip state: the chip of a 348-byte block; 02, T-01: with fresh values
abbrev pub base_chip : List ℕ → Chip
base_chip s = record { control = with_scan (decode_control s) fresh_scan; pixels = pixels_in s; video = fresh_video }

-- 01, Chip state: whether such a block is well formed: its header's last field is 348, and all else is as now
unfoldable pub well_formed_base : List ℕ → Bool
well_formed_base s =
    same (halves_at 8 s 0) (set (header (half_at s 0)) 7 base_bytes)
    && within (word_at s flags_at) 3
    && well_formed (base_chip s).control

-- 02, T-01: a 348-byte block is still read, with fresh values here
unfoldable pub BaseIsRead : Type 0
BaseIsRead = (s : List ℕ) → length s ≡ base_bytes → (readable s ≡ well_formed_base s) × (decode (grown s) ≡ base_chip s)

-- 02, T-01: a block of the newest length is read as it stands
unfoldable pub NewestIsRead : Type 0
NewestIsRead = (s : List ℕ) → length s ≡ block_bytes → (readable s ≡ well_formed_block s) × (grown s ≡ s)

-- 01, Numbers, 1: and one of any other length is not read
unfoldable pub NoOtherIsRead : Type 0
NoOtherIsRead = (s : List ℕ) → length s ≢ base_bytes → length s ≢ block_bytes → readable s ≡ false
