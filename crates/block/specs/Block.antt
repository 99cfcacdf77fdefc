-- 01, Chip state, and 02, T-01: the stored state block, little endian, as its parts in a row. Assumes nothing.
use Rattle.std.specs.Prelude.{◌≡◌, ℕ, ◌+◌, ◌-◌, ◌*◌, ◌%◌, ◌^◌, Bool, true, false, ◌&&◌, List, [], ◌∷◌, ◌++◌, length, take, drop, ◌==◌}
use mathlib.Core.List.{flatten}
use Rattle.bits.specs.Bits.{bit, digit, within}
use Rattle.lists.specs.Words.{half_at, word_at, put_word, halves, words, halves_at, words_at}
use Rattle.chip.specs.declared.Control.{Control}
use Rattle.chip.specs.declared.Chip.{Chip}
use Rattle.chip.specs.Video.{video_bytes}
use Rattle.chip.specs.State.{well_formed}

-- ---- where each part lies

-- 01: the offsets 16, 24, 52, 60, 92 of banks, registers, flags and counter, tags, pixels
abbrev pub banks_at : ℕ
banks_at = 16

abbrev pub registers_at : ℕ
registers_at = 24

abbrev pub flags_at : ℕ
flags_at = 52

abbrev pub tags_at : ℕ
tags_at = 60

abbrev pub pixels_at : ℕ
pixels_at = 92

-- 01: a pixel buffer of 256 bytes
abbrev pub pixel_bytes : ℕ
pixel_bytes = 256

-- 02, T-01: video buffers, counter and select follow the pixels: 160 bytes, then two 16-bit numbers
abbrev pub video_at : ℕ
video_at = 348

abbrev pub scan_at : ℕ
scan_at = 508

-- 02, T-01: the header's last field, the whole length, is 512
abbrev pub block_bytes : ℕ
block_bytes = 512

-- a list of a block's length
abbrev pub IsBlock : List ℕ → Type 0
IsBlock s = length s ≡ block_bytes

-- 01: four 16-bit open pages; registers, flags, counter and tags are 32 bits each; registers are numbered from 1
abbrev pub page_at : ℕ → ℕ
page_at bank = banks_at + 2 * bank

abbrev pub register_at : ℕ → ℕ
register_at number = registers_at + 4 * (number - 1)

abbrev pub counter_at : ℕ
counter_at = flags_at + 4

abbrev pub tag_at : ℕ → ℕ
tag_at slot = tags_at + 4 * slot

abbrev pub select_at : ℕ
select_at = scan_at + 2

-- ---- the block written

-- 01: eight 16-bit header fields: P, 8 (slots), the offsets, and the whole length
unfoldable pub header : ℕ → List ℕ
header P = P ∷ 8 ∷ banks_at ∷ registers_at ∷ flags_at ∷ tags_at ∷ pixels_at ∷ block_bytes ∷ []

-- 01: flags (bit 0 picking, bit 1 hit, others 0)
unfoldable pub flags : Control → ℕ
flags c = digit c.picking + digit c.hit * 2

-- 01: the header, then four open pages, seven registers, flags and counter, eight tags
unfoldable pub control_parts : Control → List (List ℕ)
control_parts c =
    halves (header c.pages)
    ∷ halves c.banks
    ∷ words c.registers
    ∷ words (flags c ∷ c.counter ∷ [])
    ∷ words c.tags
    ∷ []

-- 01: then pixels; 02, T-01: then video buffers, counter and select
unfoldable pub parts : Chip → List (List ℕ)
parts chip =
    control_parts chip.control
    ++ (chip.pixels
    ∷ chip.video
    ∷ halves (chip.control.scan.counter ∷ chip.control.scan.select ∷ [])
    ∷ [])

unfoldable pub encode : Chip → List ℕ
encode chip = flatten (parts chip)

-- ---- the block read

-- 01: the same fields, each at its offset
unfoldable pub decode_control : List ℕ → Control
decode_control s = record {
  pages = half_at s 0;
  banks = halves_at 4 s banks_at;
  registers = words_at 7 s registers_at;
  picking = bit (word_at s flags_at) 0;
  hit = bit (word_at s flags_at) 1;
  counter = word_at s counter_at;
  tags = words_at 8 s tags_at;
  scan = record { counter = half_at s scan_at; select = half_at s select_at };
}

unfoldable pub pixels_in : List ℕ → List ℕ
pixels_in s = take pixel_bytes (drop pixels_at s)

unfoldable pub video_in : List ℕ → List ℕ
video_in s = take video_bytes (drop video_at s)

abbrev pub decode : List ℕ → Chip
decode s = record { control = decode_control s; pixels = pixels_in s; video = video_in s }

-- ---- the block changed in place

-- a slot's tag put
unfoldable pub put_tag : ℕ → ℕ → List ℕ → List ℕ
put_tag slot tag s = put_word (tag_at slot) tag s

-- 01, Calls: the counter adds one, and after FFFFFFFFh comes 0
unfoldable pub ticked_in : List ℕ → List ℕ
ticked_in s = put_word counter_at ((word_at s counter_at + 1) % 2 ^ 32) s

-- ---- which blocks are well formed

-- whether two lists are one
unfoldable pub same : List ℕ → List ℕ → Bool
same [] [] = true
same [] (y ∷ ys) = false
same (x ∷ xs) [] = false
same (x ∷ xs) (y ∷ ys) = x == y && same xs ys

-- 01: well formed exactly if P is 1 to 257, the other header fields have these values, each open page is below P or 65535, flags have no other
-- bit, and registers hold allowed bits; 02, T-01: and counter and select fit; 01, Numbers: and the block has its length
unfoldable pub well_formed_block : List ℕ → Bool
well_formed_block s =
    (length s == block_bytes)
    && same (halves_at 8 s 0) (header (half_at s 0))
    && within (word_at s flags_at) 3
    && well_formed (decode_control s)
