-- A chip written and read is that chip, and a well formed block read and written is that block: each by its parts in a row. Assumes nothing.
use Rattle.std.proofs.Common.{◌≡◌, ℕ, zero, suc, ◌+◌, ◌*◌, ◌%◌, ◌^◌, ◌<◌, Bool, true, false, ◌&&◌, eqb, List, [], ◌∷◌, length, get_or, take, drop, sym, refl, ap, ◌∙◌, ap₂, lt_trans, mod-eq_of_lt, arith, lit<, length-drop, length-take-le, eq-eqb, eqb-true}
use mathlib.Core.Bool.{false≢true}
use mathlib.Core.List.{flatten}
use lib.Bits.{bit_and, and_mask}
use Rattle.bits.specs.Bits.{bit, digit, within}
use Rattle.numbers.proofs.Tests.{and_left, and_right}
use Rattle.lists.specs.Words.{Bytes, half_at, word_at, numbers_at, halves, words, halves_at, words_at}
use Rattle.lists.proofs.Seams.{start_of, part_in, cut, total, cut_whole}
use Rattle.lists.proofs.Words.{half_at_lt, word_at_lt}
use Rattle.lists.proofs.Entries.{entry_holds}
use Rattle.lists.proofs.Rows.{length_row_at, halves_in, words_in, halves_back, words_back, halves_lt, words_lt}
use Rattle.chip.specs.declared.Control.{Control}
use Rattle.chip.specs.declared.Chip.{Chip}
use Rattle.chip.specs.Video.{video_bytes}
use Rattle.chip.specs.State.{well_formed}
use Rattle.block.specs.Block.{banks_at, registers_at, flags_at, tags_at, pixels_at, pixel_bytes, video_at, scan_at, select_at, block_bytes, IsBlock, counter_at, header, flags, control_parts, parts, encode, decode_control, pixels_in, video_in, decode, same, well_formed_block}
use Rattle.block.specs.Kept.{Sized}
use Rattle.block.proofs.Parts.{scan_row, starts, length_encode}

-- ---- the flags' word

pub flags_four : (p h : Bool) → digit p + digit h * 2 < 4
flags_four true true = lit< tt
flags_four true false = lit< tt
flags_four false true = lit< tt
flags_four false false = lit< tt

pub flag_0 : (p h : Bool) → bit (digit p + digit h * 2) 0 ≡ p
unfolding bit
flag_0 true true = refl
flag_0 true false = refl
flag_0 false true = refl
flag_0 false false = refl

pub flag_1 : (p h : Bool) → bit (digit p + digit h * 2) 1 ≡ h
unfolding bit
flag_1 true true = refl
flag_1 true false = refl
flag_1 false true = refl
flag_1 false false = refl

flags_within : (c : Control) → within (flags c) 3 ≡ true
unfolding flags within
flags_within c = eq-eqb _ _ (and_mask (flags c) 2 ∙ mod-eq_of_lt (flags_four c.picking c.hit))

same_self : (xs : List ℕ) → same xs xs ≡ true
unfolding same
same_self [] = refl
same_self (x ∷ xs) = rw (eq-eqb x x refl, same_self xs)

-- ---- a chip

module _ (chip : Chip) (z : Sized chip) where
  abbrev c : Control
  c = chip.control

  -- each field of the header is of 16 bits
  header_fits : (j : ℕ) → get_or (header c.pages) j 0 < 2 ^ 16
  unfolding header
  header_fits j = entry_holds (λ (x : ℕ). x < 2 ^ 16) (header c.pages) j 0 (lit< tt)
      (z.pages_fit, (lit< tt, (lit< tt, (lit< tt, (lit< tt, (lit< tt, (lit< tt, (lit< tt, tt))))))))

  flags_fit : (j : ℕ) → get_or (flags c ∷ c.counter ∷ []) j 0 < 2 ^ 32
  unfolding flags
  flags_fit j = entry_holds (λ (x : ℕ). x < 2 ^ 32) (flags c ∷ c.counter ∷ []) j 0 (lit< tt)
      (lt_trans (flags_four c.picking c.hit) (lit< tt), (z.counter_fits, tt))

  -- each part, read from its place
  header_back : halves_at 8 (encode chip) 0 ≡ header c.pages
  unfolding encode parts control_parts header start_of
  header_back = halves_in 0 (parts chip) (lit< tt) (header c.pages) refl 0 8 refl refl header_fits

  banks_back : halves_at 4 (encode chip) banks_at ≡ c.banks
  unfolding encode parts control_parts
  banks_back = halves_in 1 (parts chip) (lit< tt) c.banks refl banks_at 4 (starts chip z).0 z.banks.long z.banks.fit

  registers_back : words_at 7 (encode chip) registers_at ≡ c.registers
  unfolding encode parts control_parts
  registers_back = words_in 2 (parts chip) (lit< tt) c.registers refl registers_at 7 (starts chip z).1 z.registers.long z.registers.fit

  flags_back : words_at 2 (encode chip) flags_at ≡ flags c ∷ c.counter ∷ []
  unfolding encode parts control_parts
  flags_back = words_in 3 (parts chip) (lit< tt) (flags c ∷ c.counter ∷ []) refl flags_at 2 (starts chip z).2 refl flags_fit

  tags_back : words_at 8 (encode chip) tags_at ≡ c.tags
  unfolding encode parts control_parts
  tags_back = words_in 4 (parts chip) (lit< tt) c.tags refl tags_at 8 (starts chip z).3 z.tags.long z.tags.fit

  pixels_back : pixels_in (encode chip) ≡ chip.pixels
  unfolding encode parts control_parts pixels_in
  pixels_back = part_in 5 (parts chip) (lit< tt) pixels_at pixel_bytes (starts chip z).4 z.pixels_long

  video_back : video_in (encode chip) ≡ chip.video
  unfolding encode parts control_parts video_in
  video_back = part_in 6 (parts chip) (lit< tt) video_at video_bytes (starts chip z).5 z.video_long

  scan_back : halves_at 2 (encode chip) scan_at ≡ scan_row c
  unfolding encode parts control_parts
  scan_back = halves_in 7 (parts chip) (lit< tt) (scan_row c) refl scan_at 2 (starts chip z).6 refl
      (λ j. entry_holds (λ (x : ℕ). x < 2 ^ 16) (scan_row c) j 0 (lit< tt) (z.scan_fits.0, (z.scan_fits.1, tt)))

  -- the first number of a row
  pages_half : half_at (encode chip) 0 ≡ c.pages
  unfolding numbers_at header
  pages_half = ap (λ (l : List ℕ). get_or l 0 0) header_back

  flags_word : word_at (encode chip) flags_at ≡ flags c
  unfolding numbers_at
  flags_word = ap (λ (l : List ℕ). get_or l 0 0) flags_back

  counter_word : word_at (encode chip) counter_at ≡ c.counter
  unfolding numbers_at
  counter_word = ap (λ (l : List ℕ). get_or l 1 0) flags_back

  scan_half : half_at (encode chip) scan_at ≡ c.scan.counter
  unfolding numbers_at
  scan_half = ap (λ (l : List ℕ). get_or l 0 0) scan_back

  select_half : half_at (encode chip) select_at ≡ c.scan.select
  unfolding numbers_at
  select_half = ap (λ (l : List ℕ). get_or l 1 0) scan_back

  pub control_read : decode_control (encode chip) ≡ c
  unfolding decode_control flags
  control_read = λ i. record {
    pages = pages_half i;
    banks = banks_back i;
    registers = registers_back i;
    picking = (ap (λ (f : ℕ). bit f 0) flags_word ∙ flag_0 c.picking c.hit) i;
    hit = (ap (λ (f : ℕ). bit f 1) flags_word ∙ flag_1 c.picking c.hit) i;
    counter = counter_word i;
    tags = tags_back i;
    scan = record { counter = scan_half i; select = select_half i };
  }

  pub decode_encode : decode (encode chip) ≡ chip
  decode_encode = λ i. record { control = control_read i; pixels = pixels_back i; video = video_back i }

  -- a chip is well formed exactly if its block is
  pub encoded_well : well_formed_block (encode chip) ≡ well_formed c
  unfolding well_formed_block
  encoded_well = rw (length_encode chip z, header_back, pages_half, same_self (header c.pages), flags_word, flags_within c, control_read)

-- ---- a block

-- how long each part is
abbrev widths : List ℕ
widths = 16 ∷ 8 ∷ 28 ∷ 8 ∷ 32 ∷ 256 ∷ 160 ∷ 4 ∷ []

same_is : (xs ys : List ℕ) → same xs ys ≡ true → xs ≡ ys
unfolding same
same_is [] [] e = refl
same_is [] (y ∷ ys) e = absurd (false≢true e)
same_is (x ∷ xs) [] e = absurd (false≢true e)
same_is (x ∷ xs) (y ∷ ys) e =
    ap₂ (λ (a : ℕ) (l : List ℕ). a ∷ l) (eqb-true x y (and_left (eqb x y) (same xs ys) e)) (same_is xs ys (and_right (eqb x y) (same xs ys) e))

-- flags with no other bit are their two bits
flags_two : (f : ℕ) → f < 4 → digit (bit f 0) + digit (bit f 1) * 2 ≡ f
unfolding bit
flags_two zero h = refl
flags_two (suc zero) h = refl
flags_two (suc (suc zero)) h = refl
flags_two (suc (suc (suc zero))) h = refl
flags_two (suc (suc (suc (suc f)))) h = absurd (omega arith)

within_3 : (f : ℕ) → within f 3 ≡ true → f < 4
unfolding within
within_3 f e = let q : f % 4 ≡ f = sym (and_mask f 2) ∙ eqb-true (bit_and f 3) f e in omega arith

-- what each part of the test says
pub well_parts : (s : List ℕ) → well_formed_block s ≡ true
    → IsBlock s × (halves_at 8 s 0 ≡ header (half_at s 0)) × (word_at s flags_at < 4) × (well_formed (decode_control s) ≡ true)
unfolding well_formed_block
well_parts s well =
    let long = eqb (length s) block_bytes in
    let headed = same (halves_at 8 s 0) (header (half_at s 0)) in
    let flagged = within (word_at s flags_at) 3 in
    let three = and_left (long && headed && flagged) (well_formed (decode_control s)) well in
    let two = and_left (long && headed) flagged three in (
      eqb-true (length s) block_bytes (and_left long headed two),
      same_is _ _ (and_right long headed two),
      within_3 (word_at s flags_at) (and_right (long && headed) flagged three),
      and_right (long && headed && flagged) (well_formed (decode_control s)) well,
    )

module _ (s : List ℕ) (bytes : Bytes s) where
  -- the chip that any block holds is sized
  pub decoded_sized : IsBlock s → Sized (decode s)
  unfolding decode_control pixels_in video_in
  decoded_sized long = record {
    pages_fit = half_at_lt s 0 bytes;
    banks = record { long = length_row_at 2 half_at 4 s banks_at; fit = halves_lt s bytes 4 banks_at };
    registers = record { long = length_row_at 4 word_at 7 s registers_at; fit = words_lt s bytes 7 registers_at };
    counter_fits = word_at_lt s counter_at bytes;
    tags = record { long = length_row_at 4 word_at 8 s tags_at; fit = words_lt s bytes 8 tags_at };
    scan_fits = (half_at_lt s scan_at bytes, half_at_lt s select_at bytes);
    pixels_long = length-take-le pixel_bytes (drop pixels_at s) (omega (arith, length-drop pixels_at s, long));
    video_long = length-take-le video_bytes (drop video_at s) (omega (arith, length-drop video_at s, long));
  }

  module _ (well : well_formed_block s ≡ true) where
    long : IsBlock s
    long = (well_parts s well).0

    -- each part written is the block cut at the parts' widths
    parts_back : parts (decode s) ≡ cut 0 widths s
    unfolding parts control_parts decode_control pixels_in video_in flags cut
    parts_back =
        let h = ap halves (sym (well_parts s well).1) ∙ halves_back s bytes 8 0 (omega (arith, long)) in
        let b = halves_back s bytes 4 banks_at (omega (arith, long)) in
        let r = words_back s bytes 7 registers_at (omega (arith, long)) in
        let two : words (word_at s flags_at ∷ word_at s counter_at ∷ []) ≡ take 8 (drop flags_at s) = unfold numbers_at in words_back s bytes 2 flags_at (omega (arith, long)) in
        let f = ap (λ (x : ℕ). words (x ∷ word_at s counter_at ∷ [])) (flags_two (word_at s flags_at) (well_parts s well).2) ∙ two in
        let t = words_back s bytes 8 tags_at (omega (arith, long)) in
        let v : halves (half_at s scan_at ∷ half_at s select_at ∷ []) ≡ take 4 (drop scan_at s) = unfold numbers_at in halves_back s bytes 2 scan_at (omega (arith, long)) in
        λ i. h i ∷ b i ∷ r i ∷ f i ∷ t i ∷ take 256 (drop 92 s) ∷ take 160 (drop 348 s) ∷ v i ∷ []

    -- a well formed block read and stored is the same bytes
    pub encode_decode : encode (decode s) ≡ s
    unfolding encode total
    encode_decode = ap flatten parts_back ∙ cut_whole widths s long
