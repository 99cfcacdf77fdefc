-- What is read of a block of each length: document 01's 348 bytes, the newest, and no other. Assumes nothing.
use mathlib.Core.Path.{◌≡◌, refl, sym, ap, ◌∙◌}
use mathlib.Core.Bool.{Bool, true, false, ◌&&◌, and-true, and-false, and_assoc}
use mathlib.Core.List.{List, [], ◌∷◌, ◌++◌}
use Prim.Native.Nat.{ℕ, ◌+◌, ◌<◌, ◌≤◌}
use native.Mathlib.Nat.{add_assoc}
use native.Mathlib.Omega.{arith}
use lib.Dec.{eqb}
use lib.ListN.{length, get_or, set, take, drop}
use lib.Seq.{get_or-drop, take-append_seam}
use borrow.Author.Tests.{ne_eqb}
use Rattle.bits.specs.Bits.{bit, byte, within}
use Rattle.lists.specs.Words.{half_at, word_at, numbers_at, bytes_from, as_bytes, halves, halves_at}
use Rattle.chip.specs.Video.{fresh_video, fresh_scan, video_bytes}
use Rattle.chip.specs.State.{well_formed}
use Rattle.block.specs.Block.{banks_at, registers_at, flags_at, counter_at, tags_at, pixels_at, pixel_bytes, scan_at, select_at, block_bytes, header, decode_control, pixels_in, video_in, decode, same, well_formed_block}
use Rattle.block.proofs.RoundTrip.{well_parts}
use Rattle.hosts.specs.Grown.{base_bytes, fresh_display, length_at, longer, grown, says_length, readable, base_chip, well_formed_base, BaseIsRead, NewestIsRead, NoOtherIsRead}
use Rattle.hosts.proofs.SameBytes.{half_same, word_same, halves_same, words_same, part_same}
use Rattle.hosts.proofs.Longer.{length_longer, longer_front, longer_behind, longer_says}
use Rattle.hosts.proofs.Growing.{fresh_long, grown_base, grown_other}

-- ---- the header's last field

-- lists that end in one number more
same_last : (xs ys : List ℕ) (x y : ℕ) → length xs ≡ length ys → same (xs ++ (x ∷ [])) (ys ++ (y ∷ [])) ≡ (same xs ys && eqb x y)
unfolding same
same_last [] [] x y e = and-true (eqb x y)
same_last [] (b ∷ ys) x y e = absurd (omega arith)
same_last (a ∷ xs) [] x y e = absurd (omega arith)
same_last (a ∷ xs) (b ∷ ys) x y e = rw (same_last xs ys x y (omega arith)) (sym (and_assoc (eqb a b) (same xs ys) (eqb x y)))

-- a header with this last field
header_says : (s : List ℕ) (n : ℕ) → same (halves_at 8 s 0) (set (header (half_at s 0)) 7 n)
    ≡ (same (halves_at 7 s 0) (take 7 (header (half_at s 0))) && eqb (half_at s length_at) n)
unfolding header numbers_at
header_says s n = same_last (halves_at 7 s 0) (take 7 (header (half_at s 0))) (half_at s length_at) n refl

header_newest : (s : List ℕ) → same (halves_at 8 s 0) (header (half_at s 0))
    ≡ (same (halves_at 7 s 0) (take 7 (header (half_at s 0))) && eqb (half_at s length_at) block_bytes)
unfolding header
header_newest s = header_says s block_bytes

regroup : (said headed flagged well : Bool) → (said && (true && (headed && true) && flagged && well)) ≡ (headed && said && flagged && well)
regroup true headed flagged well = refl
regroup false true flagged well = refl
regroup false false flagged well = refl

-- a number in a part
half_part : (n k : ℕ) (s : List ℕ) → half_at (drop n s) k ≡ half_at s (n + k)
unfolding half_at
half_part n k s = simp (get_or-drop, add_assoc)

-- ---- 348 bytes

module _ (s : List ℕ) (e : length s ≡ base_bytes) where
  abbrev t : List ℕ
  t = longer fresh_display s

  front : (k : ℕ) → 0 ≤ k → k < 14 → get_or t k 0 ≡ get_or s k 0
  front k l h = longer_front fresh_display s k (omega arith) (omega arith) (omega arith)

  behind : (k : ℕ) → 16 ≤ k → k < base_bytes → get_or t k 0 ≡ get_or s k 0
  behind k l h = longer_front fresh_display s k (omega arith) (omega arith) (omega arith)

  filled_in : drop base_bytes t ≡ fresh_display
  filled_in = rw (← e) (longer_behind fresh_display s (omega arith))

  -- the display's numbers, behind the 160 bytes of its buffers
  scan_base : (half_at t scan_at ≡ 0) × (half_at t select_at ≡ 0)
  unfolding half_at fresh_video fresh_scan as_bytes bytes_from byte
  scan_base = (at 160, at 162)
    where
      at : (k : ℕ) → half_at t (base_bytes + k) ≡ half_at fresh_display k
      at k = sym (half_part base_bytes k t) ∙ ap (λ (l : List ℕ). half_at l k) filled_in

  video_base : video_in t ≡ fresh_video
  unfolding video_in fresh_video
  video_base = ap (take video_bytes) filled_in ∙ take-append_seam fresh_video (halves (fresh_scan.counter ∷ fresh_scan.select ∷ []))

  control_base : decode_control t ≡ (base_chip s).control
  unfolding decode_control fresh_scan
  control_base =
      let word : (p : ℕ) → 16 ≤ p → p + 4 ≤ base_bytes → word_at t p ≡ word_at s p = word_same t s 16 base_bytes behind in
      let flagged = word flags_at (omega arith) (omega arith) in
      λ i. record {
        pages = half_same t s 0 14 front 0 (omega arith) (omega arith) i;
        banks = halves_same t s 16 base_bytes behind 4 banks_at (omega arith) (omega arith) i;
        registers = words_same t s 16 base_bytes behind 7 registers_at (omega arith) (omega arith) i;
        picking = ap (λ (f : ℕ). bit f 0) flagged i;
        hit = ap (λ (f : ℕ). bit f 1) flagged i;
        counter = word counter_at (omega arith) (omega arith) i;
        tags = words_same t s 16 base_bytes behind 8 tags_at (omega arith) (omega arith) i;
        scan = record { counter = scan_base.0 i; select = scan_base.1 i };
      }

  long : length t ≡ block_bytes
  long = length_longer fresh_display s ∙ rw (e, fresh_long)

  pixels_base : pixels_in t ≡ pixels_in s
  unfolding pixels_in
  pixels_base = part_same t s 16 base_bytes behind pixel_bytes pixels_at (omega arith) (omega arith) (omega (arith, long)) (omega arith)

  chip_base : decode t ≡ base_chip s
  chip_base = λ i. record { control = control_base i; pixels = pixels_base i; video = video_base i }

  -- the header's last field, of the block and of the grown one
  said : half_at t length_at ≡ block_bytes
  said = longer_says fresh_display s (omega arith) (omega (arith, fresh_long)) ∙ rw (e, fresh_long)

  readable_base : readable s ≡ well_formed_base s
  unfolding readable well_formed_block well_formed_base
  readable_base =
      let seven = halves_same t s 0 14 front 7 0 (omega arith) (omega arith) in
      let pages = half_same t s 0 14 front 0 (omega arith) (omega arith) in
      let flagged = word_same t s 16 base_bytes behind flags_at (omega arith) (omega arith) in
      rw (grown_base s e, long, header_newest t, header_says s base_bytes, said, seven, pages, flagged, control_base, e)
      (regroup (eqb (half_at s length_at) base_bytes) (same (halves_at 7 s 0) (take 7 (header (half_at s 0)))) (within (word_at s flags_at) 3) (well_formed (base_chip s).control))

pub base_is_read : BaseIsRead
unfolding BaseIsRead
base_is_read s e = (readable_base s e, ap decode (grown_base s e) ∙ chip_base s e)

-- ---- the newest form

pub newest_is_read : NewestIsRead
unfolding NewestIsRead readable numbers_at header
newest_is_read s e =
    let stands : grown s ≡ s = grown_other s (λ q. absurd (omega arith)) in
    (rw (stands, e) (go (well_formed_block s) refl), stands)
  where
    go : (well : Bool) → well_formed_block s ≡ well → (eqb (half_at s length_at) block_bytes && well_formed_block s) ≡ well_formed_block s
    go true w = let said : half_at s length_at ≡ block_bytes = ap (λ (l : List ℕ). get_or l 7 0) (well_parts s w).1 in rw (said)
    go false w = rw w (and-false (eqb (half_at s length_at) block_bytes))

-- ---- no other

pub no_other_is_read : NoOtherIsRead
unfolding NoOtherIsRead readable well_formed_block
no_other_is_read s f g = rw (grown_other s f, ne_eqb (length s) block_bytes g) (and-false (says_length s))

-- ---- the tests, as code makes them

pub readable_tested : (s : List ℕ) → readable s ≡ (says_length s && eqb (length (grown s)) block_bytes && well_formed_block (grown s))
unfolding readable well_formed_block
readable_tested s = twice (says_length s) (eqb (length (grown s)) block_bytes) _ _ _
  where
    twice : (a b c d e : Bool) → (a && (b && c && d && e)) ≡ (a && b && (b && c && d && e))
    twice true true c d e = refl
    twice true false c d e = refl
    twice false b c d e = refl
