-- The block's parts in a row: where each starts, and what is put in one changes that one alone. Offsets are tied to the parts here, once. Assumes nothing.
use Rattle.std.proofs.Common.{◌≡◌, ℕ, ◌+◌, ◌-◌, ◌*◌, ◌%◌, ◌^◌, ◌<◌, ◌≤◌, Bool, List, [], ◌∷◌, length, get_or, drop, refl, ap, ◌∙◌, arith, lit<, length-append}
use mathlib.Core.List.{flatten}
use Rattle.bits.specs.Bits.{digit}
use Rattle.lists.specs.Update.{update}
use Rattle.lists.specs.Words.{put_half, put_word, halves}
use Rattle.lists.proofs.Seams.{start_of, put_in, start_long, split_at}
use Rattle.lists.specs.Laws.{length_row}
use Rattle.lists.proofs.Rows.{half_put_in, word_put_in}
use Rattle.chip.specs.declared.Control.{Control}
use Rattle.chip.specs.declared.Chip.{Chip}
use Rattle.chip.specs.Changes.{with_page, with_tag, with_flags, with_stored, with_scan, ticked}
use Rattle.block.specs.Block.{banks_at, registers_at, flags_at, tags_at, pixels_at, video_at, scan_at, select_at, block_bytes, page_at, register_at, counter_at, tag_at, header, flags, control_parts, parts, encode, put_tag}
use Rattle.block.specs.Kept.{Sized}

-- this chip with another control part
abbrev pub under : Chip → Control → Chip
under chip c = record { control = c; pixels = chip.pixels; video = chip.video }

-- with other pixels, or other video buffers
abbrev pub with_pixels : Chip → List ℕ → Chip
with_pixels chip pixels = record { control = chip.control; pixels = pixels; video = chip.video }

abbrev pub with_video : Chip → List ℕ → Chip
with_video chip video = record { control = chip.control; pixels = chip.pixels; video = video }

-- counter and select as two numbers in a row
abbrev pub scan_row : Control → List ℕ
scan_row c = c.scan.counter ∷ c.scan.select ∷ []

module _ (chip : Chip) (z : Sized chip) where
  abbrev c : Control
  c = chip.control

  -- where each part starts
  pub starts : (start_of 1 (parts chip) ≡ banks_at) × (start_of 2 (parts chip) ≡ registers_at) × (start_of 3 (parts chip) ≡ flags_at)
      × (start_of 4 (parts chip) ≡ tags_at) × (start_of 5 (parts chip) ≡ pixels_at) × (start_of 6 (parts chip) ≡ video_at) × (start_of 7 (parts chip) ≡ scan_at)
  unfolding start_of parts control_parts header
  starts =
      let h = length_row 2 (header c.pages) in
      let b = length_row 2 c.banks in
      let r = length_row 4 c.registers in
      let f = length_row 4 (flags c ∷ c.counter ∷ []) in
      let t = length_row 4 c.tags in
      let b4 = z.banks.long in
      let r7 = z.registers.long in
      let t8 = z.tags.long in
      let p = z.pixels_long in
      let v = z.video_long in
      (omega arith, omega arith, omega arith, omega arith, omega arith, omega arith, omega arith)

  -- and how long they are together
  pub length_encode : length (encode chip) ≡ block_bytes
  unfolding encode
  length_encode =
      let last : length (parts chip) ≡ 8 = unfold parts control_parts in refl in
      let here : get_or (parts chip) 7 [] ≡ halves (scan_row c) = unfold parts control_parts in refl in
      let none : flatten (drop 8 (parts chip)) ≡ [] = unfold parts control_parts flatten in refl in
      ap length (split_at 7 (parts chip) (omega arith))
      ∙ rw (length-append, length-append, start_long 7 (parts chip) (omega arith), starts.6, here, none, length_row 2 (scan_row c))

  -- ---- one put

  pub page_put : (b p : ℕ) → b < 4 → put_half (page_at b) p (encode chip) ≡ encode (under chip (with_page c b p))
  unfolding encode parts control_parts flags
  page_put b p hb = half_put_in 1 (parts chip) (lit< tt) c.banks refl b p (page_at b) (rw z.banks.long hb) (rw starts.0)

  pub register_put : (n v : ℕ) → 1 ≤ n → n ≤ 7 → put_word (register_at n) v (encode chip) ≡ encode (under chip (with_stored c n v))
  unfolding encode parts control_parts flags
  register_put n v l h = word_put_in 2 (parts chip) (lit< tt) c.registers refl (n - 1) v (register_at n) (rw z.registers.long (omega arith)) (rw starts.1)

  pub flags_put : (p k : Bool) → put_word flags_at (digit p + digit k * 2) (encode chip) ≡ encode (under chip (with_flags c p k))
  unfolding encode parts control_parts flags
  flags_put p k = word_put_in 3 (parts chip) (lit< tt) (flags c ∷ c.counter ∷ []) refl 0 (digit p + digit k * 2) flags_at (lit< tt) (rw starts.2)

  pub counter_put : put_word counter_at ((c.counter + 1) % 2 ^ 32) (encode chip) ≡ encode (under chip (ticked c))
  unfolding encode parts control_parts flags ticked
  counter_put = word_put_in 3 (parts chip) (lit< tt) (flags c ∷ c.counter ∷ []) refl 1 ((c.counter + 1) % 2 ^ 32) counter_at (lit< tt) (rw starts.2)

  pub tag_put : (s t : ℕ) → s < 8 → put_tag s t (encode chip) ≡ encode (under chip (with_tag c s t))
  unfolding encode parts control_parts flags put_tag
  tag_put s t hs = word_put_in 4 (parts chip) (lit< tt) c.tags refl s t (tag_at s) (rw z.tags.long hs) (rw starts.3)

  pub pixels_put : (n : ℕ) (at : ℕ → ℕ) (v : ℕ → ℕ → ℕ) → ((i : ℕ) → i < n → at i < 256)
      → update n (λ i. pixels_at + at i) v (encode chip) ≡ encode (with_pixels chip (update n at v chip.pixels))
  unfolding encode parts control_parts
  pixels_put n at v h = rw (← starts.4) (put_in 5 (parts chip) (lit< tt) n at v (λ i hi. rw z.pixels_long (h i hi)))

  pub video_put : (n : ℕ) (at : ℕ → ℕ) (v : ℕ → ℕ → ℕ) → ((i : ℕ) → i < n → at i < 160)
      → update n (λ i. video_at + at i) v (encode chip) ≡ encode (with_video chip (update n at v chip.video))
  unfolding encode parts control_parts
  video_put n at v h = rw (← starts.5) (put_in 6 (parts chip) (lit< tt) n at v (λ i hi. rw z.video_long (h i hi)))

  pub scan_counter_put : (k : ℕ) → put_half scan_at k (encode chip) ≡ encode (under chip (with_scan c (record { counter = k; select = c.scan.select })))
  unfolding encode parts control_parts flags
  scan_counter_put k = half_put_in 7 (parts chip) (lit< tt) (scan_row c) refl 0 k scan_at (lit< tt) (rw starts.6)

  pub scan_select_put : (k : ℕ) → put_half select_at k (encode chip) ≡ encode (under chip (with_scan c (record { counter = c.scan.counter; select = k })))
  unfolding encode parts control_parts flags
  scan_select_put k = half_put_in 7 (parts chip) (lit< tt) (scan_row c) refl 1 k select_at (lit< tt) (rw starts.6)
