-- A block that stores a chip, changed in place: with one field put, it stores the chip with that part changed. Assumes nothing.
use Rattle.std.proofs.Common.{◌≡◌, ℕ, ◌+◌, ◌-◌, ◌*◌, ◌%◌, ◌^◌, ◌<◌, ◌≤◌, Bool, true, List, sym, ap, ◌∙◌, add_assoc, arith}
use Rattle.bits.specs.Bits.{byte, digit}
use Rattle.lists.specs.Update.{update}
use Rattle.lists.specs.Words.{Bytes, put_half, put_word}
use Rattle.lists.proofs.Updates.{length_update, update_at}
use Rattle.chip.specs.declared.Control.{Control}
use Rattle.chip.specs.declared.Chip.{Chip}
use Rattle.chip.specs.Changes.{with_page, with_tag, with_flags, with_stored, with_scan, ticked}
use Rattle.block.specs.Block.{page_at, register_at, flags_at, counter_at, pixels_at, video_at, scan_at, select_at, encode, decode_control, decode, put_tag, ticked_in, well_formed_block}
use Rattle.block.specs.Kept.{Sized}
use Rattle.block.proofs.Sized.{listed_set, resized, rescanned, rebuffered}
use Rattle.block.proofs.Parts.{under, with_pixels, with_video, page_put, register_put, flags_put, counter_put, tag_put, pixels_put, video_put, scan_counter_put, scan_select_put}
use Rattle.block.proofs.RoundTrip.{control_read, decoded_sized, encode_decode, well_parts}

-- the block of a sized chip
pub record Stores (s : List ℕ) (chip : Chip) : Type 0 where
  pub sized : Sized chip
  pub is : s ≡ encode chip

pub stores_of : (s : List ℕ) → Bytes s → well_formed_block s ≡ true → Stores s (decode s)
stores_of s bytes well = record { sized = decoded_sized s bytes (well_parts s well).0; is = sym (encode_decode s bytes well) }

module _ {s : List ℕ} {chip : Chip} (h : Stores s chip) where
  abbrev c : Control
  c = chip.control

  pub control_stored : decode_control s ≡ c
  control_stored = ap decode_control h.is ∙ control_read chip h.sized

  pub stores_page : (b p : ℕ) → b < 4 → p < 2 ^ 16 → Stores (put_half (page_at b) p s) (under chip (with_page c b p))
  stores_page b p hb hp = record {
    sized = resized h.sized (listed_set h.sized.banks b p hp) h.sized.registers h.sized.counter_fits h.sized.tags;
    is = ap (put_half (page_at b) p) h.is ∙ page_put chip h.sized b p hb;
  }

  pub stores_register : (n v : ℕ) → 1 ≤ n → n ≤ 7 → v < 2 ^ 32 → Stores (put_word (register_at n) v s) (under chip (with_stored c n v))
  stores_register n v ln hn hv = record {
    sized = resized h.sized h.sized.banks (listed_set h.sized.registers (n - 1) v hv) h.sized.counter_fits h.sized.tags;
    is = ap (put_word (register_at n) v) h.is ∙ register_put chip h.sized n v ln hn;
  }

  pub stores_flags : (p k : Bool) → Stores (put_word flags_at (digit p + digit k * 2) s) (under chip (with_flags c p k))
  stores_flags p k = record {
    sized = resized h.sized h.sized.banks h.sized.registers h.sized.counter_fits h.sized.tags;
    is = ap (put_word flags_at (digit p + digit k * 2)) h.is ∙ flags_put chip h.sized p k;
  }

  pub stores_tag : (slot t : ℕ) → slot < 8 → t < 2 ^ 32 → Stores (put_tag slot t s) (under chip (with_tag c slot t))
  stores_tag slot t hs ht = record {
    sized = resized h.sized h.sized.banks h.sized.registers h.sized.counter_fits (listed_set h.sized.tags slot t ht);
    is = ap (put_tag slot t) h.is ∙ tag_put chip h.sized slot t hs;
  }

  pub stores_scan_counter : (k : ℕ) → k < 2 ^ 16 → Stores (put_half scan_at k s) (under chip (with_scan c (record { counter = k; select = c.scan.select })))
  stores_scan_counter k hk = record {
    sized = rescanned h.sized (hk, h.sized.scan_fits.1);
    is = ap (put_half scan_at k) h.is ∙ scan_counter_put chip h.sized k;
  }

  pub stores_scan_select : (k : ℕ) → k < 2 ^ 16 → Stores (put_half select_at k s) (under chip (with_scan c (record { counter = c.scan.counter; select = k })))
  stores_scan_select k hk = record {
    sized = rescanned h.sized (h.sized.scan_fits.0, hk);
    is = ap (put_half select_at k) h.is ∙ scan_select_put chip h.sized k;
  }

  pub stores_pixels : (n : ℕ) (at : ℕ → ℕ) (v : ℕ → ℕ → ℕ) → ((i : ℕ) → i < n → at i < 256)
      → Stores (update n (λ i. pixels_at + at i) v s) (with_pixels chip (update n at v chip.pixels))
  stores_pixels n at v below = record {
    sized = rebuffered h.sized (length_update n at v chip.pixels ∙ h.sized.pixels_long) h.sized.video_long;
    is = ap (update n (λ i. pixels_at + at i) v) h.is ∙ pixels_put chip h.sized n at v below;
  }

  pub stores_video : (n : ℕ) (at : ℕ → ℕ) (v : ℕ → ℕ → ℕ) → ((i : ℕ) → i < n → at i < 160)
      → Stores (update n (λ i. video_at + at i) v s) (with_video chip (update n at v chip.video))
  stores_video n at v below = record {
    sized = rebuffered h.sized h.sized.pixels_long (length_update n at v chip.video ∙ h.sized.video_long);
    is = ap (update n (λ i. video_at + at i) v) h.is ∙ video_put chip h.sized n at v below;
  }

  -- a word of the pixels
  pub stores_word : (q x : ℕ) → q + 3 < 256 → Stores (put_word (pixels_at + q) x s) (with_pixels chip (put_word q x chip.pixels))
  unfolding put_word
  stores_word q x below = rw (update_at 4 (λ n. pixels_at + q + n) (λ n. pixels_at + (q + n)) (λ n was. byte x n) s (λ n hn. add_assoc pixels_at q n))
      (stores_pixels 4 (λ n. q + n) (λ n was. byte x n) (λ i hi. omega arith))

  -- one call more: the chip with its counter one on, stored
  pub ticks : ticked_in s ≡ encode (under chip (ticked c))
  unfolding ticked_in decode_control
  ticks =
      rw (ap (λ (k : Control). k.counter) control_stored)
      (ap (put_word counter_at ((c.counter + 1) % 2 ^ 32)) h.is ∙ counter_put chip h.sized)
