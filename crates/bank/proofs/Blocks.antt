-- A block's words: where the four bytes of one lie, and what a write-back makes of them at once. Assumes nothing.
use mathlib.Core.Path.{◌≡◌, refl, sym, ap, ◌∙◌}
use mathlib.Core.Bool.{Bool, true, false, ◌&&◌}
use mathlib.Core.List.{List}
use Prim.Native.Nat.{ℕ, ◌+◌, ◌*◌, ◌/◌, ◌%◌, ◌^◌, ◌<◌}
use native.Mathlib.Nat.{add_assoc}
use native.Mathlib.Omega.{arith}
use lib.Bits.{bit_and}
use lib.ListN.{get_or}
use Rattle.bits.specs.Bits.{bit, byte, merge_byte}
use Rattle.bits.proofs.Laws.{bit_zero, bit_and_lem, bit_shr, bit_mod, bit_shl, bit_ones}
use Rattle.pixel.specs.Pixel.{merge_word}
use Rattle.pixel.proofs.Uses.{byte_merge}
use Rattle.layout.specs.Memory.{in_bank, on_line, line_of, column_of, in_page}
use Rattle.layout.proofs.Places.{in_page_lt}
use Rattle.lists.specs.Update.{update}
use Rattle.lists.specs.Words.{Bytes, word_at, put_word}
use Rattle.bank.specs.Work.{in_slot, back_byte}
use Rattle.lists.proofs.Words.{byte_word_at, word_turn, skip_turn}
use Rattle.bank.proofs.Backs.{back_leaves}

-- the four bytes of a word lie side by side: a line has a whole number of words
in_line_lem : (w n : ℕ) → n < 4 → (4 * w + n) / 8 ≡ 4 * w / 8
in_line_lem w n h = omega arith

in_column : (w n : ℕ) → n < 4 → (4 * w + n) % 8 ≡ 4 * w % 8 + n
in_column w n h = omega arith

page_word : (k w n : ℕ) → n < 4 → in_page k (4 * w + n) ≡ in_page k (4 * w) + n
unfolding in_page on_line line_of column_of
page_word k w n h = rw (in_line_lem w n h, in_column w n h) (omega arith)

bank_word : (page k w n : ℕ) → n < 4 → in_bank page (in_page k (4 * w + n)) ≡ page * 1280 + in_page k (4 * w) + n
unfolding in_bank
bank_word page k w n h = rw (page_word k w n h) (omega arith)

-- and all four are in the page
pub word_in_page : (k w : ℕ) → k < 40 → w < 8 → in_page k (4 * w) + 3 < 1280
word_in_page k w hk hw = rw (page_word k w 3 (omega arith)) at (in_page_lt k (4 * w + 3) hk (omega arith))

-- a byte of a block lies as far behind its first as in block 0
pub from_first : (k i : ℕ) → in_page k i ≡ in_page k 0 + in_page 0 i
unfolding in_page on_line line_of column_of
from_first k i = omega arith

slot_word_at : (slot w n : ℕ) → in_slot slot (4 * w + n) ≡ slot * 32 + 4 * w + n
unfolding in_slot
slot_word_at slot w n = sym (add_assoc (slot * 32) (4 * w) n)

-- byte n of a word merged with the slot's is what a write-back makes of that byte of the block
back_word : (part pixels : List ℕ) (a slot mask tag w n : ℕ)
    → Bytes part → Bytes pixels → n < 4
    → byte (merge_word (word_at part a) (word_at pixels (slot * 32 + 4 * w)) mask (tag / 2 ^ (4 * w))) n
    ≡ back_byte mask tag (λ i. get_or pixels (in_slot slot i) 0) (4 * w + n) (get_or part (a + n) 0)
unfolding back_byte
back_word part pixels a slot mask tag w n fit fit' h =
    byte_merge (word_at part a) (word_at pixels (slot * 32 + 4 * w)) mask (tag / 2 ^ (4 * w)) n h
    ∙ rw (bit_shr tag (4 * w) n, byte_word_at part a fit n h, byte_word_at pixels (slot * 32 + 4 * w) fit' n h, slot_word_at slot w n)
    (ap (λ (place : ℕ). merge_byte (bit tag (4 * w + n)) (byte mask place) (get_or part (a + n) 0) (get_or pixels (slot * 32 + 4 * w + n) 0)) (omega arith))

-- ---- one turn of a loop over the words of a block: word w, which starts at a

module _ (page k slot w a : ℕ) (here : a ≡ page * 1280 + in_page k (4 * w)) where
  block_word : (n : ℕ) → n < 4 → in_bank page (in_page k (4 * w + n)) ≡ a + n
  block_word n h = rw here (bank_word page k w n h)

  -- of a load: word w of the block, put into the slot
  pub load_turn : (part pixels₀ pixels : List ℕ) → Bytes part
      → pixels ≡ update (4 * w) (in_slot slot) (λ i was. get_or part (in_bank page (in_page k i)) 0) pixels₀ → (x : ℕ) → x ≡ word_at part a
      → put_word (slot * 32 + 4 * w) x pixels ≡ update (4 * (w + 1)) (in_slot slot) (λ i was. get_or part (in_bank page (in_page k i)) 0) pixels₀
  load_turn part pixels₀ pixels bytes e x read =
      word_turn w (in_slot slot) (λ i was. get_or part (in_bank page (in_page k i)) 0) pixels₀ pixels e (slot * 32 + 4 * w) x
      (λ n h. slot_word_at slot w n) (λ n h. rw (read, block_word n h) (byte_word_at part a bytes n h))

  -- of a write-back: word w of the block, merged with the slot's
  pub back_turn : (mask tag : ℕ) (pixels part₀ part : List ℕ) → Bytes part → Bytes pixels
      → part ≡ update (4 * w) (λ i. in_bank page (in_page k i)) (back_byte mask tag (λ i. get_or pixels (in_slot slot i) 0)) part₀
      → (x : ℕ) → x ≡ merge_word (word_at part a) (word_at pixels (slot * 32 + 4 * w)) mask (tag / 2 ^ (4 * w))
      → put_word a x part ≡ update (4 * (w + 1)) (λ i. in_bank page (in_page k i)) (back_byte mask tag (λ i. get_or pixels (in_slot slot i) 0)) part₀
  back_turn mask tag pixels part₀ part fit fit' e x merged =
      word_turn w (λ i. in_bank page (in_page k i)) (back_byte mask tag (λ i. get_or pixels (in_slot slot i) 0)) part₀ part e a x
      block_word (λ n h. rw merged (back_word part pixels a slot mask tag w n fit fit' h))

-- ---- a word that a write-back skips: `tag & (15 << 4 * w)` is 0

-- those are the word's four tag bits
four_ones : (w n : ℕ) → w < 8 → n < 4 → bit (15 * 2 ^ (4 * w) % 2 ^ 32) (4 * w + n) ≡ true
four_ones w n hw hn = bit_mod (15 * 2 ^ (4 * w)) 32 (4 * w + n) (omega arith) ∙ bit_shl 15 (4 * w) n ∙ bit_ones 4 n hn

first_off : (p q : Bool) → (p && q) ≡ false → q ≡ true → p ≡ false
first_off false q both second = refl
first_off true q both second = sym second ∙ both

-- each of them is 0
untagged : (tag w n : ℕ) → w < 8 → n < 4 → bit_and tag (15 * 2 ^ (4 * w) % 2 ^ 32) ≡ 0 → bit tag (4 * w + n) ≡ false
untagged tag w n hw hn none =
    first_off _ _ (sym (bit_and_lem tag _ (4 * w + n)) ∙ rw none (bit_zero (4 * w + n))) (four_ones w n hw hn)

-- so its four bytes are left
pub back_skips : (w mask tag : ℕ) (at slot : ℕ → ℕ) (part₀ part : List ℕ) → Bytes part
    → part ≡ update (4 * w) at (back_byte mask tag slot) part₀ → w < 8 → bit_and tag (15 * 2 ^ (4 * w) % 2 ^ 32) ≡ 0
    → part ≡ update (4 * (w + 1)) at (back_byte mask tag slot) part₀
back_skips w mask tag at slot part₀ part fit e hw none =
    skip_turn w at (back_byte mask tag slot) part₀ part e
    (λ n h. back_leaves mask tag slot (4 * w + n) (get_or part (at (4 * w + n)) 0) (untagged tag w n hw h none) (fit (at (4 * w + n))))
