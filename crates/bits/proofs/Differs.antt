-- Which bytes of two words differ: what `differing` computes, byte by byte, and its bits. Assumes nothing.
use mathlib.Core.Path.{◌≡◌, refl, sym, ap, ap₂, ◌∙◌}
use mathlib.Core.Bool.{Bool, true, not}
use Prim.Native.Nat.{ℕ, ◌+◌, ◌*◌, ◌/◌, ◌%◌, ◌^◌, ◌<◌, ◌≤◌}
use native.Mathlib.Decide.{ℕ_discrete}
use native.Mathlib.Omega.{arith}
use borrow.Author.Tests.{eqb-true, eq-eqb, ne_eqb}
use lib.Dec.{eqb, lit<}
use lib.Bits.{bit_and, bit_or, bit_xor, and_le_l, and_le_r, and_lt, xor_lt, xor_self, xor_add_and, and_shr, and_mod, or_shr, or_mod, xor_shr, xor_mod}
use Rattle.bits.specs.Bits.{bit, byte, digit, joined, every, differing}
use Rattle.bits.proofs.Laws.{bit_word, word_lt, byte_lt}
use Rattle.bits.proofs.Bytes.{join_bytes, byte_joined_0, byte_joined_1, byte_joined_2, byte_joined_3, each_byte, every_at}

-- ---- a byte of two words

module _ (op : ℕ → ℕ → ℕ) (shr : (a b k : ℕ) → op a b / 2 ^ k ≡ op (a / 2 ^ k) (b / 2 ^ k)) (rem : (a b k : ℕ) → op a b % 2 ^ k ≡ op (a % 2 ^ k) (b % 2 ^ k)) where
  byte_op : (x y n : ℕ) → byte (op x y) n ≡ op (byte x n) (byte y n)
  unfolding byte
  byte_op x y n = ap (λ (m : ℕ). m % 2 ^ 8) (shr x y (8 * n)) ∙ rem (x / 2 ^ (8 * n)) (y / 2 ^ (8 * n)) 8

byte_and : (x y n : ℕ) → byte (bit_and x y) n ≡ bit_and (byte x n) (byte y n)
byte_and = byte_op bit_and and_shr and_mod

byte_or : (x y n : ℕ) → byte (bit_or x y) n ≡ bit_or (byte x n) (byte y n)
byte_or = byte_op bit_or or_shr or_mod

byte_xor : (x y n : ℕ) → byte (bit_xor x y) n ≡ bit_xor (byte x n) (byte y n)
byte_xor = byte_op bit_xor xor_shr xor_mod

-- two numbers are equal exactly if no bit differs
xor_none : (a b : ℕ) → eqb (bit_xor a b) 0 ≡ eqb a b
xor_none a b = go (ℕ_discrete a b)
  where
    go : Dec (a ≡ b) → eqb (bit_xor a b) 0 ≡ eqb a b
    go (yes e) = eq-eqb (bit_xor a b) 0 (ap (bit_xor a) (sym e) ∙ xor_self a) ∙ sym (eq-eqb a b e)
    go (no e) = ne_eqb (bit_xor a b) 0 (λ z. e (omega (arith, z, xor_add_and a b, and_le_l a b, and_le_r a b))) ∙ sym (ne_eqb a b e)

-- ---- the top bit of each byte

-- of one byte: the sum's top bit, or the byte's own, is 1 exactly where the byte is not 0; tried at all 256
topped : ℕ → ℕ
topped a = bit_and (bit_or (bit_and a 127 + 127) a) 128

top_test : ℕ → Bool
unfolding topped
top_test a = eqb (topped a) (digit (not (eqb a 0)) * 128)

top_all : every 256 top_test ≡ true
unfolding top_test every
top_all = refl

top_byte : (a : ℕ) → a < 256 → topped a ≡ digit (not (eqb a 0)) * 128
unfolding top_test
top_byte a h = eqb-true _ _ (every_at 256 top_test top_all a h)

-- of a word: what is left of each byte is below 128, so no byte of the sum carries into the next
sevens : (n : ℕ) → n < 4 → byte 0x7f7f_7f7f n ≡ 127
unfolding byte
sevens = each_byte (λ n. byte 0x7f7f_7f7f n ≡ 127) refl refl refl refl

eights : (n : ℕ) → n < 4 → byte 0x8080_8080 n ≡ 128
unfolding byte
eights = each_byte (λ n. byte 0x8080_8080 n ≡ 128) refl refl refl refl

abbrev top : ℕ → ℕ
top z = bit_and (bit_or (bit_and z 0x7f7f_7f7f + 0x7f7f_7f7f) z) 0x8080_8080

pub top_le : (z : ℕ) → top z ≤ 0x8080_8080
top_le z = and_le_r (bit_or (bit_and z 0x7f7f_7f7f + 0x7f7f_7f7f) z) 0x8080_8080

module _ (z : ℕ) (h : z < 2 ^ 32) where
  abbrev kept : ℕ
  kept = bit_and z 0x7f7f_7f7f

  kept_byte : (n : ℕ) → n < 4 → byte kept n ≡ bit_and (byte z n) 127
  kept_byte n q = byte_and z 0x7f7f_7f7f n ∙ ap (bit_and (byte z n)) (sevens n q)

  kept_low : (n : ℕ) → n < 4 → byte kept n + 127 < 2 ^ 8
  kept_low n q = omega (arith, kept_byte n q, and_le_r (byte z n) 127)

  sum_joined : kept + 0x7f7f_7f7f ≡ joined (byte kept 0 + 127) (byte kept 1 + 127) (byte kept 2 + 127) (byte kept 3 + 127)
  unfolding joined
  sum_joined = omega (arith, join_bytes kept (and_lt 32 z 0x7f7f_7f7f h (lit< tt)))

  sum_byte : (n : ℕ) → n < 4 → byte (kept + 0x7f7f_7f7f) n ≡ byte kept n + 127
  sum_byte n q =
      let a = kept_low 0 (lit< tt) in
      let b = kept_low 1 (lit< tt) in
      let c = kept_low 2 (lit< tt) in
      let d = kept_low 3 (lit< tt) in
      ap (λ (m : ℕ). byte m n) sum_joined
      ∙ each_byte (λ n. byte (joined (byte kept 0 + 127) (byte kept 1 + 127) (byte kept 2 + 127) (byte kept 3 + 127)) n ≡ byte kept n + 127)
      (byte_joined_0 _ _ _ _ a b c d) (byte_joined_1 _ _ _ _ a b c d) (byte_joined_2 _ _ _ _ a b c d) (byte_joined_3 _ _ _ _ a b c d) n q

  word_top : (n : ℕ) → n < 4 → byte (top z) n ≡ digit (not (eqb (byte z n) 0)) * 128
  unfolding topped
  word_top n q =
      byte_and (bit_or (kept + 0x7f7f_7f7f) z) 0x8080_8080 n
      ∙ ap₂ bit_and (byte_or (kept + 0x7f7f_7f7f) z n ∙ ap (λ (m : ℕ). bit_or m (byte z n)) (sum_byte n q ∙ ap (λ (m : ℕ). m + 127) (kept_byte n q))) (eights n q)
      ∙ top_byte (byte z n) (byte_lt z n)

-- ---- the product brings the four top bits side by side: tried at all sixteen

apart : ℕ → ℕ
apart m = joined (digit (bit m 0) * 128) (digit (bit m 1) * 128) (digit (bit m 2) * 128) (digit (bit m 3) * 128)

gather_test : ℕ → Bool
unfolding apart
gather_test m = eqb (apart m * 0x0020_4081 / 2 ^ 28 % 16) m

gather_all : every 16 gather_test ≡ true
unfolding gather_test every apart bit joined
gather_all = refl

gather : (m : ℕ) → m < 16 → apart m * 0x0020_4081 / 2 ^ 28 % 16 ≡ m
unfolding gather_test
gather m h = eqb-true _ _ (every_at 16 gather_test gather_all m h)

-- ---- all of it

pub differing_lt : (x y : ℕ) → differing x y < 16
unfolding differing
differing_lt x y = word_lt 4 _

pub bit_differing : (x y n : ℕ) → n < 4 → bit (differing x y) n ≡ not (eqb (byte x n) (byte y n))
unfolding differing
bit_differing x y n h = bit_word 4 _ n h

pub differing_law : (x y : ℕ) → x < 2 ^ 32 → y < 2 ^ 32 → top (bit_xor x y) * 0x0020_4081 / 2 ^ 28 % 16 ≡ differing x y
unfolding apart
differing_law x y hx hy =
    let t : top z ≡ apart (differing x y) = sym (join_bytes (top z) (omega (arith, top_le z))) ∙ rw (side 0 (lit< tt), side 1 (lit< tt), side 2 (lit< tt), side 3 (lit< tt)) in
    ap (λ (m : ℕ). m * 0x0020_4081 / 2 ^ 28 % 16) t ∙ gather (differing x y) (differing_lt x y)
  where
    z : ℕ
    z = bit_xor x y

    side : (n : ℕ) → n < 4 → byte (top z) n ≡ digit (bit (differing x y) n) * 128
    side n q =
        word_top z (xor_lt 32 x y hx hy) n q
        ∙ ap (λ (b : Bool). digit (not b) * 128) (ap (λ (m : ℕ). eqb m 0) (byte_xor x y n) ∙ xor_none (byte x n) (byte y n))
        ∙ ap (λ (b : Bool). digit b * 128) (sym (bit_differing x y n q))
