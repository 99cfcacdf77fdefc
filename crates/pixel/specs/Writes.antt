-- 01, Data write: whether a write passes and is enabled, which bytes it takes, what it makes of them, and where it writes. Assumes nothing.
-- OLD is the word at (slot, word); `registers` are the seven, by number less one.
use Rattle.std.specs.Prelude.{Bool, cond, not, ◌&&◌, ◌||◌, List, [], ◌∷◌, ℕ, ◌/◌, ◌%◌, ◌^◌}
use Rattle.bits.specs.Bits.{bit, byte, differing, merge_byte}
use Rattle.pixel.specs.declared.Write.{Write}
use Rattle.pixel.specs.declared.Outcome.{Outcome}
use Rattle.pixel.specs.Pixel.{match_passes, magnitude_passes, enabled_by, new_word, raster_word, merge_word}
use Rattle.pixel.specs.Registers.{fresh_registers, register, plane_mask, constant_source, match_mask, magnitude_mask, rop_control, compare_control, write_address_control}

-- 01, Data write: a stateless write uses fresh values of registers 1, 5, 6, 7
unfoldable pub used : List ℕ → Write → List ℕ
used registers w = cond w.stateless
    (register fresh_registers 1
    ∷ register registers 2
    ∷ register registers 3
    ∷ register registers 4
    ∷ register fresh_registers 5
    ∷ register fresh_registers 6
    ∷ register fresh_registers 7
    ∷ [])
    registers

-- 01, Data write: destination is (slot, word), or with write address control 1 data bits 29:27 and 26:24. (With n slots, n a power of two)
unfoldable pub into_slot : ℕ → List ℕ → Write → ℕ
into_slot n registers w = cond (bit (write_address_control (used registers w)) 0) (w.given / 2 ^ 27 % n) w.slot

unfoldable pub into_word : List ℕ → Write → ℕ
into_word registers w = cond (bit (write_address_control (used registers w)) 0) (w.given / 2 ^ 24 % 8) w.word

module _ (registers : List ℕ) (w : Write) (old : ℕ) where
  -- 01, Data write: match test on OLD and NEW; and magnitude test. Both are under the registers that the write uses
  unfoldable pub passes_match : Bool
  passes_match =
      let r = used registers w in
      match_passes (compare_control r) (match_mask r) old w.given (constant_source r)

  unfoldable pub passes_magnitude : Bool
  passes_magnitude =
      let r = used registers w in
      magnitude_passes (compare_control r) (magnitude_mask r) old w.given (constant_source r)

  -- 01, Data write: pass-out is both tests passing; a stateless write reports pass 1
  unfoldable pub pass_out : Bool
  pass_out = w.stateless || (passes_match && passes_magnitude)

  -- 01, Data write: a stateful write is enabled by pass-in and the tests; a stateless write is always enabled and ignores pass-in
  unfoldable pub enabled : Bool
  enabled = w.stateless || enabled_by (compare_control (used registers w)) w.passin passes_match passes_magnitude

  -- 01, Data write: if picking is on, an enabled stateful write sets hit; a stateless write never does
  unfoldable pub hits : Bool
  hits = not w.stateless && enabled

  -- 01, Data write: the bytes that it takes: enabled, each byte n with enable bit n set
  unfoldable pub taken : ℕ
  taken = cond enabled w.enables 0

  -- 01, Data write: the raster result of NEW and OLD
  unfoldable pub result : ℕ
  result =
      let r = used registers w in
      raster_word (rop_control r) (new_word (rop_control r) w.given (constant_source r)) old

  -- 01, Data write: each byte n that is taken takes, under the plane mask, the raster result, and keeps the destination's bits elsewhere
  unfoldable pub new_byte : ℕ → ℕ → ℕ
  new_byte n dest = merge_byte (bit taken n) (byte (plane_mask (used registers w)) n) dest (byte result n)

  -- 01, Data write: the word that it leaves at its destination, where `dest` is the destination's word before it: the merge of one word
  unfoldable pub merged : ℕ → ℕ
  merged dest = merge_word dest result (plane_mask (used registers w)) taken

  -- 02, T-02: the merge of one word also says, in four bits, which bytes of the destination differ afterwards
  unfoldable pub changed : ℕ → ℕ
  changed dest = differing dest (merged dest)

  -- 01, Data write: all of it that is on words: pass-out, enabled, the bytes taken, the word that it leaves; 02, T-02: and which bytes differ
  unfoldable pub outcome_of : ℕ → Outcome
  outcome_of dest = record {
    pass = pass_out;
    written = enabled;
    taken = taken;
    word = merged dest;
    changed = changed dest;
  }
