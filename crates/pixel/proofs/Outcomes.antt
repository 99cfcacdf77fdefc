-- What a data write comes to, of each kind; what it leaves at its destination; and where that is. Assumes nothing.
use mathlib.Core.Path.{◌≡◌, refl, sym, ap, ◌∙◌}
use mathlib.Core.Bool.{Bool, true, false, cond, not, ◌&&◌, and-true, and-false}
use mathlib.Core.List.{List}
use Prim.Native.Nat.{ℕ, ◌/◌, ◌^◌, ◌<◌}
use native.Mathlib.Nat.{mod-lt}
use native.Mathlib.Omega.{arith}
use lib.Dec.{eqb, lit<}
use borrow.Author.Tests.{eq-eqb}
use Rattle.bits.specs.Bits.{bit, byte, word, differing, merge}
use Rattle.bits.proofs.Laws.{bit_zero, byte_lt, word_ext, word_of}
use Rattle.bits.proofs.Bytes.{each_byte}
use Rattle.bits.proofs.Differs.{differing_lt, bit_differing}
use Rattle.bits.proofs.Merges.{merge_off}
use Rattle.pixel.specs.declared.Write.{Write}
use Rattle.pixel.specs.Pixel.{match_passes, magnitude_passes, enabled_by, code_of, from_constant, new_word, raster_word, merge_word}
use Rattle.pixel.specs.Registers.{register, plane_mask, constant_source, match_mask, magnitude_mask, rop_control, compare_control, write_address_control, fresh_registers}
use Rattle.pixel.specs.Writes.{used, into_slot, into_word, passes_match, passes_magnitude, pass_out, enabled, hits, taken, result, new_byte, merged, changed, outcome_of}
use Rattle.pixel.proofs.Functions.{gc}
use Rattle.pixel.proofs.Uses.{bit_raster, bit_new, merge_outside, byte_merge}

-- ---- a stateful write

module _ (registers : List ℕ) (w : Write) (stateful : w.stateless ≡ false) (old : ℕ) where
  pub hits_stateful : hits registers w old ≡ enabled registers w old
  unfolding hits
  hits_stateful = rw stateful

  pub stateful_law : (dest : ℕ) → (
      let matched = match_passes (compare_control registers) (match_mask registers) old w.given (constant_source registers) in
      let magnitude = magnitude_passes (compare_control registers) (magnitude_mask registers) old w.given (constant_source registers) in
      let on = enabled_by (compare_control registers) w.passin matched magnitude in
      let new = new_word (rop_control registers) w.given (constant_source registers) in
      let word = merge_word dest (raster_word (rop_control registers) new old) (plane_mask registers) (cond on w.enables 0) in
      record { pass = matched && magnitude; written = on; taken = cond on w.enables 0; word = word; changed = differing dest word })
      ≡ outcome_of registers w old dest
  unfolding outcome_of changed merged pass_out enabled taken result passes_match passes_magnitude used
  stateful_law dest = rw stateful

-- ---- a stateless write

-- the fresh ROP control copies the data in all bytes
fresh_code : (n : ℕ) → n < 4 → code_of 0x0303_0303 n ≡ 3
unfolding code_of
fresh_code = each_byte (λ n. code_of 0x0303_0303 n ≡ 3) refl refl refl refl

fresh_data : (n : ℕ) → n < 4 → from_constant 0x0303_0303 n ≡ false
unfolding from_constant bit
fresh_data = each_byte (λ n. from_constant 0x0303_0303 n ≡ false) refl refl refl refl

fresh_raster : (given constant old k : ℕ) → k < 32 → bit (raster_word 0x0303_0303 (new_word 0x0303_0303 given constant) old) k ≡ bit given k
fresh_raster given constant old k h =
    let q : k / 8 < 4 = omega arith in
    simp (bit_raster, bit_new, fresh_code, fresh_data) (gc.3 (bit given k) (bit old k))

fresh_merge : (given constant old dest mask bytes : ℕ)
    → merge_word dest (raster_word 0x0303_0303 (new_word 0x0303_0303 given constant) old) mask bytes ≡ merge_word dest given mask bytes
unfolding merge_word merge
fresh_merge given constant old dest mask bytes = word_ext 32 _ _ (λ k h. rw (fresh_raster given constant old k h))

module _ (registers : List ℕ) (w : Write) (stateless : w.stateless ≡ true) (old : ℕ) where
  pub hits_stateless : hits registers w old ≡ false
  unfolding hits
  hits_stateless = rw stateless

  pub stateless_law : (dest : ℕ) → (
      let word = merge_word dest w.given 0xffff_ffff w.enables in
      record { pass = true; written = true; taken = w.enables; word = word; changed = differing dest word })
      ≡ outcome_of registers w old dest
  unfolding outcome_of changed merged pass_out enabled taken result used register fresh_registers
  stateless_law dest =
      let merges = sym (fresh_merge w.given (register registers 2) old dest 0xffff_ffff w.enables) in
      rw stateless (λ i. record { pass = true; written = true; taken = w.enables; word = merges i; changed = differing dest (merges i) })

-- ---- what it leaves at its destination

module _ (registers : List ℕ) (w : Write) (old dest : ℕ) where
  -- each byte by itself
  pub byte_outcome : (n : ℕ) → n < 4 → byte (outcome_of registers w old dest).word n ≡ new_byte registers w old n (byte dest n)
  unfolding outcome_of merged new_byte
  byte_outcome n h = byte_merge dest (result registers w old) (plane_mask (used registers w)) (taken registers w old) n h

  -- 02, T-02: and whether it differs afterwards
  pub bit_changed : (n : ℕ) → n < 4 → bit (changed registers w old dest) n ≡ not (eqb (byte dest n) (new_byte registers w old n (byte dest n)))
  unfolding changed outcome_of
  bit_changed n h = bit_differing dest (merged registers w old dest) n h ∙ ap (λ (b : ℕ). not (eqb (byte dest n) b)) (byte_outcome n h)

  pub changed_lt : changed registers w old dest < 16
  unfolding changed
  changed_lt = differing_lt dest (merged registers w old dest)

  -- not enabled, it takes no byte
  pub changed_off : enabled registers w old ≡ false → changed registers w old dest ≡ 0
  unfolding new_byte taken word
  changed_off off = word_of 4 (changed registers w old dest) (λ n. false) changed_lt
      (λ n h. bit_changed n h ∙ rw (off, bit_zero n, merge_off _ (byte dest n) _ (byte_lt dest n)) (ap not (eq-eqb (byte dest n) (byte dest n) refl)))

  -- bits outside the plane mask are the destination's
  pub outcome_outside : (k : ℕ) → k < 32 → bit (plane_mask (used registers w)) k ≡ false → bit (outcome_of registers w old dest).word k ≡ bit dest k
  unfolding outcome_of merged
  outcome_outside k h e = merge_outside dest (result registers w old) (plane_mask (used registers w)) (taken registers w old) k h e

-- of two numbers below n, either is
either_lt : (b : Bool) {n x y : ℕ} → x < n → y < n → cond b x y < n
either_lt true h q = h
either_lt false h q = q

pub taken_lt : (registers : List ℕ) (w : Write) (old : ℕ) → w.enables < 16 → taken registers w old < 16
unfolding taken
taken_lt registers w old h = either_lt (enabled registers w old) h (lit< tt)

-- ---- where it writes

-- write address control acts in a stateful write alone
pub by_data_law : (registers : List ℕ) (w : Write) → bit (write_address_control (used registers w)) 0 ≡ (bit (write_address_control registers) 0 && not w.stateless)
unfolding used register fresh_registers
by_data_law registers w = go w.stateless refl
  where
    go : (b : Bool) → w.stateless ≡ b → bit (write_address_control (used registers w)) 0 ≡ (bit (write_address_control registers) 0 && not w.stateless)
    go true e = rw e (bit_zero 0 ∙ sym (and-false (bit (write_address_control registers) 0)))
    go false e = rw e (sym (and-true (bit (write_address_control registers) 0)))

pub into_slot_lt : (n : ℕ) (registers : List ℕ) (w : Write) → w.slot < n → into_slot n registers w < n
unfolding into_slot
into_slot_lt n registers w h = either_lt (bit (write_address_control (used registers w)) 0) (mod-lt (w.given / 2 ^ 27) (omega arith)) h

pub into_word_lt : (registers : List ℕ) (w : Write) → w.word < 8 → into_word registers w < 8
unfolding into_word
into_word_lt registers w h = either_lt (bit (write_address_control (used registers w)) 0) (mod-lt (w.given / 2 ^ 24) (lit< tt)) h
