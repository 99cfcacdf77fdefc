-- A data write's value says which bytes of its destination differ after the call: by the law of its bits, and what a write leaves. Assumes nothing.
use Rattle.std.proofs.Common.{◌≡◌, ℕ, ◌+◌, ◌*◌, ◌<◌, Bool, true, false, not, eqb, List, length, get_or, sym, refl, ap, ◌∙◌, arith, eq-eqb, eqb-true}
use borrow.Author.Tests.{not-false}
use Rattle.bits.specs.Bits.{bit, digit, word, word_in}
use Rattle.bits.proofs.Laws.{bit_zero, word_of}
use Rattle.lists.proofs.Updates.{update_same, update_none}
use Rattle.bank.specs.Work.{in_slot}
use Rattle.pixel.specs.declared.Write.{Write}
use Rattle.pixel.specs.Writes.{into_slot, into_word, enabled, new_byte, changed}
use Rattle.pixel.proofs.Outcomes.{bit_changed, changed_lt, changed_off, into_slot_lt, into_word_lt}
use Rattle.chip.specs.declared.Chip.{Chip}
use Rattle.chip.specs.declared.Call.{Call}
use Rattle.chip.specs.Painting.{painted}
use Rattle.chip.specs.Effects.{reading, slot_byte, effect, pixels_after}
use Rattle.chip.specs.Calls.{read_in, given_with, chip_with}
use Rattle.chip.specs.Changed.{DoneWrite, ChangedTold, NoneChanged}
use Rattle.chip.proofs.Accepted.{accepted, write_range}
use Rattle.chip.proofs.SlotWords.{slot_word}

module _ (n : ℕ) (chip : Chip) (memory : List ℕ) (x : Call) (w : Write) (d : DoneWrite n chip memory x w) where
  abbrev registers : List ℕ
  registers = chip.control.registers

  abbrev old : ℕ
  old = word_in (slot_byte chip.pixels w.slot) w.word

  -- where byte i of the destination's word lies
  abbrev home : ℕ → ℕ
  home i = in_slot (into_slot n registers w) (4 * into_word registers w + i)

  value_is : (given_with n chip memory x).value ≡ changed registers w old (word_in (slot_byte chip.pixels (into_slot n registers w)) (into_word registers w))
  unfolding given_with read_in reading effect
  value_is = rw (d.done, d.asked)

  written_is : (given_with n chip memory x).written ≡ digit (enabled registers w old)
  unfolding given_with read_in reading effect
  written_is = rw (d.done, d.asked)

  pixels_are : (chip_with n chip memory x).pixels ≡ painted registers w old (in_slot (into_slot n registers w)) chip.pixels
  unfolding chip_with read_in reading effect pixels_after
  pixels_are = rw (d.done, d.asked)

  in_range_lem : (w.slot < n) × (w.word < 8)
  in_range_lem =
      let range = write_range n chip.control.pages w (rw (← d.asked) (accepted n chip.control (length memory) x d.done).in_range_lem) in
      (range.0, range.1)

  byte_left : (i : ℕ) → i < 4 → get_or (chip_with n chip memory x).pixels (home i) 0 ≡ new_byte registers w old i (get_or chip.pixels (home i) 0)
  unfolding painted in_slot
  byte_left i h =
      let slot : into_slot n registers w < n = into_slot_lt n registers w in_range_lem.0 in
      let at : into_word registers w < 8 = into_word_lt registers w in_range_lem.1 in
      ap (λ (l : List ℕ). get_or l (home i) 0) pixels_are
      ∙ update_same 4 home (new_byte registers w old) chip.pixels (λ j k p q e. omega (arith, e)) (λ j q. omega (arith, d.long, slot, at)) i h

  bit_told : (i : ℕ) → i < 4 → bit (given_with n chip memory x).value i
      ≡ not (eqb (get_or chip.pixels (home i) 0) (get_or (chip_with n chip memory x).pixels (home i) 0))
  bit_told i h =
      let was = slot_word chip.pixels (into_slot n registers w) (into_word registers w) i d.bytes h in
      ap (λ (v : ℕ). bit v i) value_is ∙ bit_changed registers w old _ i h
      ∙ ap (λ (b : ℕ). not (eqb b (new_byte registers w old i b))) was
      ∙ ap (λ (b : ℕ). not (eqb (get_or chip.pixels (home i) 0) b)) (sym (byte_left i h))

  value_lt : (given_with n chip memory x).value < 16
  value_lt = rw value_is (changed_lt registers w old _)

  -- no bytes changed, so no bit is 1; no bit is 1, so each byte is as it was
  told_0 : (chip_with n chip memory x).pixels ≡ chip.pixels → (given_with n chip memory x).value ≡ 0
  unfolding word
  told_0 same = word_of 4 (given_with n chip memory x).value (λ i. false) value_lt
      (λ i h.
      let was = get_or chip.pixels (home i) 0 in
      bit_told i h ∙ ap (λ (l : List ℕ). not (eqb was (get_or l (home i) 0))) same ∙ ap not (eq-eqb was was refl))

  left_same : (given_with n chip memory x).value ≡ 0 → (chip_with n chip memory x).pixels ≡ chip.pixels
  unfolding painted
  left_same none = pixels_are ∙ update_none 4 home (new_byte registers w old) chip.pixels
      (λ i h.
      let was = get_or chip.pixels (home i) 0 in
      let is = get_or (chip_with n chip memory x).pixels (home i) 0 in
      let off : not (eqb was is) ≡ false = sym (bit_told i h) ∙ ap (λ (v : ℕ). bit v i) none ∙ bit_zero i in
      sym (byte_left i h) ∙ sym (eqb-true was is (not-false (eqb was is) off)))

  -- not enabled, it takes no byte
  told_off : (given_with n chip memory x).written ≡ 0 → (given_with n chip memory x).value ≡ 0
  told_off off = value_is ∙ changed_off registers w old _ (not_on (enabled registers w old) (sym written_is ∙ off))
    where
      not_on : (b : Bool) → digit b ≡ 0 → b ≡ false
      not_on true e = absurd (omega (arith, e))
      not_on false e = refl

pub changed_told : ChangedTold
unfolding ChangedTold slot_byte
changed_told n chip memory x w d = (value_lt n chip memory x w d, bit_told n chip memory x w d)

pub none_changed : NoneChanged
unfolding NoneChanged
none_changed n chip memory x w d = (told_0 n chip memory x w d, left_same n chip memory x w d, told_off n chip memory x w d)
