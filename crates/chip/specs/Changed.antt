-- 02, T-02: which bytes changed: what a data write's value says, as statements (proved in proofs/Changed.antt) and by example (proofs/Examples.antt). Assumes nothing.
use Rattle.std.specs.Prelude.{◌≡◌, ℕ, ◌+◌, ◌*◌, ◌<◌, not, List, length, ◌==◌}
use Rattle.bits.specs.Bits.{bit}
use Rattle.lists.specs.Words.{Bytes}
use Rattle.pixel.specs.declared.Write.{Write}
use Rattle.pixel.specs.Writes.{into_slot, into_word}
use Rattle.chip.specs.declared.Chip.{Chip}
use Rattle.chip.specs.declared.Call.{Call}
use Rattle.chip.specs.Operations.{data_write, ask, operation}
use Rattle.chip.specs.Changes.{tag_of}
use Rattle.chip.specs.Effects.{slot_byte}
use Rattle.chip.specs.Answers.{done_with, numbered}
use Rattle.chip.specs.Refusals.{number}
use Rattle.chip.specs.Calls.{given_with, chip_with, call_given, chip_of}
use Rattle.chip.specs.Starred.{elsewhere, holding0_f, zeros}

-- x asks for the data write w, and is done, on a chip of n slots. (Arrays that code holds are of bytes and have their length)
pub record DoneWrite (n : ℕ) (chip : Chip) (memory : List ℕ) (x : Call) (w : Write) : Type 0 where
  pub asked : operation x ≡ data_write w
  pub done : number n chip.control (length memory) x ≡ 0
  pub bytes : Bytes chip.pixels
  pub long : length chip.pixels ≡ n * 32

-- byte i of the destination's word, in a pixel buffer
abbrev pub dest_byte : ℕ → List ℕ → Write → List ℕ → ℕ → ℕ
dest_byte n registers w pixels i = slot_byte pixels (into_slot n registers w) (4 * into_word registers w + i)

-- four bits: bit i is 1 exactly when byte i of the destination's word differs after the call from before it
unfoldable pub ChangedTold : Type 0
ChangedTold = (n : ℕ) (chip : Chip) (memory : List ℕ) (x : Call) (w : Write) → DoneWrite n chip memory x w → (
    let value = (given_with n chip memory x).value in
    let byte_in = dest_byte n chip.control.registers w in
    (value < 16)
    × ((i : ℕ) → i < 4 → bit value i ≡ not (byte_in chip.pixels i == byte_in (chip_with n chip memory x).pixels i)))

-- no bytes changed is 0, even where tags were set; 0 is no bytes changed; and a write that is not enabled has value 0
unfoldable pub NoneChanged : Type 0
NoneChanged = (n : ℕ) (chip : Chip) (memory : List ℕ) (x : Call) (w : Write) → DoneWrite n chip memory x w → (
    let value = (given_with n chip memory x).value in
    let after = (chip_with n chip memory x).pixels in
    (after ≡ chip.pixels → value ≡ 0)
    × (value ≡ 0 → after ≡ chip.pixels)
    × ((given_with n chip memory x).written ≡ 0 → value ≡ 0))

-- ---- by example

unfoldable pub ChangedExamples : Type 0
ChangedExamples =
    -- 33333333h by code 6 (xor) leaves 3C3C3C3Ch: all four differ
    (call_given (holding0_f 0xffff_ffff 0x0606_0606) zeros (ask 11 0 0 15 3 0x3333_3333) ≡ done_with 15 1 1)
    -- under plane mask FF00FF00h 3C0F3C0Fh: bytes 1 and 3
    × (call_given (holding0_f 0xff00_ff00 0x0606_0606) zeros (ask 11 0 0 15 3 0x3333_3333) ≡ done_with 10 1 1)
    -- enables 1: byte 0
    × (call_given (holding0_f 0xffff_ffff 0x0606_0606) zeros (ask 11 0 0 1 3 0x3333_3333) ≡ done_with 1 1 1)
    -- an initial write too
    × (call_given (holding0_f 0xffff_ffff 0x0606_0606) zeros (ask 10 0 0 15 3 0x3333_3333) ≡ done_with 15 1 1)
    -- stateless, whatever plane mask and ROP control hold (here 0), with data 8F0F0F0Eh: bit 7 of byte 3 and bit 0 of byte 0 differ
    × (call_given (holding0_f 0 0) zeros (ask 9 0 0 15 0 0x8f0f_0f0e) ≡ done_with 9 1 1)
    × (call_given (holding0_f 0 0) zeros (ask 8 0 0 15 0 0x8f0f_0f0e) ≡ done_with 9 1 1)
    -- code 5 keeps OLD: no bytes changed is 0, and the tag bits are set
    × (call_given (holding0_f 0xffff_ffff 0x0505_0505) zeros (ask 11 0 0 15 3 0x3333_3333) ≡ done_with 0 1 1)
    × (tag_of (chip_of (holding0_f 0xffff_ffff 0x0505_0505) zeros (ask 11 0 0 15 3 0x3333_3333)).control 0 ≡ 15)
    -- pass-in is not 3, so the write is not enabled
    × (call_given (holding0_f 0xffff_ffff 0x0606_0606) zeros (ask 11 0 0 15 2 0x3333_3333) ≡ done_with 0 1 0)
    -- with write address control 1 slot 6, word 3 becomes 003C003Ch, from 0: bytes 0 and 2 of the destination
    × (call_given elsewhere zeros (ask 11 0 0 15 3 0x3333_3333) ≡ done_with 5 1 1)
    -- a refusal has value 0: enables 16
    × (call_given (holding0_f 0xffff_ffff 0x0606_0606) zeros (ask 11 0 0 16 3 0x3333_3333) ≡ numbered 4)
