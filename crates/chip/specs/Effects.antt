-- 01, Calls: what each call that is done reads, answers, leaves and moves: one definition for the chip and the flat picture. Assumes nothing.
use Rattle.std.specs.Prelude.{ℕ, Bool, false, cond, ◌&&◌, ◌||◌, List, bit_or, slice_index}
use Rattle.bits.specs.Bits.{word_in}
use Rattle.layout.specs.Memory.{place, on_line, address}
use Rattle.bank.specs.Work.{in_slot, loaded, back_mask, written_back, tagged, copied, transferred}
use Rattle.pixel.specs.declared.Write.{Write}
use Rattle.pixel.specs.Registers.{register, plane_mask}
use Rattle.pixel.specs.Writes.{into_slot, into_word, pass_out, enabled, hits, changed}
use Rattle.chip.specs.declared.Control.{Control}
use Rattle.chip.specs.Video.{buffer_of, clocked}
use Rattle.chip.specs.State.{closed, open_page}
use Rattle.chip.specs.Operations.{Operation, access, precharge, duplicate, read_block, write_block, data_read, data_write, write_tag, write_register, read_register, video_transfer, video_clock, unknown}
use Rattle.chip.specs.Painting.{painted, tag_with}
use Rattle.chip.specs.Changes.{with_page, with_tag, with_hit, with_register, with_scan, tag_of}

-- ---- what a call reads of the bytes

pub record Reading : Type 0 where
  -- 01, Data write: OLD is the word at (slot, word)
  pub old : ℕ
  -- 02, T-02: the destination's word
  pub dest : ℕ
  -- 02, T-01: what a video clock puts out
  pub out : ℕ

-- 01, Calls: nothing is read
abbrev pub nothing_read : Reading
nothing_read = record { old = 0; dest = 0; out = 0 }

-- 01, Calls: data read and data write read a word; 02, T-02: a data write its destination's too; 02, T-01: a video clock reads what it puts out.
-- (n is how many slots there are, and byte i of a slot is `byte_of slot i`)
module _ (n : ℕ) (registers : List ℕ) (byte_of : ℕ → ℕ → ℕ) (out : ℕ) where
  unfoldable pub reading : Operation → Reading
  reading (access bank page) = nothing_read
  reading (precharge bank) = nothing_read
  reading (duplicate bank page) = nothing_read
  reading (read_block bank block slot) = nothing_read
  reading (write_block masked bank block slot) = nothing_read
  reading (data_read slot word) = record { old = word_in (byte_of slot) word; dest = 0; out = 0 }
  reading (data_write w) = record {
    old = word_in (byte_of w.slot) w.word;
    dest = word_in (byte_of (into_slot n registers w)) (into_word registers w);
    out = 0;
  }
  reading (write_tag replace slot tag) = nothing_read
  reading (write_register number value) = nothing_read
  reading (read_register number) = nothing_read
  reading (video_transfer bank line) = nothing_read
  reading video_clock = record { old = 0; dest = 0; out = out }
  reading unknown = nothing_read

-- 01, Chip state: byte i of a slot, in the pixel buffer
unfoldable pub slot_byte : List ℕ → ℕ → ℕ → ℕ
slot_byte pixels slot i = slice_index pixels (in_slot slot i)

-- ---- what a call does

-- 01, Calls: which bytes a call moves
pub data Move : Type 0 where
  -- none
  still : Move
  -- a page over another
  copy : (bank from to : ℕ) → Move
  -- a block into a slot
  load : (bank page block slot : ℕ) → Move
  -- a slot into a block, under a mask, obeying a tag
  back : (bank page block slot mask tag : ℕ) → Move
  -- a data write into its destination slot
  paint : (w : Write) (slot old : ℕ) → Move
  -- 02, T-01: a scan line into a video buffer
  transfer : (bank page line : ℕ) → Move

-- 01, Calls and Numbers: a call's value, pass and written, the control part that it leaves (but for the counter), and what it moves
pub record Effect : Type 0 where
  pub value : ℕ
  pub pass : Bool
  pub written : Bool
  pub control : Control
  pub move : Move

-- 01, Numbers: pass and written are 0 except for data writes
abbrev pub giving : ℕ → Control → Move → Effect
giving value c move = record { value = value; pass = false; written = false; control = c; move = move }

-- 01, Numbers: a value is 0 except for ops 5, 6, 7, 15; 02, T-01: and 17; 02, T-02: and 8 to 11
abbrev pub leaving : Control → Move → Effect
leaving c move = giving 0 c move

-- 01, Data write: an initial write first clears the destination slot's tag, enabled or not; if picking is on, an enabled stateful write sets hit
abbrev pub after_write : Control → Write → ℕ → ℕ → Control
after_write c w slot old =
    let tag = cond w.initial 0 (tag_of c slot) in
    with_hit (with_tag c slot (tag_with c.registers w old tag)) (c.hit || (c.picking && hits c.registers w old))

-- 01, Numbers: written is 1 exactly when the write is enabled, byte enables or not; 02, T-02: every data write
-- passes on as its value which bytes of the destination differ afterwards
abbrev pub writing : Control → Write → ℕ → Reading → Effect
writing c w slot r = record {
  value = changed c.registers w r.old r.dest;
  pass = pass_out c.registers w r.old;
  written = enabled c.registers w r.old;
  control = after_write c w slot r.old;
  move = paint w slot r.old;
}

-- 01, Calls: what each call does, with n slots, where it reads r
unfoldable pub effect : ℕ → Control → Operation → Reading → Effect
-- access opens a closed bank
effect n c (access bank page) r = leaving (with_page c bank page) still
-- precharge closes; on a closed bank it changes only the counter
effect n c (precharge bank) r = leaving (with_page c bank closed) still
-- duplicate copies the open page over the named page, which becomes the open one; naming the open page copies nothing (law `copy_nothing`)
effect n c (duplicate bank page) r = leaving (with_page c bank page) (copy bank (open_page c.banks bank) page)
-- read block fills the slot and clears its tag
effect n c (read_block bank block slot) r = leaving (with_tag c slot 0) (load bank (open_page c.banks bank) block slot)
-- write block: the bits under the plane mask, or unmasked all; neither changes slot or tag; the value is the number of tagged bytes
effect n c (write_block masked bank block slot) r =
    giving (tagged (tag_of c slot)) c (back bank (open_page c.banks bank) block slot (back_mask masked (plane_mask c.registers)) (tag_of c slot))
-- data read: the value is the word
effect n c (data_read slot word) r = giving r.old c still
-- data write: into the destination slot
effect n c (data_write w) r = writing c w (into_slot n c.registers w) r
-- replace, OR tag
effect n c (write_tag replace slot tag) r = leaving (with_tag c slot (cond replace tag (bit_or (tag_of c slot) tag))) still
-- write register
effect n c (write_register number value) r = leaving (with_register c number value) still
-- read register: the value is the register's
effect n c (read_register number) r = giving (register c.registers number) c still
-- 02, T-01: a video transfer loads one scan line of an open bank's page
effect n c (video_transfer bank line) r = leaving c (transfer bank (open_page c.banks bank) line)
-- 02, T-01: each video clock puts out two bytes of the selected buffer
effect n c video_clock r = giving r.out (with_scan c (clocked c.scan)) still
-- no operation has the number
effect n c unknown r = leaving c still

-- ---- what its move does to the bytes, where c is the control part before the call

-- 01, Calls and Data write: the pixel buffer
unfoldable pub pixels_after : Control → List ℕ → List ℕ → Move → List ℕ
pixels_after c pixels memory still = pixels
pixels_after c pixels memory (copy bank from to) = pixels
-- read block fills the slot
pixels_after c pixels memory (load bank page block slot) = loaded (address c.pages bank page block) slot memory pixels
pixels_after c pixels memory (back bank page block slot mask tag) = pixels
-- data write: into the destination slot
pixels_after c pixels memory (paint w slot old) = painted c.registers w old (in_slot slot) pixels
pixels_after c pixels memory (transfer bank page line) = pixels

-- 01, Calls: memory
unfoldable pub memory_after : Control → List ℕ → List ℕ → Move → List ℕ
memory_after c pixels memory still = memory
-- duplicate copies a page over another
memory_after c pixels memory (copy bank from to) = copied (place c.pages bank from) (place c.pages bank to) memory
memory_after c pixels memory (load bank page block slot) = memory
-- write block changes, in each tagged byte, the bits under the mask
memory_after c pixels memory (back bank page block slot mask tag) =
    written_back (address c.pages bank page block) mask tag (slot_byte pixels slot) memory
memory_after c pixels memory (paint w slot old) = memory
memory_after c pixels memory (transfer bank page line) = memory

-- 02, T-01: the video buffers
unfoldable pub video_after : Control → List ℕ → List ℕ → Move → List ℕ
video_after c video memory still = video
video_after c video memory (copy bank from to) = video
video_after c video memory (load bank page block slot) = video
video_after c video memory (back bank page block slot mask tag) = video
video_after c video memory (paint w slot old) = video
-- banks 0 and 2 feed buffer 0, banks 1 and 3 feed buffer 1
video_after c video memory (transfer bank page line) = transferred (λ j. place c.pages bank page (on_line line j)) (buffer_of bank) memory video
