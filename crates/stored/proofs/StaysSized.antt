-- A call leaves each array of a chip its length and each number its width. Assumes nothing.
use mathlib.Core.Path.{◌≡◌, refl}
use mathlib.Core.Bool.{Bool, true, false, cond}
use mathlib.Core.List.{List, []}
use Prim.Native.Nat.{ℕ, zero, suc, ◌+◌, ◌-◌, ◌%◌, ◌^◌, ◌<◌}
use native.Mathlib.Omega.{arith}
use native.Mathlib.Nat.{mod-lt, lt_trans}
use lib.Bits.{bit_or, or_lt}
use lib.Dec.{eqb, lit<}
use lib.Pow.{pow_pos}
use lib.ListN.{length, get_or}
use Rattle.bits.proofs.Laws.{word_lt}
use Rattle.numbers.specs.Numbers.{when_done}
use Rattle.bank.specs.Work.{loaded, transferred}
use Rattle.lists.proofs.Updates.{length_update}
use Rattle.lists.proofs.Entries.{entry_holds}
use Rattle.chip.specs.declared.Call.{Call}
use Rattle.chip.specs.declared.Chip.{Chip}
use Rattle.chip.specs.declared.Control.{Control}
use Rattle.chip.specs.Video.{video_bytes, counted, clocked}
use Rattle.chip.specs.State.{slots, closed}
use Rattle.chip.specs.Operations.{Operation, access, precharge, duplicate, read_block, write_block, data_read, data_write, write_tag, write_register, read_register, video_transfer, video_clock, unknown, call_table, row, operation, in_range}
use Rattle.chip.specs.Painting.{painted, marked, tag_with}
use Rattle.chip.specs.Changes.{with_register, ticked, tag_of}
use Rattle.chip.specs.Effects.{Reading, Move, still, copy, load, back, paint, transfer, effect, pixels_after, video_after}
use Rattle.chip.specs.Refusals.{number}
use Rattle.chip.specs.Calls.{read_in, chip_after, chip_with, chip_of}
use Rattle.chip.proofs.Accepted.{accepted, page_range}
use Rattle.block.specs.Block.{pixel_bytes}
use Rattle.block.specs.Kept.{Sized}
use Rattle.block.proofs.Sized.{listed_set, resized, rescanned, rebuffered}
use Rattle.block.proofs.Parts.{under}

-- ---- an operation that is done

-- that what a tag or a register takes is a word
abbrev Word : Operation → Type 0
Word (access bank page) = Unit {0}
Word (precharge bank) = Unit {0}
Word (duplicate bank page) = Unit {0}
Word (read_block bank block slot) = Unit {0}
Word (write_block masked bank block slot) = Unit {0}
Word (data_read slot word) = Unit {0}
Word (data_write w) = Unit {0}
Word (write_tag replace slot tag) = tag < 2 ^ 32
Word (write_register number value) = value < 2 ^ 32
Word (read_register number) = Unit {0}
Word (video_transfer bank line) = Unit {0}
Word video_clock = Unit {0}
Word unknown = Unit {0}

-- the counter advanced
ticked_sized : {chip : Chip} → Sized chip → Sized (under chip (ticked chip.control))
unfolding ticked
ticked_sized {chip} z = resized z z.banks z.registers (mod-lt (chip.control.counter + 1) (pow_pos 32)) z.tags

module _ (chip : Chip) (memory : List ℕ) (z : Sized chip) where
  abbrev c : Control
  c = chip.control

  page_fits_lem : (b p : ℕ) → in_range slots c.pages (access b p) ≡ true → p < 2 ^ 16
  unfolding in_range
  page_fits_lem b p r = lt_trans (page_range slots c.pages b p r).1 z.pages_fit

  tag_fits : (replace : Bool) (slot tag : ℕ) → tag < 2 ^ 32 → cond replace tag (bit_or (tag_of c slot) tag) < 2 ^ 32
  unfolding tag_of
  tag_fits true slot tag h = h
  tag_fits false slot tag h = or_lt 32 (get_or c.tags slot 0) tag (z.tags.fit slot) h

  register_fits : (six : Bool) (value : ℕ) → value < 2 ^ 32 → cond six (value % 2 ^ 24) value < 2 ^ 32
  register_fits true value h = lt_trans (mod-lt value (pow_pos 24)) (lit< tt)
  register_fits false value h = h

  select_fits : (wraps : Bool) → cond wraps (1 - c.scan.select) c.scan.select < 2 ^ 16
  select_fits true = omega arith
  select_fits false = z.scan_fits.1

  -- but for the counter's advance
  control_sized : (o : Operation) (read : Reading) → in_range slots c.pages o ≡ true → Word o → Sized (under chip (effect slots c o read).control)
  unfolding effect with_register tag_with marked closed clocked counted in_range
  control_sized (access b p) read r w = resized z (listed_set z.banks b p (page_fits_lem b p r)) z.registers z.counter_fits z.tags
  control_sized (precharge b) read r w = resized z (listed_set z.banks b 65535 (lit< tt)) z.registers z.counter_fits z.tags
  control_sized (duplicate b p) read r w = resized z (listed_set z.banks b p (page_fits_lem b p r)) z.registers z.counter_fits z.tags
  control_sized (read_block b k s) read r w = resized z z.banks z.registers z.counter_fits (listed_set z.tags s 0 (lit< tt))
  control_sized (write_block m b k s) read r w = z
  control_sized (data_read s k) read r w = z
  control_sized (data_write d) read r w = resized z z.banks z.registers z.counter_fits (listed_set z.tags _ _ (word_lt 32 _))
  control_sized (write_tag m s t) read r w = resized z z.banks z.registers z.counter_fits (listed_set z.tags s _ (tag_fits m s t w))
  control_sized (write_register a v) read r w = resized z z.banks (listed_set z.registers (a - 1) _ (register_fits (eqb a 6) v w)) z.counter_fits z.tags
  control_sized (read_register a) read r w = z
  control_sized (video_transfer b l) read r w = z
  control_sized video_clock read r w = rescanned z (omega arith, select_fits (eqb ((c.scan.counter + 1) % 40) 0))
  control_sized unknown read r w = z

  -- a move leaves both byte parts their lengths
  bytes_sized : (m : Move) → (length (pixels_after c chip.pixels memory m) ≡ pixel_bytes) × (length (video_after c chip.video memory m) ≡ video_bytes)
  unfolding pixels_after video_after loaded painted transferred
  bytes_sized still = (z.pixels_long, z.video_long)
  bytes_sized (copy bank from to) = (z.pixels_long, z.video_long)
  bytes_sized (load bank page block slot) = (simp length_update z.pixels_long, z.video_long)
  bytes_sized (back bank page block slot mask tag) = (z.pixels_long, z.video_long)
  bytes_sized (paint w slot old) = (simp length_update z.pixels_long, z.video_long)
  bytes_sized (transfer bank page line) = (z.pixels_long, simp length_update z.video_long)

  done_sized : (o : Operation) (read : Reading) → in_range slots c.pages o ≡ true → Word o → Sized (chip_after chip memory (effect slots c o read))
  done_sized o read r w =
      let bytes = bytes_sized (effect slots c o read).move in
      rebuffered (ticked_sized (control_sized o read r w)) bytes.0 bytes.1

-- ---- a call

-- line by line of the table: the data is a tag at 12 and 13, and a register's value at 14
word_given : (x : Call) → x.given < 2 ^ 32 → Word (operation x)
unfolding operation row call_table
word_given x h = entry_holds (λ p. Word p.0) (call_table x) x.op (unknown, []) tt
    (tt, (tt, (tt, (tt, (tt, (tt, (tt, (tt, (tt, (tt, (tt, (tt, (h, (h, (h, (tt, (tt, (tt, tt))))))))))))))))))

-- done or refused
when_done_sized : (k : ℕ) (a b : Chip) → (k ≡ 0 → Sized a) → Sized b → Sized (when_done k a b)
when_done_sized zero a b done refused = done refl
when_done_sized (suc k) a b done refused = refused

pub stays_sized : (chip : Chip) (memory : List ℕ) (x : Call) → Sized chip → x.given < 2 ^ 32 → Sized (chip_of chip memory x)
unfolding chip_of chip_with
stays_sized chip memory x z h = when_done_sized (number slots chip.control (length memory) x) _ _
    (λ e. done_sized chip memory z (operation x) (read_in slots chip x) (accepted slots chip.control (length memory) x e).in_range_lem (word_given x h))
    z
