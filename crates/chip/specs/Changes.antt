-- 01, Chip state and Calls: one part of the control part, changed. Assumes nothing.
use Rattle.std.specs.Prelude.{ℕ, ◌+◌, ◌-◌, ◌/◌, ◌%◌, ◌^◌, Bool, true, false, cond, List, [], ◌∷◌, ◌==◌, slice_index, slice_index_or, slice_set}
use Rattle.chip.specs.declared.Scan.{Scan}
use Rattle.chip.specs.declared.Control.{Control}

-- 01, Chip state: a control part of the same P and scan, with these open pages, registers, picking, hit, counter and tags
abbrev pub with_parts : Control → List ℕ → List ℕ → Bool → Bool → ℕ → List ℕ → Control
with_parts c banks registers picking hit counter tags = record {
  pages = c.pages;
  banks = banks;
  registers = registers;
  picking = picking;
  hit = hit;
  counter = counter;
  tags = tags;
  scan = c.scan;
}

-- 02, T-01: a video clock changes counter and select
abbrev pub with_scan : Control → Scan → Control
with_scan c scan = record {
  pages = c.pages;
  banks = c.banks;
  registers = c.registers;
  picking = c.picking;
  hit = c.hit;
  counter = c.counter;
  tags = c.tags;
  scan = scan;
}

-- 01, Calls: access, precharge and duplicate change the page that is open in a bank
abbrev pub with_page : Control → ℕ → ℕ → Control
with_page c bank page = with_parts c (slice_set c.banks bank page) c.registers c.picking c.hit c.counter c.tags

-- 01, Calls: read block, data write, replace and OR tag change a slot's tag
abbrev pub with_tag : Control → ℕ → ℕ → Control
with_tag c slot tag = with_parts c c.banks c.registers c.picking c.hit c.counter (slice_set c.tags slot tag)

-- 01, Chip state: flags: picking and hit
abbrev pub with_flags : Control → Bool → Bool → Control
with_flags c picking hit = with_parts c c.banks c.registers picking hit c.counter c.tags

-- 01, Data write: an enabled stateful write sets hit
abbrev pub with_hit : Control → Bool → Control
with_hit c hit = with_flags c c.picking hit

-- 01, Chip state: registers are numbered from 1: these bits stored in one
abbrev pub with_stored : Control → ℕ → ℕ → Control
with_stored c number bits = with_parts c c.banks (slice_set c.registers (number - 1) bits) c.picking c.hit c.counter c.tags

-- 01, Chip state: 27:26 = 10 turns picking off, 11 on; 25:24 = 10 clears hit, 11 sets it; a leading 0 changes nothing
unfoldable pub switched : ℕ → Bool → Bool
switched two was = slice_index_or (was ∷ was ∷ false ∷ true ∷ []) two was

-- 01, Chip state: compare control bits 27 to 24 act at the write and are stored as 0
unfoldable pub with_register : Control → ℕ → ℕ → Control
with_register c number value = with_flags (with_stored c number (cond (number == 6) (value % 2 ^ 24) value))
    (cond (number == 6) (switched (value / 2 ^ 26 % 4) c.picking) c.picking)
    (cond (number == 6) (switched (value / 2 ^ 24 % 4) c.hit) c.hit)

-- 01, Calls: the counter adds one for each call that is done, and after FFFFFFFFh comes 0
unfoldable pub ticked : Control → Control
ticked c = with_parts c c.banks c.registers c.picking c.hit ((c.counter + 1) % 2 ^ 32) c.tags

-- 01, Chip state: a slot's tag, eight in all
unfoldable pub tag_of : Control → ℕ → ℕ
tag_of c slot = slice_index c.tags slot
