-- Demand 3 at the C door: the block is that of the chip which the run by value leaves, so each panel_call answers as that chip's call does.
-- Assumes nothing.
use mathlib.Core.Path.{◌≡◌, refl, ap, ap₂, ◌∙◌}
use mathlib.Core.Bool.{Bool, true, false, not, cond}
use mathlib.Core.List.{List, [], ◌∷◌}
use Prim.Native.Nat.{ℕ, zero, suc, ◌+◌, ◌*◌, ◌/◌, ◌^◌, ◌<◌, ◌≤◌}
use native.Mathlib.Omega.{arith}
use lib.Dec.{eqb, lit<}
use lib.ListN.{length, replicate, length-replicate}
use borrow.Author.Tests.{not-false}
use Rattle.bits.specs.Bits.{bit, digit, count}
use Rattle.numbers.specs.Numbers.{when_done}
use Rattle.numbers.proofs.Tests.{none_applies, given_done}
use Rattle.lists.proofs.Entries.{entry_holds}
use Rattle.layout.specs.Memory.{pages_fit}
use Rattle.layout.proofs.ScanLines.{pages_between}
use Rattle.bank.specs.Work.{tagged}
use Rattle.chip.specs.declared.Control.{Control}
use Rattle.chip.specs.declared.Chip.{Chip}
use Rattle.chip.specs.declared.Call.{Call}
use Rattle.chip.specs.Video.{fresh_video, fresh_scan}
use Rattle.chip.specs.State.{slots, closed, fresh_control, fresh_with, fresh_of}
use Rattle.pixel.specs.Registers.{fresh_registers}
use Rattle.chip.specs.Operations.{Operation, access, precharge, duplicate, read_block, write_block, data_read, data_write, write_tag, write_register, read_register, video_transfer, video_clock, unknown, operation}
use Rattle.chip.specs.Changes.{tag_of}
use Rattle.chip.specs.Effects.{Reading, effect}
use Rattle.chip.specs.Answers.{GivenBack, numbered, effect_given, packed}
use Rattle.chip.specs.Refusals.{number}
use Rattle.chip.specs.Calls.{read_in, effect_in, given_with, call_given, chip_of, memory_of}
use Rattle.block.specs.Block.{block_bytes, encode}
use Rattle.block.specs.OnBlock.{call_number, fresh_block_number, fresh_block}
use Rattle.block.specs.Kept.{Sized}
use Rattle.stored.proofs.StaysSized.{stays_sized}
use Rattle.stored.proofs.ByValue.{given_by_value, block_by_value, memory_by_value, chip_by_value}
use Rattle.picture.specs.Drawing.{World, counts_tags, seen, start, next, after, chip_seen, DrawingAgrees}
use Rattle.picture.proofs.Agree.{drawing_agrees}
use Rattle.runs.specs.AtTheDoor.{number_seen, door_seen, door_memory, as_numbers, DataFits, DoorDraws}

-- ---- the number without a write-back's value

-- a count of 32 places is at most 32
count_le : (n : ℕ) (f : ℕ → Bool) → count n f ≤ n
unfolding count
count_le zero f = omega arith
count_le (suc n) f = go (f n) (count_le n f)
  where
    go : (b : Bool) → count n f ≤ n → digit b + count n f ≤ suc n
    go true h = omega arith
    go false h = omega arith

tagged_fits : (tag : ℕ) → tagged tag < 2 ^ 32
unfolding tagged
tagged_fits tag = omega (arith, count_le 32 (bit tag))

-- bits 31:0 are the value
value_out : (g : GivenBack) → g.value < 2 ^ 32
    → packed g / 2 ^ 32 * 2 ^ 32 ≡ packed (record { number = g.number; value = 0; pass = g.pass; written = g.written })
unfolding packed
value_out g h = omega arith

module _ (c' : Control) where
  -- a call that is done, operation by operation
  done_number : (n : ℕ) (c : Control) (o : Operation) (r : Reading)
      → number_seen o (packed (effect_given (effect n c o r))) ≡ packed (seen o (effect_given (effect n c o r)) c').given
  unfolding number_seen seen counts_tags effect
  done_number n c (access b p) r = refl
  done_number n c (precharge b) r = refl
  done_number n c (duplicate b p) r = refl
  done_number n c (read_block b k s) r = refl
  done_number n c (write_block m b k s) r = value_out (effect_given (effect n c (write_block m b k s) r)) (tagged_fits (tag_of c s))
  done_number n c (data_read s w) r = refl
  done_number n c (data_write w) r = refl
  done_number n c (write_tag m s t) r = refl
  done_number n c (write_register a v) r = refl
  done_number n c (read_register a) r = refl
  done_number n c (video_transfer b l) r = refl
  done_number n c video_clock r = refl
  done_number n c unknown r = refl

  -- and a refused one
  refused_number : (o : Operation) (k : ℕ) → number_seen o (packed (numbered k)) ≡ packed (seen o (numbered k) c').given
  unfolding number_seen seen
  refused_number o k = go (counts_tags o)
    where
      go : (b : Bool) → cond b (packed (numbered k) / 2 ^ 32 * 2 ^ 32) (packed (numbered k)) ≡ packed (record { number = k; value = cond b 0 0; pass = 0; written = 0 })
      go true = value_out (numbered k) (lit< tt)
      go false = refl

  call_number_lem : (chip : Chip) (memory : List ℕ) (x : Call)
      → number_seen (operation x) (packed (call_given chip memory x)) ≡ packed (seen (operation x) (call_given chip memory x) c').given
  unfolding call_given given_with
  call_number_lem chip memory x = go (number slots chip.control (length memory) x)
    where
      e : GivenBack
      e = effect_given (effect_in slots chip x)

      go : (k : ℕ) → number_seen (operation x) (packed (when_done k e (numbered k))) ≡ packed (seen (operation x) (when_done k e (numbered k)) c').given
      go zero = done_number slots chip.control (operation x) (read_in slots chip x)
      go (suc k) = refused_number (operation x) (suc k)

-- ---- a list of calls

door_run : (calls : List Call) (w : World) → Sized w.chip → DataFits calls
    → (door_seen (encode w.chip) w.memory calls ≡ as_numbers (chip_seen slots w calls))
    × (door_memory (encode w.chip) w.memory calls ≡ (after slots w calls).memory)
unfolding door_seen door_memory as_numbers chip_seen after next call_number DataFits seen call_given chip_of memory_of
door_run [] w z fit = (refl, refl)
door_run (x ∷ xs) w z (h, fit) =
    let rest = door_run xs (next slots w x) (stays_sized w.chip w.memory x z h) fit in
    let block = block_by_value w.chip z w.memory x in
    let memory = memory_by_value w.chip z w.memory x in
    let answer = ap packed (given_by_value w.chip z w.memory x) in
    let hit = ap (λ (c : Chip). c.control.hit) (chip_by_value w.chip z w.memory x h) in (
      ap₂ (λ (p : ℕ × Bool) (l : List (ℕ × Bool)). p ∷ l)
          (ap₂ (λ (n : ℕ) (b : Bool). (n, b)) (ap (number_seen (operation x)) answer ∙ call_number_lem (chip_of w.chip w.memory x).control w.chip w.memory x) hit) (rw (block, memory) rest.0),
      rw (block, memory) rest.1,
    )

-- ---- from a fresh chip's block on

fresh_sized : (P : ℕ) → pages_fit P ≡ true → Sized (fresh_of P)
unfolding fresh_of fresh_with fresh_control fresh_registers fresh_video fresh_scan slots closed
fresh_sized P e = record {
  pages_fit = omega (arith, (pages_between P e).1);
  banks = record { long = refl; fit = λ j. entry_holds (λ x. x < 2 ^ 16) (replicate 4 closed) j 0 (lit< tt) (lit< tt, (lit< tt, (lit< tt, (lit< tt, tt)))) };
  registers = record { long = refl; fit = λ j. entry_holds (λ x. x < 2 ^ 32) fresh_registers j 0 (lit< tt) (lit< tt, (lit< tt, (lit< tt, (lit< tt, (lit< tt, (lit< tt, (lit< tt, tt))))))) };
  counter_fits = lit< tt;
  tags = record { long = refl; fit = λ j. entry_holds (λ x. x < 2 ^ 32) (replicate slots 0) j 0 (lit< tt) (lit< tt, (lit< tt, (lit< tt, (lit< tt, (lit< tt, (lit< tt, (lit< tt, (lit< tt, tt)))))))) };
  scan_fits = (lit< tt, lit< tt);
  pixels_long = length-replicate {A = ℕ} 256 0;
  video_long = length-replicate {A = ℕ} 160 0;
}

pub door_draws : DoorDraws
unfolding DoorDraws DrawingAgrees fresh_block fresh_block_number start fresh_of
door_draws s P memory calls new fit sized data_fits supposed =
    let fits = (none_applies 3 (not (pages_fit P)) [] (none_applies 0 (not (eqb (length s) block_bytes)) _ new).1).0 in
    let w = start slots P memory in
    let run = door_run calls w (fresh_sized P (not-false _ fits)) data_fits in
    let agrees = drawing_agrees slots P memory calls fit sized supposed in
    rw (given_done (fresh_block_number s P) (encode (fresh_of P)) s new) (run.0 ∙ ap as_numbers agrees.0, λ none. run.1 ∙ agrees.1 none)
