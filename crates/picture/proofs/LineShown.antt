-- A scan line of any memory, opened, transferred and put out: what `DisplayShowsPicture` asks can be met. Assumes nothing.
use mathlib.Core.Path.{◌≡◌, refl, ap, ◌∙◌}
use mathlib.Core.Bool.{true}
use mathlib.Core.List.{List, [], ◌∷◌}
use Prim.Native.Nat.{ℕ, ◌+◌, ◌*◌, ◌^◌}
use native.Mathlib.Omega.{arith}
use lib.Dec.{ltb}
use lib.ListN.{get_or, length}
use borrow.Author.Tests.{lt-ltb}
use Rattle.numbers.specs.Numbers.{first}
use Rattle.lists.specs.Words.{Bytes}
use Rattle.layout.specs.Memory.{pages_fit, size, bank_start, in_bank, place, on_line}
use Rattle.chip.specs.declared.Scan.{Scan}
use Rattle.chip.specs.declared.Chip.{Chip}
use Rattle.chip.specs.declared.Call.{Call}
use Rattle.chip.specs.Video.{fresh_scan, buffer_of, in_use}
use Rattle.chip.specs.State.{slots, closed, open_page, is_closed, fresh_control, fresh_with}
use Rattle.chip.specs.Operations.{ask, is_operation, call_table, row, operation, in_range}
use Rattle.chip.specs.Changes.{ticked}
use Rattle.chip.specs.Effects.{nothing_read, reading, effect, memory_after}
use Rattle.chip.specs.Answers.{done_with}
use Rattle.chip.specs.Refusals.{operands_fit, asks, call_tests, number}
use Rattle.chip.specs.Calls.{read_in, effect_in, chip_after, given_with, chip_with}
use Rattle.chip.proofs.Stays.{fresh_well_formed}
use Rattle.picture.specs.Book.{note, blank}
use Rattle.picture.specs.Transfers.{no_transfers}
use Rattle.picture.specs.Flat.{picture_after, flat_read, flat_fresh}
use Rattle.picture.specs.Premises.{Keeps}
use Rattle.picture.specs.Drawing.{World, start, number_in, next, after, Fair}
use Rattle.picture.specs.Display.{Untouched, DisplayShowsPicture}
use Rattle.picture.specs.Samples.{LineShown}
use Rattle.picture.proofs.Holds.{replicate_any}
use Rattle.picture.proofs.Nexts.{world_of}
use Rattle.picture.proofs.Shared.{build, done_next}
use Rattle.picture.proofs.Ready.{formed_number, number_formed, done_ready}
use Rattle.picture.proofs.Display.{display_shows_picture}
use Rattle.picture.proofs.Samples.{pages_fit_lem}

-- the two calls
abbrev opening : Call
opening = ask 1 0 0 0 0 0

abbrev transfer : Call
transfer = ask 16 0 3 0 0 0

third_line : (P j : ℕ) → place P 0 0 (on_line 3 j) ≡ 240 + j
unfolding place bank_start in_bank on_line
third_line P j = omega arith

module _ (P : ℕ) (memory : List ℕ) (fit : pages_fit P ≡ true) (page : ltb 0 P ≡ true) (sized : length memory ≡ size P) where
  -- the page is opened, with any number of tags: on the chip, and on the flat picture
  open_done : (n : ℕ) → number slots (fresh_control n P) (length memory) opening ≡ 0
  unfolding slots formed_number first call_tests operands_fit is_operation row call_table operation in_range asks is_closed open_page closed fresh_control
  open_done n = number_formed slots (fresh_control n P) memory opening (fresh_well_formed n P fit, sized) ∙ rw page

  -- then, with this chip, memory and the picture are as they were, and no bytes wait
  abbrev w : World
  w = next slots (start slots P memory) opening

  abbrev k : Chip
  k = chip_after (fresh_with slots P) memory (effect_in slots (fresh_with slots P) opening)

  open_left : w ≡ build k memory (blank slots) memory w.flat.transfers
  unfolding start flat_fresh build world_of fresh_with fresh_control operation row call_table memory_after picture_after effect note read_in reading flat_read
  open_left = done_next slots (fresh_with slots P) memory (blank slots) memory no_transfers opening (open_done slots) (open_done 0) refl

  -- the transfer is done, and leaves counter and select
  transfer_done : number slots k.control (length memory) transfer ≡ 0
  unfolding slots formed_number first call_tests operands_fit is_operation row call_table operation in_range asks in_use buffer_of is_closed open_page closed fresh_with fresh_control fresh_scan effect ticked memory_after
  transfer_done = number_formed slots k.control memory transfer (done_ready slots (fresh_control slots P) [] memory opening nothing_read (open_done slots))

  scan_left : (next slots (build k memory (blank slots) memory w.flat.transfers) transfer).chip.control.scan ≡ fresh_scan
  unfolding next number_in chip_with build world_of fresh_with fresh_control effect operation row call_table ticked
  scan_left = rw transfer_done

  shown : Bytes memory → let v = next slots w transfer in
      given_with slots v.chip v.memory (ask 17 0 0 0 0 0) ≡ done_with (get_or memory 240 0 + get_or memory 241 0 * 2 ^ 8) 0 0
  unfolding DisplayShowsPicture Untouched after Fair Keeps operation row call_table number_in blank build world_of fresh_scan buffer_of open_page effect fresh_with fresh_control ticked
  shown bytes =
      let shows = rw open_left at (display_shows_picture slots P memory (opening ∷ []) [] 0 3 bytes sized (λ z. tt, tt)) in
      let byte : ℕ → ℕ = λ j. get_or memory (place P 0 0 (on_line 3 j)) 0 in
      rw open_left (shows transfer_done (replicate_any {A = ℕ} slots 0) tt (ap (λ (s : Scan). s.select) scan_left)
      ∙ ap (λ (s : Scan). done_with (byte (2 * s.counter) + byte (2 * s.counter + 1) * 2 ^ 8) 0 0) scan_left
      ∙ rw (third_line P 0, third_line P 1))

pub line_shown : LineShown
unfolding LineShown after
line_shown P memory low high bytes sized = shown P memory (pages_fit_lem P low high) (lt-ltb 0 P low) sized bytes
