-- The display shows the flat picture: a transfer takes its bytes from memory, which is the picture where no bytes wait; later calls leave them, and
-- leave the chip ready, so that the clock is done. Assumes nothing.
use mathlib.Core.Path.{◌≡◌, refl, sym, ap, ap₂, ◌∙◌}
use mathlib.Core.Logic.{◌≢◌}
use mathlib.Core.List.{List, [], ◌∷◌}
use Prim.Native.Nat.{ℕ, zero, suc, ◌+◌, ◌*◌, ◌^◌, ◌≤◌, ◌<◌}
use native.Mathlib.Omega.{arith}
use lib.ListN.{get_or, length}
use Rattle.layout.specs.Memory.{place, on_line}
use Rattle.chip.specs.declared.Scan.{Scan}
use Rattle.chip.specs.declared.Control.{Control}
use Rattle.chip.specs.declared.Call.{Call}
use Rattle.chip.specs.Video.{video_bytes, buffer_of, video_byte, put_out}
use Rattle.chip.specs.State.{open_page}
use Rattle.chip.specs.Operations.{ask, Operation, access, precharge, duplicate, read_block, write_block, data_read, data_write, write_tag, write_register, read_register, video_transfer, video_clock, unknown, call_table, row, operation}
use Rattle.chip.specs.Effects.{Reading, effect, video_after}
use Rattle.chip.specs.Answers.{done_with}
use Rattle.chip.specs.Refusals.{number}
use Rattle.chip.specs.Calls.{read_in, chip_with, memory_with}
use Rattle.chip.proofs.FortyClocks.{clock_gives}
use Rattle.chip.proofs.Accepted.{scan_fits_lem}
use Rattle.picture.specs.Drawing.{World, start, number_in, next, after}
use Rattle.picture.specs.Display.{Untouched, DisplayShowsPicture}
use Rattle.picture.proofs.Holds.{memory_is_picture}
use Rattle.picture.proofs.Buffers.{transferred_same, transferred_other}
use Rattle.picture.proofs.Ready.{Ready, done_ready}
use Rattle.picture.proofs.Agree.{start_holds, run_holds}

-- the operation is no transfer into the buffer
abbrev Other : ℕ → Operation → Type 0
Other buffer o = (bank line : ℕ) → o ≡ video_transfer bank line → buffer_of bank ≢ buffer

module _ (n : ℕ) where
  -- ---- a call that is no transfer into a buffer leaves its bytes, and the chip ready

  move_leaves : (c : Control) (r : Reading) (m video : List ℕ) (buffer j : ℕ) → j < 80 → (o : Operation) → Other buffer o
      → video_byte (video_after c video m (effect n c o r).move) buffer j ≡ video_byte video buffer j
  unfolding video_after effect
  move_leaves c r m video buffer j hj (access b p) other = refl
  move_leaves c r m video buffer j hj (precharge b) other = refl
  move_leaves c r m video buffer j hj (duplicate b p) other = refl
  move_leaves c r m video buffer j hj (read_block b k s) other = refl
  move_leaves c r m video buffer j hj (write_block masked b k s) other = refl
  move_leaves c r m video buffer j hj (data_read s w) other = refl
  move_leaves c r m video buffer j hj (data_write w) other = refl
  move_leaves c r m video buffer j hj (write_tag replace s x) other = refl
  move_leaves c r m video buffer j hj (write_register a v) other = refl
  move_leaves c r m video buffer j hj (read_register a) other = refl
  move_leaves c r m video buffer j hj (video_transfer b l) other = transferred_other _ (buffer_of b) m video buffer j (λ e. other b l refl (sym e)) hj
  move_leaves c r m video buffer j hj video_clock other = refl
  move_leaves c r m video buffer j hj unknown other = refl

  -- from w to v
  abbrev Left : ℕ → World → World → Type 0
  Left buffer w v = Ready v.chip.control v.memory × ((j : ℕ) → j < 80 → video_byte v.chip.video buffer j ≡ video_byte w.chip.video buffer j)

  call_leaves : (buffer : ℕ) (w : World) (x : Call) → Ready w.chip.control w.memory → (number_in n w x ≡ 0 → Other buffer (operation x))
      → Left buffer w (next n w x)
  unfolding next number_in chip_with memory_with
  call_leaves buffer w x ready other = go (number n w.chip.control (length w.memory) x) refl
    where
      go : (r : ℕ) → number n w.chip.control (length w.memory) x ≡ r → Left buffer w (next n w x)
      go zero e =
          let r = read_in n w.chip x in
          rw e (
            done_ready n w.chip.control w.chip.pixels w.memory x r e,
            λ j hj. move_leaves w.chip.control r w.memory w.chip.video buffer j hj (operation x) (other e),
          )
      go (suc r) e = rw e (ready, λ j hj. refl)

  calls_leave : (buffer : ℕ) (xs : List Call) (w : World) → Ready w.chip.control w.memory → Untouched n buffer w xs → Left buffer w (after n w xs)
  unfolding after Untouched
  calls_leave buffer [] w ready others = (ready, λ j hj. refl)
  calls_leave buffer (x ∷ xs) w ready (other, others) =
      let one = call_leaves buffer w x ready other in
      let rest = calls_leave buffer xs (next n w x) one.0 others in
      (rest.0, λ j hj. rest.1 j hj ∙ one.1 j hj)

  -- ---- the transfer

  -- after a transfer its buffer has the scan line of memory, and the chip is ready
  transfer_done : (w : World) (bank line : ℕ) → length w.chip.video ≡ video_bytes → number_in n w (ask 16 bank line 0 0 0) ≡ 0
      → let v = next n w (ask 16 bank line 0 0 0) in
      Ready v.chip.control v.memory
      × ((j : ℕ) → j < 80 → video_byte v.chip.video (buffer_of bank) j
      ≡ get_or w.memory (place w.chip.control.pages bank (open_page w.chip.control.banks bank) (on_line line j)) 0)
  unfolding next number_in chip_with memory_with video_after effect operation row call_table
  transfer_done w bank line sized done = rw done (
    done_ready n w.chip.control w.chip.pixels w.memory (ask 16 bank line 0 0 0) (read_in n w.chip (ask 16 bank line 0 0 0)) done,
    λ j hj. transferred_same _ (buffer_of bank) w.memory w.chip.video j sized (unfold buffer_of in (omega arith)) hj,
  )

-- what is put out of a buffer of these bytes
bytes_out_lem : (v : Scan) (video : List ℕ) (buffer : ℕ) (byte : ℕ → ℕ) → v.counter ≤ 39 → v.select ≡ buffer
    → ((j : ℕ) → j < 80 → video_byte video buffer j ≡ byte j) → put_out v (video_byte video) ≡ byte (2 * v.counter) + byte (2 * v.counter + 1) * 2 ^ 8
unfolding put_out
bytes_out_lem v video buffer byte fits selected bytes = rw (selected, bytes (2 * v.counter) (omega arith), bytes (2 * v.counter + 1) (omega arith))

pub display_shows_picture : DisplayShowsPicture
unfolding DisplayShowsPicture
display_shows_picture n P memory before later bank line fit sized fair done none others selected =
    let x = ask 16 bank line 0 0 0 in
    let w = after n (start n P memory) before in
    let v = after n (next n w x) later in
    let i = run_holds n P before (start n P memory) (start_holds n P memory fit sized) fair in
    let taken = transfer_done n w bank line i.shows.video_length done in
    let left = calls_leave n (buffer_of bank) later (next n w x) taken.0 others in
    let byte : List ℕ → ℕ → ℕ → ℕ = λ l P' j. get_or l (place P' bank (open_page w.chip.control.banks bank) (on_line line j)) 0 in
    let same : (j : ℕ) → j < 80 → video_byte v.chip.video (buffer_of bank) j ≡ byte w.flat.picture P j = λ j hj.
    left.1 j hj ∙ taken.1 j hj ∙ ap₂ (λ (l : List ℕ) (P' : ℕ). byte l P' j) (memory_is_picture i.holds none) i.pages in
    clock_gives v.chip v.memory left.0.0 left.0.1 n
    ∙ ap (λ (value : ℕ). done_with value 0 0)
    (bytes_out_lem v.chip.control.scan v.chip.video (buffer_of bank) _ (scan_fits_lem v.chip.control left.0.0).0 selected same)
