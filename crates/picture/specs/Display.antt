-- 02, T-01: the display shows the flat picture, where no bytes wait at the transfer. Assumes nothing.
use Rattle.std.specs.Prelude.{◌≡◌, ◌≢◌, List, [], ◌∷◌, ℕ, ◌+◌, ◌*◌, ◌^◌, get_or, length}
use Rattle.lists.specs.Words.{Bytes}
use Rattle.layout.specs.Memory.{size, place, on_line}
use Rattle.chip.specs.declared.Call.{Call}
use Rattle.chip.specs.Video.{buffer_of}
use Rattle.chip.specs.State.{open_page}
use Rattle.chip.specs.Operations.{ask, video_transfer, operation}
use Rattle.chip.specs.Answers.{done_with}
use Rattle.chip.specs.Calls.{given_with}
use Rattle.picture.specs.Book.{NoneWaits}
use Rattle.picture.specs.Drawing.{World, start, number_in, next, after, Fair}

-- no done call of the list is a transfer into the buffer
unfoldable pub Untouched : ℕ → ℕ → World → List Call → Type 0
Untouched n buffer w [] = Unit {0}
Untouched n buffer w (x ∷ xs) =
    (number_in n w x ≡ 0 → (bank line : ℕ) → operation x ≡ video_transfer bank line → buffer_of bank ≢ buffer) × Untouched n buffer (next n w x) xs

-- what a video clock puts out from a transfer at which no bytes waited is the flat picture's, as it stood then
unfoldable pub DisplayShowsPicture : Type 0
DisplayShowsPicture = (n P : ℕ) (memory : List ℕ) (before later : List Call) (bank line : ℕ)
    -- calls as in demand 3
    → Bytes memory
    → length memory ≡ size P
    → Fair n (start n P memory) before
    -- then a transfer that is done, when no bytes wait
    → let transfer = ask 16 bank line 0 0 0 in
    let w = after n (start n P memory) before in
    number_in n w transfer ≡ 0
    → NoneWaits w.book
    -- then any calls, but no transfer into the same buffer that is done
    → Untouched n (buffer_of bank) (next n w transfer) later
    -- then a clock, when that buffer is selected
    → let v = after n (next n w transfer) later in
    v.chip.control.scan.select ≡ buffer_of bank
    -- it is done, and puts out the scan line's bytes of the picture at the transfer: at twice the counter and the next, the lower column in bits 7:0
    → let byte : ℕ → ℕ = λ j. get_or w.flat.picture (place P bank (open_page w.chip.control.banks bank) (on_line line j)) 0 in
    let k = v.chip.control.scan.counter in
    given_with n v.chip v.memory (ask 17 0 0 0 0 0) ≡ done_with (byte (2 * k) + byte (2 * k + 1) * 2 ^ 8) 0 0
