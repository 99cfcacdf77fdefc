-- 02, T-01: scan-out to the display: two video buffers, a counter and a select. Assumes nothing.
use Rattle.std.specs.Prelude.{ℕ, ◌+◌, ◌-◌, ◌*◌, ◌%◌, ◌^◌, Bool, cond, not, ◌&&◌, List, replicate, ◌==◌, nat_le, slice_index}
use Rattle.bank.specs.Work.{in_buffer}
use Rattle.chip.specs.declared.Scan.{Scan}

-- 02, T-01: two video buffers of 80 bytes
abbrev pub video_bytes : ℕ
video_bytes = 160

-- 02, T-01: buffers, counter and select start as 0
unfoldable pub fresh_video : List ℕ
fresh_video = replicate video_bytes 0

unfoldable pub fresh_scan : Scan
fresh_scan = record { counter = 0; select = 0 }

-- 02, T-01: a stored counter above 39 or select above 1 gives 1
unfoldable pub scan_fits : Scan → Bool
scan_fits v = nat_le v.counter 39 && nat_le v.select 1

-- ---- the transfer

-- 02, T-01: banks 0 and 2 feed buffer 0, banks 1 and 3 feed buffer 1
unfoldable pub buffer_of : ℕ → ℕ
buffer_of bank = bank % 2

-- 02, T-01: a transfer into the selected buffer while the counter isn't 0
unfoldable pub in_use : Scan → ℕ → Bool
in_use v bank = buffer_of bank == v.select && not (v.counter == 0)

-- ---- the clock

-- byte j of a video buffer
unfoldable pub video_byte : List ℕ → ℕ → ℕ → ℕ
video_byte video buffer j = slice_index video (in_buffer buffer j)

-- 02, T-01: two bytes of the selected buffer, at twice the counter and the next, as a value with the lower column in bits 7:0, where byte j of
-- a buffer is `byte_of buffer j`
unfoldable pub put_out : Scan → (ℕ → ℕ → ℕ) → ℕ
put_out v byte_of = byte_of v.select (2 * v.counter) + byte_of v.select (2 * v.counter + 1) * 2 ^ 8

-- 02, T-01: a counter counts modulo 40
unfoldable pub counted : Scan → ℕ
counted v = (v.counter + 1) % 40

-- 02, T-01: and the buffer select toggles when it wraps
unfoldable pub clocked : Scan → Scan
clocked v = record { counter = counted v; select = cond (counted v == 0) (1 - v.select) v.select }
