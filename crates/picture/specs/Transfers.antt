-- 02, T-01: "Demand 3 reads video bytes from memory as it stood at the last done transfer into that buffer, and as 0 before one". Assumes nothing.
use Rattle.std.specs.Prelude.{List, ℕ, get_or, set, replicate}
use Rattle.layout.specs.Memory.{place, on_line}
use Rattle.chip.specs.Video.{buffer_of}
use Rattle.chip.specs.Effects.{Move, still, copy, load, back, paint, transfer}

-- the last done transfer into a video buffer: there was none, or it was of this scan line, from memory as it stood then
pub data Transfer : Type 0 where
  never : Transfer
  last : (memory : List ℕ) (bank page line : ℕ) → Transfer

-- byte j of that buffer, with P pages to a bank
unfoldable pub transfer_byte : ℕ → Transfer → ℕ → ℕ
-- "and as 0 before one"
transfer_byte P never j = 0
-- "from memory as it stood"
transfer_byte P (last memory bank page line) j = get_or memory (place P bank page (on_line line j)) 0

-- byte j of a buffer, where these are the last transfers into the buffers
unfoldable pub shown_byte : ℕ → List Transfer → ℕ → ℕ → ℕ
shown_byte P transfers buffer j = transfer_byte P (get_or transfers buffer never) j

-- 02, T-01: two video buffers
unfoldable pub no_transfers : List Transfer
no_transfers = replicate 2 never

-- the last transfers after a call that is done, by what the call moves:
-- a video transfer is the last into its buffer, of memory as the call finds it;
-- after any other call they are the same
unfoldable pub transfers_after : List ℕ → List Transfer → Move → List Transfer
transfers_after memory transfers still = transfers
transfers_after memory transfers (copy bank from to) = transfers
transfers_after memory transfers (load bank page block slot) = transfers
transfers_after memory transfers (back bank page block slot mask tag) = transfers
transfers_after memory transfers (paint w slot old) = transfers
-- 02, T-01: banks 0 and 2 feed buffer 0, banks 1 and 3 feed buffer 1
transfers_after memory transfers (transfer bank page line) = set transfers (buffer_of bank) (last memory bank page line)
