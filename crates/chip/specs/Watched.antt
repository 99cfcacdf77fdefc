-- 02, T-01: scan-out, by example: a display that is watched. Proved in proofs/Examples.antt. Assumes nothing.
use Rattle.std.specs.Prelude.{◌≡◌, ℕ, false, List, [], ◌∷◌, ◌++◌, take, replicate}
use Rattle.pixel.specs.Registers.{fresh_registers}
use Rattle.chip.specs.declared.Chip.{Chip}
use Rattle.chip.specs.State.{closed}
use Rattle.chip.specs.Operations.{ask}
use Rattle.chip.specs.Answers.{done_with}
use Rattle.chip.specs.Calls.{call_given, chip_of}

-- a chip of one page a bank, open in banks 0 and 1, with this counter and select; buffer 0 ends with 1 and 2, buffer 1 begins with 3 and 4
unfoldable pub watched : ℕ → ℕ → Chip
watched counter select = record {
  control = record {
    pages = 1;
    banks = 0 ∷ 0 ∷ closed ∷ closed ∷ [];
    registers = fresh_registers;
    picking = false;
    hit = false;
    counter = 0;
    tags = replicate 8 0;
    scan = record { counter = counter; select = select };
  };
  pixels = replicate 256 0;
  video = replicate 78 0 ++ (1 ∷ 2 ∷ 3 ∷ 4 ∷ replicate 78 0);
}

-- a memory of zeros, but for scan line 5 of bank 1's page: 80 bytes of 7
unfoldable pub lined : List ℕ
lined = replicate 1680 0 ++ (replicate 80 7 ++ replicate 3360 0)

unfoldable pub Watched : Type 0
Watched =
    -- two bytes of the selected buffer, the lower column in bits 7:0; then the counter wraps and the select toggles
    (call_given (watched 39 0) lined (ask 17 0 0 0 0 0) ≡ done_with 0x0201 0 0)
    × ((chip_of (watched 39 0) lined (ask 17 0 0 0 0 0)).control.scan ≡ record { counter = 0; select = 1 })
    -- at counter 0 of buffer 1 it only counts
    × (call_given (watched 0 1) lined (ask 17 0 0 0 0 0) ≡ done_with 0x0403 0 0)
    × ((chip_of (watched 0 1) lined (ask 17 0 0 0 0 0)).control.scan ≡ record { counter = 1; select = 1 })
    -- bank 1 feeds buffer 1, while buffer 0 is put out
    × ((chip_of (watched 5 0) lined (ask 16 1 5 0 0 0)).video ≡ take 80 (watched 5 0).video ++ replicate 80 7)
    × ((chip_of (watched 5 0) lined (ask 16 1 5 0 0 0)).control.scan ≡ record { counter = 5; select = 0 })
    -- a transfer into the selected buffer while the counter isn't 0: 10; at counter 0: done
    × ((call_given (watched 5 0) lined (ask 16 0 0 0 0 0)).number ≡ 10)
    × ((call_given (watched 0 0) lined (ask 16 0 0 0 0 0)).number ≡ 0)
    -- after 7: bank 2 is closed, and feeds the selected buffer
    × ((call_given (watched 5 0) lined (ask 16 2 0 0 0 0)).number ≡ 7)
    -- line 16, and an operand that a video clock has not: 4
    × ((call_given (watched 5 0) lined (ask 16 2 16 0 0 0)).number ≡ 4)
    × ((call_given (watched 5 0) lined (ask 17 1 0 0 0 0)).number ≡ 4)
    -- number 3 now means not 1 to 17
    × ((call_given (watched 5 0) lined (ask 18 0 0 0 0 0)).number ≡ 3)
    -- a counter above 39, a select above 1: 1
    × ((call_given (watched 40 0) lined (ask 17 0 0 0 0 0)).number ≡ 1)
    × ((call_given (watched 0 2) lined (ask 17 0 0 0 0 0)).number ≡ 1)
