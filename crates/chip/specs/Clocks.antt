-- 02, T-01: what forty video clocks put out, as a statement. Proved in proofs/FortyClocks.antt. Assumes nothing.
use Rattle.std.specs.Prelude.{◌≡◌, ℕ, ◌-◌, ◌*◌, true, List, [], ◌∷◌, length, take, drop, replicate}
use Rattle.bits.specs.Bits.{byte}
use Rattle.lists.specs.Words.{Bytes}
use Rattle.layout.specs.Memory.{size}
use Rattle.chip.specs.declared.Call.{Call}
use Rattle.chip.specs.declared.Chip.{Chip}
use Rattle.chip.specs.Operations.{ask}
use Rattle.chip.specs.Video.{video_bytes}
use Rattle.chip.specs.State.{well_formed}
use Rattle.chip.specs.Answers.{GivenBack}
use Rattle.chip.specs.Calls.{chip_of, memory_of, given_each}

-- so many video clocks
abbrev pub clocks : ℕ → List Call
clocks n = replicate n (ask 17 0 0 0 0 0)

-- the bytes that they put out: the lower column in bits 7:0
unfoldable pub bytes_out : List GivenBack → List ℕ
bytes_out [] = []
bytes_out (g ∷ rest) = byte g.value 0 ∷ byte g.value 1 ∷ bytes_out rest

-- the chip that a list of calls leaves, each made on what the last left
unfoldable pub chip_each : Chip → List ℕ → List Call → Chip
chip_each chip memory [] = chip
chip_each chip memory (x ∷ xs) = chip_each (chip_of chip memory x) (memory_of chip memory x) xs

-- 02, T-01: forty clocks from counter 0 put out the selected buffer's 80 bytes in order, and leave counter 0 and the other buffer selected.
-- (Arrays that code holds are of bytes and have their length)
unfoldable pub FortyClocks : Type 0
FortyClocks = (chip : Chip) (memory : List ℕ) → well_formed chip.control ≡ true → length memory ≡ size chip.control.pages
    → Bytes chip.video → length chip.video ≡ video_bytes
    → chip.control.scan.counter ≡ 0
    → (bytes_out (given_each chip memory (clocks 40)) ≡ take 80 (drop (80 * chip.control.scan.select) chip.video))
    × ((chip_each chip memory (clocks 40)).control.scan ≡ record { counter = 0; select = 1 - chip.control.scan.select })
