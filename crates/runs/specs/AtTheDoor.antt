-- Demand 3 at the C door: panel_fresh on a state block, then any list of panel_calls on it and a memory, each on what the last left. Assumes nothing.
use Rattle.std.specs.Prelude.{◌≡◌, Bool, cond, List, [], ◌∷◌, ℕ, ◌*◌, ◌/◌, ◌^◌, ◌<◌, length}
use Rattle.layout.specs.Memory.{size}
use Rattle.chip.specs.declared.Call.{Call}
use Rattle.chip.specs.Operations.{Operation, operation}
use Rattle.chip.specs.Answers.{packed}
use Rattle.block.specs.Block.{decode_control}
use Rattle.block.specs.OnBlock.{call_number, block_after, block_memory, fresh_block_number, fresh_block}
use Rattle.picture.specs.Book.{NoneWaits}
use Rattle.lists.specs.Words.{Bytes}
use Rattle.picture.specs.Drawing.{Seen, counts_tags}
use Rattle.runs.specs.Drawn.{Supposed, flat_after, seen_flat, book_after}

-- what is compared of the 64-bit number that a call answers: all but the value, bits 31:0, of a write-back
unfoldable pub number_seen : Operation → ℕ → ℕ
number_seen o number = cond (counts_tags o) (number / 2 ^ 32 * 2 ^ 32) number

-- what is seen of each call: its number, and the hit flag in the block after it
unfoldable pub door_seen : List ℕ → List ℕ → List Call → List (ℕ × Bool)
door_seen s memory [] = []
door_seen s memory (x ∷ xs) =
    (number_seen (operation x) (call_number s memory x), (decode_control (block_after s memory x)).hit)
    ∷ door_seen (block_after s memory x) (block_memory s memory x) xs

-- the memory that the calls leave
unfoldable pub door_memory : List ℕ → List ℕ → List Call → List ℕ
door_memory s memory [] = memory
door_memory s memory (x ∷ xs) = door_memory (block_after s memory x) (block_memory s memory x) xs

-- what is seen, as the door gives it
unfoldable pub as_numbers : List Seen → List (ℕ × Bool)
as_numbers [] = []
as_numbers (s ∷ rest) = (packed s.given, s.hit) ∷ as_numbers rest

-- each data word is of 32 bits, as C's uint32_t is. (Of operands it need not be known)
unfoldable pub DataFits : List Call → Type 0
DataFits [] = Unit {0}
DataFits (x ∷ xs) = (x.given < 2 ^ 32) × DataFits xs

-- the demand for blocks
unfoldable pub DoorDraws : Type 0
DoorDraws = (s : List ℕ) (P : ℕ) (memory : List ℕ) (calls : List Call)
    -- "Start fresh over any memory": panel_fresh is done, whatever the block held; memory as in `IsPicture`
    → fresh_block_number s P ≡ 0
    → Bytes memory
    → length memory ≡ size P
    -- "Suppose .."
    → DataFits calls
    → Supposed P memory calls
    -- "Then every read, pass and hit equals the flat picture's"
    → (door_seen (fresh_block s P) memory calls ≡ as_numbers (seen_flat P memory calls))
    -- "and once no bytes wait, memory is that picture in every byte"
    × (NoneWaits (book_after P memory calls) → door_memory (fresh_block s P) memory calls ≡ (flat_after P memory calls).picture)
