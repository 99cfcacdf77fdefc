-- A call on a well formed block and a memory of its size, for an operation that is known: what its own line of document 01's tables says of it.
-- (What comes before, 01's numbers 1 to 3, is in `block_given` and its like: crate block, OnBlock.) Assumes nothing.
use Rattle.std.specs.Prelude.{Result, Ok, Err, Bool, cond, not, ◌&&◌, List, ℕ, ◌+◌, ◌*◌, ◌%◌, ◌^◌}
use Rattle.std.specs.Int.Bits.{bit_or}
use Rattle.numbers.specs.declared.Refusal.{Refusal}
use Rattle.numbers.specs.declared.Refusal.TheVariants.{BankClosed}
use Rattle.numbers.specs.Numbers.{first, when_done}
use Rattle.lists.specs.Words.{put_word}
use Rattle.pixel.specs.declared.Write.{Write}
use Rattle.pixel.specs.declared.Outcome.{Outcome}
use Rattle.bank.specs.Work.{in_slot}
use Rattle.chip.specs.declared.Call.{Call}
use Rattle.chip.specs.State.{slots, open_page, is_closed}
use Rattle.chip.specs.Changes.{tag_of}
use Rattle.chip.specs.Effects.{Effect, memory_after}
use Rattle.chip.specs.Answers.{GivenBack, numbered, effect_given}
use Rattle.chip.specs.Refusals.{call_tests}
use Rattle.chip.specs.Calls.{effect_in, chip_after}
use Rattle.block.specs.Block.{flags_at, pixels_at, encode, decode_control, decode, put_tag, ticked_in}

-- its number: 4 to 7 or 10, or 0
unfoldable pub own_number : List ℕ → Call → ℕ
own_number s x = first (call_tests slots (decode_control s) x)

-- 01, Numbers, 7: the page that is open in a bank; none in a closed one
unfoldable pub opened_in : List ℕ → ℕ → Result ℕ Refusal
opened_in s bank = let banks = (decode_control s).banks in cond (is_closed banks bank) (Err BankClosed) (Ok (open_page banks bank))

-- what it does, if it is done
abbrev pub own_effect : List ℕ → Call → Effect
own_effect s x = effect_in slots (decode s) x

unfoldable pub own_given : List ℕ → Call → GivenBack
own_given s x = when_done (own_number s x) (effect_given (own_effect s x)) (numbered (own_number s x))

-- the block after it, and the memory
unfoldable pub own_block : List ℕ → List ℕ → Call → List ℕ
own_block s memory x = when_done (own_number s x) (encode (chip_after (decode s) memory (own_effect s x))) s

unfoldable pub own_memory : List ℕ → List ℕ → Call → List ℕ
own_memory s memory x = when_done (own_number s x) (memory_after (decode_control s) (decode s).pixels memory (own_effect s x).move) memory

-- ---- a data write's outcome, put into the block

-- hit set, where picking is on and the write sets it
unfoldable pub hit_marked : Bool → List ℕ → List ℕ
hit_marked hits s = cond ((decode_control s).picking && hits) (put_word flags_at 3 s) s

-- the destination's word and tag, hit, and the counter
unfoldable pub settled : Write → ℕ → ℕ → Outcome → List ℕ → List ℕ
settled w slot at o s =
    let tag = bit_or (cond w.initial 0 (tag_of (decode_control s) slot)) (o.taken * 2 ^ (4 * at) % 2 ^ 32) in
    ticked_in (hit_marked (not w.stateless && o.written) (put_tag slot tag (put_word (pixels_at + in_slot slot (4 * at)) o.word s)))
