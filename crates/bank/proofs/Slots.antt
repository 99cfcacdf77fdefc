-- A slot lies inside the pixels, and a word of it lies there as a word of bytes. Assumes nothing.
use mathlib.Core.Path.{◌≡◌}
use mathlib.Core.List.{List}
use Prim.Native.Nat.{ℕ, ◌+◌, ◌*◌, ◌<◌}
use native.Mathlib.Nat.{add_assoc}
use native.Mathlib.Omega.{arith}
use lib.ListN.{get_or}
use Rattle.bits.specs.Bits.{word_in}
use Rattle.lists.specs.Words.{word_at}
use Rattle.bank.specs.Work.{in_slot}

-- word w of a slot, in the pixels
pub word_in_slot : (pixels : List ℕ) (slot w : ℕ) → word_in (λ i. get_or pixels (in_slot slot i) 0) w ≡ word_at pixels (slot * 32 + 4 * w)
unfolding word_in word_at in_slot
word_in_slot pixels slot w = simp add_assoc

-- eight slots fill 256 bytes
pub slot_inside : (slot : ℕ) → slot < 8 → (i : ℕ) → i < 32 → in_slot slot i < 256
unfolding in_slot
slot_inside slot h i l = omega arith
