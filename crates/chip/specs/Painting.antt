-- 01, Data write: what it does to the destination's bytes and to its tag. Assumes nothing.
use Rattle.std.specs.Prelude.{ℕ, ◌+◌, ◌*◌, ◌/◌, ◌%◌, ◌&&◌, ◌||◌, List, ◌==◌}
use Rattle.bits.specs.Bits.{bit, word}
use Rattle.pixel.specs.declared.Write.{Write}
use Rattle.pixel.specs.Writes.{into_word, taken, new_byte}
use Rattle.lists.specs.Update.{update}

-- 01, Data write: the destination's four bytes, where byte i of the destination slot lies at `home i`
unfoldable pub painted : List ℕ → Write → ℕ → (ℕ → ℕ) → List ℕ → List ℕ
painted registers w old home l = update 4 (λ n. home (4 * into_word registers w + n)) (new_byte registers w old) l

-- 01, Chip state: tag bit 4w+b is byte b of word w. These bits, set
unfoldable pub marked : ℕ → ℕ → ℕ → ℕ
marked tag w bytes = word 32 (λ k. bit tag k || (k / 4 == w && bit bytes (k % 4)))

-- 01, Data write: its tag bit is set even if that mask byte is 0
unfoldable pub tag_with : List ℕ → Write → ℕ → ℕ → ℕ
tag_with registers w old tag = marked tag (into_word registers w) (taken registers w old)
