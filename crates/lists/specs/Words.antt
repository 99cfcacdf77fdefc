-- Numbers in a list of bytes, little endian: read at a place, put there, and one behind the other. Assumes nothing.
use Rattle.std.specs.Prelude.{List, [], ◌∷◌, ◌++◌, ℕ, zero, suc, ◌+◌, ◌*◌, ◌^◌, ◌<◌, get_or}
use Rattle.bits.specs.Bits.{byte, joined}
use Rattle.lists.specs.Update.{update}

-- a list of bytes
abbrev pub Bytes : List ℕ → Type 0
Bytes l = (a : ℕ) → get_or l a 0 < 2 ^ 8

-- ---- one number

-- 01, Chip state: stored little endian: the number of 16 bits at place p
unfoldable pub half_at : List ℕ → ℕ → ℕ
half_at s p = get_or s p 0 + get_or s (p + 1) 0 * 2 ^ 8

-- and x put there
unfoldable pub put_half : ℕ → ℕ → List ℕ → List ℕ
put_half p x s = update 2 (λ n. p + n) (λ n was. byte x n) s

-- 01, Memory: byte 0 of a word is its bits 7 to 0: the number of 32 bits at place p
unfoldable pub word_at : List ℕ → ℕ → ℕ
word_at s p = joined (get_or s p 0) (get_or s (p + 1) 0) (get_or s (p + 2) 0) (get_or s (p + 3) 0)

-- and x put there
unfoldable pub put_word : ℕ → ℕ → List ℕ → List ℕ
put_word p x s = update 4 (λ n. p + n) (λ n was. byte x n) s

-- ---- numbers of w bytes each, one behind the other

-- w bytes of a number, from its byte n up
unfoldable pub bytes_from : ℕ → ℕ → ℕ → List ℕ
bytes_from zero n x = []
bytes_from (suc w) n x = byte x n ∷ bytes_from w (suc n) x

unfoldable pub as_bytes : ℕ → List ℕ → List ℕ
as_bytes w [] = []
as_bytes w (x ∷ xs) = bytes_from w 0 x ++ as_bytes w xs

-- n of them, from place p on, where one is read so
unfoldable pub numbers_at : {A : Type 0} → ℕ → (List ℕ → ℕ → A) → ℕ → List ℕ → ℕ → List A
numbers_at w reads zero s p = []
numbers_at w reads (suc n) s p = reads s p ∷ numbers_at w reads n s (p + w)

-- of 16 bits
abbrev pub halves : List ℕ → List ℕ
halves xs = as_bytes 2 xs

abbrev pub halves_at : ℕ → List ℕ → ℕ → List ℕ
halves_at n s p = numbers_at 2 half_at n s p

-- of 32 bits
abbrev pub words : List ℕ → List ℕ
words xs = as_bytes 4 xs

abbrev pub words_at : ℕ → List ℕ → ℕ → List ℕ
words_at n s p = numbers_at 4 word_at n s p
