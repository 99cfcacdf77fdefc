-- The laws of a number of 16 or of 32 bits in a list of bytes: its bytes, a part's, and a loop that puts words. Assumes nothing.
use mathlib.Core.Path.{◌≡◌, sym, ap, ◌∙◌}
use mathlib.Core.List.{List, [], ◌∷◌}
use Prim.Native.Nat.{ℕ, zero, suc, ◌+◌, ◌*◌, ◌^◌, ◌<◌}
use native.Mathlib.Nat.{add-zero, zero-add, add_assoc, mul-add}
use native.Mathlib.Omega.{arith}
use lib.Dec.{lit<}
use lib.ListN.{length, get_or, take, drop}
use lib.Seq.{get_or-take, get_or-drop}
use Rattle.bits.specs.Bits.{byte, word_in}
use Rattle.bits.proofs.Bytes.{joined_lt, byte_word_in}
use Rattle.lists.specs.Update.{update}
use Rattle.lists.specs.Words.{Bytes, half_at, word_at, put_word}
use Rattle.lists.proofs.Updates.{length_update, update_at, update_ext, update_more, update_none}

-- ---- a number is its bytes

module _ (s : List ℕ) (p : ℕ) (bytes : Bytes s) where
  pub half_at_lt : half_at s p < 2 ^ 16
  unfolding half_at
  half_at_lt = omega (arith, bytes p, bytes (p + 1))

  pub word_at_lt : word_at s p < 2 ^ 32
  unfolding word_at
  word_at_lt = joined_lt _ _ _ _ (bytes p) (bytes (p + 1)) (bytes (p + 2)) (bytes (p + 3))

  -- byte n of the word at p
  pub byte_word_at : (n : ℕ) → n < 4 → byte (word_at s p) n ≡ get_or s (p + n) 0
  unfolding word_at word_in
  byte_word_at n h = rw (add-zero p, zero-add n) at (byte_word_in (λ i. get_or s (p + i) 0) 0 n (λ i. bytes (p + i)) h)

-- a part's bytes are bytes
front_bytes : (n : ℕ) (l : List ℕ) → Bytes l → (a : ℕ) → get_or (take n l) a 0 < 2 ^ 8
front_bytes zero l bytes a = lit< tt
front_bytes (suc n) [] bytes a = lit< tt
front_bytes (suc n) (x ∷ l) bytes zero = bytes 0
front_bytes (suc n) (x ∷ l) bytes (suc a) = front_bytes n l (λ b. bytes (suc b)) a

pub part_bytes : (k n : ℕ) (s : List ℕ) → Bytes s → (a : ℕ) → get_or (take n (drop k s)) a 0 < 2 ^ 8
part_bytes k n s bytes = front_bytes n (drop k s) (λ a. rw (get_or-drop k s a 0) (bytes (k + a)))

-- a part's word is the whole's
pub word_part : (k n q : ℕ) (s : List ℕ) → q + 3 < n → word_at (take n (drop k s)) q ≡ word_at s (k + q)
unfolding word_at
word_part k n q s h = rw (
  get_or-take n (drop k s) q 0 (omega arith),
  get_or-take n (drop k s) (q + 1) 0 (omega arith),
  get_or-take n (drop k s) (q + 2) 0 (omega arith),
  get_or-take n (drop k s) (q + 3) 0 (omega arith),
) (simp (get_or-drop, add_assoc))

-- a word put leaves the length
pub length_put_word : (p x : ℕ) (s : List ℕ) → length (put_word p x s) ≡ length s
unfolding put_word
length_put_word p x s = length_update 4 (λ n. p + n) (λ n was. byte x n) s

-- ---- a word put is four bytes updated

-- where byte n of x is what the rule makes of the byte at a + n
pub word_at_once : (a x : ℕ) (at : ℕ → ℕ) (v : ℕ → ℕ → ℕ) (l : List ℕ) → ((n : ℕ) → n < 4 → at n ≡ a + n)
    → ((n : ℕ) → n < 4 → byte x n ≡ v n (get_or l (a + n) 0)) → put_word a x l ≡ update 4 at v l
unfolding put_word
word_at_once a x at v l here q =
    update_ext 4 (λ n. a + n) (λ n was. byte x n) v l (λ i j hi hj e. omega arith) q
    ∙ update_at 4 (λ n. a + n) at v l (λ n h. sym (here n h))

-- one turn of a loop that goes word by word
module _ (w : ℕ) (at : ℕ → ℕ) (v : ℕ → ℕ → ℕ) (l part : List ℕ) (e : part ≡ update (4 * w) at v l) where
  next_word : update 4 (λ n. at (4 * w + n)) (λ n. v (4 * w + n)) part ≡ update (4 * (w + 1)) at v l
  next_word =
      ap (update 4 (λ n. at (4 * w + n)) (λ n. v (4 * w + n))) e
      ∙ sym (update_more (4 * w) 4 at v l)
      ∙ ap (λ (m : ℕ). update m at v l) (sym (mul-add 4 w 1))

  -- that puts the word
  pub word_turn : (a x : ℕ) → ((n : ℕ) → n < 4 → at (4 * w + n) ≡ a + n)
      → ((n : ℕ) → n < 4 → byte x n ≡ v (4 * w + n) (get_or part (a + n) 0)) → put_word a x part ≡ update (4 * (w + 1)) at v l
  word_turn a x here q = word_at_once a x (λ n. at (4 * w + n)) (λ n. v (4 * w + n)) part here q ∙ next_word

  -- that skips it, as the rule leaves its four bytes
  pub skip_turn : ((n : ℕ) → n < 4 → v (4 * w + n) (get_or part (at (4 * w + n)) 0) ≡ get_or part (at (4 * w + n)) 0)
      → part ≡ update (4 * (w + 1)) at v l
  skip_turn left = sym (update_none 4 (λ n. at (4 * w + n)) (λ n. v (4 * w + n)) part left) ∙ next_word
