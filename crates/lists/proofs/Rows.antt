-- Numbers of w bytes each in a row: how long it is, one of them read or put, the row read back and written back. One law over the width;
-- of 16 and of 32 bits only how one number reads is shown. Assumes nothing.
use mathlib.Core.Path.{◌≡◌, refl, sym, ap, ap₂, ◌∙◌}
use mathlib.Core.List.{List, [], ◌∷◌, ◌++◌, flatten, append_assoc}
use Prim.Native.Nat.{ℕ, zero, suc, ◌+◌, ◌*◌, ◌^◌, ◌<◌, ◌≤◌}
use native.Mathlib.Omega.{arith}
use native.Mathlib.Nat.{add-zero, zero-add, add_assoc, mul-suc, mul-le-mul_left}
use lib.Dec.{lit<}
use lib.ListN.{length, get_or, set, take, drop, length-append}
use lib.Seq.{get_or-append_seam, get_or-append-add, take-add, drop-drop, drop-cons, ext_get_or}
use Rattle.bits.specs.Bits.{byte}
use Rattle.bits.proofs.Bytes.{join_bytes, byte_joined_0, byte_joined_1, byte_joined_2, byte_joined_3}
use Rattle.lists.specs.Update.{update}
use Rattle.lists.specs.Laws.{length_bytes, length_row}
use Rattle.lists.specs.Words.{Bytes, half_at, put_half, word_at, put_word, bytes_from, as_bytes, numbers_at, halves, words, halves_at, words_at}
use Rattle.lists.proofs.Updates.{length_update, update_same, update_at}
use Rattle.lists.proofs.Seams.{update_front, update_behind, start_of, put_in, split_at, start_long}
use Rattle.lists.proofs.Words.{half_at_lt, word_at_lt}

-- ---- the bytes of one number

get_or_bytes : (w n x k : ℕ) → k < w → get_or (bytes_from w n x) k 0 ≡ byte x (n + k)
unfolding bytes_from
get_or_bytes zero n x k h = absurd (omega arith)
get_or_bytes (suc w) n x zero h = ap (byte x) (sym (add-zero n))
get_or_bytes (suc w) n x (suc k) h = get_or_bytes w (suc n) x k (omega arith) ∙ ap (byte x) (omega arith)

-- bytes put over all of another number's
over : (w x y : ℕ) → update w (λ n. n) (λ n was. byte x n) (bytes_from w 0 y) ≡ bytes_from w 0 x
over w x y =
    let long = length_update w (λ n. n) (λ n was. byte x n) (bytes_from w 0 y) ∙ length_bytes w 0 y in
    ext_get_or 0 _ (bytes_from w 0 x) (long ∙ sym (length_bytes w 0 x))
    (λ i h. let below : i < w = omega (arith, long, h) in
    update_same w (λ n. n) (λ n was. byte x n) (bytes_from w 0 y) (λ a b ha hb e. e) (λ a ha. omega (arith, length_bytes w 0 y)) i below
    ∙ ap (byte x) (sym (zero-add i)) ∙ sym (get_or_bytes w 0 x i below))

-- ---- a row

pub length_row_at : (w : ℕ) (reads : List ℕ → ℕ → ℕ) (n : ℕ) (s : List ℕ) (p : ℕ) → length (numbers_at w reads n s p) ≡ n
unfolding numbers_at
length_row_at w reads zero s p = refl
length_row_at w reads (suc n) s p = ap suc (length_row_at w reads n s (p + w))

next : (w p i : ℕ) → p + w + w * i ≡ p + w * suc i
next w p i = rw (mul-suc w i) (omega arith)

-- number i, read
pub row_at : (w : ℕ) (reads : List ℕ → ℕ → ℕ) (n p i : ℕ) (s : List ℕ) → i < n → get_or (numbers_at w reads n s p) i 0 ≡ reads s (p + w * i)
unfolding numbers_at
row_at w reads zero p i s h = absurd (omega arith)
row_at w reads (suc n) p zero s h = ap (reads s) (omega arith)
row_at w reads (suc n) p (suc i) s h = row_at w reads n (p + w) i s (omega arith) ∙ ap (reads s) (next w p i)

-- number i, put
pub row_put : (w i x : ℕ) (xs : List ℕ) → i < length xs → update w (λ n. w * i + n) (λ n was. byte x n) (as_bytes w xs) ≡ as_bytes w (set xs i x)
unfolding as_bytes
row_put w i x [] h = absurd (omega arith)
row_put w zero x (y ∷ xs) h =
    update_at w (λ n. w * 0 + n) (λ n. n) (λ n was. byte x n) (bytes_from w 0 y ++ as_bytes w xs) (λ n hn. omega arith)
    ∙ update_front w (λ n. n) (λ n was. byte x n) (bytes_from w 0 y) (as_bytes w xs) (λ n hn. omega (arith, length_bytes w 0 y))
    ∙ ap (λ (l : List ℕ). l ++ as_bytes w xs) (over w x y)
row_put w (suc i) x (y ∷ xs) h =
    update_at w (λ n. w * suc i + n) (λ n. length (bytes_from w 0 y) + (w * i + n)) (λ n was. byte x n) (bytes_from w 0 y ++ as_bytes w xs)
    (λ n hn. rw (length_bytes w 0 y, mul-suc w i) (omega arith))
    ∙ update_behind w (λ n. w * i + n) (λ n was. byte x n) (bytes_from w 0 y) (as_bytes w xs)
    ∙ ap (λ (l : List ℕ). bytes_from w 0 y ++ l) (row_put w i x xs (omega arith))

-- ---- what was written is read: where one number is, so is a row

module _ (w m : ℕ) (reads : List ℕ → ℕ → ℕ)
    (one : (pre : List ℕ) (x : ℕ) (rest : List ℕ) → x < m → reads (pre ++ (bytes_from w 0 x ++ rest)) (length pre) ≡ x) where
  row_read : (xs pre rest : List ℕ) → ((j : ℕ) → get_or xs j 0 < m) → numbers_at w reads (length xs) (pre ++ (as_bytes w xs ++ rest)) (length pre) ≡ xs
  unfolding numbers_at as_bytes
  row_read [] pre rest fit = refl
  row_read (x ∷ xs) pre rest fit =
      let B = bytes_from w 0 x in
      ap₂ (λ (y : ℕ) (ys : List ℕ). y ∷ ys)
      (ap (λ (l : List ℕ). reads (pre ++ l) (length pre)) (append_assoc B (as_bytes w xs) rest) ∙ one pre x (as_bytes w xs ++ rest) (fit 0))
      (ap₂ (numbers_at w reads (length xs))
      (ap (λ (l : List ℕ). pre ++ l) (append_assoc B (as_bytes w xs) rest) ∙ sym (append_assoc pre B (as_bytes w xs ++ rest)))
      (ap (λ (n : ℕ). length pre + n) (sym (length_bytes w 0 x)) ∙ sym (length-append pre B))
      ∙ row_read xs (pre ++ B) rest (λ j. fit (suc j)))

  -- a part of a list, at its place
  pub read_row : (s pre xs rest : List ℕ) (p n : ℕ) → s ≡ pre ++ (as_bytes w xs ++ rest) → length pre ≡ p → length xs ≡ n
      → ((j : ℕ) → get_or xs j 0 < m) → numbers_at w reads n s p ≡ xs
  read_row s pre xs rest p n e ep en fit = rw (e, ← ep, ← en) (row_read xs pre rest fit)

-- ---- what was read is written

module _ (w : ℕ) (reads : List ℕ → ℕ → ℕ) (s : List ℕ)
    (one : (p : ℕ) → p + w ≤ length s → bytes_from w 0 (reads s p) ≡ take w (drop p s)) where
  pub row_back : (n p : ℕ) → p + w * n ≤ length s → as_bytes w (numbers_at w reads n s p) ≡ take (w * n) (drop p s)
  unfolding as_bytes numbers_at
  row_back zero p h =
      let none : w * 0 ≡ 0 = omega arith in
      rw none
  row_back (suc n) p h =
      let more : w * suc n ≡ w + w * n = rw (mul-suc w n) (omega arith) in
      let fits : p + (w + w * n) ≤ length s = rw (← more) h in
      ap₂ ◌++◌ (one p (omega (arith, fits)))
      (row_back n (p + w) (omega (arith, fits)) ∙ ap (take (w * n)) (sym (drop-drop w p s)))
      ∙ sym (take-add w (w * n) (drop p s)) ∙ ap (λ (k : ℕ). take k (drop p s)) (sym more)

-- ---- of 16 bits

pub half_read : (pre : List ℕ) (x : ℕ) (rest : List ℕ) → x < 2 ^ 16 → half_at (pre ++ (bytes_from 2 0 x ++ rest)) (length pre) ≡ x
unfolding half_at bytes_from
half_read pre x rest h = rw (get_or-append_seam, get_or-append-add) (unfold byte in omega arith)

pub byte_half_0 : (a b : ℕ) → a < 2 ^ 8 → byte (a + b * 2 ^ 8) 0 ≡ a
unfolding byte
byte_half_0 a b h = omega arith

pub byte_half_1 : (a b : ℕ) → a < 2 ^ 8 → b < 2 ^ 8 → byte (a + b * 2 ^ 8) 1 ≡ b
unfolding byte
byte_half_1 a b h l = omega arith

-- ---- and of 32

pub word_read : (pre : List ℕ) (x : ℕ) (rest : List ℕ) → x < 2 ^ 32 → word_at (pre ++ (bytes_from 4 0 x ++ rest)) (length pre) ≡ x
unfolding word_at bytes_from
word_read pre x rest h = rw (get_or-append_seam, later 1, later 2, later 3) (join_bytes x h)
  where
    later : (k : ℕ) → get_or (pre ++ (byte x 0 ∷ byte x 1 ∷ byte x 2 ∷ byte x 3 ∷ rest)) (length pre + k) 0
        ≡ get_or (byte x 0 ∷ byte x 1 ∷ byte x 2 ∷ byte x 3 ∷ rest) k 0
    later k = get_or-append-add pre (byte x 0 ∷ byte x 1 ∷ byte x 2 ∷ byte x 3 ∷ rest) k 0

-- what holds of each number read holds of the row
all_lt : (w : ℕ) (reads : List ℕ → ℕ → ℕ) (m : ℕ) (s : List ℕ) → 0 < m → ((p : ℕ) → reads s p < m) → (n p i : ℕ) → get_or (numbers_at w reads n s p) i 0 < m
unfolding numbers_at
all_lt w reads m s none lt zero p i = none
all_lt w reads m s none lt (suc n) p zero = lt p
all_lt w reads m s none lt (suc n) p (suc i) = all_lt w reads m s none lt n (p + w) i

module _ (s : List ℕ) (fit : Bytes s) where
  -- the first of the bytes from p on
  first : (p : ℕ) → p < length s → drop p s ≡ get_or s p 0 ∷ drop (p + 1) s
  first p h = let e : p + 1 ≡ suc p = omega arith in rw e (drop-cons s p 0 h)

  half_back : (p : ℕ) → p + 2 ≤ length s → bytes_from 2 0 (half_at s p) ≡ take 2 (drop p s)
  unfolding bytes_from half_at
  half_back p h =
      rw (first p (omega arith), first (p + 1) (omega arith))
      (ap₂ (λ (a b : ℕ). a ∷ b ∷ []) (byte_half_0 (get_or s p 0) (get_or s (p + 1) 0) (fit p))
      (byte_half_1 (get_or s p 0) (get_or s (p + 1) 0) (fit p) (fit (p + 1))))

  word_back : (p : ℕ) → p + 4 ≤ length s → bytes_from 4 0 (word_at s p) ≡ take 4 (drop p s)
  unfolding bytes_from word_at
  word_back p h =
      let f : p + 1 + 1 ≡ p + 2 = omega arith in
      let g : p + 2 + 1 ≡ p + 3 = omega arith in
      rw (
        first p (omega arith),
        first (p + 1) (omega arith),
        f,
        first (p + 2) (omega arith),
        g,
        first (p + 3) (omega arith),
        byte_joined_0 (get_or s p 0) (get_or s (p + 1) 0) (get_or s (p + 2) 0) (get_or s (p + 3) 0) (fit p) (fit (p + 1)) (fit (p + 2)) (fit (p + 3)),
        byte_joined_1 (get_or s p 0) (get_or s (p + 1) 0) (get_or s (p + 2) 0) (get_or s (p + 3) 0) (fit p) (fit (p + 1)) (fit (p + 2)) (fit (p + 3)),
        byte_joined_2 (get_or s p 0) (get_or s (p + 1) 0) (get_or s (p + 2) 0) (get_or s (p + 3) 0) (fit p) (fit (p + 1)) (fit (p + 2)) (fit (p + 3)),
        byte_joined_3 (get_or s p 0) (get_or s (p + 1) 0) (get_or s (p + 2) 0) (get_or s (p + 3) 0) (fit p) (fit (p + 1)) (fit (p + 2)) (fit (p + 3)),
      )

  -- rows that were read, written
  pub halves_back : (n p : ℕ) → p + 2 * n ≤ length s → halves (halves_at n s p) ≡ take (2 * n) (drop p s)
  halves_back = row_back 2 half_at s half_back

  pub words_back : (n p : ℕ) → p + 4 * n ≤ length s → words (words_at n s p) ≡ take (4 * n) (drop p s)
  words_back = row_back 4 word_at s word_back

  -- each number has its width
  pub halves_lt : (n p i : ℕ) → get_or (halves_at n s p) i 0 < 2 ^ 16
  halves_lt = all_lt 2 half_at (2 ^ 16) s (lit< tt) (λ p. half_at_lt s p fit)

  pub words_lt : (n p i : ℕ) → get_or (words_at n s p) i 0 < 2 ^ 32
  words_lt = all_lt 4 word_at (2 ^ 32) s (lit< tt) (λ p. word_at_lt s p fit)

-- ---- a row as list k of lists in a row

-- number i of it, put at its place
put_number : (w k : ℕ) (ls : List (List ℕ)) → k < length ls → (xs : List ℕ) → get_or ls k [] ≡ as_bytes w xs → (i x p : ℕ) → i < length xs → p ≡ start_of k ls + w * i
    → update w (λ n. p + n) (λ n was. byte x n) (flatten ls) ≡ flatten (set ls k (as_bytes w (set xs i x)))
put_number w k ls s xs e i x p h q =
    let below : (n : ℕ) → n < w → w * i + n < length (as_bytes w xs) = λ n hn. omega (arith, length_row w xs, mul-suc w i, mul-le-mul_left w h) in
    rw q (update_at w (λ n. start_of k ls + w * i + n) (λ n. start_of k ls + (w * i + n)) (λ n was. byte x n) (flatten ls) (λ n hn. add_assoc (start_of k ls) (w * i) n)
    ∙ put_in k ls s w (λ n. w * i + n) (λ n was. byte x n) (λ n hn. rw e (below n hn))
    ∙ ap (λ (l : List ℕ). flatten (set ls k l)) (rw e (row_put w i x xs h)))

module _ (k : ℕ) (ls : List (List ℕ)) (there : k < length ls) (xs : List ℕ) where
  pub half_put_in : get_or ls k [] ≡ halves xs → (i x p : ℕ) → i < length xs → p ≡ start_of k ls + 2 * i
      → put_half p x (flatten ls) ≡ flatten (set ls k (halves (set xs i x)))
  unfolding put_half
  half_put_in = put_number 2 k ls there xs

  pub word_put_in : get_or ls k [] ≡ words xs → (i x p : ℕ) → i < length xs → p ≡ start_of k ls + 4 * i
      → put_word p x (flatten ls) ≡ flatten (set ls k (words (set xs i x)))
  unfolding put_word
  word_put_in = put_number 4 k ls there xs

  -- all of it, read from its place
  row_in : (w m : ℕ) (reads : List ℕ → ℕ → ℕ) → ((pre : List ℕ) (x : ℕ) (rest : List ℕ) → x < m → reads (pre ++ (bytes_from w 0 x ++ rest)) (length pre) ≡ x)
      → get_or ls k [] ≡ as_bytes w xs → (p n : ℕ) → start_of k ls ≡ p → length xs ≡ n → ((j : ℕ) → get_or xs j 0 < m) → numbers_at w reads n (flatten ls) p ≡ xs
  row_in w m reads one e p n q en fit =
      read_row w m reads one (flatten ls) (flatten (take k ls)) xs (flatten (drop (suc k) ls)) p n (rw (← e) (split_at k ls there)) (start_long k ls there ∙ q) en fit

  pub halves_in : get_or ls k [] ≡ halves xs → (p n : ℕ) → start_of k ls ≡ p → length xs ≡ n → ((j : ℕ) → get_or xs j 0 < 2 ^ 16) → halves_at n (flatten ls) p ≡ xs
  halves_in = row_in 2 (2 ^ 16) half_at half_read

  pub words_in : get_or ls k [] ≡ words xs → (p n : ℕ) → start_of k ls ≡ p → length xs ≡ n → ((j : ℕ) → get_or xs j 0 < 2 ^ 32) → words_at n (flatten ls) p ≡ xs
  words_in = row_in 4 (2 ^ 32) word_at word_read
