-- Where two lists have the same bytes, the numbers and the parts that are read there are the same. Assumes nothing.
use mathlib.Core.Path.{◌≡◌, refl, sym, ap₂, ◌∙◌}
use mathlib.Core.List.{List, ◌∷◌}
use Prim.Native.Nat.{ℕ, zero, suc, ◌+◌, ◌*◌, ◌<◌, ◌≤◌}
use native.Mathlib.Nat.{mul-suc}
use native.Mathlib.Omega.{arith}
use lib.ListN.{length, get_or, take, drop, length-drop}
use lib.Seq.{ext_get_or, get_or-take, get_or-drop, length-take-le}
use Rattle.lists.specs.Words.{half_at, word_at, numbers_at, halves_at, words_at}

module _ (t s : List ℕ) (a b : ℕ) (agree : (k : ℕ) → a ≤ k → k < b → get_or t k 0 ≡ get_or s k 0) where
  pub half_same : (p : ℕ) → a ≤ p → p + 2 ≤ b → half_at t p ≡ half_at s p
  unfolding half_at
  half_same p l h = rw (agree p l (omega arith), agree (p + 1) (omega arith) (omega arith))

  pub word_same : (p : ℕ) → a ≤ p → p + 4 ≤ b → word_at t p ≡ word_at s p
  unfolding word_at
  word_same p l h = rw (
    agree p l (omega arith),
    agree (p + 1) (omega arith) (omega arith),
    agree (p + 2) (omega arith) (omega arith),
    agree (p + 3) (omega arith) (omega arith),
  )

  row_same : (w : ℕ) (reads : List ℕ → ℕ → ℕ) → ((p : ℕ) → a ≤ p → p + w ≤ b → reads t p ≡ reads s p)
      → (n p : ℕ) → a ≤ p → p + w * n ≤ b → numbers_at w reads n t p ≡ numbers_at w reads n s p
  unfolding numbers_at
  row_same w reads one zero p l h = refl
  row_same w reads one (suc n) p l h =
      let more = mul-suc w n in
      ap₂ (λ (x : ℕ) (xs : List ℕ). x ∷ xs) (one p l (omega (arith, more))) (row_same w reads one n (p + w) (omega arith) (omega (arith, more)))

  pub halves_same : (n p : ℕ) → a ≤ p → p + 2 * n ≤ b → halves_at n t p ≡ halves_at n s p
  halves_same = row_same 2 half_at half_same

  pub words_same : (n p : ℕ) → a ≤ p → p + 4 * n ≤ b → words_at n t p ≡ words_at n s p
  words_same = row_same 4 word_at word_same

  pub part_same : (n p : ℕ) → a ≤ p → p + n ≤ b → b ≤ length t → b ≤ length s → take n (drop p t) ≡ take n (drop p s)
  part_same n p l h ht hs =
      let nt = length-take-le n (drop p t) (omega (arith, length-drop p t)) in
      let ns = length-take-le n (drop p s) (omega (arith, length-drop p s)) in
      ext_get_or 0 (take n (drop p t)) (take n (drop p s)) (nt ∙ sym ns)
      (λ i hi. let below : i < n = omega (arith, nt, hi) in
      get_or-take n (drop p t) i 0 below ∙ get_or-drop p t i 0 ∙ agree (p + i) (omega arith) (omega arith)
      ∙ sym (get_or-take n (drop p s) i 0 below ∙ get_or-drop p s i 0))
