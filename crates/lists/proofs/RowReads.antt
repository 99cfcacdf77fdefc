-- Numbers read one behind the other into an array are a row read. Assumes nothing.
use Rattle.std.proofs.Common.{◌≡◌, ℕ, zero, suc, ◌+◌, ◌*◌, List, ◌∷◌, length, drop, sym, ap, ap₂, subst, ◌∙◌, add-one, mul-suc, drop-cons, drop_of_length-le, arith}
use Rattle.std.specs.Array.{IsFromFnResultFrom, IsFromFnResult}
use denote.Param.Members.{Mut, Called}
use Rattle.lists.specs.Words.{numbers_at}

-- by a closure that reads number i, and changes none of what it captures
module _ {F A : Type 0} (g : Mut F (ℕ × Unit {0}) A) (f : F) (w : ℕ) (reads : List ℕ → ℕ → A) (s : List ℕ) (p : ℕ)
    (call : (i : ℕ) (x : A) (f' : F) → Called g f (i, tt) x f' → (x ≡ reads s (p + w * i)) × (f' ≡ f)) where
  read_from : (xs : List A) (i n : ℕ) → length xs ≡ i + n → IsFromFnResultFrom g f xs i n → drop i xs ≡ numbers_at w reads n s (p + w * i)
  unfolding numbers_at
  read_from xs i zero long made = drop_of_length-le xs {i = i} (omega arith)
  read_from xs i (suc n) long (f', x, is, called, rest) =
      let one = call i x f' called in
      let next : p + w * (i + 1) ≡ p + w * i + w = omega (arith, mul-suc w i) in
      drop-cons xs i x (omega arith)
      ∙ ap₂ (λ (y : A) (ys : List A). y ∷ ys) (is.0 ∙ one.0)
      (ap (λ (j : ℕ). drop j xs) (sym (add-one i)) ∙ read_from xs (i + 1) n (omega arith) (subst (λ (k : F). IsFromFnResultFrom g k xs (i + 1) n) one.1 rest) ∙ ap (numbers_at w reads n s) next)

  pub read_row : (xs : List A) (n : ℕ) → IsFromFnResult g f xs n → xs ≡ numbers_at w reads n s p
  read_row xs n made =
      let first : p + w * 0 ≡ p = omega arith in
      rw first at (read_from xs 0 n (omega (arith, made.long)) made.each)
