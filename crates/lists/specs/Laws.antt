-- What the bytes of a row of numbers keep to, and that those of numbers of w bytes do. Assumes nothing.
use Rattle.std.specs.Prelude.{◌≡◌, List, [], ◌∷◌, ◌++◌, ℕ, zero, suc, ◌+◌, ◌*◌, length, refl}
use Rattle.std.proofs.Common.{sym, ap, ap₂, ◌∙◌, append_assoc, mul-suc, length-append, arith}
use Rattle.lists.specs.Words.{bytes_from, as_bytes}

-- of numbers of this many bytes: the bytes of a row of them
pub record RowLaws {A : Type 0} (width : ℕ) (bytes : List A → List ℕ) : Type 0 where
  pub long : (xs : List A) → length (bytes xs) ≡ width * length xs
  -- numbers behind others have their bytes behind the others'
  pub behind : (xs ys : List A) → bytes (xs ++ ys) ≡ bytes xs ++ bytes ys

pub length_bytes : (w n x : ℕ) → length (bytes_from w n x) ≡ w
unfolding bytes_from
length_bytes zero n x = refl
length_bytes (suc w) n x = ap suc (length_bytes w (suc n) x)

pub length_row : (w : ℕ) (xs : List ℕ) → length (as_bytes w xs) ≡ w * length xs
unfolding as_bytes
length_row w [] = omega arith
length_row w (x ∷ xs) =
    let more : w + w * length xs ≡ w * suc (length xs) = rw (mul-suc w (length xs)) (omega arith) in
    length-append (bytes_from w 0 x) (as_bytes w xs) ∙ ap₂ ◌+◌ (length_bytes w 0 x) (length_row w xs) ∙ more

pub row_append : (w : ℕ) (a b : List ℕ) → as_bytes w (a ++ b) ≡ as_bytes w a ++ as_bytes w b
unfolding as_bytes
row_append w [] b = refl
row_append w (x ∷ a) b = rw (row_append w a b) (sym (append_assoc (bytes_from w 0 x) (as_bytes w a) (as_bytes w b)))

pub row_laws : (w : ℕ) → RowLaws w (as_bytes w)
row_laws w = record { long = length_row w; behind = row_append w }
