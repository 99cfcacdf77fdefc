-- Numbers stored one behind the other are a row stored. Assumes nothing.
use mathlib.Core.Path.{◌≡◌, refl, sym, ap, ◌∙◌}
use mathlib.Core.List.{List, [], ◌∷◌, ◌++◌, append-nil, append_assoc}
use Prim.Native.Nat.{ℕ, suc, ◌+◌, ◌*◌, ◌<◌, ◌≤◌}
use native.Mathlib.Nat.{add-zero, zero-add}
use native.Mathlib.Numerals.{add-one}
use native.Mathlib.Omega.{arith}
use lib.ListN.{length, get_or, set, take, drop}
use borrow.Rule.Slice.PartMut.{put_mid}
use lib.Seq.{sets, sets-eq, drop-drop, length-take-le, drop-length}
use Rattle.std.proofs.lemmas.List.{take_more}
use Rattle.lists.specs.Update.{update}
use Rattle.lists.specs.Words.{put_half, put_word, bytes_from, as_bytes, halves, words}
use Rattle.lists.specs.Laws.{RowLaws}

-- n bytes stored from p on, and then more behind them
pub sets_more : (a b s : List ℕ) (p n : ℕ) → length a ≡ n → sets (sets s p a) (p + n) b ≡ sets s p (a ++ b)
sets_more [] b s p n e = ap (λ (q : ℕ). sets s q b) (omega arith)
sets_more (x ∷ a) b s p n e =
    ap (λ (q : ℕ). sets (sets (set s p x) (suc p) a) q b) (omega arith) ∙ sets_more a b (set s p x) (suc p) (length a) refl

-- bytes stored over all of a list
pub sets_whole : (bytes s : List ℕ) → length bytes ≡ length s → sets s 0 bytes ≡ bytes
sets_whole bytes s e = sets-eq bytes s 0 (omega arith) ∙ rw (zero-add, e, drop-length) (append-nil bytes)

-- bytes copied over a part of a list
pub part_put : (s xs new : List ℕ) (at k : ℕ) → at + length xs ≤ length s → new ≡ xs → k ≡ length xs → put_mid at k s new ≡ sets s at xs
part_put s xs new at k h e f =
    rw (e, f, drop-drop (length xs) at s) (sym (append_assoc (take at s) xs (drop (at + length xs) s))) ∙ sym (sets-eq xs s at h)

-- ---- one number stored

pub half_stored : (p x : ℕ) (s : List ℕ) → put_half p x s ≡ sets s p (halves (x ∷ []))
unfolding put_half update as_bytes bytes_from
half_stored p x s = rw (add-zero p, add-one p)

pub word_stored : (p x : ℕ) (s : List ℕ) → put_word p x s ≡ sets s p (words (x ∷ []))
unfolding put_word update as_bytes bytes_from
word_stored p x s =
    let two : p + 2 ≡ suc (suc p) = omega arith in
    let three : p + 3 ≡ suc (suc (suc p)) = omega arith in
    rw (add-zero p, add-one p, two, three)

-- ---- a row of numbers, stored from its first on: number i behind those before it

module _ {A : Type 0} {width : ℕ} {bytes : List A → List ℕ} (laws : RowLaws width bytes) where
  -- one more
  pub put_more : (xs : List A) (x : A) (s s₀ : List ℕ) (p i : ℕ) → i < length xs → x ≡ get_or xs i x → s ≡ sets s₀ p (bytes (take i xs))
      → sets s (p + width * i) (bytes (x ∷ [])) ≡ sets s₀ p (bytes (take (i + 1) xs))
  put_more xs x s s₀ p i h is e =
      ap (λ (l : List ℕ). sets l (p + width * i) (bytes (x ∷ []))) e
      ∙ sets_more (bytes (take i xs)) (bytes (x ∷ [])) s₀ p (width * i) (laws.long (take i xs) ∙ ap (λ (n : ℕ). width * n) (length-take-le i xs (omega arith)))
      ∙ ap (sets s₀ p) (sym (laws.behind (take i xs) (x ∷ [])) ∙ ap bytes (sym (take_more xs i x h ∙ ap (λ (y : A). take i xs ++ (y ∷ [])) (sym is))))
