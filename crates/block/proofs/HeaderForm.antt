-- What the tests of a well formed block come to, as code makes them. Assumes nothing.
use Rattle.std.proofs.Common.{◌≡◌, ℕ, ◌+◌, ◌*◌, ◌^◌, ◌<◌, Bool, true, false, ◌&&◌, eqb, List, sym, refl, ap, ◌∙◌, ap₂, arith, eq-eqb, ne_eqb}
use native.Mathlib.Decide.{ℕ_discrete}
use Rattle.bits.specs.Bits.{joined}
use Rattle.lists.specs.Words.{Bytes, half_at, word_at, numbers_at, halves_at}
use Rattle.lists.proofs.Words.{half_at_lt}
use Rattle.block.specs.Block.{banks_at, registers_at, flags_at, tags_at, pixels_at, block_bytes, header, same}

-- ---- the header

two_halves : (s : List ℕ) (p : ℕ) → word_at s p ≡ half_at s p + half_at s (p + 2) * 2 ^ 16
unfolding word_at half_at joined
two_halves s p =
    let e : p + 2 + 1 ≡ p + 3 = omega arith in
    rw e (omega arith)

-- two fields as one word
abbrev pub pair : ℕ → ℕ → ℕ
pair x y = x + y * 2 ^ 16

-- two half words are two numbers exactly if their word is those two
pair_test : (s : List ℕ) (p x y : ℕ) → Bytes s → x < 2 ^ 16
    → (eqb (half_at s p) x && eqb (half_at s (p + 2)) y) ≡ eqb (word_at s p) (pair x y)
pair_test s p x y bytes hx = go (ℕ_discrete (half_at s p) x) (ℕ_discrete (half_at s (p + 2)) y)
  where
    halves : word_at s p ≡ half_at s p + half_at s (p + 2) * 2 ^ 16
    halves = two_halves s p

    low : half_at s p < 2 ^ 16
    low = half_at_lt s p bytes

    go : Dec (half_at s p ≡ x) → Dec (half_at s (p + 2) ≡ y) → (eqb (half_at s p) x && eqb (half_at s (p + 2)) y) ≡ eqb (word_at s p) (pair x y)
    go (yes e) (yes f) = rw (eq-eqb (half_at s p) x e, eq-eqb (half_at s (p + 2)) y f) (sym (eq-eqb (word_at s p) (pair x y) (omega (arith, halves, e, f))))
    go (yes e) (no g) = rw (eq-eqb (half_at s p) x e, ne_eqb (half_at s (p + 2)) y g)
        (sym (ne_eqb (word_at s p) (pair x y) (λ q. g (omega (arith, halves, e, q)))))
    go (no f) r = rw (ne_eqb (half_at s p) x f) (sym (ne_eqb (word_at s p) (pair x y) (λ q. f (omega (arith, halves, q, low, hx)))))

regroup : (a b c d e f g : Bool) → (a && (b && (c && (d && (e && (f && (g && true))))))) ≡ (a && ((b && c) && ((d && e) && (f && g))))
regroup false b c d e f g = refl
regroup true false c d e f g = refl
regroup true true false d e f g = refl
regroup true true true false e f g = refl
regroup true true true true false f g = refl
regroup true true true true true false g = refl
regroup true true true true true true true = refl
regroup true true true true true true false = refl

-- the header's test, as code makes it
pub header_test : (s : List ℕ) → Bytes s → same (halves_at 8 s 0) (header (half_at s 0))
    ≡ (eqb (half_at s 2) 8 && (eqb (word_at s 4) (pair banks_at registers_at) && (eqb (word_at s 8) (pair flags_at tags_at) && eqb (word_at s 12) (pair pixels_at block_bytes))))
unfolding same numbers_at header
header_test s bytes =
    rw (eq-eqb (half_at s 0) (half_at s 0) refl)
    (regroup (eqb (half_at s 2) 8) (eqb (half_at s 4) banks_at) (eqb (half_at s 6) registers_at) (eqb (half_at s 8) flags_at) (eqb (half_at s 10) tags_at) (eqb (half_at s 12) pixels_at) (eqb (half_at s 14) block_bytes)
    ∙ ap (λ (t : Bool). eqb (half_at s 2) 8 && t)
    (ap₂ ◌&&◌ (pair_test s 4 banks_at registers_at bytes (omega arith))
    (ap₂ ◌&&◌ (pair_test s 8 flags_at tags_at bytes (omega arith)) (pair_test s 12 pixels_at block_bytes bytes (omega arith)))))
