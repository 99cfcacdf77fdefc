-- A block with more behind its last part: its bytes stay but for the header's last field, which says the new length. Assumes nothing.
use mathlib.Core.Path.{◌≡◌, ap, ap₂, ◌∙◌}
use mathlib.Core.Logic.{◌≢◌}
use mathlib.Core.List.{List, [], ◌∷◌, ◌++◌}
use Prim.Native.Nat.{ℕ, zero, suc, ◌+◌, ◌*◌, ◌^◌, ◌<◌, ◌≤◌}
use native.Mathlib.Nat.{add-zero}
use native.Mathlib.Omega.{arith}
use lib.Dec.{lit<}
use lib.ListN.{length, get_or, drop, replicate, get_or-append, length-append}
use lib.Seq.{drop-set-lt, drop-append_seam}
use Rattle.bits.specs.Bits.{byte}
use Rattle.bits.proofs.Laws.{byte_lt}
use Rattle.lists.specs.Update.{update}
use Rattle.lists.specs.Words.{Bytes, half_at, put_half}
use Rattle.lists.proofs.Updates.{length_update, update_other, update_same, update_none, update_all}
use Rattle.hosts.specs.Grown.{length_at, longer}

-- ---- a number of 16 bits, put

put_other : (p x k : ℕ) (s : List ℕ) → k ≢ p → k ≢ p + 1 → get_or (put_half p x s) k 0 ≡ get_or s k 0
unfolding put_half
put_other p x k s f g = update_other 2 (λ n. p + n) (λ n was. byte x n) s k (λ n h e. absurd (omega arith))

-- it is read where it was put
put_read : (p x : ℕ) (s : List ℕ) → p + 1 < length s → x < 2 ^ 16 → half_at (put_half p x s) p ≡ x
unfolding half_at put_half
put_read p x s h fits =
    let here = update_same 2 (λ n. p + n) (λ n was. byte x n) s (λ i j hi hj e. omega arith) (λ n hn. omega arith) in
    let first = ap (λ (k : ℕ). get_or (update 2 (λ n. p + n) (λ n was. byte x n) s) k 0) {x = p} {y = p + 0} (omega arith) ∙ here 0 (omega arith) in
    ap₂ (λ (a b : ℕ). a + b * 2 ^ 8) first (here 1 (omega arith)) ∙ unfold byte in omega arith

-- and where it stands already, nothing changes
pub put_again : (p x : ℕ) (s : List ℕ) → Bytes s → half_at s p ≡ x → put_half p x s ≡ s
unfolding half_at put_half byte
put_again p x s bytes e = update_none 2 (λ n. p + n) (λ n was. byte x n) s go
  where
    go : (i : ℕ) → i < 2 → byte x i ≡ get_or s (p + i) 0
    go zero h = rw (add-zero p) (omega (arith, e, bytes p, bytes (p + 1)))
    go (suc zero) h = omega (arith, e, bytes p, bytes (p + 1))
    go (suc (suc i)) h = absurd (omega arith)

-- ---- bytes

append_bytes : (s more : List ℕ) → Bytes s → Bytes more → (a : ℕ) → get_or (s ++ more) a 0 < 2 ^ 8
append_bytes [] more hs hm a = hm a
append_bytes (x ∷ s) more hs hm zero = hs 0
append_bytes (x ∷ s) more hs hm (suc a) = append_bytes s more (λ b. hs (suc b)) hm a

pub zero_bytes : (n a : ℕ) → get_or (replicate n 0) a 0 < 2 ^ 8
zero_bytes zero a = lit< tt
zero_bytes (suc n) zero = lit< tt
zero_bytes (suc n) (suc a) = zero_bytes n a

-- ---- a block

module _ (more s : List ℕ) where
  pub length_longer : length (longer more s) ≡ length s + length more
  unfolding longer put_half
  length_longer = length_update 2 (λ n. length_at + n) (λ n was. byte (length (s ++ more)) n) (s ++ more) ∙ length-append s more

  pub longer_front : (k : ℕ) → k < length s → k ≢ 14 → k ≢ 15 → get_or (longer more s) k 0 ≡ get_or s k 0
  unfolding longer
  longer_front k h f g = put_other length_at (length (s ++ more)) k (s ++ more) f g ∙ get_or-append s more 0 k h

  pub longer_behind : 16 ≤ length s → drop (length s) (longer more s) ≡ more
  unfolding longer put_half update
  longer_behind h = drop-set-lt (length s) _ 15 _ (omega arith) ∙ drop-set-lt (length s) (s ++ more) 14 _ (omega arith) ∙ drop-append_seam s more

  pub longer_says : 16 ≤ length s → length s + length more < 2 ^ 16 → half_at (longer more s) length_at ≡ length s + length more
  unfolding longer
  longer_says h fits =
      let sum = length-append s more in
      put_read length_at (length (s ++ more)) (s ++ more) (omega (arith, sum)) (omega (arith, sum)) ∙ sum

  pub longer_bytes : Bytes s → Bytes more → (a : ℕ) → get_or (longer more s) a 0 < 2 ^ 8
  unfolding longer put_half
  longer_bytes hs hm = update_all (λ x. x < 2 ^ 8) 2 (λ n. length_at + n) (λ n was. byte (length (s ++ more)) n) (s ++ more) (λ n x h was. byte_lt (length (s ++ more)) n) (append_bytes s more hs hm)
