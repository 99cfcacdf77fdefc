-- A list given by what stands at each place: its length, its entries, when another list is it, and a loop that fills one. Assumes nothing.
use mathlib.Core.Path.{◌≡◌, refl, sym, ap, ◌∙◌}
use mathlib.Core.List.{List}
use Prim.Native.Nat.{ℕ, zero, suc, ◌+◌, ◌<◌}
use native.Mathlib.Nat.{le_of_suc-le-suc, not-suc-le-zero}
use native.Mathlib.Decide.{ℕ_discrete}
use native.Mathlib.Omega.{arith}
use lib.ListN.{length, get_or, set}
use lib.Seq.{ext_get_or, get_or-set_same, get_or-set_other}
use Rattle.columns.specs.Columns.{table}

length_table : (n : ℕ) (f : ℕ → ℕ) → length (table n f) ≡ n
unfolding table
length_table zero f = refl
length_table (suc n) f = ap suc (length_table n (λ k. f (suc k)))

pub get_or_table : (n : ℕ) (f : ℕ → ℕ) (k : ℕ) → k < n → get_or (table n f) k 0 ≡ f k
unfolding table
get_or_table zero f k h = absurd (not-suc-le-zero h)
get_or_table (suc n) f zero h = refl
get_or_table (suc n) f (suc k) h = get_or_table n (λ j. f (suc j)) k (le_of_suc-le-suc h)

pub is_table : (l : List ℕ) (n : ℕ) (f : ℕ → ℕ) → length l ≡ n → ((k : ℕ) → k < n → get_or l k 0 ≡ f k) → l ≡ table n f
is_table l n f e h =
    ext_get_or 0 l (table n f) (e ∙ sym (length_table n f))
    (λ k lt. let below : k < n = omega arith in h k below ∙ sym (get_or_table n f k below))

-- one place more, of a list that is filled from the front
pub filled_next : (f : ℕ → ℕ) (l : List ℕ) (i v : ℕ) → i < length l → v ≡ f i → ((k : ℕ) → k < i → get_or l k 0 ≡ f k)
    → (k : ℕ) → k < i + 1 → get_or (set l i v) k 0 ≡ f k
filled_next f l i v within e before k h = go (ℕ_discrete k i)
  where
    go : Dec (k ≡ i) → get_or (set l i v) k 0 ≡ f k
    go (yes same) = rw same (get_or-set_same l i v 0 within ∙ e)
    go (no other) = get_or-set_other l i k v 0 other ∙ before k (omega arith)
