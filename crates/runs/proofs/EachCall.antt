-- Numbers taken six at a time, and the turns of a run. Assumes nothing.
use mathlib.Core.Path.{◌≡◌, refl, sym, ap, ◌∙◌}
use mathlib.Core.Bool.{true}
use mathlib.Core.List.{List, [], ◌∷◌}
use Prim.Native.Nat.{ℕ, zero, suc, ◌+◌, ◌*◌, ◌/◌, ◌<◌, ◌≤◌}
use native.Mathlib.Nat.{add-zero}
use native.Mathlib.Omega.{arith}
use lib.ListN.{length, take, drop, get_or, length-drop}
use lib.Seq.{drop-drop, get_or-take, get_or-drop, sets}
use borrow.Author.Tests.{eqb-true}
use Rattle.std.specs.Simd.{first_chunks}
use Rattle.std.proofs.lemmas.List.{drop_more, nil_from_length}
use Rattle.chip.specs.declared.Call.{Call}
use Rattle.chip.specs.Calls.{chip_of, memory_of}
use Rattle.runs.specs.Runs.{calls_in, call_at, told_by, Left, left, ran_of, room_for}
use Rattle.runs.proofs.Tellings.{told_length, all_stored}

-- ---- six at a time

-- one number more
one : (l : List ℕ) (i j : ℕ) → j ≡ i + 1 → i < length l → drop i l ≡ get_or l i 0 ∷ drop j l
one l i j e h = rw e (drop_more l i 0 h)

-- from a place with six numbers on: a call, and the calls after it
calls_more : (l : List ℕ) (at : ℕ) → at + 6 ≤ length l → calls_in (drop at l) ≡ call_at l at ∷ calls_in (drop (at + 6) l)
unfolding calls_in
calls_more l at h = rw (
  one l at (at + 1) refl (omega arith),
  one l (at + 1) (at + 2) (omega arith) (omega arith),
  one l (at + 2) (at + 3) (omega arith) (omega arith),
  one l (at + 3) (at + 4) (omega arith) (omega arith),
  one l (at + 4) (at + 5) (omega arith) (omega arith),
  one l (at + 5) (at + 6) (omega arith) (omega arith),
)

-- there is a call for each six, and none for fewer
pub calls_counted : (l : List ℕ) → length (calls_in l) ≡ length l / 6
unfolding calls_in
calls_counted [] = refl
calls_counted (op ∷ []) = refl
calls_counted (op ∷ a ∷ []) = refl
calls_counted (op ∷ a ∷ b ∷ []) = refl
calls_counted (op ∷ a ∷ b ∷ c ∷ []) = refl
calls_counted (op ∷ a ∷ b ∷ c ∷ d ∷ []) = refl
calls_counted (op ∷ a ∷ b ∷ c ∷ d ∷ given ∷ rest) = omega (arith, calls_counted rest)

-- there is room where five times as many are lent
pub room_told : (numbers told : List ℕ) → room_for numbers told ≡ true → length told ≡ 5 * (length numbers / 6)
unfolding room_for
room_told numbers told e = eqb-true _ _ e ∙ ap (λ (n : ℕ). 5 * n) (calls_counted numbers)

calls_none : (l : List ℕ) → length l < 6 → calls_in l ≡ []
calls_none l h = nil_from_length (calls_in l) (omega (arith, calls_counted l))

-- the i-th six of the numbers, cut into sixes
six_at : (l : List ℕ) (n i : ℕ) → i < n → get_or (first_chunks 6 n l) i [] ≡ take 6 (drop (6 * i) l)
six_at l zero i h = absurd (omega arith)
six_at l (suc n) zero h = refl
six_at l (suc n) (suc i) h =
    let on : 6 + 6 * i ≡ 6 * suc i = omega arith in
    six_at (drop 6 l) n i (omega arith) ∙ ap (take 6) (drop-drop (6 * i) 6 l ∙ ap (λ (k : ℕ). drop k l) on)

number_at : (l : List ℕ) (n i j : ℕ) → i < n → j < 6 → get_or (get_or (first_chunks 6 n l) i []) j 0 ≡ get_or l (6 * i + j) 0
number_at l n i j hi hj = rw (six_at l n i hi, get_or-take 6 (drop (6 * i) l) j 0 hj) (get_or-drop (6 * i) l j 0)

-- is the call at its place
pub call_of_six : (l : List ℕ) (sixes : List (List ℕ)) (n i : ℕ) → sixes ≡ first_chunks 6 n l → i < n → call_at (get_or sixes i []) 0 ≡ call_at l (6 * i)
call_of_six l sixes n i e h = rw (
  e,
  number_at l n i 0 h (omega arith),
  number_at l n i 1 h (omega arith),
  number_at l n i 2 h (omega arith),
  number_at l n i 3 h (omega arith),
  number_at l n i 4 h (omega arith),
  number_at l n i 5 h (omega arith),
  add-zero (6 * i),
)

-- ---- the calls from the i-th on, over what those before it left and told

unfoldable pub goes : List ℕ → ℕ → Left → Left
goes numbers i was =
    let rest = ran_of was.chip was.memory (calls_in (drop (6 * i) numbers)) in
    left rest.chip rest.memory (sets was.told (5 * i) rest.told)

-- from the first on, where there is room for all that is told
pub goes_first : (numbers : List ℕ) (was : Left) → room_for numbers was.told ≡ true
    → goes numbers 0 was ≡ ran_of was.chip was.memory (calls_in numbers)
unfolding goes room_for
goes_first numbers was room =
    let ran = ran_of was.chip was.memory (calls_in numbers) in
    ap (λ (l : List ℕ). left ran.chip ran.memory l)
    (all_stored was.told ran.told (eqb-true _ _ room ∙ sym (told_length was.chip was.memory (calls_in numbers))))

-- one turn
pub goes_next : (numbers : List ℕ) (i : ℕ) (was : Left) (x : Call) → 6 * i + 6 ≤ length numbers → x ≡ call_at numbers (6 * i)
    → goes numbers (i + 1) (left (chip_of was.chip was.memory x) (memory_of was.chip was.memory x) (sets was.told (5 * i) (told_by was.chip was.memory x)))
    ≡ goes numbers i was
unfolding goes ran_of told_by
goes_next numbers i was x h q =
    let six : 6 * (i + 1) ≡ 6 * i + 6 = omega arith in
    let five : 5 * (i + 1) ≡ suc (suc (suc (suc (suc (5 * i))))) = omega arith in
    rw (six, five, q, calls_more numbers (6 * i) h)

-- past the last
pub goes_last : (numbers : List ℕ) (i : ℕ) (was : Left) → i ≡ length numbers / 6 → goes numbers i was ≡ was
unfolding goes ran_of
goes_last numbers i was e = rw (calls_none (drop (6 * i) numbers) (simp length-drop (omega arith)))
