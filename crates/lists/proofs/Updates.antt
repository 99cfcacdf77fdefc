-- The laws of `update`: what it leaves, what it changes, one turn of a loop, and a part that is lent. Assumes nothing.
use mathlib.Core.Path.{◌≡◌, refl, sym, ap, ◌∙◌}
use mathlib.Core.Logic.{◌≢◌}
use mathlib.Core.List.{List, ◌++◌, append-nil}
use Prim.Native.Nat.{ℕ, zero, suc, ◌+◌, ◌-◌, ◌≤◌, ◌<◌}
use native.Mathlib.Omega.{arith}
use native.Mathlib.Numerals.{add-one}
use native.Mathlib.Decide.{ℕ_discrete, dec_lt}
use native.Mathlib.Nat.{le_of_eq, add-zero, add-suc}
use lib.ListN.{length, get_or, set, length-set, take, drop, take-append-drop, length-drop, drop_of_length-le}
use lib.Seq.{get_or-set_same, get_or-set_other, get_or-drop, take-set-le, drop-set-add, set_out, take_all, set-get_or}
use Rattle.lists.specs.Update.{update}

pub length_update : (n : ℕ) (at : ℕ → ℕ) (v : ℕ → ℕ → ℕ) (l : List ℕ) → length (update n at v l) ≡ length l
unfolding update
length_update zero at v l = refl
length_update (suc n) at v l = simp length-set (length_update n at v l)

-- a place that is none of them keeps its byte
pub update_other : (n : ℕ) (at : ℕ → ℕ) (v : ℕ → ℕ → ℕ) (l : List ℕ) (a : ℕ)
    → ((i : ℕ) → i < n → a ≢ at i) → get_or (update n at v l) a 0 ≡ get_or l a 0
unfolding update
update_other zero at v l a h = refl
update_other (suc n) at v l a h =
    get_or-set_other (update n at v l) (at n) a _ 0 (h n (omega arith)) ∙ update_other n at v l a (λ i q. h i (omega arith))

-- each of them has the new byte
pub update_same : (n : ℕ) (at : ℕ → ℕ) (v : ℕ → ℕ → ℕ) (l : List ℕ)
    → ((i j : ℕ) → i < n → j < n → at i ≡ at j → i ≡ j) → ((i : ℕ) → i < n → at i < length l)
    → (i : ℕ) → i < n → get_or (update n at v l) (at i) 0 ≡ v i (get_or l (at i) 0)
unfolding update
update_same zero at v l inj fit i h = absurd (omega arith)
update_same (suc n) at v l inj fit i h =
    go (ℕ_discrete i n) (update_same n at v l (λ j k p q. inj j k (omega arith) (omega arith)) (λ j q. fit j (omega arith)) i)
  where
    last : get_or (set (update n at v l) (at n) (v n (get_or (update n at v l) (at n) 0))) (at n) 0 ≡ v n (get_or l (at n) 0)
    last = get_or-set_same (update n at v l) (at n) _ 0 (rw length_update (fit n (omega arith)))
        ∙ ap (v n) (update_other n at v l (at n) (λ j q e. absurd (omega (arith, inj n j (omega arith) (omega arith) e))))

    go : Dec (i ≡ n) → (i < n → get_or (update n at v l) (at i) 0 ≡ v i (get_or l (at i) 0))
        → get_or (set (update n at v l) (at n) (v n (get_or (update n at v l) (at n) 0))) (at i) 0 ≡ v i (get_or l (at i) 0)
    go (yes e) ih = rw e last
    go (no f) ih = get_or-set_other (update n at v l) (at n) (at i) _ 0 (λ e. f (inj i n (omega arith) (omega arith) e)) ∙ ih (omega arith)

-- an address is one of them or not
pub find : (n : ℕ) (at : ℕ → ℕ) (a : ℕ) → Dec ((i : ℕ) × (i < n) × (a ≡ at i))
find zero at a = no (λ p. absurd (omega (arith, p.1)))
find (suc n) at a = go (ℕ_discrete a (at n)) (find n at a)
  where
    go : Dec (a ≡ at n) → Dec ((i : ℕ) × (i < n) × (a ≡ at i)) → Dec ((i : ℕ) × (i < suc n) × (a ≡ at i))
    go (yes e) r = yes (n, omega arith, e)
    go (no f) (yes p) = yes (p.0, omega (arith, p.1), p.2)
    go (no f) (no g) = no (λ p. other p (ℕ_discrete p.0 n))
      where
        other : (p : (i : ℕ) × (i < suc n) × (a ≡ at i)) → Dec (p.0 ≡ n) → ⊥
        other p (yes e) = f (rw e at p.2)
        other p (no h) = g (p.0, omega (arith, p.1), p.2)

-- the part of a list from `from` on, lent and updated, is the whole updated
pub drop_update : (n from : ℕ) (at : ℕ → ℕ) (v : ℕ → ℕ → ℕ) (l : List ℕ)
    → drop from (update n (λ i. from + at i) v l) ≡ update n at v (drop from l)
unfolding update
drop_update zero from at v l = refl
drop_update (suc n) from at v l =
    drop-set-add from (update n (λ i. from + at i) v l) (at n) _
    ∙ ap (λ (x : ℕ). set (drop from (update n (λ i. from + at i) v l)) (at n) (v n x)) (sym (get_or-drop from (update n (λ i. from + at i) v l) (at n) 0))
    ∙ ap (λ (m : List ℕ). set m (at n) (v n (get_or m (at n) 0))) (drop_update n from at v l)

take_update : (n from : ℕ) (at : ℕ → ℕ) (v : ℕ → ℕ → ℕ) (l : List ℕ) → take from (update n (λ i. from + at i) v l) ≡ take from l
unfolding update
take_update zero from at v l = refl
take_update (suc n) from at v l = take-set-le from (update n (λ i. from + at i) v l) (from + at n) _ (omega arith) ∙ take_update n from at v l

update_part : (n from : ℕ) (at : ℕ → ℕ) (v : ℕ → ℕ → ℕ) (l : List ℕ)
    → take from l ++ update n at v (drop from l) ≡ update n (λ i. from + at i) v l
update_part n from at v l =
    rw (← (drop_update n from at v l), ← (take_update n from at v l)) (take-append-drop from (update n (λ i. from + at i) v l))

-- the rule may be put in another form
pub update_ext : (n : ℕ) (at : ℕ → ℕ) (v v' : ℕ → ℕ → ℕ) (l : List ℕ)
    → ((i j : ℕ) → i < n → j < n → at i ≡ at j → i ≡ j) → ((i : ℕ) → i < n → v i (get_or l (at i) 0) ≡ v' i (get_or l (at i) 0))
    → update n at v l ≡ update n at v' l
unfolding update
update_ext zero at v v' l inj q = refl
update_ext (suc n) at v v' l inj q =
    ap (λ (x : ℕ). set (update n at v l) (at n) (v n x)) before ∙ ap (λ (x : ℕ). set (update n at v l) (at n) x) (q n (omega arith))
    ∙ ap (λ (x : ℕ). set (update n at v l) (at n) (v' n x)) (sym before)
    ∙ ap (λ (m : List ℕ). set m (at n) (v' n (get_or m (at n) 0)))
    (update_ext n at v v' l (λ j k p r. inj j k (omega arith) (omega arith)) (λ i r. q i (omega arith)))
  where
    before : get_or (update n at v l) (at n) 0 ≡ get_or l (at n) 0
    before = update_other n at v l (at n) (λ j r e. absurd (omega (arith, inj n j (omega arith) (omega arith) e)))

-- and so may the places
pub update_at : (n : ℕ) (at at' : ℕ → ℕ) (v : ℕ → ℕ → ℕ) (l : List ℕ) → ((i : ℕ) → i < n → at i ≡ at' i) → update n at v l ≡ update n at' v l
unfolding update
update_at zero at at' v l q = refl
update_at (suc n) at at' v l q = rw (update_at n at at' v l (λ i h. q i (omega arith)), q n (omega arith))

-- first m places, and then n more
pub update_more : (m n : ℕ) (at : ℕ → ℕ) (v : ℕ → ℕ → ℕ) (l : List ℕ)
    → update (m + n) at v l ≡ update n (λ i. at (m + i)) (λ i. v (m + i)) (update m at v l)
unfolding update
update_more m zero at v l = rw (add-zero m)
update_more m (suc n) at v l = rw (add-suc m n, update_more m n at v l)

-- one turn of a loop
pub update_turn : (i : ℕ) (at : ℕ → ℕ) (v : ℕ → ℕ → ℕ) (l part : List ℕ) (a x : ℕ)
    → part ≡ update i at v l → a ≡ at i → x ≡ v i (get_or part a 0) → set part a x ≡ update (i + 1) at v l
unfolding update
update_turn i at v l part a x p q r = rw (add-one, r, p, q)

-- the same as a call leaves it that was lent `&mut l[from..]`
pub update_lent : (n from : ℕ) (at : ℕ → ℕ) (v : ℕ → ℕ → ℕ) (l : List ℕ) → from ≤ length l
    → take from l ++ (update n at v (take (length l - from) (drop from l)) ++ drop (length l - from) (drop from l)) ≡ update n (λ i. from + at i) v l
update_lent n from at v l h =
    rw (
      take_all (length l - from) (drop from l) (le_of_eq (length-drop from l)),
      drop_of_length-le (drop from l) {i = length l - from} (le_of_eq (length-drop from l)),
      append-nil,
    ) (update_part n from at v l)

-- what holds of every byte and of y holds after y is set
set_all : (Q : ℕ → Type 0) (l : List ℕ) (p y : ℕ) → Q y → ((a : ℕ) → Q (get_or l a 0)) → (a : ℕ) → Q (get_or (set l p y) a 0)
set_all Q l p y q h a = go (ℕ_discrete a p) (dec_lt p (length l))
  where
    go : Dec (a ≡ p) → Dec (p < length l) → Q (get_or (set l p y) a 0)
    go (yes e) (yes fits) = rw (e, get_or-set_same l p y 0 fits) q
    go (yes e) (no out) = rw (set_out l p y (omega arith)) (h a)
    go (no f) fits = rw (get_or-set_other l p a y 0 f) (h a)

-- what holds of every byte, and of every byte that v makes, holds after
pub update_all : (Q : ℕ → Type 0) (n : ℕ) (at : ℕ → ℕ) (v : ℕ → ℕ → ℕ) (l : List ℕ)
    → ((i x : ℕ) → i < n → Q x → Q (v i x)) → ((a : ℕ) → Q (get_or l a 0)) → (a : ℕ) → Q (get_or (update n at v l) a 0)
unfolding update
update_all Q zero at v l keep h a = h a
update_all Q (suc n) at v l keep h a = go (update_all Q n at v l (λ i x q. keep i x (omega arith)) h)
  where
    go : ((b : ℕ) → Q (get_or (update n at v l) b 0)) → Q (get_or (set (update n at v l) (at n) (v n (get_or (update n at v l) (at n) 0))) a 0)
    go ih = set_all Q (update n at v l) (at n) _ (keep n _ (omega arith) (ih (at n))) ih a

-- where v leaves each byte as it is, the list is left
pub update_none : (n : ℕ) (at : ℕ → ℕ) (v : ℕ → ℕ → ℕ) (l : List ℕ) → ((i : ℕ) → i < n → v i (get_or l (at i) 0) ≡ get_or l (at i) 0)
    → update n at v l ≡ l
unfolding update
update_none zero at v l h = refl
update_none (suc n) at v l h =
    let ih = update_none n at v l (λ i q. h i (omega arith)) in
    rw (ih, h n (omega arith)) (set-get_or l (at n) 0)
