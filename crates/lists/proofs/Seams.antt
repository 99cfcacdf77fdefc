-- Lists in a row, `flatten`: what is put in one of them changes that one alone, and each is read back from its place. Assumes nothing.
use mathlib.Core.Path.{◌≡◌, refl, sym, ap, ◌∙◌}
use mathlib.Core.List.{List, [], ◌∷◌, ◌++◌, flatten, append_assoc}
use Prim.Native.Nat.{ℕ, zero, suc, ◌+◌, ◌<◌, ◌≤◌}
use native.Mathlib.Omega.{arith}
use native.Mathlib.Nat.{add_assoc}
use lib.ListN.{length, get_or, set, take, drop, get_or-append, length-append, take-append-drop}
use lib.Seq.{length-take-le, get_or-append-add, set-append_left, take-append_seam, drop_at, drop-drop, take-add, take_all}
use Rattle.lists.specs.Update.{update}
use Rattle.lists.proofs.Updates.{length_update, update_at}

-- where list k starts
unfoldable pub start_of : ℕ → List (List ℕ) → ℕ
start_of zero ls = 0
start_of (suc k) [] = 0
start_of (suc k) (l ∷ ls) = length l + start_of k ls

-- ---- an update of two lists in a row that lies in the second, or in the first

set_behind : (a b : List ℕ) (k x : ℕ) → set (a ++ b) (length a + k) x ≡ a ++ set b k x
set_behind [] b k x = ap (λ (j : ℕ). set b j x) (omega arith)
set_behind (y ∷ a) b k x =
    let e : suc (length a) + k ≡ suc (length a + k) = omega arith in
    rw e (ap (λ (l : List ℕ). y ∷ l) (set_behind a b k x))

pub update_behind : (n : ℕ) (at : ℕ → ℕ) (v : ℕ → ℕ → ℕ) (a b : List ℕ) → update n (λ i. length a + at i) v (a ++ b) ≡ a ++ update n at v b
unfolding update
update_behind zero at v a b = refl
update_behind (suc n) at v a b = rw (update_behind n at v a b, get_or-append-add, set_behind)

pub update_front : (n : ℕ) (at : ℕ → ℕ) (v : ℕ → ℕ → ℕ) (a b : List ℕ) → ((i : ℕ) → i < n → at i < length a)
    → update n at v (a ++ b) ≡ update n at v a ++ b
unfolding update
update_front zero at v a b h = refl
update_front (suc n) at v a b h =
    let inside : at n < length (update n at v a) = rw (length_update n at v a) (h n (omega arith)) in
    rw (update_front n at v a b (λ i l. h i (omega arith)), get_or-append (update n at v a) b 0 (at n) inside, set-append_left (update n at v a) b (at n) _ inside)

-- ---- what is put in list k

pub put_in : (k : ℕ) (ls : List (List ℕ)) → k < length ls → (n : ℕ) (at : ℕ → ℕ) (v : ℕ → ℕ → ℕ) → ((i : ℕ) → i < n → at i < length (get_or ls k []))
    → update n (λ i. start_of k ls + at i) v (flatten ls) ≡ flatten (set ls k (update n at v (get_or ls k [])))
unfolding flatten start_of
put_in k [] s n at v h = absurd (omega arith)
put_in zero (l ∷ ls) s n at v h = update_at n (λ i. 0 + at i) at v (l ++ flatten ls) (λ i hi. omega arith) ∙ update_front n at v l (flatten ls) h
put_in (suc k) (l ∷ ls) s n at v h =
    update_at n (λ i. length l + start_of k ls + at i) (λ i. length l + (start_of k ls + at i)) v (l ++ flatten ls) (λ i hi. add_assoc (length l) (start_of k ls) (at i))
    ∙ update_behind n (λ i. start_of k ls + at i) v l (flatten ls) ∙ ap (λ (m : List ℕ). l ++ m) (put_in k ls (omega arith) n at v h)

-- ---- list k, read back

pub split_at : (k : ℕ) (ls : List (List ℕ)) → k < length ls → flatten ls ≡ flatten (take k ls) ++ (get_or ls k [] ++ flatten (drop (suc k) ls))
unfolding flatten
split_at k [] h = absurd (omega arith)
split_at zero (l ∷ ls) h = refl
split_at (suc k) (l ∷ ls) h = rw (split_at k ls (omega arith)) (sym (append_assoc l (flatten (take k ls)) (get_or ls k [] ++ flatten (drop (suc k) ls))))

pub start_long : (k : ℕ) (ls : List (List ℕ)) → k < length ls → length (flatten (take k ls)) ≡ start_of k ls
unfolding flatten start_of
start_long k [] h = absurd (omega arith)
start_long zero (l ∷ ls) h = refl
start_long (suc k) (l ∷ ls) h = length-append l (flatten (take k ls)) ∙ ap (λ (n : ℕ). length l + n) (start_long k ls (omega arith))

pub part_in : (k : ℕ) (ls : List (List ℕ)) → k < length ls → (p n : ℕ) → start_of k ls ≡ p → length (get_or ls k []) ≡ n
    → take n (drop p (flatten ls)) ≡ get_or ls k []
part_in k ls h p n q e =
    ap (λ (s : List ℕ). take n (drop p s)) (split_at k ls h)
    ∙ ap (take n) (drop_at (flatten (take k ls)) (get_or ls k [] ++ flatten (drop (suc k) ls)) p (start_long k ls h ∙ q))
    ∙ rw (← e) (take-append_seam (get_or ls k []) (flatten (drop (suc k) ls)))

-- ---- a list cut at these widths, from place p on

unfoldable pub cut : ℕ → List ℕ → List ℕ → List (List ℕ)
cut p [] s = []
cut p (w ∷ ws) s = take w (drop p s) ∷ cut (p + w) ws s

unfoldable pub total : List ℕ → ℕ
total [] = 0
total (w ∷ ws) = w + total ws

cut_from : (p : ℕ) (ws s : List ℕ) → flatten (cut p ws s) ≡ take (total ws) (drop p s)
unfolding flatten cut total
cut_from p [] s = refl
cut_from p (w ∷ ws) s =
    ap (λ (l : List ℕ). take w (drop p s) ++ l) (cut_from (p + w) ws s ∙ ap (take (total ws)) (sym (drop-drop w p s)))
    ∙ sym (take-add w (total ws) (drop p s))

pub cut_whole : (ws s : List ℕ) → length s ≡ total ws → flatten (cut 0 ws s) ≡ s
cut_whole ws s e = cut_from 0 ws s ∙ take_all (total ws) s (omega arith)

-- ---- a part in the middle, lent and updated, is the whole updated

pub update_mid : (n from len : ℕ) (at : ℕ → ℕ) (v : ℕ → ℕ → ℕ) (l : List ℕ) → from ≤ length l → ((i : ℕ) → i < n → at i < length (take len (drop from l)))
    → take from l ++ (update n at v (take len (drop from l)) ++ drop len (drop from l)) ≡ update n (λ i. from + at i) v l
update_mid n from len at v l h inside =
    let a = take from l in
    let b = take len (drop from l) in
    let c = drop len (drop from l) in
    let whole : a ++ (b ++ c) ≡ l = rw (take-append-drop len (drop from l)) (take-append-drop from l) in
    ap (λ (m : List ℕ). a ++ m) (sym (update_front n at v b c inside))
    ∙ sym (update_behind n at v a (b ++ c))
    ∙ ap (update n (λ i. length a + at i) v) whole
    ∙ update_at n (λ i. length a + at i) (λ i. from + at i) v l (λ i hi. ap (λ (k : ℕ). k + at i) (length-take-le from l h))
