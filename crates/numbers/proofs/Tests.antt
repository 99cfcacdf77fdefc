-- Where no number applies each test failed; what is given of a number, and of an answer; and what a test in code tells. Assumes nothing.
use mathlib.Core.Path.{◌≡◌, refl, sym, ap, ◌∙◌}
use mathlib.Core.Bool.{Bool, true, false, ◌&&◌, false≢true}
use mathlib.Core.List.{List, ◌∷◌}
use mathlib.Core.Logic.{◌≢◌}
use Prim.Native.Nat.{ℕ, zero, suc}
use native.Mathlib.Omega.{arith}
use lib.Dec.{eqb}
use borrow.Author.Tests.{eq-eqb, ne_eqb}
use Rattle.numbers.specs.Numbers.{first, when_done}

-- the first test failed, and so did the rest
pub none_applies : (n : ℕ) (t : Bool) (xs : List (ℕ × Bool)) → first ((suc n, t) ∷ xs) ≡ 0 → (t ≡ false) × (first xs ≡ 0)
unfolding first
none_applies n true xs e = absurd (omega arith)
none_applies n false xs e = (refl, e)

pub and_left : (a b : Bool) → (a && b) ≡ true → a ≡ true
and_left true b e = refl
and_left false b e = e

pub and_right : (a b : Bool) → (a && b) ≡ true → b ≡ true
and_right true b e = e
and_right false b e = absurd (false≢true e)

pub given_done {ℓ} : {A : Type ℓ} (number : ℕ) (x y : A) → number ≡ 0 → when_done number x y ≡ x
given_done zero x y e = refl
given_done (suc number) x y e = absurd (omega arith)

pub given_refused {ℓ} : {A : Type ℓ} (number : ℕ) (x y : A) → number ≢ 0 → when_done number x y ≡ y
given_refused zero x y ne = absurd (ne refl)
given_refused (suc number) x y ne = refl

-- code asks `if !test(..)`, where the test's answer is t: past it t holds, and in its branch t fails
pub test_holds : {answer t : Bool} → answer ≡ t → answer ≡ true → t ≡ true
test_holds e left = sym e ∙ left

pub test_fails : {answer t : Bool} → answer ≡ t → answer ≡ false → t ≡ false
test_fails e taken = sym e ∙ taken

-- code asks whether a result, which is x, is k
pub equal : {r x k : ℕ} → r ≡ x → r ≡ k → eqb x k ≡ true
equal {r} {x} {k} e q = eq-eqb x k (sym e ∙ q)

pub unequal : {r x k : ℕ} → r ≡ x → (r ≡ k → ⊥) → eqb x k ≡ false
unequal {r} {x} {k} e f = ne_eqb x k (λ q. f (e ∙ q))

-- an answer that is got back from what is given of it is determined by it
pub determined {ℓ ℓ'} : {A : Type ℓ} {G : Type ℓ'} (given : A → G) (from : G → A) → ((a : A) → from (given a) ≡ a) → (a b : A) → given a ≡ given b → a ≡ b
determined given from back a b e = sym (back a) ∙ ap from e ∙ back b
