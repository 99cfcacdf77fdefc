-- The numbers that calls give back: 0 is done, and of the others the first that applies is given. Assumes nothing.
use Rattle.std.specs.Prelude.{Bool, cond, List, [], ◌∷◌, ℕ, zero, suc}

-- 01, Numbers given back: checked in this order; the first that applies is given
unfoldable pub first : List (ℕ × Bool) → ℕ
first [] = 0
first (x ∷ xs) = cond x.1 x.0 (first xs)

-- 01, Numbers given back: x where the number is 0, done, and y where a refusal changes nothing
abbrev pub when_done {ℓ} : {A : Type ℓ} → ℕ → A → A → A
when_done zero x y = x
when_done (suc number) x y = y
