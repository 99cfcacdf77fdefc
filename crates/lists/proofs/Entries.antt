-- What holds of each entry of a list, and of what is read where there is none, holds of every entry read. Assumes nothing.
use mathlib.Core.List.{List, [], ◌∷◌}
use Prim.Native.Nat.{ℕ, zero, suc}
use lib.ListN.{get_or}

abbrev pub Each {ℓ} : {A : Type ℓ} → (A → Type 0) → List A → Type 0
Each Q [] = Unit {0}
Each Q (x ∷ xs) = Q x × Each Q xs

pub entry_holds {ℓ} : {A : Type ℓ} (Q : A → Type 0) (l : List A) (i : ℕ) (d : A) → Q d → Each Q l → Q (get_or l i d)
entry_holds Q [] i d none each = none
entry_holds Q (x ∷ l) zero d none each = each.0
entry_holds Q (x ∷ l) (suc i) d none each = entry_holds Q l i d none each.1
