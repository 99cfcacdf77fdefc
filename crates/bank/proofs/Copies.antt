-- Bytes copied one behind the other, as `copy_within` does it, are an update of each. Assumes nothing.
use mathlib.Core.Path.{◌≡◌, sym, ap₂, ◌∙◌}
use mathlib.Core.List.{List}
use Prim.Native.Nat.{ℕ, zero, suc, ◌+◌, ◌≤◌}
use native.Mathlib.Omega.{arith}
use lib.ListN.{length, get_or, set, drop, length-drop}
use lib.Seq.{paste, paste-zero, paste-suc, get_or-drop}
use Rattle.lists.specs.Update.{update}

pub pasted : (n to from : ℕ) (l : List ℕ) → to + n ≤ length l → from + n ≤ length l
    → paste l to (drop from l) n ≡ update n (λ j. to + j) (λ j was. get_or l (from + j) 0) l
unfolding update
pasted zero to from l ht hf = sym (paste-zero l to (drop from l))
pasted (suc n) to from l ht hf =
    sym (paste-suc l to (drop from l) n 0 (omega arith) (omega (arith, length-drop from l)))
    ∙ ap₂ (λ (m : List ℕ) (x : ℕ). set m (to + n) x) (pasted n to from l (omega arith) (omega arith)) (get_or-drop from l n 0)
