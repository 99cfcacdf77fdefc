-- What each operation number asks for, read off the table. Assumes nothing.
use mathlib.Core.Path.{◌≡◌}
use mathlib.Core.Bool.{Bool, true, false}
use mathlib.Core.List.{[], ◌∷◌}
use Prim.Native.Nat.{ℕ, suc, ◌≤◌}
use native.Mathlib.Decide.{ℕ_discrete}
use native.Mathlib.Omega.{arith}
use lib.Dec.{eqb}
use Rattle.pixel.specs.declared.Write.{Write}
use Rattle.chip.specs.declared.Call.{Call}
use Rattle.chip.specs.Operations.{access, precharge, duplicate, read_block, write_block, data_read, data_write, write_tag, write_register, read_register, video_transfer, video_clock, call_table, row}

-- the write that a call of 8 to 11 asks for
abbrev pub asked : Bool → Bool → Call → Write
asked stateless initial x = record {
  stateless = stateless;
  initial = initial;
  slot = x.a;
  word = x.b;
  enables = x.c;
  passin = x.d;
  given = x.given;
}

-- a number is one of two in a row
either : {A : Type 0} (k n : ℕ) → k ≤ n → n ≤ suc k → (n ≡ k → A) → (n ≡ suc k → A) → A
either {A} k n l h first second = go (ℕ_discrete n k)
  where
    go : Dec (n ≡ k) → A
    go (yes e) = first e
    go (no f) = second (omega arith)

module _ (x : Call) where
  pub row_access : x.op ≡ 1 → row x ≡ (access x.a x.b, x.c ∷ x.d ∷ x.given ∷ [])
  unfolding row call_table
  row_access e = rw e

  pub row_precharge : x.op ≡ 2 → row x ≡ (precharge x.a, x.b ∷ x.c ∷ x.d ∷ x.given ∷ [])
  unfolding row call_table
  row_precharge e = rw e

  pub row_duplicate : x.op ≡ 3 → row x ≡ (duplicate x.a x.b, x.c ∷ x.d ∷ x.given ∷ [])
  unfolding row call_table
  row_duplicate e = rw e

  pub row_read_block : x.op ≡ 4 → row x ≡ (read_block x.a x.b x.c, x.d ∷ x.given ∷ [])
  unfolding row call_table
  row_read_block e = rw e

  pub row_write_block : 5 ≤ x.op → x.op ≤ 6 → row x ≡ (write_block (eqb x.op 5) x.a x.b x.c, x.d ∷ x.given ∷ [])
  unfolding row call_table
  row_write_block l h = either 5 x.op l h (λ e. rw e) (λ e. rw e)

  pub row_data_read : x.op ≡ 7 → row x ≡ (data_read x.a x.b, x.c ∷ x.d ∷ x.given ∷ [])
  unfolding row call_table
  row_data_read e = rw e

  pub row_stateless : 8 ≤ x.op → x.op ≤ 9 → row x ≡ (data_write (asked true (eqb x.op 8) x), [])
  unfolding row call_table
  row_stateless l h = either 8 x.op l h (λ e. rw e) (λ e. rw e)

  pub row_stateful : 10 ≤ x.op → x.op ≤ 11 → row x ≡ (data_write (asked false (eqb x.op 10) x), [])
  unfolding row call_table
  row_stateful l h = either 10 x.op l h (λ e. rw e) (λ e. rw e)

  pub row_write_tag : 12 ≤ x.op → x.op ≤ 13 → row x ≡ (write_tag (eqb x.op 12) x.a x.given, x.b ∷ x.c ∷ x.d ∷ [])
  unfolding row call_table
  row_write_tag l h = either 12 x.op l h (λ e. rw e) (λ e. rw e)

  pub row_write_register : x.op ≡ 14 → row x ≡ (write_register x.a x.given, x.b ∷ x.c ∷ x.d ∷ [])
  unfolding row call_table
  row_write_register e = rw e

  pub row_read_register : x.op ≡ 15 → row x ≡ (read_register x.a, x.b ∷ x.c ∷ x.d ∷ x.given ∷ [])
  unfolding row call_table
  row_read_register e = rw e

  pub row_video_transfer : x.op ≡ 16 → row x ≡ (video_transfer x.a x.b, x.c ∷ x.d ∷ x.given ∷ [])
  unfolding row call_table
  row_video_transfer e = rw e

  pub row_video_clock : x.op ≡ 17 → row x ≡ (video_clock, x.a ∷ x.b ∷ x.c ∷ x.d ∷ x.given ∷ [])
  unfolding row call_table
  row_video_clock e = rw e
