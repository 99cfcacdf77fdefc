-- The column table's bytes are those of its entries, and an answer's number and entry say which it is. Assumes nothing.
use mathlib.Core.Path.{◌≡◌, refl, ap₂, ◌∙◌}
use mathlib.Core.Bool.{cond}
use Prim.Native.Nat.{ℕ, ◌+◌, ◌*◌, ◌/◌, ◌%◌, ◌^◌, ◌<◌}
use native.Mathlib.Nat.{div-one, mod-eq_of_lt}
use native.Mathlib.Omega.{arith}
use lib.Dec.{eqb}
use lib.ListN.{get_or}
use Rattle.numbers.proofs.Tests.{determined}
use Rattle.columns.specs.Columns.{table, column_entry, ColumnGiven, found_given, column_byte, column_bytes, filled_number}
use Rattle.std.specs.Prelude.{Result, Ok, Err, ⊤}
use Rattle.numbers.specs.declared.Refusal.{Refusal}
use Rattle.numbers.proofs.Refusals.{result_determined}
use Rattle.columns.proofs.Tables.{get_or_table}

pub entry_lt : (x : ℕ) → x < 1280 → column_entry x < 2048
unfolding column_entry
entry_lt x h = omega arith

-- the lower byte comes first
pub lower_byte : (x : ℕ) → column_byte (2 * x) ≡ column_entry x % 256
unfolding column_byte
lower_byte x =
    let entry : 2 * x / 2 ≡ x = omega arith in
    let byte : 2 * x % 2 ≡ 0 = omega arith in
    ap₂ (λ (e b : ℕ). column_entry e / 256 ^ b % 256) entry byte ∙ rw div-one

pub upper_byte : (x : ℕ) → x < 1280 → column_byte (2 * x + 1) ≡ column_entry x / 256
unfolding column_byte
upper_byte x h =
    let entry : (2 * x + 1) / 2 ≡ x = omega arith in
    let byte : (2 * x + 1) % 2 ≡ 1 = omega arith in
    ap₂ (λ (e b : ℕ). column_entry e / 256 ^ b % 256) entry byte ∙ mod-eq_of_lt (omega (arith, entry_lt x h))

-- who reads an entry out of the bytes has the table's
pub entry_read_back : (x : ℕ) → x < 1280 → get_or column_bytes (2 * x) 0 + get_or column_bytes (2 * x + 1) 0 * 256 ≡ column_entry x
unfolding column_bytes
entry_read_back x h =
    let low : get_or (table 2560 column_byte) (2 * x) 0 ≡ column_entry x % 256 = get_or_table 2560 column_byte (2 * x) (omega arith) ∙ lower_byte x in
    let high : get_or (table 2560 column_byte) (2 * x + 1) 0 ≡ column_entry x / 256 = get_or_table 2560 column_byte (2 * x + 1) (omega arith) ∙ upper_byte x h in
    rw (low, high) (omega arith)

-- 01, Expected form: equal numbers and entries are equal answers
pub column_determined : (a b : Result ℕ Refusal) → found_given a ≡ found_given b → a ≡ b
column_determined = result_determined found_given (λ g. g.number) (λ g. g.entry) (λ entry. (refl, refl)) (λ r. refl)

pub filled_determined : (a b : Result ⊤ Refusal) → filled_number a ≡ filled_number b → a ≡ b
filled_determined = result_determined filled_number (λ number. number) (λ number. _) (λ done. (refl, refl)) (λ r. refl)
