-- Printed digits: they are what the library writes, how many there are, that reading them gives the number, and that they are a number as the
-- program reads one. Assumes nothing.
use mathlib.Core.Path.{◌≡◌}
use mathlib.Core.Bool.{Bool, true, false, cond}
use mathlib.Core.List.{[], ◌∷◌, ◌++◌}
use Prim.Native.Nat.{ℕ, zero, suc, ◌+◌, ◌/◌, ◌%◌, ◌^◌, ◌≤◌, ◌<◌}
use native.Mathlib.Omega.{arith}
use lib.Dec.{ltb}
use lib.ListN.{length, get_or, length-append}
use borrow.Author.Tests.{lt-ltb, le-leb}
use Rattle.std.proofs.Common.{rules}
use Rattle.std.proofs.lemmas.Fmt.{decimal_from_appends, length-decimal-le, decimal_nonempty, first_decimal, digits_decimal, digits_value-decimal}
use Rattle.std.proofs.lemmas.Str.Parse.{IsNumeralModel, numerals_by_fold}
use Rattle.std.specs.Fmt as written
use Rattle.lines.specs.Lines.{is_digit, all_digits, decimal, is_number}
use Rattle.lines.specs.Printing.{digits_in, digits_of, printed_number, printed_line}

-- the digits of a number are what the library writes of it
pub digits_written : (x : ℕ) → x < 2 ^ 32 → digits_of x ≡ written.decimal x
unfolding digits_of digits_in
digits_written x h = decimal_from_appends digits_in (search rules) 10 x (omega arith) (length-decimal-le 10 x (omega arith) (omega arith) (omega arith))

-- ---- how many

count : (k x : ℕ) → length (digits_in k x) ≤ k
unfolding digits_in
count zero x = omega arith
count (suc k) x = go (ltb x 10) (count k (x / 10))
  where
    go : (t : Bool) → length (digits_in k (x / 10)) ≤ k → length (cond t ((48 + x) ∷ []) (digits_in k (x / 10) ++ ((48 + x % 10) ∷ []))) ≤ suc k
    go true h = omega arith
    go false h = simp length-append (omega arith)

pub digits_count : (x : ℕ) → length (digits_of x) ≤ 10
unfolding digits_of
digits_count x = count 10 x

pub number_count : (x end : ℕ) → length (printed_number x end) ≤ 11
unfolding printed_number
number_count x end = simp length-append (omega (arith, digits_count x))

pub line_count : (number value pass written : ℕ) → length (printed_line (number ∷ value ∷ pass ∷ written ∷ [])) ≤ 44
unfolding printed_line
line_count number value pass written = simp length-append
    (omega (arith, number_count number 32, number_count value 32, number_count pass 32, number_count written 10))

-- ---- reading what is printed gives the number

-- the lines' own words for digits and what they write are the library's
own : IsNumeralModel (λ ds. all_digits ds ≡ true) (decimal 0)
unfolding all_digits is_digit decimal
own = numerals_by_fold _ (search rules) decimal (search rules)

pub read_back : (x : ℕ) → x < 2 ^ 32 → decimal 0 (digits_of x) ≡ x
read_back x h = rw (digits_written x h) (digits_value-decimal own x (omega arith))

-- ---- what is printed is a number as the program reads one: no digit in front is 0

pub no_zero_in_front : (x : ℕ) → 0 < x → x < 2 ^ 32 → 48 < get_or (digits_of x) 0 0
no_zero_in_front x p h = rw (digits_written x h) (first_decimal x p (omega arith))

pub printed_is_number : (x : ℕ) → x < 2 ^ 32 → is_number (digits_of x) ≡ true
unfolding is_number
printed_is_number x h = rw (
  digits_written x h,
  le-leb 1 (length (written.decimal x)) (decimal_nonempty x (omega arith)),
  le-leb (length (written.decimal x)) 10 (length-decimal-le 10 x (omega arith) (omega arith) (omega arith)),
  digits_decimal own x (omega arith),
  digits_value-decimal own x (omega arith),
) (lt-ltb x (2 ^ 32) h)
