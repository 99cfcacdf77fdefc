-- Reading a line a byte at a time gives what specs/Lines says of the whole line; its number and call say which answer it is. Assumes nothing.
use mathlib.Core.Path.{◌≡◌, refl, ap, ◌∙◌}
use mathlib.Core.Bool.{Bool, true, false, cond, not, ◌&&◌}
use mathlib.Core.List.{List, [], ◌∷◌, ◌++◌}
use Rattle.std.specs.Prelude.{Option, Some, None, Result, Ok, Err}
use Prim.Native.Nat.{ℕ, ◌+◌, ◌-◌, ◌*◌, ◌^◌, ◌≤◌, ◌<◌}
use native.Mathlib.Nat.{zero-add}
use native.Mathlib.Omega.{arith}
use Rattle.std.proofs.lemmas.Bool.Decides.{nat_tests}
use lib.Dec.{eqb, leb, ltb}
use lib.ListN.{length, get_or}
use borrow.Author.Tests.{eqb-true}
use Rattle.numbers.specs.Numbers.{first, when_done}
use Rattle.numbers.proofs.Tests.{determined}
use Rattle.numbers.specs.declared.Refusal.{Refusal}
use Rattle.numbers.proofs.Refusals.{result_determined}
use Rattle.chip.specs.declared.Call.{Call}
use Rattle.chip.specs.Operations.{ask}
use Rattle.lines.specs.declared.reader.SoFar.{SoFar}
use Rattle.lines.specs.declared.reader.Reader.{Reader}
use Rattle.lines.specs.declared.reader.Reader.TheVariants.{Empty, Reading, Spoilt}
use Rattle.lines.specs.Lines.{onto, split, is_digit, all_digits, decimal, is_number, all_numbers, text_number, line_call, TextGiven, is_call, no_call, text_given, parsed_given}
use Rattle.lines.specs.ByByte.{started, none_yet, pushed, after_space, after_digit, after_next, reader_of, after_byte, after_bytes, ended, has_byte}

-- ---- a line that goes on where a reader stands: its first piece goes on with the number that is being read

-- `is_number` after some digits and what they write
abbrev number_from : ℕ → ℕ → List ℕ → Bool
number_from digits value piece = leb 1 (digits + length piece) && leb (digits + length piece) 10 && all_digits piece && ltb (decimal value piece) (2 ^ 32)

abbrev numbers_from : ℕ → ℕ → List (List ℕ) → Bool
numbers_from digits value [] = false
numbers_from digits value (piece ∷ pieces) = number_from digits value piece && all_numbers pieces

abbrev pushed_from : Call → ℕ → List (List ℕ) → Call
pushed_from call value [] = call
pushed_from call value (piece ∷ pieces) = pushed_from (pushed call (decimal value piece)) 0 pieces

-- what a line gives that goes on with these pieces, after some numbers, and where a reader stands
abbrev goes_on : SoFar → List (List ℕ) → TextGiven
goes_on r pieces = cond (eqb (r.whole + length pieces) 6 && numbers_from r.digits r.value pieces)
    (is_call (pushed_from r.call r.value pieces))
    no_call

abbrev continued : Reader → List (List ℕ) → TextGiven
continued Empty pieces = goes_on none_yet pieces
continued (Reading r) pieces = goes_on r pieces
continued Spoilt pieces = no_call

-- digits only make a number larger
grows : (value : ℕ) (piece : List ℕ) → value ≤ decimal value piece
unfolding decimal
grows value [] = omega arith
grows value (x ∷ piece) = omega (arith, grows (value * 10 + (x - 48)) piece)

-- ---- one byte

module _ (r : SoFar) (d : r.digits ≤ 10) (v : r.value < 2 ^ 32) (p : List ℕ) (ps : List (List ℕ)) where
  at_space : continued (reader_of (after_space r)) (p ∷ ps) ≡ goes_on r ([] ∷ p ∷ ps)
  unfolding after_space all_digits decimal is_number all_numbers
  at_space = grind (arith, nat_tests)

  at_digit : (x : ℕ) → is_digit x ≡ true → continued (reader_of (after_digit r x)) (p ∷ ps) ≡ goes_on r ((x ∷ p) ∷ ps)
  unfolding after_digit all_digits decimal
  at_digit x e = let much = grows (r.value * 10 + (x - 48)) p in grind (arith, nat_tests)

  at_other : (x : ℕ) → is_digit x ≡ false → no_call ≡ goes_on r ((x ∷ p) ∷ ps)
  unfolding all_digits
  at_other x e = grind (arith, nat_tests)

  at_next : (x : ℕ) → continued (reader_of (after_next r x)) (p ∷ ps) ≡ goes_on r (cond (eqb x 32) ([] ∷ p ∷ ps) ((x ∷ p) ∷ ps))
  unfolding after_next
  at_next x = go (eqb x 32) (is_digit x) refl
    where
      go : (space digit : Bool) → is_digit x ≡ digit
          → continued (reader_of (cond space (after_space r) (cond digit (after_digit r x) None))) (p ∷ ps) ≡ goes_on r (cond space ([] ∷ p ∷ ps) ((x ∷ p) ∷ ps))
      go true digit e = at_space
      go false true e = at_digit x e
      go false false e = at_other x e

-- ---- all bytes

-- what every reader holds that has read from the start
abbrev Bounded : Reader → Type 0
Bounded Empty = Unit {0}
Bounded (Reading r) = (r.digits ≤ 10) × (r.value < 2 ^ 32)
Bounded Spoilt = Unit {0}

next_bounded : (r : SoFar) (x : ℕ) → r.digits ≤ 10 → r.value < 2 ^ 32 → Bounded (reader_of (after_next r x))
unfolding after_next after_space after_digit
next_bounded r x d v = grind (arith, nat_tests)

stays_bounded : (r : Reader) (x : ℕ) → Bounded r → Bounded (after_byte r x)
unfolding after_byte
stays_bounded Empty x b = next_bounded none_yet x (omega arith) (omega arith)
stays_bounded (Reading r) x b = next_bounded r x b.0 b.1
stays_bounded Spoilt x b = tt

at_byte : (r : Reader) → Bounded r → (p : List ℕ) (ps : List (List ℕ)) (x : ℕ)
    → continued (after_byte r x) (p ∷ ps) ≡ continued r (cond (eqb x 32) ([] ∷ p ∷ ps) ((x ∷ p) ∷ ps))
unfolding after_byte
at_byte Empty b p ps x = at_next none_yet (omega arith) (omega arith) p ps x
at_byte (Reading r) b p ps x = at_next r b.0 b.1 p ps x
at_byte Spoilt b p ps x = refl

-- some bytes, and then others
pub bytes_append : (r : Reader) (a b : List ℕ) → after_bytes r (a ++ b) ≡ after_bytes (after_bytes r a) b
unfolding after_bytes
bytes_append r [] b = refl
bytes_append r (x ∷ a) b = bytes_append (after_byte r x) a b

-- a line has at least one piece
pub some_piece : (mark : ℕ) (line : List ℕ) → 1 ≤ length (split mark line)
unfolding split
some_piece mark [] = omega arith
some_piece mark (x ∷ line) = go (eqb x mark) (split mark line)
  where
    go : (t : Bool) (pieces : List (List ℕ)) → 1 ≤ length (cond t ([] ∷ pieces) (onto x pieces))
    go true pieces = omega arith
    go false [] = omega arith
    go false (p ∷ ps) = omega arith

at_end : (r : Reader) → Bounded r → ended r ≡ continued r ([] ∷ [])
unfolding ended all_digits decimal all_numbers
at_end Empty b = refl
at_end (Reading r) b = grind (arith, nat_tests)
at_end Spoilt b = refl

read_from : (line : List ℕ) (r : Reader) → Bounded r → ended (after_bytes r line) ≡ continued r (split 32 line)
unfolding after_bytes split
read_from [] r b = at_end r b
read_from (x ∷ line) r b = read_from line (after_byte r x) (stays_bounded r x b) ∙ turn (split 32 line) (some_piece 32 line)
  where
    turn : (pieces : List (List ℕ)) → 1 ≤ length pieces → continued (after_byte r x) pieces ≡ continued r (cond (eqb x 32) ([] ∷ pieces) (onto x pieces))
    turn [] h = absurd (omega arith)
    turn (p ∷ ps) h = at_byte r b p ps x

-- ---- a line has begun once it has a byte

next_begins : (next : Option SoFar) → has_byte (reader_of next) ≡ true
next_begins (Some r) = refl
next_begins None = refl

byte_begins : (r : Reader) (x : ℕ) → has_byte (after_byte r x) ≡ true
unfolding after_byte
byte_begins Empty x = next_begins (after_next none_yet x)
byte_begins (Reading r) x = next_begins (after_next r x)
byte_begins Spoilt x = refl

pub bytes_begin : (r : Reader) (x : ℕ) (line : List ℕ) → has_byte (after_bytes r (x ∷ line)) ≡ true
unfolding after_bytes
bytes_begin r x [] = byte_begins r x
bytes_begin r x (y ∷ line) = bytes_begin (after_byte r x) y line

-- ---- from the start

-- six numbers, pushed one after the other, stand in their places
in_places : (pieces : List (List ℕ)) → length pieces ≡ 6
    → pushed_from (ask 0 0 0 0 0 0) 0 pieces
    ≡ ask (decimal 0 (get_or pieces 0 [])) (decimal 0 (get_or pieces 1 [])) (decimal 0 (get_or pieces 2 []))
    (decimal 0 (get_or pieces 3 [])) (decimal 0 (get_or pieces 4 [])) (decimal 0 (get_or pieces 5 []))
in_places [] h = absurd (omega arith)
in_places (a ∷ []) h = absurd (omega arith)
in_places (a ∷ b ∷ []) h = absurd (omega arith)
in_places (a ∷ b ∷ c ∷ []) h = absurd (omega arith)
in_places (a ∷ b ∷ c ∷ d ∷ []) h = absurd (omega arith)
in_places (a ∷ b ∷ c ∷ d ∷ e ∷ []) h = absurd (omega arith)
in_places (a ∷ b ∷ c ∷ d ∷ e ∷ f ∷ []) h = refl
in_places (a ∷ b ∷ c ∷ d ∷ e ∷ f ∷ g ∷ pieces) h = absurd (omega arith)

all_numbers_lem : (pieces : List (List ℕ)) → 1 ≤ length pieces → numbers_from 0 0 pieces ≡ all_numbers pieces
unfolding is_number all_numbers
all_numbers_lem [] h = absurd (omega arith)
all_numbers_lem (p ∷ ps) h = simp zero-add

-- 01, The small program: a line is six numbers exactly when the bytes are such a line
pub read_whole : (line : List ℕ) → ended (after_bytes started line) ≡ text_given line
unfolding text_given text_number line_call first
read_whole line = read_from line started tt ∙ rw (zero-add, all_numbers_lem (split 32 line) (some_piece 32 line)) (go (eqb (length (split 32 line)) 6) (all_numbers (split 32 line)) refl)
  where
    call : Call
    call = line_call line

    go : (six numbers : Bool) → eqb (length (split 32 line)) 6 ≡ six
        → cond (six && numbers) (is_call (pushed_from (ask 0 0 0 0 0 0) 0 (split 32 line))) no_call
        ≡ when_done (cond (not (six && numbers)) 9 0) (is_call call) no_call
    go false numbers e = refl
    go true false e = refl
    go true true e = ap is_call (in_places (split 32 line) (eqb-true (length (split 32 line)) 6 e))

-- 01, Expected form: equal numbers and calls are equal answers
pub parsed_determined : (a b : Result Call Refusal) → parsed_given a ≡ parsed_given b → a ≡ b
parsed_determined = result_determined parsed_given (λ g. g.number) (λ g. g.call) (λ call. (refl, refl)) (λ r. refl)
