-- A line, read a byte at a time. proofs/Whole.antt shows that it gives what specs/Lines says of the whole line. Assumes nothing.
use Rattle.std.specs.Prelude.{Bool, true, false, cond, ◌&&◌, Option, Some, None, List, [], ◌∷◌, ℕ, ◌+◌, ◌-◌, ◌*◌, ◌^◌, eqb, ltb}
use Rattle.chip.specs.declared.Call.{Call}
use Rattle.chip.specs.Operations.{ask}
use Rattle.lines.specs.declared.reader.SoFar.{SoFar}
use Rattle.lines.specs.declared.reader.Reader.{Reader}
use Rattle.lines.specs.declared.reader.Reader.TheVariants.{Empty, Reading, Spoilt}
use Rattle.lines.specs.Lines.{is_digit, TextGiven, is_call, no_call}

-- before the first byte
abbrev pub started : Reader
started = Empty

-- no number yet
abbrev pub none_yet : SoFar
none_yet = record { whole = 0; digits = 0; value = 0; call = ask 0 0 0 0 0 0 }

-- one number more: the others move one place down
abbrev pub pushed : Call → ℕ → Call
pushed call number = ask call.a call.b call.c call.d call.given number

-- a space ends a number, which has a digit and is not the sixth
abbrev pub number_more : SoFar → SoFar
number_more r = record { whole = r.whole + 1; digits = 0; value = 0; call = pushed r.call r.value }

unfoldable pub after_space : SoFar → Option SoFar
after_space r = cond (ltb 0 r.digits && ltb r.whole 5) (Some (number_more r)) None

-- a digit more of a number: at most ten, and below 2^32
abbrev pub digit_more : SoFar → ℕ → SoFar
digit_more r x = record { whole = r.whole; digits = r.digits + 1; value = r.value * 10 + (x - 48); call = r.call }

unfoldable pub after_digit : SoFar → ℕ → Option SoFar
after_digit r x = cond (ltb r.digits 10 && ltb (r.value * 10 + (x - 48)) (2 ^ 32)) (Some (digit_more r x)) None

-- a byte more, where a line has such a byte
unfoldable pub after_next : SoFar → ℕ → Option SoFar
after_next r x = cond (eqb x 32) (after_space r) (cond (is_digit x) (after_digit r x) None)

-- a line is spoilt by a byte that no line has there
abbrev pub reader_of : Option SoFar → Reader
reader_of (Some r) = Reading r
reader_of None = Spoilt

-- a byte more of a line
unfoldable pub after_byte : Reader → ℕ → Reader
after_byte Empty x = reader_of (after_next none_yet x)
after_byte (Reading r) x = reader_of (after_next r x)
after_byte Spoilt x = Spoilt

-- more bytes of a line
unfoldable pub after_bytes : Reader → List ℕ → Reader
after_bytes r [] = r
after_bytes r (x ∷ xs) = after_bytes (after_byte r x) xs

-- the end of a line: five numbers are whole, and the sixth has a digit
abbrev pub complete : SoFar → Bool
complete r = eqb r.whole 5 && ltb 0 r.digits

unfoldable pub ended : Reader → TextGiven
ended Empty = no_call
ended (Reading r) = cond (complete r) (is_call (pushed r.call r.value)) no_call
ended Spoilt = no_call

-- a line has begun once it has a byte
abbrev pub has_byte : Reader → Bool
has_byte Empty = false
has_byte (Reading r) = true
has_byte Spoilt = true
