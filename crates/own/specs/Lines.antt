-- 01, Calls: which operands a call may have, by what its line lists. Assumes nothing.
use Rattle.std.specs.Prelude.{ℕ, Bool, false, ◌&&◌, ◌||◌, ◌==◌, nat_le, nat_lt}
use Rattle.std.specs.declared.ops.Range.{Range}
use Rattle.chip.specs.declared.Call.{Call}
use Rattle.own.specs.declared.operands.Line.{Line}

-- 01, Calls, table: bank, page, with P pages to a bank
abbrev pub page_line : ℕ → Line
page_line P = record { a = below 4; b = below P; c = below 1; d = below 1; given = false }
  where
    below : ℕ → Range ℕ
    below end = record { start = 0; end = end }

-- 01, Calls: each operand in its range, which is 0 alone where the line does not list it, and data not listed 0
unfoldable pub fits : Line → Call → Bool
fits line x = holds line.a x.a && holds line.b x.b && holds line.c x.c && holds line.d x.d && (line.given || x.given == 0)
  where
    holds : Range ℕ → ℕ → Bool
    holds range operand = nat_le range.start operand && nat_lt operand range.end
