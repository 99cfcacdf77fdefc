-- The 64-bit number of each answer, from its parts. Assumes nothing.
use mathlib.Core.Path.{◌≡◌, refl, sym, ap, ◌∙◌}
use mathlib.Core.Bool.{Bool, true, false, not, cond, ◌&&◌}
use mathlib.Core.List.{List}
use Prim.Native.Nat.{ℕ, ◌<◌}
use native.Mathlib.Omega.{arith}
use lib.Dec.{lit<, eqb, ltb}
use lib.ListN.{length}
use Rattle.std.specs.Prelude.{Result, Ok, Err, ⊤}
use Rattle.numbers.specs.declared.Refusal.{Refusal}
use Rattle.numbers.specs.Refusals.{refusal_number}
use Rattle.numbers.proofs.Refusals.{refusal_between}
use Rattle.layout.specs.declared.Point.{Point}
use Rattle.layout.specs.Memory.{line_number, line_placed, placed_given}
use Rattle.layout.specs.Screen.{point_given, pointed_given}
use Rattle.columns.specs.Columns.{column_given, found_given, columns_number, filled_number}
use Rattle.chip.specs.declared.Done.{Done}
use Rattle.chip.specs.declared.Call.{Call}
use Rattle.chip.specs.State.{slots}
use Rattle.chip.specs.Answers.{valued, numbered, given_back, packed}
use Rattle.chip.specs.Calls.{call_given}
use Rattle.chip.specs.Promises.{NumbersGiven}
use Rattle.chip.proofs.NumbersGiven as numbers
use Rattle.chip.proofs.StateForms as forms
use Rattle.block.specs.Block.{decode_control, decode, well_formed_block}
use Rattle.block.specs.OnBlock.{block_given, block_line_number}
use Rattle.own.proofs.WellFormed.{well_control}
use Rattle.panel.specs.Packs.{line_offset, point_value, point_packed, column_packed, columns_packed}

-- ---- a call

-- its number is 0 to 7
pub number_lt : (s memory : List ℕ) (x : Call) → (block_given s memory x).number < 256
unfolding block_given call_given NumbersGiven
number_lt s memory x = go (well_formed_block s)
  where
    go : (well : Bool) → (cond well (call_given (decode s) memory x) (numbered 1)).number < 256
    go true = rw (numbers.numbers_given slots (decode s) memory x) (omega (arith, numbers.number_lt slots (decode_control s) (length memory) x))
    go false = lit< tt

pub refused_packed : (a : Result Done Refusal) (r : Refusal) → a ≡ Err r → packed (numbered (given_back a).number) ≡ packed (given_back a)
refused_packed a r e = rw e

-- ---- a point, a column, the table: an enum's number and values are those that the definitions give

pub point_told : (P x y : ℕ) (a b : Result Point Refusal) → pointed_given a ≡ point_given P x y → a ≡ b
    → packed (valued (pointed_given b).number (point_value (pointed_given b).point)) ≡ point_packed P x y
unfolding point_packed
point_told P x y a b e told = rw (sym (ap pointed_given told) ∙ e)

pub column_told : (x : ℕ) (a b : Result ℕ Refusal) → found_given a ≡ column_given x → a ≡ b → packed (valued (found_given b).number (found_given b).entry) ≡ column_packed x
unfolding column_packed
column_told x a b e told = rw (sym (ap found_given told) ∙ e)

pub table_told : (len : ℕ) (a b : Result ⊤ Refusal) → filled_number a ≡ columns_number len → a ≡ b → packed (numbered (filled_number b)) ≡ columns_packed len
unfolding columns_packed
table_told len a b e told = rw (sym (ap filled_number told) ∙ e)

-- ---- a scan line

-- of a well formed block it is refused by layout's numbers
pub line_told : (s memory : List ℕ) (bank page line : ℕ) {P n : ℕ} → well_formed_block s ≡ true
    → P ≡ (decode_control s).pages
    → n ≡ line_number P (length memory) bank page line
    → n ≡ block_line_number s memory bank page line
unfolding block_line_number
line_told s memory bank page line well p e =
    rw (e, p, well) (forms.line_told (decode_control s) (length memory) bank page line (well_control s well))

-- found or refused, it is packed as the definition has it
pub line_packed : (s memory : List ℕ) (bank page line : ℕ) {P : ℕ} {a b : Result ℕ Refusal} → well_formed_block s ≡ true → P ≡ (decode_control s).pages
    → placed_given a ≡ line_placed P (length memory) bank page line → a ≡ b
    → packed (valued (placed_given b).number (placed_given b).start) ≡ line_offset s memory bank page line
unfolding line_offset line_placed
line_packed s memory bank page line {P} well p e told =
    let number : line_number P (length memory) bank page line ≡ block_line_number s memory bank page line = line_told s memory bank page line well p refl in
    rw (sym (ap placed_given told) ∙ e, number, p)
