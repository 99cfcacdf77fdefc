-- `columns::entries::fill`: past the last entry all 2,560 bytes are the table's. Assumes nothing.
use mathlib.Core.Path.{◌≡◌, refl, sym, ap, ◌∙◌}
use mathlib.Core.List.{List, [], ◌∷◌}
use Prim.Native.Nat.{ℕ, ◌+◌, ◌*◌, ◌/◌, ◌%◌, ◌<◌}
use native.Mathlib.Omega.{arith}
use lib.ListN.{length, get_or, set, length-set}
use borrow.Author.Tests.{eq-eqb, ne_eqb}
use Rattle.numbers.specs.Numbers.{first}
use Rattle.columns.specs.Columns.{column_entry, column_table, column_byte, column_bytes, columns_number, columns_left}
use Rattle.columns.proofs.Tables.{get_or_table, is_table, filled_next}
use Rattle.columns.proofs.Columns.{lower_byte, upper_byte}
use Rattle.columns.proofs.entries.fill.Goals as goal

pub returns-then-buffer-ne-TABLE_BYTES : goal.returns-then-buffer-ne-TABLE_BYTES
unfolding columns_left columns_number first
returns-then-buffer-ne-TABLE_BYTES c = rw (ne_eqb _ _ c.if-buffer-ne-TABLE_BYTES.true) (refl, refl)

pub loop-x-init : goal.loop-x-init
loop-x-init c j h = absurd (omega arith)

-- code's table has the entry of each x
entry_read : (entries : List ℕ) (x : ℕ) → entries ≡ column_table → x < 1280 → get_or entries x 0 ≡ column_entry x
unfolding column_table
entry_read entries x e h = ap (λ (l : List ℕ). get_or l x 0) e ∙ get_or_table 1280 column_entry x h

-- a turn puts the entry's lower byte, and then its upper byte
turned : (entry x : ℕ) (buffer : List ℕ) → x < 1280 → entry ≡ column_entry x → length buffer ≡ 2560
    → ((j : ℕ) → j < 2 * x → get_or buffer j 0 ≡ column_byte j)
    → (j : ℕ) → j < 2 * x + 1 + 1 → get_or (set (set buffer (2 * x) (entry % 256)) (2 * x + 1) (entry / 256)) j 0 ≡ column_byte j
turned entry x buffer h e long before =
    filled_next column_byte (set buffer (2 * x) (entry % 256)) (2 * x + 1) (entry / 256) (simp length-set (omega arith)) (ap (λ (n : ℕ). n / 256) e ∙ sym (upper_byte x h))
    (filled_next column_byte buffer (2 * x) (entry % 256) (omega arith) (ap (λ (n : ℕ). n % 256) e ∙ sym (lower_byte x)) before)

pub loop-x-preserved : goal.loop-x-preserved
loop-x-preserved c j h =
    let x = c.loop-x.x in
    let entry = get_or c.columns-entries.result x 0 in
    let small : entry / 256 % 256 ≡ entry / 256 = omega arith in
    let bytes : c.to_le_bytes.result ≡ entry % 256 ∷ entry / 256 ∷ [] = c.to_le_bytes.ensures ∙ ap (λ (u : ℕ). entry % 256 ∷ u ∷ []) small in
    rw bytes (turned _ x c.loop-x.buffer c.loop-x-test.true (entry_read _ x c.columns-entries.ensures c.loop-x-test.true) (c.loop-x.auto.buffer ∙ c.if-buffer-ne-TABLE_BYTES.false)
    c.loop-x.invariant j (omega arith))

pub returns : goal.returns
unfolding columns_left columns_number first column_bytes
returns c =
    let last : c.loop-x.x ≡ 1280 = omega (arith, c.loop-x.auto.x-end, c.loop-x-test.false) in
    let long : length c.loop-x.buffer ≡ 2560 = c.loop-x.auto.buffer ∙ c.if-buffer-ne-TABLE_BYTES.false in
    rw (eq-eqb _ _ c.if-buffer-ne-TABLE_BYTES.false) (refl, is_table c.loop-x.buffer 2560 column_byte long (λ j h. c.loop-x.invariant j (omega arith)))
