-- What `fits` says of each line: its operands in the documents' ranges, and the rest 0. Assumes nothing.
use mathlib.Core.Path.{◌≡◌}
use mathlib.Core.Bool.{true, ◌&&◌}
use mathlib.Core.List.{[], ◌∷◌}
use Prim.Native.Nat.{ℕ}
use native.Mathlib.Omega.{arith}
use lib.Dec.{leb, ltb}
use Rattle.std.proofs.lemmas.Bool.Decides.{nat_tests}
use Rattle.chip.specs.declared.Call.{Call}
use Rattle.chip.specs.Operations.{all_zero}
use Rattle.own.specs.declared.operands.Line.{Line}
use Rattle.own.specs.declared.operands.TheConstants.{PRECHARGE, BLOCK_LINE, DATA_READ, DATA_WRITE, WRITE_TAG, WRITE_REGISTER, READ_REGISTER, VIDEO_TRANSFER, VIDEO_CLOCK}
use Rattle.own.specs.Lines.{fits, page_line}

module _ (x : Call) where
  -- 1 and 3: bank, page; a line that the code makes, from the pages that it reads
  pub page_fits : {line : Line} {pages P : ℕ} → line ≡ page_line pages → pages ≡ P → fits line x ≡ (ltb x.a 4 && ltb x.b P && all_zero (x.c ∷ x.d ∷ x.given ∷ []))
  unfolding fits
  page_fits made read = rw (made, read) (grind (arith, nat_tests))

  -- 2: bank
  pub bank_fits : fits PRECHARGE x ≡ (ltb x.a 4 && all_zero (x.b ∷ x.c ∷ x.d ∷ x.given ∷ []))
  unfolding fits
  bank_fits = grind (arith, nat_tests)

  -- 4 to 6: bank, block, slot
  pub block_fits : fits BLOCK_LINE x ≡ (ltb x.a 4 && ltb x.b 40 && ltb x.c 8 && all_zero (x.d ∷ x.given ∷ []))
  unfolding fits
  block_fits = grind (arith, nat_tests)

  -- 7: slot, word
  pub word_fits : fits DATA_READ x ≡ (ltb x.a 8 && ltb x.b 8 && all_zero (x.c ∷ x.d ∷ x.given ∷ []))
  unfolding fits
  word_fits = grind (arith, nat_tests)

  -- 8 to 11: slot, word, byte enables, pass-in, data
  pub write_fits : fits DATA_WRITE x ≡ (ltb x.a 8 && ltb x.b 8 && ltb x.c 16 && ltb x.d 4 && all_zero [])
  unfolding fits
  write_fits = grind (arith, nat_tests)

  -- 12 and 13: slot, data
  pub slot_fits : fits WRITE_TAG x ≡ (ltb x.a 8 && all_zero (x.b ∷ x.c ∷ x.d ∷ []))
  unfolding fits
  slot_fits = grind (arith, nat_tests)

  -- 14: register number, data
  pub register_fits : fits WRITE_REGISTER x ≡ (leb 1 x.a && leb x.a 7 && all_zero (x.b ∷ x.c ∷ x.d ∷ []))
  unfolding fits
  register_fits = grind (arith, nat_tests)

  -- 15: register number
  pub number_fits : fits READ_REGISTER x ≡ (leb 1 x.a && leb x.a 7 && all_zero (x.b ∷ x.c ∷ x.d ∷ x.given ∷ []))
  unfolding fits
  number_fits = grind (arith, nat_tests)

  -- 16: bank, line
  pub line_fits : fits VIDEO_TRANSFER x ≡ (ltb x.a 4 && ltb x.b 16 && all_zero (x.c ∷ x.d ∷ x.given ∷ []))
  unfolding fits
  line_fits = grind (arith, nat_tests)

  -- 17: none
  pub nothing_given : fits VIDEO_CLOCK x ≡ (true && all_zero (x.a ∷ x.b ∷ x.c ∷ x.d ∷ x.given ∷ []))
  unfolding fits
  nothing_given = grind (arith, nat_tests)
