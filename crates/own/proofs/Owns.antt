-- A call's own line as code goes through it: the test of its operands, then what it asks; what is left at each, and its end. Assumes nothing.
use mathlib.Core.Path.{◌≡◌, refl, sym, ap, ◌∙◌}
use mathlib.Core.Bool.{true, false, not, cond, ◌&&◌, Bool, false≢true}
use borrow.Author.Tests.{eq-eqb, eqb-true}
use Rattle.std.specs.Prelude.{Result, Ok, Err, IsErrAnd}
use Rattle.std.specs.Result.{is_ok, result_unwrap_or}
use Rattle.numbers.specs.declared.Refusal.{Refusal}
use Rattle.numbers.specs.declared.Refusal.TheVariants.{BankClosed}
use Rattle.chip.specs.declared.Done.{Done}
use Rattle.chip.proofs.NumbersGiven.{passed_on}
use mathlib.Core.List.{List, [], ◌∷◌}
use Prim.Native.Nat.{ℕ, suc, ◌<◌, ◌≤◌}
use lib.Dec.{eqb, ltb}
use lib.ListN.{length}
use Rattle.numbers.specs.Numbers.{first}
use Rattle.layout.specs.Memory.{size}
use Rattle.numbers.proofs.Tests.{and_left, test_holds, test_fails, equal, unequal}
use Rattle.chip.specs.declared.Call.{Call}
use Rattle.chip.specs.declared.Control.{Control}
use Rattle.chip.specs.declared.Chip.{Chip}
use Rattle.chip.specs.Video.{video_byte, put_out}
use Rattle.chip.specs.State.{slots, closed, open_page, is_closed}
use Rattle.chip.specs.Operations.{Operation, row, operation, all_zero, in_range}
use Rattle.chip.specs.Effects.{Effect, reading, slot_byte, effect, pixels_after, memory_after, video_after, still, giving}
use Rattle.chip.specs.Answers.{GivenBack, given_back, done_with, numbered, effect_given}
use Rattle.chip.specs.Refusals.{asks, operands_fit, call_tests}
use Rattle.chip.specs.Calls.{read_in, chip_after}
use Rattle.chip.proofs.Accepted.{page_range, block_range}
use Rattle.block.specs.Block.{encode, decode_control, pixels_in, video_in, decode, ticked_in, well_formed_block}
use Rattle.block.proofs.Parts.{under}
use Rattle.block.proofs.Puts.{Stores, ticks}
use Rattle.own.specs.Own.{opened_in, own_number, own_given, own_block, own_memory}
use Rattle.own.proofs.WellFormed.{pages_in, page_below}

-- the tests, of an operation and the operands that its line does not list
unfoldable pub tests : Control → Operation → List ℕ → ℕ
tests c o unused = first ((4, not (in_range slots c.pages o && all_zero unused)) ∷ asks c o)

-- the first of them that applies: the operands', or what the operation asks
module _ (c : Control) (o : Operation) (unused : List ℕ) where
  pub outside : (in_range slots c.pages o && all_zero unused) ≡ false → tests c o unused ≡ 4
  unfolding tests first
  outside e = rw e

  pub by_asks : (in_range slots c.pages o && all_zero unused) ≡ true → {k : ℕ} → first (asks c o) ≡ k → tests c o unused ≡ k
  unfolding tests first
  by_asks fits e = rw fits e

-- what ops 1 and 3 to 6 ask of their bank: 6 where it is open, 7 where it is closed
pub access_open : (c : Control) (bank : ℕ) → eqb (open_page c.banks bank) 65535 ≡ false → first ((6, not (is_closed c.banks bank)) ∷ []) ≡ 6
unfolding first is_closed closed
access_open c bank e = rw e

pub access_shut : (c : Control) (bank : ℕ) → eqb (open_page c.banks bank) 65535 ≡ true → first ((6, not (is_closed c.banks bank)) ∷ []) ≡ 0
unfolding first is_closed closed
access_shut c bank e = rw e

pub bank_shut : (c : Control) (bank : ℕ) → eqb (open_page c.banks bank) 65535 ≡ true → first ((7, is_closed c.banks bank) ∷ []) ≡ 7
unfolding first is_closed closed
bank_shut c bank e = rw e

pub bank_open : (c : Control) (bank : ℕ) → eqb (open_page c.banks bank) 65535 ≡ false → first ((7, is_closed c.banks bank) ∷ []) ≡ 0
unfolding first is_closed closed
bank_open c bank e = rw e

-- the chip that an effect on a block's chip leaves, but for the counter
abbrev pub leaves : Effect → List ℕ → List ℕ → Chip
leaves e s memory = record {
  control = e.control;
  pixels = pixels_after (decode_control s) (pixels_in s) memory e.move;
  video = video_after (decode_control s) (video_in s) memory e.move;
}

-- refused with a number: it is given, and nothing changes
abbrev pub Unmoved : List ℕ → Call → ℕ → Type 0
Unmoved s x k = (numbered k ≡ own_given s x) × ((memory : List ℕ) → s ≡ own_block s memory x) × ((memory : List ℕ) → memory ≡ own_memory s memory x)

module _ (s : List ℕ) (x : Call) (o : Operation) (unused : List ℕ) (r : row x ≡ (o, unused)) where
  -- what the operation does, if it is done
  abbrev pub does : Effect
  does = effect slots (decode_control s) o (reading slots (decode_control s).registers (slot_byte (pixels_in s)) (put_out (decode_control s).scan (video_byte (video_in s))) o)

  operation_is : operation x ≡ o
  unfolding operation
  operation_is = ap (λ (p : Operation × List ℕ). p.0) r

  own_number_lem : own_number s x ≡ tests (decode_control s) o unused
  unfolding own_number call_tests operands_fit tests
  own_number_lem = rw (operation_is, r)

  pub refused : {k : ℕ} → tests (decode_control s) o unused ≡ suc k → Unmoved s x (suc k)
  unfolding own_given own_block own_memory
  refused e = (rw (own_number_lem, e), λ memory. rw (own_number_lem, e), λ memory. rw (own_number_lem, e))

  -- done: what its operation does
  module _ (e : tests (decode_control s) o unused ≡ 0) where
    pub done_given : effect_given does ≡ own_given s x
    unfolding own_given read_in
    done_given = rw (own_number_lem, e, operation_is)

    pub done_block : (memory : List ℕ) → encode (chip_after (decode s) memory does) ≡ own_block s memory x
    unfolding own_block read_in
    done_block memory = rw (own_number_lem, e, operation_is)

    pub done_memory : (memory : List ℕ) → memory_after (decode_control s) (pixels_in s) memory does.move ≡ own_memory s memory x
    unfolding own_memory read_in
    done_memory memory = rw (own_number_lem, e, operation_is)

  -- no number applies, the block with its field put stores what the operation leaves, and `done` ends the call
  pub put_done : {c : Control} {v : ℕ} {put after : List ℕ} {given : GivenBack} → tests (decode_control s) o unused ≡ 0
      → Stores put (under (decode s) c) → giving v c still ≡ does → (given ≡ done_with v 0 0) × (after ≡ ticked_in put)
      → (given ≡ own_given s x) × ((memory : List ℕ) → after ≡ own_block s memory x)
  unfolding pixels_after video_after
  put_done none held leaves ends = (
    ends.0 ∙ ap effect_given leaves ∙ done_given none,
    λ memory. ends.1 ∙ ticks held
        ∙ ap (λ (e : Effect). encode (chip_after (decode s) memory e)) leaves
        ∙ done_block none memory,
  )

module _ (s : List ℕ) (x : Call) {o : Operation} {unused : List ℕ} (r : row x ≡ (o, unused)) where
  -- `fits` is what the code's test of the operands answers
  module _ {fits : Bool} (told : fits ≡ (in_range slots (decode_control s).pages o && all_zero unused)) where
    pub operand_outside : fits ≡ false → Unmoved s x 4
    operand_outside taken = refused s x o unused r (outside (decode_control s) o unused (test_fails told taken))

    -- the same, of a call that has no memory
    pub operands_refused : fits ≡ false → (numbered 4 ≡ own_given s x) × ((memory : List ℕ) → s ≡ own_block s memory x)
    operands_refused taken = let left = operand_outside taken in (left.0, left.1)

    -- `page` is what the code reads of the bank
    module _ (left : fits ≡ true) {page : ℕ} (read : page ≡ open_page (decode_control s).banks x.a) where
      -- an operation on an open bank: 3 to 6
      module _ (asked : asks (decode_control s) o ≡ (7, is_closed (decode_control s).banks x.a) ∷ []) where
        pub closed_refused : page ≡ 65535 → Unmoved s x 7
        closed_refused e = refused s x o unused r (by_asks (decode_control s) o unused (test_holds told left) (ap first asked ∙ bank_shut (decode_control s) x.a (equal read e)))

        pub open_passes : (page ≡ 65535 → ⊥) → tests (decode_control s) o unused ≡ 0
        open_passes f = by_asks (decode_control s) o unused (test_holds told left) (ap first asked ∙ bank_open (decode_control s) x.a (unequal read f))

      -- one on a closed bank: 1
      module _ (asked : asks (decode_control s) o ≡ (6, not (is_closed (decode_control s).banks x.a)) ∷ []) where
        pub open_refused : (page ≡ 65535 → ⊥) → Unmoved s x 6
        open_refused f = refused s x o unused r (by_asks (decode_control s) o unused (test_holds told left) (ap first asked ∙ access_open (decode_control s) x.a (unequal read f)))

        pub closed_passes : page ≡ 65535 → tests (decode_control s) o unused ≡ 0
        closed_passes e = by_asks (decode_control s) o unused (test_holds told left) (ap first asked ∙ access_shut (decode_control s) x.a (equal read e))

  -- done: the answer, the block with the counter gone on, and the memory are what the operation does
  module _ (none : tests (decode_control s) o unused ≡ 0) where
    pub ends_given : {g : GivenBack} → g ≡ effect_given (does s x o unused r) → g ≡ own_given s x
    ends_given e = e ∙ done_given s x o unused r none

    pub ends_block : (memory : List ℕ) {left t : List ℕ} → left ≡ ticked_in t → Stores t (leaves (does s x o unused r) s memory) → left ≡ own_block s memory x
    ends_block memory e stored = e ∙ ticks stored ∙ done_block s x o unused r none memory

    pub ends_memory : (memory : List ℕ) {left : List ℕ} → left ≡ memory_after (decode_control s) (pixels_in s) memory (does s x o unused r).move → left ≡ own_memory s memory x
    ends_memory memory e = e ∙ done_memory s x o unused r none memory

-- what code put is what is stored
pub as_stored : {t u : List ℕ} {chip : Chip} → t ≡ u → Stores u chip → Stores t chip
as_stored e stored = record { sized = stored.sized; is = e ∙ stored.is }

-- 4 to 6: past the operands' test bank, block and slot are in range
pub block_bounds : (x : Call) {fits : Bool} → fits ≡ (ltb x.a 4 && ltb x.b 40 && ltb x.c 8 && all_zero (x.d ∷ x.given ∷ [])) → fits ≡ true
    → (x.a < 4) × (x.b < 40) × (x.c < 8)
block_bounds x told left = block_range 8 0 x.a x.b x.c (and_left _ _ (test_holds told left))

-- 1 and 3: bank and page are
pub page_bounds : (P : ℕ) (x : Call) {fits : Bool} → fits ≡ (ltb x.a 4 && ltb x.b P && all_zero (x.c ∷ x.d ∷ x.given ∷ [])) → fits ≡ true
    → (x.a < 4) × (x.b < P)
page_bounds P x told left = page_range 8 P x.a x.b (and_left _ _ (test_holds told left))

-- past the bank's test too: the memory and the open page that the work needs
pub open_there : (s memory : List ℕ) (bank : ℕ) {page : ℕ} → well_formed_block s ≡ true → length memory ≡ size (decode_control s).pages → bank < 4
    → page ≡ open_page (decode_control s).banks bank → (page ≡ 65535 → ⊥)
    → (length memory ≡ size (decode_control s).pages) × ((decode_control s).pages ≤ 257) × (bank < 4) × (open_page (decode_control s).banks bank < (decode_control s).pages)
open_there s memory bank well sized hb read f = (sized, (pages_in s well).1, hb, page_below s well bank hb (unequal read f))

-- ---- the page that is open in a bank, as code is told it

abbrev refusal_in : Result ℕ Refusal → Refusal
refusal_in (Ok page) = BankClosed
refusal_in (Err refusal) = refusal

open_case : (shut : Bool) (p : ℕ) {page : ℕ} → ◌≡◌ {A = Result ℕ Refusal} (cond shut (Err BankClosed) (Ok p)) (Ok page) → (shut ≡ false) × (page ≡ p)
open_case true p e = absurd (false≢true (ap is_ok e))
open_case false p e = (refl, sym (ap (λ (r : Result ℕ Refusal). result_unwrap_or r 0) e))

shut_case : (shut : Bool) (p : ℕ) {refusal : Refusal} → ◌≡◌ {A = Result ℕ Refusal} (cond shut (Err BankClosed) (Ok p)) (Err refusal) → (shut ≡ true) × (refusal ≡ BankClosed)
shut_case true p e = (refl, ap (λ (r : Result ℕ Refusal). refusal_in r) (sym e))
shut_case false p e = absurd (false≢true (sym (ap is_ok e)))

module _ (s : List ℕ) (bank : ℕ) {r : Result ℕ Refusal} (told : r ≡ opened_in s bank) where
  pub is_open : {page : ℕ} → r ≡ Ok page → (page ≡ open_page (decode_control s).banks bank) × (page ≡ 65535 → ⊥)
  unfolding opened_in is_closed closed
  is_open {page} is =
      let banks = (decode_control s).banks in
      let case = open_case (eqb (open_page banks bank) 65535) (open_page banks bank) (sym told ∙ is) in
      (case.1, λ e. false≢true (sym case.0 ∙ eq-eqb _ _ (sym case.1 ∙ e)))

  pub is_shut : {refusal : Refusal} → r ≡ Err refusal → (open_page (decode_control s).banks bank ≡ 65535) × (refusal ≡ BankClosed)
  unfolding opened_in is_closed closed
  is_shut is =
      let banks = (decode_control s).banks in
      let case = shut_case (eqb (open_page banks bank) 65535) (open_page banks bank) (sym told ∙ is) in
      (eqb-true _ _ case.0, case.1)

-- 7, passed on
pub shut_given : (r : Result Done Refusal) (refusal : Refusal) → IsErrAnd r (λ e. e ≡ refusal) → refusal ≡ BankClosed → given_back r ≡ numbered 7
shut_given r refusal is e = passed_on r refusal is ∙ rw e
