-- A call's own line, and the refusals in front of it, are the call on a block as a whole. Assumes nothing.
use mathlib.Core.Logic.{◌⊎◌, inl, inr}
use mathlib.Core.Path.{◌≡◌, refl, sym, ap, ◌∙◌}
use mathlib.Core.Bool.{true, false}
use mathlib.Core.List.{List}
use Prim.Native.Nat.{ℕ, zero, suc, ◌≤◌}
use lib.Dec.{eqb, leb}
use lib.ListN.{length, get_or}
use native.Mathlib.Omega.{arith}
use Rattle.std.proofs.Common.{Fits, w8}
use borrow.Author.Tests.{eq-eqb, le-leb, leb-true}
use Rattle.lists.specs.Words.{Bytes}
use Rattle.numbers.specs.Numbers.{first, when_done}
use Rattle.numbers.proofs.Tests.{and_left, and_right}
use Rattle.layout.specs.Memory.{size}
use Rattle.chip.specs.declared.Call.{Call}
use Rattle.chip.specs.Video.{video_byte, put_out}
use Rattle.chip.specs.State.{slots}
use Rattle.chip.specs.Operations.{is_operation, row, operation}
use Rattle.chip.specs.Operations as asked
use Rattle.chip.specs.Effects.{reading, slot_byte, Move, effect, memory_after}
use Rattle.std.specs.Prelude.{Result, IsErrAnd}
use Rattle.numbers.specs.declared.Refusal.{Refusal}
use Rattle.numbers.specs.declared.Refusal.TheVariants.{UnknownOperation}
use Rattle.chip.specs.declared.Done.{Done}
use Rattle.chip.specs.declared.operations.Operation.{Operation}
use Rattle.chip.proofs.NumbersGiven.{passed_on}
use Rattle.chip.specs.Named.{number_of}
use Rattle.chip.specs.Answers.{GivenBack, numbered, given_back}
use Rattle.chip.specs.Refusals.{number}
use Rattle.chip.specs.Calls.{read_in, given_with, chip_with, memory_with, call_given, chip_of, memory_of}
use Rattle.block.specs.Block.{decode_control, well_formed_block, pixels_in, video_in}
use Rattle.block.specs.OnBlock.{block_given, block_after, block_memory}
use Rattle.block.proofs.RoundTrip.{encode_decode}
use Rattle.own.specs.Own.{own_number, own_given, own_block, own_memory}
use Rattle.own.proofs.WellFormed.{well_control}

-- what a call on a block comes to
abbrev pub Comes : List ℕ → List ℕ → Call → GivenBack → List ℕ → List ℕ → Type 0
Comes s memory x g s' memory' = (g ≡ block_given s memory x) × (s' ≡ block_after s memory x) × (memory' ≡ block_memory s memory x)

pub ill_formed : (s memory : List ℕ) (x : Call) → well_formed_block s ≡ false → Comes s memory x (numbered 1) s memory
unfolding block_given block_after block_memory
ill_formed s memory x e = (rw e, rw e, rw e)

-- a block that is well formed, and a memory of its size
pub record Ready (s memory : List ℕ) : Type 0 where
  pub bytes : Bytes s
  pub well : well_formed_block s ≡ true
  pub sized : length memory ≡ size (decode_control s).pages

-- as code knows it: each byte of the block fits, and what its callers showed
pub ready_from : (s memory : List ℕ) → ((i : ℕ) → Fits w8 (get_or s i 0)) → well_formed_block s ≡ true → length memory ≡ size (decode_control s).pages → Ready s memory
ready_from s memory given well sized = record { bytes = λ i. omega (arith, given i); well = well; sized = sized }

-- by the number that the definitions give
refusal : (s memory : List ℕ) (x : Call) → Bytes s → well_formed_block s ≡ true
    → {k : ℕ} → number slots (decode_control s) (length memory) x ≡ suc k → Comes s memory x (numbered (suc k)) s memory
unfolding block_given block_after block_memory call_given given_with chip_of chip_with memory_of memory_with
refusal s memory x bytes well e = (rw (well, e), rw (well, e) (sym (encode_decode s bytes well)), rw (well, e))

pub wrong_length : (s memory : List ℕ) (x : Call) → Bytes s → well_formed_block s ≡ true
    → eqb (length memory) (size (decode_control s).pages) ≡ false → Comes s memory x (numbered 2) s memory
wrong_length s memory x bytes well e = refusal s memory x bytes well {k = 1} (unfold number first in rw (well_control s well, e))

-- what an operation moves, if it is done
abbrev does : List ℕ → asked.Operation → Move
does s o = (effect slots (decode_control s) o (reading slots (decode_control s).registers (slot_byte (pixels_in s)) (put_out (decode_control s).scan (video_byte (video_in s))) o)).move

-- an operation that does nothing to memory leaves it, done or refused
untouched : (s memory : List ℕ) (x : Call) (o : asked.Operation) (unused : List ℕ) → row x ≡ (o, unused)
    → memory_after (decode_control s) (pixels_in s) memory (does s o) ≡ memory → memory ≡ own_memory s memory x
unfolding own_memory read_in
untouched s memory x o unused r e = go (own_number s x)
  where
    is : operation x ≡ o
    is = unfold operation in ap (λ (p : asked.Operation × List ℕ). p.0) r

    go : (k : ℕ) → memory ≡ when_done k (memory_after (decode_control s) (pixels_in s) memory (does s (operation x))) memory
    go zero = sym (rw is e)
    go (suc k) = refl

module _ {s memory : List ℕ} (ready : Ready s memory) (x : Call) where
  pub unknown : is_operation x.op ≡ false → Comes s memory x (numbered 3) s memory
  unknown e = refusal s memory x ready.bytes ready.well {k = 2}
      (unfold number first in rw (well_control s ready.well, eq-eqb _ _ ready.sized, e))

  number_own : 1 ≤ x.op → x.op ≤ 17 → number slots (decode_control s) (length memory) x ≡ own_number s x
  unfolding number first own_number is_operation
  number_own l h = rw (well_control s ready.well, eq-eqb _ _ ready.sized, le-leb 1 x.op l, le-leb x.op 17 h)

  done : number slots (decode_control s) (length memory) x ≡ 0 → own_number s x ≡ 0
      → Comes s memory x (own_given s x) (own_block s memory x) (own_memory s memory x)
  unfolding own_given own_block own_memory block_given block_after block_memory call_given given_with chip_of chip_with memory_of memory_with
  done n e = (rw (ready.well, n, e), rw (ready.well, n, e), rw (ready.well, n, e))

  known : 1 ≤ x.op → x.op ≤ 17 → Comes s memory x (own_given s x) (own_block s memory x) (own_memory s memory x)
  unfolding own_given own_block own_memory
  known l h = go (own_number s x) refl
    where
      go : (k : ℕ) → own_number s x ≡ k → Comes s memory x (own_given s x) (own_block s memory x) (own_memory s memory x)
      go zero e = done (number_own l h ∙ e) e
      go (suc k) e = rw e (refusal s memory x ready.bytes ready.well (number_own l h ∙ e))

  -- code that does as its operation's own line says
  pub by_its_line : {g : GivenBack} {s' memory' : List ℕ} → 1 ≤ x.op → x.op ≤ 17
      → g ≡ own_given s x → s' ≡ own_block s memory x → memory' ≡ own_memory s memory x → Comes s memory x g s' memory'
  by_its_line l h gives blocks memories = let k = known l h in (gives ∙ k.0, blocks ∙ k.1, memories ∙ k.2)

  -- the same, of an operation that does nothing to memory
  pub beside_memory : {g : GivenBack} {s' : List ℕ} {o : asked.Operation} {unused : List ℕ} → row x ≡ (o, unused)
      → memory_after (decode_control s) (pixels_in s) memory (does s o) ≡ memory → 1 ≤ x.op → x.op ≤ 17
      → g ≡ own_given s x → s' ≡ own_block s memory x → Comes s memory x g s' memory
  beside_memory r e l h gives blocks = by_its_line l h gives blocks (untouched s memory x _ _ r e)

  -- and by its number, which the code's match tells
  pub at_number : {g : GivenBack} {s' : List ℕ} {o : asked.Operation} {unused : List ℕ} {k : ℕ} → x.op ≡ k → is_operation k ≡ true → (x.op ≡ k → row x ≡ (o, unused))
      → memory_after (decode_control s) (pixels_in s) memory (does s o) ≡ memory → (g ≡ own_given s x) × (s' ≡ own_block s memory x) → Comes s memory x g s' memory
  unfolding is_operation
  at_number {k = k} is known_op line e own = beside_memory (line is) e
      (rw is (leb-true 1 k (and_left (leb 1 k) (leb k 17) known_op))) (rw is (leb-true k 17 (and_right (leb 1 k) (leb k 17) known_op))) own.0 own.1

-- ---- the operation that the call's number names

pub op_is : {o named : Operation} {op : ℕ} → number_of o ≡ op → o ≡ named → op ≡ number_of named
op_is e is = sym e ∙ ap number_of is

-- of two in a row
pub op_among : {o first second : Operation} {op : ℕ} → number_of o ≡ op → (o ≡ first) ⊎ (o ≡ second) → number_of second ≡ suc (number_of first)
    → (number_of first ≤ op) × (op ≤ suc (number_of first))
op_among e (inl is) next = let k = op_is e is in (omega (arith, k), omega (arith, k))
op_among e (inr is) next = let k = op_is e is in (omega (arith, k, next), omega (arith, k, next))

-- the refusal of a number that names none
pub refused_with : (r : Result Done Refusal) (refusal : Refusal) → IsErrAnd r (λ e. e ≡ refusal) → refusal ≡ UnknownOperation → given_back r ≡ numbered 3
refused_with r refusal is e = passed_on r refusal is ∙ rw e
