-- A data write's outcome, put into the block, is what the definitions say of the write. Assumes nothing.
use mathlib.Core.Path.{◌≡◌, refl, sym, ap, ◌∙◌, subst}
use mathlib.Core.Bool.{Bool, true, false, cond, not, ◌&&◌, ◌||◌, or-true, or-false}
use mathlib.Core.List.{List, []}
use Prim.Native.Nat.{ℕ, ◌+◌, ◌*◌, ◌%◌, ◌^◌, ◌<◌}
use native.Mathlib.Nat.{mod-lt}
use native.Mathlib.Omega.{arith}
use lib.Bits.{bit_or, or_lt}
use lib.Pow.{pow_pos}
use lib.Dec.{lit<}
use lib.ListN.{get_or}
use Rattle.bits.specs.Bits.{bit, digit, word_in}
use Rattle.pixel.specs.declared.Write.{Write}
use Rattle.pixel.specs.declared.Outcome.{Outcome}
use Rattle.pixel.specs.Registers.{register, fresh_registers}
use Rattle.pixel.specs.Writes.{used, into_slot, into_word, hits, new_byte, outcome_of}
use Rattle.pixel.proofs.Outcomes.{byte_outcome, taken_lt, into_slot_lt, into_word_lt}
use Rattle.numbers.specs.Numbers.{first}
use Rattle.numbers.proofs.Tests.{and_left}
use Rattle.lists.specs.Words.{Bytes, put_word}
use Rattle.bank.specs.Work.{in_slot}
use Rattle.lists.proofs.Words.{word_at_once, part_bytes}
use Rattle.chip.specs.declared.Control.{Control}
use Rattle.chip.specs.declared.Chip.{Chip}
use Rattle.chip.specs.declared.Call.{Call}
use Rattle.chip.specs.Video.{video_byte, put_out}
use Rattle.chip.specs.State.{slots}
use Rattle.chip.specs.Operations.{row, all_zero, data_write, in_range}
use Rattle.chip.specs.Painting.{painted, marked, tag_with}
use Rattle.chip.specs.Changes.{tag_of, with_tag, with_flags, with_hit, ticked}
use Rattle.chip.specs.Effects.{slot_byte, reading, Effect, effect, pixels_after, video_after}
use Rattle.chip.specs.Answers.{GivenBack, done_with, effect_given}
use Rattle.chip.specs.Refusals.{asks}
use Rattle.chip.specs.Calls.{chip_after}
use Rattle.chip.proofs.Accepted.{write_range}
use Rattle.chip.proofs.Tags.{mark_law}
use Rattle.chip.proofs.SlotWords.{slot_word}
use Rattle.block.specs.Block.{flags_at, encode, decode_control, well_formed_block, pixels_in, video_in, decode, pixels_at, pixel_bytes}
use Rattle.block.proofs.Parts.{under}
use Rattle.block.proofs.Puts.{Stores, stores_of, stores_tag, stores_flags, stores_word, ticks, control_stored}
use Rattle.lists.proofs.Rows.{words_lt}
use Rattle.own.specs.Own.{own_given, own_block, hit_marked, settled}
use Rattle.own.proofs.OwnLines.{asked}
use Rattle.own.proofs.Owns.{by_asks, done_given, done_block}

-- ---- the destination's word

beside : (slot a n : ℕ) → in_slot slot (a + n) ≡ in_slot slot a + n
unfolding in_slot
beside slot a n = omega arith

-- the outcome's word, put at once, is the definition's four bytes
pub painted_word : (registers : List ℕ) (w : Write) (old slot : ℕ) (pixels : List ℕ) → Bytes pixels
    → put_word (in_slot slot (4 * into_word registers w)) (outcome_of registers w old (word_in (slot_byte pixels slot) (into_word registers w))).word pixels
    ≡ painted registers w old (in_slot slot) pixels
unfolding painted
painted_word registers w old slot pixels bytes =
    let at = 4 * into_word registers w in
    let dest = word_in (slot_byte pixels slot) (into_word registers w) in
    word_at_once (in_slot slot at) (outcome_of registers w old dest).word (λ n. in_slot slot (at + n)) (new_byte registers w old) pixels (λ n h. beside slot at n)
    (λ n h. byte_outcome registers w old dest n h
    ∙ ap (new_byte registers w old n) (slot_word pixels slot (into_word registers w) n bytes h ∙ ap (λ (a : ℕ). get_or pixels a 0) (beside slot at n)))

-- ---- hit

-- where the two flags are put, picking was on and hit is set; else both stay
flags_put : {s : List ℕ} {chip : Chip} → Stores s chip → (b : Bool) → (b ≡ true → chip.control.picking ≡ true)
    → Stores (cond b (put_word flags_at 3 s) s) (under chip (with_hit chip.control (chip.control.hit || b)))
flags_put {s} {chip} h true on =
    let c = chip.control in
    subst (λ (k : Control). Stores (put_word flags_at 3 s) (under chip k)) (λ i. with_flags c (sym (on refl) i) (sym (or-true c.hit) i)) (stores_flags h true true)
flags_put {s} {chip} h false on = subst (λ (b : Bool). Stores s (under chip (with_hit chip.control b))) (sym (or-false chip.control.hit)) h

pub held_hit : {s : List ℕ} {chip : Chip} (sets : Bool) → Stores s chip
    → Stores (hit_marked sets s) (under chip (with_hit chip.control (chip.control.hit || (chip.control.picking && sets))))
unfolding hit_marked
held_hit {s} {chip} sets h =
    let c = chip.control in
    subst (λ (p : Bool). Stores (cond (p && sets) (put_word flags_at 3 s) s) (under chip (with_hit c (c.hit || (c.picking && sets)))))
    (sym (ap (λ (k : Control). k.picking) (control_stored h))) (flags_put h (c.picking && sets) (and_left c.picking sets))

-- ---- all of it

tag_lt : (s : List ℕ) → Bytes s → (slot : ℕ) → tag_of (decode_control s) slot < 2 ^ 32
unfolding tag_of decode_control
tag_lt s bytes slot = words_lt s bytes 8 60 slot

module _ {s : List ℕ} {chip : Chip} (h : Stores s chip) (w : Write) (slot at : ℕ) (o : Outcome) where
  abbrev c : Control
  c = chip.control

  pub settled_is : slot < 8 → at < 8 → o.taken < 16 → tag_of c slot < 2 ^ 32 → settled w slot at o s ≡ encode (record {
    control = ticked (with_hit (with_tag c slot (marked (cond w.initial 0 (tag_of c slot)) at o.taken)) (c.hit || (c.picking && (not w.stateless && o.written))));
    pixels = put_word (in_slot slot (4 * at)) o.word chip.pixels;
    video = chip.video;
  })
  unfolding settled
  settled_is hs ha ht hg =
      let tag = bit_or (cond w.initial 0 (tag_of c slot)) (o.taken * 2 ^ (4 * at) % 2 ^ 32) in
      let same : tag_of (decode_control s) slot ≡ tag_of c slot = ap (λ (k : Control). tag_of k slot) (control_stored h) in
      let marks : tag ≡ marked (cond w.initial 0 (tag_of c slot)) at o.taken = mark_law (cond w.initial 0 (tag_of c slot)) at o.taken (kept w.initial hg) ht in
      let fits : tag < 2 ^ 32 = or_lt 32 (cond w.initial 0 (tag_of c slot)) (o.taken * 2 ^ (4 * at) % 2 ^ 32) (kept w.initial hg) (mod-lt (o.taken * 2 ^ (4 * at)) (pow_pos 32)) in
      rw (same) (ticks (held_hit (not w.stateless && o.written) (stores_tag (stores_word h (in_slot slot (4 * at)) o.word (unfold in_slot in omega arith)) slot tag hs fits)) ∙ rw marks)
    where
      kept : (initial : Bool) → tag_of c slot < 2 ^ 32 → cond initial 0 (tag_of c slot) < 2 ^ 32
      kept true l = lit< tt
      kept false l = l

-- past the test of a data write's operands they are in range
pub write_in_range : (P : ℕ) (w : Write) {fits : Bool} → fits ≡ (in_range 8 P (data_write w) && all_zero []) → fits ≡ true
    → (w.slot < 8) × (w.word < 8) × (w.enables < 16) × (w.passin < 4)
write_in_range P w told taken = write_range 8 P w (and_left (in_range 8 P (data_write w)) (all_zero []) (sym told ∙ taken))

-- what a data write of either kind does, as `does` says it (Owns)
abbrev writes : List ℕ → Write → Effect
writes s w = effect slots (decode_control s) (data_write w) (reading slots (decode_control s).registers (slot_byte (pixels_in s)) (put_out (decode_control s).scan (video_byte (video_in s))) (data_write w))

-- what it leaves of a well formed block
module _ (s : List ℕ) (bytes : Bytes s) (well : well_formed_block s ≡ true) (w : Write) where
  abbrev registers : List ℕ
  registers = (decode_control s).registers

  abbrev old : ℕ
  old = word_in (slot_byte (pixels_in s) w.slot) w.word

  abbrev slot : ℕ
  slot = into_slot 8 registers w

  abbrev at : ℕ
  at = into_word registers w

  abbrev outcome : Outcome
  outcome = outcome_of registers w old (word_in (slot_byte (pixels_in s) slot) at)

  -- what it gives back: which bytes changed, pass and written, of the outcome
  write_gives : done_with outcome.changed (digit outcome.pass) (digit outcome.written) ≡ effect_given (writes s w)
  unfolding effect reading outcome_of slots
  write_gives = refl

  write_leaves : w.slot < 8 → w.word < 8 → w.enables < 16 → (memory : List ℕ)
      → settled w slot at outcome s ≡ encode (chip_after (decode s) memory (writes s w))
  unfolding effect pixels_after video_after reading outcome_of hits tag_with slots
  write_leaves hs hw he memory =
      settled_is (stores_of s bytes well) w slot at outcome (into_slot_lt 8 registers w hs) (into_word_lt registers w hw) (taken_lt registers w old he) (tag_lt s bytes slot)
      ∙ ap (λ (l : List ℕ). encode (record { control = ticked (writes s w).control; pixels = l; video = video_in s })) (painted_word registers w old slot (pixels_in s) (unfold pixels_in in part_bytes pixels_at pixel_bytes s bytes))

  -- past the test of its operands the call is done, and `settle` ends it with the outcome at its destination
  pub write_done : (x : Call) → row x ≡ (data_write w, []) → {fits : Bool} → fits ≡ (in_range slots (decode_control s).pages (data_write w) && all_zero []) → fits ≡ true
      → {read : List ℕ} → read ≡ registers → {to word : ℕ} {o : Outcome} → to ≡ into_slot 8 read w → word ≡ into_word read w → o ≡ outcome_of read w old (word_in (slot_byte (pixels_in s) to) word)
      → {given : GivenBack} {after : List ℕ} → (given ≡ done_with o.changed (digit o.pass) (digit o.written)) × (after ≡ settled w to word o s)
      → (given ≡ own_given s x) × ((memory : List ℕ) → after ≡ own_block s memory x)
  unfolding slots asks first
  write_done x r told taken same {to} {word} there here drew ends =
      let none = by_asks (decode_control s) (data_write w) [] (sym told ∙ taken) refl in
      let range = write_in_range (decode_control s).pages w told taken in (
        ends.0 ∙ rw (drew, there, here, same) (write_gives ∙ done_given s x (data_write w) [] r none),
        λ memory. ends.1 ∙ rw (drew, there, here, same) (write_leaves range.0 range.1 range.2 memory ∙ done_block s x (data_write w) [] r none memory),
      )

-- a stateless write goes where its operands say
pub stateless_slot : (held : List ℕ) (initial : Bool) (x : Call) → into_slot 8 held (asked true initial x) ≡ x.a
unfolding into_slot used register fresh_registers bit
stateless_slot held initial x = refl

pub stateless_word : (held : List ℕ) (initial : Bool) (x : Call) → into_word held (asked true initial x) ≡ x.b
unfolding into_word used register fresh_registers bit
stateless_word held initial x = refl
