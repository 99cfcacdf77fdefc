-- `bank::write_back`, by the loop's invariant: after n turns the part is written back at the block's first n words, and is bytes.
-- A turn puts its word, or skips it where its four tag bits are 0. Assumes nothing.
use mathlib.Core.Path.{◌≡◌, refl, ◌∙◌}
use Prim.Native.Nat.{ℕ, ◌+◌, ◌*◌, ◌≤◌, ◌<◌}
use native.Mathlib.Omega.{arith}
use Rattle.lists.specs.Words.{put_word}
use Rattle.layout.specs.Memory.{in_page}
use Rattle.lists.specs.Update.{update}
use Rattle.bank.specs.Work.{written_back}
use Rattle.bank.proofs.Blocks.{word_in_page, from_first, back_turn, back_skips}
use Rattle.bank.proofs.write_back.Goals as goal
use Rattle.bank.proofs.write_back.Goals.{then-tag-first_bit-ne0, else-tag-first_bit-ne0}

pub loop-word-init : goal.loop-word-init
unfolding update
loop-word-init c = record { bytes = λ i. omega (arith, c.type_inv.part i); written = refl }

pub returns : goal.returns
unfolding written_back
returns c =
    let last : c.loop-word.word ≡ 8 = omega arith in
    rw last at c.loop-word.invariant.written

-- where the word starts, as the two calls of `in_page` give it
word_here : (page k w start at : ℕ) → start ≡ in_page k 0 → at ≡ in_page 0 (4 * w) → page * 1280 + start + at ≡ page * 1280 + in_page k (4 * w)
word_here page k w start at s a = omega (arith, s, a, from_first k (4 * w))

-- the word at that place lies in a part that has the page
in_part : (page k w start at n : ℕ) → page * 1280 + 1280 ≤ n → k < 40 → w < 8 → start ≡ in_page k 0 → at ≡ in_page 0 (4 * w) → page * 1280 + start + at + 4 ≤ n
in_part page k w start at n long hk hw s a = omega (arith, word_here page k w start at s a, word_in_page k w hk hw)

pub get-requires : goal.get-requires
get-requires c =
    in_part c.args.place.page c.args.place.block c.loop-word.word _ _ _ (omega arith) c.requires.1 c.loop-word-test.true c.in_page.ensures.0 c.in_page-then-tag-first_bit-ne0.ensures.0

pub put-requires : goal.put-requires
put-requires c =
    in_part c.args.place.page c.args.place.block c.loop-word.word _ _ _ (omega arith) c.requires.1 c.loop-word-test.true c.in_page.ensures.0 c.in_page-then-tag-first_bit-ne0.ensures.0

pub loop-word-preserved : goal.loop-word-preserved
loop-word-preserved c =
    let turn = c.loop-word in
    let was = turn.invariant in
    let a = c.args in
    elim c.if-tag-first_bit-ne0.branch [
      | then-tag-first_bit-ne0 w ↦
          let stored : c.if-tag-first_bit-ne0.part ≡ put_word _ w.merge.result turn.part = w.part-is ∙ w.put.ensures in
          record {
            bytes = λ i. rw w.part-is (omega (arith, w.slice_known-then-tag-first_bit-ne0-1.given i));
            written =
                stored
                ∙ back_turn a.place.page a.place.block a.slot turn.word _
                (word_here a.place.page a.place.block turn.word _ _ c.in_page.ensures.0 w.in_page-then-tag-first_bit-ne0.ensures.0)
                a.mask a.tag a.pixels.now a.part.now turn.part was.bytes (λ i. omega (arith, c.type_inv.pixels i)) was.written
                w.merge.result (rw (w.merge.ensures, w.get.ensures, w.get-new.ensures));
          }
      | else-tag-first_bit-ne0 w ↦ record {
        bytes = λ i. rw w.part-is (was.bytes i);
        written = w.part-is ∙ back_skips turn.word a.mask a.tag _ _ a.part.now turn.part was.bytes was.written c.loop-word-test.true w.if-tag-first_bit-ne0.false;
      }
    ]
