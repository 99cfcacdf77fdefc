-- The chip's video buffers have the bytes of the last transfers into them: at the start, and after each call. Assumes nothing.
use mathlib.Core.Path.{◌≡◌, refl, ◌∙◌}
use mathlib.Core.Logic.{◌≢◌}
use mathlib.Core.List.{List}
use Prim.Native.Nat.{ℕ, ◌+◌, ◌*◌, ◌<◌, ◌≤◌}
use native.Mathlib.Omega.{arith}
use native.Mathlib.Decide.{ℕ_discrete}
use lib.ListN.{get_or, set, length, length-set, length-replicate}
use lib.Seq.{get_or-set_same, get_or-set_other}
use Rattle.layout.specs.Memory.{place, on_line}
use Rattle.lists.proofs.Updates.{length_update, update_other, update_same}
use Rattle.bank.specs.Work.{in_buffer, transferred}
use Rattle.chip.specs.declared.Scan.{Scan}
use Rattle.chip.specs.declared.Control.{Control}
use Rattle.chip.specs.Video.{video_bytes, fresh_video, buffer_of, video_byte, put_out}
use Rattle.chip.specs.Effects.{Move, still, copy, load, back, paint, transfer, video_after}
use Rattle.picture.specs.Transfers.{Transfer, never, last, transfer_byte, shown_byte, no_transfers, transfers_after}
use Rattle.picture.proofs.Holds.{replicate_any}

-- with P pages to a bank, the two video buffers have what these are the last transfers of
pub record Shows (P : ℕ) (video : List ℕ) (transfers : List Transfer) : Type 0 where
  pub video_length : length video ≡ video_bytes
  pub transfers_length : length transfers ≡ 2
  pub bytes : (buffer j : ℕ) → buffer < 2 → j < 80 → video_byte video buffer j ≡ shown_byte P transfers buffer j

-- before any transfer all is 0
pub fresh_shows : (P : ℕ) → Shows P fresh_video no_transfers
unfolding fresh_video no_transfers video_byte shown_byte
fresh_shows P = record {
  video_length = length-replicate {A = ℕ} video_bytes 0;
  transfers_length = length-replicate 2 never;
  bytes = λ buffer j hb hj. rw (replicate_any {A = ℕ} video_bytes 0 (in_buffer buffer j), replicate_any 2 never buffer) (unfold transfer_byte in refl);
}

-- ---- a scan line into a buffer: that has it, and the other is left

module _ (from : ℕ → ℕ) (b : ℕ) (memory video : List ℕ) where
  pub transferred_same : (j : ℕ) → length video ≡ video_bytes → b < 2 → j < 80 → video_byte (transferred from b memory video) b j ≡ get_or memory (from j) 0
  unfolding transferred video_byte in_buffer
  transferred_same j sized hb hj =
      update_same 80 (in_buffer b) (λ i was. get_or memory (from i) 0) video (λ i k hi hk e. omega arith) (λ i hi. omega (arith, sized)) j hj

  pub transferred_other : (buffer j : ℕ) → buffer ≢ b → j < 80 → video_byte (transferred from b memory video) buffer j ≡ video_byte video buffer j
  unfolding transferred video_byte in_buffer
  transferred_other buffer j f hj =
      update_other 80 (in_buffer b) (λ i was. get_or memory (from i) 0) video (in_buffer buffer j) (λ i hi e. f (omega arith))

-- ---- a call

module _ {P : ℕ} {video : List ℕ} {transfers : List Transfer} (h : Shows P video transfers) where
  -- a clock puts out the same
  pub out_same : (v : Scan) → v.counter ≤ 39 → v.select ≤ 1 → put_out v (shown_byte P transfers) ≡ put_out v (video_byte video)
  unfolding put_out
  out_same v hc hs = rw (
    h.bytes v.select (2 * v.counter) (omega arith) (omega arith),
    h.bytes v.select (2 * v.counter + 1) (omega arith) (omega arith),
  )

  transfer_shows : (memory : List ℕ) (b bank page line : ℕ) → b < 2
      → Shows P (transferred (λ j. place P bank page (on_line line j)) b memory video) (set transfers b (last memory bank page line))
  transfer_shows memory b bank page line hb = record {
    video_length = unfold transferred in (simp length_update h.video_length);
    transfers_length = simp length-set h.transfers_length;
    bytes = λ buffer j h2 hj. byte buffer j h2 hj (ℕ_discrete buffer b);
  }
    where
      from : ℕ → ℕ
      from j = place P bank page (on_line line j)

      byte : (buffer j : ℕ) → buffer < 2 → j < 80 → Dec (buffer ≡ b)
          → video_byte (transferred from b memory video) buffer j ≡ shown_byte P (set transfers b (last memory bank page line)) buffer j
      byte buffer j h2 hj (yes q) =
          rw (q, transferred_same from b memory video j h.video_length hb hj)
          (unfold shown_byte transfer_byte in (rw (get_or-set_same transfers b (last memory bank page line) never (omega (arith, h.transfers_length)))))
      byte buffer j h2 hj (no f) =
          transferred_other from b memory video buffer j f hj ∙ h.bytes buffer j h2 hj
          ∙ (unfold shown_byte in (rw (get_or-set_other transfers b buffer (last memory bank page line) never f)))

-- each move keeps `Shows`, where c is the control part before the call
pub move_shows : (c : Control) {video : List ℕ} {transfers : List Transfer} (memory : List ℕ) (v : Move) → Shows c.pages video transfers
    → Shows c.pages (video_after c video memory v) (transfers_after memory transfers v)
unfolding video_after transfers_after
move_shows c memory still h = h
move_shows c memory (copy b from to) h = h
move_shows c memory (load b p k s) h = h
move_shows c memory (back b p k s mask tag) h = h
move_shows c memory (paint w s old) h = h
move_shows c memory (transfer b p l) h = transfer_shows h memory (buffer_of b) b p l (unfold buffer_of in (omega arith))
