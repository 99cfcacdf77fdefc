-- A call that is done and keeps to the premises keeps `Holds`: its move is one that `Holds` has a law for. And what it reads is the same in the slots
-- and in the picture. Assumes nothing.
use mathlib.Core.Path.{◌≡◌, refl, sym, subst}
use mathlib.Core.Bool.{Bool, true, false, cond}
use mathlib.Core.List.{List, []}
use Prim.Native.Nat.{ℕ, ◌+◌, ◌-◌, ◌*◌, ◌^◌, ◌≤◌, ◌<◌}
use native.Mathlib.Omega.{arith}
use native.Mathlib.Decide.{ℕ_discrete}
use lib.ListN.{get_or}
use lib.Seq.{get_or-set_other, set-get_or}
use lib.Dec.{leb}
use borrow.Author.Tests.{leb-true}
use Rattle.bits.specs.Bits.{bit, byte, word_in}
use Rattle.bits.proofs.Bytes.{word_same}
use Rattle.bits.proofs.Merges.{merge_off, merge_again, byte_merge_lt}
use Rattle.numbers.specs.Numbers.{first}
use Rattle.numbers.proofs.Tests.{none_applies, and_left}
use Rattle.bank.specs.Work.{in_slot, loaded, back_byte, back_mask, written_back, copied}
use Rattle.bank.proofs.Backs.{back_leaves, back_settles}
use Rattle.chip.specs.declared.Control.{Control}
use Rattle.pixel.specs.Registers.{fresh_registers, register, plane_mask}
use Rattle.chip.specs.State.{open_page, well_formed}
use Rattle.pixel.specs.declared.Write.{Write}
use Rattle.chip.specs.Operations.{Operation, access, precharge, duplicate, read_block, write_block, data_read, data_write, write_tag, write_register, read_register, video_transfer, video_clock, unknown, in_range}
use Rattle.pixel.proofs.Outcomes.{into_word_lt}
use Rattle.pixel.specs.Writes.{used, into_slot, into_word, taken, result, new_byte}
use Rattle.chip.specs.Painting.{painted, tag_with}
use Rattle.chip.specs.Changes.{with_tag, with_register, ticked, tag_of}
use Rattle.chip.specs.Effects.{Reading, nothing_read, reading, slot_byte, copy, load, paint, effect, pixels_after, memory_after}
use Rattle.chip.specs.Refusals.{asks}
use Rattle.chip.proofs.Accepted.{page_range, block_range, word_range, write_range, open_below}
use Rattle.picture.specs.Book.{Stand, at, Book, stands, note}
use Rattle.picture.specs.Flat.{home, picture_byte, picture_after}
use Rattle.picture.specs.Premises.{Keeps}
use Rattle.picture.proofs.Holds.{Holds, UnderMask, plane_holds}
use Rattle.picture.proofs.WriteHolds.{write_tags, write_pixels, write_picture, write_book, write_holds}
use Rattle.picture.proofs.LoadHolds.{load_tags, load_pixels, load_book, load_holds}
use Rattle.picture.proofs.BackHolds.{back_memory, back_book, back_holds}
use Rattle.picture.proofs.CopyHolds.{over, copy_holds}

-- `Holds` of a chip with n slots and this control part, its pixels, memory and book, and the picture
abbrev pub HoldsIn : ℕ → Control → List ℕ → List ℕ → Book → List ℕ → Type 0
HoldsIn n c p m g l = Holds c.pages n (plane_mask c.registers) c.tags p m l g

module _ (n : ℕ) (c : Control) (p m : List ℕ) (g : Book) (l : List ℕ) (h : HoldsIn n c p m g l) where
  byte_same : (s b q k i : ℕ) → stands g s ≡ at b q k → i < 32 → picture_byte c.pages g l s i ≡ slot_byte p s i
  unfolding picture_byte slot_byte home in_slot
  byte_same s b q k i e hi = rw e (sym (h.slots s b q k i e hi))

  word_read : (s w b q k : ℕ) → stands g s ≡ at b q k → w < 8 → word_in (picture_byte c.pages g l s) w ≡ word_in (slot_byte p s) w
  word_read s w b q k e hw = word_same _ _ w (λ j hj. byte_same s b q k (4 * w + j) e (omega arith))

  -- both read the same, where a clock puts out the same
  pub reading_same : (out : ℕ) (o : Operation) → in_range n c.pages o ≡ true → Keeps n c g o
      → reading n c.registers (picture_byte c.pages g l) out o ≡ reading n c.registers (slot_byte p) out o
  unfolding reading in_range Keeps
  reading_same out (access b q) r y = refl
  reading_same out (precharge b) r y = refl
  reading_same out (duplicate b q) r y = refl
  reading_same out (read_block b k s) r y = refl
  reading_same out (write_block m b k s) r y = refl
  reading_same out (data_read s w) r (b, q, k, e) = rw (word_read s w b q k e (word_range n c.pages s w r).1)
  reading_same out (data_write w) r ((b, q, k, e), (b', q', k', e'), y, z) =
      let at = (write_range n c.pages w r).1 in
      rw (word_read w.slot w.word b q k e at, word_read (into_slot n c.registers w) (into_word c.registers w) b' q' k' e' (into_word_lt c.registers w at))
  reading_same out (write_tag m s x) r y = refl
  reading_same out (write_register a v) r y = refl
  reading_same out (read_register a) r y = refl
  reading_same out (video_transfer b k) r y = refl
  reading_same out video_clock r y = refl
  reading_same out unknown r y = refl

  -- ---- what each call does to bytes is what `Holds` has a law for

  copy_call : (b q : ℕ) → b < 4 → q < c.pages → open_page c.banks b < c.pages → Keeps n c g (duplicate b q)
      → HoldsIn n c p (memory_after c p m (copy b (open_page c.banks b) q)) g (picture_after c g l (copy b (open_page c.banks b) q))
  unfolding memory_after picture_after copied over Keeps
  copy_call b q hb hq ho (from, to) = copy_holds h b (open_page c.banks b) q hb ho hq (λ s k. (from s k, to s k))

  load_call : (b k s : ℕ) → b < 4 → k < 40 → s < n → open_page c.banks b < c.pages → Keeps n c g (read_block b k s)
      → HoldsIn n (with_tag c s 0) (pixels_after c p m (load b (open_page c.banks b) k s)) m (note n c g (read_block b k s) nothing_read) l
  unfolding pixels_after note loaded in_slot load_tags load_pixels load_book Keeps
  load_call b k s hb hk hs ho (idle, apart) = load_holds h s b (open_page c.banks b) k hs hb ho hk idle apart

  back_call : (masked : Bool) (b k s : ℕ) → Keeps n c g (write_block masked b k s)
      → HoldsIn n c p (memory_after c p m (effect n c (write_block masked b k s) nothing_read).move) (note n c g (write_block masked b k s) nothing_read) l
  unfolding effect memory_after note written_back slot_byte in_slot tag_of back_memory back_book Keeps
  back_call masked b k s own =
      let plane = plane_mask c.registers in
      let tag = get_or c.tags s 0 in
      let slot : ℕ → ℕ = λ i. get_or p (s * 32 + i) 0 in
      back_holds h s b (open_page c.banks b) k (back_byte (back_mask masked plane) tag slot) own
      (back_leaves (back_mask masked plane) tag slot) (back_settles masked plane tag slot)

  -- a stateless write is made under a mask of all ones, so any write uses the plane mask
  plane_used : (w : Write) → (w.stateless ≡ true → plane_mask c.registers ≡ 0xffff_ffff) → plane_mask (used c.registers w) ≡ plane_mask c.registers
  unfolding used
  plane_used w q = go w.stateless refl
    where
      go : (y : Bool) → w.stateless ≡ y → plane_mask (used c.registers w) ≡ plane_mask c.registers
      go true e = rw (e, used) (unfold register fresh_registers in (sym (q e)))
      go false e = rw (e, used)

  -- the rule by which a write changes a byte, as `write_holds` asks for it
  new_skips : (w : Write) (old j x : ℕ) → bit (taken c.registers w old) j ≡ false → x < 2 ^ 8 → new_byte c.registers w old j x ≡ x
  unfolding new_byte
  new_skips w old j x q hx = rw (q, new_byte) (merge_off _ x _ hx)

  new_fits : (w : Write) (old j x : ℕ) → new_byte c.registers w old j x < 2 ^ 8
  unfolding new_byte
  new_fits w old j x = byte_merge_lt _ _ x _

  new_keeps : (w : Write) (old : ℕ) → (w.stateless ≡ true → plane_mask c.registers ≡ 0xffff_ffff)
      → (j was x : ℕ) → UnderMask (plane_mask c.registers) j was x → UnderMask (plane_mask c.registers) j was (new_byte c.registers w old j x)
  unfolding new_byte
  new_keeps w old q j was x z =
      rw (plane_used w q) (merge_again (bit (taken c.registers w old) j) (byte (plane_mask c.registers) j) was x (byte (result c.registers w old) j) z)

  -- what holds after a write, where it is initial or not and its destination slot stands so
  abbrev AfterWrite : Write → Reading → Bool → Stand → Type 0
  AfterWrite w r initial stand =
      let slot = into_slot n c.registers w in
      HoldsIn n (with_tag c slot (tag_with c.registers w r.old (cond initial 0 (tag_of c slot)))) (pixels_after c p m (paint w slot r.old)) m
      (note n c g (data_write w) r) (painted c.registers w r.old (home c.pages stand) l)

  write_call : (w : Write) (r : Reading) → w.word < 8 → Keeps n c g (data_write w)
      → let v = paint w (into_slot n c.registers w) r.old in
      HoldsIn n (effect n c (data_write w) r).control (pixels_after c p m v) m (note n c g (data_write w) r) (picture_after c g l v)
  unfolding effect pixels_after note picture_after painted tag_with tag_of in_slot write_tags write_pixels write_picture write_book Keeps home
  write_call w r hw (from, (b, q, k, into), full, normal) =
      let slot = into_slot n c.registers w in
      let old = r.old in
      let drawn : AfterWrite w r false (at b q k) =
      write_holds h slot b q k (into_word c.registers w) (taken c.registers w old) (new_byte c.registers w old) into
      (into_word_lt c.registers w hw) (new_skips w old) (new_fits w old) (new_keeps w old full) in
      let there : AfterWrite w r false (stands g slot) = subst (AfterWrite w r false) (sym into) drawn in
      -- (not `rw normal`, which would write `w` out as a record and put `false` for its field everywhere)
      subst (λ (initial : Bool). AfterWrite w r initial (stands g slot)) (sym normal) there

  -- a register is written: the plane mask stays, or no byte waits
  register_call : (a v : ℕ) → 1 ≤ a → Keeps n c g (write_register a v)
      → HoldsIn n (with_register c a v) p m g l
  unfolding with_register Keeps register
  register_call a v ha idle = go (ℕ_discrete a 1) (ℕ_discrete v (plane_mask c.registers))
    where
      go : Dec (a ≡ 1) → Dec (v ≡ plane_mask c.registers) → HoldsIn n (with_register c a v) p m g l
      go (yes q) (yes z) = rw (q, z, set-get_or) h
      go (yes q) (no f) = plane_holds h (idle q f) _
      go (no f) z = rw (get_or-set_other c.registers (a - 1) 0 _ 0 (omega arith)) h

  pub done_holds : (o : Operation) (r : Reading) → well_formed c ≡ true → in_range n c.pages o ≡ true → first (asks c o) ≡ 0 → Keeps n c g o
      → let e = effect n c o r in
      HoldsIn n (ticked e.control) (pixels_after c p m e.move) (memory_after c p m e.move) (note n c g o r) (picture_after c g l e.move)
  unfolding ticked effect pixels_after memory_after note picture_after in_range asks with_register
  done_holds (access b q) r formed range met keeps = h
  done_holds (precharge b) r formed range met keeps = h
  done_holds (duplicate b q) r formed range met keeps =
      let u = page_range n c.pages b q range in
      copy_call b q u.0 u.1 (open_below c formed b u.0 (none_applies 6 _ [] met).0) keeps
  done_holds (read_block b k s) r formed range met keeps =
      let u = block_range n c.pages b k s range in
      load_call b k s u.0 u.1 u.2 (open_below c formed b u.0 (none_applies 6 _ [] met).0) keeps
  done_holds (write_block masked b k s) r formed range met keeps = back_call masked b k s keeps
  done_holds (data_read s w) r formed range met keeps = h
  done_holds (data_write w) r formed range met keeps = write_call w r (write_range n c.pages w range).1 keeps
  done_holds (write_tag replace s x) r formed range met keeps = absurd (unfold Keeps in keeps)
  done_holds (write_register a v) r formed range met keeps = register_call a v (leb-true 1 a (and_left (leb 1 a) (leb a 7) range)) keeps
  done_holds (read_register a) r formed range met keeps = h
  done_holds (video_transfer b k) r formed range met keeps = h
  done_holds video_clock r formed range met keeps = h
  done_holds unknown r formed range met keeps = h
