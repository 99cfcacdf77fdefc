-- The premises of a call as a test that computes, and that the test is right, line by line of `Keeps`. Assumes nothing.
use mathlib.Core.Path.{◌≡◌, refl, sym, ◌∙◌}
use mathlib.Core.Logic.{◌≢◌}
use mathlib.Core.Bool.{Bool, true, false, not, ◌&&◌, ◌||◌, false≢true}
use mathlib.Core.List.{List, [], ◌∷◌}
use Prim.Native.Nat.{ℕ, zero, suc}
use lib.Dec.{eqb}
use lib.ListN.{get_or, set}
use lib.Seq.{get_or-set_other}
use borrow.Author.Tests.{eq-eqb, ne_eqb, eqb-true, not-true, not-false}
use Rattle.numbers.proofs.Tests.{and_left, and_right}
use Rattle.pixel.specs.Registers.{plane_mask}
use Rattle.pixel.specs.Writes.{into_slot}
use Rattle.chip.specs.declared.Control.{Control}
use Rattle.chip.specs.State.{open_page}
use Rattle.chip.specs.Operations.{Operation, access, precharge, duplicate, read_block, write_block, data_read, data_write, write_tag, write_register, read_register, video_transfer, video_clock, unknown}
use Rattle.picture.specs.Book.{Stand, none, at, Book, stands, waiting, NoneWaits, Standing}
use Rattle.picture.specs.Premises.{Keeps}

-- of two tests the second holds, where the first does not
or_right : (x y : Bool) → x ≡ false → (x || y) ≡ true → y ≡ true
or_right true y h e = absurd (false≢true (sym h))
or_right false y h e = e

-- whether a slot's stand is of some block, of no block of the page, not of the block; and whether none of a slot's bytes wait
unfoldable pub standing : Stand → Bool
standing none = false
standing (at b p k) = true

unfoldable pub off_page : ℕ → ℕ → Stand → Bool
off_page bank page none = true
off_page bank page (at b p k) = not (eqb b bank && eqb p page)

unfoldable pub off_block : ℕ → ℕ → ℕ → Stand → Bool
off_block bank page block none = true
off_block bank page block (at b p k) = not (eqb b bank && eqb p page && eqb k block)

unfoldable pub idle : ℕ → Bool
idle wait = eqb wait 0

unfoldable pub each {ℓ} : {A : Type ℓ} → (A → Bool) → List A → Bool
each test [] = true
each test (x ∷ xs) = test x && each test xs

-- a line for a line of `Keeps`
unfoldable pub kept : ℕ → Control → Book → Operation → Bool
kept n c g (access bank page) = true
kept n c g (precharge bank) = true
kept n c g (duplicate bank page) = each (off_page bank (open_page c.banks bank)) g.stand && each (off_page bank page) g.stand
kept n c g (read_block bank block slot) =
    idle (waiting g slot) && each (off_block bank (open_page c.banks bank) block) (set g.stand slot none)
kept n c g (write_block masked bank block slot) = not (off_block bank (open_page c.banks bank) block (stands g slot))
kept n c g (data_read slot word) = standing (stands g slot)
kept n c g (data_write w) =
    standing (stands g w.slot)
    && standing (stands g (into_slot n c.registers w))
    && (not w.stateless || eqb (plane_mask c.registers) 0xffff_ffff)
    && not w.initial
kept n c g (write_tag replace slot tag) = false
kept n c g (write_register number value) = not (eqb number 1) || (eqb value (plane_mask c.registers) || each idle g.wait)
kept n c g (read_register number) = true
kept n c g (video_transfer bank line) = true
kept n c g video_clock = true
kept n c g unknown = true

-- what holds of each element of a list, and of what stands for none, holds at each place
each_at {ℓ} : {A : Type ℓ} (test : A → Bool) (a : A) → test a ≡ true → (l : List A) → each test l ≡ true → (i : ℕ) → test (get_or l i a) ≡ true
unfolding each
each_at test a h [] e i = h
each_at test a h (x ∷ xs) e zero = and_left (test x) (each test xs) e
each_at test a h (x ∷ xs) e (suc i) = each_at test a h xs (and_right (test x) (each test xs) e) i

pub none_waits : (g : Book) → each idle g.wait ≡ true → NoneWaits g
unfolding idle
none_waits g e slot = eqb-true (waiting g slot) 0 (each_at idle 0 refl g.wait e slot)

-- a stand that a test refuses is no slot's, where the test holds of every slot's stand
no_slot : (test : Stand → Bool) (stand : List Stand) → test none ≡ true → each test stand ≡ true
    → (slot bank page block : ℕ) → test (at bank page block) ≡ false → get_or stand slot none ≢ at bank page block
no_slot test stand h e slot bank page block refuses q = false≢true (sym refuses ∙ (rw q at (each_at test none h stand e slot)))

off_page_lem : (stand : List Stand) (bank page : ℕ) → each (off_page bank page) stand ≡ true → (slot block : ℕ) → get_or stand slot none ≢ at bank page block
unfolding off_page
off_page_lem stand bank page e slot block =
    no_slot (off_page bank page) stand refl e slot bank page block (rw (eq-eqb bank bank refl, eq-eqb page page refl))

off_block_lem : (stand : List Stand) (bank page block : ℕ) → each (off_block bank page block) stand ≡ true → (slot : ℕ) → get_or stand slot none ≢ at bank page block
unfolding off_block
off_block_lem stand bank page block e slot =
    no_slot (off_block bank page block) stand refl e slot bank page block (rw (eq-eqb bank bank refl, eq-eqb page page refl, eq-eqb block block refl))

pub on_block : (bank page block : ℕ) (s : Stand) → not (off_block bank page block s) ≡ true → s ≡ at bank page block
unfolding off_block
on_block bank page block none e = absurd (false≢true e)
on_block bank page block (at b p k) e =
    let all = not-false (eqb b bank && eqb p page && eqb k block) (not-true _ e) in
    let two = and_left (eqb b bank && eqb p page) (eqb k block) all in
    rw (
      eqb-true b bank (and_left (eqb b bank) (eqb p page) two),
      eqb-true p page (and_right (eqb b bank) (eqb p page) two),
      eqb-true k block (and_right (eqb b bank && eqb p page) (eqb k block) all),
    )

is_standing : (g : Book) (slot : ℕ) → standing (stands g slot) ≡ true → Standing g slot
unfolding standing
is_standing g slot e = go (stands g slot) refl
  where
    go : (s : Stand) → stands g slot ≡ s → Standing g slot
    go none q = absurd (false≢true (rw q at e))
    go (at b p k) q = (b, p, k, q)

-- the test is right
pub kept_keeps : (n : ℕ) (c : Control) (g : Book) (o : Operation) → kept n c g o ≡ true → Keeps n c g o
unfolding kept Keeps idle
kept_keeps n c g (access b p) e = tt
kept_keeps n c g (precharge b) e = tt
kept_keeps n c g (duplicate b p) e =
    let from = each (off_page b (open_page c.banks b)) g.stand in
    let to = each (off_page b p) g.stand in
    (off_page_lem g.stand b (open_page c.banks b) (and_left from to e), off_page_lem g.stand b p (and_right from to e))
kept_keeps n c g (read_block b k s) e =
    let q = open_page c.banks b in
    let none_wait = eqb (waiting g s) 0 in
    let others = each (off_block b q k) (set g.stand s none) in (
      eqb-true (waiting g s) 0 (and_left none_wait others e),
      λ other f at_block. off_block_lem (set g.stand s none) b q k (and_right none_wait others e) other (get_or-set_other g.stand s other none none f ∙ at_block),
    )
kept_keeps n c g (write_block m b k s) e = on_block b (open_page c.banks b) k (stands g s) e
kept_keeps n c g (data_read s w) e = is_standing g s e
kept_keeps n c g (data_write w) e =
    let from = standing (stands g w.slot) in
    let to = standing (stands g (into_slot n c.registers w)) in
    let ones = not w.stateless || eqb (plane_mask c.registers) 0xffff_ffff in
    let normal = not w.initial in
    let three = and_left (from && to && ones) normal e in
    let two = and_left (from && to) ones three in (
      is_standing g w.slot (and_left from to two),
      is_standing g (into_slot n c.registers w) (and_right from to two),
      λ stateless. eqb-true (plane_mask c.registers) 0xffff_ffff (or_right (not w.stateless) _ (rw stateless) (and_right (from && to) ones three)),
      not-true _ (and_right (from && to && ones) normal e),
    )
kept_keeps n c g (write_tag m s x) e = absurd (false≢true e)
kept_keeps n c g (write_register r v) e = λ one changes.
    none_waits g (or_right (eqb v (plane_mask c.registers)) _ (ne_eqb v (plane_mask c.registers) changes) (or_right (not (eqb r 1)) _ (rw (eq-eqb r 1 one)) e))
kept_keeps n c g (read_register r) e = tt
kept_keeps n c g (video_transfer b l) e = tt
kept_keeps n c g video_clock e = tt
kept_keeps n c g unknown e = tt
