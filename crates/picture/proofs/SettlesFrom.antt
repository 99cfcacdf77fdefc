-- That a list of calls settles (keeps to demand 3's premises and ends with no bytes waiting), shown call by call and over any bytes: of pixels and
-- memory only what is read reaches the control part and the book, and here it may be anything. Assumes nothing.
use mathlib.Core.Path.{◌≡◌, sym, ◌∙◌, subst}
use mathlib.Core.Bool.{true}
use mathlib.Core.List.{List, [], ◌∷◌}
use Prim.Native.Nat.{ℕ, zero, suc, ◌<◌}
use native.Mathlib.Omega.{arith}
use Rattle.chip.specs.declared.Control.{Control}
use Rattle.chip.specs.declared.Chip.{Chip}
use Rattle.chip.specs.declared.Call.{Call}
use Rattle.chip.specs.Operations.{operation}
use Rattle.chip.specs.Changes.{ticked}
use Rattle.chip.specs.Effects.{Reading, effect, pixels_after, memory_after, video_after}
use Rattle.chip.specs.Calls.{read_in}
use Rattle.picture.specs.Book.{Book, NoneWaits, note}
use Rattle.picture.specs.Flat.{Flat}
use Rattle.picture.specs.Premises.{Keeps}
use Rattle.picture.specs.Drawing.{World, number_in, next, after, Fair, Settles}
use Rattle.picture.proofs.Nexts.{world_of, next_done, next_refused}
use Rattle.picture.proofs.Ready.{Ready, formed_number, number_formed, done_ready}
use Rattle.picture.proofs.PremiseTest.{idle, each, kept, none_waits, kept_keeps}

module _ (n : ℕ) where
  -- what follows a call
  follows : (w w' : World) (x : Call) (xs : List Call) → next n w x ≡ w' → (number_in n w x ≡ 0 → Keeps n w.chip.control w.book (operation x))
      → Settles n w' xs → Settles n w (x ∷ xs)
  unfolding Settles Fair after
  follows w w' x xs e keeps later = (
    (keeps, subst (λ (v : World). Fair n v xs) (sym e) later.0),
    subst (λ (v : World). NoneWaits (after n v xs).book) (sym e) later.1,
  )

-- the calls settle, with n slots, from this control part and this book on, whatever the bytes are
abbrev pub Over : ℕ → Control → Book → List Call → Type 0
Over n c g calls = (p v m : List ℕ) (f : Flat) → Ready c m → Settles n (world_of (record { control = c; pixels = p; video = v }) m g f) calls

pub record SettlesFrom (n : ℕ) (c : Control) (g : Book) (calls : List Call) : Type 0 where
  pub over : Over n c g calls

pub ends : {n : ℕ} {c : Control} {g : Book} → each idle g.wait ≡ true → SettlesFrom n c g []
unfolding Settles Fair after world_of
ends {g = g} waits = record { over = λ p v m f ready. (tt, none_waits g waits) }

-- a call that is done and keeps to the premises, and the calls after it, whatever it reads
pub done : {n : ℕ} {c : Control} {g : Book} {x : Call} {xs : List Call} → formed_number n c x ≡ 0 → kept n c g (operation x) ≡ true
    → ((r : Reading) → SettlesFrom n (ticked (effect n c (operation x) r).control) (note n c g (operation x) r) xs) → SettlesFrom n c g (x ∷ xs)
unfolding world_of
done {n} {c} {g} {x} {xs} own test rest = record { over = call }
  where
    call : Over n c g (x ∷ xs)
    call p v m f ready =
        let k : Chip = record { control = c; pixels = p; video = v } in
        let zero_given = number_formed n c m x ready ∙ own in
        let r = read_in n k x in
        let moved = (effect n c (operation x) r).move in
        follows n (world_of k m g f) _ x xs (next_done n k m g f x zero_given) (λ z. kept_keeps n c g (operation x) test)
        ((rest r).over (pixels_after c p m moved) (video_after c v m moved) (memory_after c p m moved) _ (done_ready n c p m x r zero_given))

-- a call that is refused, with this number, breaks no premise
pub refused : {n : ℕ} {c : Control} {g : Book} {x : Call} {xs : List Call} (r : ℕ) → formed_number n c x ≡ r → 0 < r → SettlesFrom n c g xs → SettlesFrom n c g (x ∷ xs)
unfolding number_in world_of
refused zero own some rest = absurd (omega arith)
refused {n} {c} {g} {x} {xs} (suc k) own some rest = record { over = call }
  where
    call : Over n c g (x ∷ xs)
    call p v m f ready =
        let r = number_formed n c m x ready ∙ own in
        follows n (world_of (record { control = c; pixels = p; video = v }) m g f) _ x xs (next_refused n _ m g f x k r) (λ z. absurd (omega (arith, r, z)))
        (rest.over p v m _ ready)
