-- Runs, one part after another. Assumes nothing.
use mathlib.Core.Path.{◌≡◌, refl}
use mathlib.Core.Bool.{Bool, true, false, cond}
use mathlib.Core.List.{List, [], ◌∷◌, ◌++◌, append_assoc}
use Prim.Native.Nat.{ℕ, zero, suc, ◌+◌, ◌*◌, ◌≤◌, ◌<◌}
use native.Mathlib.Numerals.{add-one}
use native.Mathlib.Omega.{arith}
use lib.Dec.{eqb}
use lib.ListN.{length, take, get_or, length-append}
use lib.Seq.{take-suc}
use Rattle.chip.specs.declared.Chip.{Chip}
use Rattle.numbers.specs.Numbers.{when_done}
use Rattle.chip.specs.Answers.{GivenBack}
use Rattle.lines.specs.Lines.{TextGiven}
use Rattle.lines.specs.Printing.{printed_given}
use Rattle.lines.specs.ByByte.{ended, has_byte}
use Rattle.lines.proofs.Digits.{line_count}
use Rattle.paneltest.specs.declared.session.Session.{Session}
use Rattle.paneltest.specs.Session.{Run, and_then, line_run, byte_run, close_run, start_run, ran, Leaves}

-- ---- what functions leave, one after another

leaves_both : {part next : Run} {r s : Session} {m n before between after : List ℕ}
    → Leaves part r m before between → Leaves next s n between after → Leaves (and_then part next) s n before after
leaves_both first second = record {
  session_left = second.session_left;
  memory_left = second.memory_left;
  output = rw (second.output, first.output, append_assoc);
}

-- ---- a line is at most 44 bytes

given_room : (g : GivenBack) → length (printed_given g) ≤ 44
unfolding printed_given
given_room g = line_count g.number g.value g.pass g.written

-- whichever of two lines it is
line_room : (text : TextGiven) (chip : Chip) (memory : List ℕ) → length (line_run text chip memory).printed ≤ 44
unfolding line_run
line_room text chip memory = go text.number _ _ (given_room _) (given_room _)
  where
    go : (k : ℕ) (a b : Run) → length a.printed ≤ 44 → length b.printed ≤ 44 → length (when_done k a b).printed ≤ 44
    go zero a b room_a room_b = room_a
    go (suc k) a b room_a room_b = room_b

-- whichever of two runs it is
either_room : (t : Bool) (a b : Run) → length a.printed ≤ 44 → length b.printed ≤ 44 → length (cond t a b).printed ≤ 44
either_room true a b room_a room_b = room_a
either_room false a b room_a room_b = room_b

pub byte_room : (session : Session) (memory : List ℕ) (x : ℕ) → length (byte_run session memory x).printed ≤ 44
unfolding byte_run
byte_room session memory x = either_room (eqb x 10) _ _ (line_room (ended session.reader) session.chip memory) (omega arith)

-- ---- the end of the input

pub close_line : (session : Session) (memory : List ℕ) → has_byte session.reader ≡ true
    → close_run session memory ≡ line_run (ended session.reader) session.chip memory
unfolding close_run
close_line session memory e = cc e

pub close_none : (session : Session) (memory : List ℕ) → has_byte session.reader ≡ false → close_run session memory ≡ start_run session memory
unfolding close_run
close_none session memory e = cc e

pub close_room : (session : Session) (memory : List ℕ) → length (close_run session memory).printed ≤ 44
unfolding close_run
close_room session memory = either_room (has_byte session.reader) _ _ (line_room (ended session.reader) session.chip memory) (omega arith)

-- ---- a piece of the input, and then another

pub ran_room : (run : Run) (input : List ℕ) → length (ran run input).printed ≤ length run.printed + length input * 44
unfolding ran
ran_room run [] = omega arith
ran_room run (x ∷ input) =
    let next = byte_run run.session run.memory x in
    omega (arith, ran_room (and_then run next) input, byte_room run.session run.memory x, length-append run.printed next.printed)

pub ran_append : (run : Run) (a b : List ℕ) → ran run (a ++ b) ≡ ran (ran run a) b
unfolding ran
ran_append run [] b = refl
ran_append run (x ∷ a) b = ran_append (and_then run (byte_run run.session run.memory x)) a b

-- a byte more
ran_more : (run : Run) (input : List ℕ) (i : ℕ) → i < length input
    → ran run (take (i + 1) input)
    ≡ and_then (ran run (take i input)) (byte_run (ran run (take i input)).session (ran run (take i input)).memory (get_or input i 0))
unfolding ran
ran_more run input i h = rw (add-one i, take-suc input i 0 h, ran_append)

pub leaves_more : (run : Run) (input : List ℕ) (i : ℕ) {r s : Session} {m n before between after : List ℕ} → i < length input
    → Leaves (ran run (take i input)) r m before between → Leaves (byte_run r m (get_or input i 0)) s n between after
    → Leaves (ran run (take (i + 1) input)) s n before after
leaves_more run input i h first second = rw (ran_more run input i h, ← first.session_left, ← first.memory_left) (leaves_both first second)
