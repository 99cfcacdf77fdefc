-- The program's run prints what crate lines says of the whole input, however it comes in pieces. Assumes nothing.
use mathlib.Core.Path.{◌≡◌, refl, sym, ap, ◌∙◌}
use mathlib.Core.Bool.{Bool, true, false, cond}
use mathlib.Core.List.{List, [], ◌∷◌, ◌++◌, append-nil, append_assoc, flatten}
use Prim.Native.Nat.{ℕ, zero, suc, ◌≤◌}
use native.Mathlib.Omega.{arith}
use lib.Dec.{eqb}
use lib.ListN.{length, replicate}
use Rattle.numbers.specs.Numbers.{when_done}
use Rattle.layout.specs.Memory.{size}
use Rattle.chip.specs.declared.Chip.{Chip}
use Rattle.chip.specs.State.{fresh_of}
use Rattle.chip.specs.Answers.{numbered}
use Rattle.chip.specs.Calls.{call_given, chip_of, memory_of}
use Rattle.lines.specs.Lines.{onto, split, endless, lines_of, text_number, line_call, TextGiven, is_call, no_call, text_given, replies}
use Rattle.lines.specs.ByByte.{started, after_byte, after_bytes, ended}
use Rattle.lines.specs.Printing.{printed_each, heading, output_of}
use Rattle.lines.proofs.Whole.{bytes_append, bytes_begin, some_piece, read_whole}
use Rattle.paneltest.specs.declared.session.Session.{Session}
use Rattle.paneltest.specs.Session.{Run, and_then, start_run, begun, line_run, byte_run, ran, close_run, ran_all}
use Rattle.paneltest.proofs.SessionRuns.{ran_append, close_line}

-- ---- a line

-- after a line no other has begun
line_after : (text : TextGiven) (chip : Chip) (memory : List ℕ)
    → (line_run text chip memory).session ≡ record { chip = (line_run text chip memory).session.chip; reader = started }
unfolding line_run
line_after text chip memory = go text.number _ _ refl refl
  where
    go : (k : ℕ) (a b : Run) → a.session.reader ≡ started → b.session.reader ≡ started
        → (when_done k a b).session ≡ record { chip = (when_done k a b).session.chip; reader = started }
    go zero a b e f = λ i. record { chip = a.session.chip; reader = e i }
    go (suc k) a b e f = λ i. record { chip = b.session.chip; reader = f i }

-- the reply to a line, and those to the lines after it
replies_to : TextGiven → Chip → List ℕ → List (List ℕ) → List ℕ
replies_to text chip memory lines =
    let run = line_run text chip memory in
    run.printed ++ printed_each (replies run.session.chip run.memory lines)

line_replies : (line : List ℕ) (lines : List (List ℕ)) (chip : Chip) (memory : List ℕ)
    → printed_each (replies chip memory (line ∷ lines)) ≡ replies_to (text_given line) chip memory lines
unfolding replies_to text_given replies printed_each line_run
line_replies line lines chip memory = go (text_number line)
  where
    go : (number : ℕ)
        → printed_each
        (when_done number
        (call_given chip memory (line_call line) ∷ replies (chip_of chip memory (line_call line)) (memory_of chip memory (line_call line)) lines)
        (numbered 9 ∷ replies chip memory lines))
        ≡ replies_to (when_done number (is_call (line_call line)) no_call) chip memory lines
    go zero = refl
    go (suc number) = refl

last_reply : (text : TextGiven) (chip : Chip) (memory : List ℕ) → replies_to text chip memory [] ≡ (line_run text chip memory).printed
unfolding replies_to replies printed_each
last_reply text chip memory = append-nil (line_run text chip memory).printed

-- ---- the lines of an input of which some bytes, the front of its first line, are read already

ahead : List ℕ → List (List ℕ) → List (List ℕ)
ahead line [] = line ∷ []
ahead line (piece ∷ pieces) = (line ++ piece) ∷ pieces

-- byte 10 ends that line
line_cut : (line : List ℕ) (pieces : List (List ℕ)) → 1 ≤ length pieces → endless (ahead line ([] ∷ pieces)) ≡ line ∷ endless (ahead [] pieces)
unfolding ahead endless
line_cut line [] h = absurd (omega arith)
line_cut line (piece ∷ pieces) h = rw (append-nil line)

-- any other is one more of its bytes
line_grown : (line : List ℕ) (x : ℕ) (pieces : List (List ℕ)) → 1 ≤ length pieces → ahead line (onto x pieces) ≡ ahead (line ++ (x ∷ [])) pieces
unfolding ahead
line_grown line x [] h = absurd (omega arith)
line_grown line x (piece ∷ pieces) h = rw (append_assoc line (x ∷ []) piece)

ahead_none : (pieces : List (List ℕ)) → 1 ≤ length pieces → ahead [] pieces ≡ pieces
unfolding ahead
ahead_none [] h = absurd (omega arith)
ahead_none (piece ∷ pieces) h = refl

-- ---- from the middle of a line to the end of the input

-- some bytes of a line are read
in_line : Chip → List ℕ → List ℕ → List ℕ → Run
in_line chip line memory printed = record { session = record { chip = chip; reader = after_bytes started line }; memory = memory; printed = printed }

closed : Run → Run
closed run = and_then run (close_run run.session run.memory)

-- a last line that lacks byte 10
last_line : (x : ℕ) (line : List ℕ) (chip : Chip) (memory printed : List ℕ)
    → (closed (in_line chip (x ∷ line) memory printed)).printed ≡ printed ++ printed_each (replies chip memory ((x ∷ line) ∷ []))
unfolding closed in_line
last_line x line chip memory printed =
    let session : Session = record { chip = chip; reader = after_bytes started (x ∷ line) } in
    ap (λ (run : Run). printed ++ run.printed) (close_line session memory (bytes_begin started x line))
    ∙ ap (λ (text : TextGiven). printed ++ (line_run text chip memory).printed) (read_whole (x ∷ line))
    ∙ ap (λ (l : List ℕ). printed ++ l) (sym (last_reply (text_given (x ∷ line)) chip memory) ∙ sym (line_replies (x ∷ line) [] chip memory))

at_end : (line : List ℕ) (chip : Chip) (memory printed : List ℕ)
    → (closed (in_line chip line memory printed)).printed ≡ printed ++ printed_each (replies chip memory (endless (ahead line ([] ∷ []))))
unfolding closed close_run in_line ahead endless printed_each replies after_bytes
at_end [] chip memory printed = refl
at_end (x ∷ line) chip memory printed = rw (append-nil line) (last_line x line chip memory printed)

from_line : (input line : List ℕ) (chip : Chip) (memory printed : List ℕ)
    → (closed (ran (in_line chip line memory printed) input)).printed ≡ printed ++ printed_each (replies chip memory (endless (ahead line (split 10 input))))
unfolding ran split byte_run in_line replies_to after_bytes
from_line [] line chip memory printed = at_end line chip memory printed
from_line (x ∷ input) line chip memory printed = go (eqb x 10) (from_line input)
  where
    left : List (List ℕ)
    left = split 10 input

    next : Bool → Run
    next t = cond t (line_run (ended (after_bytes started line)) chip memory) (start_run (record { chip = chip; reader = after_byte (after_bytes started line) x }) memory)

    go : (t : Bool)
        → ((line : List ℕ) (chip : Chip) (memory printed : List ℕ)
        → (closed (ran (in_line chip line memory printed) input)).printed ≡ printed ++ printed_each (replies chip memory (endless (ahead line left))))
        → (closed (ran (and_then (in_line chip line memory printed) (next t)) input)).printed
        ≡ printed ++ printed_each (replies chip memory (endless (ahead line (cond t ([] ∷ left) (onto x left)))))
    go true rest =
        let parsed = ended (after_bytes started line) in
        let run = line_run parsed chip memory in
        ap (λ (session : Session). (closed (ran (record { session = session; memory = run.memory; printed = printed ++ run.printed }) input)).printed)
        (line_after parsed chip memory)
        ∙ rest [] run.session.chip run.memory (printed ++ run.printed)
        ∙ append_assoc printed run.printed _
        ∙ ap (λ (t : TextGiven). printed ++ replies_to t chip memory (endless (ahead [] left))) (read_whole line)
        ∙ ap (λ (l : List ℕ). printed ++ l) (sym (line_replies line (endless (ahead [] left)) chip memory))
        ∙ ap (λ (lines : List (List ℕ)). printed ++ printed_each (replies chip memory lines)) (sym (line_cut line left (some_piece 10 input)))
    go false rest = rw (append-nil printed, ← (bytes_append started line (x ∷ [])), line_grown line x left (some_piece 10 input)) (rest (line ++ (x ∷ [])) chip memory printed)

-- ---- the input in pieces

-- what was printed before a run stays in front
kept_in_front : (front : List ℕ) (run : Run) (piece : List ℕ)
    → ran (record { session = run.session; memory = run.memory; printed = front ++ run.printed }) piece
    ≡ record { session = (ran run piece).session; memory = (ran run piece).memory; printed = front ++ (ran run piece).printed }
unfolding ran
kept_in_front front run [] = refl
kept_in_front front run (x ∷ piece) =
    let next = byte_run run.session run.memory x in
    rw (append_assoc front run.printed next.printed) (kept_in_front front (and_then run next) piece)

one_piece : (run : Run) (piece : List ℕ) → and_then run (ran (start_run run.session run.memory) piece) ≡ ran run piece
one_piece run piece =
    sym (kept_in_front run.printed (start_run run.session run.memory) piece)
    ∙ ap (λ (l : List ℕ). ran (record { session = run.session; memory = run.memory; printed = l }) piece) (append-nil run.printed)

all_pieces : (run : Run) (pieces : List (List ℕ)) → ran_all run pieces ≡ closed (ran run (flatten pieces))
unfolding ran_all closed flatten ran
all_pieces run [] = refl
all_pieces run (piece ∷ pieces) = rw (one_piece run piece, ran_append run piece (flatten pieces)) (all_pieces (ran run piece) pieces)

-- 01, The small program: the header, and what is printed while the input is read, however it comes in pieces, is the output for all of it
pub program_prints : (pieces : List (List ℕ)) → heading ++ (ran_all (start_run begun (replicate (size 2) 0)) pieces).printed ≡ output_of (flatten pieces)
unfolding begun in_line after_bytes output_of lines_of
program_prints pieces =
    let input = flatten pieces in
    let memory : List ℕ = replicate (size 2) 0 in
    ap (λ (run : Run). heading ++ run.printed) (all_pieces (start_run begun memory) pieces)
    ∙ ap (λ (l : List ℕ). heading ++ l) (from_line input [] (fresh_of 2) memory [])
    ∙ ap (λ (lines : List (List ℕ)). heading ++ printed_each (replies (fresh_of 2) memory (endless lines))) (ahead_none (split 10 input) (some_piece 10 input))
