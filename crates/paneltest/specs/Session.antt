-- 01, The small program: its run over the input, a byte at a time. proofs/Prints.antt shows that it prints what crate lines says of the whole input. Assumes nothing.
use Rattle.std.specs.Prelude.{◌≡◌, cond, List, [], ◌∷◌, ◌++◌, ℕ, eqb}
use Rattle.numbers.specs.Numbers.{when_done}
use Rattle.chip.specs.declared.Chip.{Chip}
use Rattle.chip.specs.State.{fresh_of}
use Rattle.chip.specs.Answers.{numbered}
use Rattle.chip.specs.Calls.{call_given, chip_of, memory_of}
use Rattle.lines.specs.Lines.{TextGiven}
use Rattle.lines.specs.ByByte.{started, after_byte, ended, has_byte}
use Rattle.lines.specs.Printing.{printed_given}
use Rattle.paneltest.specs.declared.session.Session.{Session}

-- what a part of a run leaves: the session, memory, and what it printed
pub record Run : Type 0 where
  pub session : Session
  pub memory : List ℕ
  pub printed : List ℕ

-- one part, and another after it
abbrev pub and_then : Run → Run → Run
and_then part next = record { session = next.session; memory = next.memory; printed = part.printed ++ next.printed }

-- nothing read yet
abbrev pub start_run : Session → List ℕ → Run
start_run session memory = record { session = session; memory = memory; printed = [] }

-- 01, The small program: P = 2 and a fresh chip
unfoldable pub begun : Session
begun = record { chip = fresh_of 2; reader = started }

-- ---- a line

-- 01, Numbers, 9: a line that is no call gives 9, and changes nothing
unfoldable pub line_run : TextGiven → Chip → List ℕ → Run
line_run text chip memory = when_done text.number
    (record {
      session = record { chip = chip_of chip memory text.call; reader = started };
      memory = memory_of chip memory text.call;
      printed = printed_given (call_given chip memory text.call);
    })
    (record {
      session = record { chip = chip; reader = started };
      memory = memory;
      printed = printed_given (numbered text.number);
    })

-- ---- the input

-- 01, The small program: a line ends with byte 10
unfoldable pub byte_run : Session → List ℕ → ℕ → Run
byte_run session memory x = cond (eqb x 10)
    (line_run (ended session.reader) session.chip memory)
    (start_run (record { chip = session.chip; reader = after_byte session.reader x }) memory)

-- a piece of the input more
unfoldable pub ran : Run → List ℕ → Run
ran run [] = run
ran run (x ∷ xs) = ran (and_then run (byte_run run.session run.memory x)) xs

-- 01, The small program: a last line may lack byte 10
unfoldable pub close_run : Session → List ℕ → Run
close_run session memory = cond (has_byte session.reader) (line_run (ended session.reader) session.chip memory) (start_run session memory)

-- what the program does with its input as it is read, in pieces of any length, and at its end
unfoldable pub ran_all : Run → List (List ℕ) → Run
ran_all run [] = and_then run (close_run run.session run.memory)
ran_all run (piece ∷ pieces) = ran_all (and_then run (ran (start_run run.session run.memory) piece)) pieces

-- ---- what a function leaves: the session, memory and the output, as a run has them

pub record Leaves (run : Run) (session : Session) (memory before after : List ℕ) : Type 0 where
  pub session_left : session ≡ run.session
  pub memory_left : memory ≡ run.memory
  pub output : after ≡ before ++ run.printed
