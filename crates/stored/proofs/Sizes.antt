-- What every chip by value has: each array its length, and each number its width. Assumes nothing.
use mathlib.Core.List.{List}
use lib.ListN.{get_or}
use mir.Syntax.{w16, w32}
use mir.Val.{Val, Fits}
use denote.Laws.{Is}
use denote.Struct.Declared.{row}
use borrow.Author.Rules.{rules}
use Rattle.chip.specs.declared.Chip.{Chip}
use Rattle.chip.specs.contracts.Chip.{the_type}
use Rattle.block.specs.Kept.{Sized}

pub sized : (chip : Chip) (vs : List Val) → Is (row the_type) chip vs → Sized chip
sized chip vs g = record {
  pages_fit = search rules;
  banks = record { long = search rules; fit = λ j. let f : Fits w16 (get_or chip.control.banks j 0) = search rules in f.fits };
  registers = record { long = search rules; fit = λ j. let f : Fits w32 (get_or chip.control.registers j 0) = search rules in f.fits };
  counter_fits = search rules;
  tags = record { long = search rules; fit = λ j. let f : Fits w32 (get_or chip.control.tags j 0) = search rules in f.fits };
  scan_fits = (search rules, search rules);
  pixels_long = search rules;
  video_long = search rules;
}
