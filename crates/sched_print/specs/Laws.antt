-- What holds of the texts of entries.
use Rattle.std.specs.Prelude.{◌≡◌, ◌≢◌, List}
use Rattle.std.specs.List.{All}
use Rattle.sched_model.specs.declared.event.Entry.{Entry}
use Rattle.sched_print.specs.Line.{words, newline, line, text}
use Rattle.sched_print.specs.Ranges.{IsPrintable}

-- a line is the line of one entry alone
abbrev pub LinesTellEntries : Type 0
LinesTellEntries = (d e : Entry) → IsPrintable d → IsPrintable e → line d ≡ line e → d ≡ e

-- no byte of a line but its last is a newline
abbrev pub LinesAreLines : Type 0
LinesAreLines = (e : Entry) → All (λ b. b ≢ newline) (words e)

-- a text is the text of one list of entries alone
abbrev pub TextsTellEntries : Type 0
TextsTellEntries = (ds es : List Entry) → All IsPrintable ds → All IsPrintable es → text ds ≡ text es → ds ≡ es
