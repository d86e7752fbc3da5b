-- The words of the table: 0 to 17 are the locks, 18 to 145 the names, 146 is the moment, and 147 to 210 are the stages of the cores. The slot k is the lock k's.
use Rattle.std.specs.Prelude.{ℕ, ◌+◌, ◌&&◌, Bool, true, nat_lt}
use Rattle.sched_model.specs.declared.machine.Machine.{Machine}
use Rattle.journal_core.specs.Parts.{is_name}
use Rattle.lock_moves.specs.declared.content.NameId.{NameId}
use Rattle.lock_moves.specs.declared.content.NameId.TheVariants.{Res, Dom}
use Rattle.lock_moves.specs.declared.content.WordId.{WordId}
use Rattle.lock_moves.specs.declared.content.WordId.TheVariants.{Lock, Name, Now, Stage}

-- the number of a name: that of a core, or 64 more than that of a domain
abbrev pub name_number : NameId → ℕ
name_number (Res r) = r.0
name_number (Dom d) = 64 + d.0

-- whether the input has the core
abbrev pub has_core : Machine → ℕ → Bool
has_core m r = nat_lt r 64 && is_name m.config r

-- whether the input has what the name names
abbrev pub has_name : Machine → NameId → Bool
has_name m (Res r) = has_core m r.0
has_name m (Dom d) = nat_lt d.0 64 && is_name m.config (64 + d.0)

-- the lock of the book, which is the last: those below guard the parts of the state
abbrev pub book_lock : ℕ
book_lock = 17

-- how many locks there are, and how many words
abbrev pub lock_count : ℕ
lock_count = 18

abbrev pub word_count : ℕ
word_count = 211

-- the word of a name, the one of the moment, and the one of a core's stage
abbrev pub name_word : ℕ → ℕ
name_word n = 18 + n

abbrev pub moment_word : ℕ
moment_word = 146

abbrev pub stage_word : ℕ → ℕ
stage_word r = 147 + r

-- the number of a word
abbrev pub word_index : WordId → ℕ
word_index (Lock k) = k.0
word_index (Name n) = name_word (name_number n)
word_index Now = moment_word
word_index (Stage r) = stage_word r.0

-- whether there is such a word: a lock's number is at most the book's, and a name or a core is one of the input
abbrev pub has_word : Machine → WordId → Bool
has_word m (Lock k) = nat_lt k.0 lock_count
has_word m (Name n) = has_name m n
has_word m Now = true
has_word m (Stage r) = has_core m r.0
