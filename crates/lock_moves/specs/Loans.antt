-- What a held value and a held book end as, where a `&mut` to what is in them is handed out.
use Rattle.std.specs.Borrow.{Lends, Fml, RattleType, MutBor}
use Rattle.journal_core.specs.contracts.Book.{the_row as book_row}
use Rattle.journal_core.specs.Books.{Chronicle}
use Rattle.lock_moves.specs.contracts.content.Held.{the_row as held_row}
use Rattle.lock_moves.specs.contracts.content.HeldBook.{the_row as held_book_row}
use Rattle.lock_moves.specs.Sets.{Taken}

module _ (T : RattleType) (v : MutBor (Taken T.Denot)) where
  -- once the borrow r ends, the value is what was last written through it
  abbrev pub held_lends : MutBor T.Denot → Fml
  held_lends r = Lends (held_row T) T v r (λ value. record v.now { value = value })

-- once the borrow r ends, the book is what was last written through it
abbrev pub held_book_lends : MutBor Chronicle → MutBor Chronicle → Fml
held_book_lends v r = Lends held_book_row book_row v r (λ book. book)
