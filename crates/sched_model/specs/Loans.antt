-- What a list ends as, where a `&mut` to one of its items is handed out.
use Rattle.std.specs.Prelude.{ℕ, List, Option, slice_set}
use Rattle.std.specs.Borrow.{Lends, LendsIf, Fml, RattleType, MutBor}
use Rattle.sched_model.specs.contracts.row.Row.{the_row as row_row}
use Rattle.sched_model.specs.contracts.short.Short.{the_row as short_row}

module _ (T : RattleType) (v : MutBor (List T.Denot)) where
  -- once the borrow r ends, the place i has the last value written through r
  abbrev pub row_lends_item : ℕ → MutBor T.Denot → Fml
  row_lends_item i r = Lends (row_row T) T v r (slice_set v.now i)

module _ (T : RattleType) (v : MutBor (List T.Denot)) where
  -- once the borrow ends, the place i has the last value written through it; where there is no such place, all stays
  abbrev pub row_lends_get : ℕ → Option (MutBor T.Denot) → Fml
  row_lends_get i r = LendsIf (row_row T) T v r (slice_set v.now i) v.now

module _ (T N : RattleType) (v : MutBor (List T.Denot)) where
  -- once the borrow ends, the place i has the last value written through it; where there is no such place, all stays
  abbrev pub short_lends_get : ℕ → Option (MutBor T.Denot) → Fml
  short_lends_get i r = LendsIf (short_row T N) T v r (slice_set v.now i) v.now
