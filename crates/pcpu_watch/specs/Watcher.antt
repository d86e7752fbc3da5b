-- What watches a run, from moment to moment.
use Rattle.std.specs.Prelude.{◌≡◌, ◌<◌, ◌-◌, [], suc, length}
use Rattle.lock_moves.specs.Sets.{LockTable}
use Rattle.hall.specs.Seats.{IsOf, shares_in}
use Rattle.pcpu_watch.specs.declared.watch.Watcher.{Watcher}
use Rattle.pcpu_watch.specs.Looks.{EachIsLook}
use Rattle.pcpu_watch.specs.Scribes.{IsScribe, ReadsBefore, has_read}

-- between two moments: there is a look for each moment so far, and what the scribe has read is published: the entries of the moments before the last one
pub record IsWatch (hall : LockTable) (w : Watcher) : Type 0 where
  pub scribe : IsScribe hall w.scribe
  pub pending : w.scribe.writer.pending ≡ []
  pub ended : w.scribe.ended ≡ length w.looks.items - 1
  pub before : ReadsBefore (length w.looks.items) w.scribe
  pub looks : EachIsLook (has_read w.scribe) w.looks.items

-- the same, with room for a look
pub record CanLook (hall : LockTable) (w : Watcher) : Type 0 where
  pub is : IsWatch hall w
  pub room : length w.looks.items < w.looks.room

-- before the first moment: there is no look, and room for one
pub record BeginsWatch (hall : LockTable) (w : Watcher) : Type 0 where
  pub is : IsWatch hall w
  pub nothing : w.looks.items ≡ []
  pub room : 0 < w.looks.room

-- behind the last moment that was watched: there is a look for each moment so far, of which there is one
pub record HasWatched (hall : LockTable) (w : Watcher) : Type 0 where
  pub is : IsWatch hall w
  pub some : 0 < length w.looks.items

-- what no turn changes
pub record StaysWatch (hall : LockTable) (old new : Watcher) : Type 0 where
  pub of : IsOf hall new.scribe.seat
  pub shares : shares_in new.scribe.seat ≡ shares_in old.scribe.seat
  pub room : new.looks.room ≡ old.looks.room

-- there is one look more
pub record HasLooked (hall : LockTable) (old new : Watcher) : Type 0 where
  pub is : IsWatch hall new
  pub one_more : length new.looks.items ≡ suc (length old.looks.items)
