-- One look more.
use mathlib.Core.List.{IsPrefix}
use Rattle.std.proofs.Common.{◌≡◌, ◌∙◌, ◌++◌, ◌-◌, ◌<◌, ◌≤◌, ◌^◌, ℕ, suc, List, [], ◌∷◌, length, sym, ap, subst, arith, append-nil}
use Rattle.std.proofs.lemmas.List.{length_push}
use Rattle.sched_model.specs.declared.event.Entry.{Entry}
use Rattle.status_board.specs.Boards.{Desk}
use Rattle.status_board.specs.Counts.{entry_count}
use Rattle.lock_moves.specs.Sets.{LockTable}
use Rattle.pcpu_watch.specs.declared.looks.Look.{Look}
use Rattle.pcpu_watch.specs.declared.scribe.Scribe.{Scribe}
use Rattle.pcpu_watch.specs.declared.watch.Watcher.{Watcher}
use Rattle.pcpu_watch.specs.Moments.{ends, moment_of}
use Rattle.pcpu_watch.specs.Looks.{EachIsLook, IsLook, LookList, ShowsBeginning, look_of}
use Rattle.pcpu_watch.specs.Scribes.{HasWritten, KeepsReading, ReadsOn, has_read}
use Rattle.pcpu_watch.specs.Watcher.{HasLooked, IsWatch}
use Rattle.pcpu_watch.proofs.Looking.{look-new, looks-pushed, looks-still}
use Rattle.pcpu_watch.proofs.Reading.{read-length}

-- so few entries are all counted
few-counted : (h : List Entry) (n : ℕ) → length h ≡ n → n ≤ 2 ^ 32 → entry_count h ≡ length h
few-counted h n len few = omega (arith, len, few)

module _ (hall : LockTable) (w : Watcher) (is : IsWatch hall w) where
  pub all-published : w.scribe.writer.published ≡ has_read w.scribe
  all-published = sym (append-nil w.scribe.writer.published) ∙ ap (λ (p : List Entry). w.scribe.writer.published ++ p) (sym is.pending) ∙ is.scribe.given

  -- what was learned counts all that was read before
  pub learned-count : (look_of (has_read w.scribe)).entries ≡ length (has_read w.scribe)
  learned-count = few-counted (has_read w.scribe) w.scribe.read (read-length hall w.scribe is.scribe) is.scribe.few

  module _ (s t : Scribe) (on : ReadsOn hall w.scribe s) (written : HasWritten (length w.looks.items) s) (keeps : KeepsReading hall s t) (look : Look) (shows : ShowsBeginning (has_read t) look)
      (least : (look_of (has_read w.scribe)).entries ≤ look.entries) (looks : LookList) (pushed : looks ≡ record w.looks { items = w.looks.items ++ look ∷ [] }) where
    begins : IsPrefix (has_read w.scribe) (has_read t)
    begins = subst (IsPrefix (has_read w.scribe)) (sym keeps.same) on.begins

    one-more : length looks.items ≡ suc (length w.looks.items)
    one-more = let len = length_push w.looks.items look in let same : length looks.items ≡ length (w.looks.items ++ look ∷ []) = ap (λ (l : LookList). length l.items) pushed in omega (arith, len, same)

    ended-before : ends (has_read w.scribe) ≡ length w.looks.items - 1
    ended-before = sym is.scribe.ended ∙ is.ended

    in-time : (place : ℕ) → place < t.read → moment_of (has_read t) place < length w.looks.items
    in-time place low = subst (λ (h : List Entry). moment_of h place < length w.looks.items) (sym keeps.same) (written.before place (subst (λ (n : ℕ). place < n) keeps.read low))

    this : IsLook (has_read t) (length w.looks.items) look
    this = look-new (has_read w.scribe) (has_read t) begins (length w.looks.items) look ended-before
        (λ place low. in-time place (omega (arith, low, read-length hall t keeps.on.is))) shows (omega (arith, least, learned-count))

    all : EachIsLook (has_read t) (w.looks.items ++ look ∷ [])
    all = looks-pushed (has_read t) w.looks.items look
        (looks-still (has_read w.scribe) (has_read t) begins w.looks.items (omega (arith, ended-before)) is.looks) this

    abbrev new : Watcher
    new = record { scribe = t; looks = looks }

    pub looked : HasLooked hall w new
    looked = record {
      is = record {
        scribe = keeps.on.is;
        pending = ap (λ (d : Desk). d.pending) keeps.writer ∙ written.pending;
        ended = keeps.ended ∙ written.ended ∙ omega (arith, one-more);
        before = λ place low. (let early = in-time place low in omega (arith, early, one-more));
        looks = subst (λ (l : LookList). EachIsLook (has_read t) l.items) (sym pushed) all;
      };
      one_more = one-more;
    }
