-- A new book is kept, and so is a book with one entry more.
use Rattle.std.proofs.Common.{◌≡◌, ℕ, ◌+◌, ◌≤◌, ◌<◌, List, [], ◌∷◌, ◌++◌, refl, sym, ap, ◌∙◌, arith, length, length-append, slice_index}
use Rattle.sched_model.specs.declared.config.Config.{Config}
use Rattle.sched_model.specs.declared.work.Work.{Work}
use Rattle.sched_model.specs.declared.event.Entry.{Entry}
use Rattle.sched_model.specs.declared.machine.Machine.{Machine}
use Rattle.sched_model.specs.Runs.{IsNext, run_start}
use Rattle.sched_model.proofs.RunLemmas.{IsRunFrom-append}
use Rattle.journal_core.specs.Histories.{reached_by, now_at, decides_at, decision_of, following_moment}
use Rattle.journal_core.specs.Books.{Chronicle, chronicle, IsKept}
use Rattle.journal_core.proofs.Grows.{now_at-append, decides_at-append, decides_at-few}

pub now_at-none : (m : Machine) → 0 ≡ now_at m []
unfolding now_at
now_at-none m = refl

pub decides_at-none : (r : ℕ) → 0 ≡ decides_at [] r
unfolding decides_at
decides_at-none r = refl

pub kept_new : (config : Config) (work : Work) (limit capacity : ℕ) (decides : List ℕ) → limit ≤ 4000000 → limit ≤ capacity → length decides ≡ 64 → ((r : ℕ) → r < 64 → slice_index decides r ≡ 0)
    → IsKept (chronicle config work [] limit) capacity 0 decides
kept_new config work limit capacity decides few room cores none = record {
  run = tt;
  fits = omega arith;
  room = room;
  few = few;
  now_is = now_at-none (record { config = config; work = work });
  cores = cores;
  decides_are = λ r low. none r low ∙ decides_at-none r;
}

pub kept_more : (config : Config) (work : Work) (h : List Entry) (limit capacity now : ℕ) (decides decides' : List ℕ) (e : Entry) → IsKept (chronicle config work h limit) capacity now decides
    → IsNext (record { config = config; work = work }) (reached_by (record { config = config; work = work }) h) e → length h < limit → length decides' ≡ 64
    → ((r : ℕ) → r < 64 → slice_index decides' r ≡ decision_of e.event r + slice_index decides r)
    → IsKept (chronicle config work (h ++ e ∷ []) limit) capacity (following_moment e.event now) decides'
kept_more config work h limit capacity now decides decides' e kept next room cores counted = record {
  run = IsRunFrom-append m (run_start m) h e kept.run next;
  fits = let len = length-append h (e ∷ []) in omega (arith, len, room);
  room = kept.room;
  few = kept.few;
  now_is = ap (following_moment e.event) kept.now_is ∙ sym (now_at-append m h e);
  cores = cores;
  decides_are = λ r low. counted r low ∙ (ap (λ (n : ℕ). decision_of e.event r + n) (kept.decides_are r low) ∙ sym (decides_at-append h e r));
}
  where
    m : Machine
    m = record { config = config; work = work }

-- no count is near its type's end
pub kept_few : (c : Chronicle) (capacity now : ℕ) (decides : List ℕ) (r : ℕ) → IsKept c capacity now decides → length c.history < c.limit → r < 64 → slice_index decides r < 4000000
kept_few c capacity now decides r kept room low = let is = kept.decides_are r low in let few = decides_at-few c.history r in let limit = kept.few in omega (arith, is, few, limit, room)
