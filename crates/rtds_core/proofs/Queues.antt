-- What the calls of the queues make of the order of arrival.
use Rattle.std.proofs.Common.{◌≡◌, ◌≢◌, ◌<◌, ℕ, Bool, true, false, List, [], ◌∷◌, ◌++◌, map, refl, sym, ◌∙◌, ap, subst, append_assoc, length-append}
use Rattle.std.specs.List.{AllByRecursion}
use Rattle.sched_base.specs.declared.UnitId.{UnitId}
use Rattle.sched_model.specs.Places.{without_unit, has_listed_unit}
use Rattle.arrival_queue.specs.Queues.{Queued, queued_unit, list_without, rank_in, closed_up, has_unit}
use Rattle.arrival_queue.specs.Order.{IsInOrder, EachRankOnce, EachUnitOnce}
use Rattle.rtds_queue.specs.declared.RtdsKey.{RtdsKey}
use Rattle.rtds_queue.specs.Lists.{Lists, key_of, holds, count, rank_of, lists_after_arrival, after_remove, after_renew}
use Rattle.queue_laws.specs.Arrivals.{arrival_order, arrivals, LacksRank, HasRanks, RanksBelow, HasIndices}
use Rattle.queue_laws.proofs.Arrivals.{ins, arrived_split, arrivals_placed, arrivals_appended}
use Rattle.queue_laws.proofs.Removed.{arrivals_removed, arrivals_moved, has_arrived, lacks_own}
use Rattle.queue_laws.proofs.Once.{once_ranks, once_below, once_units}
use Rattle.rtds_core.specs.Best.{queue_of}
use Rattle.arrival_queue.proofs.Counting.{without-append, has_unit-append}
use Rattle.arrival_queue.proofs.Changes.{rank_in-append}
use Rattle.std.proofs.lemmas.List.{append-nil}

-- what the queues tell of themselves
pub record IsOrdered (q : Lists) : Type 0 where
  pub order : IsInOrder q.eligible
  pub ranks : EachRankOnce (q.eligible ++ q.spent)
  pub units : EachUnitOnce (q.eligible ++ q.spent)

right_part : (P : Queued → Type 0) (l r : List Queued) → AllByRecursion P (l ++ r) → AllByRecursion P r
right_part P [] r each = each
right_part P (x ∷ l) r each = right_part P l r each.1

-- the order of arrival is the same whichever list comes first
pub arrivals_swap : (es others : List Queued) → HasRanks (es ++ others) → arrival_order (others ++ es) ≡ arrival_order (es ++ others)
arrivals_swap [] others ranks = ap arrival_order (append-nil others)
arrivals_swap (e ∷ es) others ranks =
    arrived_split others es e (right_part (λ (x : Queued). x.rank ≢ e.rank) es others ranks.0) ∙ ap (ins e) (arrivals_swap es others ranks.1)

map-append : (f : Queued → Queued) (l r : List Queued) → map f (l ++ r) ≡ map f l ++ map f r
map-append f [] r = refl
map-append f (x ∷ l) r = ap (λ (ys : List Queued). f x ∷ ys) (map-append f l r)

-- whether a unit waits
pub waits : (q : Lists) (u : UnitId) → u.n < 256 → HasIndices (q.eligible ++ q.spent) → has_listed_unit (queue_of q) u ≡ holds q u
waits q u low lows = has_arrived u (q.eligible ++ q.spent) low lows ∙ has_unit-append u q.eligible q.spent

below_count : (q : Lists) → IsOrdered q → RanksBelow (count q) (q.eligible ++ q.spent)
below_count q is = subst (λ (n : ℕ). RanksBelow n (q.eligible ++ q.spent)) (length-append q.eligible q.spent) (once_below (q.eligible ++ q.spent) is.ranks)

-- a unit that is put arrives last
pub queue_put : (q : Lists) (u : UnitId) (key : RtdsKey) (spent : Bool) → IsOrdered q → queue_of (lists_after_arrival q u key spent) ≡ queue_of q ++ u ∷ []
queue_put q u key true is =
    ap arrivals (sym (append_assoc q.eligible q.spent (queued_unit u (key_of key) (count q) ∷ [])))
    ∙ arrivals_appended u (key_of key) (count q) (q.eligible ++ q.spent) (below_count q is)
queue_put q u key false is = arrivals_placed u (key_of key) (count q) q.eligible q.spent (below_count q is)

-- one that is removed is gone
pub queue_removed : (q : Lists) (u : UnitId) → IsOrdered q → u.n < 256 → HasIndices (q.eligible ++ q.spent) → holds q u ≡ true → queue_of (after_remove q u) ≡ without_unit u (queue_of q)
queue_removed q u is low lows here =
    let all : List Queued = q.eligible ++ q.spent in
    let ranks : HasRanks all = once_ranks all is.ranks in
    let there : has_unit u all ≡ true = has_unit-append u q.eligible q.spent ∙ here in
    let rank : rank_in u all ≡ rank_of q u = rank_in-append u q.eligible q.spent in
    let lacks : LacksRank (rank_of q u) (list_without u all) = subst (λ (r : ℕ). LacksRank r (list_without u all)) rank (lacks_own u all ranks (once_units all is.units) there) in
    ap arrivals (sym (map-append (closed_up (rank_of q u)) (list_without u q.eligible) (list_without u q.spent)))
    ∙ ap (λ (xs : List Queued). arrivals (map (closed_up (rank_of q u)) xs)) (sym (without-append u q.eligible q.spent))
    ∙ arrivals_removed u (rank_of q u) all ranks low lows lacks

-- one that is renewed keeps its arrival
pub queue_renewed : (q : Lists) (u : UnitId) (key : RtdsKey) → IsOrdered q → u.n < 256 → HasIndices (q.eligible ++ q.spent) → holds q u ≡ true → queue_of (after_renew q u key) ≡ queue_of q
queue_renewed q u key is low lows here =
    let all : List Queued = q.eligible ++ q.spent in
    arrivals_moved u (key_of key) q.eligible q.spent (once_ranks all is.ranks) (once_units all is.units) low lows
    (has_unit-append u q.eligible q.spent ∙ here) (rank_of q u) (sym (rank_in-append u q.eligible q.spent))
