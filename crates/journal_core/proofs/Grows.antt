-- What one more entry makes of the moment and of the number of decisions.
use Rattle.std.proofs.Common.{◌≡◌, ℕ, zero, suc, ◌+◌, ◌≤◌, Bool, true, false, cond, eqb, List, [], ◌∷◌, ◌++◌, refl, ap, ◌∙◌, arith, length, get_or, replicate}
use Rattle.std.specs.Prelude.{unwrap_or}
use Rattle.sched_model.specs.declared.event.Event.{Event}
use Rattle.sched_model.specs.declared.event.Event.TheVariants as event
use Rattle.sched_model.specs.declared.event.Entry.{Entry}
use Rattle.sched_model.specs.declared.machine.Machine.{Machine}
use Rattle.sched_model.specs.declared.action.Action.TheVariants.{Stall}
use Rattle.sched_model.specs.Runs.{Reached, run_start, event_action, after_event}
use Rattle.sched_model.proofs.RunLemmas.{after_entries-append}
use Rattle.sched_laws.proofs.Free.{now_after}
use Rattle.journal_core.specs.Histories.{reached_by, now_at, decides_at, decision_of, following_moment}

by_cond : {Y : Type 0} (Q : Y → Type 0) (test : Bool) (a b : Y) → Q a → Q b → Q (cond test a b)
by_cond Q true a b when else = when
by_cond Q false a b when else = else

now-after_event : (m : Machine) (e : Event) (from : Reached) → (after_event m e (event_action e) from).state.now ≡ following_moment e from.state.now
now-after_event m (event.End next) from = refl
now-after_event m event.Finish from = refl
now-after_event m e from = now_after m from.state from.state.now (unwrap_or (event_action e) Stall)

-- the moment after one entry more
pub now_at-append : (m : Machine) (h : List Entry) (entry : Entry) → now_at m (h ++ entry ∷ []) ≡ following_moment entry.event (now_at m h)
unfolding now_at
now_at-append m h entry = ap (λ (from : Reached). from.state.now) (after_entries-append m (run_start m) h entry) ∙ now-after_event m entry.event (reached_by m h)

-- the decisions of a core after one entry more
pub decides_at-append : (h : List Entry) (entry : Entry) (r : ℕ) → decides_at (h ++ entry ∷ []) r ≡ decision_of entry.event r + decides_at h r
unfolding decides_at
decides_at-append [] entry r = refl
decides_at-append (first ∷ h) entry r = let rest = decides_at-append h entry r in omega (arith, rest)

decision_of-few : (e : Event) (r : ℕ) → decision_of e r ≤ 1
decision_of-few (event.Decide core unit due late reset) r = by_cond (λ (n : ℕ). n ≤ 1) (eqb core.0 r) 1 0 (omega arith) (omega arith)
decision_of-few other r = omega arith

-- no core has more decisions than there are entries
pub decides_at-few : (h : List Entry) (r : ℕ) → decides_at h r ≤ length h
unfolding decides_at
decides_at-few [] r = omega arith
decides_at-few (entry ∷ h) r = let one = decision_of-few entry.event r in let rest = decides_at-few h r in omega (arith, one, rest)

abbrev is_zero : ℕ → Type 0
is_zero n = n ≡ zero

pub zeros : (n r : ℕ) → is_zero (get_or (replicate n zero) r zero)
zeros zero r = refl
zeros (suc n) zero = refl
zeros (suc n) (suc r) = zeros n r
