-- What is kept of each place, taken together.
use mathlib.Core.Logic.{dite}
use native.Mathlib.Decide.{ℕ_discrete}
use Rattle.std.proofs.Common.{◌≡◌, ◌≢◌, ◌<◌, ◌+◌, ◌-◌, ◌∙◌, ℕ, suc, List, length, take, refl, sym, ap, subst, arith}
use Rattle.std.proofs.Math.Decide.{dec_le}
use Rattle.std.proofs.Math.ListN.{get_or-eq_default}
use Rattle.std.proofs.lemmas.List.{with_items_is}
use Rattle.std.specs.Prelude.{Option, Some, None, Vec, max}
use Rattle.std.specs.Vec.{with_items}
use Rattle.sched_base.specs.declared.Moment.{Moment}
use Rattle.sched_model.specs.declared.action.Action.{Action}
use Rattle.sched_model.specs.Places.{at_place}
use Rattle.pool_core.specs.Seen.{Seen}
use Rattle.pool_laws.specs.FirstEvents.{IsFirstEnabled}
use Rattle.machine_parts.specs.Parts.{AreFirsts, IsFirstOfPlace, IsNextOfPlace}
use Rattle.engine.specs.EngineState.{AreKept, IsIdleFrom}
use Rattle.std.proofs.lemmas.List.{get_or-take, length-take-le}

first-some : (t : ℕ) (slot : Option Seen) (first : Option Action) (seen : Seen) → slot ≡ Some seen → IsFirstOfPlace t slot first → IsFirstEnabled seen.granularity t seen.pool first
first-some t slot first seen is of = subst (λ (o : Option Seen). IsFirstOfPlace t o first) is of

first-none : (t : ℕ) (slot : Option Seen) (first : Option Action) → slot ≡ None → IsFirstOfPlace t slot first → first ≡ None
first-none t slot first is of = subst (λ (o : Option Seen). IsFirstOfPlace t o first) is of

-- what is kept of all places is kept of each
first-at : (t : ℕ) (slots : List (Option Seen)) (firsts : List (Option Action)) → AreFirsts t slots firsts → (k : ℕ) → (o : Option Seen) → at_place slots k ≡ o → IsFirstOfPlace t o (at_place firsts k)
first-at t slots firsts are k None is = are.nothing k is
first-at t slots firsts are k (Some seen) is = are.pool k seen is

-- and what is kept of each is kept of all
pub firsts-all : (t : ℕ) (slots : List (Option Seen)) (firsts : List (Option Action)) → ((k : ℕ) → IsFirstOfPlace t (at_place slots k) (at_place firsts k)) → AreFirsts t slots firsts
firsts-all t slots firsts each = record { pool = λ k seen is. first-some t (at_place slots k) (at_place firsts k) seen is (each k); nothing = λ k is. first-none t (at_place slots k) (at_place firsts k) is (each k) }

-- one place changed, and what is kept of it was asked again
module _ (t i : ℕ) (old new : List (Option Seen)) (firsts now_firsts : List (Option Action)) (nexts now_nexts : List (Option Moment)) (kept : AreKept t old firsts nexts) where
  pub kept-one : length new ≡ length old → length now_firsts ≡ length firsts → length now_nexts ≡ length nexts
      → ((k : ℕ) → k ≢ i → at_place new k ≡ at_place old k) → ((k : ℕ) → k ≢ i → at_place now_firsts k ≡ at_place firsts k) → ((k : ℕ) → k ≢ i → at_place now_nexts k ≡ at_place nexts k)
      → IsFirstOfPlace t (at_place new i) (at_place now_firsts i) → (at_place now_firsts i ≡ None → IsNextOfPlace (at_place new i) (at_place now_nexts i)) → AreKept t new now_firsts now_nexts
  kept-one slots_count firsts_count nexts_count same same_first same_next first next = record {
    count_firsts = firsts_count ∙ kept.count_firsts ∙ sym slots_count;
    count_nexts = nexts_count ∙ kept.count_nexts ∙ sym slots_count;
    firsts_are = firsts-all t new now_firsts (λ k. dite (ℕ_discrete k i)
        (λ (is : k ≡ i). subst (λ (n : ℕ). IsFirstOfPlace t (at_place new n) (at_place now_firsts n)) (sym is) first)
        (λ other.
        subst (λ (o : Option Action). IsFirstOfPlace t (at_place new k) o) (sym (same_first k other))
        (first-at t old firsts kept.firsts_are k (at_place new k) (sym (same k other)))));
    nexts_are = λ k none. dite (ℕ_discrete k i)
        (λ (is : k ≡ i). subst (λ (n : ℕ). IsNextOfPlace (at_place new n) (at_place now_nexts n)) (sym is) (next (ap (at_place now_firsts) (sym is) ∙ none)))
        (λ other.
        subst (λ (o : Option Moment). IsNextOfPlace (at_place new k) o) (sym (same_next k other))
        (subst (λ (o : Option Seen). IsNextOfPlace o (at_place nexts k)) (sym (same k other)) (kept.nexts_are k (sym (same_first k other) ∙ none))));
  }

-- a vector whose elements are written anew, as many as there were
pub written : {X Z : Type 0} (v : Vec X Z) (ws : List X) → length ws ≡ length v.items → (with_items v ws).items ≡ ws
written v ws count = with_items_is v ws (count ∙ sym v.ok.0)

-- from the end on there is nothing
pub idle-all : (firsts : List (Option Action)) → IsIdleFrom (length firsts) firsts
idle-all firsts = record { few = omega arith; none = λ k high. get_or-eq_default firsts None (omega (arith, high)) }

-- nor from the place before on, where nothing stands there
pub idle-less : (busy : ℕ) (firsts : List (Option Action)) → 0 < busy → at_place firsts (busy - 1) ≡ None → IsIdleFrom busy firsts → IsIdleFrom (busy - 1) firsts
idle-less busy firsts some here idle = record {
  few = (let f = idle.few in omega (arith, f, some));
  none = λ k high. dite (ℕ_discrete k (busy - 1))
      (λ (is : k ≡ busy - 1). ap (at_place firsts) is ∙ here)
      (λ other. idle.none k (omega (arith, high, some, other)));
}

-- one place more may have an event
pub idle-more : (i busy : ℕ) (firsts now_firsts : List (Option Action)) → i < length firsts → length now_firsts ≡ length firsts → ((k : ℕ) → k ≢ i → at_place now_firsts k ≡ at_place firsts k)
    → IsIdleFrom busy firsts → IsIdleFrom (max busy (i + 1)) now_firsts
idle-more i busy firsts now_firsts low count same idle = record {
  few = (let f = idle.few in omega (arith, f, low, count));
  none = λ k high. same k (λ is. absurd (omega (arith, is, high))) ∙ idle.none k (omega (arith, high));
}

-- the places up to there have what all have
pub firsts-taken : (t busy : ℕ) (slots : List (Option Seen)) (firsts : List (Option Action)) → IsIdleFrom busy firsts → AreFirsts t slots firsts → AreFirsts t slots (take busy firsts)
firsts-taken t busy slots firsts idle are = firsts-all t slots (take busy firsts)
    (λ k. subst (λ (o : Option Action). IsFirstOfPlace t (at_place slots k) o) (taken k) (first-at t slots firsts are k (at_place slots k) refl))
  where
    taken : (k : ℕ) → at_place firsts k ≡ at_place (take busy firsts) k
    taken k = elim (dec_le (suc k) busy) [
      | yes low ↦ sym (get_or-take busy firsts k None low)
      | no high ↦ idle.none k (omega (arith, high)) ∙ sym (get_or-eq_default (take busy firsts) None (let l = length-take-le busy firsts idle.few in omega (arith, high, l)))
    ]
