-- The firsts and the nexts of the places are those of the machine's pools.
use Rattle.std.proofs.Common.{◌≡◌, ◌≤◌, ◌<◌, ℕ, suc, true, List, length, refl, sym, ap, ◌∙◌, subst, arith}
use Rattle.std.proofs.Math.Decide.{dec_le}
use Rattle.std.proofs.Math.ListN.{get_or-eq_default}
use Rattle.std.specs.Prelude.{Option, Some, None}
use Rattle.sched_base.specs.declared.Moment.{Moment}
use Rattle.sched_model.specs.declared.action.Action.{Action}
use Rattle.sched_model.specs.declared.action.Action.TheVariants.{Stall, Xl, Moved, DomMoved}
use Rattle.sched_model.specs.declared.state.Pool.{Pool}
use Rattle.sched_model.specs.declared.state.State.{State}
use Rattle.sched_model.specs.Actions.{IsOfPool, home_pool_of_action}
use Rattle.sched_model.specs.Pool.{enabled_in}
use Rattle.composition_laws.specs.OrderLaws.{ComesInPool}
use Rattle.composition_laws.proofs.Home.{pool_is_home}
use Rattle.sched_model.specs.Places.{at_place}
use Rattle.cpupool.specs.Tool.{Tool}
use Rattle.pool_laws.specs.FirstEvents.{IsFirst, IsFirstEnabled, IsNextMoment}
use Rattle.pool_core.specs.Seen.{Seen}
use Rattle.composition_laws.specs.WholeFirst.{ArePoolsFirsts}
use Rattle.composition_laws.specs.WholeNext.{ArePoolsNexts}
use Rattle.machine_parts.specs.Told.{Told}
use Rattle.machine_parts.specs.Places.{state_of}
use Rattle.machine_parts.specs.Parts.{AreFirsts, AreNexts, AreParts, IsNextOfPlace, event_pool}
use Rattle.machine_parts.proofs.AtPlaces.{nothing-there, pool-anywhere, seen-there}
use Rattle.machine_parts.proofs.Going.{state_of-is}
use Rattle.machine_parts.proofs.Standing.{pool_at}

module _ (w : Told) (slots : List (Option Seen)) (tool : Tool) (parts : AreParts w slots tool) where
  pub pools-firsts : (t : ℕ) (firsts : List (Option Action)) → AreFirsts t slots firsts → ArePoolsFirsts w.input.config.granularity t (state_of w).pools firsts
  pools-firsts t firsts are = record {
    pool = λ i pool at.
        let f = seen-there w slots tool parts i pool at in
        subst (λ (g : ℕ). IsFirstEnabled g t pool (at_place firsts i)) f.3 (subst (λ (p : Pool). IsFirstEnabled (f.0).granularity t p (at_place firsts i)) f.2 (are.pool i f.0 f.1));
    nothing = λ i none. are.nothing i (nothing-there w slots tool parts i none);
  }

  pub pools-nexts : (nexts : List (Option Moment)) → AreNexts slots nexts → ArePoolsNexts w.input.config.granularity (state_of w).pools nexts
  pools-nexts nexts are = record {
    pool = λ i pool at.
        let f = seen-there w slots tool parts i pool at in
        subst (λ (g : ℕ). IsNextMoment g pool (at_place nexts i)) f.3 (subst (λ (p : Pool). IsNextMoment (f.0).granularity p (at_place nexts i)) f.2 (are.pool i f.0 f.1));
    nothing = λ i none. are.nothing i (nothing-there w slots tool parts i none);
  }

-- the event that stands at a place is of the pool of that place
own-home : (g : ℕ) (s : State) (action : Action) (i : ℕ) → IsOfPool action → home_pool_of_action g s action ≡ Some i → event_pool g s action ≡ Some i
own-home g s Stall i own home = absurd own
own-home g s Xl i own home = absurd own
own-home g s (Moved r) i own home = absurd own
own-home g s (DomMoved d) i own home = absurd own
own-home g s action i own home = home

module _ (w : Told) (slots : List (Option Seen)) (tool : Tool) (parts : AreParts w slots tool) (t : ℕ) (firsts : List (Option Action)) (are : AreFirsts t slots firsts) (i : ℕ) (action : Action) (at : at_place firsts i ≡ Some action) where
  abbrev g : ℕ
  g = w.input.config.granularity

  comes-home : (pool : Pool) → at_place (state_of w).pools i ≡ Some pool → enabled_in g t pool action ≡ true → home_pool_of_action g (state_of w) action ≡ Some i
  comes-home pool there on =
      subst (λ (s : State). ComesInPool w.input s t i action → home_pool_of_action g s action ≡ Some i) (sym (state_of-is w))
      (λ comes. ((pool_is_home w.input parts.goes.checked w.history parts.goes.run i t action).0 comes).home) (record { pool = pool; at = there; enabled = on })

  pub home-of-first : event_pool g (state_of w) action ≡ Some i
  home-of-first = by_slot (at_place slots i) refl
    where
      by_slot : (o : Option Seen) → at_place slots i ≡ o → event_pool g (state_of w) action ≡ Some i
      by_slot None is = absurd (let none = are.nothing i is in let bad : (let x : Option Action = Some action in x) ≡ None = sym at ∙ none in cc)
      by_slot (Some seen) is =
          let found : IsFirst seen.granularity t seen.pool action = subst (λ (o : Option Action). IsFirstEnabled seen.granularity t seen.pool o) at (are.pool i seen is) in
          let there : at_place (state_of w).pools i ≡ Some seen.pool = pool-anywhere w slots tool parts i ∙ ap pool_at is in
          let same = seen-there w slots tool parts i seen.pool there in
          let one : (same.0) ≡ seen = (let both : Some (same.0) ≡ Some seen = sym same.1 ∙ is in cc) in
          let granularity : seen.granularity ≡ g = ap (λ (x : Seen). x.granularity) (sym one) ∙ same.3 in
          own-home g (state_of w) action i found.of_pool (comes-home seen.pool there (subst (λ (n : ℕ). enabled_in n t seen.pool action ≡ true) granularity found.enabled))

-- past the last place there is nothing
past-slots : (slots : List (Option Seen)) (k : ℕ) → length slots ≤ k → None ≡ at_place slots k
past-slots slots k high = sym (get_or-eq_default slots None (omega (arith, high)))

pub nexts-below : (slots : List (Option Seen)) (nexts : List (Option Moment)) (If : ℕ → Type 0) → length nexts ≡ length slots → ((k : ℕ) → k < length slots → If k → IsNextOfPlace (at_place slots k) (at_place nexts k))
    → (k : ℕ) → If k → IsNextOfPlace (at_place slots k) (at_place nexts k)
nexts-below slots nexts If count each k holds = elim (dec_le (suc k) (length slots)) [
  | yes low ↦ each k low holds
  | no high ↦ past (omega (arith, high))
]
  where
    past : length slots ≤ k → IsNextOfPlace (at_place slots k) (at_place nexts k)
    past high = subst (λ (o : Option Seen). IsNextOfPlace o (at_place nexts k)) (past-slots slots k high) (get_or-eq_default nexts None (omega (arith, high, count)))
