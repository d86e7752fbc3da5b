-- Two states that have the same pools with the same cores and domains, and the same free cores with the same targets; and the steps that leave them alike.
use Rattle.std.proofs.Common.{◌≡◌, ℕ, Bool, false, List, [], ◌∷◌, refl, subst, sym}
use Rattle.std.specs.Prelude.{Option, Some, None, is_some, option_map, ◌+◌, ◌/◌, ◌%◌, unwrap_or}
use mathlib.Core.Logic.{dite}
use native.Mathlib.Decide.{ℕ_discrete}
use Rattle.sched_base.specs.Numbers.{moment, span, domain as domain_number}
use Rattle.sched_base.specs.declared.PoolId.{PoolId}
use Rattle.sched_base.specs.declared.Span.{Span}
use Rattle.sched_base.specs.declared.UnitId.{UnitId}
use Rattle.sched_model.specs.declared.config.ParamChange.TheVariants as changes
use Rattle.sched_model.specs.declared.work.StallLine.{StallLine}
use Rattle.sched_model.specs.declared.state.FreeCore.{FreeCore}
use Rattle.sched_model.specs.declared.state.Pool.{Pool}
use Rattle.sched_model.specs.declared.state.State.{State}
use Rattle.sched_model.specs.declared.action.Action.{Action}
use Rattle.sched_model.specs.Places.{at_place, change_at, change_item}
use Rattle.sched_model.specs.Actions.{home_pool_of_action, home_pool_of_core, home_pool_of_domain, change_pool}
use Rattle.sched_model.specs.Pool.{settled_pool, after_in, change_processor}
use Rattle.sched_model.specs.Commands.{change_home, pool_with_rtds, pool_with_rtds_unit}
use Rattle.sched_model.specs.Policy.{unit_rtds_record}
use Rattle.sched_model.specs.Machine.{after_at_home, after_stall, state_with_stall, later_stall_end, settled_at}
use Rattle.sched_laws.proofs.EachPlace.{by_option}
use Rattle.composition_laws.proofs.Places.{seen_change_at, at_place-change_at, at_place-change_at_other}
use Rattle.composition_laws.proofs.Looks.{LooksLike, has_core_in, moving_in, looks_change_each, looks_parts, looks_set_params}
use Rattle.sched_laws.proofs.Events.{kept_by_parts, kept_processor}

-- what is seen of a place for a pool
abbrev pub core_of : Option Pool → ℕ → Bool
core_of o r = elim o [ None ↦ false | Some pool ↦ has_core_in pool r ]

abbrev pub mover_of : Option Pool → ℕ → Option (Option PoolId)
mover_of o d = elim o [ None ↦ None | Some pool ↦ moving_in pool d ]

-- the target of a free core
abbrev pub target_of : State → ℕ → Option (Option ℕ)
target_of s r = option_map (λ (c : FreeCore). c.target) (at_place s.free r)

pub record AlikeAt (o p : Option Pool) : Type 0 where
  pub there : is_some p ≡ is_some o
  pub cores : (r : ℕ) → core_of p r ≡ core_of o r
  pub domains : (d : ℕ) → mover_of p d ≡ mover_of o d

pub record Alike (s next : State) : Type 0 where
  pub pools : (i : ℕ) → AlikeAt (at_place s.pools i) (at_place next.pools i)
  pub free : (r : ℕ) → target_of next r ≡ target_of s r

pub at_itself : (o : Option Pool) → AlikeAt o o
at_itself o = record { there = refl; cores = λ r. refl; domains = λ d. refl }

pub alike_itself : (s : State) → Alike s s
alike_itself s = record { pools = λ i. at_itself (at_place s.pools i); free = λ r. refl }

-- the pool is as it was
abbrev pub Keeps : (Pool → Pool) → Pool → Type 0
Keeps f pool = LooksLike (has_core_in pool) (moving_in pool) (f pool)

pub looks_itself : (pool : Pool) → LooksLike (has_core_in pool) (moving_in pool) pool
looks_itself pool = record { cores = λ r. refl; domains = λ d. refl }

at_changed : (o : Option Pool) (f : Pool → Pool) → ((pool : Pool) → o ≡ Some pool → Keeps f pool) → AlikeAt o (option_map f o)
at_changed None f keeps = record { there = refl; cores = λ r. refl; domains = λ d. refl }
at_changed (Some pool) f keeps = let l = keeps pool refl in record { there = refl; cores = l.cores; domains = l.domains }

pub pools_alike : (i : ℕ) (f : Pool → Pool) (pools : List (Option Pool)) → ((pool : Pool) → at_place pools i ≡ Some pool → Keeps f pool) → (k : ℕ) → AlikeAt (at_place pools k) (at_place (change_at i f pools) k)
pools_alike i f pools keeps k = dite (ℕ_discrete k i)
    (λ e. subst (λ (j : ℕ). AlikeAt (at_place pools j) (at_place (change_at i f pools) j)) (sym e) (subst (AlikeAt (at_place pools i)) (sym (at_place-change_at i f pools)) (at_changed (at_place pools i) f keeps)))
    (λ ne. subst (AlikeAt (at_place pools k)) (sym (at_place-change_at_other i k f pools ne)) (at_itself (at_place pools k)))

pub alike_change : (i : ℕ) (f : Pool → Pool) (s : State) → ((pool : Pool) → at_place s.pools i ≡ Some pool → Keeps f pool) → Alike s (change_pool i f s)
alike_change i f s keeps = record { pools = pools_alike i f s.pools keeps; free = λ r. refl }

pub keeps_settled : (t : ℕ) (pool : Pool) → Keeps (settled_pool t) pool
keeps_settled t pool = looks_change_each (has_core_in pool) (moving_in pool) _ pool (looks_itself pool)

pub alike_settled_at : (t : ℕ) (home : Option ℕ) (s : State) → Alike s (settled_at t home s)
alike_settled_at t None s = alike_itself s
alike_settled_at t (Some i) s = alike_change i (settled_pool t) s (λ pool at. keeps_settled t pool)

keeps_event : (g t : ℕ) (action : Action) (pool : Pool) → Keeps (λ p. settled_pool t (after_in g t p action)) pool
keeps_event g t action pool = looks_change_each (has_core_in pool) (moving_in pool) _ (after_in g t pool action) (kept_by_parts (looks_parts (has_core_in pool) (moving_in pool) g t) pool action tt (looks_itself pool))

pub alike_at_home : (g t : ℕ) (action : Action) (s : State) → Alike s (after_at_home g s t action)
alike_at_home g t action s = by_option (Alike s) (home_pool_of_action g s action) _ _ (λ is. alike_itself s) (λ i is. alike_change i (λ p. settled_pool t (after_in g t p action)) s (λ pool at. keeps_event g t action pool))

pub alike_stalled : (g p end : ℕ) (s : State) → Alike s (state_with_stall g p end s)
alike_stalled g p end s =
    by_option (Alike s) (home_pool_of_core s (p / g)) _ _
    (λ is. record { pools = λ i. at_itself (at_place s.pools i); free = λ r. seen_change_at (p / g) r (λ (c : FreeCore). record c { stall_ends = change_item (p % g) (λ old. moment end) c.stall_ends }) (λ (c : FreeCore). c.target) (λ c. refl) s.free })
    (λ i is. alike_change i (change_processor g p (λ q. record q { stall_end = moment end })) s (λ pool at. kept_processor (looks_parts (has_core_in pool) (moving_in pool) g 0) p _ pool (looks_itself pool)))

pub alike_stall : (g t : ℕ) (line : StallLine) (s : State) → Alike s (after_stall g t line s)
alike_stall g t line s = let a = alike_stalled g line.cpu.0 (later_stall_end g s line.cpu.0 (t + line.span.0)) s in record { pools = a.pools; free = a.free }

pub alike_change_home : (d : ℕ) (f : Pool → Pool) (s : State) → ((pool : Pool) → Keeps f pool) → Alike s (change_home d f s)
alike_change_home d f s keeps = by_option (Alike s) (home_pool_of_domain s d) _ _ (λ is. alike_itself s) (λ i is. alike_change i f s (λ pool at. keeps pool))

module _ (C : ℕ → Bool) (D : ℕ → Option (Option PoolId)) where
  looks_rtds_unit : (t : ℕ) (period budget : Option Span) (extra : Option Bool) (u : UnitId) (pool : Pool) → LooksLike C D pool → LooksLike C D (pool_with_rtds_unit t period budget extra u pool)
  looks_rtds_unit t period budget extra u pool looks = by_option (LooksLike C D) (unit_rtds_record pool.scheduler.records u) _ _ (λ is. looks)
      (λ x is. looks_set_params C D (changes.«Unit» u (unwrap_or period (span x.next_period)) (unwrap_or budget (span x.next_budget)) (unwrap_or extra x.next_extra)) t pool looks)

  pub looks_rtds : (t d : ℕ) (period budget : Option Span) (extra : Option Bool) (units : List ℕ) (pool : Pool) → LooksLike C D pool → LooksLike C D (pool_with_rtds t d period budget extra units pool)
  looks_rtds t d period budget extra [] pool looks = looks
  looks_rtds t d period budget extra (n ∷ ns) pool looks =
      looks_rtds t d period budget extra ns _ (looks_rtds_unit t period budget extra (record { dom = domain_number d; n = n }) pool looks)
