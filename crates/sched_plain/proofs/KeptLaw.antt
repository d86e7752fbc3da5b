-- What is kept of the floors stays true over an event, a look, and what is judged anew.
use Rattle.std.proofs.Common.{◌≡◌, ◌≤◌, ◌<◌, ◌/◌, ◌⊎◌, ◌∙◌, ℕ, true, List, length, sym, ap, subst, arith, inl, inr}
use Rattle.std.specs.Prelude.{Option, Some, replicate, slice_set}
use Rattle.std.proofs.Math.Decide.{ℕ_discrete}
use Rattle.sched_model.specs.declared.action.Action.{Action}
use Rattle.sched_model.specs.declared.action.Action.TheVariants.{Stall, Xl, Moved, DomMoved, Wake, Block, Slice, Repl, Refill, Arrive, Decide, Leave, Save}
use Rattle.sched_model.specs.declared.state.Pool.{Pool}
use Rattle.sched_model.specs.declared.state.Resource.{Resource}
use Rattle.sched_model.specs.Actions.{IsOfPool}
use Rattle.sched_model.specs.Places.{at_place}
use Rattle.sched_model.specs.Pool.{after_in, enabled_in, pool_core_set, reconsidered_core, settled_pool}
use Rattle.sched_laws.specs.PoolFacts.{IsKnownPool}
use Rattle.sched_laws.proofs.EachPlace.{at_place-put_at, at_place-put_at_other, length_change_each, place_below}
use Rattle.sched_laws.proofs.Lists.{some_same}
use Rattle.pool_laws.specs.Order.{kind_place}
use Rattle.sched_plain.specs.declared.floors.Floors.{Floors}
use Rattle.sched_plain.specs.Fits.{PoolFitsAt}
use Rattle.sched_plain.specs.KeptFloors.{AreKept, IsCoreFloorAmong, IsDomainFloorAmong, IsTouched, floor_at, floor_of, pended, touched, touched_core, touched_domain}
use Rattle.sched_plain.proofs.FloorLists.{forgotten_lower, none_known, pended_at, pended_lower, set_here, set_other}
use Rattle.sched_plain.proofs.TouchedEvents.{event_lets}
use Rattle.sched_plain.proofs.TouchedSteps.{look_step}

-- less is known after an event
module _ (g : ℕ) (pool : Pool) (action : Action) (floors : Floors) where
  cores_lower : (j : ℕ) → floor_at (touched g pool action floors).cores j ≤ floor_at floors.cores j
  cores_lower j = forgotten_lower (touched_core g pool action) floors.cores j

  owned_lower : (j : ℕ) → floor_at (touched g pool action floors).domains j ≤ floor_at floors.domains j
  owned_lower j = forgotten_lower (touched_domain g pool action) floors.domains j

  pub touched_lower : (other : Action) → floor_of g (touched g pool action floors) other ≤ floor_of g floors other
  touched_lower Stall = omega arith
  touched_lower Xl = omega arith
  touched_lower (Moved r) = cores_lower r.0
  touched_lower (DomMoved d) = owned_lower d.0
  touched_lower (Wake v) = owned_lower v.dom.0
  touched_lower (Block p) = cores_lower (p.0 / g)
  touched_lower (Slice r) = cores_lower r.0
  touched_lower (Repl u) = owned_lower u.dom.0
  touched_lower (Refill d) = owned_lower d.0
  touched_lower (Arrive p) = cores_lower (p.0 / g)
  touched_lower (Decide r) = cores_lower r.0
  touched_lower (Leave p) = cores_lower (p.0 / g)
  touched_lower (Save r) = cores_lower r.0

-- and after a look
module _ (g most : ℕ) (cores : List (Option Resource)) (floors : Floors) where
  pub look_lower : (other : Action) → floor_of g (record floors { cores = pended most 0 cores floors.cores }) other ≤ floor_of g floors other
  look_lower Stall = omega arith
  look_lower Xl = omega arith
  look_lower (Moved r) = pended_lower most 0 cores floors.cores r.0
  look_lower (DomMoved d) = omega arith
  look_lower (Wake v) = omega arith
  look_lower (Block p) = pended_lower most 0 cores floors.cores (p.0 / g)
  look_lower (Slice r) = pended_lower most 0 cores floors.cores r.0
  look_lower (Repl u) = omega arith
  look_lower (Refill d) = omega arith
  look_lower (Arrive p) = pended_lower most 0 cores floors.cores (p.0 / g)
  look_lower (Decide r) = pended_lower most 0 cores floors.cores r.0
  look_lower (Leave p) = pended_lower most 0 cores floors.cores (p.0 / g)
  look_lower (Save r) = pended_lower most 0 cores floors.cores r.0

module _ (g t : ℕ) (pool : Pool) (action : Action) (some : 0 < g) (known : IsKnownPool g pool) (own : IsOfPool action) (enabled : enabled_in g t pool action ≡ true) where
  abbrev next : Pool
  next = after_in g t pool action

  by_event : (floors after : Floors) → ((other : Action) → floor_of g after other ≤ floor_of g (touched g pool action floors) other)
      → (other : Action) → enabled_in g t next other ≡ true → (floor_of g after other ≤ kind_place other) ⊎ (enabled_in g t pool other ≡ true)
  by_event floors after less other on = elim (event_lets g t t floors pool action some known own enabled other on) [
    | inl hit ↦ inl (let a = less other in omega (arith, hit, a))
    | inr was ↦ inr was
  ]

  -- over an event after which the cores are not looked at
  pub event_touched : (floors : Floors) → IsTouched g t pool next floors (touched g pool action floors)
  event_touched floors = record { lower = touched_lower g pool action floors; each = by_event floors (touched g pool action floors) (λ other. omega arith) }

  -- and where they are
  pub look_touched : (floors : Floors) → IsTouched g t pool (settled_pool t next) floors (record (touched g pool action floors) { cores = pended 9 0 (settled_pool t next).resources (touched g pool action floors).cores })
  look_touched floors =
      let cores : List (Option Resource) = (settled_pool t next).resources in
      let middle : Floors = touched g pool action floors in
      let after : Floors = record middle { cores = pended 9 0 cores middle.cores } in
      record {
        lower = λ other. (let a = look_lower g 9 cores middle other in let b = touched_lower g pool action floors other in omega (arith, a, b));
        each = λ other on. elim (look_step g t (λ b. floor_of g after b ≤ kind_place b) t next (λ p c at pends. pended_at 9 (p / g) cores middle.cores c at pends) other on) [
          | inl hit ↦ inl hit
          | inr was ↦ by_event floors after (look_lower g 9 cores middle) other was
        ];
      }

-- how many cores are looked at
pub looked_cores : (t : ℕ) (pool middle left : Pool) (cores : List (Option Resource)) → middle ≡ pool → left ≡ settled_pool t middle → cores ≡ left.resources → PoolFitsAt t pool → length cores ≤ 64
looked_cores t pool middle left cores first then seen fits =
    let is : cores ≡ (settled_pool t pool).resources = seen ∙ ap (λ (x : Pool). x.resources) (then ∙ ap (settled_pool t) first) in
    let same = length_change_each 0 (reconsidered_core t (pool_core_set pool) pool.scheduler) pool.resources in
    let count : length cores ≡ length (settled_pool t pool).resources = ap length is in
    let few = fits.fits.cores in
    omega (arith, count, same, few)

-- the other pools are as before
pub kept_over : (g t i : ℕ) (pools : List (Option Pool)) (pool left : Pool) (before after : Floors) → at_place pools i ≡ Some pool → AreKept g t pools before → IsTouched g t pool left before after → AreKept g t (slice_set pools i (Some left)) after
kept_over g t i pools pool left before after there kept touches = record {
  each = λ j p action at on. elim (ℕ_discrete j i) [
    | yes same ↦ (
        let here : at_place (slice_set pools i (Some left)) i ≡ Some p = subst (λ (k : ℕ). at_place (slice_set pools i (Some left)) k ≡ Some p) same at in
        let is : left ≡ p = some_same (sym (at_place-put_at i left pools (place_below pools i pool there)) ∙ here) in
        elim (touches.each action (subst (λ (x : Pool). enabled_in g t x action ≡ true) (sym is) on)) [
          | inl low ↦ low
          | inr was ↦ (let a = touches.lower action in let b = kept.each i pool action there was in omega (arith, a, b))
        ])
    | no other ↦ (let a = touches.lower action in let b = kept.each j p action (sym (at_place-put_at_other i j left pools other) ∙ at) on in omega (arith, a, b))
  ];
}

-- where nothing is known
pub nothing_of : (g : ℕ) (floors : Floors) → floors.cores ≡ replicate 64 0 → floors.domains ≡ replicate 64 0 → (action : Action) → floor_of g floors action ≤ 0
nothing_of g floors cores domains = by
  where
    core : (j : ℕ) → floor_at floors.cores j ≤ 0
    core j = (let a : floor_at floors.cores j ≡ 0 = ap (λ (xs : List ℕ). floor_at xs j) cores ∙ none_known 64 j in omega (arith, a))

    owned : (j : ℕ) → floor_at floors.domains j ≤ 0
    owned j = (let a : floor_at floors.domains j ≡ 0 = ap (λ (xs : List ℕ). floor_at xs j) domains ∙ none_known 64 j in omega (arith, a))

    by : (action : Action) → floor_of g floors action ≤ 0
    by Stall = omega arith
    by Xl = omega arith
    by (Moved r) = core r.0
    by (DomMoved d) = owned d.0
    by (Wake v) = owned v.dom.0
    by (Block p) = core (p.0 / g)
    by (Slice r) = core r.0
    by (Repl u) = owned u.dom.0
    by (Refill d) = owned d.0
    by (Arrive p) = core (p.0 / g)
    by (Decide r) = core r.0
    by (Leave p) = core (p.0 / g)
    by (Save r) = core r.0

pub nothing_kept : (g t : ℕ) (pools : List (Option Pool)) (floors : Floors) → floors.cores ≡ replicate 64 0 → floors.domains ≡ replicate 64 0 → AreKept g t pools floors
nothing_kept g t pools floors cores domains = record { each = λ i pool action at on. (let a = nothing_of g floors cores domains action in omega (arith, a)) }

-- where a core or a domain is judged anew
pub anew : (xs : List ℕ) (n found j k : ℕ) → (j ≡ n → found ≤ k) → floor_at xs j ≤ k → floor_at (slice_set xs n found) j ≤ k
anew xs n found j k here was = elim (ℕ_discrete j n) [
  | yes is ↦ (let a : floor_at (slice_set xs n found) j ≤ found = subst (λ (i : ℕ). floor_at (slice_set xs n found) i ≤ found) (sym is) (set_here xs n found) in let b = here is in omega (arith, a, b))
  | no other ↦ (let a = set_other xs n j found other in omega (arith, a, was))
]

pub core_anew : (g t r found : ℕ) (pools : List (Option Pool)) (floors : Floors) → IsCoreFloorAmong g t pools r found → AreKept g t pools floors → AreKept g t pools (record floors { cores = slice_set floors.cores r found })
core_anew g t r found pools floors among kept = record { each = by }
  where
    by : (i : ℕ) (pool : Pool) (action : Action) → at_place pools i ≡ Some pool → enabled_in g t pool action ≡ true → floor_of g (record floors { cores = slice_set floors.cores r found }) action ≤ kind_place action
    by i pool (Moved q) at on = anew floors.cores r found q.0 2 (λ is. among i pool at (Moved q) is on) (kept.each i pool (Moved q) at on)
    by i pool (Block p) at on = anew floors.cores r found (p.0 / g) 5 (λ is. among i pool at (Block p) is on) (kept.each i pool (Block p) at on)
    by i pool (Slice q) at on = anew floors.cores r found q.0 6 (λ is. among i pool at (Slice q) is on) (kept.each i pool (Slice q) at on)
    by i pool (Arrive p) at on = anew floors.cores r found (p.0 / g) 9 (λ is. among i pool at (Arrive p) is on) (kept.each i pool (Arrive p) at on)
    by i pool (Decide q) at on = anew floors.cores r found q.0 10 (λ is. among i pool at (Decide q) is on) (kept.each i pool (Decide q) at on)
    by i pool (Leave p) at on = anew floors.cores r found (p.0 / g) 11 (λ is. among i pool at (Leave p) is on) (kept.each i pool (Leave p) at on)
    by i pool (Save q) at on = anew floors.cores r found q.0 12 (λ is. among i pool at (Save q) is on) (kept.each i pool (Save q) at on)
    by i pool action at on = kept.each i pool action at on

pub domain_anew : (g t d found : ℕ) (pools : List (Option Pool)) (floors : Floors) → IsDomainFloorAmong g t pools d found → AreKept g t pools floors → AreKept g t pools (record floors { domains = slice_set floors.domains d found })
domain_anew g t d found pools floors among kept = record { each = by }
  where
    by : (i : ℕ) (pool : Pool) (action : Action) → at_place pools i ≡ Some pool → enabled_in g t pool action ≡ true → floor_of g (record floors { domains = slice_set floors.domains d found }) action ≤ kind_place action
    by i pool (DomMoved e) at on = anew floors.domains d found e.0 3 (λ is. among i pool at (DomMoved e) is on) (kept.each i pool (DomMoved e) at on)
    by i pool (Wake v) at on = anew floors.domains d found v.dom.0 4 (λ is. among i pool at (Wake v) is on) (kept.each i pool (Wake v) at on)
    by i pool (Repl u) at on = anew floors.domains d found u.dom.0 7 (λ is. among i pool at (Repl u) is on) (kept.each i pool (Repl u) at on)
    by i pool (Refill e) at on = anew floors.domains d found e.0 8 (λ is. among i pool at (Refill e) is on) (kept.each i pool (Refill e) at on)
    by i pool action at on = kept.each i pool action at on
