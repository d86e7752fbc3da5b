-- Which events a small change of a pool may let come: of one core, of one vCPU, of the queue, of the records, and of the marks of a look.
use Rattle.std.proofs.Common.{◌≡◌, ◌≢◌, ◌⊎◌, ◌+◌, ◌/◌, ◌%◌, ◌++◌, ℕ, zero, suc, Bool, true, false, not, List, [], ◌∷◌, refl, sym, ap, subst, ◌∙◌, arith, inl, inr}
use Rattle.std.specs.Prelude.{Option, Some, None, ◌&&◌, ◌||◌, is_some, is_none, option_map, slice_get}
use Rattle.std.specs.List.{list_any, list_all}
use Rattle.std.proofs.Math.Decide.{ℕ_discrete}
use Rattle.std.proofs.lemmas.Bool.{not-true}
use Rattle.sched_base.specs.Numbers.{has_moment_come, processor}
use Rattle.sched_base.specs.declared.DomId.{DomId}
use Rattle.sched_base.specs.declared.UnitId.{UnitId}
use Rattle.sched_base.specs.declared.VcpuId.{VcpuId}
use Rattle.sched_base.proofs.Bools.{and_left, and_right, clash}
use Rattle.sched_model.specs.declared.action.Action.{Action}
use Rattle.sched_model.specs.declared.action.Action.TheVariants.{Stall, Xl, Moved, DomMoved, Wake, Block, Slice, Repl, Refill, Arrive, Decide, Leave, Save}
use Rattle.sched_model.specs.declared.state.Doing.{Doing}
use Rattle.sched_model.specs.declared.state.Doing.TheVariants.{Guest, Idle, Held}
use Rattle.sched_model.specs.declared.state.Domain.{Domain}
use Rattle.sched_model.specs.declared.state.Pool.{Pool}
use Rattle.sched_model.specs.declared.state.Processor.{Processor}
use Rattle.sched_model.specs.declared.state.Records.{Records}
use Rattle.sched_model.specs.declared.state.Resource.{Resource}
use Rattle.sched_model.specs.declared.state.Scheduler.{Scheduler}
use Rattle.sched_model.specs.declared.state.Vcpu.{Vcpu}
use Rattle.sched_model.specs.Places.{at_place, change_at, change_each, change_item, first_place, has_listed_unit, is_unit, numbered_items, put_at, same_unit, test_at}
use Rattle.sched_model.specs.State.{is_not_stalled}
use Rattle.sched_model.specs.Policy.{is_replenish_due, next_refill_moment}
use Rattle.sched_model.specs.Pool.{enabled_in, change_among, change_core, change_processor, change_vcpu, done_moment, is_domain_unit, is_first_processor_up, is_gathering, is_held_back, is_lowest_processor_up, pool_core_set, queue_unit, reconsidered_core, running_guest, settled_pool, unit_core, vcpu_among, with_doing, with_records}
use Rattle.sched_laws.proofs.EachPlace.{at_place-change_at, at_place-change_each, at_place-put_at_other, by_cond}
use Rattle.sched_model.proofs.PlaceLemmas.{at_place-change_at_other}
use Rattle.sched_laws.proofs.Choices.{same_unit_same}
use Rattle.sched_laws.proofs.Events.{LikePlaces, like_change_at, like_change_each, like_map}
use Rattle.sched_laws.proofs.Lists.{slice_get-change_item_other, test_at-change_at}
use Rattle.sched_plain.specs.PoolFloors.{IsOfCore}
use Rattle.sched_plain.proofs.AlikeCores.{UpAsBefore, first_same, lowest_same, none_less}

-- both hold
pub both : (a b : Bool) → a ≡ true → b ≡ true → (a && b) ≡ true
both true b is also = also
both false b is also = absurd (cc)

-- three tests, each of which holds where another does
three : (a b c x y z : Bool) → (x ≡ true → a ≡ true) → (y ≡ true → b ≡ true) → (z ≡ true → c ≡ true) → ((x && y) && z) ≡ true → ((a && b) && c) ≡ true
three a b c x y z first second third on =
    both (a && b) c (both a b (first (and_left x y (and_left (x && y) z on))) (second (and_right x y (and_left (x && y) z on)))) (third (and_right (x && y) z on))

either_of : (a b x : Bool) → (x ≡ true → b ≡ true) → (a || x) ≡ true → (a || b) ≡ true
either_of true b x to on = refl
either_of false b x to on = to on

module _ (g t : ℕ) where
  abbrev pub Comes : Pool → Action → Type 0
  Comes pool action = enabled_in g t pool action ≡ true

  -- every event that may come in the next pool is a hit, or may come in the old one
  abbrev pub Lets : (Action → Type 0) → Pool → Pool → Type 0
  Lets Hit old next = (action : Action) → Comes next action → Hit action ⊎ Comes old action

  pub lets_both : (Hit : Action → Type 0) (old middle next : Pool) → Lets Hit old middle → Lets Hit middle next → Lets Hit old next
  lets_both Hit old middle next first second action on = elim (second action on) [ inl hit ↦ inl hit | inr was ↦ first action was ]

  pub lets_same : (Hit : Action → Type 0) (pool : Pool) → Lets Hit pool pool
  lets_same Hit pool action on = inr on

  -- what an event of a core sees of that
  abbrev processor_in : ℕ → Option Resource → Option Processor
  processor_in p o = elim o as (λ _. Option Processor) [ None ↦ None | Some c ↦ slice_get c.processors (p % g) ]

  abbrev guest_in : ℕ → Option Resource → Option VcpuId
  guest_in p o = elim (processor_in p o) as (λ _. Option VcpuId) [ None ↦ None | Some q ↦ elim q.doing as (λ _. Option VcpuId) [ Guest v ↦ Some v | Idle ↦ None | Held ↦ None ] ]

  abbrev core_sees : List (Option Domain) → Action → Option Resource → Bool
  core_sees domains (Moved r) o = elim o as (λ _. Bool) [ None ↦ false | Some c ↦ c.leaving && is_none c.cur && is_none c.saving && not c.pending && is_gathering c && is_first_processor_up t c ]
  core_sees domains (Block p) o =
      elim (guest_in p.0 o) as (λ _. Bool) [ None ↦ false | Some v ↦ elim (vcpu_among domains v) as (λ _. Bool) [ None ↦ false | Some x ↦ has_moment_come t (done_moment x) ] ]
      && elim (processor_in p.0 o) as (λ _. Bool) [ None ↦ false | Some q ↦ is_not_stalled t q ]
  core_sees domains (Slice r) o = elim o as (λ _. Bool) [ None ↦ false | Some c ↦ has_moment_come t c.due && not c.pending && is_first_processor_up t c ]
  core_sees domains (Arrive p) o =
      elim o as (λ _. Bool) [ None ↦ false | Some c ↦ c.pending && is_gathering c && is_none c.saving ]
      && elim (processor_in p.0 o) as (λ _. Bool) [ None ↦ false | Some q ↦ not (is_held_back q) && is_not_stalled t q ]
  core_sees domains (Decide r) o = elim o as (λ _. Bool) [ None ↦ false | Some c ↦ list_all is_held_back c.processors && is_gathering c && is_first_processor_up t c ]
  core_sees domains (Leave p) o =
      elim o as (λ _. Bool) [ None ↦ false | Some c ↦ not (is_gathering c) ]
      && elim (processor_in p.0 o) as (λ _. Bool) [ None ↦ false | Some q ↦ is_held_back q && is_not_stalled t q ]
  core_sees domains (Save r) o = elim o as (λ _. Bool) [ None ↦ false | Some c ↦ is_some c.saving && not (list_any is_held_back c.processors) && is_first_processor_up t c ]
  core_sees domains _ o = false

  -- other cores, which are as before but for one; the units of all of them but what the hits say
  pub core_step : (Hit : Action → Type 0) (r : ℕ) (cores : List (Option Resource)) (pool : Pool) → ((action : Action) → IsOfCore g r action → Hit action)
      → ((j : ℕ) → j ≢ r → at_place cores j ≡ at_place pool.resources j) → LikePlaces (UpAsBefore t) pool.resources cores
      → ((u : UnitId) → is_some (first_place 0 (λ (c : Resource). is_unit c.cur u) cores) ≡ true → is_some (unit_core pool u) ≡ true)
      → ((d : DomId) → Comes (record pool { resources = cores }) (DomMoved d) → Hit (DomMoved d) ⊎ Comes pool (DomMoved d))
      → Lets Hit pool (record pool { resources = cores })
  core_step Hit r cores pool hits others up owned moves = by
    where
      at : (action : Action) (j : ℕ) → (j ≡ r → Hit action) → core_sees pool.domains action (at_place cores j) ≡ true → Hit action ⊎ (core_sees pool.domains action (at_place pool.resources j) ≡ true)
      at action j hit on = elim (ℕ_discrete j r) [
        | yes is ↦ inl (hit is)
        | no other ↦ inr (subst (λ (o : Option Resource). core_sees pool.domains action o ≡ true) (others j other) on)
      ]

      lowest : is_lowest_processor_up t (record pool { resources = cores }) ≡ is_lowest_processor_up t pool
      lowest = lowest_same t pool cores up

      by : (action : Action) → Comes (record pool { resources = cores }) action → Hit action ⊎ Comes pool action
      by Stall on = inr on
      by Xl on = inr on
      by (Moved q) on = at (Moved q) q.0 (hits (Moved q)) on
      by (DomMoved d) on = moves d on
      by (Wake v) on = inr on
      by (Block p) on = at (Block p) (p.0 / g) (hits (Block p)) on
      by (Slice q) on = at (Slice q) q.0 (hits (Slice q)) on
      by (Repl u) on =
          let waits : Bool = has_listed_unit pool.scheduler.queue u in
          let now : Bool = is_some (first_place 0 (λ (c : Resource). is_unit c.cur u) cores) in
          let due : Bool = is_replenish_due pool.scheduler.records t u in
          inr (three (waits || is_some (unit_core pool u)) due (is_lowest_processor_up t pool) (waits || now) due (is_lowest_processor_up t (record pool { resources = cores })) (either_of waits (is_some (unit_core pool u)) now (owned u)) (λ e. e) (λ low. sym lowest ∙ low) on)
      by (Refill d) on = inr (subst (λ (b : Bool). (has_moment_come t (next_refill_moment pool.scheduler.records d.0) && b) ≡ true) lowest on)
      by (Arrive p) on = at (Arrive p) (p.0 / g) (hits (Arrive p)) on
      by (Decide q) on = at (Decide q) q.0 (hits (Decide q)) on
      by (Leave p) on = at (Leave p) (p.0 / g) (hits (Leave p)) on
      by (Save q) on = at (Save q) q.0 (hits (Save q)) on

  -- one core and the scheduler, where no event of a domain comes of it
  pub decided_step : (Hit : Action → Type 0) (r : ℕ) (x : Resource) (scheduler : Scheduler) (pool : Pool) → ((action : Action) → IsOfCore g r action → Hit action)
      → ((d : DomId) → Comes (record pool { scheduler = scheduler; resources = put_at r x pool.resources }) (DomMoved d) → Comes pool (DomMoved d))
      → ((u : UnitId) → Comes (record pool { scheduler = scheduler; resources = put_at r x pool.resources }) (Repl u) → Comes pool (Repl u))
      → ((d : DomId) → Comes (record pool { scheduler = scheduler; resources = put_at r x pool.resources }) (Refill d) → Comes pool (Refill d))
      → Lets Hit pool (record pool { scheduler = scheduler; resources = put_at r x pool.resources })
  decided_step Hit r x scheduler pool hits moves renews refills = by
    where
      at : (action : Action) (j : ℕ) → (j ≡ r → Hit action) → core_sees pool.domains action (at_place (put_at r x pool.resources) j) ≡ true → Hit action ⊎ (core_sees pool.domains action (at_place pool.resources j) ≡ true)
      at action j hit on = elim (ℕ_discrete j r) [
        | yes is ↦ inl (hit is)
        | no other ↦ inr (subst (λ (o : Option Resource). core_sees pool.domains action o ≡ true) (at_place-put_at_other r j x pool.resources other) on)
      ]

      by : (action : Action) → Comes (record pool { scheduler = scheduler; resources = put_at r x pool.resources }) action → Hit action ⊎ Comes pool action
      by Stall on = inr on
      by Xl on = inr on
      by (Moved q) on = at (Moved q) q.0 (hits (Moved q)) on
      by (DomMoved d) on = inr (moves d on)
      by (Wake v) on = inr on
      by (Block p) on = at (Block p) (p.0 / g) (hits (Block p)) on
      by (Slice q) on = at (Slice q) q.0 (hits (Slice q)) on
      by (Repl u) on = inr (renews u on)
      by (Refill d) on = inr (refills d on)
      by (Arrive p) on = at (Arrive p) (p.0 / g) (hits (Arrive p)) on
      by (Decide q) on = at (Decide q) q.0 (hits (Decide q)) on
      by (Leave p) on = at (Leave p) (p.0 / g) (hits (Leave p)) on
      by (Save q) on = at (Save q) q.0 (hits (Save q)) on

  -- a core that keeps its units, and whose first processor is up as before
  pub record KeepsOns (c d : Resource) : Type 0 where
    pub cur : d.cur ≡ c.cur
    pub saving : d.saving ≡ c.saving
    pub up : is_first_processor_up t d ≡ is_first_processor_up t c

  ons_themselves : (c : Resource) → KeepsOns c c
  ons_themselves c = record { cur = refl; saving = refl; up = refl }

  abbrev is_on_domain : ℕ → Resource → Bool
  is_on_domain d c = is_domain_unit d c.cur || is_domain_unit d c.saving

  on_same : (d : ℕ) (c e : Resource) → KeepsOns c e → is_on_domain d e ≡ is_on_domain d c
  on_same d c e keeps = ap (λ (o : Option UnitId). is_domain_unit d o || is_domain_unit d e.saving) keeps.cur ∙ ap (λ (o : Option UnitId). is_domain_unit d c.cur || is_domain_unit d o) keeps.saving

  module _ (cores : List (Option Resource)) (pool : Pool) (like : LikePlaces KeepsOns pool.resources cores) where
    ons_up : LikePlaces (UpAsBefore t) pool.resources cores
    ons_up = like_map KeepsOns (UpAsBefore t) pool.resources cores (λ c d keeps. keeps.up) like

    ons_owned : (u : UnitId) → is_some (first_place 0 (λ (c : Resource). is_unit c.cur u) cores) ≡ true → is_some (unit_core pool u) ≡ true
    ons_owned u on = ap is_some (sym (first_same KeepsOns (λ (c : Resource). is_unit c.cur u) (λ c d keeps. ap (λ (o : Option UnitId). is_unit o u) keeps.cur) 0 pool.resources cores like)) ∙ on

    ons_moves : (d : DomId) → Comes (record pool { resources = cores }) (DomMoved d) → Comes pool (DomMoved d)
    ons_moves d on =
        let moving : Bool = test_at pool.domains d.0 (λ (x : Domain). is_some x.moving) in
        let now : Bool = list_any (λ (e : ℕ × Resource). is_on_domain d.0 e.1) (numbered_items 0 cores) in
        let was : Bool = list_any (λ (e : ℕ × Resource). is_on_domain d.0 e.1) (numbered_items 0 pool.resources) in
        both moving (not was) (and_left moving (not now) on)
        (ap not (none_less KeepsOns (is_on_domain d.0) (λ c e keeps none. sym (on_same d.0 c e keeps) ∙ none) 0 pool.resources cores like (not-true now (and_right moving (not now) on))))

  pub changed_step : (Hit : Action → Type 0) (r : ℕ) (f : Resource → Resource) (pool : Pool) → ((action : Action) → IsOfCore g r action → Hit action) → ((c : Resource) → KeepsOns c (f c)) → Lets Hit pool (change_core r f pool)
  changed_step Hit r f pool hits keeps =
      let cores : List (Option Resource) = change_at r f pool.resources in
      let like : LikePlaces KeepsOns pool.resources cores = like_change_at KeepsOns r f pool.resources ons_themselves (λ c at. keeps c) in
      core_step Hit r cores pool hits (λ j other. at_place-change_at_other r j f pool.resources other) (ons_up cores pool like) (ons_owned cores pool like) (λ d on. inr (ons_moves cores pool like d on))

  -- a processor that does something else
  up_doing : (i : ℕ) (doing : Doing) (ps : List Processor)
      → elim (change_item i (with_doing doing) ps) as (λ _. Bool) [ [] ↦ false | p ∷ rest ↦ is_not_stalled t p ] ≡ elim ps as (λ _. Bool) [ [] ↦ false | p ∷ rest ↦ is_not_stalled t p ]
  up_doing i doing [] = refl
  up_doing zero doing (p ∷ ps) = refl
  up_doing (suc i) doing (p ∷ ps) = refl

  pub processor_step : (Hit : Action → Type 0) (p : ℕ) (doing : Doing) (pool : Pool) → ((action : Action) → IsOfCore g (p / g) action → Hit action) → Lets Hit pool (change_processor g p (with_doing doing) pool)
  processor_step Hit p doing pool hits = changed_step Hit (p / g) _ pool hits (λ c. record { cur = refl; saving = refl; up = up_doing (p % g) doing c.processors })

  -- a vCPU that changes
  vcpu_other : (v w : VcpuId) (f : Vcpu → Vcpu) (domains : List (Option Domain)) → (w ≡ v) ⊎ (vcpu_among (change_among v f domains) w ≡ vcpu_among domains w)
  vcpu_other v w f domains = elim (ℕ_discrete w.dom.0 v.dom.0) [
    | no other ↦ inr (ap (λ (o : Option Domain). elim o as (λ _. Option Vcpu) [ None ↦ None | Some d ↦ slice_get d.vcpus w.n ]) (at_place-change_at_other v.dom.0 w.dom.0 (λ (d : Domain). record d { vcpus = change_item v.n f d.vcpus }) domains other))
    | yes same ↦ elim (ℕ_discrete w.n v.n) [
      | yes also ↦ inl (grind (arith, same, also))
      | no other ↦ inr (
          let change : Domain → Domain = λ d. record d { vcpus = change_item v.n f d.vcpus } in
          let read : Option Domain → Option Vcpu = λ o. elim o as (λ _. Option Vcpu) [ None ↦ None | Some d ↦ slice_get d.vcpus w.n ] in
          ap (λ (k : ℕ). read (at_place (change_at v.dom.0 change domains) k)) same ∙ ap read (at_place-change_at v.dom.0 change domains) ∙ by (at_place domains v.dom.0) other ∙ ap (λ (k : ℕ). read (at_place domains k)) (sym same))
    ]
  ]
    where
      by : (o : Option Domain) → w.n ≢ v.n
          → elim (option_map (λ (d : Domain). record d { vcpus = change_item v.n f d.vcpus }) o) as (λ _. Option Vcpu) [ None ↦ None | Some d ↦ slice_get d.vcpus w.n ] ≡ elim o as (λ _. Option Vcpu) [ None ↦ None | Some d ↦ slice_get d.vcpus w.n ]
      by None other = refl
      by (Some d) other = slice_get-change_item_other v.n w.n f d.vcpus (λ e. other (sym e))

  vcpu_same : (v : VcpuId) (f : Vcpu → Vcpu) (domains : List (Option Domain)) → vcpu_among (change_among v f domains) v ≡ option_map f (vcpu_among domains v)
  vcpu_same v f domains =
      ap (λ (o : Option Domain). elim o as (λ _. Option Vcpu) [ None ↦ None | Some d ↦ slice_get d.vcpus v.n ]) (at_place-change_at v.dom.0 (λ (d : Domain). record d { vcpus = change_item v.n f d.vcpus }) domains)
      ∙ by (at_place domains v.dom.0)
    where
      item : (i : ℕ) (xs : List Vcpu) → slice_get (change_item i f xs) i ≡ option_map f (slice_get xs i)
      item i [] = refl
      item zero (x ∷ xs) = refl
      item (suc i) (x ∷ xs) = item i xs

      by : (o : Option Domain) → elim (option_map (λ (d : Domain). record d { vcpus = change_item v.n f d.vcpus }) o) as (λ _. Option Vcpu) [ None ↦ None | Some d ↦ slice_get d.vcpus v.n ]
          ≡ option_map f (elim o as (λ _. Option Vcpu) [ None ↦ None | Some d ↦ slice_get d.vcpus v.n ])
      by None = refl
      by (Some d) = item v.n d.vcpus

  -- whether the vCPU's sleep, or its work, is over
  abbrev wakes : Option Vcpu → Bool
  wakes o = elim o as (λ _. Bool) [ None ↦ false | Some x ↦ has_moment_come t x.asleep_until ]

  abbrev done : Option Vcpu → Bool
  done o = elim o as (λ _. Bool) [ None ↦ false | Some x ↦ has_moment_come t (done_moment x) ]

  pub vcpu_step : (Hit : Action → Type 0) (v : VcpuId) (f : Vcpu → Vcpu) (pool : Pool)
      → ((x : Vcpu) → has_moment_come t (f x).asleep_until ≡ true → Hit (Wake v) ⊎ (has_moment_come t x.asleep_until ≡ true))
      → ((p : ℕ) → running_guest g pool p ≡ Some v → (x : Vcpu) → has_moment_come t (done_moment (f x)) ≡ true → Hit (Block (processor p)) ⊎ (has_moment_come t (done_moment x) ≡ true))
      → Lets Hit pool (change_vcpu v f pool)
  vcpu_step Hit v f pool asleep ends = by
    where
      wake : (o : Option Vcpu) → wakes (option_map f o) ≡ true → Hit (Wake v) ⊎ (wakes o ≡ true)
      wake None on = absurd (cc)
      wake (Some x) on = asleep x on

      block : (p : ℕ) → running_guest g pool p ≡ Some v → (o : Option Vcpu) → done (option_map f o) ≡ true → Hit (Block (processor p)) ⊎ (done o ≡ true)
      block p guest None on = absurd (cc)
      block p guest (Some x) on = ends p guest x on

      ended : (p : ℕ) (w : VcpuId) → running_guest g pool p ≡ Some w → done (vcpu_among (change_among v f pool.domains) w) ≡ true → Hit (Block (processor p)) ⊎ (done (vcpu_among pool.domains w) ≡ true)
      ended p w guest on = elim (vcpu_other v w f pool.domains) [
        | inl is ↦ elim (block p (guest ∙ ap Some is) (vcpu_among pool.domains v) (sym (ap done (vcpu_same v f pool.domains)) ∙ subst (λ (z : VcpuId). done (vcpu_among (change_among v f pool.domains) z) ≡ true) is on)) [
          | inl hit ↦ inl hit
          | inr was ↦ inr (subst (λ (z : VcpuId). done (vcpu_among pool.domains z) ≡ true) (sym is) was)
        ]
        | inr same ↦ inr (sym (ap done same) ∙ on)
      ]

      over : List (Option Domain) → Option VcpuId → Bool
      over domains o = elim o as (λ _. Bool) [ None ↦ false | Some w ↦ done (vcpu_among domains w) ]

      by_guest : (p : ℕ) (o : Option VcpuId) → running_guest g pool p ≡ o → elim o as (λ _. Bool) [ None ↦ false | Some w ↦ done (vcpu_among (change_among v f pool.domains) w) ] ≡ true
          → Hit (Block (processor p)) ⊎ (elim o as (λ _. Bool) [ None ↦ false | Some w ↦ done (vcpu_among pool.domains w) ] ≡ true)
      by_guest p None guest on = absurd (cc)
      by_guest p (Some w) guest on = ended p w guest on

      by : (action : Action) → Comes (change_vcpu v f pool) action → Hit action ⊎ Comes pool action
      by (DomMoved d) on =
          let free : Bool = not (list_any (λ (e : ℕ × Resource). is_domain_unit d.0 e.1.cur || is_domain_unit d.0 e.1.saving) (numbered_items 0 pool.resources)) in
          inr (subst (λ (b : Bool). (b && free) ≡ true) (test_at-change_at v.dom.0 d.0 (λ (x : Domain). record x { vcpus = change_item v.n f x.vcpus }) (λ (x : Domain). is_some x.moving) pool.domains (λ x. refl)) on)
      by (Wake w) on = elim (vcpu_other v w f pool.domains) [
        | inl is ↦ elim (wake (vcpu_among pool.domains v) (sym (ap wakes (vcpu_same v f pool.domains)) ∙ subst (λ (z : VcpuId). wakes (vcpu_among (change_among v f pool.domains) z) ≡ true) is on)) [
          | inl hit ↦ inl (subst (λ (z : VcpuId). Hit (Wake z)) (sym is) hit)
          | inr was ↦ inr (subst (λ (z : VcpuId). wakes (vcpu_among pool.domains z) ≡ true) (sym is) was)
        ]
        | inr same ↦ inr (sym (ap wakes same) ∙ on)
      ]
      by (Block p) on =
          let now : Bool = elim (running_guest g pool p.0) as (λ _. Bool) [ None ↦ false | Some w ↦ done (vcpu_among (change_among v f pool.domains) w) ] in
          let was : Bool = elim (running_guest g pool p.0) as (λ _. Bool) [ None ↦ false | Some w ↦ done (vcpu_among pool.domains w) ] in
          let up : Bool = elim (processor_in p.0 (at_place pool.resources (p.0 / g))) as (λ _. Bool) [ None ↦ false | Some q ↦ is_not_stalled t q ] in
          elim (by_guest p.0 (running_guest g pool p.0) refl (and_left now up on)) [
            | inl hit ↦ inl hit
            | inr ends ↦ inr (both was up ends (and_right now up on))
          ]
      by action on = inr on

  -- a unit that comes to wait
  any_behind : (f : UnitId → Bool) (units : List UnitId) (u : UnitId) → f u ≡ false → list_any f (units ++ u ∷ []) ≡ list_any f units
  any_behind f [] u fails = ap (λ (b : Bool). b || false) fails
  any_behind f (w ∷ units) u fails = ap (λ (b : Bool). f w || b) (any_behind f units u fails)

  pub queue_step : (Hit : Action → Type 0) (u : UnitId) (pool : Pool) → Hit (Repl u) → Lets Hit pool (queue_unit u pool)
  queue_step Hit u pool hit = by
    where
      by : (action : Action) → Comes (queue_unit u pool) action → Hit action ⊎ Comes pool action
      by (Repl w) on = by_same (same_unit w u) refl
        where
          by_same : (b : Bool) → same_unit w u ≡ b → Hit (Repl w) ⊎ Comes pool (Repl w)
          by_same true is = inl (subst (λ (z : UnitId). Hit (Repl z)) (sym (same_unit_same w u is)) hit)
          by_same false is =
              inr (subst (λ (b : Bool). (((b || is_some (unit_core pool w)) && is_replenish_due pool.scheduler.records t w) && is_lowest_processor_up t pool) ≡ true) (any_behind (same_unit w) pool.scheduler.queue u is) on)
      by action on = inr on

  -- other records
  pub records_step : (Hit : Action → Type 0) (records : Records) (pool : Pool)
      → ((u : UnitId) → is_replenish_due records t u ≡ true → Hit (Repl u) ⊎ (is_replenish_due pool.scheduler.records t u ≡ true))
      → ((d : DomId) → has_moment_come t (next_refill_moment records d.0) ≡ true → Hit (Refill d) ⊎ (has_moment_come t (next_refill_moment pool.scheduler.records d.0) ≡ true))
      → Lets Hit pool (with_records records pool)
  records_step Hit records pool dues refills = by
    where
      by : (action : Action) → Comes (with_records records pool) action → Hit action ⊎ Comes pool action
      by (Repl u) on =
          let there : Bool = has_listed_unit pool.scheduler.queue u || is_some (unit_core pool u) in
          let now : Bool = is_replenish_due records t u in
          let low : Bool = is_lowest_processor_up t pool in
          elim (dues u (and_right there now (and_left (there && now) low on))) [
            | inl hit ↦ inl hit
            | inr was ↦ inr (three there (is_replenish_due pool.scheduler.records t u) low there now low (λ e. e) (λ e. was) (λ e. e) on)
          ]
      by (Refill d) on =
          let now : Bool = has_moment_come t (next_refill_moment records d.0) in
          let low : Bool = is_lowest_processor_up t pool in
          elim (refills d (and_left now low on)) [
            | inl hit ↦ inl hit
            | inr was ↦ inr (both (has_moment_come t (next_refill_moment pool.scheduler.records d.0)) low was (and_right now low on))
          ]
      by action on = inr on

  -- a look at the cores: one that becomes pending lets its processors arrive
  marked : Resource → Bool → Resource
  marked c b = record c { pending = b }

  moved_less : (a p q b c : Bool) → (q ≡ false → p ≡ false) → (((a && not q) && b) && c) ≡ true → (((a && not p) && b) && c) ≡ true
  moved_less a p q b c less on =
      let none : q ≡ false = not-true q (and_right a (not q) (and_left (a && not q) b (and_left ((a && not q) && b) c on))) in
      subst (λ (x : Bool). (((a && not x) && b) && c) ≡ true) (none ∙ sym (less none)) on

  sliced_less : (a p q c : Bool) → (q ≡ false → p ≡ false) → ((a && not q) && c) ≡ true → ((a && not p) && c) ≡ true
  sliced_less a p q c less on =
      let none : q ≡ false = not-true q (and_right a (not q) (and_left (a && not q) c on)) in
      subst (λ (x : Bool). ((a && not x) && c) ≡ true) (none ∙ sym (less none)) on

  was_false : (a b : Bool) → (a || b) ≡ false → a ≡ false
  was_false true b is = absurd (cc)
  was_false false b is = refl

  pub look_step : (Hit : Action → Type 0) (at : ℕ) (pool : Pool) → ((p : ℕ) (c : Resource) → at_place (settled_pool at pool).resources (p / g) ≡ Some c → c.pending ≡ true → Hit (Arrive (processor p))) → Lets Hit pool (settled_pool at pool)
  look_step Hit at pool hits = by
    where
      f : ℕ → Resource → Resource
      f = reconsidered_core at (pool_core_set pool) pool.scheduler

      cores : List (Option Resource)
      cores = change_each 0 f pool.resources

      keeps : (r : ℕ) (c : Resource) → KeepsOns c (f r c)
      keeps r c = by_cond (KeepsOns c) c.leaving c _ (λ is. ons_themselves c) (λ is. record { cur = refl; saving = refl; up = refl })

      like : LikePlaces KeepsOns pool.resources cores
      like = like_change_each KeepsOns f pool.resources keeps

      there : (j : ℕ) → at_place cores j ≡ option_map (f j) (at_place pool.resources j)
      there j = (let number : 0 + j ≡ j = omega arith in subst (λ (k : ℕ). at_place cores j ≡ option_map (f k) (at_place pool.resources j)) number (at_place-change_each 0 j f pool.resources))

      -- what sees nothing of pending but that it is not there
      seen : (action : Action) → ((r : ℕ) (c : Resource) → core_sees pool.domains action (Some (f r c)) ≡ true → core_sees pool.domains action (Some c) ≡ true)
          → core_sees pool.domains action None ≡ false → (j : ℕ) → core_sees pool.domains action (at_place cores j) ≡ true → core_sees pool.domains action (at_place pool.resources j) ≡ true
      seen action less none j on = from (at_place pool.resources j) (subst (λ (o : Option Resource). core_sees pool.domains action o ≡ true) (there j) on)
        where
          from : (o : Option Resource) → core_sees pool.domains action (option_map (f j) o) ≡ true → core_sees pool.domains action o ≡ true
          from None is = absurd (clash (core_sees pool.domains action None) is none)
          from (Some c) is = less j c is

      lowest : is_lowest_processor_up t (settled_pool at pool) ≡ is_lowest_processor_up t pool
      lowest = lowest_same t pool cores (ons_up cores pool like)

      arrives : (p : ℕ) (o : Option Resource) → at_place cores (p / g) ≡ o → elim o as (λ _. Bool) [ None ↦ false | Some c ↦ c.pending && is_gathering c && is_none c.saving ] ≡ true → Hit (Arrive (processor p))
      arrives p None is on = absurd (cc)
      arrives p (Some c) is on = hits p c is (and_left c.pending (is_gathering c) (and_left (c.pending && is_gathering c) (is_none c.saving) on))

      by : (action : Action) → Comes (settled_pool at pool) action → Hit action ⊎ Comes pool action
      by Stall on = inr on
      by Xl on = inr on
      by (Moved q) on =
          inr (seen (Moved q)
          (λ r c. by_cond (λ (d : Resource). core_sees pool.domains (Moved q) (Some d) ≡ true → core_sees pool.domains (Moved q) (Some c) ≡ true) c.leaving c _ (λ is e. e)
          (λ is. moved_less (c.leaving && is_none c.cur && is_none c.saving) c.pending _ (is_gathering c) (is_first_processor_up t c) (was_false c.pending _)))
          refl q.0 on)
      by (DomMoved d) on = inr (ons_moves cores pool like d on)
      by (Wake v) on = inr on
      by (Block p) on =
          inr (seen (Block p) (λ r c. by_cond (λ (d : Resource). core_sees pool.domains (Block p) (Some d) ≡ true → core_sees pool.domains (Block p) (Some c) ≡ true) c.leaving c _ (λ is e. e) (λ is e. e)) refl (p.0 / g) on)
      by (Slice q) on =
          inr (seen (Slice q)
          (λ r c. by_cond (λ (d : Resource). core_sees pool.domains (Slice q) (Some d) ≡ true → core_sees pool.domains (Slice q) (Some c) ≡ true) c.leaving c _ (λ is e. e)
          (λ is. sliced_less (has_moment_come t c.due) c.pending _ (is_first_processor_up t c) (was_false c.pending _)))
          refl q.0 on)
      by (Repl u) on =
          let waits : Bool = has_listed_unit pool.scheduler.queue u in
          let now : Bool = is_some (first_place 0 (λ (c : Resource). is_unit c.cur u) cores) in
          let due : Bool = is_replenish_due pool.scheduler.records t u in
          inr (three (waits || is_some (unit_core pool u)) due (is_lowest_processor_up t pool) (waits || now) due (is_lowest_processor_up t (settled_pool at pool)) (either_of waits (is_some (unit_core pool u)) now (ons_owned cores pool like u)) (λ e. e) (λ low. sym lowest ∙ low) on)
      by (Refill d) on = inr (subst (λ (b : Bool). (has_moment_come t (next_refill_moment pool.scheduler.records d.0) && b) ≡ true) lowest on)
      by (Arrive p) on =
          inl (arrives p.0 (at_place cores (p.0 / g)) refl
          (and_left (elim (at_place cores (p.0 / g)) as (λ _. Bool) [ None ↦ false | Some c ↦ c.pending && is_gathering c && is_none c.saving ])
          (elim (processor_in p.0 (at_place cores (p.0 / g))) as (λ _. Bool) [ None ↦ false | Some q ↦ not (is_held_back q) && is_not_stalled t q ]) on))
      by (Decide q) on =
          inr (seen (Decide q) (λ r c. by_cond (λ (d : Resource). core_sees pool.domains (Decide q) (Some d) ≡ true → core_sees pool.domains (Decide q) (Some c) ≡ true) c.leaving c _ (λ is e. e) (λ is e. e)) refl q.0 on)
      by (Leave p) on =
          inr (seen (Leave p) (λ r c. by_cond (λ (d : Resource). core_sees pool.domains (Leave p) (Some d) ≡ true → core_sees pool.domains (Leave p) (Some c) ≡ true) c.leaving c _ (λ is e. e) (λ is e. e)) refl (p.0 / g) on)
      by (Save q) on =
          inr (seen (Save q) (λ r c. by_cond (λ (d : Resource). core_sees pool.domains (Save q) (Some d) ≡ true → core_sees pool.domains (Save q) (Some c) ≡ true) c.leaving c _ (λ is e. e) (λ is e. e)) refl q.0 on)
