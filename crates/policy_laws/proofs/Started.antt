-- A vCPU that is started is run by a processor: what each step keeps of that.
use Rattle.std.proofs.Common.{◌≡◌, ◌≢◌, ◌⊎◌, ℕ, zero, suc, Bool, true, false, List, [], ◌∷◌, refl, subst, sym, ◌∙◌, ap, inl, inr}
use Rattle.std.specs.Prelude.{Option, Some, None, option_map, slice_get, not, ◌+◌, ◌*◌, ◌/◌, ◌%◌, ◌&&◌}
use Rattle.std.proofs.Math.Decide.{ℕ_discrete}
use Rattle.sched_base.specs.Numbers.{moment, domain as domain_number, pool as pool_number, core, processor}
use Rattle.sched_base.specs.declared.Moment.{Moment}
use Rattle.sched_base.specs.declared.VcpuId.{VcpuId}
use Rattle.sched_model.specs.declared.action.Action.TheVariants.{Moved, Leave}
use Rattle.sched_model.specs.declared.config.DomParams.{DomParams}
use Rattle.sched_model.specs.declared.config.ParamChange.{ParamChange}
use Rattle.sched_model.specs.declared.state.Doing.{Doing}
use Rattle.sched_model.specs.declared.state.Doing.TheVariants.{Guest, Idle, Held}
use Rattle.sched_model.specs.declared.state.Domain.{Domain}
use Rattle.sched_model.specs.declared.state.Vcpu.{Vcpu}
use Rattle.sched_model.specs.declared.state.Processor.{Processor}
use Rattle.sched_model.specs.declared.state.Resource.{Resource}
use Rattle.sched_model.specs.declared.state.Pool.{Pool}
use Rattle.sched_model.specs.Places.{at_place, put_at, clear_at, change_at, change_item, numbers_from, test_at}
use Rattle.sched_model.specs.State.{is_not_stalled}
use Rattle.sched_model.specs.EligibleUnits.{Decision}
use Rattle.sched_model.specs.Opening.{joined_core}
use Rattle.sched_model.specs.Policy as policy
use Rattle.sched_model.specs.Policy.{decision_of}
use Rattle.sched_model.specs.Pool as pools
use Rattle.sched_model.specs.Pool.{core_ask, change_core, change_domain, change_processor, change_vcpu, decided_core, with_doing, enabled_in, running_guest, same_choice, pool_with_moving, changed_pool, started_on, domain_unit_count, pool_with_domain, pool_without_domain}
use Rattle.sched_laws.proofs.EachPlace.{read_change_at, read_clear_at, read_put_at, at_place-put_at, place_below, at_place-put_at_other, at_place-clear_at_other, by_option, by_test}
use Rattle.sched_laws.proofs.Sound.{read_change_item, processor_of_is, guest_of_is}
use Rattle.sched_laws.specs.PoolFacts.{AreSound}
use Rattle.sched_base.proofs.Bools.{and_left, and_right}
use Rattle.policy_laws.specs.Holds.{HaveProcessors}
use Rattle.policy_laws.proofs.Alike.{AreAlike, alike_like, alike_change_at}
use Rattle.sched_laws.proofs.Events.{LikePlaces, like_change_at, capped, like_of_domain, like_map, IsMarked, Enabled, KeptByCommands, KeptBySteps, kept_opened, kept_withdrawn, kept_marked, kept_queue_units, kept_pending}
use Rattle.policy_laws.proofs.Members.{joined}
use Rattle.policy_laws.proofs.Units.{goes_empty}
use Rattle.sched_model.specs.Pool.{vcpu_among, change_among}
use Rattle.sched_laws.proofs.EachPlace.{vcpu_is}

-- what the i-th processor of a core does
abbrev doing_in : ℕ → Resource → Option Doing
doing_in i c = option_map (λ (q : Processor). q.doing) (slice_get c.processors i)

abbrev flat : Option (Option Doing) → Option Doing
flat None = None
flat (Some o) = o

-- the same of the core r of these
abbrev doing_at : List (Option Resource) → ℕ → ℕ → Option Doing
doing_at cores r i = flat (option_map (doing_in i) (at_place cores r))

abbrev guest_in : Option Doing → Option VcpuId
guest_in None = None
guest_in (Some doing) = elim doing [ Guest v ↦ Some v | Idle ↦ None | Held ↦ None ]

guest_is : (g : ℕ) (pool : Pool) (p : ℕ) → running_guest g pool p ≡ guest_in (doing_at pool.resources (p / g) (p % g))
guest_is g pool p = of (at_place pool.resources (p / g))
  where
    of_processor : (o : Option Processor) → elim o as (λ _. Option VcpuId) [ None ↦ None | Some q ↦ elim q.doing as (λ _. Option VcpuId) [ Guest v ↦ Some v | Idle ↦ None | Held ↦ None ] ] ≡ guest_in (option_map (λ (q : Processor). q.doing) o)
    of_processor None = refl
    of_processor (Some q) = refl

    of : (o : Option Resource)
        → elim (elim o as (λ _. Option Processor) [ None ↦ None | Some c ↦ slice_get c.processors (p % g) ]) as (λ _. Option VcpuId) [
          | None ↦ None
          | Some q ↦ elim q.doing as (λ _. Option VcpuId) [ Guest v ↦ Some v | Idle ↦ None | Held ↦ None ]
        ] ≡ guest_in (flat (option_map (doing_in (p % g)) o))
    of None = refl
    of (Some c) = of_processor (slice_get c.processors (p % g))

guest_doing : (o : Option Doing) (v : VcpuId) → guest_in o ≡ Some v → o ≡ Some (Guest v)
guest_doing (Some (Guest w)) v is = cc
guest_doing other v is = absurd (cc)

-- what a processor does, from the processor and back
doing_there : (cores : List (Option Resource)) (r i : ℕ) (c : Resource) (q : Processor) → at_place cores r ≡ Some c → slice_get c.processors i ≡ Some q → doing_at cores r i ≡ Some q.doing
doing_there cores r i c q at get =
    ap (λ (o : Option Resource). flat (option_map (doing_in i) o)) at ∙ ap (option_map (λ (x : Processor). x.doing)) get

doing_is : (cores : List (Option Resource)) (r i : ℕ) (doing : Doing) → doing_at cores r i ≡ Some doing → (c : Resource) × (q : Processor) × (at_place cores r ≡ Some c) × (slice_get c.processors i ≡ Some q) × (q.doing ≡ doing)
doing_is cores r i doing is = of (at_place cores r) refl is
  where
    of_processor : (c : Resource) → at_place cores r ≡ Some c → (o : Option Processor) → slice_get c.processors i ≡ o → option_map (λ (q : Processor). q.doing) o ≡ Some doing
        → (c : Resource) × (q : Processor) × (at_place cores r ≡ Some c) × (slice_get c.processors i ≡ Some q) × (q.doing ≡ doing)
    of_processor c at None get e = absurd (cc)
    of_processor c at (Some q) get e = (c, q, at, get, cc)

    of : (o : Option Resource) → at_place cores r ≡ o → flat (option_map (doing_in i) o) ≡ Some doing
        → (c : Resource) × (q : Processor) × (at_place cores r ≡ Some c) × (slice_get c.processors i ≡ Some q) × (q.doing ≡ doing)
    of None at e = absurd (cc)
    of (Some c) at e = of_processor c at (slice_get c.processors i) refl e

-- a processor changed: it does something else, and the others what they did
abbrev change_doing : ℕ → ℕ → Doing → List (Option Resource) → List (Option Resource)
change_doing r i doing cores = change_at r (λ c. record c { processors = change_item i (with_doing doing) c.processors }) cores

item_here : (i : ℕ) (old doing : Doing) (qs : List Processor) → option_map (λ (q : Processor). q.doing) (slice_get qs i) ≡ Some old → option_map (λ (q : Processor). q.doing) (slice_get (change_item i (with_doing doing) qs) i) ≡ Some doing
item_here i old doing [] is = absurd (cc)
item_here zero old doing (q ∷ qs) is = refl
item_here (suc i) old doing (q ∷ qs) is = item_here i old doing qs is

item_other : (i j : ℕ) (doing : Doing) (qs : List Processor) → j ≢ i → slice_get (change_item i (with_doing doing) qs) j ≡ slice_get qs j
item_other i j doing [] other = refl
item_other zero zero doing (q ∷ qs) other = absurd (other refl)
item_other zero (suc j) doing (q ∷ qs) other = refl
item_other (suc i) zero doing (q ∷ qs) other = refl
item_other (suc i) (suc j) doing (q ∷ qs) other = item_other i j doing qs (λ e. other (ap suc e))

doing_here : (r i : ℕ) (old doing : Doing) (cores : List (Option Resource)) → doing_at cores r i ≡ Some old → doing_at (change_doing r i doing cores) r i ≡ Some doing
doing_here r i old doing [] is = absurd (cc)
doing_here zero i old doing (None ∷ cores) is = absurd (cc)
doing_here zero i old doing (Some c ∷ cores) is = item_here i old doing c.processors is
doing_here (suc r) i old doing (o ∷ cores) is = doing_here r i old doing cores is

doing_other : (r i k j : ℕ) (doing : Doing) (cores : List (Option Resource)) → (k ≡ r → j ≡ i → ⊥) → doing_at (change_doing r i doing cores) k j ≡ doing_at cores k j
doing_other zero i k j doing [] other = refl
doing_other (suc r) i k j doing [] other = refl
doing_other zero i zero j doing (None ∷ cores) other = refl
doing_other zero i zero j doing (Some c ∷ cores) other = ap (option_map (λ (q : Processor). q.doing)) (item_other i j doing c.processors (other refl))
doing_other zero i (suc k) j doing (o ∷ cores) other = refl
doing_other (suc r) i zero j doing (o ∷ cores) other = refl
doing_other (suc r) i (suc k) j doing (o ∷ cores) other = doing_other r i k j doing cores (λ e e2. other (ap suc e) e2)

vcpu_there : (domains : List (Option Domain)) (v : VcpuId) (d : Domain) (x : Vcpu) → at_place domains v.dom.0 ≡ Some d → slice_get d.vcpus v.n ≡ Some x → vcpu_among domains v ≡ Some x
vcpu_there domains v d x at get = ap (λ (o : Option Domain). elim o as (λ _. Option Vcpu) [ None ↦ None | Some e ↦ slice_get e.vcpus v.n ]) at ∙ get

-- a vCPU after a change of one: another as before, or that one
read_vcpu : (v w : VcpuId) (f : Vcpu → Vcpu) (domains : List (Option Domain)) (x : Vcpu) → vcpu_among (change_among v f domains) w ≡ Some x
    → ((w ≢ v) × (vcpu_among domains w ≡ Some x)) ⊎ ((y : Vcpu) × (w ≡ v) × (vcpu_among domains v ≡ Some y) × (f y ≡ x))
read_vcpu v w f domains x is =
    let now = vcpu_is (change_among v f domains) w x is in
    elim (read_change_at v.dom.0 w.dom.0 (λ (d : Domain). record d { vcpus = change_item v.n f d.vcpus }) domains now.0 now.1) [
      | inl was ↦ inl (λ e. was.0 (ap (λ (u : VcpuId). u.dom.0) e), vcpu_there domains w now.0 x was.1 now.2)
      | inr r ↦
          let get : slice_get (change_item v.n f r.0.vcpus) w.n ≡ Some x = subst (λ (d : Domain). slice_get d.vcpus w.n ≡ Some x) (sym r.3) now.2 in
          let at_w : at_place domains w.dom.0 ≡ Some r.0 = subst (λ (k : ℕ). at_place domains k ≡ Some r.0) (sym r.2) r.1 in
          elim (read_change_item v.n w.n f r.0.vcpus x get) [
            | inl was ↦ inl (λ e. was.0 (ap (λ (u : VcpuId). u.n) e), vcpu_there domains w r.0 x at_w was.1)
            | inr i ↦ inr (i.0, same_vcpu w v r.2 i.2, vcpu_there domains v r.0 i.0 r.1 i.1, i.3)
          ]
    ]
  where
    same_vcpu : (w v : VcpuId) → w.dom.0 ≡ v.dom.0 → w.n ≡ v.n → w ≡ v
    same_vcpu w v dom n =
        let a : ◌≡◌ {A = VcpuId} w (record { dom = v.dom; n = w.n }) = ap (λ (k : ℕ). record { dom = domain_number k; n = w.n }) dom in
        let b : ◌≡◌ {A = VcpuId} (record { dom = v.dom; n = w.n }) v = ap (λ (k : ℕ). record { dom = v.dom; n = k }) n in
        a ∙ b

not_guest_if_idle : (q : Processor) → pools.is_idling q ≡ true → (w : VcpuId) → q.doing ≡ Guest w → ⊥
not_guest_if_idle q idle w is = (let e : pools.is_idling q ≡ false = ap (λ (doing : Doing). elim doing as (λ _. Bool) [ Guest v ↦ false | Idle ↦ true | Held ↦ false ]) is in cc)

not_guest_if_held : (q : Processor) → pools.is_held_back q ≡ true → (w : VcpuId) → q.doing ≡ Guest w → ⊥
not_guest_if_held q held w is = (let e : pools.is_held_back q ≡ false = ap (λ (doing : Doing). elim doing as (λ _. Bool) [ Guest v ↦ false | Idle ↦ false | Held ↦ true ]) is in cc)

-- the processor that leaves is held
leaver : (g t p : ℕ) (pool : Pool) → enabled_in g t pool (Leave (processor p)) ≡ true → (q : Processor) × (pools.pool_processor g pool p ≡ Some q) × (pools.is_held_back q ≡ true)
leaver g t p pool on =
    by_option (λ (b : Bool). b ≡ true → (q : Processor) × (pools.pool_processor g pool p ≡ Some q) × (pools.is_held_back q ≡ true)) (pools.pool_processor g pool p) false (λ q. pools.is_held_back q && is_not_stalled t q)
    (λ none e. absurd (cc)) (λ q is e. (q, is, and_left (pools.is_held_back q) (is_not_stalled t q) e)) (and_right (test_at pool.resources (p / g) (λ (x : Resource). not (pools.is_gathering x))) _ on)

module _ (g : ℕ) where
  -- each vCPU that is started is run by a processor, where these are the domains and cores
  abbrev Have : List (Option Domain) → List (Option Resource) → Type 0
  Have domains cores = (v : VcpuId) (x : Vcpu) (from : Moment) → vcpu_among domains v ≡ Some x → x.started ≡ Some from → (p : ℕ) × (doing_at cores (p / g) (p % g) ≡ Some (Guest v))

  from_have : (pool : Pool) → Have pool.domains pool.resources → HaveProcessors g pool
  from_have pool have v x from is started = (let r = have v x from is started in (r.0, guest_is g pool r.0 ∙ ap guest_in r.1))

  to_have : (pool : Pool) → HaveProcessors g pool → Have pool.domains pool.resources
  to_have pool have v x from is started = (let r = have v x from is started in (r.0, guest_doing (doing_at pool.resources (r.0 / g) (r.0 % g)) v (sym (guest_is g pool r.0) ∙ r.1)))

  have_cores : (domains : List (Option Domain)) (old next : List (Option Resource)) → ((r i : ℕ) (v : VcpuId) → doing_at old r i ≡ Some (Guest v) → doing_at next r i ≡ Some (Guest v)) → Have domains old → Have domains next
  have_cores domains old next keeps have v x from is started = (let r = have v x from is started in (r.0, keeps (r.0 / g) (r.0 % g) v r.1))

  have_domains : (old next : List (Option Domain)) (cores : List (Option Resource))
      → ((v : VcpuId) (x : Vcpu) (from : Moment) → vcpu_among next v ≡ Some x → x.started ≡ Some from → (y : Vcpu) × (vcpu_among old v ≡ Some y) × (y.started ≡ Some from)) → Have old cores → Have next cores
  have_domains old next cores was have v x from is started = (let r = was v x from is started in have v r.0 from r.1 r.2)

  -- a processor that ran no vCPU does something else
  have_idle : (p : ℕ) (doing : Doing) (domains : List (Option Domain)) (cores : List (Option Resource)) → ((v : VcpuId) → doing_at cores (p / g) (p % g) ≡ Some (Guest v) → ⊥) → Have domains cores → Have domains (change_doing (p / g) (p % g) doing cores)
  have_idle p doing domains cores none have =
      have_cores domains cores (change_doing (p / g) (p % g) doing cores)
      (λ r i v is. doing_other (p / g) (p % g) r i doing cores (λ e e2. none v (subst (λ (k : ℕ). doing_at cores (p / g) k ≡ Some (Guest v)) e2 (subst (λ (k : ℕ). doing_at cores k i ≡ Some (Guest v)) e is))) ∙ is) have

  -- a processor ends its vCPU, which is started no more
  have_frees : (p : ℕ) (v : VcpuId) (f : Vcpu → Vcpu) (doing : Doing) (domains : List (Option Domain)) (cores : List (Option Resource)) → doing_at cores (p / g) (p % g) ≡ Some (Guest v) → ((x : Vcpu) → (f x).started ≡ None)
      → Have domains cores → Have (change_among v f domains) (change_doing (p / g) (p % g) doing cores)
  have_frees p v f doing domains cores guest none have w x from is started =
      elim (read_vcpu v w f domains x is) [
        | inl was ↦
            let r = have w x from was.1 started in
            let elsewhere : r.0 / g ≡ p / g → r.0 % g ≡ p % g → ⊥ = λ e e2. was.0 (
            let here : doing_at cores (p / g) (p % g) ≡ Some (Guest w) = subst (λ (k : ℕ). doing_at cores (p / g) k ≡ Some (Guest w)) e2 (subst (λ (k : ℕ). doing_at cores k (r.0 % g) ≡ Some (Guest w)) e r.1) in
            cc) in
            (r.0, doing_other (p / g) (p % g) (r.0 / g) (r.0 % g) doing cores elsewhere ∙ r.1)
        | inr r ↦ absurd (let ended : x.started ≡ None = subst (λ (y : Vcpu). y.started ≡ None) r.3 (none r.0) in cc)
      ]

  -- a processor that ran none takes a vCPU
  have_takes : (p : ℕ) (v : VcpuId) (f : Vcpu → Vcpu) (domains : List (Option Domain)) (cores : List (Option Resource)) (old : Doing) → doing_at cores (p / g) (p % g) ≡ Some old → ((w : VcpuId) → old ≡ Guest w → ⊥)
      → Have domains cores → Have (change_among v f domains) (change_doing (p / g) (p % g) (Guest v) cores)
  have_takes p v f domains cores old there none have w x from is started =
      elim (read_vcpu v w f domains x is) [
        | inl was ↦
            let r = have w x from was.1 started in
            let elsewhere : r.0 / g ≡ p / g → r.0 % g ≡ p % g → ⊥ = λ e e2. none w (
            let here : doing_at cores (p / g) (p % g) ≡ Some (Guest w) = subst (λ (k : ℕ). doing_at cores (p / g) k ≡ Some (Guest w)) e2 (subst (λ (k : ℕ). doing_at cores k (r.0 % g) ≡ Some (Guest w)) e r.1) in
            cc) in
            (r.0, doing_other (p / g) (p % g) (r.0 / g) (r.0 % g) (Guest v) cores elsewhere ∙ r.1)
        | inr r ↦ (p, doing_here (p / g) (p % g) old (Guest v) cores there ∙ ap (λ (u : VcpuId). Some (Guest u)) (sym r.1))
      ]

  -- cores that keep what their processors do
  started_alike : (cores : List (Option Resource)) (pool : Pool) → ((i : ℕ) → AreAlike (doing_in i) pool.resources cores) → HaveProcessors g pool → HaveProcessors g (record pool { resources = cores })
  started_alike cores pool alike have =
      from_have (record pool { resources = cores }) (have_cores pool.domains pool.resources cores (λ r i v is. ap flat ((alike i).same r) ∙ is) (to_have pool have))

  abbrev SameProcessors : Resource → Resource → Type 0
  SameProcessors c d = d.processors ≡ c.processors

  started_like : (cores : List (Option Resource)) (pool : Pool) → LikePlaces SameProcessors pool.resources cores → HaveProcessors g pool → HaveProcessors g (record pool { resources = cores })
  started_like cores pool like have =
      started_alike cores pool (λ i. alike_like (doing_in i) SameProcessors pool.resources cores (λ c d same. ap (λ (qs : List Processor). option_map (λ (q : Processor). q.doing) (slice_get qs i)) same) like) have

  started_change_core : (r : ℕ) (f : Resource → Resource) (pool : Pool) → ((c : Resource) → (f c).processors ≡ c.processors) → HaveProcessors g pool → HaveProcessors g (change_core r f pool)
  started_change_core r f pool same have = started_like _ pool (like_change_at SameProcessors r f pool.resources (λ c. refl) (λ c at. same c)) have

  pub started_stalls : (p end : ℕ) (pool : Pool) → HaveProcessors g pool → HaveProcessors g (change_processor g p (λ q. record q { stall_end = moment end }) pool)
  started_stalls p end pool have =
      started_alike _ pool (λ i. alike_change_at (doing_in i) (p / g) (λ (c : Resource). record c { processors = change_item (p % g) (λ (q : Processor). record q { stall_end = moment end }) c.processors }) pool.resources (λ c. stalled i (p % g) c.processors)) have
    where
      stalled : (i k : ℕ) (qs : List Processor) → option_map (λ (q : Processor). q.doing) (slice_get (change_item k (λ (q : Processor). record q { stall_end = moment end }) qs) i) ≡ option_map (λ (q : Processor). q.doing) (slice_get qs i)
      stalled i k [] = refl
      stalled zero zero (q ∷ qs) = refl
      stalled (suc i) zero (q ∷ qs) = refl
      stalled zero (suc k) (q ∷ qs) = refl
      stalled (suc i) (suc k) (q ∷ qs) = stalled i k qs

  -- domains that keep their vCPUs
  started_change_domain : (d : ℕ) (f : Domain → Domain) (pool : Pool) → ((x : Domain) → (f x).vcpus ≡ x.vcpus) → HaveProcessors g pool → HaveProcessors g (change_domain d f pool)
  started_change_domain d f pool same have =
      from_have (change_domain d f pool) (have_domains pool.domains (change_at d f pool.domains) pool.resources
      (λ v x from is started.
      let now = vcpu_is (change_at d f pool.domains) v x is in
      elim (read_change_at d v.dom.0 f pool.domains now.0 now.1) [
        | inl was ↦ (x, vcpu_there pool.domains v now.0 x was.1 now.2, started)
        | inr r ↦ (
          x,
          vcpu_there pool.domains v r.0 x (subst (λ (k : ℕ). at_place pool.domains k ≡ Some r.0) (sym r.2) r.1) (subst (λ (vs : List Vcpu). slice_get vs v.n ≡ Some x) (sym (ap (λ (y : Domain). y.vcpus) r.3) ∙ same r.0) now.2),
          started,
        )
      ]) (to_have pool have))

  pub started_commands : KeptByCommands g (HaveProcessors g)
  started_commands = record {
    marks = λ cores pool like. started_like cores pool (like_map IsMarked SameProcessors pool.resources cores (λ c d marked. marked.processors) like);
    queues = λ u pool runs have. have;
    dequeues = λ d pool have. have;
    pausing = λ d paused pool. started_change_domain d (λ x. record x { paused = paused }) pool (λ x. refl);
  }

  -- the events
  started_takes : (t p : ℕ) (v : VcpuId) (q : Processor) (pool : Pool) → pools.pool_processor g pool p ≡ Some q → ((w : VcpuId) → q.doing ≡ Guest w → ⊥) → HaveProcessors g pool → HaveProcessors g (started_on g t p v pool)
  started_takes t p v q pool is none have =
      let found = processor_of_is g pool p q is in
      from_have (started_on g t p v pool) (have_takes p v (λ x. record x { started = Some (moment t) }) pool.domains pool.resources q.doing (doing_there pool.resources (p / g) (p % g) found.0 q found.1 found.2) none (to_have pool have))

  started_woken : (v : VcpuId) (pool : Pool) → HaveProcessors g pool → HaveProcessors g (change_vcpu v pools.woken_vcpu pool)
  started_woken v pool have =
      from_have (change_vcpu v pools.woken_vcpu pool) (have_domains pool.domains (change_among v pools.woken_vcpu pool.domains) pool.resources
      (λ w x from is started. elim (read_vcpu v w pools.woken_vcpu pool.domains x is) [
        | inl was ↦ (x, was.1, started)
        | inr r ↦ (r.0, subst (λ (u : VcpuId). vcpu_among pool.domains u ≡ Some r.0) (sym r.1) r.2, ap (λ (y : Vcpu). y.started) r.3 ∙ started)
      ]) (to_have pool have))

  started_frees : (p : ℕ) (v : VcpuId) (f : Vcpu → Vcpu) (doing : Doing) (pool : Pool) → running_guest g pool p ≡ Some v → ((x : Vcpu) → (f x).started ≡ None) → HaveProcessors g pool → HaveProcessors g (change_processor g p (with_doing doing) (change_vcpu v f pool))
  started_frees p v f doing pool guest none have =
      from_have (change_processor g p (with_doing doing) (change_vcpu v f pool)) (have_frees p v f doing pool.domains pool.resources (guest_doing (doing_at pool.resources (p / g) (p % g)) v (sym (guest_is g pool p) ∙ guest)) none (to_have pool have))

  started_idle : (p : ℕ) (doing : Doing) (pool : Pool) → ((v : VcpuId) → running_guest g pool p ≡ Some v → ⊥) → HaveProcessors g pool → HaveProcessors g (change_processor g p (with_doing doing) pool)
  started_idle p doing pool none have =
      from_have (change_processor g p (with_doing doing) pool) (have_idle p doing pool.domains pool.resources (λ v is. none v (guest_is g pool p ∙ ap guest_in is)) (to_have pool have))

  started_after_arrive : (t p : ℕ) (pool : Pool) → HaveProcessors g pool → HaveProcessors g (pools.after_arrive g t p pool)
  started_after_arrive t p pool have =
      by_option (λ (next : Pool). HaveProcessors g (change_processor g p (with_doing Held) next)) (running_guest g pool p) _ _ (λ is. started_idle p Held pool (λ v guest. absurd (cc)) have)
      (λ v is. started_frees p v (pools.stopped_vcpu t) Held pool is (λ x. by_option (λ (y : Vcpu). y.started ≡ None) x.started _ _ (λ ended. ended) (λ from ended. refl)) have)

  started_after_leave : (t p : ℕ) (c : Resource) (pool : Pool) → enabled_in g t pool (Leave (processor p)) ≡ true → HaveProcessors g pool → HaveProcessors g (pools.after_leave g t p c pool)
  started_after_leave t p c pool on have =
      let held = leaver g t p pool on in
      let none : (v : VcpuId) → held.0.doing ≡ Guest v → ⊥ = not_guest_if_held held.0 held.2 in
      by_option (λ (next : Pool). HaveProcessors g (change_core (p / g) pools.reopened_core next)) (pools.vcpu_to_run g pool c (p % g)) _ _
      (λ is. kept_opened started_commands (p / g) (change_processor g p (with_doing Idle) pool) (started_idle p Idle pool (λ v guest.
      let found = guest_of_is g pool p v guest in
      let mine = processor_of_is g pool p held.0 held.1 in
      none v (
      let same : found.0 ≡ mine.0 = cc in
      let get : slice_get mine.0.processors (p % g) ≡ Some found.1 = subst (λ (x : Resource). slice_get x.processors (p % g) ≡ Some found.1) same found.3 in
      let same_q : found.1 ≡ held.0 = cc in
      subst (λ (q : Processor). q.doing ≡ Guest v) same_q found.4)) have))
      (λ v is. kept_opened started_commands (p / g) (started_on g t p v pool) (started_takes t p v held.0 pool held.1 none have))

  started_after_decide : (t r : ℕ) (c : Resource) (pool : Pool) → at_place pool.resources r ≡ Some c → HaveProcessors g pool → HaveProcessors g (pools.after_decide g t r c pool)
  started_after_decide t r c pool at have =
      let decision : Decision = decision_of (core_ask g t pool r c) pool.scheduler in
      let now : Resource = decided_core t decision c in
      let same : now.processors ≡ c.processors = by_test (λ (d : Resource). d.processors ≡ c.processors) (same_choice decision.unit c.cur) _ _ (λ is. refl) (λ is. refl) in
      from_have (pools.after_decide g t r c pool) (have_cores pool.domains pool.resources (put_at r now pool.resources)
      (λ k i v is.
      let found = doing_is pool.resources k i (Guest v) is in
      elim (ℕ_discrete k r) [
        | yes e ↦
            let at_r : at_place pool.resources r ≡ Some found.0 = subst (λ (j : ℕ). at_place pool.resources j ≡ Some found.0) e found.2 in
            let mine : c ≡ found.0 = cc in
            let get : slice_get now.processors i ≡ Some found.1 = subst (λ (qs : List Processor). slice_get qs i ≡ Some found.1) (sym (same ∙ ap (λ (x : Resource). x.processors) mine)) found.3 in
            let there : doing_at (put_at r now pool.resources) r i ≡ Some found.1.doing = doing_there (put_at r now pool.resources) r i now found.1 (at_place-put_at r now pool.resources (place_below pool.resources r c at)) get in
            subst (λ (j : ℕ). doing_at (put_at r now pool.resources) j i ≡ Some (Guest v)) (sym e) (there ∙ ap (λ (doing : Doing). Some doing) found.4)
        | no other ↦ ap (λ (o : Option Resource). flat (option_map (doing_in i) o)) (at_place-put_at_other r k now pool.resources other) ∙ is
      ]) (to_have pool have))

  pub started_steps : (t : ℕ) → KeptBySteps g t (Enabled g t) (HaveProcessors g)
  started_steps t = record {
    pends = kept_pending started_commands;
    queues = started_commands.queues;
    wakes = λ v pool on. started_woken v pool;
    joins = λ v r q pool is is2 idle awake. started_takes t (r * g + v.n % g) v q pool is2 (not_guest_if_idle q idle);
    blocks = λ p v pool guest on. started_frees p v (pools.put_to_sleep t) Idle pool guest (λ x. refl);
    arrives = λ p pool on. started_after_arrive t p pool;
    decides = λ r c pool at on. started_after_decide t r c pool at;
    leaves = λ p c pool at on. started_after_leave t p c pool on;
    saves = λ r c u pool at is on. started_change_core r pools.saved_core pool (λ x. refl);
    replenishes = λ u pool on have. have;
    dues = λ r u x old pool on is. started_change_core r (pools.due_within t x.budget) pool (λ c. refl);
    refills = λ d pool on have. have;
  }

  -- the commands
  pub started_set_moving : (d i : ℕ) (pool : Pool) → HaveProcessors g pool → HaveProcessors g (pool_with_moving d i pool)
  started_set_moving d i pool have =
      let f : Domain → Domain = λ domain. record domain { moving = Some (pool_number i) } in
      kept_withdrawn started_commands d (change_domain d f pool) (started_change_domain d f pool (λ x. refl) have)

  pub started_set_params : (change : ParamChange) (t : ℕ) (pool : Pool) → HaveProcessors g pool → HaveProcessors g (changed_pool change t pool)
  started_set_params change t pool have =
      kept_marked started_commands t
      (λ d next. started_like _ next (like_of_domain SameProcessors d (capped t) next.resources (λ c. refl) (λ c. refl)))
      change (record pool { scheduler = policy.changed_scheduler change t pool.scheduler }) have

  -- what comes and goes
  pub started_core_comes : (r : ℕ) (ends : List Moment) (pool : Pool) → at_place pool.resources r ≡ None → HaveProcessors g pool → HaveProcessors g (record pool { resources = put_at r (joined_core ends) pool.resources })
  started_core_comes r ends pool none have =
      from_have (record pool { resources = put_at r (joined_core ends) pool.resources }) (have_cores pool.domains pool.resources (put_at r (joined_core ends) pool.resources)
      (λ k i v is.
      let found = doing_is pool.resources k i (Guest v) is in
      let other : k ≢ r = λ e. (let at_r : at_place pool.resources r ≡ Some found.0 = subst (λ (j : ℕ). at_place pool.resources j ≡ Some found.0) e found.2 in cc) in
      ap (λ (o : Option Resource). flat (option_map (doing_in i) o)) (at_place-put_at_other r k (joined_core ends) pool.resources other) ∙ is) (to_have pool have))

  pub started_core_goes : (t r : ℕ) (pool : Pool) → enabled_in g t pool (Moved (core r)) ≡ true → AreSound g pool → HaveProcessors g pool → HaveProcessors g (record pool { resources = clear_at r pool.resources })
  started_core_goes t r pool on sound have =
      let goes = goes_empty g t r pool on in
      from_have (record pool { resources = clear_at r pool.resources }) (have_cores pool.domains pool.resources (clear_at r pool.resources)
      (λ k i v is.
      let found = doing_is pool.resources k i (Guest v) is in
      let other : k ≢ r = λ e. (
      let at_r : at_place pool.resources r ≡ Some found.0 = subst (λ (j : ℕ). at_place pool.resources j ≡ Some found.0) e found.2 in
      let same : goes.0 ≡ found.0 = cc in
      let none : found.0.cur ≡ None = subst (λ (x : Resource). x.cur ≡ None) same goes.2 in
      let own : found.0.cur ≡ Some (pools.vcpu_unit g v) = ((sound k found.0 found.2).guests i found.1 v found.3 found.4).0 in
      cc) in
      ap (λ (o : Option Resource). flat (option_map (doing_in i) o)) (at_place-clear_at_other r k pool.resources other) ∙ is) (to_have pool have))

  pub started_with_domain : (t d : ℕ) (domain : Domain) (params : DomParams) (pool : Pool) → ((n : ℕ) (x : Vcpu) → slice_get domain.vcpus n ≡ Some x → x.started ≡ None) → HaveProcessors g pool → HaveProcessors g (pool_with_domain g t d domain params pool)
  started_with_domain t d domain params pool none have =
      kept_queue_units started_commands d (numbers_from 0 (domain_unit_count g domain)) (joined g t d domain params pool) (from_have (joined g t d domain params pool) (have_domains pool.domains (put_at d domain pool.domains) pool.resources
      (λ v x from is started.
      let now = vcpu_is (put_at d domain pool.domains) v x is in
      elim (read_put_at d v.dom.0 domain pool.domains now.0 now.1) [
        | inl was ↦ (x, vcpu_there pool.domains v now.0 x was now.2, started)
        | inr r ↦ absurd (let ended : x.started ≡ None = none v.n x (subst (λ (y : Domain). slice_get y.vcpus v.n ≡ Some x) (sym r.1) now.2) in cc)
      ]) (to_have pool have)))

  pub started_without_domain : (d : ℕ) (pool : Pool) → HaveProcessors g pool → HaveProcessors g (pool_without_domain d pool)
  started_without_domain d pool have =
      from_have (pool_without_domain d pool) (have_domains pool.domains (clear_at d pool.domains) pool.resources
      (λ v x from is started. (let now = vcpu_is (clear_at d pool.domains) v x is in let was = read_clear_at d v.dom.0 pool.domains now.0 now.1 in (x, vcpu_there pool.domains v now.0 x was.1 now.2, started))) (to_have pool have))
