-- An event behind which, by what is known of the cores and the domains, each other one comes is the first that may come.
use Rattle.std.proofs.Common.{◌≡◌, ◌≢◌, ◌≤◌, ◌<◌, ◌/◌, ◌⊎◌, ◌∙◌, ℕ, suc, Bool, true, false, List, refl, sym, ap, subst, arith, inl, inr}
use Rattle.std.specs.Prelude.{Option, Some, None, is_some, Contains, slice_set}
use Rattle.std.proofs.Math.Decide.{ℕ_discrete, dec_lt}
use Rattle.std.proofs.lemmas.Nat.{div-add-mod', le-div}
use Rattle.std.proofs.lemmas.Bool.{or_cases}
use Rattle.std.proofs.lemmas.Bool.Decides.{nat_tests}
use Rattle.sched_base.specs.Numbers.{processor}
use Rattle.sched_base.specs.declared.ProcId.{ProcId}
use Rattle.sched_base.specs.declared.UnitId.{UnitId}
use Rattle.sched_base.specs.declared.VcpuId.{VcpuId}
use Rattle.sched_base.proofs.Bools.{clash}
use Rattle.sched_model.specs.declared.action.Action.{Action}
use Rattle.sched_model.specs.declared.action.Action.TheVariants.{Stall, Xl, Moved, DomMoved, Wake, Block, Slice, Repl, Refill, Arrive, Decide, Leave, Save}
use Rattle.sched_model.specs.declared.machine.Machine.{Machine}
use Rattle.sched_model.specs.declared.state.Pool.{Pool}
use Rattle.sched_model.specs.declared.state.State.{State}
use Rattle.sched_model.specs.Actions.{candidates, home_pool_of_action, home_pool_of_core, home_pool_of_domain}
use Rattle.sched_model.specs.Machine.{enabled_at_home, first_enabled_action, is_action_enabled, is_free_core_ready}
use Rattle.sched_model.specs.Places.{at_place, test_at}
use Rattle.sched_model.specs.Pool.{enabled_in}
use Rattle.sched_model.specs.Runs.{Reached}
use Rattle.sched_laws.proofs.EachPlace.{found_at, place_below}
use Rattle.sched_laws.proofs.Lists.{some-test_at, some_is, some_same}
use Rattle.composition_laws.specs.OrderLaws.{ComesInPool}
use Rattle.composition_laws.proofs.Candidates.{is_candidate}
use Rattle.composition_laws.proofs.FirstByOrder.{first_by_order}
use Rattle.composition_laws.proofs.Home.{pool_is_home}
use Rattle.pool_laws.specs.Order.{IsNotAfter, index_place, kind_place, subject_place}
use Rattle.pool_laws.proofs.ActionOrder.{later_kind}
use Rattle.sched_plain.specs.PoolFloors.{IsCoreFloor, IsDomainFloor, IsFirstSibling, IsOfCore, IsOfDomain}
use Rattle.sched_plain.specs.declared.floors.Floors.{Floors}
use Rattle.sched_plain.specs.KeptFloors.{AreBehind, AreKept, IsCoreFloorAmong, IsDomainFloorAmong, IsFirstAtHome, IsToolQuiet, core_number, domain_number, floor_at, floor_of, least_kind}
use Rattle.sched_plain.specs.Outlooks.{AreLater, IsCoreAwaited, IsDomainAwaited}
use Rattle.sched_plain.specs.ReachedStates.{Stands}
use Rattle.sched_plain.specs.declared.floors.Waits.{Waits}
use Rattle.sched_plain.proofs.Bridges.{stands-machine, stands-pool}
use Rattle.sched_plain.proofs.SeenLaw.{core_awaited, domain_awaited}

-- two events of which the core or the domain of the second has what is asked of its number
order : (a b : Action) (own j : ℕ) → least_kind (kind_place a) own j ≤ kind_place b → (own < j → kind_place a ≡ kind_place b → subject_place a < subject_place b) → (j ≡ own → kind_place a ≡ kind_place b → IsNotAfter a b) → IsNotAfter a b
order a b own j asked later same = elim (dec_lt j own) [
  | yes low ↦ (let is : least_kind (kind_place a) own j ≡ suc (kind_place a) = grind (arith, nat_tests, low) in later_kind a b (omega (arith, is, asked)))
  | no high ↦ (
      let is : least_kind (kind_place a) own j ≡ kind_place a = grind (arith, nat_tests, high) in
      elim (ℕ_discrete (kind_place a) (kind_place b)) [
        | no other ↦ later_kind a b (omega (arith, is, asked, other))
        | yes kind ↦ elim (ℕ_discrete j own) [
          | yes here ↦ same here kind
          | no behind ↦ (
              let less : subject_place a < subject_place b = later (omega (arith, high, behind)) kind in
              record { by_kind = omega (arith, kind); then_by_subject = λ e. omega (arith, less); then_by_index = λ e f. absurd (omega (arith, less, f)) })
        ]
      ])
]

-- a core with a lesser number has processors with lesser numbers
processors_before : (g p q : ℕ) → 0 < g → p / g < q / g → p < q
processors_before g p q some less = elim (dec_lt p q) [
  | yes is ↦ is
  | no not ↦ absurd (let whole = div-add-mod' q g in let a = le-div (q / g) p g some (omega (arith, whole, not)) in omega (arith, a, less))
]

cores_before : (g : ℕ) (a b : Action) → 0 < g → core_number g b < 64 → core_number g a < core_number g b → kind_place a ≡ kind_place b → subject_place a < subject_place b
cores_before g (Moved q) (Moved r) some inside less kind = less
cores_before g (Block p) (Block q) some inside less kind = processors_before g p.0 q.0 some less
cores_before g (Slice q) (Slice r) some inside less kind = less
cores_before g (Arrive p) (Arrive q) some inside less kind = processors_before g p.0 q.0 some less
cores_before g (Decide q) (Decide r) some inside less kind = less
cores_before g (Leave p) (Leave q) some inside less kind = processors_before g p.0 q.0 some less
cores_before g (Save q) (Save r) some inside less kind = less
cores_before g a b some inside less kind = absurd (omega (arith, inside, kind))

domains_before : (a b : Action) → domain_number b < 64 → domain_number a < domain_number b → kind_place a ≡ kind_place b → subject_place a < subject_place b
domains_before (DomMoved d) (DomMoved e) inside less kind = less
domains_before (Wake v) (Wake w) inside less kind = less
domains_before (Repl u) (Repl w) inside less kind = less
domains_before (Refill d) (Refill e) inside less kind = less
domains_before a b inside less kind = absurd (omega (arith, inside, kind))

-- two events of a kind whose subjects have no index
no_index : (a b : Action) → kind_place a ≡ kind_place b → subject_place a ≤ subject_place b → index_place a ≤ index_place b → IsNotAfter a b
no_index a b kind subject index = record { by_kind = omega (arith, kind); then_by_subject = λ e. subject; then_by_index = λ e f. index }

module _ (g t : ℕ) (pool : Pool) where
  -- of two processors of a core the first that may do it
  processors_in_order : (what : ProcId → Action) (p q : ProcId) → kind_place (what p) ≡ kind_place (what q) → subject_place (what p) ≡ p.0 → subject_place (what q) ≡ q.0 → index_place (what p) ≡ 0 → q.0 / g ≡ p.0 / g
      → ((n : ℕ) → n / g ≡ p.0 / g → n < p.0 → enabled_in g t pool (what (processor n)) ≡ false) → enabled_in g t pool (what q) ≡ true → IsNotAfter (what p) (what q)
  processors_in_order what p q kind first second index same none on = elim (dec_lt q.0 p.0) [
    | yes less ↦ absurd (clash (enabled_in g t pool (what q)) on (none q.0 same less))
    | no more ↦ no_index (what p) (what q) kind (omega (arith, first, second, more)) (omega (arith, index))
  ]

  cores_in_order : (a b : Action) → core_number g b < 64 → core_number g b ≡ core_number g a → kind_place a ≡ kind_place b → IsFirstSibling g t pool a → enabled_in g t pool b ≡ true → IsNotAfter a b
  cores_in_order (Moved q) (Moved r) inside same kind none on = no_index (Moved q) (Moved r) kind (omega (arith, same)) (omega arith)
  cores_in_order (Block p) (Block q) inside same kind none on = processors_in_order Block p q refl refl refl refl same none on
  cores_in_order (Slice q) (Slice r) inside same kind none on = no_index (Slice q) (Slice r) kind (omega (arith, same)) (omega arith)
  cores_in_order (Arrive p) (Arrive q) inside same kind none on = processors_in_order Arrive p q refl refl refl refl same none on
  cores_in_order (Decide q) (Decide r) inside same kind none on = no_index (Decide q) (Decide r) kind (omega (arith, same)) (omega arith)
  cores_in_order (Leave p) (Leave q) inside same kind none on = processors_in_order Leave p q refl refl refl refl same none on
  cores_in_order (Save q) (Save r) inside same kind none on = no_index (Save q) (Save r) kind (omega (arith, same)) (omega arith)
  cores_in_order a b inside same kind none on = absurd (omega (arith, inside, kind))

  domains_in_order : (a b : Action) → domain_number b < 64 → domain_number b ≡ domain_number a → kind_place a ≡ kind_place b → IsFirstSibling g t pool a → enabled_in g t pool b ≡ true → IsNotAfter a b
  domains_in_order (DomMoved d) (DomMoved e) inside same kind none on = no_index (DomMoved d) (DomMoved e) kind (omega (arith, same)) (omega arith)
  domains_in_order (Wake v) (Wake w) inside same kind none on = elim (dec_lt w.n v.n) [
    | yes less ↦ absurd (
        let is : w ≡ record { dom = v.dom; n = w.n } = grind (arith, same) in
        clash (enabled_in g t pool (Wake w)) on (subst (λ (x : VcpuId). enabled_in g t pool (Wake x) ≡ false) (sym is) (none w.n less)))
    | no more ↦ no_index (Wake v) (Wake w) kind (omega (arith, same)) (omega (arith, more))
  ]
  domains_in_order (Repl u) (Repl w) inside same kind none on = elim (dec_lt w.n u.n) [
    | yes less ↦ absurd (
        let is : w ≡ record { dom = u.dom; n = w.n } = grind (arith, same) in
        clash (enabled_in g t pool (Repl w)) on (subst (λ (x : UnitId). enabled_in g t pool (Repl x) ≡ false) (sym is) (none w.n less)))
    | no more ↦ no_index (Repl u) (Repl w) kind (omega (arith, same)) (omega (arith, more))
  ]
  domains_in_order (Refill d) (Refill e) inside same kind none on = no_index (Refill d) (Refill e) kind (omega (arith, same)) (omega arith)
  domains_in_order a b inside same kind none on = absurd (omega (arith, inside, kind))

-- the home of an event of a core, and of a domain
home_core : (g r : ℕ) (s : State) (action : Action) → IsOfCore g r action → home_pool_of_action g s action ≡ home_pool_of_core s r
home_core g r s (Moved q) own = ap (home_pool_of_core s) own
home_core g r s (Block p) own = ap (home_pool_of_core s) own
home_core g r s (Slice q) own = ap (home_pool_of_core s) own
home_core g r s (Arrive p) own = ap (home_pool_of_core s) own
home_core g r s (Decide q) own = ap (home_pool_of_core s) own
home_core g r s (Leave p) own = ap (home_pool_of_core s) own
home_core g r s (Save q) own = ap (home_pool_of_core s) own
home_core g r s action own = absurd own

home_domain : (g d : ℕ) (s : State) (action : Action) → IsOfDomain d action → home_pool_of_action g s action ≡ home_pool_of_domain s d
home_domain g d s (DomMoved e) own = ap (home_pool_of_domain s) own
home_domain g d s (Wake v) own = ap (home_pool_of_domain s) own
home_domain g d s (Repl u) own = ap (home_pool_of_domain s) own
home_domain g d s (Refill e) own = ap (home_pool_of_domain s) own
home_domain g d s action own = absurd own

-- an event of a pool is one of a core or of a domain
abbrev Subject : ℕ → Action → Type 0
Subject g action = IsOfCore g (core_number g action) action ⊎ IsOfDomain (domain_number action) action

which : (g : ℕ) (action : Action) → Stall ≢ action → Xl ≢ action → Subject g action
which g Stall stall command = absurd (stall refl)
which g Xl stall command = absurd (command refl)
which g (Moved r) stall command = inl refl
which g (DomMoved d) stall command = inr refl
which g (Wake v) stall command = inr refl
which g (Block p) stall command = inl refl
which g (Slice r) stall command = inl refl
which g (Repl u) stall command = inr refl
which g (Refill d) stall command = inr refl
which g (Arrive p) stall command = inl refl
which g (Decide r) stall command = inl refl
which g (Leave p) stall command = inl refl
which g (Save r) stall command = inl refl

floor_core : (g : ℕ) (floors : Floors) (action : Action) → IsOfCore g (core_number g action) action → floor_of g floors action ≡ floor_at floors.cores (core_number g action)
floor_core g floors (Moved r) own = refl
floor_core g floors (Block p) own = refl
floor_core g floors (Slice r) own = refl
floor_core g floors (Arrive p) own = refl
floor_core g floors (Decide r) own = refl
floor_core g floors (Leave p) own = refl
floor_core g floors (Save r) own = refl
floor_core g floors action own = absurd own

floor_domain : (g : ℕ) (floors : Floors) (action : Action) → IsOfDomain (domain_number action) action → floor_of g floors action ≡ floor_at floors.domains (domain_number action)
floor_domain g floors (DomMoved d) own = refl
floor_domain g floors (Wake v) own = refl
floor_domain g floors (Repl u) own = refl
floor_domain g floors (Refill d) own = refl
floor_domain g floors action own = absurd own

module _ (m : Machine) (s : State) (stands : Stands m s) where
  abbrev g : ℕ
  g = m.config.granularity

  -- the pool in which an event may come is its home
  pub home_is : (t i : ℕ) (pool : Pool) (action : Action) → at_place s.pools i ≡ Some pool → enabled_in g t pool action ≡ true → home_pool_of_action g s action ≡ Some i
  home_is t i pool action at on =
      let comes : ComesInPool m s t i action = record { pool = pool; at = at; enabled = on } in
      subst (λ (from : Reached). ComesInPool m from.state t i action → home_pool_of_action g from.state action ≡ Some i) stands.reached.leads
      (λ c. ((pool_is_home m stands.checked stands.reached.entries stands.reached.run i t action).0 c).home) comes

  -- a core that no pool has, one whose home is empty, and one that is judged in its home
  core_home : (t r i : ℕ) (pool : Pool) (action : Action) → at_place s.pools i ≡ Some pool → IsOfCore g r action → enabled_in g t pool action ≡ true → home_pool_of_core s r ≡ Some i
  core_home t r i pool action at own on = sym (home_core g r s action own) ∙ home_is t i pool action at on

  pub core_nowhere : (r floor : ℕ) → home_pool_of_core s r ≡ None → IsCoreFloorAmong g s.now s.pools r floor
  core_nowhere r floor none = λ i pool at action own on. absurd (let home = core_home s.now r i pool action at own on in cc)

  -- what has no home may wait for ever
  pub core_homeless : (r wait : ℕ) (old : Waits) → home_pool_of_core s r ≡ None → AreLater g s.pools old → AreLater g s.pools (record old { cores = slice_set old.cores r wait })
  core_homeless r wait old none later = core_awaited g s.now r s.pools old later wait (λ t i pool at action own on. absurd (let home = core_home t r i pool action at own on in cc))

  pub core_empty : (r k floor : ℕ) → home_pool_of_core s r ≡ Some k → at_place s.pools k ≡ None → IsCoreFloorAmong g s.now s.pools r floor
  core_empty r k floor there none = λ i pool at action own on. absurd (
      let same : i ≡ k = some_same (sym (core_home s.now r i pool action at own on) ∙ there) in
      let here : at_place s.pools k ≡ Some pool = subst (λ (j : ℕ). at_place s.pools j ≡ Some pool) same at in
      cc)

  pub core_waits : (r k : ℕ) (found : Pool) (old new : Waits) → home_pool_of_core s r ≡ Some k → at_place s.pools k ≡ Some found → IsCoreAwaited g found r old new → AreLater g s.pools old → AreLater g s.pools new
  core_waits r k found old new there has awaited later =
      subst (AreLater g s.pools) (sym awaited.set) (core_awaited g s.now r s.pools old later awaited.wait (λ t i pool at action own on.
      let same : i ≡ k = some_same (sym (core_home t r i pool action at own on) ∙ there) in
      let here : at_place s.pools k ≡ Some pool = subst (λ (j : ℕ). at_place s.pools j ≡ Some pool) same at in
      let is : pool ≡ found = some_same (sym here ∙ has) in
      awaited.right t action own (subst (λ (x : Pool). enabled_in g t x action ≡ true) is on)))

  pub core_judged : (r k floor : ℕ) (found : Pool) → home_pool_of_core s r ≡ Some k → at_place s.pools k ≡ Some found → IsCoreFloor g s.now found r floor → IsCoreFloorAmong g s.now s.pools r floor
  core_judged r k floor found there has judged = λ i pool at action own on.
      let same : i ≡ k = some_same (sym (core_home s.now r i pool action at own on) ∙ there) in
      let here : at_place s.pools k ≡ Some pool = subst (λ (j : ℕ). at_place s.pools j ≡ Some pool) same at in
      let is : pool ≡ found = some_same (sym here ∙ has) in
      judged action own (subst (λ (x : Pool). enabled_in g s.now x action ≡ true) is on)

  -- a domain that no pool has, one whose home is empty, and one that is judged in its home
  domain_home : (t r i : ℕ) (pool : Pool) (action : Action) → at_place s.pools i ≡ Some pool → IsOfDomain r action → enabled_in g t pool action ≡ true → home_pool_of_domain s r ≡ Some i
  domain_home t r i pool action at own on = sym (home_domain g r s action own) ∙ home_is t i pool action at on

  pub domain_nowhere : (r floor : ℕ) → home_pool_of_domain s r ≡ None → IsDomainFloorAmong g s.now s.pools r floor
  domain_nowhere r floor none = λ i pool at action own on. absurd (let home = domain_home s.now r i pool action at own on in cc)

  -- what has no home may wait for ever
  pub domain_homeless : (r wait : ℕ) (old : Waits) → home_pool_of_domain s r ≡ None → AreLater g s.pools old → AreLater g s.pools (record old { domains = slice_set old.domains r wait })
  domain_homeless r wait old none later = domain_awaited g s.now r s.pools old later wait (λ t i pool at action own on. absurd (let home = domain_home t r i pool action at own on in cc))

  pub domain_empty : (r k floor : ℕ) → home_pool_of_domain s r ≡ Some k → at_place s.pools k ≡ None → IsDomainFloorAmong g s.now s.pools r floor
  domain_empty r k floor there none = λ i pool at action own on. absurd (
      let same : i ≡ k = some_same (sym (domain_home s.now r i pool action at own on) ∙ there) in
      let here : at_place s.pools k ≡ Some pool = subst (λ (j : ℕ). at_place s.pools j ≡ Some pool) same at in
      cc)

  pub domain_waits : (r k : ℕ) (found : Pool) (old new : Waits) → home_pool_of_domain s r ≡ Some k → at_place s.pools k ≡ Some found → IsDomainAwaited g found r old new → AreLater g s.pools old → AreLater g s.pools new
  domain_waits r k found old new there has awaited later =
      subst (AreLater g s.pools) (sym awaited.set) (domain_awaited g s.now r s.pools old later awaited.wait (λ t i pool at action own on.
      let same : i ≡ k = some_same (sym (domain_home t r i pool action at own on) ∙ there) in
      let here : at_place s.pools k ≡ Some pool = subst (λ (j : ℕ). at_place s.pools j ≡ Some pool) same at in
      let is : pool ≡ found = some_same (sym here ∙ has) in
      awaited.right t action own (subst (λ (x : Pool). enabled_in g t x action ≡ true) is on)))

  pub domain_judged : (r k floor : ℕ) (found : Pool) → home_pool_of_domain s r ≡ Some k → at_place s.pools k ≡ Some found → IsDomainFloor g s.now found r floor → IsDomainFloorAmong g s.now s.pools r floor
  domain_judged r k floor found there has judged = λ i pool at action own on.
      let same : i ≡ k = some_same (sym (domain_home s.now r i pool action at own on) ∙ there) in
      let here : at_place s.pools k ≡ Some pool = subst (λ (j : ℕ). at_place s.pools j ≡ Some pool) same at in
      let is : pool ≡ found = some_same (sym here ∙ has) in
      judged action own (subst (λ (x : Pool). enabled_in g s.now x action ≡ true) is on)

  -- the numbers of cores and domains
  core_inside : (r i : ℕ) → home_pool_of_core s r ≡ Some i → r < 64
  core_inside r i home =
      let f = found_at i (λ (pool : Pool). is_some (at_place pool.resources r)) s.pools home in
      let c = some_is (at_place f.0.resources r) f.2 in
      let a = place_below f.0.resources r c.0 c.1 in
      let b = (stands-pool m s stands i f.0 f.1).fits.cores in
      omega (arith, a, b)

  domain_inside : (d i : ℕ) → home_pool_of_domain s d ≡ Some i → d < 64
  domain_inside d i home =
      let f = found_at i (λ (pool : Pool). is_some (at_place pool.domains d)) s.pools home in
      let x = some_is (at_place f.0.domains d) f.2 in
      let a = place_below f.0.domains d x.0 x.1 in
      let b = (stands-pool m s stands i f.0 f.1).fits.few_domains in
      omega (arith, a, b)

  module _ (a : Action) (floors : Floors) (kept : AreKept g s.now s.pools floors) (quiet : IsToolQuiet m s) (cores : AreBehind (kind_place a) (core_number g a) 0 floors.cores) (domains : AreBehind (kind_place a) (domain_number a) 0 floors.domains) (first : IsFirstAtHome m s a) where
    -- the event's own pool
    own_pool : (i : ℕ) (pool : Pool) → home_pool_of_action g s a ≡ Some i → at_place s.pools i ≡ Some pool → IsFirstSibling g s.now pool a
    own_pool i pool home at =
        let place : first.place ≡ i = some_same (sym first.home ∙ home) in
        let there : at_place s.pools i ≡ Some first.pool = subst (λ (k : ℕ). at_place s.pools k ≡ Some first.pool) place first.there in
        subst (λ (x : Pool). IsFirstSibling g s.now x a) (some_same (sym there ∙ at)) first.first

    of_core : (i : ℕ) (pool : Pool) (b : Action) → at_place s.pools i ≡ Some pool → enabled_in g s.now pool b ≡ true → IsOfCore g (core_number g b) b → IsNotAfter a b
    of_core i pool b at on own =
        let home : home_pool_of_action g s b ≡ Some i = home_is s.now i pool b at on in
        let j : ℕ = core_number g b in
        let of_its : home_pool_of_core s j ≡ Some i = sym (home_core g j s b own) ∙ home in
        let inside : j < 64 = core_inside j i of_its in
        let low = kept.each i pool b at on in
        let is = floor_core g floors b own in
        let asked = cores j (omega arith) inside in
        order a b (core_number g a) j (omega (arith, low, is, asked)) (λ less kind. cores_before g a b (stands-machine m s stands).some_processor inside less kind)
        (λ same kind. cores_in_order g s.now pool a b inside same kind (own_pool i pool (home_core g j s a (own_core b inside same kind own) ∙ of_its) at) on)
      where
        own_core : (b : Action) → core_number g b < 64 → core_number g b ≡ core_number g a → kind_place a ≡ kind_place b → IsOfCore g (core_number g b) b → IsOfCore g (core_number g b) a
        own_core b inside same kind own = by a inside same
          where
            by : (x : Action) → core_number g b < 64 → core_number g b ≡ core_number g x → IsOfCore g (core_number g b) x
            by (Moved r) low is = sym is
            by (Block p) low is = sym is
            by (Slice r) low is = sym is
            by (Arrive p) low is = sym is
            by (Decide r) low is = sym is
            by (Leave p) low is = sym is
            by (Save r) low is = sym is
            by x low is = absurd (omega (arith, low, is))

    of_domain : (i : ℕ) (pool : Pool) (b : Action) → at_place s.pools i ≡ Some pool → enabled_in g s.now pool b ≡ true → IsOfDomain (domain_number b) b → IsNotAfter a b
    of_domain i pool b at on own =
        let home : home_pool_of_action g s b ≡ Some i = home_is s.now i pool b at on in
        let j : ℕ = domain_number b in
        let of_its : home_pool_of_domain s j ≡ Some i = sym (home_domain g j s b own) ∙ home in
        let inside : j < 64 = domain_inside j i of_its in
        let low = kept.each i pool b at on in
        let is = floor_domain g floors b own in
        let asked = domains j (omega arith) inside in
        order a b (domain_number a) j (omega (arith, low, is, asked)) (λ less kind. domains_before a b inside less kind)
        (λ same kind. domains_in_order g s.now pool a b inside same kind (own_pool i pool (home_domain g j s a (own_domain a inside same) ∙ of_its) at) on)
      where
        own_domain : (x : Action) → domain_number b < 64 → domain_number b ≡ domain_number x → IsOfDomain (domain_number b) x
        own_domain (DomMoved d) low is = sym is
        own_domain (Wake v) low is = sym is
        own_domain (Repl u) low is = sym is
        own_domain (Refill d) low is = sym is
        own_domain x low is = absurd (omega (arith, low, is))

    in_pool : (i : ℕ) (pool : Pool) (b : Action) → at_place s.pools i ≡ Some pool → enabled_in g s.now pool b ≡ true → IsNotAfter a b
    in_pool i pool b at on = by b on
      where
        by : (x : Action) → enabled_in g s.now pool x ≡ true → IsNotAfter a x
        by Stall e = absurd (cc)
        by Xl e = absurd (cc)
        by (Moved r) e = of_core i pool (Moved r) at e refl
        by (DomMoved d) e = of_domain i pool (DomMoved d) at e refl
        by (Wake v) e = of_domain i pool (Wake v) at e refl
        by (Block p) e = of_core i pool (Block p) at e refl
        by (Slice r) e = of_core i pool (Slice r) at e refl
        by (Repl u) e = of_domain i pool (Repl u) at e refl
        by (Refill d) e = of_domain i pool (Refill d) at e refl
        by (Arrive p) e = of_core i pool (Arrive p) at e refl
        by (Decide r) e = of_core i pool (Decide r) at e refl
        by (Leave p) e = of_core i pool (Leave p) at e refl
        by (Save r) e = of_core i pool (Save r) at e refl

    at_home : (b : Action) → enabled_at_home m s s.now b ≡ true → IsNotAfter a b
    at_home b on = by (home_pool_of_action g s b) on
      where
        by : (o : Option ℕ) → elim o as (λ _. Bool) [ None ↦ false | Some i ↦ test_at s.pools i (λ pool. enabled_in g s.now pool b) ] ≡ true → IsNotAfter a b
        by None may = absurd (cc)
        by (Some i) may = (let p = some-test_at s.pools i (λ pool. enabled_in g s.now pool b) may in in_pool i p.0 b p.1 p.2)

    not_after : (b : Action) → is_action_enabled m s s.now b ≡ true → IsNotAfter a b
    not_after Stall on = absurd (clash (is_action_enabled m s s.now Stall) on quiet.stall)
    not_after Xl on = absurd (clash (is_action_enabled m s s.now Xl) on quiet.command)
    not_after (Moved r) on = elim (or_cases (test_at s.free r.0 (is_free_core_ready s.now)) (enabled_at_home m s s.now (Moved r)) on) [
      | inl free ↦ absurd (let c = some-test_at s.free r.0 (is_free_core_ready s.now) free in clash (is_free_core_ready s.now c.0) c.2 (quiet.free r.0 c.0 c.1))
      | inr home ↦ at_home (Moved r) home
    ]
    not_after b on = at_home b on

    candidate : is_action_enabled m s s.now a ≡ true → Contains (candidates m.config) a
    candidate on = subst (λ (from : Reached). is_action_enabled m from.state s.now a ≡ true → Contains (candidates m.config) a) stands.reached.leads (is_candidate m stands.checked stands.reached.entries stands.reached.run s.now a) on

    pub comes_first : is_action_enabled m s s.now a ≡ true → first_enabled_action m s s.now ≡ Some a
    comes_first on = (first_by_order m.config (is_action_enabled m s s.now) (Some a)).0 (record { there = candidate on; passes = on; first = λ b has may. not_after b may })

  -- the same of what the code has at hand
  pub known_first : (a : Action) (floors : Floors) (kind own owner : ℕ) (before : List ℕ) → kind ≡ kind_place a → own ≡ core_number g a → owner ≡ domain_number a → floors.cores ≡ before → AreKept g s.now s.pools floors → IsToolQuiet m s
      → AreBehind kind own 0 before → AreBehind kind owner 0 floors.domains → IsFirstAtHome m s a → is_action_enabled m s s.now a ≡ true → first_enabled_action m s s.now ≡ Some a
  known_first a floors kind own owner before is_kind is_own is_owner same kept quiet cores domains first on =
      let all_cores : AreBehind (kind_place a) (core_number g a) 0 floors.cores =
      subst (λ (k : ℕ). AreBehind k (core_number g a) 0 floors.cores) is_kind (subst (λ (n : ℕ). AreBehind kind n 0 floors.cores) is_own (subst (λ (xs : List ℕ). AreBehind kind own 0 xs) (sym same) cores)) in
      let all_domains : AreBehind (kind_place a) (domain_number a) 0 floors.domains =
      subst (λ (k : ℕ). AreBehind k (domain_number a) 0 floors.domains) is_kind (subst (λ (n : ℕ). AreBehind kind n 0 floors.domains) is_owner domains) in
      comes_first a floors kept quiet all_cores all_domains first on
