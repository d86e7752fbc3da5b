-- The opening is as configured.
use Rattle.std.proofs.Common.{◌≡◌, ◌≢◌, ◌<◌, ◌≤◌, ◌+◌, ℕ, zero, suc, Bool, true, false, List, [], ◌∷◌, ◌++◌, refl, arith, subst, sym, ap, ◌∙◌, cond, length, ◌⊎◌, inl, inr}
use Rattle.std.specs.Prelude.{Option, Some, None, is_some, map, replicate, slice_get, ◌==◌, ◌-◌, ◌^◌, ◌/◌, ◌%◌, ◌&&◌, ⊤}
use Rattle.std.specs.List.{list_any, AllByRecursion}
use Rattle.std.proofs.Math.Decide.{ℕ_discrete, dec_lt}
use Rattle.std.proofs.Math.Pow.{pow_mono}
use Rattle.std.proofs.lemmas.List.{length-map, length-replicate}
use Rattle.std.proofs.lemmas.List.Elements.{recursion_from_All}
use Rattle.std.proofs.lemmas.Option.{slice_get_within}
use Rattle.sched_base.specs.Numbers.{moment, domain as domain_number, span}
use Rattle.sched_base.specs.declared.Cores.{Cores}
use Rattle.sched_base.specs.declared.Span.{Span}
use Rattle.sched_base.specs.declared.UnitId.{UnitId}
use Rattle.sched_base.proofs.Lists.{each_get}
use Rattle.sched_model.specs.declared.config.Config.{Config}
use Rattle.sched_model.specs.declared.config.DomConfig.{DomConfig}
use Rattle.sched_model.specs.declared.config.DomParams.{DomParams}
use Rattle.sched_model.specs.declared.config.DomParams.TheVariants as dom_params
use Rattle.sched_model.specs.declared.config.ParamChange.TheVariants as changes
use Rattle.sched_model.specs.declared.config.PoolConfig.{PoolConfig}
use Rattle.sched_model.specs.declared.config.PoolParams.{PoolParams}
use Rattle.sched_model.specs.declared.config.PoolParams.TheVariants as pool_params
use Rattle.sched_model.specs.declared.config.SchedKind.{SchedKind}
use Rattle.sched_model.specs.declared.config.SchedKind.TheVariants as kinds
use Rattle.sched_model.specs.declared.machine.Machine.{Machine}
use Rattle.sched_model.specs.declared.state.Credit2Domain.{Credit2Domain}
use Rattle.sched_model.specs.declared.state.Domain.{Domain}
use Rattle.sched_model.specs.declared.state.FreeCore.{FreeCore}
use Rattle.sched_model.specs.declared.state.Pool.{Pool}
use Rattle.sched_model.specs.declared.state.Processor.{Processor}
use Rattle.sched_model.specs.declared.state.Records.{Records}
use Rattle.sched_model.specs.declared.state.Records.TheVariants.{Credit2Pool, RtdsPool, ArincPool, NullPool}
use Rattle.sched_model.specs.declared.state.Resource.{Resource}
use Rattle.sched_model.specs.declared.state.RtdsUnit.{RtdsUnit}
use Rattle.sched_model.specs.declared.state.Vcpu.{Vcpu}
use Rattle.sched_model.specs.Actions.{configured_units}
use Rattle.sched_model.specs.CheckedMachine.{IsChecked, IsCheckedDomain, IsCheckedPool, DomParamsPass, PoolParamsPass}
use Rattle.sched_model.specs.Credit2.{fresh_credit2_domain}
use Rattle.sched_model.specs.Opening.{opening, free_core_at_opening, pool_at_opening, pools_at_opening, pool_with_domains, pool_with_configured, joined_core, machine_core_count, most_pools, domain_at_opening, fresh_pool, vcpu_at_opening}
use Rattle.sched_model.specs.Places.{at_place, put_at, numbers_from}
use Rattle.sched_model.specs.Policy as policy
use Rattle.sched_model.specs.Policy.{changed_records, domain_credit2_record, empty_records, joined_records}
use Rattle.sched_model.specs.Pool.{pool_with_domain, pool_with_queued_units, pool_with_queued_if_off, is_unit_off, domain_unit_count}
use Rattle.sched_model.specs.Rtds.{fresh_rtds_units}
use Rattle.sched_model.specs.State.{has_core_bit, may_unit_run}
use Rattle.sched_laws.proofs.EachPlace.{at_place-put_at, at_place-put_at_other, at_place-replicate, by_cond, length_set}
use Rattle.sched_laws.proofs.Opened.{domains_keep, opened_domain, pins_keep, read_map, read_pools, with_configured-domains, with_domains-resources}
use Rattle.undisturbed_laws.proofs.Steps.{none_in}
use Rattle.undisturbed_laws.specs.Undisturbed.{CoreStays, Credit2DomainStays, DomainStays, HasHome, IsAsConfigured, IsAtHome, KeepsDomains, PoolStays, RecordsStay, RtdsDomainStays, RtdsUnitStays, RunsForEver}

-- the records after a domain of the file joined
queued_records : (g d : ℕ) (ns : List ℕ) (pool : Pool) → (pool_with_queued_units g d ns pool).scheduler.records ≡ pool.scheduler.records
queued_records g d [] pool = refl
queued_records g d (n ∷ ns) pool =
    let u : UnitId = record { dom = domain_number d; n = n } in
    queued_records g d ns (pool_with_queued_if_off g u pool) ∙ by_cond (λ (q : Pool). q.scheduler.records ≡ pool.scheduler.records) (may_unit_run g pool u && is_unit_off pool u) _ _ (λ is. refl) (λ is. refl)

pinned_records : (records : Records) (d n : ℕ) (cores : Cores) → changed_records records (changes.Pin (domain_number d) (Some n) cores) 0 ≡ records
pinned_records (Credit2Pool records) d n cores = refl
pinned_records records d n cores = refl

configured_records : (g d : ℕ) (joining : DomConfig) (pool : Pool) → (pool_with_configured g d joining pool).scheduler.records ≡ joined_records pool.scheduler.records joining.params d (domain_unit_count g (domain_at_opening joining)) 0
configured_records g d joining pool =
    let x : Domain = domain_at_opening joining in
    let put : Pool = record pool { domains = put_at d x pool.domains; scheduler = policy.joined_scheduler d (domain_unit_count g x) joining.params 0 pool.scheduler } in
    pins_keep (λ (p : Pool). p.scheduler.records ≡ (pool_with_domain g 0 d x joining.params pool).scheduler.records) (λ e n cores p same. pinned_records p.scheduler.records e n cores ∙ same) d 0 joining.pins (pool_with_domain g 0 d x joining.params pool) refl
    ∙ queued_records g d (numbers_from 0 (domain_unit_count g x)) put

-- what is seen of the place e, once the domains have joined: what was seen before, or what the domain e brought
module _ {Y : Type 0} (g i e : ℕ) (look : Pool → Y) (other : (d : ℕ) (joining : DomConfig) (pool : Pool) → d ≢ e → look (pool_with_configured g d joining pool) ≡ look pool) where
  seen_later : (d : ℕ) (domains : List DomConfig) (pool : Pool) → e < d → look (pool_with_domains g i d domains pool) ≡ look pool
  seen_later d [] pool past = refl
  seen_later d (joining ∷ domains) pool past =
      let ne : d ≢ e = omega arith in
      seen_later (suc d) domains (cond (joining.home.0 == i) (pool_with_configured g d joining pool) pool) (omega arith)
      ∙ by_cond (λ (p : Pool). look p ≡ look pool) (joining.home.0 == i) _ _ (λ is. other d joining pool ne) (λ is. refl)

  home_same : (a b : ℕ) → (a == b) ≡ true → a ≡ b
  home_same a b is = grind (arith, is)

  seen_not : (d : ℕ) (domains : List DomConfig) (pool : Pool) → ((k : ℕ) (config : DomConfig) → e ≡ d + k → slice_get domains k ≡ Some config → config.home.0 ≡ i → ⊥) → look (pool_with_domains g i d domains pool) ≡ look pool
  seen_not d [] pool none = refl
  seen_not d (joining ∷ domains) pool none =
      seen_not (suc d) domains (cond (joining.home.0 == i) (pool_with_configured g d joining pool) pool) (λ k config at is home. none (suc k) config (omega (arith, at)) is home)
      ∙ by_cond (λ (p : Pool). look p ≡ look pool) (joining.home.0 == i) (pool_with_configured g d joining pool) pool
      (λ is. other d joining pool (λ same. none 0 joining (omega (arith, same)) refl (home_same joining.home.0 i is))) (λ is. refl)

  module _ (I : Pool → Type 0) (keeps : (d : ℕ) (joining : DomConfig) (pool : Pool) → I pool → I (pool_with_configured g d joining pool)) where
    seen_at : (d k : ℕ) (domains : List DomConfig) (pool : Pool) (config : DomConfig) → e ≡ d + k → slice_get domains k ≡ Some config → config.home.0 ≡ i → I pool → (before : Pool) × I before × (look (pool_with_domains g i d domains pool) ≡ look (pool_with_configured g e config before))
    seen_at d k [] pool config at is home here = absurd (cc)
    seen_at d zero (joining ∷ domains) pool config at is home here =
        let same : joining ≡ config = cc in
        let e2 : e ≡ d = omega (arith, at) in
        let low : e < suc d = omega (arith, at) in
        let own : (joining.home.0 == i) ≡ true = is_same joining.home.0 i (ap (λ (c : DomConfig). c.home.0) same ∙ home) in (
          pool,
          here,
          seen_later (suc d) domains (cond (joining.home.0 == i) (pool_with_configured g d joining pool) pool) low
              ∙ ap (λ b. look (cond b (pool_with_configured g d joining pool) pool)) own
              ∙ ap (λ (n : ℕ). look (pool_with_configured g n joining pool)) (sym e2)
              ∙ ap (λ (c : DomConfig). look (pool_with_configured g e c pool)) same,
        )
      where
        is_same : (a b : ℕ) → a ≡ b → (a == b) ≡ true
        is_same a b same = grind arith
    seen_at d (suc k) (joining ∷ domains) pool config at is home here =
        seen_at (suc d) k domains (cond (joining.home.0 == i) (pool_with_configured g d joining pool) pool) config (omega (arith, at)) is home
        (by_cond I (joining.home.0 == i) _ _ (λ own. keeps d joining pool here) (λ other_home. here))

-- the pool's scheduler, its parameters, and a place for each domain
abbrev Heads : ℕ → PoolParams → Records → Type 0
Heads n (pool_params.Credit2 limit) (Credit2Pool records) = (records.limit ≡ limit) × (length records.domains ≡ n)
Heads n pool_params.Rtds (RtdsPool domains) = length domains ≡ n
Heads n (pool_params.Arinc653 frame) (ArincPool records) = ArincPool records ≡ ArincPool (record { frame = frame; installed = 0 })
Heads n pool_params.Null (NullPool kept) = ⊤
Heads n params records = ⊥

heads_empty : (params : PoolParams) (n cores : ℕ) → Heads n params (empty_records params n cores)
heads_empty (pool_params.Credit2 limit) n cores = (refl, length-replicate n None)
heads_empty pool_params.Rtds n cores = length-replicate n None
heads_empty (pool_params.Arinc653 frame) n cores = refl
heads_empty pool_params.Null n cores = tt

heads_joined : (n : ℕ) (params : PoolParams) (records : Records) (dom : DomParams) (d count : ℕ) → Heads n params records → Heads n params (joined_records records dom d count 0)
heads_joined n (pool_params.Credit2 limit) (Credit2Pool records) (dom_params.Credit2 weight percent) d count here = (here.0, length_set d _ records.domains ∙ here.1)
heads_joined n (pool_params.Credit2 limit) (Credit2Pool records) dom d count here = here
heads_joined n pool_params.Rtds (RtdsPool domains) (dom_params.Rtds period budget extra) d count here = length_set d _ domains ∙ here
heads_joined n pool_params.Rtds (RtdsPool domains) dom d count here = here
heads_joined n (pool_params.Arinc653 frame) (ArincPool records) dom d count here = here
heads_joined n pool_params.Null (NullPool kept) dom d count here = here
heads_joined n params records dom d count here = absurd here

-- the records of one domain
abbrev pub rtds_at : Records → ℕ → Option (List RtdsUnit)
rtds_at (RtdsPool domains) d = at_place domains d
rtds_at (Credit2Pool records) d = None
rtds_at (ArincPool records) d = None
rtds_at (NullPool kept) d = None

credit2_other : (records : Records) (dom : DomParams) (d e count : ℕ) → d ≢ e → domain_credit2_record (joined_records records dom d count 0) e ≡ domain_credit2_record records e
credit2_other (Credit2Pool records) (dom_params.Credit2 weight percent) d e count ne = at_place-put_at_other d e _ records.domains (λ same. ne (sym same))
credit2_other (RtdsPool domains) (dom_params.Rtds period budget extra) d e count ne = refl
credit2_other records dom d e count ne = refl

rtds_other : (records : Records) (dom : DomParams) (d e count : ℕ) → d ≢ e → rtds_at (joined_records records dom d count 0) e ≡ rtds_at records e
rtds_other (RtdsPool domains) (dom_params.Rtds period budget extra) d e count ne = at_place-put_at_other d e _ domains (λ same. ne (sym same))
rtds_other (Credit2Pool records) (dom_params.Credit2 weight percent) d e count ne = refl
rtds_other records dom d e count ne = refl

-- what a domain that joins brings to its place
credit2_brought : (config : Config) (kind : SchedKind) (limit n : ℕ) (records : Records) (dom : DomParams) (d count : ℕ) → Heads n (pool_params.Credit2 limit) records → PoolParamsPass config kind (pool_params.Credit2 limit) → DomParamsPass kind dom → d < n
    → (x : Credit2Domain) × (domain_credit2_record (joined_records records dom d count 0) d ≡ Some x) × (dom ≡ dom_params.Credit2 x.weight x.cap) × (length x.units ≡ count) × (x ≡ fresh_credit2_domain x.weight x.cap count 0)
credit2_brought config kinds.Credit2 limit n (Credit2Pool records) (dom_params.Credit2 weight percent) d count heads pass fits low =
    (fresh_credit2_domain weight percent count 0, at_place-put_at d (fresh_credit2_domain weight percent count 0) records.domains (let e = heads.1 in omega (arith, e, low)), refl, length-replicate count _, refl)
credit2_brought config kinds.Credit2 limit n (Credit2Pool records) dom d count heads pass fits low = absurd fits
credit2_brought config kinds.Credit2 limit n records dom d count heads pass fits low = absurd heads
credit2_brought config kind limit n records dom d count heads pass fits low = absurd pass

each_replicate : {X : Type 0} (P : X → Type 0) (n : ℕ) (x : X) → P x → AllByRecursion P (replicate n x)
each_replicate P zero x here = tt
each_replicate P (suc n) x here = (here, each_replicate P n x here)

-- the records of a domain's units as they are at the opening
pub record IsFreshRtds (joining : DomConfig) (count : ℕ) (x : List RtdsUnit) : Type 0 where
  pub period : ℕ
  pub budget : ℕ
  pub extra : Bool
  pub params : joining.params ≡ dom_params.Rtds (span period) (span budget) extra
  pub is : x ≡ fresh_rtds_units period budget extra count 0

rtds_brought : (config : Config) (joining : DomConfig) (kind : SchedKind) (n : ℕ) (records : Records) (dom : DomParams) (d count : ℕ) → joining.params ≡ dom → Heads n pool_params.Rtds records → PoolParamsPass config kind pool_params.Rtds → DomParamsPass kind dom → d < n
    → (x : List RtdsUnit) × (rtds_at (joined_records records dom d count 0) d ≡ Some x) × (length x ≡ count) × AllByRecursion (RtdsUnitStays joining) x × IsFreshRtds joining count x
rtds_brought config joining kinds.Rtds n (RtdsPool domains) (dom_params.Rtds period budget extra) d count is heads pass fits low = (
  fresh_rtds_units period.0 budget.0 extra count 0,
  at_place-put_at d (fresh_rtds_units period.0 budget.0 extra count 0) domains (omega (arith, heads, low)),
  length-replicate count _,
  each_replicate (RtdsUnitStays joining) count _ (record { params = is; next = is }),
  record { period = period.0; budget = budget.0; extra = extra; params = is; is = refl },
)
rtds_brought config joining kinds.Rtds n (RtdsPool domains) dom d count is heads pass fits low = absurd fits
rtds_brought config joining kinds.Rtds n records dom d count is heads pass fits low = absurd heads
rtds_brought config joining kind n records dom d count is heads pass fits low = absurd pass

no_credit2 : (params : PoolParams) (n cores d : ℕ) → domain_credit2_record (empty_records params n cores) d ≡ None
no_credit2 (pool_params.Credit2 limit) n cores d = at_place-replicate n d
no_credit2 params n cores d = refl

no_rtds : (params : PoolParams) (n cores d : ℕ) → rtds_at (empty_records params n cores) d ≡ None
no_rtds pool_params.Rtds n cores d = at_place-replicate n d
no_rtds params n cores d = refl

-- what stands at a place of a list made from the numbers
map_at : {X : Type 0} (f : ℕ → Option X) (k n r : ℕ) → r < n → at_place (map f (numbers_from k n)) r ≡ f (k + r)
map_at f k zero r low = absurd (omega (arith, low))
map_at f k (suc n) zero low = (let e : k ≡ k + 0 = omega arith in ap f e)
map_at f k (suc n) (suc r) low = (let e : suc k + r ≡ k + suc r = omega arith in map_at f (suc k) n r (omega (arith, low)) ∙ ap f e)

map_past : {X : Type 0} (f : ℕ → Option X) (k n r : ℕ) → n ≤ r → at_place (map f (numbers_from k n)) r ≡ None
map_past f k zero r high = at_place-replicate 0 r
map_past f k (suc n) zero high = absurd (omega (arith, high))
map_past f k (suc n) (suc r) high = map_past f (suc k) n r (omega (arith, high))

no_high_bit : (cores n r : ℕ) → cores < 2 ^ n → n ≤ r → has_core_bit cores r ≡ false
no_high_bit cores n r low high = ap (λ k. k % 2 == 1) (div_low cores (2 ^ r) (within (2 ^ n) (2 ^ r) low (pow_mono high)))
  where
    within : (a b : ℕ) → cores < a → a ≤ b → cores < b
    within a b low le = omega (arith, low, le)

    div_low : (a b : ℕ) → a < b → a / b ≡ 0
    div_low a b low = grind (arith, low)

is_some_cond : {X : Type 0} (b : Bool) (x : X) → is_some (cond b (Some x) None) ≡ b
is_some_cond true x = refl
is_some_cond false x = refl

joined_unstalled : (n : ℕ) → AllByRecursion (λ (p : Processor). p.stall_end.0 ≡ 0) (joined_core (replicate n (moment 0))).processors
joined_unstalled zero = tt
joined_unstalled (suc n) = (refl, joined_unstalled n)

opened_scripts : (scripts : List (List Span)) → map (λ (y : Vcpu). y.script) (map vcpu_at_opening scripts) ≡ scripts
opened_scripts [] = refl
opened_scripts (script ∷ scripts) = ap (λ xs. script ∷ xs) (opened_scripts scripts)

opened_endless : (scripts : List (List Span)) → AllByRecursion (λ (y : Vcpu). y.script ≡ [] → RunsForEver y) (map vcpu_at_opening scripts)
opened_endless [] = tt
opened_endless (script ∷ scripts) = (λ is. record { awake = refl; endless = none_in script 0 is }, opened_endless scripts)

opened_units : (g : ℕ) (c : DomConfig) → domain_unit_count g (domain_at_opening c) ≡ configured_units g c
opened_units g c = ap (λ n. (n + g - 1) / g) (length-map c.guests vcpu_at_opening)

module _ (m : Machine) (checked : IsChecked m) (i : ℕ) (p : PoolConfig) (is : slice_get m.config.pools i ≡ Some p) where
  abbrev count : ℕ
  count = length m.config.domains

  abbrev core_of : ℕ → Option Resource
  core_of r = cond (has_core_bit p.cores r) (Some (joined_core (replicate m.config.granularity (moment 0)))) None

  abbrev empty : Pool
  empty = record (fresh_pool m.config p.params) { resources = map core_of (numbers_from 0 (machine_core_count m.config)) }

  abbrev whole : Pool
  whole = pool_at_opening m.config i p

  abbrev HasHeads : Pool → Type 0
  HasHeads q = Heads count p.params q.scheduler.records

  heads_kept : (d : ℕ) (joining : DomConfig) (q : Pool) → HasHeads q → HasHeads (pool_with_configured m.config.granularity d joining q)
  heads_kept d joining q here = subst (Heads count p.params) (sym (configured_records m.config.granularity d joining q)) (heads_joined count p.params q.scheduler.records joining.params d (domain_unit_count m.config.granularity (domain_at_opening joining)) here)

  heads : HasHeads whole
  heads = domains_keep m.config.granularity i HasHeads 0 m.config.domains (λ k joining q at home here. heads_kept (0 + k) joining q here) empty (heads_empty p.params count (machine_core_count m.config))

  passed_pool : IsCheckedPool m.config p
  passed_pool = each_get (IsCheckedPool m.config) m.config.pools i p (recursion_from_All (IsCheckedPool m.config) m.config.pools checked.config.pools) is

  passed_domain : (d : ℕ) (c : DomConfig) → HasHome m i d c → DomParamsPass p.kind c.params
  passed_domain d c home =
      let own = each_get (IsCheckedDomain m.config) m.config.domains d c (recursion_from_All (IsCheckedDomain m.config) m.config.domains checked.config.domains) home.there in
      (own.home_pool p (subst (λ k. slice_get m.config.pools k ≡ Some p) (sym home.home) is)).1

  -- the records of a domain whose home is here, and of no other
  abbrev credit2_seen : ℕ → Pool → Option Credit2Domain
  credit2_seen d q = domain_credit2_record q.scheduler.records d

  abbrev rtds_seen : ℕ → Pool → Option (List RtdsUnit)
  rtds_seen d q = rtds_at q.scheduler.records d

  credit2_unseen : (e d : ℕ) (joining : DomConfig) (q : Pool) → d ≢ e → credit2_seen e (pool_with_configured m.config.granularity d joining q) ≡ credit2_seen e q
  credit2_unseen e d joining q ne =
      ap (λ (r : Records). domain_credit2_record r e) (configured_records m.config.granularity d joining q) ∙ credit2_other q.scheduler.records joining.params d e (domain_unit_count m.config.granularity (domain_at_opening joining)) ne

  rtds_unseen : (e d : ℕ) (joining : DomConfig) (q : Pool) → d ≢ e → rtds_seen e (pool_with_configured m.config.granularity d joining q) ≡ rtds_seen e q
  rtds_unseen e d joining q ne =
      ap (λ (r : Records). rtds_at r e) (configured_records m.config.granularity d joining q) ∙ rtds_other q.scheduler.records joining.params d e (domain_unit_count m.config.granularity (domain_at_opening joining)) ne

  own_credit2 : (limit : ℕ) → p.params ≡ pool_params.Credit2 limit → (d : ℕ) (c : DomConfig) → HasHome m i d c → (x : Credit2Domain) × (credit2_seen d whole ≡ Some x) × Credit2DomainStays m.config.granularity c x × (x ≡ fresh_credit2_domain x.weight x.cap (configured_units m.config.granularity c) 0)
  own_credit2 limit kind d c home =
      let units : ℕ = domain_unit_count m.config.granularity (domain_at_opening c) in
      let r = seen_at m.config.granularity i d (credit2_seen d) (λ e joining q ne. credit2_unseen d e joining q ne) HasHeads heads_kept 0 d m.config.domains empty c (omega arith) home.there home.home (heads_empty p.params count (machine_core_count m.config)) in
      let before : Pool = r.0 in
      let x = credit2_brought m.config p.kind limit count before.scheduler.records c.params d units (subst (λ params. Heads count params before.scheduler.records) kind r.1) (subst (PoolParamsPass m.config p.kind) kind passed_pool.params) (passed_domain d c home) (slice_get_within m.config.domains d c home.there) in
      (x.0, r.2 ∙ ap (λ (s : Records). domain_credit2_record s d) (configured_records m.config.granularity d c before) ∙ x.1, record { params = x.2; units = x.3 ∙ opened_units m.config.granularity c }, x.4 ∙ ap (λ n. fresh_credit2_domain x.0.weight x.0.cap n 0) (opened_units m.config.granularity c))

  own_rtds : p.params ≡ pool_params.Rtds → (d : ℕ) (c : DomConfig) → HasHome m i d c → (x : List RtdsUnit) × (rtds_seen d whole ≡ Some x) × RtdsDomainStays m.config.granularity c x × IsFreshRtds c (configured_units m.config.granularity c) x
  own_rtds kind d c home =
      let units : ℕ = domain_unit_count m.config.granularity (domain_at_opening c) in
      let r = seen_at m.config.granularity i d (rtds_seen d) (λ e joining q ne. rtds_unseen d e joining q ne) HasHeads heads_kept 0 d m.config.domains empty c (omega arith) home.there home.home (heads_empty p.params count (machine_core_count m.config)) in
      let before : Pool = r.0 in
      let x = rtds_brought m.config c p.kind count before.scheduler.records c.params d units refl (subst (λ params. Heads count params before.scheduler.records) kind r.1) (subst (PoolParamsPass m.config p.kind) kind passed_pool.params) (passed_domain d c home) (slice_get_within m.config.domains d c home.there) in
      (x.0, r.2 ∙ ap (λ (s : Records). rtds_at s d) (configured_records m.config.granularity d c before) ∙ x.1, record { count = x.2 ∙ opened_units m.config.granularity c; units = x.3 }, subst (λ n. IsFreshRtds c n x.0) (opened_units m.config.granularity c) x.4)

  -- the domain's home is here, or what is seen of it is what was seen of the empty pool
  at_home_or : {Y : Type 0} (d : ℕ) (look : Pool → Y) → ((e : ℕ) (joining : DomConfig) (q : Pool) → e ≢ d → look (pool_with_configured m.config.granularity e joining q) ≡ look q) → IsAtHome m i d ⊎ (look whole ≡ look empty)
  at_home_or d look other = by_config (slice_get m.config.domains d) refl
    where
      by_config : (o : Option DomConfig) → slice_get m.config.domains d ≡ o → IsAtHome m i d ⊎ (look whole ≡ look empty)
      by_config None none =
          inr (seen_not m.config.granularity i d look other 0 m.config.domains empty (λ k c at there home. (let e : d ≡ k = omega (arith, at) in let s : slice_get m.config.domains d ≡ Some c = subst (λ n. slice_get m.config.domains n ≡ Some c) (sym e) there in absurd (cc))))
      by_config (Some c) there = elim (ℕ_discrete c.home.0 i) [
        | yes home ↦ inl (c, record { there = there; home = home })
        | no away ↦ inr (seen_not m.config.granularity i d look other 0 m.config.domains empty
            (λ k x at there2 home. (let e : d ≡ k = omega (arith, at) in let s : slice_get m.config.domains d ≡ Some x = subst (λ n. slice_get m.config.domains n ≡ Some x) (sym e) there2 in let same : c ≡ x = cc in away (ap (λ (y : DomConfig). y.home.0) same ∙ home))))
      ]

  -- what the scheduler keeps of a domain at the opening
  pub fresh_credit2 : (limit : ℕ) → p.params ≡ pool_params.Credit2 limit → (d : ℕ) (c : DomConfig) → HasHome m i d c → (x : Credit2Domain) × (domain_credit2_record (pool_at_opening m.config i p).scheduler.records d ≡ Some x) × Credit2DomainStays m.config.granularity c x × (x ≡ fresh_credit2_domain x.weight x.cap (configured_units m.config.granularity c) 0)
  fresh_credit2 = own_credit2

  pub fresh_rtds : p.params ≡ pool_params.Rtds → (d : ℕ) (c : DomConfig) → HasHome m i d c → (x : List RtdsUnit) × (rtds_at (pool_at_opening m.config i p).scheduler.records d ≡ Some x) × RtdsDomainStays m.config.granularity c x × IsFreshRtds c (configured_units m.config.granularity c) x
  fresh_rtds = own_rtds

  others_credit2 : (d : ℕ) (x : Credit2Domain) → credit2_seen d whole ≡ Some x → IsAtHome m i d
  others_credit2 d x at = elim (at_home_or d (credit2_seen d) (λ e joining q ne. credit2_unseen d e joining q ne)) [
    | inl home ↦ home
    | inr same ↦ (let none = no_credit2 p.params count (machine_core_count m.config) d in absurd (cc (at, same, none)))
  ]

  others_rtds : (d : ℕ) (x : List RtdsUnit) → rtds_seen d whole ≡ Some x → IsAtHome m i d
  others_rtds d x at = elim (at_home_or d (rtds_seen d) (λ e joining q ne. rtds_unseen d e joining q ne)) [
    | inl home ↦ home
    | inr same ↦ (let none = no_rtds p.params count (machine_core_count m.config) d in absurd (cc (at, same, none)))
  ]

  records_by_kind : (params : PoolParams) (records : Records) → Heads count params records
      → ((limit : ℕ) → params ≡ pool_params.Credit2 limit → (d : ℕ) (c : DomConfig) → HasHome m i d c → (x : Credit2Domain) × (domain_credit2_record records d ≡ Some x) × Credit2DomainStays m.config.granularity c x × (x ≡ fresh_credit2_domain x.weight x.cap (configured_units m.config.granularity c) 0))
      → (params ≡ pool_params.Rtds → (d : ℕ) (c : DomConfig) → HasHome m i d c → (x : List RtdsUnit) × (rtds_at records d ≡ Some x) × RtdsDomainStays m.config.granularity c x × IsFreshRtds c (configured_units m.config.granularity c) x)
      → ((d : ℕ) (x : Credit2Domain) → domain_credit2_record records d ≡ Some x → IsAtHome m i d) → ((d : ℕ) (x : List RtdsUnit) → rtds_at records d ≡ Some x → IsAtHome m i d) → RecordsStay m i params records
  records_by_kind (pool_params.Credit2 limit) (Credit2Pool records) head of_credit2 of_rtds in_credit2 in_rtds = record {
    limit = head.0;
    domains = record { own = λ d c home. (let x = of_credit2 limit refl d c home in record { item = x.0; at = x.1; meets = x.2 }); others = in_credit2 };
  }
  records_by_kind pool_params.Rtds (RtdsPool domains) head of_credit2 of_rtds in_credit2 in_rtds = record { own = λ d c home. (let x = of_rtds refl d c home in record { item = x.0; at = x.1; meets = x.2 }); others = in_rtds }
  records_by_kind (pool_params.Arinc653 frame) (ArincPool records) head of_credit2 of_rtds in_credit2 in_rtds = cc
  records_by_kind pool_params.Null (NullPool kept) head of_credit2 of_rtds in_credit2 in_rtds = tt
  records_by_kind params records head of_credit2 of_rtds in_credit2 in_rtds = absurd head

  -- the domains, and no other
  abbrev domain_seen : ℕ → Pool → Option Domain
  domain_seen d q = at_place q.domains d

  domain_unseen : (e d : ℕ) (joining : DomConfig) (q : Pool) → d ≢ e → domain_seen e (pool_with_configured m.config.granularity d joining q) ≡ domain_seen e q
  domain_unseen e d joining q ne = ap (λ (xs : List (Option Domain)). at_place xs e) (with_configured-domains m.config.granularity d joining q) ∙ at_place-put_at_other d e (domain_at_opening joining) q.domains (λ same. ne (sym same))

  abbrev HasPlaces : Pool → Type 0
  HasPlaces q = length q.domains ≡ count

  places_kept : (d : ℕ) (joining : DomConfig) (q : Pool) → HasPlaces q → HasPlaces (pool_with_configured m.config.granularity d joining q)
  places_kept d joining q here = ap length (with_configured-domains m.config.granularity d joining q) ∙ length_set d (Some (domain_at_opening joining)) q.domains ∙ here

  domains_open : KeepsDomains m i DomainStays whole.domains
  domains_open = record {
    own = λ d c home. (
        let r = seen_at m.config.granularity i d (domain_seen d) (λ e joining q ne. domain_unseen d e joining q ne) HasPlaces places_kept 0 d m.config.domains empty c (omega arith) home.there home.home (length-replicate count None) in
        let before : Pool = r.0 in
        let low : d < count = slice_get_within m.config.domains d c home.there in
        let places : length before.domains ≡ count = r.1 in
        record {
          item = domain_at_opening c;
          at = r.2 ∙ ap (λ (xs : List (Option Domain)). at_place xs d) (with_configured-domains m.config.granularity d c before) ∙ at_place-put_at d (domain_at_opening c) before.domains (omega (arith, low, places));
          meets = record { runs = refl; stays = refl; scripts = opened_scripts c.guests; endless = opened_endless c.guests };
        });
    others = λ d x at. (let r = opened_domain m.config i p d x at in (r.0, record { there = r.1; home = r.2 }));
  }

  core_at : (r : ℕ) → at_place whole.resources r ≡ at_place (map core_of (numbers_from 0 (machine_core_count m.config))) r
  core_at r = ap (λ (xs : List (Option Resource)). at_place xs r) (with_domains-resources m.config.granularity i 0 m.config.domains empty)

  cores_open : (r : ℕ) → is_some (at_place whole.resources r) ≡ has_core_bit p.cores r
  cores_open r =
      ap is_some (core_at r) ∙ elim (dec_lt r (machine_core_count m.config)) as (λ _. is_some (at_place (map core_of (numbers_from 0 (machine_core_count m.config))) r) ≡ has_core_bit p.cores r) [
        | yes low ↦ ap is_some (map_at core_of 0 (machine_core_count m.config) r low) ∙ (let e : 0 + r ≡ r = omega arith in ap (λ k. is_some (core_of k)) e) ∙ is_some_cond (has_core_bit p.cores r) (joined_core (replicate m.config.granularity (moment 0)))
        | no high ↦ ap is_some (map_past core_of 0 (machine_core_count m.config) r (omega (arith, high))) ∙ sym (no_high_bit p.cores (machine_core_count m.config) r passed_pool.cores (omega (arith, high)))
      ]

  core_stays : (r : ℕ) (c : Resource) → at_place whole.resources r ≡ Some c → CoreStays c
  core_stays r c at =
      by_cond (λ (o : Option Resource). o ≡ Some c → CoreStays c) (has_core_bit p.cores (0 + r)) (Some (joined_core (replicate m.config.granularity (moment 0)))) None
      (λ has e. (let same : joined_core (replicate m.config.granularity (moment 0)) ≡ c = cc in subst CoreStays same (record { stays = refl; unstalled = joined_unstalled m.config.granularity })))
      (λ has e. absurd (cc)) (read_map core_of 0 (machine_core_count m.config) r c (sym (core_at r) ∙ at))

  pool_opens : PoolStays m i p whole
  pool_opens = record {
    cores = cores_open;
    cores_stay = core_stays;
    domains = domains_open;
    records = records_by_kind p.params whole.scheduler.records heads own_credit2 own_rtds others_credit2 others_rtds;
    affinity = refl;
  }

pools_there : (config : Config) (k spare : ℕ) (pools : List PoolConfig) (i : ℕ) (p : PoolConfig) → slice_get pools i ≡ Some p → at_place (pools_at_opening config k pools ++ replicate spare None) i ≡ Some (pool_at_opening config (k + i) p)
pools_there config k spare [] i p is = absurd (cc)
pools_there config k spare (q ∷ pools) zero p is = (let same : q ≡ p = cc in let e : k ≡ k + 0 = omega arith in ap (λ (x : PoolConfig). Some (pool_at_opening config k x)) same ∙ ap (λ (n : ℕ). Some (pool_at_opening config n p)) e)
pools_there config k spare (q ∷ pools) (suc i) p is = (let e : suc k + i ≡ k + suc i = omega arith in pools_there config (suc k) spare pools i p is ∙ ap (λ (n : ℕ). Some (pool_at_opening config n p)) e)

pub configured_opening : (m : Machine) → IsChecked m → IsAsConfigured m (opening m)
configured_opening m checked = record {
  pools = λ i p is. record {
    item = pool_at_opening m.config i p;
    at = pools_there m.config 0 (most_pools - length m.config.pools) m.config.pools i p is ∙ (let e : 0 + i ≡ i = omega arith in ap (λ (n : ℕ). Some (pool_at_opening m.config n p)) e);
    meets = pool_opens m checked i p is;
  };
  others = λ i pool at. (let r = read_pools m.config 0 (most_pools - length m.config.pools) m.config.pools i pool at in (r.0, r.1));
  free = λ r c at.
      by_cond (λ (o : Option FreeCore). o ≡ Some c → c.target ≡ None) (list_any (λ pool. has_core_bit pool.cores (0 + r)) m.config.pools) None (Some (record { target = None; stall_ends = replicate m.config.granularity (moment 0) }))
      (λ is e. absurd (cc)) (λ is e. (let same : ◌≡◌ {A = FreeCore} (record { target = None; stall_ends = replicate m.config.granularity (moment 0) }) c = cc in sym (ap (λ (x : FreeCore). x.target) same)))
      (read_map (free_core_at_opening m.config) 0 (machine_core_count m.config) r c at);
}
