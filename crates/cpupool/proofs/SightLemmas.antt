-- What the tool sees of a pool, and what leaves it as it is.
use Rattle.sched_base.specs.Numbers.{domain as domain_number, moment}
use Rattle.std.proofs.Common.{◌≡◌, ℕ, zero, suc, Bool, true, false, List, [], ◌∷◌, Option, Some, None, length, map, refl, sym, ◌∙◌, ap, cond}
use Rattle.std.specs.Prelude.{is_some, option_map, unwrap_or}
use Rattle.sched_base.specs.declared.PoolId.{PoolId}
use Rattle.sched_base.specs.declared.Span.{Span}
use Rattle.sched_base.specs.declared.UnitId.{UnitId}
use Rattle.sched_model.specs.declared.config.ParamChange.{ParamChange}
use Rattle.sched_model.specs.declared.config.ParamChange.TheVariants as changes
use Rattle.sched_model.specs.declared.state.Domain.{Domain}
use Rattle.sched_model.specs.declared.state.Pool.{Pool}
use Rattle.sched_model.specs.declared.state.Records.{Records}
use Rattle.sched_model.specs.declared.state.Records.TheVariants.{Credit2Pool, RtdsPool, ArincPool}
use Rattle.sched_model.specs.declared.state.Resource.{Resource}
use Rattle.sched_model.specs.declared.state.RtdsUnit.{RtdsUnit}
use Rattle.sched_model.specs.Places.{at_place, change_at, change_each, test_at, numbers_from}
use Rattle.sched_model.specs.Policy as policy
use Rattle.sched_model.specs.Policy.{records_kind, changed_records, unit_rtds_record}
use Rattle.sched_model.specs.Pool.{settled_pool, reconsidered_core, pool_core_set, changed_pool, marked_pool, change_cores_of, is_domain_unit, pending_core, withdrawn_pool, change_domain, paused_pool, unpaused_pool, pool_with_queued_units, domain_unit_count}
use Rattle.sched_model.specs.Commands.{pool_with_rtds_unit, pool_with_rtds}
use Rattle.journal_core.specs.Parts.{UnderWay, core_to, domain_to, pool_outline, first_answer, pool_under_way, core_to_leave, domain_to_move}
use Rattle.cpupool.proofs.AlikeLemmas.{queued_alike}
use Rattle.journal_core.specs.Parts.{is_leaving}

-- how many vCPUs a domain has, and where it is moving
abbrev pub domain_sight : Domain → ℕ × Option PoolId
domain_sight d = (length d.vcpus, d.moving)

-- the tool sees the same of both pools
pub record IsStill (p q : Pool) : Type 0 where
  pub kind : records_kind p.scheduler.records ≡ records_kind q.scheduler.records
  pub cores : map (option_map is_leaving) p.resources ≡ map (option_map is_leaving) q.resources
  pub domains : map (option_map domain_sight) p.domains ≡ map (option_map domain_sight) q.domains

pub still : (p : Pool) → IsStill p p
still p = record { kind = refl; cores = refl; domains = refl }

pub and_then : (p q r : Pool) → IsStill p q → IsStill q r → IsStill p r
and_then p q r first next = record { kind = first.kind ∙ next.kind; cores = first.cores ∙ next.cores; domains = first.domains ∙ next.domains }

-- one place changed, and each
pub map_change : {X Y : Type 0} (g : X → Y) (f : X → X) → ((x : X) → g (f x) ≡ g x) → (i : ℕ) (places : List (Option X)) → map (option_map g) (change_at i f places) ≡ map (option_map g) places
map_change g f same i [] = refl
map_change g f same zero (None ∷ places) = refl
map_change g f same zero (Some x ∷ places) = ap (λ y. Some y ∷ map (option_map g) places) (same x)
map_change g f same (suc i) (x ∷ places) = ap (λ rest. option_map g x ∷ rest) (map_change g f same i places)

map_each : {X Y : Type 0} (g : X → Y) (f : ℕ → X → X) → ((n : ℕ) (x : X) → g (f n x) ≡ g x) → (n : ℕ) (places : List (Option X)) → map (option_map g) (change_each n f places) ≡ map (option_map g) places
map_each g f same n [] = refl
map_each g f same n (None ∷ places) = ap (λ rest. None ∷ rest) (map_each g f same (suc n) places)
map_each {X} {Y} g f same n (Some x ∷ places) =
    ap (λ y. Some y ∷ map (option_map g) (change_each (suc n) f places)) (same n x) ∙ ap (λ (rest : List (Option Y)). Some (g x) ∷ rest) (map_each g f same (suc n) places)

-- the outline, and what is on its way, are as the tool sees the pool
flags_of_sight : {X Y : Type 0} (g : X → Y) (places : List (Option X)) → map is_some places ≡ map is_some (map (option_map g) places)
flags_of_sight g [] = refl
flags_of_sight g (None ∷ places) = ap (λ rest. false ∷ rest) (flags_of_sight g places)
flags_of_sight g (Some x ∷ places) = ap (λ rest. true ∷ rest) (flags_of_sight g places)

sizes_of_sight : (places : List (Option Domain)) → map (option_map (λ (d : Domain). length d.vcpus)) places ≡ map (option_map (λ (e : ℕ × Option PoolId). e.0)) (map (option_map domain_sight) places)
sizes_of_sight [] = refl
sizes_of_sight (None ∷ places) = ap (λ rest. None ∷ rest) (sizes_of_sight places)
sizes_of_sight (Some x ∷ places) = ap (λ rest. Some (length x.vcpus) ∷ rest) (sizes_of_sight places)

pub outline_still : (p q : Pool) → IsStill p q → pool_outline p ≡ pool_outline q
outline_still p q same =
    let kind = same.kind in
    let cores = flags_of_sight is_leaving p.resources ∙ ap (map is_some) same.cores ∙ sym (flags_of_sight is_leaving q.resources) in
    let domains = sizes_of_sight p.domains ∙ ap (map (option_map (λ (e : ℕ × Option PoolId). e.0))) same.domains ∙ sym (sizes_of_sight q.domains) in
    cc (kind, cores, domains)

answer_of_sight : {X Y Z : Type 0} (g : X → Y) (h : ℕ → Y → Option Z) (n : ℕ) (places : List (Option X)) → first_answer (λ k x. h k (g x)) n places ≡ first_answer h n (map (option_map g) places)
answer_of_sight g h n [] = refl
answer_of_sight g h n (None ∷ places) = answer_of_sight g h (suc n) places
answer_of_sight {X} {Y} {Z} g h n (Some x ∷ places) =
    let answer : Option Z → Option Z = λ rest. elim (h n (g x)) [ Some y ↦ Some y | None ↦ rest ] in
    ap answer (answer_of_sight g h (suc n) places)

abbrev leaving_sight : ℕ → Bool → Option UnderWay
leaving_sight r leaving = cond leaving (Some (core_to r None)) None

abbrev moving_sight : ℕ → ℕ × Option PoolId → Option UnderWay
moving_sight d e = option_map (λ i. domain_to d i.0) e.1

pub leaving_still : (i : ℕ) (p q : Pool) → IsStill p q → pool_under_way i p ≡ pool_under_way i q
leaving_still i p q same =
    let answer : Option UnderWay → Option UnderWay → Option UnderWay = λ a b. elim a [ Some way ↦ Some way | None ↦ b ] in
    let cores = answer_of_sight is_leaving leaving_sight 0 p.resources ∙ ap (first_answer leaving_sight 0) same.cores ∙ sym (answer_of_sight is_leaving leaving_sight 0 q.resources) in
    let domains = answer_of_sight domain_sight moving_sight 0 p.domains ∙ ap (first_answer moving_sight 0) same.domains ∙ sym (answer_of_sight domain_sight moving_sight 0 q.domains) in
    ap (λ a. answer a (first_answer domain_to_move 0 p.domains)) cores ∙ ap (answer (first_answer core_to_leave 0 q.resources)) domains

-- what leaves it as it is
cores_still : (p : Pool) (f : ℕ → Resource → Resource) → ((r : ℕ) (c : Resource) → (f r c).leaving ≡ c.leaving) → IsStill (record p { resources = change_each 0 f p.resources }) p
cores_still p f same = record { kind = refl; cores = map_each is_leaving f same 0 p.resources; domains = refl }

one_or : (b : Bool) (c d : Resource) → d.leaving ≡ c.leaving → (cond b d c).leaving ≡ c.leaving
one_or true c d same = same
one_or false c d same = refl

own_or : (b : Bool) (c d : Resource) → d.leaving ≡ c.leaving → (cond b c d).leaving ≡ c.leaving
own_or true c d same = refl
own_or false c d same = same

pub settled_still : (t : ℕ) (p : Pool) → IsStill (settled_pool t p) p
settled_still t p = cores_still p (reconsidered_core t (pool_core_set p) p.scheduler) (λ r c. own_or c.leaving c _ refl)

of_domain_still : (d : ℕ) (f : Resource → Resource) (p : Pool) → ((c : Resource) → (f c).leaving ≡ c.leaving) → IsStill (change_cores_of d f p) p
of_domain_still d f p same = cores_still p (λ r c. cond (is_domain_unit d c.cur) (f c) c) (λ r c. one_or (is_domain_unit d c.cur) c (f c) (same c))

changed_kind : (records : Records) (change : ParamChange) (t : ℕ) → records_kind (changed_records records change t) ≡ records_kind records
changed_kind (Credit2Pool records) (changes.Frame frame) t = refl
changed_kind (RtdsPool domains) (changes.Frame frame) t = refl
changed_kind (ArincPool records) (changes.Frame frame) t = refl
changed_kind records change t = refl

marked_still : (change : ParamChange) (t : ℕ) (p : Pool) → IsStill (marked_pool change t p) p
marked_still (changes.Dom d weight (Some cap)) t p = of_domain_still d.0 (λ c. record c { pending = true; due = Some (moment t) }) p (λ c. refl)
marked_still (changes.Frame frame) t p = cores_still p (λ r c. pending_core c) (λ r c. refl)
marked_still change t p = still p

pub params_still : (change : ParamChange) (t : ℕ) (p : Pool) → IsStill (changed_pool change t p) p
params_still change t p =
    let next : Pool = record p { scheduler = policy.changed_scheduler change t p.scheduler } in
    and_then (marked_pool change t next) next p (marked_still change t next) (record { kind = changed_kind p.scheduler.records change t; cores = refl; domains = refl })

pub withdrawn_still : (d : ℕ) (p : Pool) → IsStill (withdrawn_pool d p) p
withdrawn_still d p =
    let next : Pool = record p { scheduler = policy.scheduler_without_queued d p.scheduler } in
    and_then (withdrawn_pool d p) next p (of_domain_still d pending_core next (λ c. refl)) (record { kind = refl; cores = refl; domains = refl })

domain_still : (d : ℕ) (f : Domain → Domain) (p : Pool) → ((x : Domain) → domain_sight (f x) ≡ domain_sight x) → IsStill (change_domain d f p) p
domain_still d f p same = record { kind = refl; cores = refl; domains = map_change domain_sight f same d p.domains }

pub pause_still : (d : ℕ) (p : Pool) → IsStill (paused_pool d p) p
pause_still d p =
    let next : Pool = change_domain d (λ domain. record domain { paused = true }) p in
    elim (test_at p.domains d (λ domain. domain.paused)) as (λ b. IsStill (cond b p (withdrawn_pool d next)) p) [
      | true ↦ still p
      | false ↦ and_then (withdrawn_pool d next) next p (withdrawn_still d next) (domain_still d (λ domain. record domain { paused = true }) p (λ x. refl))
    ]

pub unpause_still : (g d : ℕ) (p : Pool) → IsStill (unpaused_pool g d p) p
unpause_still g d p =
    let next : Pool = change_domain d (λ x. record x { paused = false }) p in
    let woken : Domain → Pool = λ domain. pool_with_queued_units g d (numbers_from 0 (domain_unit_count g domain)) next in
    elim (at_place p.domains d) as (λ o. IsStill (elim o [ None ↦ p | Some domain ↦ cond domain.paused (woken domain) p ]) p) [
      | None ↦ still p
      | Some domain ↦ elim domain.paused as (λ b. IsStill (cond b (woken domain) p) p) [
        | true ↦
            let same = queued_alike g d (numbers_from 0 (domain_unit_count g domain)) next in
            and_then (woken domain) next p
            (record { kind = same.kind; cores = ap (map (option_map is_leaving)) same.resources; domains = ap (map (option_map domain_sight)) same.domains })
            (domain_still d (λ x. record x { paused = false }) p (λ x. refl))
        | false ↦ still p
      ]
    ]

pub rtds_still : (t d : ℕ) (period budget : Option Span) (extra : Option Bool) (ns : List ℕ) (p : Pool) → IsStill (pool_with_rtds t d period budget extra ns p) p
rtds_still t d period budget extra [] p = still p
rtds_still t d period budget extra (n ∷ ns) p =
    let u : UnitId = record { dom = domain_number d; n = n } in
    let next : Pool = pool_with_rtds_unit t period budget extra u p in
    and_then (pool_with_rtds t d period budget extra ns next) next p (rtds_still t d period budget extra ns next) (one (unit_rtds_record p.scheduler.records u))
  where
    one : (o : Option RtdsUnit) → IsStill (elim o [
      | None ↦ p
      | Some x ↦ changed_pool (changes.«Unit» (record { dom = domain_number d; n = n }) (unwrap_or period (record { 0 = x.next_period })) (unwrap_or budget (record { 0 = x.next_budget })) (unwrap_or extra x.next_extra)) t p
    ]) p
    one None = still p
    one (Some x) = params_still (changes.«Unit» (record { dom = domain_number d; n = n }) (unwrap_or period (record { 0 = x.next_period })) (unwrap_or budget (record { 0 = x.next_budget })) (unwrap_or extra x.next_extra)) t p
