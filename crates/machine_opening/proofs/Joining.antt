-- The domains come in one after another.
use Rattle.std.proofs.Common.{◌≡◌, ◌≤◌, ◌<◌, ◌+◌, ◌-◌, ◌/◌, ℕ, zero, suc, Bool, true, false, List, [], ◌∷◌, sym, ap, subst, ◌∙◌, cond, arith, length, inl, inr}
use Rattle.std.specs.Prelude.{Option, Some, None, drop, map, slice_get, ◌==◌}
use Rattle.std.proofs.lemmas.List.{length-append, length-map}
use Rattle.sched_base.specs.Numbers.{domain}
use Rattle.sched_base.specs.declared.Cores.{Cores}
use Rattle.sched_model.specs.declared.config.Config.{Config}
use Rattle.sched_model.specs.declared.config.DomConfig.{DomConfig}
use Rattle.sched_model.specs.declared.config.PoolConfig.{PoolConfig}
use Rattle.sched_model.specs.declared.state.Pool.{Pool}
use Rattle.sched_model.specs.declared.state.Domain.{Domain}
use Rattle.sched_model.specs.declared.state.Vcpu.{Vcpu}
use Rattle.sched_model.specs.declared.config.ParamChange.TheVariants as changes
use Rattle.sched_model.specs.Actions.{units_from, configured_units}
use Rattle.sched_model.specs.CheckedMachine.{IsCheckedConfig, IsCheckedDomain}
use Rattle.sched_model.specs.Opening.{vcpu_at_opening, pool_with_configured, pool_with_domains, pool_with_pins, domain_at_opening}
use Rattle.sched_model.specs.Places.{numbers_from, put_at}
use Rattle.sched_model.specs.Pool.{changed_pool, settled_pool, domain_unit_count, pool_with_domain}
use Rattle.sched_laws.proofs.EachPlace.{at_place-put_at_other, length_set}
use Rattle.sched_laws.proofs.Opened.{length_map_numbers, with_configured-resources, with_domain-domains, with_domain-resources, with_pins-domains}
use Rattle.sched_ops.specs.Conditions.{has_joined_domain}
use Rattle.sched_ops.specs.Seen.{units_of}
use Rattle.unit_state.specs.Guests.{units_in}
use Rattle.unit_state.specs.Parts.{IsPart}
use Rattle.unit_state.proofs.PlaceLemmas.{units_in-put_at}
use Rattle.pool_core.specs.Seen.{Seen, seen_at, with_spare}
use Rattle.machine_opening.specs.OpeningPool.{IsOpening, IsStill, configured_pool, configured_if, after_joining, units_at_home, units_if_home, units_in_all, with_all, with_pool}
use Rattle.machine_opening.proofs.Guests.{fresh_guests, fresh_still}
use Rattle.machine_opening.proofs.Pinning.{has_come_in, kind_joined, kind_pinned, sets_joined, sets_pinned, units_come_in}
use Rattle.machine_opening.proofs.Steady.{stays}

-- the units of the first domain, and those of the others
pub units_split : (g d : ℕ) (joining : DomConfig) (rest : List DomConfig) → units_in_all g d (joining ∷ rest) ≡ configured_units g joining + units_in_all g (suc d) rest
units_split g d joining rest =
    length-append (map (λ (n : ℕ). _) (numbers_from 0 (configured_units g joining))) (units_from g (suc d) rest)
    ∙ ap (λ (k : ℕ). k + units_in_all g (suc d) rest) (length_map_numbers _ 0 (configured_units g joining))

-- a domain at the opening has as many units as the file says
pub count_fresh : (g : ℕ) (joining : DomConfig) → domain_unit_count g (domain_at_opening joining) ≡ configured_units g joining
count_fresh g joining = ap (λ (k : ℕ). (k + g - 1) / g) (length-map joining.guests vcpu_at_opening)

-- there are as many sets of cores as units, or none
pub pins_fit : (config : Config) (joining : DomConfig) → IsCheckedDomain config joining → length joining.pins ≤ configured_units config.granularity joining
pins_fit config joining checked = elim checked.pins.count [
  | inl none ↦ rw none (omega arith)
  | inr all ↦ let one : units_in_all config.granularity 0 (joining ∷ []) ≡ configured_units config.granularity joining + 0 = units_split config.granularity 0 joining [] in omega (arith, all, one)
]

module _ (config : Config) (home : PoolConfig) (d : ℕ) (joining : DomConfig) (seen : Seen) (opening : IsOpening config home d seen) where
  abbrev after : Pool
  after = pool_with_configured config.granularity d joining seen.pool

  abbrev before_pins : Pool
  before_pins = pool_with_domain config.granularity 0 d (domain_at_opening joining) joining.params seen.pool

  pub still_joined_in : IsStill (after_joining config.granularity d joining seen)
  still_joined_in = record {
    used = opening.still.used;
    early = opening.still.early;
    pending = rw (with_domain-resources config.granularity 0 d (domain_at_opening joining) joining.params seen.pool) opening.still.pending;
  }

  domains_after : after.domains ≡ put_at d (domain_at_opening joining) seen.pool.domains
  domains_after = with_pins-domains d 0 joining.pins before_pins ∙ with_domain-domains config.granularity 0 d (domain_at_opening joining) joining.params seen.pool

  -- the next domain may come
  pub goes_on : d < length config.domains → configured_units config.granularity joining ≤ seen.spare → IsOpening config home (d + 1) (configured_pool config.granularity d joining seen)
  goes_on inside room = record {
    still = record { used = opening.still.used; early = opening.still.early; pending = rw (with_configured-resources config.granularity d joining seen.pool) opening.still.pending };
    granularity = opening.granularity;
    kind = kind_pinned d 0 joining.pins before_pins ∙ kind_joined config.granularity d (domain_at_opening joining) joining.params seen.pool ∙ opening.kind;
    places = ap (λ (list : List (Option Domain)). length list) domains_after ∙ length_set d (Some (domain_at_opening joining)) seen.pool.domains ∙ opening.places;
    sets = sets_pinned d 0 joining.pins before_pins ∙ sets_joined config.granularity d (domain_at_opening joining) joining.params seen.pool ∙ opening.sets;
    absent = λ n later. rw domains_after (at_place-put_at_other d n (domain_at_opening joining) seen.pool.domains (λ e. omega (arith, e, later)) ∙ opening.absent n (omega (arith, later)));
    room =
        let place : d < length seen.pool.domains = (let all = opening.places in omega (arith, all, inside)) in
        let more : units_in seen.granularity (put_at d (domain_at_opening joining) seen.pool.domains) ≡ units_in seen.granularity seen.pool.domains + domain_unit_count seen.granularity (domain_at_opening joining) =
        units_in-put_at seen.granularity d (domain_at_opening joining) seen.pool.domains place (opening.absent d (omega arith)) in
        let now : units_in seen.granularity after.domains ≡ units_in seen.granularity (put_at d (domain_at_opening joining) seen.pool.domains) = ap (units_in seen.granularity) domains_after in
        let count : domain_unit_count seen.granularity (domain_at_opening joining) ≡ configured_units config.granularity joining = ap (λ (g : ℕ). domain_unit_count g (domain_at_opening joining)) opening.granularity ∙ count_fresh config.granularity joining in
        let before = opening.room in
        omega (arith, more, now, count, before, room);
  }

  -- the same where it is passed by
  pub goes_by : IsOpening config home (d + 1) seen
  goes_by = record {
    still = opening.still;
    granularity = opening.granularity;
    kind = opening.kind;
    places = opening.places;
    sets = opening.sets;
    absent = λ n later. opening.absent n (omega (arith, later));
    room = opening.room;
  }

-- the first domain and then the others are all of them
pub first_and_rest : (g i d : ℕ) (joining : DomConfig) (rest : List DomConfig) (seen : Seen) → with_all g i (d + 1) rest (configured_if g i d joining seen) ≡ with_all g i d (joining ∷ rest) seen
first_and_rest g i d joining rest seen = ap (λ (k : ℕ). with_all g i k rest (configured_if g i d joining seen)) next ∙ by_home (joining.home.0 == i)
  where
    next : d + 1 ≡ suc d
    next = omega arith

    by_home : (b : Bool) → with_all g i (suc d) rest (cond b (configured_pool g d joining seen) seen)
        ≡ record seen { pool = pool_with_domains g i (suc d) rest (cond b (pool_with_configured g d joining seen.pool) seen.pool); spare = seen.spare - (cond b (configured_units g joining) 0 + units_at_home g i rest) }
    by_home true =
        let left : seen.spare - configured_units g joining - units_at_home g i rest ≡ seen.spare - (configured_units g joining + units_at_home g i rest) = omega arith in
        ap (λ (k : ℕ). record seen { pool = pool_with_domains g i (suc d) rest (pool_with_configured g d joining seen.pool); spare = k }) left
    by_home false =
        let left : seen.spare - units_at_home g i rest ≡ seen.spare - (0 + units_at_home g i rest) = omega arith in
        ap (λ (k : ℕ). record seen { pool = pool_with_domains g i (suc d) rest seen.pool; spare = k }) left

-- room for the domain and for the others is room for the others then
left_room : (g i d : ℕ) (joining : DomConfig) (rest : List DomConfig) (seen : Seen) → units_at_home g i (joining ∷ rest) ≤ seen.spare → units_at_home g i rest ≤ (configured_if g i d joining seen).spare
left_room g i d joining rest seen = by_home (joining.home.0 == i)
  where
    by_home : (b : Bool) → cond b (configured_units g joining) 0 + units_at_home g i rest ≤ seen.spare → units_at_home g i rest ≤ (cond b (configured_pool g d joining seen) seen).spare
    by_home true room = omega (arith, room)
    by_home false room = omega (arith, room)

-- the domains of one home have no more units than all
pub few_at_home : (g i d : ℕ) (domains : List DomConfig) → units_at_home g i domains ≤ units_in_all g d domains
few_at_home g i d [] = omega arith
few_at_home g i d (joining ∷ rest) =
    let split = units_split g d joining rest in
    let others = few_at_home g i (suc d) rest in
    let first : units_if_home g i joining ≤ configured_units g joining = by_home (joining.home.0 == i) in
    omega (arith, split, others, first)
  where
    by_home : (b : Bool) → ◌≤◌ (cond b (configured_units g joining) 0) (configured_units g joining)
    by_home true = omega arith
    by_home false = omega arith

-- a domain at the opening may come in
pub part_fits : (config : Config) (d : ℕ) (joining : DomConfig) (vcpus : List Vcpu) → vcpus ≡ map vcpu_at_opening joining.guests → d < length config.domains → IsCheckedConfig config → IsCheckedDomain config joining
    → IsPart (record { d = domain d; granularity = config.granularity; domain = record { paused = false; moving = None; vcpus = vcpus } })
part_fits config d joining vcpus same inside checked domain_checked =
    subst (λ (list : List Vcpu). IsPart (record { d = domain d; granularity = config.granularity; domain = record { paused = false; moving = None; vcpus = list } })) (sym same) (record {
      number = (let few = checked.few_domains in omega (arith, inside, few));
      granularity = checked.granularity;
      guests = fresh_guests joining domain_checked.scripts domain_checked.some_guest domain_checked.few_guests;
      still = fresh_still joining domain_checked.scripts;
    })

-- it came in
pub given : (config : Config) (home : PoolConfig) (d : ℕ) (joining : DomConfig) (seen : Seen) (vcpus : List Vcpu) → IsOpening config home d seen → vcpus ≡ map vcpu_at_opening joining.guests
    → let fresh : Domain = record { paused = false; moving = None; vcpus = vcpus } in
    with_spare (seen.spare - domain_unit_count config.granularity fresh) (seen_at 0 (settled_pool 0 (pool_with_domain seen.granularity 0 d fresh joining.params seen.pool)) seen) ≡ after_joining config.granularity d joining seen
given config home d joining seen vcpus opening same =
    let g : ℕ = config.granularity in
    let next : Pool = pool_with_domain g 0 d (domain_at_opening joining) joining.params seen.pool in
    let told : ℕ → Domain → Seen = λ k fresh. with_spare (seen.spare - domain_unit_count g fresh) (seen_at 0 (settled_pool 0 (pool_with_domain k 0 d fresh joining.params seen.pool)) seen) in
    ap (λ (list : List Vcpu). told seen.granularity (record { paused = false; moving = None; vcpus = list })) same
    ∙ ap (λ (k : ℕ). told k (domain_at_opening joining)) opening.granularity
    ∙ ap (λ (s : Seen). with_spare (seen.spare - domain_unit_count g (domain_at_opening joining)) s) (stays next seen opening.still.early (rw (with_domain-resources g 0 d (domain_at_opening joining) joining.params seen.pool) opening.still.pending))
    ∙ ap (λ (k : ℕ). with_spare (seen.spare - k) (with_pool next seen)) (count_fresh g joining)

-- a unit got its set of cores
pub pinned_still : (d n : ℕ) (cores : Cores) (seen : Seen) → IsStill seen → seen_at 0 (settled_pool 0 (changed_pool (changes.Pin (domain d) (Some n) cores) 0 seen.pool)) seen ≡ with_pool (pool_with_pins d n (cores ∷ []) seen.pool) seen
pinned_still d n cores seen still = stays (changed_pool (changes.Pin (domain d) (Some n) cores) 0 seen.pool) seen still.early still.pending

module _ (config : Config) (home : PoolConfig) (d : ℕ) (joining : DomConfig) (seen : Seen) (opening : IsOpening config home d seen) (inside : d < length config.domains) where
  set_place : d < length seen.pool.scheduler.affinity
  set_place = let all = opening.sets in omega (arith, all, inside)

  -- the domain that came in may have its sets of cores
  pub joined_came : has_joined_domain (after_joining config.granularity d joining seen).pool.scheduler d ≡ true
  joined_came = has_come_in config.granularity d (domain_at_opening joining) joining.params seen.pool set_place

  pub units_came : units_of (after_joining config.granularity d joining seen).pool.scheduler d ≡ configured_units config.granularity joining
  units_came = units_come_in config.granularity d (domain_at_opening joining) joining.params seen.pool set_place ∙ count_fresh config.granularity joining

first_left : {X : Type 0} (i : ℕ) (xs : List X) (x : X) → slice_get xs i ≡ Some x → drop i xs ≡ x ∷ drop (suc i) xs
first_left i [] x at = absurd (cc)
first_left zero (y ∷ xs) x at = let same : y ≡ x = cc in ap (λ (z : _). z ∷ xs) same
first_left (suc i) (y ∷ xs) x at = first_left i xs x at

first_and_left : {X : Type 0} (i : ℕ) (xs : List X) (x : X) → slice_get xs i ≡ Some x → drop i xs ≡ x ∷ drop (i + 1) xs
first_and_left i xs x at = let next : suc i ≡ i + 1 = omega arith in first_left i xs x at ∙ ap (λ (k : ℕ). x ∷ drop k xs) next

-- the domains below d came in, and there is room for the others
pub record IsBetween (config : Config) (i : ℕ) (home : PoolConfig) (d : ℕ) (first now : Seen) : Type 0 where
  pub opening : IsOpening config home d now
  pub rest : with_all config.granularity i d (drop d config.domains) now ≡ with_all config.granularity i 0 config.domains first
  pub room : units_at_home config.granularity i (drop d config.domains) ≤ now.spare
  pub inside : d ≤ length config.domains

module _ (config : Config) (i : ℕ) (home : PoolConfig) (first : Seen) where
  module _ (d : ℕ) (now : Seen) (between : IsBetween config i home d first now) where
    pub next_fits : (joining : DomConfig) → slice_get config.domains d ≡ Some joining → units_if_home config.granularity i joining ≤ now.spare
    next_fits joining at =
        let all : units_at_home config.granularity i (joining ∷ drop (d + 1) config.domains) ≤ now.spare = subst (λ (list : List DomConfig). units_at_home config.granularity i list ≤ now.spare) (first_and_left d config.domains joining at) between.room in
        omega (arith, all)

    -- the next came in, or was passed by
    pub between_next : (joining : DomConfig) (next : Seen) → slice_get config.domains d ≡ Some joining → d < length config.domains → next ≡ configured_if config.granularity i d joining now → IsOpening config home (d + 1) next → IsBetween config i home (d + 1) first next
    between_next joining next at inside came opening =
        let g : ℕ = config.granularity in
        let left = first_and_left d config.domains joining at in
        record {
          opening = opening;
          rest =
              ap (λ (s : Seen). with_all g i (d + 1) (drop (d + 1) config.domains) s) came ∙ first_and_rest g i d joining (drop (d + 1) config.domains) now
              ∙ ap (λ (list : List DomConfig). with_all g i d list now) (sym left) ∙ between.rest;
          room =
              subst (λ (s : Seen). units_at_home g i (drop (d + 1) config.domains) ≤ s.spare) (sym came)
              (left_room g i d joining (drop (d + 1) config.domains) now (subst (λ (list : List DomConfig). units_at_home g i list ≤ now.spare) left between.room));
          inside = omega (arith, inside);
        }
