-- The law of ranges in its own words.
use Rattle.std.proofs.Common.{◌≡◌, ◌<◌, ◌≤◌, ◌+◌, ◌-◌, ◌*◌, ℕ, List, refl, arith, subst, sym, inl, inr, length, suc, ◌/◌, ◌%◌, ◌∷◌, []}
use Rattle.std.specs.Prelude.{Option, Some, None, unwrap_or, pos, neg_ℤ, ◌≤ℤ◌, slice_get}
use Rattle.std.proofs.lemmas.List.Elements.{All-from_recursion, recursion_from_All}
use Rattle.sched_base.specs.declared.Moment.{Moment}
use Rattle.sched_base.specs.declared.Span.{Span}
use Rattle.sched_base.proofs.Lists.{each_get, AllByRecursion-map}
use Rattle.sched_model.specs.declared.event.Entry.{Entry}
use Rattle.sched_model.specs.declared.machine.Machine.{Machine}
use Rattle.sched_model.specs.declared.state.Pool.{Pool}
use Rattle.sched_model.specs.declared.state.Domain.{Domain}
use Rattle.sched_model.specs.declared.state.Vcpu.{Vcpu}
use Rattle.sched_model.specs.declared.state.Processor.{Processor}
use Rattle.sched_model.specs.declared.state.Resource.{Resource}
use Rattle.sched_model.specs.declared.state.RtdsUnit.{RtdsUnit}
use Rattle.sched_model.specs.declared.state.Records.{Records}
use Rattle.sched_model.specs.declared.state.Records.TheVariants.{Credit2Pool, RtdsPool, ArincPool, NullPool}
use Rattle.sched_model.specs.Places.{at_place}
use Rattle.sched_model.specs.Opening.{machine_core_count}
use Rattle.sched_model.specs.Runs.{IsRun}
use Rattle.sched_model.specs.CheckedMachine.{IsChecked, IsCheckedDomain, IsCheckedScript, most_span}
use Rattle.sched_laws.specs.StateLaws.{state_after}
use Rattle.sched_laws.proofs.Lists.{if_some, item_below}
use Rattle.sched_laws.proofs.SiblingsLaw.{some_processor}
use Rattle.sched_laws.proofs.Reached as reached
use Rattle.state_ranges.specs.Ranges.{IsNear, IsPast, VcpuInRange, DomainInRange, IsUnitOf, CoreInRange, RtdsInRange, Credit2UnitInRange, Credit2InRange, IsFrame, RecordsInRange, PoolInRange, StateInRange}
use Rattle.state_ranges.proofs.Vcpus.{VcpuFits}
use Rattle.std.proofs.lemmas.Int.{ints}
use Rattle.sched_model.specs.declared.state.Credit2Unit.{Credit2Unit}
use Rattle.sched_model.specs.declared.state.Credit2Domain.{Credit2Domain}
use Rattle.state_ranges.specs.Fits.{UnitFits, Credit2DomainFits}
use Rattle.state_ranges.specs.Fits.{RtdsFits}
use Rattle.state_ranges.proofs.RecordRanges.{RecordsFit}
use Rattle.state_ranges.proofs.RangesWalk.{DomFits, CoreFits, PoolFits}
use Rattle.sched_laws.proofs.Fewer.{no_longer}
use Rattle.state_ranges.proofs.Queue.{unit_is_there}
use Rattle.state_ranges.proofs.Places.{places_in_runs}
use Rattle.state_ranges.proofs.RangesLaw.{StateFits, fits_in_runs}
use Rattle.std.proofs.lemmas.Nat.{div-add-mod'}
use Rattle.std.proofs.Math.Decide.{dec_le}
use Rattle.sched_model.specs.declared.state.Credit2Records.{Credit2Records}
use Rattle.sched_laws.proofs.EachPlace.{place_below}
use Rattle.state_ranges.specs.Budgets.{lasts, helds, HeldFits, BudgetFits, Nobody}
use Rattle.state_ranges.proofs.BudgetWalk.{CountIs, CreditFits}
use Rattle.std.specs.List.{AllByRecursion}

vcpu_in_range : (t : ℕ) (script : List Span) (x : Vcpu) → IsCheckedScript script → VcpuFits t script x → VcpuInRange t script x
vcpu_in_range t script x checked fits = record {
  follows = fits.follows;
  place = by_sleep x.asleep_until refl;
  asleep = if_some x.asleep_until (IsNear t) fits.until;
  work = if_some x.work_left (λ (w : Span). w.0 ≤ most_span) fits.work;
  started = if_some x.started (IsPast t) fits.started;
}
  where
    by_sleep : (o : Option Moment) → x.asleep_until ≡ o → x.place < 64
    by_sleep None is = elim (fits.awake is) [ inl none ↦ (let z = none.1 in omega (arith, z)) | inr even ↦ (let l = even.1 in let f = checked.few in omega (arith, l, f)) ]
    by_sleep (Some a) is = (let odd = fits.odd a is in let l = odd.1 in let f = checked.few in omega (arith, l, f))

-- a level rises once a budget is used up, and a budget is 10,000 at least
pub rtds_in_range : (t : ℕ) (x : RtdsUnit) → RtdsFits t x → RtdsInRange t x
rtds_in_range t x fits = record {
  period = fits.period;
  budget = fits.budget;
  next_period = fits.next_period;
  next_budget = fits.next_budget;
  left = fits.left;
  level = (
      let least = fits.budget.least in
      let split : x.budget ≡ 10000 + (x.budget - 10000) = omega (arith, least) in
      let product : x.level * x.budget ≡ x.level * 10000 + x.level * (x.budget - 10000) = spread x.level x.budget (x.budget - 10000) split in
      let spent = fits.spent in
      let last = fits.last in
      omega (arith, product, spent, last));
  deadline = fits.deadline;
  burned = if_some x.burned (λ (b : ℕ). b ≤ t) (λ b is. subst (λ (o : Option ℕ). unwrap_or o t ≤ t) is fits.last);
}
  where
    spread : (l b k : ℕ) → b ≡ 10000 + k → l * b ≡ l * 10000 + l * k
    spread l b k e = subst (λ (z : ℕ). l * z ≡ l * 10000 + l * k) (sym e) (grind arith)

-- what the units of a domain hold, and the moments of their last charges, added up
helds_most : (t cap : ℕ) (ys : List Credit2Unit) → ((n : ℕ) (y : Credit2Unit) → slice_get ys n ≡ Some y → HeldFits t cap ⊥ ⊥ y) → helds ys ≤ℤ pos (640000000 * length ys)
helds_most t cap [] fits = omega (arith, ints)
helds_most t cap (y ∷ ys) fits = (let a = (fits 0 y refl).most in let b = helds_most t cap ys (λ n z at. fits (suc n) z at) in omega (arith, ints, a, b))

helds_least : (t cap : ℕ) (ys : List Credit2Unit) → ((n : ℕ) (y : Credit2Unit) → slice_get ys n ≡ Some y → HeldFits t cap ⊥ ⊥ y) → neg_ℤ (pos (lasts t ys)) ≤ℤ helds ys
helds_least t cap [] fits = omega (arith, ints)
helds_least t cap (y ∷ ys) fits = (let a = (fits 0 y refl).least in let b = helds_least t cap ys (λ n z at. fits (suc n) z at) in omega (arith, ints, a, b))

lasts_most : (t cap : ℕ) (ys : List Credit2Unit) → ((n : ℕ) (y : Credit2Unit) → slice_get ys n ≡ Some y → HeldFits t cap ⊥ ⊥ y) → lasts t ys ≤ length ys * t
lasts_most t cap [] fits = omega arith
lasts_most t cap (y ∷ ys) fits = (let a = (fits 0 y refl).last in let b = lasts_most t cap ys (λ n z at. fits (suc n) z at) in let r : suc (length ys) * t ≡ t + length ys * t = grind arith in omega (arith, a, b, r))

times_few : (n t : ℕ) → n ≤ 32 → n * t ≤ 32 * t
times_few n t low = (let split : 32 ≡ n + (32 - n) = omega (arith, low) in subst (λ (z : ℕ). n * t ≤ z * t) (sym split) (let r : (n + (32 - n)) * t ≡ n * t + (32 - n) * t = grind arith in omega (arith, r)))

units_in_range : (t weight cap : ℕ) (ys : List Credit2Unit) → weight ≤ 65535 → AllByRecursion (UnitFits t weight) ys → ((n : ℕ) (y : Credit2Unit) → slice_get ys n ≡ Some y → HeldFits t cap ⊥ ⊥ y) → AllByRecursion (Credit2UnitInRange t) ys
units_in_range t weight cap [] low each held = tt
units_in_range t weight cap (y ∷ ys) low each held = (
  record {
    residual = (let r = each.0.residual in omega (arith, r, low));
    burned = if_some y.burned (λ (b : ℕ). b ≤ t) (λ b is. subst (λ (o : Option ℕ). unwrap_or o t ≤ t) is each.0.last);
    most = each.0.most;
    least = (let l = each.0.least in let k = each.0.last in omega (arith, ints, l, k));
    held_most = (held 0 y refl).most;
    held_least = (let l = (held 0 y refl).least in let k = (held 0 y refl).last in omega (arith, ints, l, k));
  },
  units_in_range t weight cap ys low each.1 (λ n z at. held (suc n) z at),
)

pub credit2_in_range : (t : ℕ) (counts : ℕ → Type 0) (d : Credit2Domain) → length d.units ≤ 32 → Credit2DomainFits t d → BudgetFits t counts Nobody Nobody d → Credit2InRange t d
credit2_in_range t counts d few fits budget = record {
  weight = fits.weight;
  cap = fits.cap;
  refill = if_some d.refill (λ (r : ℕ). r ≤ t + 10000000) fits.refill;
  count = few;
  units = All-from_recursion (Credit2UnitInRange t) d.units (units_in_range t d.weight d.cap d.units fits.weight.most fits.units budget.units);
  budget_most = (let h = budget.high in let l = helds_least t d.cap d.units budget.units in let k = lasts_most t d.cap d.units budget.units in let n = times_few (length d.units) t few in omega (arith, ints, h, l, k, n));
  budget_least = (let h = budget.low in let l = helds_most t d.cap d.units budget.units in let k = lasts_most t d.cap d.units budget.units in let n = times_few (length d.units) t few in omega (arith, ints, h, l, k, n, few));
}

-- a domain of the file has 32 units at most
units_few : (m : Machine) → IsChecked m → (t : ℕ) (d : ℕ) (x : Credit2Domain) (records : Credit2Records) → length records.domains ≡ length m.config.domains → at_place records.domains d ≡ Some x → BudgetFits t (CountIs m d) Nobody Nobody x → length x.units ≤ 32
units_few m checked t d x records places at budget =
    let low = place_below records.domains d x at in
    let there = item_below m.config.domains d (omega (arith, low, places)) in
    let domain = each_get (IsCheckedDomain m.config) m.config.domains d there.0 (recursion_from_All (IsCheckedDomain m.config) m.config.domains checked.config.domains) there.1 in
    let count = budget.count there.0 there.1 in
    let some = some_processor m.config.granularity checked.config.granularity in
    let guests = domain.few_guests in
    let one = domain.some_guest in
    let small = div_few (length there.0.guests) m.config.granularity some one in
    omega (arith, count, guests, small)
  where
    div_few : (a g : ℕ) → 0 < g → 1 ≤ a → (a + g - 1) / g ≤ a
    div_few a g some one =
        let d : (a + g - 1) / g * g + (a + g - 1) % g ≡ a + g - 1 = div-add-mod' (a + g - 1) g in
        elim (dec_le ((a + g - 1) / g) a) [
          | yes low ↦ low
          | no high ↦ absurd (
              let more : (a + 1) * g ≤ (a + g - 1) / g * g = times_more (a + 1) ((a + g - 1) / g) g (omega (arith, high)) in
              let grow : a + g ≤ (a + 1) * g = at_least a g some in
              omega (arith, d, more, grow, one, some))
        ]
      where
        times_more : (n k g : ℕ) → n ≤ k → n * g ≤ k * g
        times_more n k g low = (let split : k ≡ n + (k - n) = omega (arith, low) in subst (λ (z : ℕ). n * g ≤ z * g) (sym split) (let r : (n + (k - n)) * g ≡ n * g + (k - n) * g = grind arith in omega (arith, r)))

        at_least : (a g : ℕ) → 0 < g → a + g ≤ (a + 1) * g
        at_least a g some = (let split : g ≡ 1 + (g - 1) = omega (arith, some) in subst (λ (z : ℕ). a + z ≤ (a + 1) * z) (sym split) (let r : (a + 1) * (1 + (g - 1)) ≡ a + 1 + (g - 1) + a * (g - 1) = grind arith in omega (arith, r)))

records_in_range : (m : Machine) → IsChecked m → (t : ℕ) (records : Records) (cores : List (Option Resource)) → CreditFits m t records cores → RecordsFit (length m.config.domains) (machine_core_count m.config) t records → RecordsInRange m t records
records_in_range m checked t (Credit2Pool records) cores credit fits = (
  fits.places,
  fits.limit,
  λ d x at. (let budget = (credit records refl).budgets d x at in credit2_in_range t (CountIs m d) x (units_few m checked t d x records fits.places at budget) (fits.domains d x at) budget),
)
records_in_range m checked t (RtdsPool domains) cores credit fits = (fits.places, λ d units at. All-from_recursion (RtdsInRange t) units (AllByRecursion-map (RtdsFits t) (RtdsInRange t) (rtds_in_range t) units (fits.units d units at)))
records_in_range m checked t (ArincPool records) cores credit fits = (fits.installed, if_some records.frame IsFrame (λ frame has. record { some_span = (let l = (fits.major frame has).least in omega (arith, l)); fits = fits.fits frame has; bounded = (fits.major frame has).most }))
records_in_range m checked t (NullPool kept) cores credit fits = fits

core_in_range : (m : Machine) (t : ℕ) (c : Resource) → CoreFits m t c → CoreInRange m t c
core_in_range m t c fits = record {
  cur = fits.cur;
  saving = fits.saving;
  since = fits.since;
  due = if_some c.due (IsNear t) fits.due;
  count = fits.count;
  stalls = All-from_recursion (λ (p : Processor). IsNear t p.stall_end) c.processors fits.stalls;
}

module _ (m : Machine) (checked : IsChecked m) (entries : List Entry) (run : IsRun m entries) where
  fit : StateFits m (state_after m entries)
  fit = fits_in_runs m checked entries run

  domain_in_range : (d : ℕ) (x : Domain) → DomFits m (state_after m entries).now d x → DomainInRange m (state_after m entries).now d x
  domain_in_range d x fits =
      let domain = each_get (IsCheckedDomain m.config) m.config.domains d fits.config (recursion_from_All (IsCheckedDomain m.config) m.config.domains checked.config.domains) fits.at in
      record {
        config = fits.config;
        at = fits.at;
        count = fits.count;
        vcpus = λ n y script has guest. vcpu_in_range (state_after m entries).now script y (each_get IsCheckedScript fits.config.guests n script (recursion_from_All IsCheckedScript fits.config.guests domain.scripts) guest) (fits.vcpus n y script has guest);
      }

  pool_in_range : (i : ℕ) (pool : Pool) → at_place (state_after m entries).pools i ≡ Some pool → PoolInRange m (state_after m entries).now pool
  pool_in_range i pool at =
      let fits : PoolFits m (state_after m entries).now pool = (fit.pools i pool at).fits in
      record {
        domain_places = fits.domain_places;
        core_places = fits.core_places;
        affinity_places = fits.affinity_places;
        queue_count = (
            let few = no_longer pool.scheduler.queue _ (λ u. (let o = (reached.one_place m checked entries run i pool at).most u in omega (arith, o)))
            (AllByRecursion-map (IsUnitOf m) _ (unit_is_there m (some_processor m.config.granularity checked.config.granularity)) pool.scheduler.queue fits.queue) in
            let most = checked.config.few_units in
            omega (arith, few, most));
        queue = All-from_recursion (IsUnitOf m) pool.scheduler.queue fits.queue;
        domains = λ d x has. domain_in_range d x (fits.domains d x has);
        cores = λ r c has. core_in_range m (state_after m entries).now c (fits.cores r c has);
        records = records_in_range m checked (state_after m entries).now pool.scheduler.records pool.resources (fit.pools i pool at).credit fits.records;
      }

  pub in_range : StateInRange m (state_after m entries)
  in_range = record {
    now = fit.now;
    name_places = (places_in_runs m checked entries run).names;
    pool_places = (places_in_runs m checked entries run).pools;
    free_places = (places_in_runs m checked entries run).free;
    stalls = (places_in_runs m checked entries run).stalls;
    commands = (places_in_runs m checked entries run).commands;
    pools = pool_in_range;
    free = λ r c at. (let here = fit.free r c at in record { count = here.count; stalls = All-from_recursion (IsNear (state_after m entries).now) c.stall_ends here.near });
  }
