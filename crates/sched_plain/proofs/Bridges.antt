-- What the law of ranges says of a state, in the words of the calls below.
use Rattle.std.proofs.Common.{◌≡◌, ◌≤◌, ℕ, suc, List, [], ◌∷◌, refl, sym, subst, arith, inl, inr}
use Rattle.std.specs.Prelude.{Option, Some, None, slice_get}
use Rattle.std.specs.List.{AllByRecursion}
use Rattle.std.proofs.lemmas.List.Elements.{All-from_recursion, recursion_from_All}
use Rattle.std.proofs.lemmas.Option.{slice_get_within}
use Rattle.std.proofs.Math.Nat.{div-le_self}
use Rattle.sched_base.specs.declared.Span.{Span}
use Rattle.sched_base.proofs.Lists.{each_get}
use Rattle.sched_model.specs.declared.config.DomConfig.{DomConfig}
use Rattle.sched_model.specs.declared.machine.Machine.{Machine}
use Rattle.sched_model.specs.declared.state.Vcpu.{Vcpu}
use Rattle.sched_model.specs.declared.state.Domain.{Domain}
use Rattle.sched_model.specs.declared.state.Pool.{Pool}
use Rattle.sched_model.specs.declared.state.State.{State}
use Rattle.sched_model.specs.declared.state.Records.{Records}
use Rattle.sched_model.specs.declared.state.Records.TheVariants.{Credit2Pool, RtdsPool, ArincPool, NullPool}
use Rattle.sched_model.specs.Places.{at_place}
use Rattle.sched_laws.specs.EachPlace.{AllPlaces, EachPlace}
use Rattle.sched_model.specs.Opening.{machine_core_count}
use Rattle.sched_model.specs.CheckedMachine.{IsChecked, IsCheckedDomain, IsCheckedScript, IsWithin, IsGranularity, most_span}
use Rattle.sched_laws.proofs.SiblingsLaw.{some_processor}
use Rattle.sched_laws.proofs.Lists.{item_below}
use Rattle.state_ranges.specs.Ranges.{VcpuInRange, DomainInRange, RecordsInRange, PoolInRange, StateInRange}
use Rattle.scheduler_records.specs.Fits.{RecordsFit}
use Rattle.pool_records.specs.Fits.{PoolFits, DomainFits, VcpuFits}
use Rattle.plain_commands.proofs.Planned.{for-some}
use Rattle.sched_plain.specs.Fits.{FewGuests, MachineFits, PoolFitsAt, StateFits}
use Rattle.sched_plain.specs.ReachedStates.{Stands}
use Rattle.sched_plain.proofs.Reaching.{reached-in_range}

-- what holds at each place holds of each place in turn
pub all-places : {X : Type 0} (P : X → Type 0) (places : List (Option X)) → EachPlace P places → AllPlaces P places
all-places P [] each = tt
all-places P (None ∷ places) each = all-places P places (λ i x at. each (suc i) x at)
all-places P (Some x ∷ places) each = (each 0 x refl, all-places P places (λ i y at. each (suc i) y at))

-- what holds of each item holds of each item in turn
all-items : {X : Type 0} (P : X → Type 0) (xs : List X) → ((n : ℕ) (x : X) → slice_get xs n ≡ Some x → P x) → AllByRecursion P xs
all-items P [] each = tt
all-items P (x ∷ xs) each = (each 0 x refl, all-items P xs (λ n y at. each (suc n) y at))

-- the machine
few_siblings : (g : ℕ) → IsGranularity g → g ≤ 4
few_siblings g (inl one) = omega (arith, one)
few_siblings g (inr (inl two)) = omega (arith, two)
few_siblings g (inr (inr four)) = omega (arith, four)

few_guests : (m : Machine) (domains : List DomConfig) → AllByRecursion (IsCheckedDomain m.config) domains → FewGuests domains
few_guests m [] each = tt
few_guests m (domain ∷ domains) each = (each.0.few_guests, few_guests m domains each.1)

pub machine-fits : (m : Machine) → IsChecked m → MachineFits m
machine-fits m checked = record {
  some_processor = some_processor m.config.granularity checked.config.granularity;
  few_siblings = few_siblings m.config.granularity checked.config.granularity;
  few_processors = checked.config.processors.most;
  few_domains = checked.config.few_domains;
  few_guests = few_guests m m.config.domains (recursion_from_All (IsCheckedDomain m.config) m.config.domains checked.config.domains);
}

pub few_cores : (m : Machine) → IsChecked m → machine_core_count m.config ≤ 64
few_cores m checked = (let low = div-le_self m.config.processors m.config.granularity in let most = checked.config.processors.most in omega (arith, low, most))

module _ (m : Machine) (checked : IsChecked m) (t : ℕ) (early : t ≤ most_span) where
  vcpu-fits : (script : List Span) (x : Vcpu) → IsCheckedScript script → VcpuInRange t script x → VcpuFits x
  vcpu-fits script x passed range = record {
    spans = All-from_recursion (λ (s : Span). s.0 ≤ most_span) x.script (subst (λ (xs : List Span). AllByRecursion (λ (s : Span). s.0 ≤ most_span) xs) (sym range.follows) (spans script (recursion_from_All (λ (s : Span). IsWithin 1 most_span s.0) script passed.spans)));
    place = range.place;
    started = for-some x.started range.started (λ from past. omega (arith, past, early));
    work_left = for-some x.work_left range.work (λ work low. low);
  }
    where
      spans : (xs : List Span) → AllByRecursion (λ (s : Span). IsWithin 1 most_span s.0) xs → AllByRecursion (λ (s : Span). s.0 ≤ most_span) xs
      spans [] each = tt
      spans (s ∷ xs) each = (each.0.most, spans xs each.1)

  domain-fits : (d : ℕ) (x : Domain) → DomainInRange m t d x → DomainFits x
  domain-fits d x range =
      let domain = each_get (IsCheckedDomain m.config) m.config.domains d range.config (recursion_from_All (IsCheckedDomain m.config) m.config.domains checked.config.domains) range.at in
      record {
        few = (let count = range.count in let few = domain.few_guests in omega (arith, count, few));
        vcpus = all-items VcpuFits x.vcpus (λ n y at.
            let inside = slice_get_within x.vcpus n y at in
            let script = item_below range.config.guests n (let count = range.count in omega (arith, inside, count)) in
            vcpu-fits script.0 y (each_get IsCheckedScript range.config.guests n script.0 (recursion_from_All IsCheckedScript range.config.guests domain.scripts) script.1) (range.vcpus n y script.0 at script.1));
      }

  pub pool-fits : (pool : Pool) → PoolInRange m t pool → PoolFits pool
  pool-fits pool range = record {
    cores = (let count = range.core_places in let few = few_cores m checked in omega (arith, count, few));
    few_domains = (let count = range.domain_places in let few = checked.config.few_domains in omega (arith, count, few));
    domains = all-places DomainFits pool.domains (λ d x at. domain-fits d x (range.domains d x at));
  }

  pub records-fit : (records : Records) → RecordsInRange m t records → RecordsFit t records
  records-fit (Credit2Pool records) range = record { few_domains = (let count = range.0 in let few = checked.config.few_domains in omega (arith, count, few)); limit = range.1; domains = range.2 }
  records-fit (RtdsPool domains) range = record { few_domains = (let count = range.0 in let few = checked.config.few_domains in omega (arith, count, few)); domains = range.1 }
  records-fit (ArincPool records) range = for-some records.frame range.1 (λ frame is. is)
  records-fit (NullPool kept) range = (let few = few_cores m checked in omega (arith, range, few))

-- the moment is at most the longest span
pub now_early : (m : Machine) (s : State) → IsChecked m → StateInRange m s → s.now ≤ most_span
now_early m s checked range = (let now = range.now in let last = checked.config.horizon.most in omega (arith, now, last))

-- the state
pub state-fits : (m : Machine) (s : State) → IsChecked m → StateInRange m s → StateFits s
state-fits m s checked range = record {
  few_pools = (let count = range.pool_places in omega (arith, count));
  few_free = (let count = range.free_places in let few = few_cores m checked in omega (arith, count, few));
  pools = all-places PoolFits s.pools (λ i pool at. pool-fits m checked s.now (now_early m s checked range) pool (range.pools i pool at));
}

-- what stands in a state that a run leads to
module _ (m : Machine) (s : State) (stands : Stands m s) where
  range : StateInRange m s
  range = reached-in_range m s stands

  pub stands-machine : MachineFits m
  stands-machine = machine-fits m stands.checked

  pub stands-state : StateFits s
  stands-state = state-fits m s stands.checked range

  pub stands-early : s.now ≤ most_span
  stands-early = now_early m s stands.checked range

  pub stands-pool : (i : ℕ) (pool : Pool) → at_place s.pools i ≡ Some pool → PoolFitsAt s.now pool
  stands-pool i pool at = record {
    fits = pool-fits m stands.checked s.now stands-early pool (range.pools i pool at);
    records = records-fit m stands.checked s.now stands-early pool.scheduler.records (range.pools i pool at).records;
    queue = (range.pools i pool at).queue_count;
  }
