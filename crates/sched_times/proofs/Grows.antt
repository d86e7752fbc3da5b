-- What is kept is the tally of the entries: at first, and after one entry more.
use Rattle.std.proofs.Common.{◌≡◌, ℕ, ◌+◌, ◌-◌, ◌≤◌, ◌<◌, Bool, true, false, not, cond, List, [], ◌∷◌, ◌++◌, length, get_or, replicate, sym, ap, subst, arith, ◌∙◌, inl, inr, refl}
use Rattle.std.specs.Prelude.{◌*◌, ◌%◌, Option, Some, None, IfSome, is_some, ◌&&◌, ◌==◌, slice_index_or, reverse, max}
use Rattle.std.proofs.lemmas.Bool.{cases_lt}
use Rattle.std.proofs.lemmas.List.{reverse-append, length-replicate, get_or-replicate, get_or_past}
use Rattle.sched_base.specs.declared.VcpuId.{VcpuId}
use Rattle.sched_base.specs.declared.UnitId.{UnitId}
use Rattle.sched_model.specs.declared.config.Config.{Config}
use Rattle.sched_model.specs.declared.event.Entry.{Entry}
use Rattle.sched_model.specs.declared.event.Event.{Event}
use Rattle.sched_model.specs.declared.event.Event.TheVariants as event
use Rattle.sched_model.specs.CheckedMachine.{IsGranularity}
use Rattle.sched_model.specs.Pool.{vcpu_unit}
use Rattle.unit_places.specs.Places.{unit_place_number, unit_index, has_unit_place}
use Rattle.unit_places.proofs.Placed.{low_index}
use Rattle.sched_times.specs.declared.grant.Grant.{Grant}
use Rattle.sched_times.specs.declared.grant.Sleep.{Sleep}
use Rattle.sched_times.specs.declared.range.Range.{Range}
use Rattle.sched_times.specs.declared.tally.ResourceTally.{ResourceTally}
use Rattle.sched_times.specs.declared.tally.UserTally.{UserTally}
use Rattle.sched_times.specs.Times.{over_at, told_by, told_until, told_of, time_held}
use Rattle.sched_times.specs.Present.{Rule, is_number, user_of, held_by, has_after, is_asleep, runs, waits, is_used, core_given, core_grant, processor_grant, grant_by, own_processor, given_to_woken, sleep_of, no_sleep, is_idle, idles_then, vcpu_number}
use Rattle.sched_times.specs.Tallies.{unused, awake, resource_at, user_at, open_use, given_to, having, sleeping, changed_at, loser, resources_with, users_with, users_slept, ResourceWithin, UserWithin, ResourcesWithin, UsersWithin, IsResource, IsUser, AreTallies, IsTally}
use Rattle.sched_times.proofs.Within.{resources_with-within, users_with-within, users_slept-within, length-changed, length-users_with, length-users_slept, length-resources_with}
use Rattle.sched_times.proofs.Holds.{told-more, passes, closed, resource-changed, has-user, Counts, counts-changed, number-is, has-given, asleep-had, has-slept, asleep-slept}

module _ (rule : Rule) (sleep : Event → Option Sleep) (range : Range) (horizon : ℕ) (before : List Entry) (e : Entry) where
  abbrev old : ℕ
  old = told_of range horizon before

  abbrev now : ℕ
  now = told_of range horizon (e ∷ before)

  ahead : old ≤ now
  ahead = told-more range horizon e before

  pub resources-ahead : (resources : List ResourceTally) → ResourcesWithin old resources → ResourcesWithin now resources
  resources-ahead resources within r = record { since = omega (arith, (within r).since, ahead); sums = (within r).sums }

  pub users-ahead : (users : List UserTally) → UsersWithin old users → UsersWithin now users
  users-ahead users within k = record { since = omega (arith, (within k).since, ahead); sums = (within k).sums }

  -- a core or processor after the entry
  module _ (r : ℕ) (t : ResourceTally) (is : IsResource rule range horizon before r t) (within : ResourceWithin old t) where
    use-passed : t.used + open_use now t ≡ time_held (is_used rule r) range horizon (e ∷ before)
    use-passed =
        passes (is_some t.user) t.used t.since old now within.since ahead
        ∙ (λ i. is.used i + cond (is_some (is.user i)) (now - old) 0)

    resource-stays : (user_of rule r (e ∷ before)) ≡ user_of rule r before → IsResource rule range horizon (e ∷ before) r t
    resource-stays same = record { user = is.user ∙ sym same; used = use-passed }

    resource-given : (user : Option ℕ) → user_of rule r (e ∷ before) ≡ user → IsResource rule range horizon (e ∷ before) r (given_to user now t)
    resource-given user gives = record { user = sym gives; used = closed (is_some t.user) (is_some user) t.used t.since now ∙ use-passed }

  module _ (resources : List ResourceTally) (users : List UserTally) (kept : AreTallies rule sleep range horizon before resources users) where
    abbrev ByRule : Option Grant → ℕ → Option ℕ
    ByRule o r = elim o as (λ _. Option ℕ) [ None ↦ user_of rule r before | Some g ↦ cond (g.on == r) g.to (user_of rule r before) ]

    resource-more : (o : Option Grant) → rule e before ≡ o → (r : ℕ) → r < 256 → IsResource rule range horizon (e ∷ before) r (resource_at (resources_with o now resources) r)
    resource-more None gives r below =
        resource-stays r (resource_at resources r) (kept.resources_are r below) (kept.resources_within r) (ap (λ o. ByRule o r) gives)
    resource-more (Some g) gives r below =
        let t : ResourceTally = resource_at resources r in
        let is : IsResource rule range horizon before r t = kept.resources_are r below in
        let within : ResourceWithin old t = kept.resources_within r in
        let goes : user_of rule r (e ∷ before) ≡ cond (g.on == r) g.to (user_of rule r before) = ap (λ o. ByRule o r) gives in
        subst (IsResource rule range horizon (e ∷ before) r) (sym (resource-changed g.on (given_to g.to now) resources r (omega (arith, below, kept.many_resources))))
        (elim (g.on == r) as (λ b. user_of rule r (e ∷ before) ≡ cond b g.to (user_of rule r before) → IsResource rule range horizon (e ∷ before) r (cond b (given_to g.to now t) t)) [
          | true ↦ λ goes. resource-given r t is within g.to goes
          | false ↦ λ goes. resource-stays r t is within goes
        ] goes)

    abbrev run_then : ℕ → ℕ
    run_then k = time_held (runs rule k) range horizon (e ∷ before)

    abbrev wait_then : ℕ → ℕ
    wait_then k = time_held (waits rule sleep k) range horizon (e ∷ before)

    counts-passed : (k : ℕ) → k < length users → Counts now (run_then k) (wait_then k) (user_at users k)
    counts-passed k below =
        let t : UserTally = user_at users k in
        let is : IsUser rule sleep range horizon before k t = kept.users_are k (omega (arith, below, kept.many_users)) in
        let within : UserWithin old t = kept.users_within k in
        record {
          run_is = passes (is_some t.has) t.runs t.since old now within.since ahead ∙ (λ i. is.runs i + cond (is_some (is.has i)) (now - old) 0);
          wait_is = passes (not (is_some t.has) && not t.asleep) t.waits t.since old now within.since ahead ∙ (λ i. is.waits i + cond (not (is_some (is.has i)) && not (is.asleep i)) (now - old) 0);
        }

    counts-given : (o : Option Grant) (k : ℕ) → k < length (users_with o now resources users) → Counts now (run_then k) (wait_then k) (user_at (users_with o now resources users) k)
    counts-given None k below = counts-passed k below
    counts-given (Some g) k below =
        let l : Option ℕ = loser g (resource_at resources g.on).user users in
        counts-changed now run_then wait_then g.to (λ t. Some g.on) (λ (t : UserTally). t.asleep) (changed_at l (having None now) users)
        (λ i low. counts-changed now run_then wait_then l (λ t. None) (λ (t : UserTally). t.asleep) users counts-passed i (omega (arith, low, length-changed l (having None now) users)))
        k (omega (arith, below, length-changed g.to (having (Some g.on) now) (changed_at l (having None now) users)))

    counts-slept : (o : Option Grant) (s : Option Sleep) (k : ℕ) → k < length (users_slept s now (users_with o now resources users)) → Counts now (run_then k) (wait_then k) (user_at (users_slept s now (users_with o now resources users)) k)
    counts-slept o None k below = counts-given o k below
    counts-slept o (Some s) k below =
        let us : List UserTally = users_with o now resources users in
        counts-changed now run_then wait_then s.who (λ (t : UserTally). t.has) (λ t. s.asleep) us (counts-given o) k (omega (arith, below, length-changed s.who (sleeping s.asleep now) us))

    has-then : (o : Option Grant) → rule e before ≡ o → (k : ℕ) → k < 2048 → (low : (g : Grant) → o ≡ Some g → g.on < 256) → (user_at (users_with o now resources users) k).has ≡ held_by rule k (e ∷ before)
    has-then None gives k below low =
        (kept.users_are k below).has ∙ sym (ap (λ o. elim o as (λ _. Option ℕ) [ None ↦ held_by rule k before | Some g ↦ has_after g k (held_by rule k before) ]) gives)
    has-then (Some g) gives k below low =
        let has = (kept.users_are k below).has in
        let mine : is_number (user_at users k).has g.on ≡ true → (resource_at resources g.on).user ≡ Some k = λ is.
        (kept.resources_are g.on (low g refl)).user ∙ has-user rule before k g.on (sym has ∙ number-is (user_at users k).has g.on is) in
        has-given g now resources users k (omega (arith, below, kept.many_users)) mine
        ∙ ap (has_after g k) has
        ∙ sym (ap (λ o. elim o as (λ _. Option ℕ) [ None ↦ held_by rule k before | Some g ↦ has_after g k (held_by rule k before) ]) gives)

    asleep-given : (o : Option Grant) (k : ℕ) → k < length users → (user_at (users_with o now resources users) k).asleep ≡ (user_at users k).asleep
    asleep-given None k below = refl
    asleep-given (Some g) k below =
        let l : Option ℕ = loser g (resource_at resources g.on).user users in
        asleep-had g.to (Some g.on) now (changed_at l (having None now) users) k (omega (arith, below, length-changed l (having None now) users))
        ∙ asleep-had l None now users k below

    has-kept : (s : Option Sleep) (us : List UserTally) (k : ℕ) → k < length us → (user_at (users_slept s now us) k).has ≡ (user_at us k).has
    has-kept None us k below = refl
    has-kept (Some s) us k below = has-slept s.who s.asleep now us k below

    asleep-then : (s : Option Sleep) → sleep e.event ≡ s → (us : List UserTally) (k : ℕ) → k < length us → (user_at us k).asleep ≡ is_asleep sleep k before
        → (user_at (users_slept s now us) k).asleep ≡ is_asleep sleep k (e ∷ before)
    asleep-then None is us k below was =
        was ∙ sym (ap (λ o. elim o as (λ _. Bool) [ None ↦ is_asleep sleep k before | Some s ↦ cond (is_number s.who k) s.asleep (is_asleep sleep k before) ]) is)
    asleep-then (Some s) is us k below was =
        asleep-slept s.who s.asleep now us k below ∙ ap (cond (is_number s.who k) s.asleep) was
        ∙ sym (ap (λ o. elim o as (λ _. Bool) [ None ↦ is_asleep sleep k before | Some s ↦ cond (is_number s.who k) s.asleep (is_asleep sleep k before) ]) is)

    pub tallies-more : (o : Option Grant) → rule e before ≡ o → ((g : Grant) → o ≡ Some g → g.on < 256) → (s : Option Sleep) → sleep e.event ≡ s
        → AreTallies rule sleep range horizon (e ∷ before) (resources_with o now resources) (users_slept s now (users_with o now resources users))
    tallies-more o gives low s sleeps =
        let us : List UserTally = users_with o now resources users in
        let many : length us ≡ 2048 = length-users_with o now resources users ∙ kept.many_users in
        let all : length (users_slept s now us) ≡ 2048 = length-users_slept s now us ∙ many in
        record {
          many_resources = length-resources_with o now resources ∙ kept.many_resources;
          many_users = all;
          resources_within = resources_with-within o now resources (resources-ahead resources kept.resources_within);
          users_within = users_slept-within s now us (users_with-within o now resources users (users-ahead users kept.users_within));
          resources_are = resource-more o gives;
          users_are = λ k below.
              let counts = counts-slept o s k (omega (arith, below, all)) in
              record {
                has = has-kept s us k (omega (arith, below, many)) ∙ has-then o gives k below low;
                asleep = asleep-then s sleeps us k (omega (arith, below, many)) (asleep-given o k (omega (arith, below, kept.many_users)) ∙ (kept.users_are k below).asleep);
                runs = counts.run_is;
                waits = counts.wait_is;
              };
        }

-- at first
same-all : {X : Type 0} (n i : ℕ) (x : X) → get_or (replicate n x) i x ≡ x
same-all n i x = elim (cases_lt i n) [
  | inl low ↦ get_or-replicate n i x x low
  | inr high ↦ get_or_past (replicate n x) i x (omega (arith, length-replicate n x, high))
]

pub tallies-new : (rule : Rule) (sleep : Event → Option Sleep) (range : Range) (horizon : ℕ) → AreTallies rule sleep range horizon [] (replicate 256 unused) (replicate 2048 awake)
tallies-new rule sleep range horizon =
    let nothing : told_of range horizon [] ≡ 0 = omega arith in
    record {
      many_resources = length-replicate 256 unused;
      many_users = length-replicate 2048 awake;
      resources_within = λ r. subst (ResourceWithin (told_of range horizon [])) (sym (same-all 256 r unused)) (record { since = omega arith; sums = omega arith });
      users_within = λ k. subst (UserWithin (told_of range horizon [])) (sym (same-all 2048 k awake)) (record { since = omega arith; sums = omega arith });
      resources_are = λ r below. subst (IsResource rule range horizon [] r) (sym (same-all 256 r unused)) (record { user = refl; used = omega arith });
      users_are = λ k below. subst (IsUser rule sleep range horizon [] k) (sym (same-all 2048 k awake)) (record { has = refl; asleep = refl; runs = omega arith; waits = omega (arith, nothing) });
    }

-- the place of a unit is one of 2,048
pub low-place : (u : UnitId) (k : ℕ) → unit_place_number u ≡ Some k → k < 2048
low-place u k is = by (has_unit_place u) refl is
  where
    by : (b : Bool) → has_unit_place u ≡ b → cond b (Some (unit_index u)) None ≡ Some k → k < 2048
    by true has there = let e : unit_index u ≡ k = cc in omega (arith, e, low_index u has)
    by false has there = cc

-- what an entry gives of processors, by what is kept
module _ (g : ℕ) (before : List Entry) (core_of : ℕ → Option ℕ) (idles : ℕ → Bool) (cores : (k : ℕ) → k < 2048 → core_of k ≡ held_by core_grant k before) (idle : (p : ℕ) → idles p ≡ is_idle p before) where
  own-same : (v : VcpuId) → own_processor g core_of v ≡ own_processor g (λ k. held_by core_grant k before) v
  own-same v = at (unit_place_number (vcpu_unit g v)) (low-place (vcpu_unit g v))
    where
      at : (o : Option ℕ) → ((k : ℕ) → o ≡ Some k → k < 2048)
          → elim o as (λ _. Option ℕ) [ None ↦ None | Some k ↦ elim (core_of k) as (λ _. Option ℕ) [ None ↦ None | Some r ↦ Some (r * g + v.n % g) ] ]
          ≡ elim o as (λ _. Option ℕ) [ None ↦ None | Some k ↦ elim (held_by core_grant k before) as (λ _. Option ℕ) [ None ↦ None | Some r ↦ Some (r * g + v.n % g) ] ]
      at None low = refl
      at (Some k) low = ap (λ c. elim c as (λ _. Option ℕ) [ None ↦ None | Some r ↦ Some (r * g + v.n % g) ]) (cores k (low k refl))

  woken-same : (v : VcpuId) (p : Option ℕ) → given_to_woken idles v p ≡ given_to_woken (λ p. is_idle p before) v p
  woken-same v None = refl
  woken-same v (Some p) = ap (λ b. cond b (Some (record { on = p; to = vcpu_number v })) None) (idle p)

  pub grant-same : (e : Event) → grant_by g core_of idles e ≡ grant_by g (λ k. held_by core_grant k before) (λ p. is_idle p before) e
  grant-same (event.Wake v) = woken-same v (own_processor g core_of v) ∙ ap (given_to_woken (λ p. is_idle p before) v) (own-same v)
  grant-same _ = refl

-- the entries last first, with one more
reverse-more : (es : List Entry) (e : Entry) → reverse (es ++ e ∷ []) ≡ e ∷ reverse es
reverse-more es e = reverse-append es (e ∷ [])

each-low : (o : Option Grant) → IfSome o (λ (g : Grant). g.on < 256) → (g : Grant) → o ≡ Some g → g.on < 256
each-low None low g is = cc
each-low (Some h) low g is = let e : h ≡ g = cc in subst (λ (x : Grant). x.on < 256) e low

pub tally-more : (config : Config) (range : Range) (es : List Entry) (e : Entry) (granularity horizon until : ℕ) (cores : List ResourceTally) (units : List UserTally) (processors : List ResourceTally) (vcpus : List UserTally) (idle after : List Bool) (now : ℕ) (given : Option Grant)
    → IsTally config range es granularity horizon until cores units processors vcpus idle
    → now ≡ over_at range (max until (told_by horizon e))
    → given ≡ grant_by granularity (λ k. (user_at units k).has) (λ p. slice_index_or idle p false) e.event
    → IfSome (core_given e.event) (λ (g : Grant). g.on < 256)
    → IfSome given (λ (g : Grant). g.on < 256)
    → length after ≡ 256
    → ((p : ℕ) → slice_index_or after p false ≡ idles_then p e.event (slice_index_or idle p false))
    → IsTally config range (es ++ e ∷ []) granularity horizon (max until (told_by horizon e))
    (resources_with (core_given e.event) now cores) (users_with (core_given e.event) now cores units)
    (resources_with given now processors) (users_slept (sleep_of e.event) now (users_with given now processors vcpus)) after
tally-more config range es e granularity horizon until cores units processors vcpus idle after now given kept now_is given_is low_core low many idles =
    let past : List Entry = reverse es in
    let until_is : max until (told_by horizon e) ≡ told_until horizon (e ∷ past) = ap (λ t. max t (told_by horizon e)) kept.until_is in
    let time : now ≡ told_of range horizon (e ∷ past) = now_is ∙ ap (over_at range) until_is in
    let gives : given ≡ processor_grant granularity e past = given_is ∙ grant-same granularity past (λ k. (user_at units k).has) (λ p. slice_index_or idle p false) (λ k below. (kept.of_cores.users_are k below).has) kept.idle_is e.event in
    let then : List Entry = reverse (es ++ e ∷ []) in
    let then_is : e ∷ past ≡ then = sym (reverse-more es e) in
    record {
      granularity_is = kept.granularity_is;
      is_granularity = kept.is_granularity;
      horizon_is = kept.horizon_is;
      until_is = until_is ∙ ap (told_until horizon) then_is;
      of_cores =
          subst (λ n. AreTallies core_grant no_sleep range horizon then (resources_with (core_given e.event) n cores) (users_with (core_given e.event) n cores units)) (sym time)
          (subst (λ b. AreTallies core_grant no_sleep range horizon b (resources_with (core_given e.event) (told_of range horizon (e ∷ past)) cores) (users_with (core_given e.event) (told_of range horizon (e ∷ past)) cores units)) then_is
          (tallies-more core_grant no_sleep range horizon past e cores units kept.of_cores (core_given e.event) refl (each-low (core_given e.event) low_core) None refl));
      of_processors =
          subst (λ n. AreTallies (processor_grant granularity) sleep_of range horizon then (resources_with given n processors) (users_slept (sleep_of e.event) n (users_with given n processors vcpus))) (sym time)
          (subst (λ b. AreTallies (processor_grant granularity) sleep_of range horizon b (resources_with given (told_of range horizon (e ∷ past)) processors) (users_slept (sleep_of e.event) (told_of range horizon (e ∷ past)) (users_with given (told_of range horizon (e ∷ past)) processors vcpus))) then_is
          (tallies-more (processor_grant granularity) sleep_of range horizon past e processors vcpus kept.of_processors given (sym gives) (each-low given low) (sleep_of e.event) refl));
      many_idle = many;
      idle_is = λ p. idles p ∙ ap (idles_then p e.event) (kept.idle_is p) ∙ ap (is_idle p) then_is;
    }

pub tally-new : (config : Config) (range : Range) → IsGranularity config.granularity
    → IsTally config range [] config.granularity config.horizon.0 0 (replicate 256 unused) (replicate 2048 awake) (replicate 256 unused) (replicate 2048 awake) (replicate 256 false)
tally-new config range is = record {
  granularity_is = refl;
  is_granularity = is;
  horizon_is = refl;
  until_is = refl;
  of_cores = tallies-new core_grant no_sleep range config.horizon.0;
  of_processors = tallies-new (processor_grant config.granularity) sleep_of range config.horizon.0;
  many_idle = length-replicate 256 false;
  idle_is = λ p. same-all 256 p false;
}
