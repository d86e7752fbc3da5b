-- What the guests of a pool keep: after a change of one vCPU, or of one domain, and as time passes.
use Rattle.std.proofs.lemmas.Option.{slice_get_within}
use Rattle.std.proofs.Common.{◌≡◌, ◌≤◌, ◌<◌, ◌+◌, ◌-◌, ◌/◌, ℕ, zero, suc, Bool, true, false, List, [], ◌∷◌, ◌∙◌, refl, sym, ap, subst, arith, length, inl, inr}
use Rattle.std.specs.Prelude.{Option, Some, None, option_map, is_none, slice_get, replicate}
use Rattle.std.specs.List.{AllByRecursion}
use Rattle.std.proofs.lemmas.Bool.Decides.{nat_tests}
use Rattle.sched_base.specs.Numbers.{moment, span, has_moment_come}
use Rattle.sched_base.specs.declared.Moment.{Moment}
use Rattle.sched_base.specs.declared.Span.{Span}
use Rattle.sched_base.specs.declared.VcpuId.{VcpuId}
use Rattle.sched_model.specs.declared.state.Vcpu.{Vcpu}
use Rattle.sched_model.specs.declared.state.Domain.{Domain}
use Rattle.sched_model.specs.CheckedMachine.{IsCheckedScript, IsGranularity, most_span}
use Rattle.sched_model.specs.Places.{at_place, put_at, clear_at, change_at, change_item}
use Rattle.sched_laws.specs.EachPlace.{AllPlaces, EachPlace}
use Rattle.sched_model.specs.Opening.{vcpu_at_opening}
use Rattle.sched_model.specs.Pool.{woken_vcpu, put_to_sleep, stopped_vcpu, done_moment, domain_unit_count, vcpu_among, change_among}
use Rattle.sched_laws.proofs.EachPlace.{EachAt-change_to, EachPlace-change_at, EachPlace-put_at, EachPlace-clear_at, EachPlace-empty, place_below, length_set, vcpu_is}
use Rattle.sched_laws.proofs.Lists.{length_change_item, has_come-le}
use Rattle.state_ranges.proofs.Vcpus.{VcpuFits as VcpuStands, vcpu_fresh, vcpu_woken, vcpu_slept, vcpu_stopped, vcpu_started}
use Rattle.pool_records.specs.Fits.{DomainFits, VcpuFits}
use Rattle.unit_state.specs.Seen.{Seen, IsNow, vacant_guests, done_among, is_awake_among, is_due_among}
use Rattle.unit_state.specs.Parts.{IsGuest, HasGuests, IsStill, IsRunPlace, IsSleepPlace}
use Rattle.unit_state.specs.Guests.{KeepsGuests, units_in}
use Rattle.unit_state.proofs.PlaceLemmas.{read_change_item, vcpu_in, units_in-put_at, units_in-clear_at, units_in-change_at}

come_later : (t s : ℕ) (o : Option Moment) → t ≤ s → has_moment_come t o ≡ true → has_moment_come s o ≡ true
come_later t s None past come = come
come_later t s (Some a) past come = grind (arith, nat_tests, come)

-- a guest at any time up to the last, as the law of ranges knows it
late_stands : (t : ℕ) (x : Vcpu) → t ≤ most_span → IsGuest t x → VcpuStands most_span x.script x
late_stands t x early guest = record {
  follows = refl;
  awake = guest.runs;
  odd = guest.sleeps;
  until = λ a e. (let u = guest.until a e in omega (arith, u));
  still = guest.still;
  work = guest.work;
  worth = guest.ends;
  started = λ a e. (let s = guest.started a e in omega (arith, s, early));
}

-- the same of one that is awake, at its own time
awake_stands : (t : ℕ) (x : Vcpu) → x.asleep_until ≡ None → IsGuest t x → VcpuStands t x.script x
awake_stands t x awake guest = record {
  follows = refl;
  awake = guest.runs;
  odd = guest.sleeps;
  until = λ a e. absurd (let f : None ≡ Some a = sym awake ∙ e in cc);
  still = guest.still;
  work = guest.work;
  worth = guest.ends;
  started = guest.started;
}

-- and back
guest_stands : (s t : ℕ) (script : List Span) (x : Vcpu) → s ≤ most_span → IsCheckedScript script → ((from : Moment) → x.started ≡ Some from → from.0 ≤ t) → VcpuStands s script x → IsGuest t x
guest_stands s t script x early checked started stands = record {
  script = subst IsCheckedScript (sym stands.follows) checked;
  runs = λ e. subst (λ (xs : List Span). IsRunPlace xs x.place) (sym stands.follows) (stands.awake e);
  sleeps = λ a e. subst (λ (xs : List Span). IsSleepPlace xs x.place) (sym stands.follows) (stands.odd a e);
  until = λ a e. (let u = stands.until a e in omega (arith, u, early));
  still = stands.still;
  work = stands.work;
  ends = λ w e. subst (λ (xs : List Span). 0 < length xs) (sym stands.follows) (stands.worth w e);
  started = started;
}

-- one that is started is awake
awake_if_started : (t : ℕ) (x : Vcpu) (from : Moment) → x.started ≡ Some from → IsGuest t x → x.asleep_until ≡ None
awake_if_started t x from started guest = by_sleep x.asleep_until refl
  where
    by_sleep : (o : Option Moment) → x.asleep_until ≡ o → x.asleep_until ≡ None
    by_sleep None is = is
    by_sleep (Some a) is = absurd (let f : None ≡ Some from = sym (guest.still a is) ∙ started in cc)

-- one whose work is done is started
started_if_done : (t : ℕ) (x : Vcpu) → has_moment_come t (done_moment x) ≡ true → (from : Moment) × (x.started ≡ Some from)
started_if_done t x done = by_started x.started refl done
  where
    by_started : (o : Option Moment) → x.started ≡ o → has_moment_come t (elim o as (λ _. Option Moment) [ None ↦ None | Some from ↦ elim x.work_left as (λ _. Option Moment) [ None ↦ None | Some work ↦ Some (moment (from.0 + work.0)) ] ]) ≡ true → (from : Moment) × (x.started ≡ Some from)
    by_started None is e = absurd (cc)
    by_started (Some from) is e = (from, is)

-- a vCPU at the opening
pub guest_fresh : (script : List Span) → IsCheckedScript script → IsGuest 0 (vcpu_at_opening script)
guest_fresh script checked = guest_stands 0 0 script (vcpu_at_opening script) (omega arith) checked (λ from e. absurd (cc)) (vcpu_fresh script checked)

guest_woken : (t : ℕ) (x : Vcpu) → t ≤ most_span → has_moment_come t x.asleep_until ≡ true → IsGuest t x → IsGuest t (woken_vcpu x)
guest_woken t x early come guest =
    let there = has_come-le t x.asleep_until come in
    let still : x.started ≡ None = guest.still there.0 there.1 in
    guest_stands most_span t x.script (woken_vcpu x) (omega arith) guest.script
    (λ from e. absurd (let f : None ≡ Some from = sym still ∙ e in cc))
    (vcpu_woken most_span x.script x guest.script (come_later t most_span x.asleep_until early come) (late_stands t x early guest))

guest_slept : (t : ℕ) (x : Vcpu) → t ≤ most_span → has_moment_come t (done_moment x) ≡ true → IsGuest t x → IsGuest t (put_to_sleep t x)
guest_slept t x early done guest =
    let from = started_if_done t x done in
    guest_stands t t x.script (put_to_sleep t x) early guest.script
    (λ from e. absurd (cc))
    (vcpu_slept t x.script x guest.script done (awake_stands t x (awake_if_started t x from.0 from.1 guest) guest))

guest_stopped : (t : ℕ) (x : Vcpu) → t ≤ most_span → IsGuest t x → IsGuest t (stopped_vcpu t x)
guest_stopped t x early guest = by_start x.started refl
  where
    by_start : (o : Option Moment) → x.started ≡ o → IsGuest t (stopped_vcpu t x)
    by_start None is =
        let same : x ≡ stopped_vcpu t x = subst (λ (o : Option Moment). x ≡ elim o as (λ _. Vcpu) [ None ↦ x | Some from ↦ record x { work_left = option_map (λ work. span (work.0 - (t - from.0))) x.work_left; started = None } ]) (sym is) refl in
        subst (IsGuest t) same guest
    by_start (Some from) is =
        let stands = vcpu_stopped t x.script x (awake_stands t x (awake_if_started t x from is guest) guest) in
        guest_stands t t x.script (stopped_vcpu t x) early guest.script stands.started stands

guest_started : (t : ℕ) (x : Vcpu) → t ≤ most_span → x.asleep_until ≡ None → IsGuest t x → IsGuest t (record x { started = Some (moment t) })
guest_started t x early awake guest =
    let stands = vcpu_started t x.script x awake (awake_stands t x awake guest) in
    guest_stands t t x.script (record x { started = Some (moment t) }) early guest.script stands.started stands

-- as time passes
guest_later : (t s : ℕ) (x : Vcpu) → t ≤ s → IsGuest t x → IsGuest s x
guest_later t s x past guest = record {
  script = guest.script;
  runs = guest.runs;
  sleeps = guest.sleeps;
  until = guest.until;
  still = guest.still;
  work = guest.work;
  ends = guest.ends;
  started = λ from e. (let l = guest.started from e in omega (arith, l, past));
}

pub guests_later : (t s : ℕ) (d : Domain) → t ≤ s → HasGuests t d → HasGuests s d
guests_later t s d past guests = record { some = guests.some; few = guests.few; vcpus = λ n x at. guest_later t s x past (guests.vcpus n x at) }

-- with no vCPU started, at any time
guest_still : (t s : ℕ) (x : Vcpu) → x.started ≡ None → IsGuest t x → IsGuest s x
guest_still t s x still guest = record {
  script = guest.script;
  runs = guest.runs;
  sleeps = guest.sleeps;
  until = guest.until;
  still = guest.still;
  work = guest.work;
  ends = guest.ends;
  started = λ from e. absurd (let f : None ≡ Some from = sym still ∙ e in cc);
}

pub guests_still : (t s : ℕ) (d : Domain) → IsStill d → HasGuests t d → HasGuests s d
guests_still t s d still guests = record { some = guests.some; few = guests.few; vcpus = λ n x at. guest_still t s x (still n x at) (guests.vcpus n x at) }

-- a domain of which one vCPU is changed
guests_changed : (t n : ℕ) (f : Vcpu → Vcpu) (d : Domain) → ((x : Vcpu) → slice_get d.vcpus n ≡ Some x → IsGuest t x → IsGuest t (f x)) → HasGuests t d → HasGuests t (record d { vcpus = change_item n f d.vcpus })
guests_changed t n f d kept guests = record {
  some = (let l = length_change_item n f d.vcpus in let s = guests.some in omega (arith, l, s));
  few = (let l = length_change_item n f d.vcpus in let s = guests.few in omega (arith, l, s));
  vcpus = λ k y at. elim (read_change_item n k f d.vcpus y at) [
    | inl was ↦ guests.vcpus k y was
    | inr r ↦ subst (IsGuest t) r.2 (kept r.0 r.1 (guests.vcpus n r.0 r.1))
  ];
}

-- all domains at t, one vCPU of which is changed
keeps_changed : (seen : Seen) (t : ℕ) (v : VcpuId) (f : Vcpu → Vcpu) → IsNow seen t → ((x : Vcpu) → vcpu_among seen.domains v ≡ Some x → IsGuest t x → IsGuest t (f x)) → KeepsGuests seen → KeepsGuests (record seen { domains = change_among v f seen.domains; latest = t })
keeps_changed seen t v f now kept keeps =
    let change : Domain → Domain = λ d. record d { vcpus = change_item v.n f d.vcpus } in
    record {
      granularity = keeps.granularity;
      places = (let l = length_set v.dom.0 (option_map change (at_place seen.domains v.dom.0)) seen.domains in let p = keeps.places in omega (arith, l, p));
      units = (
          let u = units_in-change_at seen.granularity v.dom.0 change seen.domains (λ d. ap (λ k. (k + seen.granularity - 1) / seen.granularity) (length_change_item v.n f d.vcpus)) in
          let k = keeps.units in
          omega (arith, u, k));
      latest = now.early;
      guests =
          EachAt-change_to (λ i. HasGuests seen.latest) (λ i. HasGuests t) v.dom.0 change seen.domains keeps.guests
          (λ j d other guests. guests_later seen.latest t d now.after guests)
          (λ d at guests. guests_changed t v.n f d (λ x there guest. kept x (ap (vcpu_in v.n) at ∙ there) guest) (guests_later seen.latest t d now.after guests));
    }

-- what a vCPU among the domains has
among_some : {X : Type 0} (g : Vcpu → Option X) (o : Option Vcpu) (x : Vcpu) → o ≡ Some x → (elim o as (λ _. Option X) [ None ↦ None | Some y ↦ g y ]) ≡ g x
among_some {X} g o x is = ap (λ (p : Option Vcpu). elim p as (λ _. Option X) [ None ↦ None | Some y ↦ g y ]) is

pub keeps_woken : (seen : Seen) (t : ℕ) (v : VcpuId) → IsNow seen t → is_due_among t seen.domains v ≡ true → KeepsGuests seen → KeepsGuests (record seen { domains = change_among v woken_vcpu seen.domains; latest = t })
keeps_woken seen t v now due = keeps_changed seen t v woken_vcpu now (λ x there guest. guest_woken t x now.early (subst (λ (o : Option Moment). has_moment_come t o ≡ true) (among_some (λ (y : Vcpu). y.asleep_until) (vcpu_among seen.domains v) x there) due) guest)

pub keeps_slept : (seen : Seen) (t : ℕ) (v : VcpuId) → IsNow seen t → has_moment_come t (done_among seen.domains v) ≡ true → KeepsGuests seen → KeepsGuests (record seen { domains = change_among v (put_to_sleep t) seen.domains; latest = t })
keeps_slept seen t v now done = keeps_changed seen t v (put_to_sleep t) now (λ x there guest. guest_slept t x now.early (subst (λ (o : Option Moment). has_moment_come t o ≡ true) (among_some done_moment (vcpu_among seen.domains v) x there) done) guest)

pub keeps_stopped : (seen : Seen) (t : ℕ) (v : VcpuId) → IsNow seen t → KeepsGuests seen → KeepsGuests (record seen { domains = change_among v (stopped_vcpu t) seen.domains; latest = t })
keeps_stopped seen t v now = keeps_changed seen t v (stopped_vcpu t) now (λ x there guest. guest_stopped t x now.early guest)

-- a vCPU that is awake does not sleep
sleeps_not : (domains : List (Option Domain)) (v : VcpuId) (x : Vcpu) → vcpu_among domains v ≡ Some x → is_awake_among domains v ≡ true → x.asleep_until ≡ None
sleeps_not domains v x there awake = is_none_if x.asleep_until (sym (ap (λ (o : Option Vcpu). elim o as (λ _. Bool) [ None ↦ false | Some y ↦ is_none y.asleep_until ]) there) ∙ awake)
  where
    is_none_if : (o : Option Moment) → is_none o ≡ true → o ≡ None
    is_none_if None is = refl
    is_none_if (Some a) is = absurd (cc)

pub keeps_started : (seen : Seen) (t : ℕ) (v : VcpuId) → IsNow seen t → is_awake_among seen.domains v ≡ true → KeepsGuests seen → KeepsGuests (record seen { domains = change_among v (λ (x : Vcpu). record x { started = Some (moment t) }) seen.domains; latest = t })
keeps_started seen t v now awake = keeps_changed seen t v (λ (x : Vcpu). record x { started = Some (moment t) }) now (λ x there guest. guest_started t x now.early (sleeps_not seen.domains v x there awake) guest)

-- one domain changed, which keeps its vCPUs
pub keeps_domain : (seen : Seen) (i : ℕ) (f : Domain → Domain) → ((d : Domain) → (f d).vcpus ≡ d.vcpus) → KeepsGuests seen → KeepsGuests (record seen { domains = change_at i f seen.domains })
keeps_domain seen i f same keeps = record {
  granularity = keeps.granularity;
  places = (let l = length_set i (option_map f (at_place seen.domains i)) seen.domains in let p = keeps.places in omega (arith, l, p));
  units = (
      let u = units_in-change_at seen.granularity i f seen.domains (λ d. ap (λ (xs : List Vcpu). (length xs + seen.granularity - 1) / seen.granularity) (same d)) in
      let k = keeps.units in
      omega (arith, u, k));
  latest = keeps.latest;
  guests = EachPlace-change_at (HasGuests seen.latest) i f seen.domains keeps.guests (λ d at guests. same_guests d guests);
}
  where
    same_guests : (d : Domain) → HasGuests seen.latest d → HasGuests seen.latest (f d)
    same_guests d guests = record {
      some = subst (λ (xs : List Vcpu). 1 ≤ length xs) (sym (same d)) guests.some;
      few = subst (λ (xs : List Vcpu). length xs ≤ 32) (sym (same d)) guests.few;
      vcpus = subst (λ (xs : List Vcpu). (n : ℕ) (x : Vcpu) → slice_get xs n ≡ Some x → IsGuest seen.latest x) (sym (same d)) guests.vcpus;
    }

-- a domain that came in, and one that went out
pub keeps_added : (seen : Seen) (i : ℕ) (d : Domain) → i < length seen.domains → at_place seen.domains i ≡ None → domain_unit_count seen.granularity d ≤ seen.spare → HasGuests seen.latest d → KeepsGuests seen → KeepsGuests (record seen { domains = put_at i d seen.domains; spare = seen.spare - domain_unit_count seen.granularity d })
keeps_added seen i d inside none room guests keeps = record {
  granularity = keeps.granularity;
  places = (let l = length_set i (Some d) seen.domains in let p = keeps.places in omega (arith, l, p));
  units = (let u = units_in-put_at seen.granularity i d seen.domains inside none in let k = keeps.units in omega (arith, u, k, room));
  latest = keeps.latest;
  guests = EachPlace-put_at (HasGuests seen.latest) i d seen.domains keeps.guests guests;
}

pub keeps_taken : (seen : Seen) (i : ℕ) (d : Domain) → at_place seen.domains i ≡ Some d → KeepsGuests seen → KeepsGuests (record seen { domains = clear_at i seen.domains; spare = seen.spare + domain_unit_count seen.granularity d })
keeps_taken seen i d at keeps = record {
  granularity = keeps.granularity;
  places = (let l = length_set i None seen.domains in let p = keeps.places in omega (arith, l, p));
  units = (let u = units_in-clear_at seen.granularity i d seen.domains at in let k = keeps.units in omega (arith, u, k));
  latest = keeps.latest;
  guests = EachPlace-clear_at (HasGuests seen.latest) i seen.domains keeps.guests;
}

-- no domain at all
pub keeps_vacant : (g places units : ℕ) → IsGranularity g → places ≤ 64 → units ≤ 256 → KeepsGuests (vacant_guests g places units)
keeps_vacant g places units multiple few room = record {
  granularity = multiple;
  places = (let l = length_replicate places in omega (arith, l, few));
  units = (let u = units_none places in omega (arith, u, room));
  latest = omega arith;
  guests = EachPlace-empty (HasGuests 0) places;
}
  where
    length_replicate : (n : ℕ) → length (replicate {A = Option Domain} n None) ≡ n
    length_replicate zero = refl
    length_replicate (suc n) = ap (λ k. suc k) (length_replicate n)

    units_none : (n : ℕ) → units_in g (replicate n None) ≡ 0
    units_none zero = refl
    units_none (suc n) = (let r = units_none n in omega (arith, r))

-- the places of a vCPU that is there
pub vcpu_bounds : (seen : Seen) (v : VcpuId) (x : Vcpu) → KeepsGuests seen → vcpu_among seen.domains v ≡ Some x → (v.dom.0 < 64) × (v.n < 32)
vcpu_bounds seen v x keeps there =
    let d = vcpu_is seen.domains v x there in
    let place = place_below seen.domains v.dom.0 d.0 d.1 in
    let index = slice_get_within d.0.vcpus v.n x d.2 in
    let places = keeps.places in
    let few = (keeps.guests v.dom.0 d.0 d.1).few in
    (omega (arith, place, places), omega (arith, index, few))

-- a vCPU of which something is told is there
pub among_there : {X : Type 0} (g : Vcpu → Option X) (o : Option Vcpu) (a : X) → (elim o as (λ _. Option X) [ None ↦ None | Some y ↦ g y ]) ≡ Some a → (x : Vcpu) × (o ≡ Some x)
among_there g None a is = absurd (cc)
among_there g (Some x) a is = (x, refl)

-- a vCPU of which a moment has come is there
pub come_among : (g : Vcpu → Option Moment) (t : ℕ) (o : Option Vcpu) → has_moment_come t (elim o as (λ _. Option Moment) [ None ↦ None | Some y ↦ g y ]) ≡ true → (x : Vcpu) × (o ≡ Some x)
come_among g t None come = absurd (cc)
come_among g t (Some x) come = (x, refl)

-- the guests, as the plain bodies ask for them
vcpu_fits : (t : ℕ) (x : Vcpu) → t ≤ most_span → IsGuest t x → VcpuFits x
vcpu_fits t x early guest = record {
  spans = λ k d h. (guest.script.spans k d h).most;
  place = inside x.asleep_until refl;
  started = λ from e. (let s = guest.started from e in omega (arith, s, early));
  work_left = guest.work;
}
  where
    inside : (o : Option Moment) → x.asleep_until ≡ o → x.place < 64
    inside None is = elim (guest.runs is) [
      | inl none ↦ (let z = none.1 in omega (arith, z))
      | inr run ↦ (let r = run.1 in let few = guest.script.few in omega (arith, r, few))
    ]
    inside (Some a) is = (let s = (guest.sleeps a is).1 in let few = guest.script.few in omega (arith, s, few))

domain_fits : (t : ℕ) (d : Domain) → t ≤ most_span → HasGuests t d → DomainFits d
domain_fits t d early guests = record { few = guests.few; vcpus = each d.vcpus guests.vcpus }
  where
    each : (xs : List Vcpu) → ((n : ℕ) (x : Vcpu) → slice_get xs n ≡ Some x → IsGuest t x) → AllByRecursion VcpuFits xs
    each [] all = tt
    each (x ∷ xs) all = (vcpu_fits t x early (all 0 x refl), each xs (λ n y at. all (suc n) y at))

places_fit : (t : ℕ) (domains : List (Option Domain)) → t ≤ most_span → EachPlace (HasGuests t) domains → AllPlaces DomainFits domains
places_fit t [] early each = tt
places_fit t (None ∷ domains) early each = places_fit t domains early (λ i d at. each (suc i) d at)
places_fit t (Some d ∷ domains) early each = (domain_fits t d early (each 0 d refl), places_fit t domains early (λ i e at. each (suc i) e at))

pub all_fit : (seen : Seen) → KeepsGuests seen → AllPlaces DomainFits seen.domains
all_fit seen keeps = places_fit seen.latest seen.domains keeps.latest keeps.guests
