-- What the conditions of the calls tell of the parts.
use Rattle.std.proofs.Common.{◌≡◌, ◌≤◌, ◌<◌, ◌-◌, ℕ, Bool, true, false, List, [], ◌∷◌, ◌++◌, refl, arith, ap, subst, sym, ◌∙◌, inl, inr, length}
use Rattle.std.specs.Prelude.{Option, Some, None, is_some, ◌||◌, ◌&&◌, if◌then◌else◌, nat_lt, nat_le, replicate, filter}
use Rattle.std.specs.List.{AllByRecursion}
use Rattle.std.specs.Option.{IfSome}
use Rattle.std.proofs.lemmas.Bool.Decides.{nat_tests}
use Rattle.unit_places.specs.Masks.{mask_of}
use Rattle.sched_base.specs.declared.Cores.{Cores}
use Rattle.sched_base.specs.declared.Moment.{Moment}
use Rattle.sched_base.specs.declared.UnitId.{UnitId}
use Rattle.sched_model.specs.CheckedMachine.{IsWithin}
use Rattle.sched_model.specs.Places.{at_place, has_listed_unit}
use Rattle.sched_model.specs.declared.state.RtdsUnit.{RtdsUnit}
use Rattle.sched_model.specs.EligibleUnits.{rtds_unit_at, unit_cores}
use Rattle.sched_base.proofs.Bools.{clash, and_left, and_right}
use Rattle.sched_base.proofs.Lists.{AllByRecursion-map}
use Rattle.arrival_queue.specs.Queues.{Queued, queued_unit}
use Rattle.rtds_queue.specs.Lists.{Lists, count}
use Rattle.queue_laws.proofs.Once.{once_units}
use Rattle.rtds_core.specs.Best.{queue_of, IsEligible, AreQueued, AreMasks}
use Rattle.rtds_core.specs.RtdsParts.{IsShaped, IsKept}
use Rattle.rtds_core.proofs.Queues.{IsOrdered}
use Rattle.rtds_core.proofs.Changed.{IsLow, low_unit}
use Rattle.rtds_core.proofs.Units.{apart_arrivals}
use Rattle.sched_model.specs.declared.ask.Ask.{Ask}
use Rattle.sched_model.specs.declared.config.DomParams.{DomParams}
use Rattle.sched_model.specs.declared.config.DomParams.TheVariants as dom_params
use Rattle.sched_model.specs.declared.config.SchedKind.TheVariants as kinds
use Rattle.sched_model.specs.declared.state.Scheduler.{Scheduler}
use Rattle.sched_model.specs.declared.state.Records.TheVariants.{RtdsPool}
use Rattle.sched_model.specs.Policy.{is_replenish_due, joined_records}
use Rattle.sched_base.specs.CoreSets.{every_core}
use Rattle.sched_model.specs.Places.{put_at}
use Rattle.sched_model.specs.Rtds.{rtds_candidate, rtds_choice, first_of_units, unit_left_budget, is_unit_before, fresh_rtds_units}
use Rattle.sched_model.specs.EligibleUnits.{eligible_units, is_unit_allowed, is_unit_eligible}
use Rattle.sched_ops.specs.Seen.{Seen}
use Rattle.rtds_core.proofs.Steps.{kept_later}
use Rattle.sched_ops.specs.Conditions.{IsAsked, IsOwn, IsOwnOf, AreDomParams, IsTerm, Keeps, is_on}
use Rattle.arrival_queue.specs.Filters.{first_that, may_run}
use Rattle.scheduler_records.specs.Parts.{scheduler_of}
use Rattle.queue_laws.specs.Arrivals.{least_by}
use Rattle.queue_laws.proofs.Once.{once_ranks}
use Rattle.rtds_core.specs.RtdsParts.{seen_of}
use Rattle.rtds_core.specs.Best.{list_of}
use Rattle.rtds_core.proofs.Changed.{member_record, record_member, sets_of}
use Rattle.rtds_core.proofs.First.{IsKnown, test, key_in, first_waits, scan_of_first, known_passes}
use Rattle.rtds_core.proofs.Keeping.{low_queued, waiting_known}
use Rattle.rtds_core.proofs.Chosen.{IsOwnUnit, IsReplenished}
use Rattle.rtds_core.proofs.Joining.{Sets, kept_joined}
use Rattle.std.proofs.Math.Bool.{and-false}
use Rattle.std.proofs.lemmas.Bool.{cases_Bool}

-- what callers see of the parts, with this queue
abbrev pub seen_queue : List (Option (List RtdsUnit)) → List (Option (List Cores)) → ℕ → ℕ → List UnitId → Seen
seen_queue domains affinity spare latest us = record { scheduler = record { queue = us; affinity = affinity; records = RtdsPool domains }; spare = spare; latest = latest }

abbrev on_in : Option RtdsUnit → Bool
on_in o = elim o as (λ _. Bool) [ None ↦ false | Some x ↦ is_some x.burned ]

none_burned : (o : Option ℕ) → is_some o ≡ false → o ≡ None
none_burned None e = refl
none_burned (Some b) e = absurd (cc)

-- a unit that is not on by the records
pub off_record : (domains : List (Option (List RtdsUnit))) (u : UnitId) (x : RtdsUnit) → rtds_unit_at domains u ≡ Some x → is_on (RtdsPool domains) u ≡ false → x.burned ≡ None
off_record domains u x at off = none_burned x.burned (sym (ap on_in at) ∙ off)

-- a core's own unit
pub own_unit : (domains : List (Option (List RtdsUnit))) (affinity : List (Option (List Cores))) (q : Lists) (spare latest : ℕ) (cur : Option UnitId) → IsShaped domains affinity → IsOwnOf (seen_of domains affinity q spare latest).scheduler cur → IfSome cur (IsOwnUnit domains q)
own_unit domains affinity q spare latest None is own = tt
own_unit domains affinity q spare latest (Some u) is own =
    let o : IsOwn (seen_of domains affinity q spare latest).scheduler u = own u refl in
    let r = member_record domains affinity u is o.member in
    record { unit = r.0; at = r.1; on = sym (ap on_in r.1) ∙ o.on; waits_not = o.waits_not }

-- the queues after a charge of the core's own
pub own_low : (domains : List (Option (List RtdsUnit))) (affinity : List (Option (List Cores))) (q : Lists) (cur : Option UnitId) → IsShaped domains affinity → IfSome cur (IsOwnUnit domains q) → (u : UnitId) → cur ≡ Some u → IsLow u
own_low domains affinity q None is own u at = absurd (cc)
own_low domains affinity q (Some w) is own u at = (let e : w ≡ u = cc in subst IsLow e (low_unit domains affinity w own.unit is own.at))

-- the unit that is due at t
pub replenished_of : (domains : List (Option (List RtdsUnit))) (affinity : List (Option (List Cores))) (q : Lists) (masks : List Cores) (dues : List (Option Moment)) (spare t : ℕ) (u : UnitId)
    → ((has_listed_unit (queue_of q) u || is_on (RtdsPool domains) u) && is_replenish_due (RtdsPool domains) t u) ≡ true → IsReplenished domains affinity q masks dues spare t u
replenished_of domains affinity q masks dues spare t u due = by_record (rtds_unit_at domains u) refl due
  where
    by_record : (o : Option RtdsUnit) → rtds_unit_at domains u ≡ o → ((has_listed_unit (queue_of q) u || on_in o) && (elim o as (λ _. Bool) [ None ↦ false | Some x ↦ nat_le x.deadline t ])) ≡ true → IsReplenished domains affinity q masks dues spare t u
    by_record None at e = absurd (clash ((has_listed_unit (queue_of q) u || false) && false) e (and-false (has_listed_unit (queue_of q) u || false)))
    by_record (Some x) at e = record {
      unit = x;
      at = at;
      come = (let c : nat_le x.deadline t ≡ true = and_right (has_listed_unit (queue_of q) u || is_some x.burned) (nat_le x.deadline t) e in grind (arith, nat_tests, c));
      busy = and_left (has_listed_unit (queue_of q) u || is_some x.burned) (nat_le x.deadline t) e;
    }

pub term_budget : (period budget : ℕ) → IsTerm period budget → IsWithin 10000 1000000000000 budget
term_budget period budget is = (let l = is.within.least in let m = is.within.most in let p = is.long.most in record { least = l; most = omega (arith, m, p) })

-- a domain joins with parameters of RTDS
pub kept_with : (domains domains2 : List (Option (List RtdsUnit))) (affinity : List (Option (List Cores))) (q : Lists) (masks masks2 : List Cores) (dues : List (Option Moment)) (spare t d count : ℕ) (params : DomParams) → AreDomParams kinds.Rtds params → RtdsPool domains2 ≡ joined_records (RtdsPool domains) params d count t
    → d < length affinity → at_place affinity d ≡ None → count ≤ 32 → count ≤ spare → Sets masks masks2 d None every_core → IsKept domains affinity q masks dues spare t
    → IsKept domains2 (put_at d (replicate count every_core) affinity) q masks2 dues (spare - count) t
kept_with domains domains2 affinity q masks masks2 dues spare t d count (dom_params.Rtds period budget extra) are joined place absent few room set kept =
    subst (λ (ds : List (Option (List RtdsUnit))). IsKept ds (put_at d (replicate count every_core) affinity) q masks2 dues (spare - count) t) (same_domains (put_at d (fresh_rtds_units period.0 budget.0 extra count t) domains) domains2 (sym joined))
    (kept_joined domains affinity q masks masks2 dues spare t d count period.0 budget.0 extra place absent few room are.long (term_budget period.0 budget.0 are) set kept)
  where
    same_domains : (a b : List (Option (List RtdsUnit))) → RtdsPool a ≡ RtdsPool b → a ≡ b
    same_domains a b e = cc
kept_with domains domains2 affinity q masks masks2 dues spare t d count a are joined place absent few room set kept = absurd are

-- what every scheduler keeps
pub keeps_of : (domains : List (Option (List RtdsUnit))) (affinity : List (Option (List Cores))) (q : Lists) (masks : List Cores) (dues : List (Option Moment)) (spare latest : ℕ) → IsOrdered q → IsKept domains affinity q masks dues spare latest → Keeps (seen_of domains affinity q spare latest)
keeps_of domains affinity q masks dues spare latest order kept = record {
  apart = apart_arrivals (q.eligible ++ q.spent) (once_units (q.eligible ++ q.spent) order.units) (low_queued domains affinity q kept.shape kept.queued);
  members = λ u waiting. (let k = waiting_known domains q u kept.queued waiting in record_member domains affinity u k.0 kept.shape k.1);
  off = λ u waiting. (let k = waiting_known domains q u kept.queued waiting in ap on_in k.1 ∙ ap (λ (o : Option ℕ). is_some o) k.2);
  once = tt;
  cut = tt;
}

-- the first of the queues that may have the core, as a scan finds it
eligible_sets : (domains : List (Option (List RtdsUnit))) (affinity : List (Option (List Cores))) (masks : List Cores) (es : List Queued) → IsShaped domains affinity → AreMasks affinity masks → AllByRecursion (IsEligible domains) es → AllByRecursion (λ e. (mask_of masks e.unit).0 ≡ unit_cores affinity e.unit) es
eligible_sets domains affinity masks es is are each = AllByRecursion-map (IsEligible domains) (λ e. (mask_of masks e.unit).0 ≡ unit_cores affinity e.unit) (λ e el. (let s = sets_of domains affinity e.unit el.unit is el.at in are.each e.unit s.sets s.at s.inside)) es each

pub first_is : (domains : List (Option (List RtdsUnit))) (affinity : List (Option (List Cores))) (q : Lists) (masks : List Cores) (home core t : ℕ) → IsOrdered q → IsShaped domains affinity → AreQueued domains q → AreMasks affinity masks
    → first_that (λ u. may_run masks (record { 0 = core }) (record { 0 = home }) u) q.eligible ≡ least_by (key_in domains) None (filter (test domains affinity home core t) (queue_of q))
first_is domains affinity q masks home core t order is queued_unit are =
    first_waits domains affinity home core t q masks queued_unit order.order (once_ranks (q.eligible ++ q.spent) order.ranks) are (eligible_sets domains affinity masks q.eligible is are queued_unit.eligible)

-- the core's own unit, where it may go on, has a record
own_known : (domains : List (Option (List RtdsUnit))) (ask : Ask) (scheduler : Scheduler) → IfSome (rtds_candidate ask scheduler domains) (IsKnown domains)
own_known domains ask scheduler = by_cur ask.cur
  where
    by_cur : (cur : Option UnitId) → IfSome (elim cur as (λ _. Option UnitId) [ None ↦ None | Some u ↦ (if ask.runnable && is_unit_allowed scheduler ask.home.0 ask.core.0 u && nat_lt 0 (unit_left_budget domains u) then Some u else None) ]) (IsKnown domains)
    by_cur None = tt
    by_cur (Some u) = elim (cases_Bool (ask.runnable && is_unit_allowed scheduler ask.home.0 ask.core.0 u && nat_lt 0 (unit_left_budget domains u))) [
      | inl is_so ↦ subst (λ (b : Bool). IfSome (if b then Some u else None) (IsKnown domains)) (sym is_so) (with_budget u (rtds_unit_at domains u) refl (last ask.runnable (is_unit_allowed scheduler ask.home.0 ask.core.0 u) (nat_lt 0 (unit_left_budget domains u)) is_so))
      | inr not_so ↦ subst (λ (b : Bool). IfSome (if b then Some u else None) (IsKnown domains)) (sym not_so) tt
    ]
      where
        last : (a b c : Bool) → (a && b && c) ≡ true → c ≡ true
        last true true c e = e
        last true false c e = absurd (cc)
        last false b c e = absurd (cc)

        with_budget : (u : UnitId) (o : Option RtdsUnit) → rtds_unit_at domains u ≡ o → nat_lt 0 (elim o as (λ _. ℕ) [ None ↦ 0 | Some x ↦ x.left ]) ≡ true → IsKnown domains u
        with_budget u None at e = absurd (grind (arith, nat_tests, e))
        with_budget u (Some x) at e = record { unit = x; at = at }

-- the choice among the core's own and the first is that of a scan
pub choice_of_first : (domains : List (Option (List RtdsUnit))) (affinity : List (Option (List Cores))) (q : Lists) (masks : List Cores) (ask : Ask) → ask.leaving ≡ false → IsOrdered q → IsShaped domains affinity → AreQueued domains q → AreMasks affinity masks
    → first_of_units domains (rtds_candidate ask (scheduler_of [] affinity (RtdsPool domains)) domains) (list_of (first_that (λ u. may_run masks (record { 0 = ask.core.0 }) (record { 0 = ask.home.0 }) u) q.eligible))
    ≡ rtds_choice ask (scheduler_of (queue_of q) affinity (RtdsPool domains)) domains
choice_of_first domains affinity q masks ask stays order is queued_unit are =
    scan_of_first domains affinity ask.home.0 ask.core.0 ask.at.0 (rtds_candidate ask (scheduler_of [] affinity (RtdsPool domains)) domains) (queue_of q)
    (first_that (λ u. may_run masks (record { 0 = ask.core.0 }) (record { 0 = ask.home.0 }) u) q.eligible) (own_known domains ask (scheduler_of [] affinity (RtdsPool domains)))
    (first_is domains affinity q masks ask.home.0 ask.core.0 ask.at.0 order is queued_unit are)
    ∙ sym (ap (λ (b : Bool). if b then None else first_of_units domains (rtds_candidate ask (scheduler_of [] affinity (RtdsPool domains)) domains) (eligible_units (scheduler_of (queue_of q) affinity (RtdsPool domains)) ask.home.0 ask.core.0 ask.at.0)) stays)

-- the chosen unit has a record
pub choice_known : (domains : List (Option (List RtdsUnit))) (ask : Ask) (scheduler : Scheduler) → IfSome (rtds_choice ask scheduler domains) (IsKnown domains)
choice_known domains ask scheduler = elim (cases_Bool ask.leaving) [
  | inl leaves ↦ subst (λ (b : Bool). IfSome (if b then None else first_of_units domains (rtds_candidate ask scheduler domains) (filter may (scheduler.queue))) (IsKnown domains)) (sym leaves) tt
  | inr stays ↦ subst (λ (b : Bool). IfSome (if b then None else first_of_units domains (rtds_candidate ask scheduler domains) (filter may (scheduler.queue))) (IsKnown domains)) (sym stays) (walk (rtds_candidate ask scheduler domains) scheduler.queue (own_known domains ask scheduler))
]
  where
    may : UnitId → Bool
    may u = is_unit_eligible (record scheduler { records = RtdsPool domains }) ask.home.0 ask.core.0 ask.at.0 u

    next : (best : Option UnitId) (u : UnitId) (units : List UnitId) → IsKnown domains u → IfSome best (IsKnown domains) → ((b : Option UnitId) → IfSome b (IsKnown domains) → IfSome (first_of_units domains b units) (IsKnown domains)) → IfSome (first_of_units domains best (u ∷ units)) (IsKnown domains)
    next None u units mine known rest = rest (Some u) mine
    next (Some b) u units mine known rest = elim (is_unit_before domains u b) as (λ t. IfSome (first_of_units domains (Some (if t then u else b)) units) (IsKnown domains)) [
      | true ↦ rest (Some u) mine
      | false ↦ rest (Some b) known
    ]

    walk : (best : Option UnitId) (units : List UnitId) → IfSome best (IsKnown domains) → IfSome (first_of_units domains best (filter may units)) (IsKnown domains)
    walk best [] known = known
    walk best (u ∷ units) known = elim (cases_Bool (may u)) [
      | inl passes ↦
          subst (λ (b : Bool). IfSome (first_of_units domains best (if b then u ∷ filter may units else filter may units)) (IsKnown domains)) (sym passes)
          (next best u (filter may units) (known_passes domains scheduler.affinity ask.home.0 ask.core.0 ask.at.0 u passes) known (λ b k. walk b units k))
      | inr fails ↦ subst (λ (b : Bool). IfSome (first_of_units domains best (if b then u ∷ filter may units else filter may units)) (IsKnown domains)) (sym fails) (walk best units known)
    ]

-- a unit that is not on, by its record
pub on_record : (domains : List (Option (List RtdsUnit))) (u : UnitId) (x : RtdsUnit) → rtds_unit_at domains u ≡ Some x → is_on (RtdsPool domains) u ≡ false → is_some x.burned ≡ false
on_record domains u x at off = sym (ap on_in at) ∙ off

-- the same parts, under other names
pub kept_as : (domains domains2 : List (Option (List RtdsUnit))) (affinity affinity2 : List (Option (List Cores))) (q q2 : Lists) (masks : List Cores) (dues dues2 : List (Option Moment)) (spare latest : ℕ)
    → domains2 ≡ domains → affinity2 ≡ affinity → q2 ≡ q → dues2 ≡ dues → IsKept domains affinity q masks dues spare latest → IsKept domains2 affinity2 q2 masks dues2 spare latest
kept_as domains domains2 affinity affinity2 q q2 masks dues dues2 spare latest ds sets qs us kept =
    subst (λ (x : List (Option (List RtdsUnit))). IsKept x affinity2 q2 masks dues2 spare latest) (sym ds)
    (subst (λ (x : List (Option (List Cores))). IsKept domains x q2 masks dues2 spare latest) (sym sets)
    (subst (λ (x : Lists). IsKept domains affinity x masks dues2 spare latest) (sym qs)
    (subst (λ (x : List (Option Moment)). IsKept domains affinity q masks x spare latest) (sym us) kept)))

-- the parts at the moment of a question, and its own unit
pub kept_asked : (domains : List (Option (List RtdsUnit))) (affinity : List (Option (List Cores))) (q : Lists) (masks : List Cores) (dues : List (Option Moment)) (spare latest : ℕ) (ask : Ask) (seen : Seen) → seen_of domains affinity q spare latest ≡ seen → IsAsked seen ask
    → IsKept domains affinity q masks dues spare latest → IsKept domains affinity q masks dues spare ask.at.0
kept_asked domains affinity q masks dues spare latest ask seen view asked kept =
    kept_later domains affinity q masks dues spare latest ask.at.0 (subst (λ (s : Seen). s.latest ≤ ask.at.0) (sym view) asked.now.after) asked.now.early kept

pub own_asked : (domains : List (Option (List RtdsUnit))) (affinity : List (Option (List Cores))) (q : Lists) (spare latest : ℕ) (ask : Ask) (seen : Seen) → seen_of domains affinity q spare latest ≡ seen → IsAsked seen ask → IsShaped domains affinity → IfSome ask.cur (IsOwnUnit domains q)
own_asked domains affinity q spare latest ask seen view asked is =
    own_unit domains affinity q spare latest ask.cur is (subst (λ (s : Seen). IsOwnOf s.scheduler ask.cur) (sym view) asked.own)

-- a unit with a record has a small number
pub known_low : (domains : List (Option (List RtdsUnit))) (affinity : List (Option (List Cores))) (o : Option UnitId) → IsShaped domains affinity → IfSome o (IsKnown domains) → (u : UnitId) → o ≡ Some u → IsLow u
known_low domains affinity None is known u at = absurd (cc)
known_low domains affinity (Some w) is known u at = (let e : w ≡ u = cc in subst IsLow e (low_unit domains affinity w known.unit is known.at))
