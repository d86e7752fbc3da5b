-- What each event of an RTDS pool of one core keeps of its units' reservations, and which unit the core has.
use Rattle.std.proofs.Common.{◌≡◌, ◌≤◌, ◌+◌, ℕ, Bool, true, false, List, [], ◌∷◌, ◌⊎◌, refl, arith, cond, subst, sym, ◌∙◌, ap, inl, inr}
use Rattle.std.specs.Prelude.{Option, Some, None, nat_lt, nat_le, option_map, min, ◌&&◌}
use Rattle.std.specs.List.{AllByRecursion}
use Rattle.std.proofs.lemmas.Bool.{cases_Bool}
use Rattle.sched_base.specs.Numbers.{moment, core as core_number}
use Rattle.sched_base.specs.declared.Moment.{Moment}
use Rattle.sched_base.specs.declared.UnitId.{UnitId}
use Rattle.sched_base.proofs.Bools.{and_left, and_right}
use Rattle.sched_base.proofs.Lists.{AllByRecursion-filter}
use Rattle.sched_model.specs.declared.action.Action.{Action}
use Rattle.sched_model.specs.declared.action.Action.TheVariants.{Repl, Decide}
use Rattle.sched_model.specs.declared.ask.Ask.{Ask}
use Rattle.sched_model.specs.declared.state.Pool.{Pool}
use Rattle.sched_model.specs.declared.state.Records.{Records}
use Rattle.sched_model.specs.declared.state.Records.TheVariants.{RtdsPool}
use Rattle.sched_model.specs.declared.state.Resource.{Resource}
use Rattle.sched_model.specs.declared.state.RtdsUnit.{RtdsUnit}
use Rattle.sched_model.specs.declared.state.Scheduler.{Scheduler}
use Rattle.sched_model.specs.EligibleUnits.{Decision, eligible_units, is_unit_allowed, is_unit_eligible, rtds_unit_at}
use Rattle.sched_model.specs.Places.{at_place, change_at, put_at, same_unit}
use Rattle.sched_model.specs.Policy as policy
use Rattle.sched_model.specs.Policy.{decision_by, decision_of}
use Rattle.sched_model.specs.Pool as pools
use Rattle.sched_model.specs.Pool.{enabled_in, after_in, core_ask, decided_core, decision_at, settled_pool, change_core}
use Rattle.sched_model.specs.Rtds as rtds
use Rattle.sched_model.specs.Rtds.{change_unit, unit_after_replenish, off_domains, own_burned_domains, running_domains, unit_left_budget}
use Rattle.sched_laws.proofs.EachPlace.{by_option, by_cond, by_test, at_place-put_at, read_put_at, place_below}
use Rattle.sched_laws.proofs.Events.{LikePlaces, KeepsCore, KeptByParts, like_change_at, like_map, like_is, like_was, commands_of, kept_settled, kept_by_parts}
use Rattle.sched_laws.proofs.Choices.{same_unit_same}
use Rattle.sched_laws.proofs.OnePlace.{decided_cur}
use Rattle.sched_laws.specs.PoolFacts.{IfUnit}
use Rattle.service_laws.specs.Demand.{Job}
use Rattle.reservation_laws.proofs.Tracks.{Watch, Tracks, Freed, face, freed, runs_now, runs_face, renewed_tracks, renewed_face, due_falls}

-- the core keeps its unit, and its due does not rise
record SameUnit (c d : Resource) : Type 0 where
  cur : d.cur ≡ c.cur
  due : (at : Moment) → c.due ≡ Some at → (at2 : Moment) × (d.due ≡ Some at2) × (at2.0 ≤ at.0)

same_due : (o p : Option Moment) → p ≡ o → (at : Moment) → o ≡ Some at → (at2 : Moment) × (p ≡ Some at2) × (at2.0 ≤ at.0)
same_due o p same at is = (at, same ∙ is, omega arith)

-- what may change in a step: the reservations of these units, and the core's unit, which is then this one
pub record Changes : Type 1 where
  pub units : UnitId → Type 0
  pub decides : Type 0
  pub chosen : Option UnitId

-- what the pool's core and records have, and what they had before
pub record HasJobs (fs : Watch) (r t : ℕ) (may : Changes) (cur : Option UnitId) (look : UnitId → Option Job) (pool : Pool) : Type 0 where
  pub domains : List (Option (List RtdsUnit))
  pub records : pool.scheduler.records ≡ RtdsPool domains
  pub core : Resource
  pub at : at_place pool.resources r ≡ Some core
  pub only : (k : ℕ) (c : Resource) → at_place pool.resources k ≡ Some c → k ≡ r
  pub tracks : Tracks fs t core.cur core.due domains
  pub has : (core.cur ≡ cur) ⊎ (may.decides × (core.cur ≡ may.chosen))
  pub faces : (u : UnitId) → (may.units u → ⊥) → face t domains u ≡ look u

-- what is known of an event that comes
abbrev pub Comes : ℕ → ℕ → ℕ → Changes → Pool → Action → Type 0
Comes g t r may pool (Repl u) = (enabled_in g t pool (Repl u) ≡ true) × may.units u
Comes g t r may pool (Decide k) = may.decides × ((decision_at g t pool k.0).unit ≡ may.chosen)
Comes g t r may pool action = Unit {0}

-- some budget is left to the unit
abbrev HasLeft : List (Option (List RtdsUnit)) → UnitId → Type 0
HasLeft domains u = nat_lt 0 (unit_left_budget domains u) ≡ true

may_have : (o : Option RtdsUnit) → elim o as (λ _. Bool) [ None ↦ false | Some x ↦ nat_lt 0 x.left ] ≡ true → nat_lt 0 (elim o as (λ _. ℕ) [ None ↦ 0 | Some x ↦ x.left ]) ≡ true
may_have None some = absurd (cc)
may_have (Some x) some = some

first_has : (P : UnitId → Type 0) (domains : List (Option (List RtdsUnit))) (best : Option UnitId) (units : List UnitId) → IfUnit P best → AllByRecursion P units → IfUnit P (rtds.first_of_units domains best units)
first_has P domains best [] own each = own
first_has P domains None (u ∷ units) own each = first_has P domains (Some u) units each.0 each.1
first_has P domains (Some best) (u ∷ units) own each =
    first_has P domains (Some (cond (rtds.is_unit_before domains u best) u best)) units (by_cond P (rtds.is_unit_before domains u best) u best (λ is. each.0) (λ is. own)) each.1

every : (P : UnitId → Type 0) (xs : List UnitId) → ((u : UnitId) → P u) → AllByRecursion P xs
every P [] all = tt
every P (u ∷ xs) all = (all u, every P xs all)

-- the choice has a record
choice_has : (ask : Ask) (scheduler : Scheduler) (domains : List (Option (List RtdsUnit))) → IfUnit (HasLeft domains) (rtds.rtds_choice ask scheduler domains)
choice_has ask scheduler domains =
    by_cond (IfUnit (HasLeft domains)) ask.leaving None _ (λ is. tt)
    (λ is. first_has (HasLeft domains) domains (rtds.rtds_candidate ask scheduler domains) _ candidate waiting)
  where
    candidate : IfUnit (HasLeft domains) (rtds.rtds_candidate ask scheduler domains)
    candidate =
        by_option (IfUnit (HasLeft domains)) ask.cur _ _ (λ is. tt)
        (λ u is. by_cond (IfUnit (HasLeft domains)) (ask.runnable && is_unit_allowed scheduler ask.home.0 ask.core.0 u && nat_lt 0 (unit_left_budget domains u)) (Some u) None
        (λ may. and_right (ask.runnable && is_unit_allowed scheduler ask.home.0 ask.core.0 u) (nat_lt 0 (unit_left_budget domains u)) may) (λ may. tt))

    waiting : AllByRecursion (HasLeft domains) (eligible_units (record scheduler { records = RtdsPool domains }) ask.home.0 ask.core.0 ask.at.0)
    waiting =
        AllByRecursion-filter (λ u. Unit {0}) (HasLeft domains) (is_unit_eligible (record scheduler { records = RtdsPool domains }) ask.home.0 ask.core.0 ask.at.0)
        (λ u is any. may_have (rtds_unit_at domains u) (and_right (is_unit_allowed scheduler ask.home.0 ask.core.0 u) _ is)) scheduler.queue (every (λ u. Unit {0}) scheduler.queue (λ u. tt))

-- what a decision leaves
record Decided (fs : Watch) (t : ℕ) (old : List (Option (List RtdsUnit))) (decision : Decision) : Type 0 where
  domains : List (Option (List RtdsUnit))
  records : decision.records ≡ RtdsPool domains
  tracks : Tracks fs t decision.unit decision.due domains
  faces : (u : UnitId) → face t domains u ≡ face t old u

decides_for : (fs : Watch) (ask : Ask) (due : Option Moment) (old : List (Option (List RtdsUnit))) → Tracks fs ask.at.0 ask.cur due old → (choice : Option UnitId) → IfUnit (HasLeft (own_burned_domains ask.cur ask.at.0 old)) choice
    → Decided fs ask.at.0 old (rtds.rtds_decision_for ask (own_burned_domains ask.cur ask.at.0 old) choice)
decides_for fs ask due old here None has =
    let f = freed fs ask.at.0 ask.cur due old here in
    record { domains = off_domains ask.cur (own_burned_domains ask.cur ask.at.0 old); records = refl; tracks = f.tracks; faces = f.face }
decides_for fs ask due old here (Some u) has =
    let burned : List (Option (List RtdsUnit)) = own_burned_domains ask.cur ask.at.0 old in
    let off : List (Option (List RtdsUnit)) = off_domains ask.cur burned in
    let f = freed fs ask.at.0 ask.cur due old here in
    by_record burned off has f (rtds_unit_at off u) refl
  where
    by_record : (burned off : List (Option (List RtdsUnit))) → HasLeft burned u → Freed fs ask.at.0 burned off old → (o : Option RtdsUnit) → rtds_unit_at off u ≡ o
        → Decided fs ask.at.0 old (record { unit = Some u; due = Some (moment (ask.at.0 + unit_left_budget burned u)); reset = 0; records = RtdsPool (running_domains (Some ask.at.0) u off) })
    by_record burned off has f None is =
        let none : 0 ≡ unit_left_budget burned u = sym (ap (λ (o : Option RtdsUnit). elim o as (λ _. ℕ) [ None ↦ 0 | Some z ↦ z.left ]) is) ∙ f.left u in
        let some : nat_lt 0 0 ≡ true = subst (λ (n : ℕ). nat_lt 0 n ≡ true) (sym none) has in
        absurd (grind (arith, some))
    by_record burned off has f (Some x) is =
        let left : x.left ≡ unit_left_budget burned u = sym (ap (λ (o : Option RtdsUnit). elim o as (λ _. ℕ) [ None ↦ 0 | Some z ↦ z.left ]) is) ∙ f.left u in
        record {
          domains = running_domains (Some ask.at.0) u off;
          records = refl;
          tracks = subst (λ (n : ℕ). Tracks fs ask.at.0 (Some u) (Some (moment (ask.at.0 + n))) (running_domains (Some ask.at.0) u off)) left (runs_now fs ask.at.0 u x off is f.tracks);
          faces = λ v. runs_face fs ask.at.0 u x off is f.tracks v ∙ f.face v;
        }

decides_rtds : (fs : Watch) (ask : Ask) (scheduler : Scheduler) (due : Option Moment) (old : List (Option (List RtdsUnit))) → scheduler.records ≡ RtdsPool old → Tracks fs ask.at.0 ask.cur due old → Decided fs ask.at.0 old (decision_of ask scheduler)
decides_rtds fs ask scheduler due old is here =
    subst (Decided fs ask.at.0 old) (sym (ap (λ (x : Records). decision_by x ask scheduler) is))
    (decides_for fs ask due old here (rtds.rtds_choice ask scheduler (own_burned_domains ask.cur ask.at.0 old)) (choice_has ask scheduler (own_burned_domains ask.cur ask.at.0 old)))

decided_due : (t : ℕ) (decision : Decision) (c : Resource) → (decided_core t decision c).due ≡ decision.due
decided_due t decision c = by_test (λ (d : Resource). d.due ≡ decision.due) (pools.same_choice decision.unit c.cur) _ _ (λ is. refl) (λ is. refl)

module _ (fs : Watch) (g r t : ℕ) (may : Changes) (cur : Option UnitId) (look : UnitId → Option Job) where
  abbrev H : Pool → Type 0
  H = HasJobs fs r t may cur look

  -- cores that keep their units
  h_cores : (cores : List (Option Resource)) (pool : Pool) → LikePlaces SameUnit pool.resources cores → H pool → H (record pool { resources = cores })
  h_cores cores pool like here =
      let d = like_is SameUnit pool.resources cores r here.core like here.at in
      let s : SameUnit here.core d.0 = d.2 in
      record {
        domains = here.domains;
        records = here.records;
        core = d.0;
        at = d.1;
        only = λ k c at. (let w = like_was SameUnit pool.resources cores k c like at in here.only k w.0 w.1);
        tracks = due_falls fs t d.0.cur here.core.due d.0.due here.domains s.due (subst (λ (o : Option UnitId). Tracks fs t o here.core.due here.domains) (sym s.cur) here.tracks);
        has = (elim here.has [ inl stays ↦ inl (s.cur ∙ stays) | inr goes ↦ inr (goes.0, s.cur ∙ goes.1) ]);
        faces = here.faces;
      }

  h_core : (k : ℕ) (f : Resource → Resource) (pool : Pool) → ((c : Resource) → SameUnit c (f c)) → H pool → H (change_core k f pool)
  h_core k f pool same here =
      h_cores (change_at k f pool.resources) pool (like_change_at SameUnit k f pool.resources (λ c. record { cur = refl; due = same_due c.due c.due refl }) (λ c at. same c)) here

  h_decides : (k : ℕ) (c : Resource) (pool : Pool) → at_place pool.resources k ≡ Some c → Comes g t r may pool (Decide (core_number k)) → H pool → H (pools.after_decide g t k c pool)
  h_decides k c pool at comes here =
      let same : k ≡ r = here.only k c at in
      let both : Some c ≡ Some here.core = sym at ∙ subst (λ (n : ℕ). at_place pool.resources n ≡ Some here.core) (sym same) here.at in
      let own : c ≡ here.core = cc in
      let ask : Ask = core_ask g t pool k c in
      let decision : Decision = decision_of ask pool.scheduler in
      let before : Tracks fs t c.cur c.due here.domains = subst (λ (x : Resource). Tracks fs t x.cur x.due here.domains) (sym own) here.tracks in
      let d : Decided fs t here.domains decision = decides_rtds fs ask pool.scheduler c.due here.domains here.records before in
      let there : at_place (put_at k (decided_core t decision c) pool.resources) k ≡ Some (decided_core t decision c) = at_place-put_at k (decided_core t decision c) pool.resources (place_below pool.resources k c at) in
      let unit_is : (decision_at g t pool k).unit ≡ decision.unit = ap (λ (o : Option Resource). (elim o as (λ _. Decision) [ None ↦ record { unit = None; due = None; reset = 0; records = pool.scheduler.records } | Some x ↦ decision_of (core_ask g t pool k x) pool.scheduler ]).unit) at in
      let told : decision.unit ≡ may.chosen = sym unit_is ∙ comes.1 in
      record {
        domains = d.domains;
        records = d.records;
        core = decided_core t decision c;
        at = subst (λ (n : ℕ). at_place (put_at k (decided_core t decision c) pool.resources) n ≡ Some (decided_core t decision c)) same there;
        only = λ j x at_j. (elim (read_put_at k j (decided_core t decision c) pool.resources x at_j) [ inl was ↦ here.only j x was | inr is ↦ is.0 ∙ same ]);
        tracks = subst (λ (o : Option Moment). Tracks fs t (decided_core t decision c).cur o d.domains) (sym (decided_due t decision c)) (subst (λ (o : Option UnitId). Tracks fs t o decision.due d.domains) (sym (decided_cur t decision c)) d.tracks);
        has = inr (comes.0, decided_cur t decision c ∙ told);
        faces = λ u not. d.faces u ∙ here.faces u not;
      }

  -- the record of a unit whose term is over
  over_record : (domains : List (Option (List RtdsUnit))) (u : UnitId) (o : Option RtdsUnit) → rtds_unit_at domains u ≡ o → elim o as (λ _. Bool) [ None ↦ false | Some x ↦ nat_le x.deadline t ] ≡ true → (x : RtdsUnit) × (rtds_unit_at domains u ≡ Some x) × (x.deadline ≤ t)
  over_record domains u None is over = absurd (cc)
  over_record domains u (Some x) is over = (x, is, grind (arith, over))

  h_replenishes : (u : UnitId) (pool : Pool) → Comes g t r may pool (Repl u) → H pool → H (pools.with_records (policy.records_after_replenish pool.scheduler.records t u) pool)
  h_replenishes u pool comes here =
      let on = and_right _ _ (and_left (_ && policy.is_replenish_due pool.scheduler.records t u) _ comes.0) in
      let over : policy.is_replenish_due (RtdsPool here.domains) t u ≡ true = subst (λ (x : Records). policy.is_replenish_due x t u ≡ true) here.records on in
      let x = over_record here.domains u (rtds_unit_at here.domains u) refl over in
      record {
        domains = change_unit u (unit_after_replenish t) here.domains;
        records = ap (λ (x : Records). policy.records_after_replenish x t u) here.records;
        core = here.core;
        at = here.at;
        only = here.only;
        tracks = renewed_tracks fs t u x.0 here.domains x.1 x.2 here.core.cur here.core.due here.tracks;
        has = here.has;
        faces = λ v not. (
            elim (cases_Bool (same_unit u v)) [
              | inl same ↦ absurd (not (subst may.units (same_unit_same u v same) comes.1))
              | inr other ↦ renewed_face fs t u x.0 here.domains x.1 x.2 v other ∙ here.faces v not
            ]);
      }

  falls : (budget : ℕ) (o : Option Moment) (at : Moment) → o ≡ Some at → (at2 : Moment) × (option_map (λ (due : Moment). moment (min (t + budget) due.0)) o ≡ Some at2) × (at2.0 ≤ at.0)
  falls budget None at is = absurd (cc)
  falls budget (Some due) at is = (let same : due ≡ at = cc in (moment (min (t + budget) due.0), refl, (let e = ap (λ (x : Moment). x.0) same in omega (arith, e))))

  h_parts : KeptByParts g t (Comes g t r may) H
  h_parts = record {
    cores = λ cores pool like. h_cores cores pool (like_map KeepsCore SameUnit pool.resources cores (λ c d keeps. record { cur = keeps.cur; due = same_due c.due d.due keeps.due }) like);
    domains = λ d f pool count moving here. record { domains = here.domains; records = here.records; core = here.core; at = here.at; only = here.only; tracks = here.tracks; has = here.has; faces = here.faces };
    queues = λ u pool runs here. record { domains = here.domains; records = here.records; core = here.core; at = here.at; only = here.only; tracks = here.tracks; has = here.has; faces = here.faces };
    dequeues = λ d pool here. record { domains = here.domains; records = here.records; core = here.core; at = here.at; only = here.only; tracks = here.tracks; has = here.has; faces = here.faces };
    decides = h_decides;
    saves = λ k c u pool at is on. h_core k pools.saved_core pool (λ x. record { cur = refl; due = same_due x.due x.due refl });
    replenishes = h_replenishes;
    dues = λ k u x old pool on is. h_core k (pools.due_within t x.budget) pool (λ c. record { cur = refl; due = falls x.budget c.due });
    refills = λ d pool on here. record {
      domains = here.domains;
      records = ap (λ (x : Records). policy.records_after_refill x t d) here.records;
      core = here.core;
      at = here.at;
      only = here.only;
      tracks = here.tracks;
      has = here.has;
      faces = here.faces;
    };
  }

  -- an event, and then the cores looked at
  pub h_event : (pool : Pool) (action : Action) → Comes g t r may pool action → H pool → H (settled_pool t (after_in g t pool action))
  h_event pool action comes here = kept_settled (commands_of h_parts) t (after_in g t pool action) (kept_by_parts h_parts pool action comes here)
