-- A unit is replenished: what becomes of an RTDS unit, of that one or of another.
use Rattle.std.proofs.Common.{◌≡◌, ◌≤◌, ◌+◌, ◌-◌, ℕ, Bool, true, false, refl, arith, ap, subst, sym, ◌∙◌, cond}
use Rattle.std.specs.Prelude.{Option, Some, None, option_map, is_some, min, nat_le, ◌&&◌, ◌||◌}
use Rattle.std.proofs.Math.Decide.{ℕ_discrete}
use Rattle.std.proofs.lemmas.Bool.{eq-eqb}
use Rattle.sched_base.specs.Numbers.{moment, span}
use Rattle.sched_base.specs.declared.Moment.{Moment}
use Rattle.sched_base.specs.declared.Span.{Span}
use Rattle.sched_base.specs.declared.UnitId.{UnitId}
use Rattle.sched_base.proofs.Bools.{and_left, and_right, clash}
use Rattle.sched_model.specs.declared.action.Action.TheVariants.{Repl}
use Rattle.sched_model.specs.declared.event.Event.TheVariants as event
use Rattle.sched_model.specs.declared.machine.Machine.{Machine}
use Rattle.sched_model.specs.declared.state.State.{State}
use Rattle.sched_model.specs.declared.state.Pool.{Pool}
use Rattle.sched_model.specs.declared.state.Resource.{Resource}
use Rattle.sched_model.specs.declared.state.RtdsUnit.{RtdsUnit}
use Rattle.sched_model.specs.declared.state.Records.{Records}
use Rattle.sched_model.specs.declared.state.Records.TheVariants.{RtdsPool}
use Rattle.sched_model.specs.Places.{at_place, test_at, change_at, is_unit, same_unit, has_listed_unit}
use Rattle.sched_model.specs.EligibleUnits.{rtds_unit_at}
use Rattle.sched_model.specs.Policy as policy
use Rattle.sched_model.specs.Policy.{unit_rtds_record}
use Rattle.sched_model.specs.Rtds.{unit_after_replenish}
use Rattle.sched_model.specs.Pool.{after_replenish, settled_pool, due_within, unit_core, with_records, is_lowest_processor_up, replenished_unit}
use Rattle.sched_model.specs.Machine.{after, home_pool, event_of}
use Rattle.sched_laws.proofs.EachPlace.{by_option, found_at, none_found, at_place-change_at}
use Rattle.sched_laws.proofs.Choices.{is_unit_same}
use Rattle.sched_laws.proofs.Counts.{same_unit_refl}
use Rattle.sched_laws.proofs.Lists.{test_at-some, some_is}
use Rattle.sched_laws.proofs.RtdsUnits.{rtds_unit-same, rtds_unit-other}
use Rattle.term_laws.proofs.AtPlaces.{at_place-change_at_other}
use Rattle.term_laws.proofs.UnitFollowed.{Same, same_refl, same_settled, charged}
use Rattle.term_laws.proofs.Same.{cur_in}
use Rattle.term_laws.proofs.ActsIn.{ActsIn, home_pools_same, acts_here, acts_elsewhere}
use Rattle.term_laws.proofs.CapTracks.{number_in, due_at}
use Rattle.term_laws.proofs.Same.{due_in}
use Rattle.term_laws.proofs.StepsState.{Stands, HomeOf, on_one, unit_of_number, same_units}
use Rattle.term_laws.proofs.UnitTracks.{HasIt, Renewed, UnitTracks}
use Rattle.term_laws.proofs.UnitSame.{rtds_is, due_here, has_number, has_still, same_tracks}

-- the due of a core that may have to ask again earlier
due_of_changed : (t budget due : ℕ) (o : Option Resource) → due_in o ≡ Some (moment due) → due_in (option_map (due_within t budget) o) ≡ Some (moment (min (t + budget) due))
due_of_changed t budget due None is = absurd (cc)
due_of_changed t budget due (Some c) is = ap (option_map (λ (x : Moment). moment (min (t + budget) x.0))) is

cur_of_changed : (t budget : ℕ) (o : Option Resource) → cur_in (option_map (due_within t budget) o) ≡ cur_in o
cur_of_changed t budget None = refl
cur_of_changed t budget (Some c) = refl

module _ (t : ℕ) (v : UnitId) (p : Pool) where
  abbrev recorded : Pool
  recorded = with_records (policy.records_after_replenish p.scheduler.records t v) p

  -- the pool after it, by the core that has the unit
  by_cores : (Q : Pool → Type 0) → Q recorded → ((n : ℕ) (x : RtdsUnit) → unit_core p v ≡ Some n → unit_rtds_record recorded.scheduler.records v ≡ Some x → Q (record recorded { resources = change_at n (due_within t x.budget) p.resources })) → Q (after_replenish t v p)
  by_cores Q here changed = by_option Q (unit_core p v) _ _ (λ none. here) (λ n found. by_option Q (unit_rtds_record recorded.scheduler.records v) _ _ (λ none. here) (λ x is. changed n x found is))

  curs_stay : (r : ℕ) → cur_in (at_place (after_replenish t v p).resources r) ≡ cur_in (at_place p.resources r)
  curs_stay r = by_cores (λ (q : Pool). cur_in (at_place q.resources r) ≡ cur_in (at_place p.resources r)) refl (λ n x found is. changed n x.budget)
    where
      changed : (n budget : ℕ) → cur_in (at_place (change_at n (due_within t budget) p.resources) r) ≡ cur_in (at_place p.resources r)
      changed n budget = elim (ℕ_discrete n r) [
        | yes e ↦ subst (λ (j : ℕ). cur_in (at_place (change_at n (due_within t budget) p.resources) j) ≡ cur_in (at_place p.resources j)) e (ap cur_in (at_place-change_at n (due_within t budget) p.resources) ∙ cur_of_changed t budget (at_place p.resources n))
        | no ne ↦ ap cur_in (at_place-change_at_other n r (due_within t budget) p.resources ne)
      ]

  due_falls : (n budget r due : ℕ) → due_in (at_place p.resources r) ≡ Some (moment due) → (due2 : ℕ) × (due_in (at_place (change_at n (due_within t budget) p.resources) r) ≡ Some (moment due2)) × (due2 ≤ due) × (n ≡ r → due2 ≤ t + budget)
  due_falls n budget r due is = elim (ℕ_discrete n r) [
    | yes e ↦ (
      min (t + budget) due,
      subst (λ (j : ℕ). due_in (at_place p.resources j) ≡ Some (moment due) → due_in (at_place (change_at n (due_within t budget) p.resources) j) ≡ Some (moment (min (t + budget) due))) e (λ here. ap due_in (at_place-change_at n (due_within t budget) p.resources) ∙ due_of_changed t budget due (at_place p.resources n) here) is,
      omega arith,
      λ same. omega arith,
    )
    | no ne ↦ (due, ap due_in (at_place-change_at_other n r (due_within t budget) p.resources ne) ∙ is, omega arith, λ same. absurd (ne same))
  ]

  records_after : (after_replenish t v p).scheduler.records ≡ policy.records_after_replenish p.scheduler.records t v
  records_after = by_cores (λ (q : Pool). q.scheduler.records ≡ policy.records_after_replenish p.scheduler.records t v) refl (λ n x found is. refl)

  domains_after : (after_replenish t v p).domains ≡ p.domains
  domains_after = by_cores (λ (q : Pool). q.domains ≡ p.domains) refl (λ n x found is. refl)

  dues_after : (r due : ℕ) → due_in (at_place p.resources r) ≡ Some (moment due) → (due2 : ℕ) × (due_in (at_place (after_replenish t v p).resources r) ≡ Some (moment due2)) × (due2 ≤ due)
  dues_after r due is = by_cores (λ (q : Pool). (due2 : ℕ) × (due_in (at_place q.resources r) ≡ Some (moment due2)) × (due2 ≤ due)) (due, is, omega arith) (λ n x found at. (let f = due_falls n x.budget r due is in (f.0, f.1, f.2)))

  -- the core that has the unit which is replenished
  abbrev HasFallen : ℕ → ℕ → ℕ → Pool → Type 0
  HasFallen due most r q = (due2 : ℕ) × (due_in (at_place q.resources r) ≡ Some (moment due2)) × (due2 ≤ due) × (due2 ≤ most)

  own_due : (y : RtdsUnit) (r due : ℕ) → unit_rtds_record recorded.scheduler.records v ≡ Some y → cur_in (at_place p.resources r) ≡ Some v → ((n : ℕ) → cur_in (at_place p.resources n) ≡ Some v → n ≡ r) → due_in (at_place p.resources r) ≡ Some (moment due)
      → (due2 : ℕ) × (due_in (at_place (after_replenish t v p).resources r) ≡ Some (moment due2)) × (due2 ≤ due) × (due2 ≤ t + y.budget)
  own_due y r due has on only is =
      by_option (HasFallen due (t + y.budget) r) (unit_core p v) _ _
      (λ none. absurd (no_core (at_place p.resources r) refl on none))
      (λ n found. by_option (HasFallen due (t + y.budget) r) (unit_rtds_record recorded.scheduler.records v) _ _
      (λ none. absurd (let e : None ≡ Some y = sym none ∙ has in cc))
      (λ x at. (
      let e : Some x ≡ Some y = sym at ∙ has in
      let e2 : x ≡ y = cc in
      let f = found_at n (λ c. is_unit c.cur v) p.resources found in
      let here = only n (ap cur_in f.1 ∙ is_unit_same f.0.cur v f.2) in
      let d = due_falls n x.budget r due is in
      let within = d.3 here in
      let budget = ap (λ (z : RtdsUnit). z.budget) e2 in
      (d.0, d.1, d.2, omega (arith, within, budget)))))
    where
      no_core : (o : Option Resource) → at_place p.resources r ≡ o → cur_in o ≡ Some v → unit_core p v ≡ None → ⊥
      no_core None is2 on2 none = cc
      no_core (Some c) is2 on2 none =
          let f = none_found 0 r (λ c. is_unit c.cur v) p.resources c none is2 in
          let s = same_unit_refl v in
          let g : is_unit (Some v) v ≡ false = subst (λ (o : Option UnitId). is_unit o v ≡ false) on2 f in
          cc

-- the records of another unit
other_record : (records : Records) (t : ℕ) (v u : UnitId) → same_unit v u ≡ false → unit_rtds_record (policy.records_after_replenish records t v) u ≡ unit_rtds_record records u
other_record (RtdsPool domains) t v u other = rtds_unit-other v u (unit_after_replenish t) domains other
other_record records t v u other = refl

-- a unit whose replenishment is due has a record
is_due : (records : Records) (t : ℕ) (u : UnitId) → policy.is_replenish_due records t u ≡ true → (x : RtdsUnit) × (unit_rtds_record records u ≡ Some x) × (x.deadline ≤ t) × (unit_rtds_record (policy.records_after_replenish records t u) u ≡ Some (unit_after_replenish t x))
is_due (RtdsPool domains) t u is = go (rtds_unit_at domains u) refl is
  where
    go : (o : Option RtdsUnit) → rtds_unit_at domains u ≡ o → elim o as (λ _. Bool) [ None ↦ false | Some x ↦ nat_le x.deadline t ] ≡ true
        → (x : RtdsUnit) × (rtds_unit_at domains u ≡ Some x) × (x.deadline ≤ t) × (unit_rtds_record (policy.records_after_replenish (RtdsPool domains) t u) u ≡ Some (unit_after_replenish t x))
    go None e is2 = absurd (cc)
    go (Some x) e is2 = (x, e, grind (arith, is2), rtds_unit-same u (unit_after_replenish t) domains x e)
is_due records t u is = absurd (cc)

module _ (m : Machine) (u : UnitId) (s : State) (v : UnitId) (k : Stands m s) (k2 : Stands m (after m s s.now (Repl v))) (a : ActsIn m s s.now (Repl v)) where
  abbrev s2 : State
  s2 = after m s s.now (Repl v)

  abbrev mid : Pool
  mid = after_replenish s.now v a.pool

  abbrev next : Pool
  next = settled_pool s.now mid

  at_next : at_place s2.pools a.j ≡ Some next
  at_next = acts_here m s s.now (Repl v) a

  settles : Same u mid next
  settles = same_settled u s.now mid mid (same_refl u mid)

  -- the pool has the domain of the unit that is replenished
  pub there_here : test_at a.pool.domains v.dom.0 (λ x. true) ≡ true
  there_here =
      let f = found_at a.j (λ (p : Pool). is_some (at_place p.domains v.dom.0)) s.pools a.home in
      let e : f.0 ≡ a.pool = home_pools_same s a.j a.j f.0 a.pool f.1 a.at refl in
      let x = some_is (at_place a.pool.domains v.dom.0) (subst (λ (p : Pool). is_some (at_place p.domains v.dom.0) ≡ true) e f.2) in
      test_at-some a.pool.domains v.dom.0 (λ x. true) x.0 x.1 refl

  -- the pool has the unit's domain
  module _ (there : test_at a.pool.domains u.dom.0 (λ x. true) ≡ true) where
    there2 : test_at next.domains u.dom.0 (λ x. true) ≡ true
    there2 = subst (λ ds. test_at ds u.dom.0 (λ x. true) ≡ true) (sym (domains_after s.now v a.pool)) there

    on_still : (r : ℕ) → HasIt u s r → HasIt u s2 r
    on_still r on = has_still m u (event_of m s s.now (Repl v)) s s2 k.known k2.known a.j a.j a.pool next a.at there at_next there2 r (settles.curs r ∙ curs_stay s.now v a.pool r) on

    -- the due of a core that has the unit, where the unit's record is there afterwards
    due_next : (y : RtdsUnit) (r : ℕ) → unit_rtds_record mid.scheduler.records u ≡ Some y → HasIt u s r → due_at s2 r ≡ due_in (at_place mid.resources r)
    due_next y r has on =
        due_here m u s2 k2.known a.j next at_next there2 r (on_still r on) ∙ settles.dues (y, has) r u.n (ap (number_in u.dom.0) (curs_stay s.now v a.pool r) ∙ has_number m u s k.known a.j a.pool a.at there r on)

    other_tracks : same_unit v u ≡ false → UnitTracks m u (event_of m s s.now (Repl v)) s s2
    other_tracks other = record {
      renewed = λ is. absurd (clash (same_unit v u) is other);
      decided = λ r late is. absurd (cc);
      taken = λ r late y is on y_is. absurd (cc);
      goes = λ none not_renewed stays. ap charged (rtds_is m u s2 k2.known a.j next at_next there2 ∙ record_stays ∙ sym (rtds_is m u s k.known a.j a.pool a.at there));
      due = λ x r due x_is on none is. (
          let d = dues_after s.now v a.pool r due (sym (due_here m u s k.known a.j a.pool a.at there r on) ∙ is) in
          (d.0, due_next x r (record_stays ∙ sym (rtds_is m u s k.known a.j a.pool a.at there) ∙ x_is) on ∙ d.1, d.2));
    }
      where
        record_stays : unit_rtds_record mid.scheduler.records u ≡ unit_rtds_record a.pool.scheduler.records u
        record_stays = ap (λ (records : Records). unit_rtds_record records u) (records_after s.now v a.pool) ∙ other_record a.pool.scheduler.records s.now v u other

  pub other_renewed : HomeOf u.dom.0 s → same_unit v u ≡ false → UnitTracks m u (event_of m s s.now (Repl v)) s s2
  other_renewed home other =
      elim (ℕ_discrete a.j home.home) [
        | yes e ↦ (let same = home_pools_same s home.home a.j home.pool a.pool home.at a.at (sym e) in other_tracks (subst (λ (p : Pool). test_at p.domains u.dom.0 (λ x. true) ≡ true) same home.there) other)
        | no ne ↦ same_tracks m u (event_of m s s.now (Repl v)) s s2 k.known k2.known home.home home.home home.pool home.pool home.at home.there (acts_elsewhere m s s.now (Repl v) a home.home ne ∙ home.at) home.there (λ r. refl) other (same_refl u home.pool)
      ]

-- the unit itself
module _ (m : Machine) (u : UnitId) (s : State) (k : Stands m s) (k2 : Stands m (after m s s.now (Repl u))) (a : ActsIn m s s.now (Repl u)) where
  own_there : test_at a.pool.domains u.dom.0 (λ x. true) ≡ true
  own_there = there_here m u s u k k2 a

  due_now : policy.is_replenish_due a.pool.scheduler.records s.now u ≡ true
  due_now = and_right (has_listed_unit a.pool.scheduler.queue u || is_some (unit_core a.pool u)) (policy.is_replenish_due a.pool.scheduler.records s.now u) (and_left ((has_listed_unit a.pool.scheduler.queue u || is_some (unit_core a.pool u)) && policy.is_replenish_due a.pool.scheduler.records s.now u) (is_lowest_processor_up s.now a.pool) a.enabled)

  pub own_renewed : UnitTracks m u (event_of m s s.now (Repl u)) s (after m s s.now (Repl u))
  own_renewed = record {
    renewed = λ is. renewed_here;
    decided = λ r late is. absurd (cc);
    taken = λ r late y is on y_is. absurd (cc);
    goes = λ none not_renewed stays. absurd (clash (same_unit u u) (same_unit_refl u) not_renewed);
    due = λ x r due x_is on none is. (let d = renewed_here.due r due on is in (d.0, d.1, d.2));
  }
    where
      renewed_here : Renewed u (event_of m s s.now (Repl u)) s (after m s s.now (Repl u))
      renewed_here =
          let x = is_due a.pool.scheduler.records s.now u due_now in
          let y : RtdsUnit = unit_after_replenish s.now x.0 in
          let records = records_after s.now u a.pool in
          let has : unit_rtds_record (after_replenish s.now u a.pool).scheduler.records u ≡ Some y = ap (λ (z : Records). unit_rtds_record z u) records ∙ x.3 in
          let printed : replenished_unit s.now u (home_pool m s (Repl u)) ≡ Some y = ap (λ (p : Pool). replenished_unit s.now u p) a.pool_is ∙ x.3 in
          record {
            old = x.0;
            at = rtds_is m u s k.known a.j a.pool a.at own_there ∙ x.1;
            over = x.2;
            next = rtds_is m u (after m s s.now (Repl u)) k2.known a.j (settled_pool s.now (after_replenish s.now u a.pool)) (at_next m u s u k k2 a) (there2 m u s u k k2 a own_there) ∙ has;
            prints = ap (λ (o : Option RtdsUnit). event.Repl u
                (elim o as (λ _. Moment) [ None ↦ moment 0 | Some z ↦ moment (z.deadline - z.period) ])
                (elim o as (λ _. Moment) [ None ↦ moment 0 | Some z ↦ moment z.deadline ])
                (elim o as (λ _. Span) [ None ↦ span 0 | Some z ↦ span z.budget ])
                (elim o as (λ _. Bool) [ None ↦ false | Some z ↦ z.extra ])) printed;
            due = λ r due on is. (
                let c = the_cur r on in
                let d = own_due s.now u a.pool y r due x.3 c
                (λ n on2. on_one m s k.known u.dom.0 a.j a.pool a.at own_there n r u.n (ap (number_in u.dom.0) on2 ∙ own_number) (has_number m u s k.known a.j a.pool a.at own_there r on))
                (sym (due_here m u s k.known a.j a.pool a.at own_there r on) ∙ is) in
                let within = d.3 in
                let full : y.left ≡ y.budget = refl in
                (d.0, due_next m u s u k k2 a own_there y r has on ∙ d.1, d.2, omega (arith, within, full)));
          }
        where
          own_number : number_in u.dom.0 (Some u) ≡ Some u.n
          own_number = ap (λ (b : Bool). cond b (Some u.n) None) (eq-eqb u.dom.0 u.dom.0 refl)

          the_cur : (r : ℕ) → HasIt u s r → cur_in (at_place a.pool.resources r) ≡ Some u
          the_cur r on =
              let w = unit_of_number u.dom.0 u.n (cur_in (at_place a.pool.resources r)) (has_number m u s k.known a.j a.pool a.at own_there r on) in
              w.1 ∙ ap (λ (z : UnitId). Some z) (same_units w.0 u w.2 w.3)
