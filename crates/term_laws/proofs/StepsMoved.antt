-- The domain itself moves: no core has a unit of it, and it has no cap then.
use Rattle.sched_base.specs.Numbers.{domain as domain_number}
use Rattle.std.proofs.Common.{◌≡◌, ℕ, Bool, true, false, List, refl, ap, subst, sym, ◌∙◌, cond, inl, inr}
use Rattle.std.specs.Prelude.{Option, Some, None, is_some, ◌==◌, ◌||◌}
use Rattle.std.proofs.Math.Decide.{ℕ_discrete}
use Rattle.std.proofs.lemmas.Bool.{eq-eqb}
use Rattle.sched_base.specs.declared.PoolId.{PoolId}
use Rattle.sched_base.specs.declared.UnitId.{UnitId}
use Rattle.sched_model.specs.declared.action.Action.TheVariants.{DomMoved}
use Rattle.sched_model.specs.declared.machine.Machine.{Machine}
use Rattle.sched_model.specs.declared.state.State.{State}
use Rattle.sched_model.specs.declared.state.Pool.{Pool}
use Rattle.sched_model.specs.declared.state.Domain.{Domain}
use Rattle.sched_model.specs.declared.state.Records.{Records}
use Rattle.sched_model.specs.declared.state.Records.TheVariants.{Credit2Pool}
use Rattle.sched_model.specs.declared.state.Credit2Domain.{Credit2Domain}
use Rattle.sched_model.specs.Places.{at_place, put_at, test_at, change_at, numbers_from}
use Rattle.sched_model.specs.Credit2.{fresh_credit2_domain}
use Rattle.sched_model.specs.Policy.{standard_dom_params, joined_records, domain_credit2_record}
use Rattle.sched_model.specs.Policy as policy
use Rattle.sched_model.specs.Pool.{settled_pool, pool_without_domain, is_domain_unit, domain_unit_count}
use Rattle.sched_model.specs.Actions.{change_pool}
use Rattle.sched_model.specs.Machine.{after, event_of, left_by, joined_by, is_null_pool}
use Rattle.sched_laws.proofs.EachPlace.{by_cond, at_place-put_at, read_change_at, read_put_at, place_below}
use Rattle.sched_base.proofs.Bools.{or_right, clash}
use Rattle.sched_laws.proofs.Lists.{test_at-some, some_is, test_at-clear_at_false}
use Rattle.term_laws.proofs.Same.{cur_in}
use Rattle.term_laws.proofs.ActsIn.{ActsIn, home_pools_same}
use Rattle.term_laws.proofs.Moving.{came_moved, mover, mover_off}
use Rattle.term_laws.proofs.Beginning.{queue_keeps}
use Rattle.term_laws.proofs.ActsIn.{one_home}
use Rattle.term_laws.specs.CapTerm.{refills, cap_set}
use Rattle.term_laws.proofs.CapTracks.{cap_at, number_in, on_core}
use Rattle.term_laws.proofs.StepsState.{Stands, HomeOf, home_is, credit2_is, on_is, no_unit_there}
use Rattle.term_laws.proofs.StepsHolds.{StepGives, cap_of}

-- the record of a domain that has joined with default parameters has no cap
put_is : (d : ℕ) (x y : Credit2Domain) (places : List (Option Credit2Domain)) → at_place (put_at d x places) d ≡ Some y → x ≡ y
put_is d x y places at = elim (read_put_at d d x places y at) [
  | inl was ↦ (let e : Some x ≡ Some y = sym (at_place-put_at d x places (place_below places d y was)) ∙ at in cc)
  | inr here ↦ here.1
]

joined_cap : (records : Records) (d count t : ℕ) (y : Credit2Domain) → domain_credit2_record (joined_records records (standard_dom_params records) d count t) d ≡ Some y → y.cap ≡ 0
joined_cap (Credit2Pool own) d count t y is = sym (ap (λ (z : Credit2Domain). z.cap) (put_is d (fresh_credit2_domain 256 0 count t) y own.domains is))
joined_cap records d count t y is = absurd (cc)

-- a domain's units that wait change no record
joined_by_cap : (g t d : ℕ) (domain : Domain) (pool : Pool) (y : Credit2Domain) → domain_credit2_record (joined_by g t d domain pool).scheduler.records d ≡ Some y → y.cap ≡ 0
joined_by_cap g t d domain pool y is =
    let joining : Domain = record domain { moving = None } in
    let count = domain_unit_count g joining in
    let put : Pool = record pool { domains = put_at d joining pool.domains; scheduler = policy.joined_scheduler d count (standard_dom_params pool.scheduler.records) t pool.scheduler } in
    joined_cap pool.scheduler.records d count t y (sym (ap (λ (x : Records). domain_credit2_record x d) (queue_keeps g d (numbers_from 0 count) put)) ∙ is)

left_has_not : (t d : ℕ) (pool : Pool) → test_at (left_by t d pool).domains d (λ x. true) ≡ false
left_has_not t d pool =
    by_cond (λ (q : Pool). test_at q.domains d (λ x. true) ≡ false) (is_null_pool pool.scheduler.records) (settled_pool t (pool_without_domain d pool)) (pool_without_domain d pool)
    (λ is. test_at-clear_at_false d (λ x. true) pool.domains) (λ is. test_at-clear_at_false d (λ x. true) pool.domains)

not_of_it : (d : ℕ) (o : Option UnitId) → is_domain_unit d o ≡ false → number_in d o ≡ None
not_of_it d None is = refl
not_of_it d (Some u) is = ap (λ (b : Bool). cond b (Some u.n) None) is

module _ (m : Machine) (d : ℕ) (s : State) (k : Stands m s) (k2 : Stands m (after m s s.now (DomMoved (domain_number d)))) (a : ActsIn m s s.now (DomMoved (domain_number d))) (home2 : HomeOf d (after m s s.now (DomMoved (domain_number d)))) where
  abbrev s2 : State
  s2 = after m s s.now (DomMoved (domain_number d))

  abbrev g : ℕ
  g = m.config.granularity

  the_mover : (x : Domain) × (at_place a.pool.domains d ≡ Some x) × (is_some x.moving ≡ true)
  the_mover = mover m s d a

  there : test_at a.pool.domains d (λ x. true) ≡ true
  there = (let x = the_mover in test_at-some a.pool.domains d (λ y. true) x.0 x.1 refl)

  nobody : (r : ℕ) → number_in d (cur_in (at_place a.pool.resources r)) ≡ None
  nobody r =
      elim (at_place a.pool.resources r) as (λ o. at_place a.pool.resources r ≡ o → number_in d (cur_in o) ≡ None) [
        | None ↦ λ is. refl
        | Some c ↦ λ is. not_of_it d c.cur (mover_off m s d a r c is)
      ] refl

  to : (j : PoolId) × ((the_mover).0.moving ≡ Some j)
  to = (let x = the_mover in some_is x.0.moving x.2)

  state_is : s2 ≡ change_pool (to).0.0 (joined_by g s.now d (the_mover).0) (change_pool a.j (left_by s.now d) s)
  state_is =
      let x = the_mover in
      let j = to in
      ap (λ (o : Option ℕ). elim o as (λ _. State) [
        | None ↦ s
        | Some i ↦ elim (at_place s.pools i) [
          | None ↦ s
          | Some pool ↦ elim (at_place pool.domains d) [
            | None ↦ s
            | Some domain ↦ elim domain.moving [ None ↦ s | Some j2 ↦ change_pool j2.0 (joined_by g s.now d domain) (change_pool i (left_by s.now d) s) ]
          ]
        ]
      ]) (home_is m s k.known d a.j a.pool a.at there)
      ∙ ap (λ (o : Option Pool). elim o as (λ _. State) [
        | None ↦ s
        | Some pool ↦ elim (at_place pool.domains d) [
          | None ↦ s
          | Some domain ↦ elim domain.moving [ None ↦ s | Some j2 ↦ change_pool j2.0 (joined_by g s.now d domain) (change_pool a.j (left_by s.now d) s) ]
        ]
      ]) a.at
      ∙ ap (λ (o : Option Domain). elim o as (λ _. State) [ None ↦ s | Some domain ↦ elim domain.moving [ None ↦ s | Some j2 ↦ change_pool j2.0 (joined_by g s.now d domain) (change_pool a.j (left_by s.now d) s) ] ]) x.1
      ∙ ap (λ (o : Option PoolId). elim o as (λ _. State) [ None ↦ s | Some j2 ↦ change_pool j2.0 (joined_by g s.now d x.0) (change_pool a.j (left_by s.now d) s) ]) j.1

  abbrev left : List (Option Pool)
  left = change_at a.j (left_by s.now d) s.pools

  at_home : at_place (change_at (to).0.0 (joined_by g s.now d (the_mover).0) left) home2.home ≡ Some home2.pool
  at_home = sym (ap (λ (x : State). at_place x.pools home2.home) state_is) ∙ home2.at

  -- no core has a unit of it afterwards
  nobody_now : (r : ℕ) → on_core s2 d r ≡ None
  nobody_now r =
      let came = came_moved g s.now d s home2.home home2.pool home2.at in
      on_is m s2 k2.known d home2.home home2.pool home2.at home2.there r ∙ ap (number_in d) (came.2 r) ∙ before came.0 came.1
    where
      before : (p : Pool) → at_place s.pools home2.home ≡ Some p → number_in d (cur_in (at_place p.resources r)) ≡ None
      before p at =
          elim (ℕ_discrete home2.home a.j) [
            | yes e ↦ subst (λ (x : Pool). number_in d (cur_in (at_place x.resources r)) ≡ None) (sym (home_pools_same s home2.home a.j p a.pool at a.at e)) (nobody r)
            | no ne ↦ elim (at_place p.resources r) as (λ o. at_place p.resources r ≡ o → number_in d (cur_in o) ≡ None) [
              | None ↦ λ is. refl
              | Some c ↦ λ is. no_unit_there s d a.j home2.home r a.pool p c k.known.apart a.at there at (k.known.own home2.home p at) is ne
            ] refl
          ]

  -- its record has no cap, if it has one
  no_cap : (y : Credit2Domain) → domain_credit2_record home2.pool.scheduler.records d ≡ Some y → y.cap ≡ 0
  no_cap y is = elim (read_change_at (to).0.0 home2.home (joined_by g s.now d (the_mover).0) left home2.pool at_home) [
    | inr x ↦ joined_by_cap g s.now d (the_mover).0 x.0 y (ap (λ (q : Pool). domain_credit2_record q.scheduler.records d) x.3 ∙ is)
    | inl was ↦ absurd (elim (read_change_at a.j home2.home (left_by s.now d) s.pools home2.pool was.1) [
      | inr x ↦ (
          let gone : test_at home2.pool.domains d (λ z. true) ≡ false = subst (λ (q : Pool). test_at q.domains d (λ z. true) ≡ false) x.3 (left_has_not s.now d x.0) in
          clash (test_at home2.pool.domains d (λ z. true)) home2.there gone)
      | inl old ↦ old.0 (one_home s home2.home a.j home2.pool a.pool d k.known.apart old.1 a.at home2.there there)
    ])
  ]

  cap_now : cap_at s2 d ≡ 0
  cap_now = ap cap_of (credit2_is m s2 k2.known d home2.home home2.pool home2.at home2.there) ∙ go (domain_credit2_record home2.pool.scheduler.records d) refl
    where
      go : (o : Option Credit2Domain) → domain_credit2_record home2.pool.scheduler.records d ≡ o → cap_of o ≡ 0
      go None is = refl
      go (Some y) is = no_cap y is

  nobody_then : (r : ℕ) → on_core s d r ≡ None
  nobody_then r = on_is m s k.known d a.j a.pool a.at there r ∙ nobody r

  pub moved_gives : StepGives m d s s2 (event_of m s s.now (DomMoved (domain_number d)))
  moved_gives = record {
    tracks = record {
      stays = λ r is. nobody_now r ∙ sym (nobody_then r);
      decides = λ r late is. absurd (cc);
      cap = cap_now ∙ sym (ap (λ (b : Bool). cond b 0 (cap_at s d)) (eq-eqb d d refl));
      moved = λ r is. nobody_then r;
      set_budget = λ percent y is y_is. absurd (cc);
      set_stops = λ percent y is y_is n stop stops. absurd (cc);
      refilled = λ x y is x_is some y_is. absurd (cc);
      decided = λ r late x y is x_is some y_is. absurd (cc);
      goes = λ x y ends late x_is some y_is. absurd (clash (d == d) (eq-eqb d d refl) (or_right (refills d (event_of m s s.now (DomMoved (domain_number d))) || is_some (cap_set m d (event_of m s s.now (DomMoved (domain_number d))))) (d == d) ends));
    };
    holds = λ x is r n on. absurd (let none = nobody_now r in cc);
  }
