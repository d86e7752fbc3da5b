-- A domain is refilled: what becomes of it.
use Rattle.sched_base.specs.Numbers.{domain}
use Rattle.std.proofs.Common.{◌≡◌, ◌<◌, ◌*◌, ℕ, true, false, refl, arith, ap, subst, sym, ◌∙◌}
use Rattle.std.specs.Prelude.{Option, Some, None, option_map, ◌==◌, ℤ, pos, ◌+ℤ◌, ◌-ℤ◌, ◌≤ℤ◌}
use Rattle.std.specs.Int.{int_min}
use Rattle.std.proofs.lemmas.Int.{ints, clamps}
use Rattle.std.proofs.lemmas.Bool.{eq-eqb}
use Rattle.sched_base.specs.Credit2Numbers.{cap_budget}
use Rattle.sched_model.specs.declared.action.Action.TheVariants.{Refill}
use Rattle.sched_model.specs.declared.machine.Machine.{Machine}
use Rattle.sched_model.specs.declared.state.State.{State}
use Rattle.sched_model.specs.declared.state.Pool.{Pool}
use Rattle.sched_model.specs.declared.state.Records.{Records}
use Rattle.sched_model.specs.declared.state.Records.TheVariants.{Credit2Pool}
use Rattle.sched_model.specs.declared.state.Credit2Unit.{Credit2Unit}
use Rattle.sched_model.specs.declared.state.Credit2Domain.{Credit2Domain}
use Rattle.sched_model.specs.CheckedMachine.{IsChecked}
use Rattle.sched_model.specs.Places.{at_place, test_at}
use Rattle.sched_model.specs.Credit2.{most_weight, burned_unit, burned_domain, passed_periods, running_budget, domain_after_refill}
use Rattle.sched_model.specs.Policy as policy
use Rattle.sched_model.specs.Policy.{domain_credit2_record}
use Rattle.sched_model.specs.Pool.{settled_pool, with_records}
use Rattle.sched_model.specs.Machine.{after, event_of}
use Rattle.sched_base.proofs.Bools.{clash, or_left}
use Rattle.state_ranges.proofs.Budget.{get_map}
use Rattle.term_laws.proofs.AtPlaces.{at_place-change_at}
use Rattle.term_laws.proofs.Same.{cur_in}
use Rattle.term_laws.proofs.ActsIn.{ActsIn, home_pools_same, acts_here}
use Rattle.term_laws.specs.CapTerm.{ends_term}
use Rattle.term_laws.proofs.CapTracks.{Stops, Refills, number_in}
use Rattle.term_laws.proofs.StepsDomain.{ArePast, Kept, kept_burned, burned_now}
use Rattle.term_laws.proofs.Same.{due_in}
use Rattle.term_laws.proofs.StepsSame.{Same, same_refl, same_settled}
use Rattle.term_laws.proofs.StepsState.{Stands, HomeOf, home_is, credit2_is, are_past}
use Rattle.term_laws.proofs.StepsHolds.{StepGives, PoolHolds, StateHolds, on_it_kept, holds_in, holds_out, cap_of, on_before, on_after, was, is_now}

min_right : (a b : ℤ) → int_min a b ≤ℤ b
min_right a b = omega (arith, ints, clamps)

-- the record of the domain
kept_refilled : (most t : ℕ) (x : Credit2Domain) (n : ℕ) → ArePast t x.units → Kept x (domain_after_refill most t x) n
kept_refilled most t x n past = record {
  goes = λ stop s. (
      let k = (kept_burned most t x n past).goes stop s in
      (k.0, record { unit = k.1.unit; at = k.1.at; from = k.1.from; burned = k.1.burned; sum = k.1.sum }, k.2));
}

refills_it : (most t : ℕ) (x : Credit2Domain) → 0 < x.cap → ArePast t x.units → Refills t x (domain_after_refill most t x)
refills_it most t x some past = record {
  charged = λ n b z at is. (let r = get_map (burned_unit most t x) x.units n z at in burned_now most t b x r.0 (ap (λ (w : Credit2Unit). w.burned) r.2 ∙ is));
  others = λ n stop s. (let k = (kept_refilled most t x n past).goes stop s in subst (Stops (domain_after_refill most t x) n) (k.2 some) k.1);
  budget = min_right (x.budget +ℤ pos (passed_periods x t * cap_budget x.cap)) (pos (cap_budget x.cap) -ℤ pos (running_budget (burned_domain most t x)));
}

record_none : (records : Records) (t d : ℕ) → domain_credit2_record records d ≡ None → domain_credit2_record (policy.records_after_refill records t d) d ≡ None
record_none (Credit2Pool own) t d is = at_place-change_at d (domain_after_refill (most_weight own) t) own.domains ∙ ap (option_map (domain_after_refill (most_weight own) t)) is
record_none records t d is = refl

record_some : (records : Records) (t d : ℕ) (x : Credit2Domain) → domain_credit2_record records d ≡ Some x → (most : ℕ) × (domain_credit2_record (policy.records_after_refill records t d) d ≡ Some (domain_after_refill most t x))
record_some (Credit2Pool own) t d x is = (most_weight own, at_place-change_at d (domain_after_refill (most_weight own) t) own.domains ∙ ap (option_map (domain_after_refill (most_weight own) t)) is)
record_some records t d x is = absurd (cc)

module _ (m : Machine) (checked : IsChecked m) (d : ℕ) (s : State) (k : Stands m s) (k2 : Stands m (after m s s.now (Refill (domain d)))) (a : ActsIn m s s.now (Refill (domain d))) (there : test_at a.pool.domains d (λ x. true) ≡ true) (holds : StateHolds d s) where
  abbrev s2 : State
  s2 = after m s s.now (Refill (domain d))

  abbrev mid : Pool
  mid = with_records (policy.records_after_refill a.pool.scheduler.records s.now d) a.pool

  abbrev next : Pool
  next = settled_pool s.now mid

  at_next : at_place s2.pools a.j ≡ Some next
  at_next = acts_here m s s.now (Refill (domain d)) a

  settles : Same d mid next
  settles = same_settled d s.now mid mid (same_refl d mid)

  past : (x : Credit2Domain) → domain_credit2_record a.pool.scheduler.records d ≡ Some x → ArePast s.now x.units
  past x is = are_past m checked s k d a.j a.pool a.at x is

  -- the record that is there now, and the one before
  before : (y : Credit2Domain) → domain_credit2_record next.scheduler.records d ≡ Some y → (x : Credit2Domain) × (domain_credit2_record a.pool.scheduler.records d ≡ Some x) × (most : ℕ) × (domain_after_refill most s.now x ≡ y)
  before y is = go (domain_credit2_record a.pool.scheduler.records d) refl
    where
      go : (o : Option Credit2Domain) → domain_credit2_record a.pool.scheduler.records d ≡ o → (x : Credit2Domain) × (domain_credit2_record a.pool.scheduler.records d ≡ Some x) × (most : ℕ) × (domain_after_refill most s.now x ≡ y)
      go None none = absurd (let e : None ≡ Some y = sym (record_none a.pool.scheduler.records s.now d none) ∙ is in cc)
      go (Some x) some = (let z = record_some a.pool.scheduler.records s.now d x some in let e : Some (domain_after_refill z.0 s.now x) ≡ Some y = sym z.1 ∙ is in (x, some, z.0, cc))

  pool_holds : PoolHolds d next
  pool_holds y is r n on =
      let b = before y is in
      let on_mid : number_in d (cur_in (at_place a.pool.resources r)) ≡ Some n = ap (number_in d) (sym (settles.curs r)) ∙ on in
      let cap : (domain_after_refill b.2 s.now b.0).cap ≡ (b.0).cap = refl in
      on_it_kept b.0 y n (due_in (at_place a.pool.resources r)) (due_in (at_place next.resources r)) (sym (ap (λ (z : Credit2Domain). z.cap) b.3) ∙ cap)
      (subst (λ (z : Credit2Domain). Kept b.0 z n) b.3 (kept_refilled b.2 s.now b.0 n (past b.0 b.1)))
      (settles.dues (y, is) r n on_mid)
      (holds_in m s k.known d a.j a.pool a.at there holds b.0 b.1 r n on_mid)

  caps : (o : Option Credit2Domain) → domain_credit2_record a.pool.scheduler.records d ≡ o → cap_of (domain_credit2_record next.scheduler.records d) ≡ cap_of (domain_credit2_record a.pool.scheduler.records d)
  caps None is = ap cap_of (record_none a.pool.scheduler.records s.now d is) ∙ sym (ap cap_of is)
  caps (Some x) is = (let z = record_some a.pool.scheduler.records s.now d x is in ap cap_of z.1 ∙ sym (ap cap_of is))

  own_refill : StepGives m d s s2 (event_of m s s.now (Refill (domain d)))
  own_refill = record {
    tracks = record {
      stays = λ r is. on_after m d s s2 k.known k2.known a.j a.j a.pool next a.at there at_next there r ∙ ap (number_in d) (settles.curs r) ∙ sym (on_before m d s s2 k.known k2.known a.j a.j a.pool next a.at there at_next there r);
      decides = λ r late is. absurd (cc);
      cap = ap cap_of (credit2_is m s2 k2.known d a.j next at_next there) ∙ caps (domain_credit2_record a.pool.scheduler.records d) refl ∙ sym (ap cap_of (credit2_is m s k.known d a.j a.pool a.at there));
      moved = λ r is. absurd (cc);
      set_budget = λ percent y is y_is. absurd (cc);
      set_stops = λ percent y is y_is n stop stops. absurd (cc);
      refilled = λ x y is x_is some y_is. (
          let b = before y (is_now m d s s2 k.known k2.known a.j a.j a.pool next a.at there at_next there y y_is) in
          let e1 : Some b.0 ≡ Some x = sym b.1 ∙ was m d s s2 k.known k2.known a.j a.j a.pool next a.at there at_next there x x_is in
          let e2 : b.0 ≡ x = cc in
          let some_b : 0 < (b.0).cap = subst (λ (z : Credit2Domain). 0 < z.cap) (sym e2) some in
          subst (λ (z : Credit2Domain). Refills s.now z y) e2 (subst (Refills s.now b.0) b.3 (refills_it b.2 s.now b.0 some_b (past b.0 b.1))));
      decided = λ r late x y is x_is some y_is. absurd (cc);
      goes = λ x y ends late x_is some y_is. absurd (ends_not ends);
    };
    holds = holds_out m s2 k2.known d a.j next at_next there pool_holds;
  }
    where
      ends_not : ends_term m d (event_of m s s.now (Refill (domain d))) ≡ false → ⊥
      ends_not ends = clash (d == d) (eq-eqb d d refl) (or_left (d == d) _ (or_left _ _ ends))

pub refill_gives : (m : Machine) → IsChecked m → (d : ℕ) (s : State) → Stands m s → Stands m (after m s s.now (Refill (domain d))) → ActsIn m s s.now (Refill (domain d)) → HomeOf d s → StateHolds d s → StepGives m d s (after m s s.now (Refill (domain d))) (event_of m s s.now (Refill (domain d)))
refill_gives m checked d s k k2 a home holds =
    let e : Some home.home ≡ Some a.j = sym (home_is m s k.known d home.home home.pool home.at home.there) ∙ a.home in
    let e2 : home.home ≡ a.j = cc in
    let same : home.pool ≡ a.pool = home_pools_same s home.home a.j home.pool a.pool home.at a.at e2 in
    own_refill m checked d s k k2 a (subst (λ (p : Pool). test_at p.domains d (λ x. true) ≡ true) same home.there) holds
