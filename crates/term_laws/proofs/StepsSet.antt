-- The cap of a domain is set: what becomes of it.
use Rattle.std.proofs.Common.{◌≡◌, ◌+◌, ℕ, Bool, true, refl, arith, ap, subst, sym, ◌∙◌, cond}
use Rattle.std.specs.Prelude.{Option, Some, None, option_map, is_some, ℤ, pos, ◌+ℤ◌}
use Rattle.std.proofs.lemmas.Int.{ints}
use Rattle.std.proofs.lemmas.Bool.{eq-eqb}
use Rattle.sched_base.specs.Numbers.{moment, domain as domain_number}
use Rattle.sched_base.specs.Credit2Numbers.{cap_budget}
use Rattle.sched_base.specs.declared.UnitId.{UnitId}
use Rattle.sched_model.specs.declared.config.ParamChange.TheVariants as changes
use Rattle.sched_model.specs.declared.state.Resource.{Resource}
use Rattle.sched_model.specs.declared.state.Pool.{Pool}
use Rattle.sched_model.specs.declared.state.Records.{Records}
use Rattle.sched_model.specs.declared.state.Records.TheVariants.{Credit2Pool}
use Rattle.sched_model.specs.declared.state.Credit2Unit.{Credit2Unit}
use Rattle.sched_model.specs.declared.state.Credit2Domain.{Credit2Domain}
use Rattle.sched_model.specs.Places.{at_place, change_at}
use Rattle.sched_model.specs.Credit2.{most_weight, burned_unit, burned_domain, domain_with_weight, domain_with_cap, change_domain}
use Rattle.sched_model.specs.Policy.{domain_credit2_record, changed_records}
use Rattle.sched_model.specs.Pool.{changed_pool, settled_pool, is_domain_unit}
use Rattle.sched_laws.proofs.EachPlace.{by_cond, at_place-change_each}
use Rattle.state_ranges.proofs.Budget.{get_map}
use Rattle.term_laws.proofs.AtPlaces.{at_place-change_at}
use Rattle.term_laws.proofs.Same.{cur_in}
use Rattle.term_laws.proofs.CapTracks.{Stops, number_in}
use Rattle.term_laws.proofs.StepsDomain.{get_of_map, burn_some, burned_now}
use Rattle.term_laws.proofs.Same.{due_in}
use Rattle.term_laws.proofs.StepsSame.{Same, same_refl, same_settled}
use Rattle.term_laws.proofs.StepsSame.{weight_goes}
use Rattle.term_laws.proofs.StepsState.{unit_of_number}
use Rattle.term_laws.proofs.StepsHolds.{PoolHolds}

-- a unit after the cap is set
abbrev pub emptied : Credit2Unit → Credit2Unit
emptied x = record x { held = cond (is_some x.burned) (pos 0) x.held }

module _ (most t n : ℕ) (x : Credit2Domain) where
  -- what runs then has used up what it holds
  stops_now : (j : ℕ) (stop : ℤ) → Stops (domain_with_cap most t (Some n) x) j stop → stop ≡ pos t
  stops_now j stop s =
      let r = get_map emptied (burned_domain most t x).units j s.unit s.at in
      let b = get_map (burned_unit most t x) x.units j r.0 r.1 in
      let burned : (r.0).burned ≡ Some s.from = ap (λ (z : Credit2Unit). z.burned) r.2 ∙ s.burned in
      let now : s.from ≡ t = burned_now most t s.from x b.0 (ap (λ (z : Credit2Unit). z.burned) b.2 ∙ burned) in
      let held : (s.unit).held ≡ pos 0 = sym (ap (λ (z : Credit2Unit). z.held) r.2) ∙ ap (λ (o : Option ℕ). cond (is_some o) (pos 0) (r.0).held) burned in
      let sum = s.sum in
      sym sum ∙ ap (λ (h : ℤ). pos s.from +ℤ h) held ∙ as_now s.from now
    where
      as_now : (from : ℕ) → from ≡ t → pos from +ℤ pos 0 ≡ pos t
      as_now from e = omega (arith, ints, e)

  -- and what ran before runs then
  still_runs : (j : ℕ) (stop : ℤ) → Stops x j stop → Stops (domain_with_cap most t (Some n) x) j (pos t)
  still_runs j stop s =
      let b : burned_unit most t x s.unit ≡ _ = burn_some most t s.from x s.unit s.burned in
      let burned : (burned_unit most t x s.unit).burned ≡ Some t = ap (λ (z : Credit2Unit). z.burned) b in
      record {
        unit = emptied (burned_unit most t x s.unit);
        at = get_of_map emptied (burned_domain most t x).units j (burned_unit most t x s.unit) (get_of_map (burned_unit most t x) x.units j s.unit s.at);
        from = t;
        burned = burned;
        sum = ap (λ (o : Option ℕ). pos t +ℤ cond (is_some o) (pos 0) (burned_unit most t x s.unit).held) burned ∙ none t;
      }
    where
      none : (k : ℕ) → pos k +ℤ pos 0 ≡ pos k
      none k = omega (arith, ints)

-- a pool whose domain d has its cap set
module _ (d t n : ℕ) (weight : Option ℕ) (p : Pool) where
  abbrev mid : Pool
  mid = changed_pool (changes.Dom (domain_number d) weight (Some n)) t p

  abbrev pub set_pool : Pool
  set_pool = settled_pool t (changed_pool (changes.Dom (domain_number d) weight (Some n)) t p)

  settles : Same d mid set_pool
  settles = same_settled d t mid mid (same_refl d mid)

  -- its record
  set_record : (records : Records) → (x : Credit2Domain) → domain_credit2_record records d ≡ Some x → (most : ℕ) × (domain_credit2_record (changed_records records (changes.Dom (domain_number d) weight (Some n)) t) d ≡ Some (domain_with_cap most t (Some n) (domain_with_weight weight x)))
  set_record (Credit2Pool own) x is =
      let most : ℕ = most_weight (change_domain d (domain_with_weight weight) own) in (
        most,
        at_place-change_at d (domain_with_cap most t (Some n)) (change_at d (domain_with_weight weight) own.domains) ∙ ap (option_map (domain_with_cap most t (Some n))) (at_place-change_at d (domain_with_weight weight) own.domains ∙ ap (option_map (domain_with_weight weight)) is),
      )
  set_record records x is = absurd (cc)

  set_none : (records : Records) → domain_credit2_record records d ≡ None → domain_credit2_record (changed_records records (changes.Dom (domain_number d) weight (Some n)) t) d ≡ None
  set_none (Credit2Pool own) is =
      let most : ℕ = most_weight (change_domain d (domain_with_weight weight) own) in
      at_place-change_at d (domain_with_cap most t (Some n)) (change_at d (domain_with_weight weight) own.domains) ∙ ap (option_map (domain_with_cap most t (Some n))) (at_place-change_at d (domain_with_weight weight) own.domains ∙ ap (option_map (domain_with_weight weight)) is)
  set_none records is = refl

  -- the record that is there now, and the one before
  pub record WasSet (y : Credit2Domain) : Type 0 where
    pub x : Credit2Domain
    pub was : domain_credit2_record p.scheduler.records d ≡ Some x
    pub most : ℕ
    pub is : domain_with_cap most t (Some n) (domain_with_weight weight x) ≡ y

  pub was_set : (y : Credit2Domain) → domain_credit2_record set_pool.scheduler.records d ≡ Some y → WasSet y
  was_set y is = go (domain_credit2_record p.scheduler.records d) refl
    where
      go : (o : Option Credit2Domain) → domain_credit2_record p.scheduler.records d ≡ o → WasSet y
      go None none = absurd (let e : None ≡ Some y = sym (set_none p.scheduler.records none) ∙ is in cc)
      go (Some x) some = (let z = set_record p.scheduler.records x some in let e : Some (domain_with_cap z.0 t (Some n) (domain_with_weight weight x)) ≡ Some y = sym z.1 ∙ is in record { x = x; was = some; most = z.0; is = cc })

  pub set_is : (x : Credit2Domain) → domain_credit2_record p.scheduler.records d ≡ Some x → (y : Credit2Domain) × (domain_credit2_record set_pool.scheduler.records d ≡ Some y) × (y.cap ≡ n)
  set_is x is = (let z = set_record p.scheduler.records x is in (domain_with_cap z.0 t (Some n) (domain_with_weight weight x), z.1, refl))

  pub set_budget : (y : Credit2Domain) → domain_credit2_record set_pool.scheduler.records d ≡ Some y → y.budget ≡ pos (cap_budget n)
  set_budget y is = (let w = was_set y is in sym (ap (λ (z : Credit2Domain). z.budget) w.is))

  pub set_stops : (y : Credit2Domain) → domain_credit2_record set_pool.scheduler.records d ≡ Some y → (j : ℕ) (stop : ℤ) → Stops y j stop → stop ≡ pos t
  set_stops y is j stop s = (let w = was_set y is in stops_now w.most t n (domain_with_weight weight w.x) j stop (subst (λ (z : Credit2Domain). Stops z j stop) (sym w.is) s))

  -- its cores
  abbrev marks : ℕ → Resource → Resource
  marks r c = cond (is_domain_unit d c.cur) (record c { pending = true; due = Some (moment t) }) c

  of_it : (c : Resource) (j : ℕ) → number_in d c.cur ≡ Some j → is_domain_unit d c.cur ≡ true
  of_it c j is = (let u = unit_of_number d j c.cur is in subst (λ (o : Option UnitId). is_domain_unit d o ≡ true) (sym u.1) (eq-eqb (u.0).dom.0 d u.2))

  mid_core : (r : ℕ) → at_place mid.resources r ≡ option_map (marks (0 + r)) (at_place p.resources r)
  mid_core r = at_place-change_each 0 r marks p.resources

  cur_mid : (o : Option Resource) (r : ℕ) → cur_in (option_map (marks r) o) ≡ cur_in o
  cur_mid None r = refl
  cur_mid (Some c) r = by_cond (λ (y : Resource). y.cur ≡ c.cur) (is_domain_unit d c.cur) (record c { pending = true; due = Some (moment t) }) c (λ is. refl) (λ is. refl)

  due_mid : (o : Option Resource) (r j : ℕ) → number_in d (cur_in o) ≡ Some j → due_in (option_map (marks r) o) ≡ Some (moment t)
  due_mid None r j is = absurd (cc)
  due_mid (Some c) r j is = ap (λ (b : Bool). (cond b (record c { pending = true; due = Some (moment t) }) c).due) (of_it c j is)

  pub set_curs : (r : ℕ) → cur_in (at_place set_pool.resources r) ≡ cur_in (at_place p.resources r)
  set_curs r = settles.curs r ∙ ap cur_in (mid_core r) ∙ cur_mid (at_place p.resources r) (0 + r)

  set_dues : (y : Credit2Domain) → domain_credit2_record set_pool.scheduler.records d ≡ Some y → (r j : ℕ) → number_in d (cur_in (at_place p.resources r)) ≡ Some j → due_in (at_place set_pool.resources r) ≡ Some (moment t)
  set_dues y is r j on =
      let on_mid : number_in d (cur_in (at_place mid.resources r)) ≡ Some j = ap (number_in d) (ap cur_in (mid_core r) ∙ cur_mid (at_place p.resources r) (0 + r)) ∙ on in
      settles.dues (y, is) r j on_mid ∙ ap due_in (mid_core r) ∙ due_mid (at_place p.resources r) (0 + r) j on

  pub holds_set : PoolHolds d p → PoolHolds d set_pool
  holds_set holds y is r j on =
      let w = was_set y is in
      let on_p : number_in d (cur_in (at_place p.resources r)) ≡ Some j = ap (number_in d) (sym (set_curs r)) ∙ on in
      let it = holds w.x w.was r j on_p in
      let weighed = ((weight_goes weight w.x).units j).goes it.stop it.stops in
      record {
        stop = pos t;
        stops = subst (λ (z : Credit2Domain). Stops z j (pos t)) w.is (still_runs w.most t n (domain_with_weight weight w.x) j weighed.0 weighed.1);
        due = t;
        is = set_dues y is r j on_p;
        low = λ some. omega (arith, ints);
      }
