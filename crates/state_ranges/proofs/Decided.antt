-- What the budgets of a Credit2 pool keep at a decision, and which units run.
use Rattle.std.proofs.Common.{◌≡◌, ◌≢◌, ◌<◌, ◌≤◌, ℕ, zero, suc, true, List, [], ◌∷◌, refl, arith, subst, sym, ◌∙◌, ap, cond, ◌⊎◌, inl, inr, length}
use Rattle.std.specs.Prelude.{Option, Some, None, unwrap_or, slice_get, map, is_some, ◌==◌, ◌&&◌, int_lt, ℤ, pos, negsuc, ◌≤ℤ◌}
use Rattle.std.specs.List.{AllByRecursion}
use Rattle.std.specs.Option.{IfSome}
use Rattle.std.proofs.lemmas.Int.{ints}
use Rattle.std.proofs.Math.Decide.{ℕ_discrete}
use Rattle.std.proofs.lemmas.Bool.{or_cases}
use Rattle.sched_base.specs.Credit2Numbers.{raised_credit}
use Rattle.sched_base.specs.declared.UnitId.{UnitId}
use Rattle.sched_model.specs.declared.ask.Ask.{Ask}
use Rattle.sched_model.specs.declared.state.Credit2Unit.{Credit2Unit}
use Rattle.sched_model.specs.declared.state.Credit2Domain.{Credit2Domain}
use Rattle.sched_model.specs.declared.state.Credit2Records.{Credit2Records}
use Rattle.sched_model.specs.declared.state.Scheduler.{Scheduler}
use Rattle.sched_model.specs.declared.state.Records.TheVariants.{Credit2Pool}
use Rattle.sched_model.specs.Places.{at_place, change_item}
use Rattle.sched_model.specs.EligibleUnits.{is_unit_allowed, is_unit_eligible, has_cap_budget}
use Rattle.sched_model.specs.Credit2.{most_weight, burned_unit, burned_domain, burn_all, change_domain, change_unit, domain_after_return, own_burned_records, credit2_candidate, credit2_choice, is_rate_limited, has_domain_budget, reset_records, domain_after_take, running_records, off_records, domain_after_refill, refilled_pool, domain_with_weight, domain_with_cap, records_with_terms}
use Rattle.sched_laws.specs.EachPlace.{EachAt}
use Rattle.sched_base.proofs.Bools.{and_right}
use Rattle.sched_laws.proofs.EachPlace.{EachAt-change_to, EachAt-change_at, EachAt-change_each, read_change_each, by_option, by_cond}
use Rattle.sched_laws.proofs.Lists.{item_below}
use Rattle.sched_base.proofs.Lists.{AllByRecursion-filter}
use Rattle.sched_laws.proofs.Choices.{greatest_has}
use Rattle.sched_laws.specs.PoolFacts.{IfUnit}
use Rattle.sched_laws.proofs.Sound.{read_change_item, change_at-twice}
use Rattle.state_ranges.proofs.Budget.{get_map, b_weaker, b_burn_units, b_same, b_running, b_own, own_domain}
use Rattle.state_ranges.specs.Budgets.{BudgetFits, Nobody}
use Rattle.state_ranges.proofs.Budgets.{b_taken, b_refilled, b_weighed, b_capped}
use Rattle.state_ranges.specs.Budgets.{None2, Budgets, RunsOnly, AllRunOnly}

-- the unit's record, and whether it is the unit with this index of this domain
abbrev pub unit_rec : Credit2Records → UnitId → Option Credit2Unit
unit_rec records u = elim (at_place records.domains u.dom.0) [ None ↦ None | Some d ↦ slice_get d.units u.n ]

abbrev pub Is : UnitId → ℕ → ℕ → Type 0
Is u d n = (d ≡ u.dom.0) × (n ≡ u.n)

abbrev pub IsCur : Option UnitId → ℕ → ℕ → Type 0
IsCur None d n = ⊥
IsCur (Some u) d n = Is u d n

module _ (t : ℕ) (C : ℕ → ℕ → Type 0) where
  s_weaker : (Ex Zr Ex2 Zr2 : ℕ → ℕ → Type 0) (records : Credit2Records) → ((d n : ℕ) → Ex d n → Ex2 d n) → ((d n : ℕ) → Zr2 d n → Zr d n) → Budgets t C Ex Zr records → Budgets t C Ex2 Zr2 records
  s_weaker Ex Zr Ex2 Zr2 records more less fits d x at = b_weaker t (C d) (Ex d) (Zr d) (Ex2 d) (Zr2 d) x (more d) (less d) (fits d x at)

  pub s_burn_cur : (Zr : ℕ → ℕ → Type 0) (cur : Option UnitId) (records : Credit2Records) → Budgets t C None2 Zr records → Budgets t C None2 (λ d n. Zr d n ⊎ IsCur cur d n) (own_burned_records cur t records)
  s_burn_cur Zr None records fits = s_weaker None2 Zr None2 (λ d n. Zr d n ⊎ ⊥) records (λ d n e. e) (λ d n z. elim z [ inl e ↦ e | inr e ↦ absurd e ]) fits
  s_burn_cur Zr (Some u) records fits =
      let most : ℕ = most_weight records in
      subst (λ (places : List (Option Credit2Domain)). EachAt (λ d. BudgetFits t (C d) Nobody (λ n. Zr d n ⊎ Is u d n)) places)
      (sym (change_at-twice u.dom.0 (λ (d : Credit2Domain). cond (d.cap == 0) d (domain_after_return u.n d)) (λ (d : Credit2Domain). record d { units = change_item u.n (burned_unit most t d) d.units }) records.domains))
      (EachAt-change_to (λ d. BudgetFits t (C d) Nobody (Zr d)) (λ d. BudgetFits t (C d) Nobody (λ n. Zr d n ⊎ Is u d n)) u.dom.0 (own_domain t (C u.dom.0) most u.n) records.domains fits
      (λ d x other here. b_weaker t (C d) Nobody (Zr d) Nobody (λ n. Zr d n ⊎ Is u d n) x (λ n e. e) (λ n z. elim z [ inl e ↦ e | inr e ↦ absurd (other e.0) ]) here)
      (λ x at here. b_weaker t (C u.dom.0) Nobody (λ n. Zr u.dom.0 n ⊎ (n ≡ u.n)) Nobody (λ n. Zr u.dom.0 n ⊎ Is u u.dom.0 n) (own_domain t (C u.dom.0) most u.n x) (λ n e. e) (λ n z. elim z [ inl e ↦ inl e | inr e ↦ inr e.1 ]) (b_own t (C u.dom.0) (Zr u.dom.0) most u.n x here)))

  s_burn_all : (Zr : ℕ → ℕ → Type 0) (records : Credit2Records) → Budgets t C None2 Zr records → Budgets t C None2 Zr (burn_all t records)
  s_burn_all Zr records fits = EachAt-change_each (λ d. BudgetFits t (C d) Nobody (Zr d)) (λ n d. burned_domain (most_weight records) t d) records.domains fits (λ d x at here. b_burn_units t (C d) Nobody (Zr d) (most_weight records) x here)

  s_reset : (Zr : ℕ → ℕ → Type 0) (k : ℕ) (records : Credit2Records) → Budgets t C None2 Zr records → Budgets t C None2 Zr (reset_records t k records)
  s_reset Zr zero records fits = fits
  s_reset Zr (suc k) records fits =
      EachAt-change_each (λ d. BudgetFits t (C d) Nobody (Zr d)) (λ n d. record d { units = map (λ (x : Credit2Unit). record x { credit = raised_credit x.credit (suc k) }) d.units }) (burn_all t records).domains (s_burn_all Zr records fits)
      (λ d x at here. b_same t (C d) Nobody (Zr d) (λ (y : Credit2Unit). record y { credit = raised_credit y.credit (suc k) }) x (λ y. (refl, refl)) here)

  -- what a reset leaves of a domain
  reset_same : (k d : ℕ) (records : Credit2Records) (x : Credit2Domain) → at_place (reset_records t k records).domains d ≡ Some x → (y : Credit2Domain) × (at_place records.domains d ≡ Some y) × (x.cap ≡ y.cap) × (x.budget ≡ y.budget)
  reset_same zero d records x at = (x, at, refl, refl)
  reset_same (suc k) d records x at =
      let r = read_change_each d (λ n d. record d { units = map (λ (x : Credit2Unit). record x { credit = raised_credit x.credit (suc k) }) d.units }) (burn_all t records).domains x at in
      let q = read_change_each d (λ n d. burned_domain (most_weight records) t d) records.domains r.0 r.1 in
      (q.0, q.1, sym (ap (λ (z : Credit2Domain). z.cap) r.2) ∙ sym (ap (λ (z : Credit2Domain). z.cap) q.2), sym (ap (λ (z : Credit2Domain). z.budget) r.2) ∙ sym (ap (λ (z : Credit2Domain). z.budget) q.2))

  s_take : (Zr : ℕ → ℕ → Type 0) (u : UnitId) (records : Credit2Records) → ((x : Credit2Domain) → at_place records.domains u.dom.0 ≡ Some x → (y : Credit2Unit) × (slice_get x.units u.n ≡ Some y) × (y.held ≡ pos 0))
      → ((x : Credit2Domain) → at_place records.domains u.dom.0 ≡ Some x → (x.cap ≡ 0) ⊎ (pos 0 ≤ℤ x.budget)) → Budgets t C None2 Zr records
      → Budgets t C (Is u) (λ d n. Zr d n × (Is u d n → ⊥)) (change_domain u.dom.0 (domain_after_take u.n) records)
  s_take Zr u records none pays fits =
      EachAt-change_to (λ d. BudgetFits t (C d) Nobody (Zr d)) (λ d. BudgetFits t (C d) (Is u d) (λ n. Zr d n × (Is u d n → ⊥))) u.dom.0 (domain_after_take u.n) records.domains fits
      (λ d x other here. b_weaker t (C d) Nobody (Zr d) (Is u d) (λ n. Zr d n × (Is u d n → ⊥)) x (λ n e. absurd e) (λ n z. z.0) here)
      (λ x at here.
      let y = none x at in
      b_weaker t (C u.dom.0) (λ n. n ≡ u.n) (λ n. Zr u.dom.0 n × (n ≢ u.n)) (Is u u.dom.0) (λ n. Zr u.dom.0 n × (Is u u.dom.0 n → ⊥)) (domain_after_take u.n x) (λ n e. (refl, e)) (λ n z. (z.0, λ e. z.1 (refl, e)))
      (b_taken t (C u.dom.0) (Zr u.dom.0) u.n x y.0 y.1 y.2 (pays x at) here))

  s_switch_off : (Ex Zr : ℕ → ℕ → Type 0) (cur : Option UnitId) (records : Credit2Records) → ((w : UnitId) → cur ≡ Some w → Zr w.dom.0 w.n ⊎ Ex w.dom.0 w.n) → Budgets t C Ex Zr records → Budgets t C Ex None2 (off_records cur records)
  s_switch_off Ex Zr None records free fits = s_weaker Ex Zr Ex None2 records (λ d n e. e) (λ d n e. absurd e) fits
  s_switch_off Ex Zr (Some w) records free fits =
      EachAt-change_to (λ d. BudgetFits t (C d) (Ex d) (Zr d)) (λ d. BudgetFits t (C d) (Ex d) Nobody) w.dom.0 (λ d. record d { units = change_item w.n (λ x. record x { burned = None }) d.units }) records.domains fits
      (λ d x other here. b_weaker t (C d) (Ex d) (Zr d) (Ex d) Nobody x (λ n e. e) (λ n e. absurd e) here)
      (λ x at here. b_running t (C w.dom.0) (Ex w.dom.0) (Zr w.dom.0) (Ex w.dom.0) w.n None x refl (λ n other e. e)
      (λ y has none. elim (free w refl) [ inl z ↦ inl ((here.units w.n y has).zero z).0 | inr ex ↦ inr ex ]) here)

  s_set_running : (u : UnitId) (records : Credit2Records) → Budgets t C (Is u) None2 records → Budgets t C None2 None2 (running_records (Some t) u records)
  s_set_running u records fits =
      EachAt-change_to (λ d. BudgetFits t (C d) (Is u d) Nobody) (λ d. BudgetFits t (C d) Nobody Nobody) u.dom.0 (λ d. record d { units = change_item u.n (λ x. record x { burned = Some t }) d.units }) records.domains fits
      (λ d x other here. b_weaker t (C d) (Is u d) Nobody Nobody Nobody x (λ n e. absurd (other e.0)) (λ n e. e) here)
      (λ x at here. b_running t (C u.dom.0) (Is u u.dom.0) Nobody Nobody u.n (Some t) x refl (λ n other e. absurd (other e.1)) (λ y has none. absurd (cc)) here)

  pub s_refilled : (d : ℕ) (records : Credit2Records) → Budgets t C None2 None2 records → Budgets t C None2 None2 (refilled_pool t d records)
  s_refilled d records fits = EachAt-change_at (λ d. BudgetFits t (C d) Nobody Nobody) d (domain_after_refill (most_weight records) t) records.domains fits (λ x at here. b_refilled t (C d) (most_weight records) x here)

  pub s_set_domain : (d : ℕ) (weight percent : Option ℕ) (records : Credit2Records) → IfSome percent (λ (c : ℕ). c ≤ 6400) → Budgets t C None2 None2 records → Budgets t C None2 None2 (records_with_terms t d weight percent records)
  s_set_domain d weight percent records good fits =
      let weighed : Budgets t C None2 None2 (change_domain d (domain_with_weight weight) records) = EachAt-change_at (λ d. BudgetFits t (C d) Nobody Nobody) d (domain_with_weight weight) records.domains fits (λ x at here. b_weighed t (C d) weight x here) in
      EachAt-change_at (λ d. BudgetFits t (C d) Nobody Nobody) d (domain_with_cap (most_weight (change_domain d (domain_with_weight weight) records)) t percent) (change_domain d (domain_with_weight weight) records).domains weighed (λ x at here. b_capped t (C d) (most_weight (change_domain d (domain_with_weight weight) records)) percent x good here)

  -- the choice is of a domain that may run
  has_pays : (d : Credit2Domain) → has_cap_budget d ≡ true → (d.cap ≡ 0) ⊎ (pos 0 ≤ℤ d.budget)
  has_pays d has = elim (or_cases (d.cap == 0) (int_lt (pos 0) d.budget) has) [ inl none ↦ inl (grind (arith, none)) | inr some ↦ inr (above d.budget some) ]
    where
      above : (b : ℤ) → int_lt (pos 0) b ≡ true → pos 0 ≤ℤ b
      above (pos n) is = omega (arith, ints)
      above (negsuc n) is = absurd (cc)

  all_units : (units : List UnitId) → AllByRecursion (λ u. Unit {0}) units
  all_units [] = tt
  all_units (u ∷ units) = (tt, all_units units)

  pub choice_pays : (ask : Ask) (scheduler : Scheduler) (records : Credit2Records) → IfUnit (λ u. has_domain_budget records u ≡ true) (credit2_choice ask scheduler records)
  choice_pays ask scheduler records =
      let P : UnitId → Type 0 = λ u. has_domain_budget records u ≡ true in
      let own : IfUnit P (credit2_candidate ask scheduler records) = by_option (IfUnit P) ask.cur _ _ (λ none. tt)
      (λ u is. by_cond (IfUnit P) (ask.runnable && is_unit_allowed scheduler ask.home.0 ask.core.0 u && has_domain_budget records u) (Some u) None (λ may. and_right (ask.runnable && is_unit_allowed scheduler ask.home.0 ask.core.0 u) (has_domain_budget records u) may) (λ may. tt)) in
      by_cond (IfUnit P) ask.leaving _ _ (λ leaves. tt)
      (λ stays. by_cond (IfUnit P) (is_some (credit2_candidate ask scheduler records) && is_rate_limited records ask.since.0 ask.at.0) (credit2_candidate ask scheduler records) _ (λ keeps. own)
      (λ scans. greatest_has P records (credit2_candidate ask scheduler records) _ own
      (AllByRecursion-filter (λ u. Unit {0}) P (is_unit_eligible (record scheduler { records = Credit2Pool records }) ask.home.0 ask.core.0 ask.at.0) (λ u passes all. and_right (is_unit_allowed (record scheduler { records = Credit2Pool records }) ask.home.0 ask.core.0 u) (has_domain_budget records u) passes) scheduler.queue (all_units scheduler.queue))))

  -- a decision for a unit that is the core's own, or does not run
  module _ (ask : Ask) (scheduler : Scheduler) (records : Credit2Records) (now : ask.at.0 ≡ t) (fits : Budgets t C None2 None2 records) where
    abbrev burned : Credit2Records
    burned = own_burned_records ask.cur t records

    -- a unit that does not run holds nothing
    still : (u : UnitId) → ((y : Credit2Unit) → unit_rec records u ≡ Some y → y.burned ≡ None) → Budgets t C None2 (Is u) records
    still u off d x at =
        let here = fits d x at in
        record {
          cap = here.cap;
          count = here.count;
          units = λ n y has. (
              let old = here.units n y has in
              record {
                last = old.last;
                idle = old.idle;
                free = old.free;
                zero = λ z. (
                    let there : at_place records.domains u.dom.0 ≡ Some x = subst (λ k. at_place records.domains k ≡ Some x) z.0 at in
                    let rec : unit_rec records u ≡ Some y = rw (unit_rec, there) (subst (λ k. slice_get x.units k ≡ Some y) z.1 has) in
                    let none = off y rec in
                    (elim (old.idle none) [ inl e ↦ e | inr e ↦ absurd e ], ap (λ (o : Option ℕ). unwrap_or o t) none));
                most = old.most;
                least = old.least;
              });
          low = here.low;
          high = here.high;
        }

    -- the chosen unit and the core's own hold nothing
    ready : (u : UnitId) → (ask.cur ≡ Some u) ⊎ ((y : Credit2Unit) → unit_rec records u ≡ Some y → y.burned ≡ None) → Budgets t C None2 (λ d n. Is u d n ⊎ IsCur ask.cur d n) burned
    ready u (inl own) = s_weaker None2 (λ d n. ⊥ ⊎ IsCur ask.cur d n) None2 (λ d n. Is u d n ⊎ IsCur ask.cur d n) burned (λ d n e. e)
        (λ d n z. elim z [ inl is ↦ inr (subst (λ (o : Option UnitId). IsCur o d n) (sym own) is) | inr is ↦ inr is ]) (s_burn_cur None2 ask.cur records fits)
    ready u (inr off) = s_burn_cur (Is u) ask.cur records (still u off)

    pub decides_unit : (u : UnitId) → has_domain_budget burned u ≡ true → ((k : ℕ) → C u.dom.0 k → u.n < k) → (ask.cur ≡ Some u) ⊎ ((y : Credit2Unit) → unit_rec records u ≡ Some y → y.burned ≡ None) → (k : ℕ)
        → Budgets t C None2 None2 (running_records (Some t) u (off_records ask.cur (change_domain u.dom.0 (domain_after_take u.n) (reset_records t k burned))))
    decides_unit u pays inside off k =
        let Zr : ℕ → ℕ → Type 0 = λ d n. Is u d n ⊎ IsCur ask.cur d n in
        let begun : Budgets t C None2 Zr (reset_records t k burned) = s_reset Zr k burned (ready u off) in
        let none : (x : Credit2Domain) → at_place (reset_records t k burned).domains u.dom.0 ≡ Some x → (y : Credit2Unit) × (slice_get x.units u.n ≡ Some y) × (y.held ≡ pos 0) = λ x at. (
        let here = begun u.dom.0 x at in
        let y = item_below x.units u.n (inside (length x.units) here.count) in
        (y.0, y.1, ((here.units u.n y.0 y.1).zero (inl (refl, refl))).0)) in
        let may : (x : Credit2Domain) → at_place (reset_records t k burned).domains u.dom.0 ≡ Some x → (x.cap ≡ 0) ⊎ (pos 0 ≤ℤ x.budget) = λ x at. (
        let old = reset_same k u.dom.0 burned x at in
        let place = old.1 in
        let has : has_cap_budget old.0 ≡ true = rw (has_domain_budget, place) at pays in
        elim (has_pays old.0 has) [ inl z ↦ inl (old.2 ∙ z) | inr p ↦ inr (subst (λ (b : ℤ). pos 0 ≤ℤ b) (sym old.3) p) ]) in
        let taken = s_take Zr u (reset_records t k burned) none may begun in
        let off2 = s_switch_off (Is u) (λ d n. Zr d n × (Is u d n → ⊥)) ask.cur (change_domain u.dom.0 (domain_after_take u.n) (reset_records t k burned)) (λ w is. own_or_other u w is) taken in
        s_set_running u (off_records ask.cur (change_domain u.dom.0 (domain_after_take u.n) (reset_records t k burned))) off2
      where
        own_or_other : (u w : UnitId) → ask.cur ≡ Some w → ((Is u w.dom.0 w.n ⊎ IsCur ask.cur w.dom.0 w.n) × (Is u w.dom.0 w.n → ⊥)) ⊎ Is u w.dom.0 w.n
        own_or_other u w is =
            elim (ℕ_discrete w.dom.0 u.dom.0) [
              | yes a ↦ elim (ℕ_discrete w.n u.n) [
                | yes b ↦ inr (a, b)
                | no b ↦ inl (inr (subst (λ (o : Option UnitId). IsCur o w.dom.0 w.n) (sym is) (refl, refl)), λ e. b e.1)
              ]
              | no a ↦ inl (inr (subst (λ (o : Option UnitId). IsCur o w.dom.0 w.n) (sym is) (refl, refl)), λ e. a e.0)
            ]

    pub decides_idle : Budgets t C None2 None2 (off_records ask.cur burned)
    decides_idle =
        s_switch_off None2 (λ d n. ⊥ ⊎ IsCur ask.cur d n) ask.cur burned (λ w is. inl (inr (subst (λ (o : Option UnitId). IsCur o w.dom.0 w.n) (sym is) (refl, refl)))) (s_burn_cur None2 ask.cur records fits)

module _ (On : ℕ → Type 0) where
  l_map : (f : Credit2Unit → Credit2Unit) (ys : List Credit2Unit) → ((y : Credit2Unit) → y.burned ≡ None → (f y).burned ≡ None) → RunsOnly On ys → RunsOnly On (map f ys)
  l_map f ys keeps only n z at = (let r = get_map f ys n z at in elim (only n r.0 r.1) [ inl none ↦ inl (subst (λ (w : Credit2Unit). w.burned ≡ None) r.2 (keeps r.0 none)) | inr on ↦ inr on ])

  l_item : (i : ℕ) (f : Credit2Unit → Credit2Unit) (ys : List Credit2Unit) → ((y : Credit2Unit) → y.burned ≡ None → (f y).burned ≡ None) → RunsOnly On ys → RunsOnly On (change_item i f ys)
  l_item i f ys keeps only n z at = elim (read_change_item i n f ys z at) [
    | inl was ↦ only n z was.1
    | inr r ↦ (let old = only n r.0 (subst (λ k. slice_get ys k ≡ Some r.0) (sym r.2) r.1) in elim old [ inl none ↦ inl (subst (λ (w : Credit2Unit). w.burned ≡ None) r.3 (keeps r.0 none)) | inr on ↦ inr on ])
  ]

burn_keeps : (most t : ℕ) (d : Credit2Domain) (y : Credit2Unit) → y.burned ≡ None → (burned_unit most t d y).burned ≡ None
burn_keeps most t d y none = by_option (λ (z : Credit2Unit). z.burned ≡ None) y.burned _ _ (λ is. none) (λ from is. absurd (let e : None ≡ Some from = sym none ∙ is in cc))

module _ (t : ℕ) (On : ℕ → ℕ → Type 0) where
  r_burn_all : (records : Credit2Records) → AllRunOnly On records → AllRunOnly On (burn_all t records)
  r_burn_all records only = EachAt-change_each (λ d (x : Credit2Domain). RunsOnly (On d) x.units) (λ n d. burned_domain (most_weight records) t d) records.domains only (λ d x at here. l_map (On d) (burned_unit (most_weight records) t x) x.units (burn_keeps (most_weight records) t x) here)

  r_give_back : (i d : ℕ) (x : Credit2Domain) → RunsOnly (On d) x.units → RunsOnly (On d) (domain_after_return i x).units
  r_give_back i d x only = by_option (λ (z : Credit2Domain). RunsOnly (On d) z.units) (slice_get x.units i) _ _ (λ none. only) (λ u is. l_item (On d) i (λ y. record y { held = pos 0 }) x.units (λ y none. none) only)

  pub r_burn_cur : (cur : Option UnitId) (records : Credit2Records) → AllRunOnly On records → AllRunOnly On (own_burned_records cur t records)
  r_burn_cur None records only = only
  r_burn_cur (Some u) records only =
      let most : ℕ = most_weight records in
      let first : AllRunOnly On (change_unit u (burned_unit most t) records) = EachAt-change_at (λ d (x : Credit2Domain). RunsOnly (On d) x.units) u.dom.0 (λ d. record d { units = change_item u.n (burned_unit most t d) d.units }) records.domains only (λ x at here. l_item (On u.dom.0) u.n (burned_unit most t x) x.units (burn_keeps most t x) here) in
      EachAt-change_at (λ d (x : Credit2Domain). RunsOnly (On d) x.units) u.dom.0 (λ d. cond (d.cap == 0) d (domain_after_return u.n d)) (change_unit u (burned_unit most t) records).domains first
      (λ x at here. by_cond (λ (z : Credit2Domain). RunsOnly (On u.dom.0) z.units) (x.cap == 0) x (domain_after_return u.n x) (λ free. here) (λ capped. r_give_back u.n u.dom.0 x here))

  pub r_reset : (k : ℕ) (records : Credit2Records) → AllRunOnly On records → AllRunOnly On (reset_records t k records)
  r_reset zero records only = only
  r_reset (suc k) records only =
      EachAt-change_each (λ d (x : Credit2Domain). RunsOnly (On d) x.units) (λ n d. record d { units = map (λ (x : Credit2Unit). record x { credit = raised_credit x.credit (suc k) }) d.units }) (burn_all t records).domains (r_burn_all records only)
      (λ d x at here. l_map (On d) (λ (y : Credit2Unit). record y { credit = raised_credit y.credit (suc k) }) x.units (λ y none. none) here)

  pub r_take : (u : UnitId) (records : Credit2Records) → AllRunOnly On records → AllRunOnly On (change_domain u.dom.0 (domain_after_take u.n) records)
  r_take u records only =
      EachAt-change_at (λ d (x : Credit2Domain). RunsOnly (On d) x.units) u.dom.0 (domain_after_take u.n) records.domains only
      (λ x at here. by_cond (λ (z : Credit2Domain). RunsOnly (On u.dom.0) z.units) (x.cap == 0) x _ (λ free. here) (λ capped. l_item (On u.dom.0) u.n _ x.units (λ y none. none) here))

  pub r_refilled : (d : ℕ) (records : Credit2Records) → AllRunOnly On records → AllRunOnly On (refilled_pool t d records)
  r_refilled d records only = EachAt-change_at (λ d (x : Credit2Domain). RunsOnly (On d) x.units) d (domain_after_refill (most_weight records) t) records.domains only (λ x at here. l_map (On d) (burned_unit (most_weight records) t x) x.units (burn_keeps (most_weight records) t x) here)

  r_weighed : (d : ℕ) (weight : Option ℕ) (x : Credit2Domain) → RunsOnly (On d) x.units → RunsOnly (On d) (domain_with_weight weight x).units
  r_weighed d None x only = only
  r_weighed d (Some weight) x only = l_map (On d) _ x.units (λ y none. none) only

  r_capped : (d most : ℕ) (percent : Option ℕ) (x : Credit2Domain) → RunsOnly (On d) x.units → RunsOnly (On d) (domain_with_cap most t percent x).units
  r_capped d most None x only = only
  r_capped d most (Some percent) x only = l_map (On d) _ (burned_domain most t x).units (λ y none. none) (l_map (On d) (burned_unit most t x) x.units (burn_keeps most t x) only)

  pub r_set_domain : (d : ℕ) (weight percent : Option ℕ) (records : Credit2Records) → AllRunOnly On records → AllRunOnly On (records_with_terms t d weight percent records)
  r_set_domain d weight percent records only =
      let weighed : AllRunOnly On (change_domain d (domain_with_weight weight) records) = EachAt-change_at (λ d (x : Credit2Domain). RunsOnly (On d) x.units) d (domain_with_weight weight) records.domains only (λ x at here. r_weighed d weight x here) in
      EachAt-change_at (λ d (x : Credit2Domain). RunsOnly (On d) x.units) d (domain_with_cap (most_weight (change_domain d (domain_with_weight weight) records)) t percent) (change_domain d (domain_with_weight weight) records).domains weighed (λ x at here. r_capped d (most_weight (change_domain d (domain_with_weight weight) records)) percent x here)

  -- the core's own unit runs no more, and another runs
  pub r_switch_off : (cur : Option UnitId) (records : Credit2Records) → AllRunOnly On records → AllRunOnly (λ d n. On d n × (IsCur cur d n → ⊥)) (off_records cur records)
  r_switch_off None records only = λ d x at n y has. elim (only d x at n y has) [ inl none ↦ inl none | inr on ↦ inr (on, λ e. absurd e) ]
  r_switch_off (Some w) records only =
      EachAt-change_to (λ d (x : Credit2Domain). RunsOnly (On d) x.units) (λ d (x : Credit2Domain). RunsOnly (λ n. On d n × (Is w d n → ⊥)) x.units) w.dom.0 (λ d. record d { units = change_item w.n (λ x. record x { burned = None }) d.units }) records.domains only
      (λ d x other here n y has. elim (here n y has) [ inl none ↦ inl none | inr on ↦ inr (on, λ e. other e.0) ])
      (λ x at here n y has. elim (read_change_item w.n n (λ z. record z { burned = None }) x.units y has) [
        | inl was ↦ elim (here n y was.1) [ inl none ↦ inl none | inr on ↦ inr (on, λ e. was.0 e.1) ]
        | inr r ↦ inl (subst (λ (z : Credit2Unit). z.burned ≡ None) r.3 refl)
      ])

  pub r_set_running : (On2 : ℕ → ℕ → Type 0) (u : UnitId) (records : Credit2Records) → ((d n : ℕ) → On d n → On2 d n) → On2 u.dom.0 u.n → AllRunOnly On records → AllRunOnly On2 (running_records (Some t) u records)
  r_set_running On2 u records more here only =
      EachAt-change_to (λ d (x : Credit2Domain). RunsOnly (On d) x.units) (λ d (x : Credit2Domain). RunsOnly (On2 d) x.units) u.dom.0 (λ d. record d { units = change_item u.n (λ x. record x { burned = Some t }) d.units }) records.domains only
      (λ d x other old n y has. elim (old n y has) [ inl none ↦ inl none | inr on ↦ inr (more d n on) ])
      (λ x at old n y has. elim (read_change_item u.n n (λ z. record z { burned = Some t }) x.units y has) [
        | inl was ↦ elim (old n y was.1) [ inl none ↦ inl none | inr on ↦ inr (more u.dom.0 n on) ]
        | inr r ↦ inr (subst (λ k. On2 u.dom.0 k) (sym r.2) here)
      ])
