-- The records of an RTDS pool at the opening, as the file gives them.
use Rattle.std.proofs.Common.{◌≡◌, ◌<◌, ◌+◌, ◌-◌, ◌/◌, ℕ, zero, suc, Bool, true, false, List, [], ◌∷◌, ◌++◌, refl, arith, cond, subst, sym, ◌∙◌, ap, append_assoc, length, ◌≤◌, inr}
use Rattle.std.specs.Prelude.{Option, Some, None, replicate, slice_get, ◌==◌, sum_by}
use Rattle.std.specs.List.{AllByRecursion}
use Rattle.std.proofs.lemmas.List.Sums.{sum_by-cons}
use Rattle.std.proofs.lemmas.List.{length-map, length-append}
use Rattle.sched_base.specs.Numbers.{domain as domain_number}
use Rattle.sched_base.specs.declared.UnitId.{UnitId}
use Rattle.sched_model.specs.declared.config.DomConfig.{DomConfig}
use Rattle.sched_model.specs.declared.config.DomParams.{DomParams}
use Rattle.sched_model.specs.declared.config.DomParams.TheVariants as dom_params
use Rattle.sched_model.specs.declared.config.SchedKind.TheVariants as kinds
use Rattle.sched_model.specs.declared.state.Pool.{Pool}
use Rattle.sched_model.specs.declared.state.Records.{Records}
use Rattle.sched_model.specs.declared.state.Records.TheVariants.{RtdsPool}
use Rattle.sched_model.specs.declared.state.RtdsUnit.{RtdsUnit}
use Rattle.sched_model.specs.Actions.{configured_units}
use Rattle.sched_model.specs.CheckedMachine.{DomParamsPass}
use Rattle.sched_model.specs.EligibleUnits.{rtds_unit_at}
use Rattle.sched_model.specs.Opening.{domain_at_opening, pool_with_configured, pool_with_domains, vcpu_at_opening}
use Rattle.sched_model.specs.Places.{numbers_from, put_at}
use Rattle.sched_model.specs.Policy.{joined_records}
use Rattle.sched_model.specs.Pool.{domain_unit_count, pool_with_domain}
use Rattle.sched_model.specs.Rtds.{fresh_rtds_units}
use Rattle.sched_laws.proofs.Opened.{pins_keep}
use Rattle.term_laws.proofs.Beginning.{pin_keeps, queue_keeps}
use Rattle.reservation_laws.specs.Reservations.{reservation}
use Rattle.reservation_laws.specs.Sleepers.{claim, claims, domain_claims, may_sleep}
use Rattle.reservation_laws.proofs.Asks.{ask, room_of, sleeper_most, waker_most}
use Rattle.reservation_laws.proofs.Jobs.{first_left, job, since}
use Rattle.reservation_laws.proofs.Tracks.{Base, Watch, asks, rooms}
use Rattle.reservation_laws.proofs.UnitSums.{items_sum, number, sum_from, sum_le}

module _ (g : ℕ) where
  configured_records : (d : ℕ) (joining : DomConfig) (pool : Pool) → (pool_with_configured g d joining pool).scheduler.records ≡ joined_records pool.scheduler.records joining.params d (domain_unit_count g (domain_at_opening joining)) 0
  configured_records d joining pool =
      pins_keep (λ p. p.scheduler.records ≡ joined_records pool.scheduler.records joining.params d (domain_unit_count g (domain_at_opening joining)) 0) (λ e n cores p same. pin_keeps p.scheduler.records e n cores ∙ same) d 0 joining.pins
      (pool_with_domain g 0 d (domain_at_opening joining) joining.params pool) (queue_keeps g d (numbers_from 0 (domain_unit_count g (domain_at_opening joining))) _)

  count_is : (joining : DomConfig) → domain_unit_count g (domain_at_opening joining) ≡ configured_units g joining
  count_is joining = ap (λ (n : ℕ). (n + g - 1) / g) (length-map joining.guests vcpu_at_opening)

  -- the units of the file's domain, as they begin
  abbrev pub fresh_units : DomParams → ℕ → List RtdsUnit
  fresh_units (dom_params.Rtds period budget extra) count = fresh_rtds_units period.0 budget.0 extra count 0
  fresh_units params count = []

  abbrev pub fresh_at : ℕ → DomConfig → Option (List RtdsUnit)
  fresh_at i c = cond (c.home.0 == i) (Some (fresh_units c.params (configured_units g c))) None

  -- and those of all domains whose home is the pool i
  abbrev pub homes : ℕ → List DomConfig → List (Option (List RtdsUnit))
  homes i [] = []
  homes i (c ∷ configs) = fresh_at i c ∷ homes i configs

  -- a domain whose home is the pool i has parameters of RTDS
  abbrev pub AreRtds : ℕ → List DomConfig → Type 0
  AreRtds i configs = AllByRecursion (λ (c : DomConfig). c.home.0 ≡ i → DomParamsPass kinds.Rtds c.params) configs

  put_middle : {X : Type 0} (d : ℕ) (x : X) (o : Option X) (done rest : List (Option X)) → length done ≡ d → put_at d x (done ++ o ∷ rest) ≡ done ++ Some x ∷ rest
  put_middle zero x o [] rest is = refl
  put_middle (suc d) x o [] rest is = absurd (omega (arith, is))
  put_middle zero x o (p ∷ done) rest is = absurd (omega (arith, is))
  put_middle (suc d) x o (p ∷ done) rest is = ap (λ places. p ∷ places) (put_middle d x o done rest (omega (arith, is)))

  joined : (params : DomParams) (d count : ℕ) (done rest : List (Option (List RtdsUnit))) → DomParamsPass kinds.Rtds params → length done ≡ d → joined_records (RtdsPool (done ++ None ∷ rest)) params d count 0 ≡ RtdsPool (done ++ Some (fresh_units params count) ∷ rest)
  joined (dom_params.Credit2 weight cap) d count done rest passed is = absurd passed
  joined (dom_params.Rtds period budget extra) d count done rest passed is = ap RtdsPool (put_middle d (fresh_rtds_units period.0 budget.0 extra count 0) None done rest is)
  joined dom_params.Arinc653 d count done rest passed is = absurd passed
  joined dom_params.Null d count done rest passed is = absurd passed

  is_home : (n i : ℕ) → (n == i) ≡ true → n ≡ i
  is_home n i is = grind (arith, is)

  pub records_from : (i d : ℕ) (configs : List DomConfig) (pool : Pool) (done : List (Option (List RtdsUnit))) → AreRtds i configs → length done ≡ d → pool.scheduler.records ≡ RtdsPool (done ++ replicate (length configs) None)
      → (pool_with_domains g i d configs pool).scheduler.records ≡ RtdsPool (done ++ homes i configs)
  records_from i d [] pool done pass is at = at
  records_from i d (c ∷ configs) pool done pass is at =
      let next : Pool = cond (c.home.0 == i) (pool_with_configured g d c pool) pool in
      let rest : List (Option (List RtdsUnit)) = replicate (length configs) None in
      let long : length (done ++ fresh_at i c ∷ []) ≡ suc d = length-append done (fresh_at i c ∷ []) ∙ one_longer (length done) d is in
      let here : next.scheduler.records ≡ RtdsPool (done ++ fresh_at i c ∷ rest) = step (c.home.0 == i) refl in
      records_from i (suc d) configs next (done ++ fresh_at i c ∷ []) pass.1 long (here ∙ ap RtdsPool (sym (append_assoc done (fresh_at i c ∷ []) rest)))
      ∙ ap RtdsPool (append_assoc done (fresh_at i c ∷ []) (homes i configs))
    where
      one_longer : (n d : ℕ) → n ≡ d → n + 1 ≡ suc d
      one_longer n d is = omega (arith, is)

      step : (b : Bool) → (c.home.0 == i) ≡ b → (cond b (pool_with_configured g d c pool) pool).scheduler.records ≡ RtdsPool (done ++ cond b (Some (fresh_units c.params (configured_units g c))) None ∷ replicate (length configs) None)
      step true home =
          configured_records d c pool ∙ ap (λ (x : Records). joined_records x c.params d (domain_unit_count g (domain_at_opening c)) 0) at ∙ ap (λ (n : ℕ). joined_records (RtdsPool (done ++ None ∷ replicate (length configs) None)) c.params d n 0) (count_is c)
          ∙ joined c.params d (configured_units g c) done (replicate (length configs) None) (pass.0 (is_home c.home.0 i home)) is
      step false home = at

  -- a unit at the beginning of its first term
  pub record IsFresh (x : RtdsUnit) : Type 0 where
    pub next_period : x.next_period ≡ x.period
    pub next_budget : x.next_budget ≡ x.budget
    pub some : 0 < x.period
    pub left : x.left ≡ x.budget
    pub deadline : x.deadline ≡ x.period
    pub level : x.level ≡ 0
    pub burned : x.burned ≡ None

  same_item : {X : Type 0} (n k : ℕ) (x y : X) → slice_get (replicate n x) k ≡ Some y → x ≡ y
  same_item zero k x y at = absurd (cc)
  same_item (suc n) zero x y at = cc
  same_item (suc n) (suc k) x y at = same_item n k x y at

  fresh_is : (params : DomParams) (count k : ℕ) (x : RtdsUnit) → DomParamsPass kinds.Rtds params → slice_get (fresh_units params count) k ≡ Some x → IsFresh x
  fresh_is (dom_params.Credit2 weight cap) count k x passed at = absurd passed
  fresh_is (dom_params.Rtds period budget extra) count k x passed at =
      subst IsFresh (same_item count k _ x at)
      (record { next_period = refl; next_budget = refl; some = (let low = passed.0.least in omega (arith, low)); left = refl; deadline = omega arith; level = refl; burned = refl })
  fresh_is dom_params.Arinc653 count k x passed at = absurd passed
  fresh_is dom_params.Null count k x passed at = absurd passed

  homes_fresh : (i : ℕ) (configs : List DomConfig) → AreRtds i configs → (d n : ℕ) (x : RtdsUnit) → rtds_unit_at (homes i configs) (record { dom = domain_number d; n = n }) ≡ Some x → IsFresh x
  homes_fresh i [] pass d n x at = absurd (cc)
  homes_fresh i (c ∷ configs) pass zero n x at = go (c.home.0 == i) refl at
    where
      go : (b : Bool) → (c.home.0 == i) ≡ b → elim (cond b (Some (fresh_units c.params (configured_units g c))) None) as (λ _. Option RtdsUnit) [ None ↦ None | Some units ↦ slice_get units n ] ≡ Some x → IsFresh x
      go true home there = fresh_is c.params (configured_units g c) n x (pass.0 (is_home c.home.0 i home)) there
      go false home there = absurd (cc)
  homes_fresh i (c ∷ configs) pass (suc d) n x at = homes_fresh i configs pass.1 d n x at

  pub fresh_in : (i : ℕ) (configs : List DomConfig) → AreRtds i configs → (u : UnitId) (x : RtdsUnit) → rtds_unit_at (homes i configs) u ≡ Some x → IsFresh x
  fresh_in i configs pass u x at = homes_fresh i configs pass u.dom.0 u.n x at

  item_low : {X : Type 0} (n k : ℕ) (x y : X) → slice_get (replicate n x) k ≡ Some y → k < n
  item_low zero k x y at = absurd (cc)
  item_low (suc n) zero x y at = omega arith
  item_low (suc n) (suc k) x y at = (let l = item_low n k x y at in omega (arith, l))

  fresh_low : (params : DomParams) (count k : ℕ) (x : RtdsUnit) → DomParamsPass kinds.Rtds params → slice_get (fresh_units params count) k ≡ Some x → k < count
  fresh_low (dom_params.Credit2 weight cap) count k x passed at = absurd passed
  fresh_low (dom_params.Rtds period budget extra) count k x passed at = item_low count k _ x at
  fresh_low dom_params.Arinc653 count k x passed at = absurd passed
  fresh_low dom_params.Null count k x passed at = absurd passed

  -- its period is that of the file, and it is one of the domain's units
  fresh_period : (params : DomParams) (count k : ℕ) (x : RtdsUnit) → DomParamsPass kinds.Rtds params → slice_get (fresh_units params count) k ≡ Some x → x.period ≡ (reservation params).1
  fresh_period (dom_params.Credit2 weight cap) count k x passed at = absurd passed
  fresh_period (dom_params.Rtds period budget extra) count k x passed at = sym (ap (λ (y : RtdsUnit). y.period) (same_item count k _ x at))
  fresh_period dom_params.Arinc653 count k x passed at = absurd passed
  fresh_period dom_params.Null count k x passed at = absurd passed

  homes_period : (i : ℕ) (configs : List DomConfig) → AreRtds i configs → (d n : ℕ) (x : RtdsUnit) → rtds_unit_at (homes i configs) (record { dom = domain_number d; n = n }) ≡ Some x → (c : DomConfig) × (slice_get configs d ≡ Some c) × (x.period ≡ (reservation c.params).1) × (n < configured_units g c)
  homes_period i [] pass d n x at = absurd (cc)
  homes_period i (c ∷ configs) pass zero n x at = go (c.home.0 == i) refl at
    where
      go : (b : Bool) → (c.home.0 == i) ≡ b → elim (cond b (Some (fresh_units c.params (configured_units g c))) None) as (λ _. Option RtdsUnit) [ None ↦ None | Some units ↦ slice_get units n ] ≡ Some x → (e : DomConfig) × (slice_get (c ∷ configs) 0 ≡ Some e) × (x.period ≡ (reservation e.params).1) × (n < configured_units g e)
      go true home there = (c, refl, fresh_period c.params (configured_units g c) n x (pass.0 (is_home c.home.0 i home)) there, fresh_low c.params (configured_units g c) n x (pass.0 (is_home c.home.0 i home)) there)
      go false home there = absurd (cc)
  homes_period i (c ∷ configs) pass (suc d) n x at = homes_period i configs pass.1 d n x at

  pub period_in : (i : ℕ) (configs : List DomConfig) → AreRtds i configs → (u : UnitId) (x : RtdsUnit) → rtds_unit_at (homes i configs) u ≡ Some x → (c : DomConfig) × (slice_get configs u.dom.0 ≡ Some c) × (x.period ≡ (reservation c.params).1) × (u.n < configured_units g c)
  period_in i configs pass u x at = homes_period i configs pass u.dom.0 u.n x at

  -- what they claim is what the file says
  module _ (fs : Watch) (span : ℕ) where
    abbrev room_at : UnitId → RtdsUnit → ℕ
    room_at u x = room_of (fs.sleeps u) span (job 0 x)

    items_claim : (d n count : ℕ) (c : DomConfig) (x : RtdsUnit) → ((k : ℕ) → fs.sleeps (number d k) ≡ may_sleep g c k) → ((s : Bool) → room_of s span (job 0 x) ≡ claim c.params s span)
        → items_sum room_at d n (replicate count x) ≡ sum_by (λ k. claim c.params (may_sleep g c k) span) (numbers_from n count)
    items_claim d n zero c x same is = refl
    items_claim d n (suc count) c x same is =
        let rest = items_claim d (suc n) count c x same is in
        let here : room_at (number d n) x ≡ claim c.params (may_sleep g c n) span = is (fs.sleeps (number d n)) ∙ ap (λ (s : Bool). claim c.params s span) (same n) in
        let more = sum_by-cons (λ (k : ℕ). claim c.params (may_sleep g c k) span) n (numbers_from (suc n) count) in
        omega (arith, rest, here, more)

    fresh_claim : (d : ℕ) (c : DomConfig) (params : DomParams) → c.params ≡ params → DomParamsPass kinds.Rtds params → ((k : ℕ) → fs.sleeps (number d k) ≡ may_sleep g c k) → items_sum room_at d 0 (fresh_units params (configured_units g c)) ≡ domain_claims g c span
    fresh_claim d c (dom_params.Credit2 weight cap) is passed same = absurd passed
    fresh_claim d c (dom_params.Rtds period budget extra) is passed same = items_claim d 0 (configured_units g c) c _ same (λ s. sym (ap (λ (p : DomParams). claim p s span) is))
    fresh_claim d c dom_params.Arinc653 is passed same = absurd passed
    fresh_claim d c dom_params.Null is passed same = absurd passed

    pub claims_from : (i d : ℕ) (configs : List DomConfig) → AreRtds i configs → ((j : ℕ) (c : DomConfig) → slice_get configs j ≡ Some c → (k : ℕ) → fs.sleeps (number (d + j) k) ≡ may_sleep g c k) → sum_from room_at d (homes i configs) ≡ claims g i configs span
    claims_from i d [] pass same = refl
    claims_from i d (c ∷ configs) pass same =
        let zero_d : d + 0 ≡ d = omega arith in
        let here : (k : ℕ) → fs.sleeps (number d k) ≡ may_sleep g c k = λ k. subst (λ (n : ℕ). fs.sleeps (number n k) ≡ may_sleep g c k) zero_d (same 0 c refl k) in
        go (c.home.0 == i) refl here (claims_from i (suc d) configs pass.1 (λ j e at k. (let next : d + suc j ≡ suc d + j = omega arith in subst (λ (n : ℕ). fs.sleeps (number n k) ≡ may_sleep g e k) next (same (suc j) e at k))))
      where
        go : (b : Bool) → (c.home.0 == i) ≡ b → ((k : ℕ) → fs.sleeps (number d k) ≡ may_sleep g c k) → sum_from room_at (suc d) (homes i configs) ≡ claims g i configs span
            → sum_from room_at d (cond b (Some (fresh_units c.params (configured_units g c))) None ∷ homes i configs) ≡ cond b (domain_claims g c span) 0 + claims g i configs span
        go true home here rest = (let f = fresh_claim d c c.params refl (pass.0 (is_home c.home.0 i home)) here in omega (arith, f, rest))
        go false home here rest = omega (arith, rest)

  module _ (fs : Watch) (i : ℕ) (configs : List DomConfig) (pass : AreRtds i configs) where
    homes_later : ((span : ℕ) → fs.period ≤ span → rooms fs span (homes i configs) ≤ span) → (until : ℕ) → 0 + fs.period ≤ until → 0 + asks fs 0 until (homes i configs) ≤ until
    homes_later room until far =
        let most = sum_le (λ u x. ask (fs.sleeps u) 0 until (job 0 x)) (λ u x. room_of (fs.sleeps u) until (job 0 x)) (homes i configs) (λ u x at. each u x at (fs.sleeps u)) in
        let r = room until (omega (arith, far)) in
        omega (arith, most, r)
      where
        each : (u : UnitId) (x : RtdsUnit) → rtds_unit_at (homes i configs) u ≡ Some x → (s : Bool) → ask s 0 until (job 0 x) ≤ room_of s until (job 0 x)
        each u x at s =
            let f = fresh_in i configs pass u x at in
            let low : first_left x.level (x.left - since 0 x.burned) ≡ x.left - since 0 x.burned = ap (λ (n : ℕ). first_left n (x.left - since 0 x.burned)) f.level in
            let none : since 0 x.burned ≡ 0 = ap (since 0) f.burned in
            let full = f.left in
            let left : (job 0 x).left ≡ x.budget = omega (arith, low, none, full) in
            go s f.some left f.deadline
          where
            go : (s : Bool) → 0 < x.period → (job 0 x).left ≡ x.budget → x.deadline ≡ x.period → ask s 0 until (job 0 x) ≤ room_of s until (job 0 x)
            go true some left first =
                let zero_is : until - 0 ≡ until = omega arith in
                subst (λ (n : ℕ). ask true 0 until (job 0 x) ≤ room_of true n (job 0 x)) zero_is (sleeper_most until 0 (job 0 x) some (omega (arith, left)) (omega arith))
            go false some left first = waker_most until (job 0 x) some left first

    pub homes_base : ((span : ℕ) → fs.period ≤ span → rooms fs span (homes i configs) ≤ span) → ((x : RtdsUnit) → rtds_unit_at (homes i configs) fs.unit ≡ Some x → x.period ≡ fs.period) → Base fs 0 (homes i configs)
    homes_base room period = record {
      fit = λ u x at. (
          let f = fresh_in i configs pass u x at in
          let left = f.left in
          record { period = f.next_period; budget = f.next_budget; some = f.some; full = omega (arith, left); on_time = λ wakes. omega arith });
      room = room;
      later = homes_later room;
      own = λ x at. (
          let f = fresh_in i configs pass fs.unit x at in
          let p = period x at in
          let d = f.deadline in
          record { period = p; fits = inr (homes_later room x.deadline (omega (arith, p, d))) });
    }
