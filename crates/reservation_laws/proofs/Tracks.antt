-- What is kept of the records of an RTDS pool of one core: what they may still ask for can be served, and the core's own unit alone is charged.
use Rattle.std.proofs.Common.{◌≡◌, ◌≤◌, ◌<◌, ◌+◌, ◌-◌, ◌*◌, ◌/◌, ◌%◌, ◌⊎◌, ℕ, Bool, true, false, List, refl, arith, cond, subst, sym, ◌∙◌, ap, inl, inr}
use Rattle.std.specs.Prelude.{Option, Some, None, min, nat_lt, option_map}
use Rattle.std.proofs.lemmas.Bool.{cases_Bool}
use Rattle.std.proofs.Math.Nat.{zero-div}
use Rattle.sched_base.specs.Numbers.{moment}
use Rattle.sched_base.specs.declared.Moment.{Moment}
use Rattle.sched_base.specs.declared.UnitId.{UnitId}
use Rattle.sched_base.specs.RtdsNumbers.{burned_left, burned_level, next_deadline}
use Rattle.sched_model.specs.declared.state.RtdsUnit.{RtdsUnit}
use Rattle.sched_model.specs.Places.{same_unit}
use Rattle.sched_model.specs.EligibleUnits.{rtds_unit_at}
use Rattle.sched_model.specs.Rtds.{change_unit, unit_burned_to, unit_after_replenish, off_domains, own_burned_domains, running_domains, unit_left_budget}
use Rattle.sched_laws.proofs.EachPlace.{by_cond}
use Rattle.sched_laws.proofs.Choices.{same_unit_same}
use Rattle.sched_laws.proofs.Counts.{same_unit_refl}
use Rattle.sched_base.proofs.Bools.{clash}
use Rattle.sched_laws.proofs.RtdsUnits.{rtds_unit-same, rtds_unit-other}
use Rattle.service_laws.specs.Demand.{Job, asked_by}
use Rattle.reservation_laws.proofs.Asks.{ask, room_of, asked_renewed, next_later, sleeper_renewed, waker_falls}
use Rattle.reservation_laws.proofs.Jobs.{since, job, job_charged, job_set}
use Rattle.reservation_laws.proofs.UnitSums.{units_sum, sum_change}

-- whom a proof follows: a unit that never sleeps, its period, and which units may sleep
pub record Watch : Type 0 where
  pub sleeps : UnitId → Bool
  pub unit : UnitId
  pub period : ℕ
  pub wakes : sleeps unit ≡ false

-- a record whose parameters stay, with what is left of its budget; its term is not over before t, unless it may sleep
pub record KeepsTerms (sleeps : Bool) (t : ℕ) (x : RtdsUnit) : Type 0 where
  pub period : x.next_period ≡ x.period
  pub budget : x.next_budget ≡ x.budget
  pub some : 0 < x.period
  pub full : x.left ≤ x.budget
  pub on_time : sleeps ≡ false → t ≤ x.deadline

-- a unit that runs since a moment, and its core's due comes before its budget is used up
pub record Runs (t : ℕ) (due : Option Moment) (x : RtdsUnit) : Type 0 where
  pub from : ℕ
  pub burned : x.burned ≡ Some from
  pub past : from ≤ t
  pub at : Moment
  pub is : due ≡ Some at
  pub low : at.0 ≤ from + x.left

-- the core's own unit has a record, and runs
pub record OwnRuns (t : ℕ) (due : Option Moment) (domains : List (Option (List RtdsUnit))) (u : UnitId) : Type 0 where
  pub unit : RtdsUnit
  pub at : rtds_unit_at domains u ≡ Some unit
  pub runs : Runs t due unit

-- what all units may still ask for at t, up to a moment; and the most that they may ask for in a span
abbrev pub asks : Watch → ℕ → ℕ → List (Option (List RtdsUnit)) → ℕ
asks fs t until domains = units_sum (λ u x. ask (fs.sleeps u) t until (job t x)) domains

abbrev pub rooms : Watch → ℕ → List (Option (List RtdsUnit)) → ℕ
rooms fs span domains = units_sum (λ u x. room_of (fs.sleeps u) span (job 0 x)) domains

-- the unit that is followed has its period; and nothing is left to it, or there is time for all that is asked up to its deadline
pub record OwnFits (fs : Watch) (t : ℕ) (domains : List (Option (List RtdsUnit))) (j : Job) : Type 0 where
  pub period : j.period ≡ fs.period
  pub fits : (j.left ≡ 0) ⊎ (t + asks fs t j.deadline domains ≤ j.deadline)

-- of all records: there is room in each span of the period and more, and time for all that is asked up to each moment that is as far away
pub record Base (fs : Watch) (t : ℕ) (domains : List (Option (List RtdsUnit))) : Type 0 where
  pub fit : (u : UnitId) (x : RtdsUnit) → rtds_unit_at domains u ≡ Some x → KeepsTerms (fs.sleeps u) t x
  pub room : (span : ℕ) → fs.period ≤ span → rooms fs span domains ≤ span
  pub later : (until : ℕ) → t + fs.period ≤ until → t + asks fs t until domains ≤ until
  pub own : (x : RtdsUnit) → rtds_unit_at domains fs.unit ≡ Some x → OwnFits fs t domains (job t x)

-- the same, where the core has this unit and is due at this moment: no other unit is charged
pub record Tracks (fs : Watch) (t : ℕ) (cur : Option UnitId) (due : Option Moment) (domains : List (Option (List RtdsUnit))) : Type 0 where
  pub base : Base fs t domains
  pub own : (u : UnitId) → cur ≡ Some u → OwnRuns t due domains u
  pub idle : (u : UnitId) (x : RtdsUnit) → rtds_unit_at domains u ≡ Some x → (cur ≡ Some u → ⊥) → x.burned ≡ None

-- what the unit may still ask for in its term, and when that ends
abbrev pub face : ℕ → List (Option (List RtdsUnit)) → UnitId → Option Job
face t domains u = option_map (job t) (rtds_unit_at domains u)

-- what holds of the changed record and of each other one
changed_or : (P : UnitId → RtdsUnit → Type 0) (domains : List (Option (List RtdsUnit))) (w : UnitId) (x : RtdsUnit) (f : RtdsUnit → RtdsUnit) → rtds_unit_at domains w ≡ Some x
    → P w (f x) → ((u : UnitId) (y : RtdsUnit) → same_unit w u ≡ false → rtds_unit_at domains u ≡ Some y → P u y) → (u : UnitId) (y : RtdsUnit) → rtds_unit_at (change_unit w f domains) u ≡ Some y → P u y
changed_or P domains w x f at here others u y is =
    elim (cases_Bool (same_unit w u)) [
      | inl same ↦ (
          let e : w ≡ u = same_unit_same w u same in
          let now : rtds_unit_at (change_unit w f domains) u ≡ Some (f x) = subst (λ (v : UnitId). rtds_unit_at (change_unit w f domains) v ≡ Some (f x)) e (rtds_unit-same w f domains x at) in
          let both : Some (f x) ≡ Some y = sym now ∙ is in
          let value : f x ≡ y = cc in
          subst (P u) value (subst (λ (v : UnitId). P v (f x)) e here))
      | inr other ↦ others u y other (sym (rtds_unit-other w u f domains other) ∙ is)
    ]

-- a change of one record that changes nothing of its reservation
module _ (fs : Watch) (t : ℕ) (domains : List (Option (List RtdsUnit))) (w : UnitId) (x : RtdsUnit) (f : RtdsUnit → RtdsUnit) (at : rtds_unit_at domains w ≡ Some x) where
  asks_kept : job t (f x) ≡ job t x → (until : ℕ) → asks fs t until (change_unit w f domains) ≡ asks fs t until domains
  asks_kept same until =
      let F : UnitId → RtdsUnit → ℕ = λ u y. ask (fs.sleeps u) t until (job t y) in
      let c = sum_change F f w domains x at in
      let e : ask (fs.sleeps w) t until (job t (f x)) ≡ ask (fs.sleeps w) t until (job t x) = ap (ask (fs.sleeps w) t until) same in
      omega (arith, c, e)

  rooms_kept : (f x).budget ≡ x.budget → (f x).period ≡ x.period → (span : ℕ) → rooms fs span (change_unit w f domains) ≡ rooms fs span domains
  rooms_kept budget period span =
      let F : UnitId → RtdsUnit → ℕ = λ u y. room_of (fs.sleeps u) span (job 0 y) in
      let c = sum_change F f w domains x at in
      let e : room_of (fs.sleeps w) span (job 0 (f x)) ≡ room_of (fs.sleeps w) span (job 0 x) = room_same (fs.sleeps w) span (f x).budget x.budget (f x).period x.period budget period in
      omega (arith, c, e)
    where
      room_same : (s : Bool) (span b1 b2 p1 p2 : ℕ) → b1 ≡ b2 → p1 ≡ p2 → b1 * (span / p1) + cond s (min b1 (span % p1)) 0 ≡ b2 * (span / p2) + cond s (min b2 (span % p2)) 0
      room_same s span b1 b2 p1 p2 b p = ap (λ (n : ℕ). n * (span / p1) + cond s (min n (span % p1)) 0) b ∙ ap (λ (n : ℕ). b2 * (span / n) + cond s (min b2 (span % n)) 0) p

  base_kept : Base fs t domains → job t (f x) ≡ job t x → KeepsTerms (fs.sleeps w) t (f x) → Base fs t (change_unit w f domains)
  base_kept base same keeps = record {
    fit = changed_or (λ u y. KeepsTerms (fs.sleeps u) t y) domains w x f at keeps (λ u y other is. base.fit u y is);
    room = λ span low. (let r = base.room span low in let e = rooms_kept (ap (λ (j : Job). j.budget) same) (ap (λ (j : Job). j.period) same) span in omega (arith, r, e));
    later = λ until low. (let r = base.later until low in let e = asks_kept same until in omega (arith, r, e));
    own = λ y is. changed_or (λ u z. u ≡ fs.unit → OwnFits fs t (change_unit w f domains) (job t z)) domains w x f at
        (λ here. subst (OwnFits fs t (change_unit w f domains)) (sym same) (own_still (job t x) (base.own x (subst (λ (k : UnitId). rtds_unit_at domains k ≡ Some x) here at)))) (λ u z other is_z here. own_still (job t z) (base.own z (subst (λ (k : UnitId). rtds_unit_at domains k ≡ Some z) here is_z))) fs.unit y is refl;
  }
    where
      own_still : (j : Job) → OwnFits fs t domains j → OwnFits fs t (change_unit w f domains) j
      own_still j o = record { period = o.period; fits = (elim o.fits [ inl none ↦ inl none | inr time ↦ inr (let e = asks_kept same j.deadline in omega (arith, time, e)) ]) }

module _ (t : ℕ) (domains : List (Option (List RtdsUnit))) (w : UnitId) (x : RtdsUnit) (f : RtdsUnit → RtdsUnit) (at : rtds_unit_at domains w ≡ Some x) where
  face_kept : (u : UnitId) → job t (f x) ≡ job t x → face t (change_unit w f domains) u ≡ face t domains u
  face_kept u same =
      elim (cases_Bool (same_unit w u)) [
        | inl is ↦ (
            let e : w ≡ u = same_unit_same w u is in
            subst (λ (v : UnitId). face t (change_unit w f domains) v ≡ face t domains v) e
            (ap (option_map (job t)) (rtds_unit-same w f domains x at) ∙ ap (λ (j : Job). Some j) same ∙ sym (ap (option_map (job t)) at)))
        | inr other ↦ ap (option_map (job t)) (rtds_unit-other w u f domains other)
      ]

-- a charge up to t, as fields
record Charged (t : ℕ) (x y : RtdsUnit) : Type 0 where
  period : y.period ≡ x.period
  budget : y.budget ≡ x.budget
  next_period : y.next_period ≡ x.next_period
  next_budget : y.next_budget ≡ x.next_budget
  deadline : y.deadline ≡ x.deadline
  full : x.left ≤ x.budget → y.left ≤ y.budget
  since : since t y.burned ≡ 0

left_within : (left budget e : ℕ) (extra : Bool) → left ≤ budget → burned_left left budget extra e ≤ budget
left_within left budget e extra few =
    by_cond (λ (n : ℕ). n ≤ budget) (nat_lt e left) (left - e) (cond extra budget 0) (λ is. omega (arith, few)) (λ is. by_cond (λ (n : ℕ). n ≤ budget) extra budget 0 (λ is2. omega arith) (λ is2. omega arith))

charged : (t : ℕ) (x : RtdsUnit) → Charged t x (unit_burned_to t x)
charged t x = go x.burned refl
  where
    go : (o : Option ℕ) → x.burned ≡ o → Charged t x (elim o as (λ _. RtdsUnit) [ None ↦ x | Some from ↦ record x { left = burned_left x.left x.budget x.extra (t - from); level = burned_level x.level x.left x.extra (t - from); burned = Some t } ])
    go None is = record { period = refl; budget = refl; next_period = refl; next_budget = refl; deadline = refl; full = λ few. few; since = ap (since t) is }
    go (Some from) is = record { period = refl; budget = refl; next_period = refl; next_budget = refl; deadline = refl; full = λ few. left_within x.left x.budget (t - from) x.extra few; since = omega arith }

charged_keeps : (s : Bool) (t : ℕ) (x : RtdsUnit) → KeepsTerms s t x → KeepsTerms s t (unit_burned_to t x)
charged_keeps s t x keeps =
    let c = charged t x in
    record {
      period = c.next_period ∙ keeps.period ∙ sym c.period;
      budget = c.next_budget ∙ keeps.budget ∙ sym c.budget;
      some = subst (λ (n : ℕ). 0 < n) (sym c.period) keeps.some;
      full = c.full keeps.full;
      on_time = λ wakes. subst (λ (n : ℕ). t ≤ n) (sym c.deadline) (keeps.on_time wakes);
    }

set_keeps : (s : Bool) (t : ℕ) (x : RtdsUnit) (o : Option ℕ) → KeepsTerms s t x → KeepsTerms s t (record x { burned = o })
set_keeps s t x o keeps = record { period = keeps.period; budget = keeps.budget; some = keeps.some; full = keeps.full; on_time = keeps.on_time }

other_unit : (w u : UnitId) → same_unit w u ≡ false → ◌≡◌ {A = Option UnitId} (Some w) (Some u) → ⊥
other_unit w u other is =
    let e : w ≡ u = cc in
    clash (same_unit w w) (same_unit_refl w) (subst (λ (v : UnitId). same_unit w v ≡ false) (sym e) other)

-- what is left to each unit, after a change that keeps it
left_kept : (domains : List (Option (List RtdsUnit))) (w : UnitId) (x : RtdsUnit) (f : RtdsUnit → RtdsUnit) → rtds_unit_at domains w ≡ Some x → (f x).left ≡ x.left → (u : UnitId) → unit_left_budget (change_unit w f domains) u ≡ unit_left_budget domains u
left_kept domains w x f at same u =
    elim (cases_Bool (same_unit w u)) [
      | inl is ↦ (
          let e : w ≡ u = same_unit_same w u is in
          subst (λ (v : UnitId). unit_left_budget (change_unit w f domains) v ≡ unit_left_budget domains v) e
          (ap of_record (rtds_unit-same w f domains x at) ∙ same ∙ sym (ap of_record at)))
      | inr other ↦ ap of_record (rtds_unit-other w u f domains other)
    ]
  where
    of_record : Option RtdsUnit → ℕ
    of_record o = elim o as (λ _. ℕ) [ None ↦ 0 | Some z ↦ z.left ]

-- what is left of a core's own unit's records before a choice is made
pub record Freed (fs : Watch) (t : ℕ) (charged_domains next old : List (Option (List RtdsUnit))) : Type 0 where
  pub tracks : Tracks fs t None None next
  pub left : (u : UnitId) → unit_left_budget next u ≡ unit_left_budget charged_domains u
  pub face : (u : UnitId) → face t next u ≡ face t old u

module _ (fs : Watch) (t : ℕ) where
  -- the core's own unit is charged, and runs no more
  freed_own : (w : UnitId) (due : Option Moment) (domains : List (Option (List RtdsUnit))) → Tracks fs t (Some w) due domains
      → Freed fs t (change_unit w (unit_burned_to t) domains) (change_unit w (λ x. record x { burned = None }) (change_unit w (unit_burned_to t) domains)) domains
  freed_own w due domains here =
      let o = here.own w refl in
      let x : RtdsUnit = o.unit in
      let burned : List (Option (List RtdsUnit)) = change_unit w (unit_burned_to t) domains in
      let y : RtdsUnit = unit_burned_to t x in
      let off : RtdsUnit → RtdsUnit = λ z. record z { burned = None } in
      let at_burned : rtds_unit_at burned w ≡ Some y = rtds_unit-same w (unit_burned_to t) domains x o.at in
      let base : Base fs t burned = base_kept fs t domains w x (unit_burned_to t) o.at here.base (job_charged t x) (charged_keeps (fs.sleeps w) t x (here.base.fit w x o.at)) in
      let set : job t (off y) ≡ job t y = job_set t y None (charged t x).since refl in
      record {
        tracks = record {
          base = base_kept fs t burned w y off at_burned base set (set_keeps (fs.sleeps w) t y None (base.fit w y at_burned));
          own = λ u is. absurd (cc);
          idle = λ u z at_z none. changed_or (λ v z. z.burned ≡ None) burned w y off at_burned refl
              (λ v z other at_v. here.idle v z (sym (rtds_unit-other w v (unit_burned_to t) domains other) ∙ at_v) (other_unit w v other)) u z at_z;
        };
        left = left_kept burned w y off at_burned refl;
        face = λ u. face_kept t burned w y off at_burned u set ∙ face_kept t domains w x (unit_burned_to t) o.at u (job_charged t x);
      }

  pub freed : (cur : Option UnitId) (due : Option Moment) (domains : List (Option (List RtdsUnit))) → Tracks fs t cur due domains → Freed fs t (own_burned_domains cur t domains) (off_domains cur (own_burned_domains cur t domains)) domains
  freed None due domains here = record { tracks = record { base = here.base; own = λ u is. absurd (cc); idle = here.idle }; left = λ u. refl; face = λ u. refl }
  freed (Some w) due domains here = freed_own w due domains here

  -- a unit runs from t on
  pub runs_now : (u : UnitId) (x : RtdsUnit) (domains : List (Option (List RtdsUnit))) → rtds_unit_at domains u ≡ Some x → Tracks fs t None None domains
      → Tracks fs t (Some u) (Some (moment (t + x.left))) (running_domains (Some t) u domains)
  runs_now u x domains at here =
      let on : RtdsUnit → RtdsUnit = λ z. record z { burned = Some t } in
      let none : x.burned ≡ None = here.idle u x at (λ is. absurd (cc)) in
      let now : since t (Some t) ≡ 0 = omega arith in
      let set : job t (on x) ≡ job t x = job_set t x (Some t) (ap (since t) none) now in
      let next : rtds_unit_at (running_domains (Some t) u domains) u ≡ Some (on x) = rtds_unit-same u on domains x at in
      record {
        base = base_kept fs t domains u x on at here.base set (set_keeps (fs.sleeps u) t x (Some t) (here.base.fit u x at));
        own = λ v is. (
            let e : u ≡ v = cc in
            subst (OwnRuns t (Some (moment (t + x.left))) (running_domains (Some t) u domains)) e
            (record { unit = on x; at = next; runs = record { from = t; burned = refl; past = omega arith; at = moment (t + x.left); is = refl; low = omega arith } }));
        idle = λ v z at_z other. changed_or (λ k z. (Some u ≡ Some k → ⊥) → z.burned ≡ None) domains u x on at (λ differ. absurd (differ refl)) (λ k z differ at_k not. here.idle k z at_k (λ is. absurd (cc))) v z at_z other;
      }

  pub runs_face : (u : UnitId) (x : RtdsUnit) (domains : List (Option (List RtdsUnit))) → rtds_unit_at domains u ≡ Some x → Tracks fs t None None domains → (v : UnitId) → face t (running_domains (Some t) u domains) v ≡ face t domains v
  runs_face u x domains at here v =
      let none : x.burned ≡ None = here.idle u x at (λ is. absurd (cc)) in
      let now : since t (Some t) ≡ 0 = omega arith in
      face_kept t domains u x (λ z. record z { burned = Some t }) at v (job_set t x (Some t) (ap (since t) none) now)

-- the first deadline after one that comes now is a period later
next_is : (deadline period t : ℕ) → t ≤ deadline → deadline ≤ t → next_deadline deadline period t ≡ deadline + period
next_is deadline period t low high =
    let none : t - deadline ≡ 0 = omega (arith, low) in
    ap (λ (n : ℕ). deadline + period * (n / period + 1)) none ∙ first
  where
    first : deadline + period * (0 / period + 1) ≡ deadline + period
    first = (let zero_is : 0 / period ≡ 0 = zero-div period in let one_is : period * (0 + 1) ≡ period = grind arith in ap (λ (n : ℕ). deadline + period * (n + 1)) zero_is ∙ ap (λ (n : ℕ). deadline + n) one_is)

job_fields : (l1 l2 d1 d2 p1 p2 b1 b2 : ℕ) → l1 ≡ l2 → d1 ≡ d2 → p1 ≡ p2 → b1 ≡ b2 → ◌≡◌ {A = Job} (record { left = l1; deadline = d1; period = p1; budget = b1 }) (record { left = l2; deadline = d2; period = p2; budget = b2 })
job_fields l1 l2 d1 d2 p1 p2 b1 b2 l d p b =
    ap (λ (n : ℕ). record { left = n; deadline = d1; period = p1; budget = b1 }) l ∙ ap (λ (n : ℕ). record { left = l2; deadline = n; period = p1; budget = b1 }) d
    ∙ ap (λ (n : ℕ). record { left = l2; deadline = d2; period = n; budget = b1 }) p ∙ ap (λ (n : ℕ). record { left = l2; deadline = d2; period = p2; budget = n }) b

-- whether a charged unit runs
still_runs : (t from : ℕ) (x : RtdsUnit) → x.burned ≡ Some from → (unit_burned_to t x).burned ≡ Some t
still_runs t from x is = ap (λ (o : Option ℕ). (elim o as (λ _. RtdsUnit) [ None ↦ x | Some k ↦ record x { left = burned_left x.left x.budget x.extra (t - k); level = burned_level x.level x.left x.extra (t - k); burned = Some t } ]).burned) is

still_idle : (t : ℕ) (x : RtdsUnit) → x.burned ≡ None → (unit_burned_to t x).burned ≡ None
still_idle t x is = ap (λ (o : Option ℕ). (elim o as (λ _. RtdsUnit) [ None ↦ x | Some k ↦ record x { left = burned_left x.left x.budget x.extra (t - k); level = burned_level x.level x.left x.extra (t - k); burned = Some t } ]).burned) is ∙ is

module _ (fs : Watch) (t : ℕ) (u : UnitId) (x : RtdsUnit) (domains : List (Option (List RtdsUnit))) (at : rtds_unit_at domains u ≡ Some x) (over : x.deadline ≤ t) where
  -- the record of a unit whose term is over, replenished
  pub renewed_job : KeepsTerms (fs.sleeps u) t x → job t (unit_after_replenish t x) ≡ record (job t x) { left = x.budget; deadline = next_deadline x.deadline x.period t }
  renewed_job keeps =
      let y : RtdsUnit = unit_burned_to t x in
      let c = charged t x in
      let budget : y.next_budget ≡ x.budget = c.next_budget ∙ keeps.budget in
      let period : y.next_period ≡ x.period = c.next_period ∙ keeps.period in
      let run : since t y.burned ≡ 0 = c.since in
      let left : y.next_budget - since t y.burned ≡ x.budget = omega (arith, budget, run) in
      let deadline : next_deadline y.deadline y.next_period t ≡ next_deadline x.deadline x.period t = ap (λ (n : ℕ). next_deadline n y.next_period t) c.deadline ∙ ap (λ (n : ℕ). next_deadline x.deadline n t) period in
      job_fields (y.next_budget - since t y.burned) x.budget (next_deadline y.deadline y.next_period t) (next_deadline x.deadline x.period t) y.next_period x.period y.next_budget x.budget left deadline period budget

  renewed_keeps : KeepsTerms (fs.sleeps u) t x → KeepsTerms (fs.sleeps u) t (unit_after_replenish t x)
  renewed_keeps keeps =
      let y : RtdsUnit = unit_burned_to t x in
      let c = charged t x in
      let period : y.next_period ≡ x.period = c.next_period ∙ keeps.period in
      let deadline : next_deadline y.deadline y.next_period t ≡ next_deadline x.deadline x.period t = ap (λ (n : ℕ). next_deadline n y.next_period t) c.deadline ∙ ap (λ (n : ℕ). next_deadline x.deadline n t) period in
      let some = keeps.some in
      let high = next_later x.deadline x.period t some over in
      record { period = refl; budget = refl; some = omega (arith, period, some); full = omega arith; on_time = λ wakes. omega (arith, deadline, high) }

  module _ (cur : Option UnitId) (due : Option Moment) (here : Tracks fs t cur due domains) where
    abbrev pub next : List (Option (List RtdsUnit))
    next = change_unit u (unit_after_replenish t) domains

    keeps : KeepsTerms (fs.sleeps u) t x
    keeps = here.base.fit u x at

    now : rtds_unit_at next u ≡ Some (unit_after_replenish t x)
    now = rtds_unit-same u (unit_after_replenish t) domains x at

    -- it asks for no more than before
    asks_less : (until : ℕ) → asks fs t until next ≤ asks fs t until domains
    asks_less until =
        let F : UnitId → RtdsUnit → ℕ = λ w y. ask (fs.sleeps w) t until (job t y) in
        let c = sum_change F (unit_after_replenish t) u domains x at in
        let less : ask (fs.sleeps u) t until (job t (unit_after_replenish t x)) ≤ ask (fs.sleeps u) t until (job t x) = subst (λ (j : Job). ask (fs.sleeps u) t until j ≤ ask (fs.sleeps u) t until (job t x)) (sym (renewed_job keeps)) (one (fs.sleeps u) refl) in
        omega (arith, c, less)
      where
        one : (s : Bool) → fs.sleeps u ≡ s → ask s t until (record (job t x) { left = x.budget; deadline = next_deadline x.deadline x.period t }) ≤ ask s t until (job t x)
        one true is = (let e = sleeper_renewed until t (job t x) keeps.some over in omega (arith, e))
        one false is =
            let on = next_is x.deadline x.period t (keeps.on_time is) over in
            let a = asked_renewed until (job t x) keeps.some in
            let b = waker_falls until (job t x) 0 (omega arith) in
            subst (λ (n : ℕ). asked_by until (record (job t x) { left = x.budget; deadline = n }) ≤ asked_by until (job t x)) (sym on) (omega (arith, a, b))

    renewed_base : Base fs t next
    renewed_base =
        let c = charged t x in
        record {
          fit = changed_or (λ w y. KeepsTerms (fs.sleeps w) t y) domains u x (unit_after_replenish t) at (renewed_keeps keeps) (λ w y other is. here.base.fit w y is);
          room = λ span low. (let r = here.base.room span low in let e = rooms_kept fs t domains u x (unit_after_replenish t) at (c.next_budget ∙ keeps.budget) (c.next_period ∙ keeps.period) span in omega (arith, r, e));
          later = λ until low. (let r = here.base.later until low in let e = asks_less until in omega (arith, r, e));
          own = λ y is. changed_or (λ w z. w ≡ fs.unit → OwnFits fs t next (job t z)) domains u x (unit_after_replenish t) at
              (λ same. subst (OwnFits fs t next) (sym (renewed_job keeps)) (own_next same)) (λ w z other is_z same. own_still (job t z) (here.base.own z (subst (λ (k : UnitId). rtds_unit_at domains k ≡ Some z) same is_z))) fs.unit y is refl;
        }
      where
        own_still : (j : Job) → OwnFits fs t domains j → OwnFits fs t next j
        own_still j o = record { period = o.period; fits = (elim o.fits [ inl none ↦ inl none | inr time ↦ inr (let e = asks_less j.deadline in omega (arith, time, e)) ]) }

        -- the term that follows ends a period later
        own_next : u ≡ fs.unit → OwnFits fs t next (record (job t x) { left = x.budget; deadline = next_deadline x.deadline x.period t })
        own_next same =
            let o = here.base.own x (subst (λ (k : UnitId). rtds_unit_at domains k ≡ Some x) same at) in
            let period : x.period ≡ fs.period = o.period in
            let wakes : fs.sleeps u ≡ false = subst (λ (k : UnitId). fs.sleeps k ≡ false) (sym same) fs.wakes in
            let low = keeps.on_time wakes in
            let on : next_deadline x.deadline x.period t ≡ x.deadline + x.period = next_is x.deadline x.period t low over in
            let until : ℕ = next_deadline x.deadline x.period t in
            let far : t + fs.period ≤ until = omega (arith, on, period, low) in
            let time = here.base.later until far in
            let less = asks_less until in
            record { period = period; fits = inr (omega (arith, time, less)) }

    renewed_own : (v : UnitId) → cur ≡ Some v → OwnRuns t due next v
    renewed_own v is =
        let o = here.own v is in
        elim (cases_Bool (same_unit u v)) [
          | inl same ↦ (
              let e : u ≡ v = same_unit_same u v same in
              let both : Some x ≡ Some o.unit = sym at ∙ subst (λ (k : UnitId). rtds_unit_at domains k ≡ Some o.unit) (sym e) o.at in
              let one : x ≡ o.unit = cc in
              let r : Runs t due x = subst (Runs t due) (sym one) o.runs in
              let full = keeps.full in
              let low = r.low in
              let past = r.past in
              let budget : (unit_after_replenish t x).left ≡ x.budget = (charged t x).next_budget ∙ keeps.budget in
              record {
                unit = unit_after_replenish t x;
                at = subst (λ (k : UnitId). rtds_unit_at next k ≡ Some (unit_after_replenish t x)) e now;
                runs = record { from = t; burned = still_runs t r.from x r.burned; past = omega arith; at = r.at; is = r.is; low = omega (arith, full, low, past, budget) };
              })
          | inr other ↦ record { unit = o.unit; at = rtds_unit-other u v (unit_after_replenish t) domains other ∙ o.at; runs = o.runs }
        ]

    pub renewed_tracks : Tracks fs t cur due next
    renewed_tracks = record {
      base = renewed_base;
      own = renewed_own;
      idle = λ v y is none. changed_or (λ k z. (cur ≡ Some k → ⊥) → z.burned ≡ None) domains u x (unit_after_replenish t) at (λ not. still_idle t x (here.idle u x at not)) (λ k z other at_k not. here.idle k z at_k not) v y is none;
    }

  pub renewed_face : (v : UnitId) → same_unit u v ≡ false → face t (change_unit u (unit_after_replenish t) domains) v ≡ face t domains v
  renewed_face v other = ap (option_map (job t)) (rtds_unit-other u v (unit_after_replenish t) domains other)

-- the core's due falls
pub due_falls : (fs : Watch) (t : ℕ) (cur : Option UnitId) (due next : Option Moment) (domains : List (Option (List RtdsUnit))) → ((at : Moment) → due ≡ Some at → (at2 : Moment) × (next ≡ Some at2) × (at2.0 ≤ at.0))
    → Tracks fs t cur due domains → Tracks fs t cur next domains
due_falls fs t cur due next domains falls here = record {
  base = here.base;
  own = λ u is. (
      let o = here.own u is in
      let f = falls o.runs.at o.runs.is in
      let low = o.runs.low in
      let less = f.2 in
      record { unit = o.unit; at = o.at; runs = record { from = o.runs.from; burned = o.runs.burned; past = o.runs.past; at = f.0; is = f.1; low = omega (arith, low, less) } });
  idle = here.idle;
}
