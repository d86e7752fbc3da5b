-- A nanosecond that passes at a core with the most urgent unit leaves time for what is asked.
use Rattle.std.proofs.Common.{◌≡◌, ◌≤◌, ◌<◌, ◌+◌, ◌-◌, ◌⊎◌, ℕ, suc, Bool, true, false, List, refl, arith, cond, subst, sym, ◌∙◌, ap, inl, inr}
use Rattle.std.specs.Prelude.{Option, Some, None, nat_lt, ◌==◌, ◌&&◌, ◌||◌}
use Rattle.std.proofs.lemmas.Bool.{cases_Bool}
use Rattle.std.proofs.Math.Decide.{dec_le}
use Rattle.sched_base.specs.declared.Moment.{Moment}
use Rattle.sched_base.specs.declared.UnitId.{UnitId}
use Rattle.sched_model.specs.declared.state.RtdsUnit.{RtdsUnit}
use Rattle.sched_model.specs.Places.{same_unit}
use Rattle.sched_model.specs.EligibleUnits.{rtds_unit_at}
use Rattle.sched_model.specs.Rtds.{is_record_before}
use Rattle.sched_laws.proofs.Choices.{same_unit_same}
use Rattle.service_laws.specs.Demand.{Job}
use Rattle.sched_laws.proofs.EachPlace.{by_cond}
use Rattle.reservation_laws.proofs.Asks.{ask, asked_none, room_of, sleeper_falls, sleeper_most, sleeper_served, waker_falls, waker_served}
use Rattle.reservation_laws.proofs.Jobs.{since, first_left, job}
use Rattle.reservation_laws.proofs.Tracks.{Base, OwnFits, Runs, Tracks, Watch, asks, rooms}
use Rattle.reservation_laws.proofs.UnitSums.{sum_gain, sum_le}

-- at t no term of a unit that never sleeps is over, nor that of the core's own, and the core is due later; a unit that never sleeps and has budget left is
-- not more urgent than the core's own, and there is none where the core idles
pub record IsCalm (fs : Watch) (t : ℕ) (cur : Option UnitId) (due : Option Moment) (domains : List (Option (List RtdsUnit))) : Type 0 where
  pub terms : (u : UnitId) (x : RtdsUnit) → rtds_unit_at domains u ≡ Some x → fs.sleeps u ≡ false → t < x.deadline
  pub own_term : (w : UnitId) (y : RtdsUnit) → cur ≡ Some w → rtds_unit_at domains w ≡ Some y → t < y.deadline
  pub later : (at : Moment) → due ≡ Some at → t < at.0
  pub idles : cur ≡ None → (u : UnitId) (x : RtdsUnit) → rtds_unit_at domains u ≡ Some x → fs.sleeps u ≡ false → x.left ≡ 0
  pub first : (w u : UnitId) (y x : RtdsUnit) → cur ≡ Some w → rtds_unit_at domains w ≡ Some y → rtds_unit_at domains u ≡ Some x → same_unit u w ≡ false → fs.sleeps u ≡ false → 0 < x.left → is_record_before x y ≡ false

job_left : (l1 l2 d p b : ℕ) → l1 ≡ l2 → ◌≡◌ {A = Job} (record { left = l1; deadline = d; period = p; budget = b }) (record { left = l2; deadline = d; period = p; budget = b })
job_left l1 l2 d p b same = ap (λ (n : ℕ). record { left = n; deadline = d; period = p; budget = b }) same

-- the reservation of a unit that does not run stays as it is
pub idle_job : (t t2 : ℕ) (x : RtdsUnit) → x.burned ≡ None → job t2 x ≡ job t x
idle_job t t2 x none =
    job_left (first_left x.level (x.left - since t2 x.burned)) (first_left x.level (x.left - since t x.burned)) x.deadline x.period x.budget
    (ap (λ (o : Option ℕ). first_left x.level (x.left - since t2 o)) none ∙ sym (ap (λ (o : Option ℕ). first_left x.level (x.left - since t o)) none))

none_left : (b : Bool) (n : ℕ) → n ≡ 0 → cond b n 0 ≡ 0
none_left true n none = none
none_left false n none = refl

high_left : (level n : ℕ) → (level == 0) ≡ false → first_left level n ≡ 0
high_left level n high = ap (λ b. cond b n 0) high

-- of one that runs a nanosecond is served
less_left : (level left from t : ℕ) → from ≤ t → (level == 0) ≡ true → first_left level (left - (suc t - from)) ≡ first_left level (left - (t - from)) - 1
less_left level left from t past zero_level =
    let a : first_left level (left - (suc t - from)) ≡ left - (suc t - from) = ap (λ b. cond b (left - (suc t - from)) 0) zero_level in
    let b : first_left level (left - (t - from)) ≡ left - (t - from) = ap (λ b. cond b (left - (t - from)) 0) zero_level in
    omega (arith, a, b, past)

some_left : (level left from t at : ℕ) → from ≤ t → t < at → at ≤ from + left → (level == 0) ≡ true → 0 < first_left level (left - (t - from))
some_left level left from t at past later low zero_level =
    let b : first_left level (left - (t - from)) ≡ left - (t - from) = ap (λ b. cond b (left - (t - from)) 0) zero_level in
    omega (arith, b, past, later, low)

-- of one that is not more urgent than the first, and whose term ends before that of the first, nothing is left
spent_left : (lx ly dx dy left e : ℕ) → (0 < left → (nat_lt lx ly || (lx == ly && nat_lt dx dy)) ≡ false) → (ly == 0) ≡ true → dx < dy → first_left lx (left - e) ≡ 0
spent_left lx ly dx dy left e order zero_level before =
    elim (cases_Bool (lx == 0)) [
      | inr high ↦ high_left lx (left - e) high
      | inl low ↦ elim (dec_le left 0) [
        | yes none ↦ none_left (lx == 0) (left - e) (omega (arith, none))
        | no some ↦ absurd (
            let a : 0 < left = omega (arith, some) in
            let h = order a in
            grind (arith, h, zero_level, low, before))
      ]
    ]

below_left : (lx ly dx dy left e : ℕ) → (0 < left → (nat_lt lx ly || (lx == ly && nat_lt dx dy)) ≡ false) → (ly == 0) ≡ false → first_left lx (left - e) ≡ 0
below_left lx ly dx dy left e order high_level =
    elim (cases_Bool (lx == 0)) [
      | inr high ↦ high_left lx (left - e) high
      | inl low ↦ elim (dec_le left 0) [
        | yes none ↦ none_left (lx == 0) (left - e) (omega (arith, none))
        | no some ↦ absurd (
            let a : 0 < left = omega (arith, some) in
            let h = order a in
            grind (arith, h, high_level, low))
      ]
    ]

-- what is left does not rise
left_less : (level left s1 s2 : ℕ) → s1 ≤ s2 → first_left level (left - s2) ≤ first_left level (left - s1)
left_less level left s1 s2 less = go (level == 0)
  where
    go : (b : Bool) → cond b (left - s2) 0 ≤ cond b (left - s1) 0
    go true = omega (arith, less)
    go false = omega arith

since_more : (t : ℕ) (o : Option ℕ) → since t o ≤ since (suc t) o
since_more t None = omega arith
since_more t (Some from) = omega arith

-- of one that has nothing left at the level 0, or is at another
level_of : (level n : ℕ) → 0 < first_left level n → (level == 0) ≡ true
level_of level n some = go (level == 0) refl some
  where
    go : (b : Bool) → (level == 0) ≡ b → 0 < cond b n 0 → (level == 0) ≡ true
    go true is some2 = is
    go false is some2 = absurd (omega (arith, some2))

some_of : (level n : ℕ) → 0 < first_left level n → 0 < n
some_of level n some = go (level == 0) some
  where
    go : (b : Bool) → 0 < cond b n 0 → 0 < n
    go true some2 = some2
    go false some2 = absurd (omega (arith, some2))

-- a unit that is not less urgent than another of the level 0
no_later : (lx ly dx dy : ℕ) → (nat_lt lx ly || (lx == ly && nat_lt dx dy)) ≡ false → (lx == 0) ≡ true → ((ly == 0) ≡ true) × (dy ≤ dx)
no_later lx ly dx dy order zero_level = (grind (arith, order, zero_level), grind (arith, order, zero_level))

module _ (fs : Watch) (t : ℕ) (due : Option Moment) (domains : List (Option (List RtdsUnit))) where
  abbrev asked : ℕ → ℕ → UnitId → RtdsUnit → ℕ
  asked n until u x = ask (fs.sleeps u) n until (job n x)

  module _ (base : Base fs t domains) where
    less : (x : RtdsUnit) → (job (suc t) x).left ≤ (job t x).left
    less x = left_less x.level x.left (since t x.burned) (since (suc t) x.burned) (since_more t x.burned)

    each_falls : (until : ℕ) (u : UnitId) (x : RtdsUnit) → rtds_unit_at domains u ≡ Some x → asked (suc t) until u x ≤ asked t until u x
    each_falls until u x at = go (fs.sleeps u)
      where
        go : (s : Bool) → ask s (suc t) until (job (suc t) x) ≤ ask s t until (job t x)
        go true = sleeper_falls until t (job t x) (job (suc t) x).left (base.fit u x at).some (less x)
        go false = waker_falls until (job t x) (job (suc t) x).left (less x)

    -- nothing is left of what ends by a moment and never sleeps
    static : (until : ℕ) → suc t ≤ until → ((u : UnitId) (x : RtdsUnit) → rtds_unit_at domains u ≡ Some x → fs.sleeps u ≡ false → t < x.deadline) → ((u : UnitId) (x : RtdsUnit) → rtds_unit_at domains u ≡ Some x → fs.sleeps u ≡ false → x.deadline ≤ until → (job (suc t) x).left ≡ 0)
        → asks fs (suc t) until domains ≤ rooms fs (until - suc t) domains
    static until on terms none = sum_le (asked (suc t) until) (λ u x. room_of (fs.sleeps u) (until - suc t) (job 0 x)) domains (λ u x at. go u x at (fs.sleeps u) refl)
      where
        go : (u : UnitId) (x : RtdsUnit) → rtds_unit_at domains u ≡ Some x → (s : Bool) → fs.sleeps u ≡ s → ask s (suc t) until (job (suc t) x) ≤ room_of s (until - suc t) (job 0 x)
        go u x at true is = sleeper_most until (suc t) (job (suc t) x) (base.fit u x at).some (let l = (base.fit u x at).full in let f = few x.level x.left (since (suc t) x.burned) in omega (arith, l, f)) on
          where
            few : (level left e : ℕ) → first_left level (left - e) ≤ left
            few level left e = by_cond (λ (n : ℕ). n ≤ left) (level == 0) (left - e) 0 (λ is2. omega arith) (λ is2. omega arith)
        go u x at false is = asked_none until (suc t) (job (suc t) x) (base.fit u x at).some (let l = terms u x at is in omega (arith, l)) (none u x at is)

  -- the core's own unit
  module _ (w : UnitId) (here : Tracks fs t (Some w) due domains) (calm : IsCalm fs t (Some w) due domains) where
    abbrev y : RtdsUnit
    y = (here.own w refl).unit

    order : (u : UnitId) (x : RtdsUnit) → rtds_unit_at domains u ≡ Some x → same_unit u w ≡ false → fs.sleeps u ≡ false → 0 < x.left → is_record_before x y ≡ false
    order u x at other wakes some = calm.first w u y x refl (here.own w refl).at at other wakes some

    is_own : (u : UnitId) (x : RtdsUnit) → rtds_unit_at domains u ≡ Some x → same_unit u w ≡ true → x ≡ y
    is_own u x at same =
        let e : u ≡ w = same_unit_same u w same in
        let both : Some x ≡ Some y = sym at ∙ subst (λ (k : UnitId). rtds_unit_at domains k ≡ Some y) (sym e) (here.own w refl).at in
        cc

    -- it is served
    gain : (until : ℕ) → (y.level == 0) ≡ true → y.deadline ≤ until → asks fs (suc t) until domains + 1 ≤ asks fs t until domains
    gain until low by =
        let o = here.own w refl in
        let r : Runs t due y = o.runs in
        let left_at : (k : ℕ) → (job k y).left ≡ first_left y.level (y.left - (k - r.from)) = λ k. ap (λ (o : Option ℕ). first_left y.level (y.left - since k o)) r.burned in
        let some : 0 < (job t y).left = subst (λ (n : ℕ). 0 < n) (sym (left_at t)) (some_left y.level y.left r.from t r.at.0 r.past (calm.later r.at r.is) r.low low) in
        let falls : (job (suc t) y).left ≡ (job t y).left - 1 = left_at (suc t) ∙ less_left y.level y.left r.from t r.past low ∙ sym (ap (λ (n : ℕ). n - 1) (left_at t)) in
        let is : (job t y).left ≡ suc (job (suc t) y).left = omega (arith, some, falls) in
        sum_gain (asked (suc t) until) (asked t until) 1 w domains y o.at (go until by is (fs.sleeps w)) (each_falls here.base until)
      where
        go : (until : ℕ) → y.deadline ≤ until → (job t y).left ≡ suc (job (suc t) y).left → (s : Bool) → ask s (suc t) until (job (suc t) y) + 1 ≤ ask s t until (job t y)
        go until by is true = sleeper_served until t (job t y) (job (suc t) y).left (here.base.fit w y (here.own w refl).at).some (calm.own_term w y refl (here.own w refl).at) by is
        go until by is false = waker_served until (job t y) (job (suc t) y).left by is

    -- and so it is where one that never sleeps has some of its budget left
    gain_for : (u : UnitId) (x : RtdsUnit) → rtds_unit_at domains u ≡ Some x → fs.sleeps u ≡ false → 0 < (job t x).left → (until : ℕ) → x.deadline ≤ until → asks fs (suc t) until domains + 1 ≤ asks fs t until domains
    gain_for u x at wakes some until by =
        let low : (x.level == 0) ≡ true = level_of x.level (x.left - since t x.burned) some in
        elim (cases_Bool (same_unit u w)) [
          | inl same ↦ (let e = is_own u x at same in gain until (subst (λ (z : RtdsUnit). (z.level == 0) ≡ true) e low) (subst (λ (z : RtdsUnit). z.deadline ≤ until) e by))
          | inr other ↦ (
              let left = some_of x.level (x.left - since t x.burned) some in
              let n = no_later x.level y.level x.deadline y.deadline (order u x at other wakes (omega (arith, left))) low in
              let d = n.1 in
              gain until n.0 (omega (arith, d, by)))
        ]

    own_step : (until : ℕ) → suc t ≤ until → (asks fs (suc t) until domains + 1 ≤ asks fs t until domains) ⊎ (asks fs (suc t) until domains ≤ rooms fs (until - suc t) domains)
    own_step until on =
        elim (cases_Bool (y.level == 0)) [
          | inr high ↦ inr (static here.base until on calm.terms (λ u x at wakes by. (
              elim (cases_Bool (same_unit u w)) [
                | inl same ↦ subst (λ (z : RtdsUnit). (job (suc t) z).left ≡ 0) (sym (is_own u x at same)) (high_left y.level (y.left - since (suc t) y.burned) high)
                | inr other ↦ below_left x.level y.level x.deadline y.deadline x.left (since (suc t) x.burned) (order u x at other wakes) high
              ])))
          | inl low ↦ elim (dec_le y.deadline until) [
            | yes by ↦ inl (gain until low by)
            | no beyond ↦ inr (static here.base until on calm.terms (λ u x at wakes by. (
                elim (cases_Bool (same_unit u w)) [
                  | inl same ↦ absurd (let e = ap (λ (z : RtdsUnit). z.deadline) (is_own u x at same) in omega (arith, e, by, beyond))
                  | inr other ↦ spent_left x.level y.level x.deadline y.deadline x.left (since (suc t) x.burned) (order u x at other wakes) low (omega (arith, by, beyond))
                ])))
          ]
        ]

  step : (cur : Option UnitId) → Tracks fs t cur due domains → IsCalm fs t cur due domains → (until : ℕ) → suc t ≤ until → (asks fs (suc t) until domains + 1 ≤ asks fs t until domains) ⊎ (asks fs (suc t) until domains ≤ rooms fs (until - suc t) domains)
  step None here calm until on = inr (static here.base until on calm.terms (λ u x at wakes by. none_left (x.level == 0) (x.left - since (suc t) x.burned) (let none = calm.idles refl u x at wakes in omega (arith, none))))
  step (Some w) here calm until on = own_step w here calm until on

  -- the unit that is followed has some of its budget left
  own_gain : (cur : Option UnitId) → Tracks fs t cur due domains → IsCalm fs t cur due domains → (x : RtdsUnit) → rtds_unit_at domains fs.unit ≡ Some x → 0 < (job t x).left → asks fs (suc t) x.deadline domains + 1 ≤ asks fs t x.deadline domains
  own_gain None here calm x at some = absurd (let none = calm.idles refl fs.unit x at fs.wakes in let left = some_of x.level (x.left - since t x.burned) some in omega (arith, none, left))
  own_gain (Some w) here calm x at some = gain_for w here calm fs.unit x at fs.wakes some x.deadline (omega arith)

  own_next : (cur : Option UnitId) → Tracks fs t cur due domains → IsCalm fs t cur due domains → (x : RtdsUnit) → rtds_unit_at domains fs.unit ≡ Some x → OwnFits fs (suc t) domains (job (suc t) x)
  own_next cur here calm x at =
      let o = here.base.own x at in
      let falls = less here.base x in
      record {
        period = o.period;
        fits = (elim o.fits [
          | inl none ↦ inl (omega (arith, none, falls))
          | inr time ↦ elim (dec_le (job t x).left 0) [
            | yes low ↦ inl (omega (arith, low, falls))
            | no some ↦ inr (let g = own_gain cur here calm x at (omega (arith, some)) in omega (arith, g, time))
          ]
        ]);
      }

  -- a nanosecond passes
  pub tick : (cur : Option UnitId) → Tracks fs t cur due domains → IsCalm fs t cur due domains → Tracks fs (suc t) cur due domains
  tick cur here calm = record {
    base = record {
      fit = λ u x at. (
          let k = here.base.fit u x at in
          record { period = k.period; budget = k.budget; some = k.some; full = k.full; on_time = λ wakes. (let low = calm.terms u x at wakes in omega (arith, low)) });
      room = here.base.room;
      later = λ until far. (
          let before = here.base.later until (omega (arith, far)) in
          elim (step cur here calm until (omega (arith, far))) [
            | inl less_now ↦ omega (arith, before, less_now)
            | inr most ↦ (let r = here.base.room (until - suc t) (omega (arith, far)) in omega (arith, most, r, far))
          ]);
      own = own_next cur here calm;
    };
    own = λ u is. (
        let o = here.own u is in
        let past = o.runs.past in
        record { unit = o.unit; at = o.at; runs = record { from = o.runs.from; burned = o.runs.burned; past = omega (arith, past); at = o.runs.at; is = o.runs.is; low = o.runs.low } });
    idle = here.idle;
  }
