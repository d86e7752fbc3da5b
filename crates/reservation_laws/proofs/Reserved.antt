-- Each unit of the pool is on the core for its whole budget in each of its terms.
use Rattle.std.proofs.Common.{◌≡◌, ◌≤◌, ◌+◌, ◌-◌, ℕ, Bool, false, List, [], ◌∷◌, refl, arith, cond, subst, sym, ◌∙◌, ap, inl, inr, true, ◌<◌}
use Rattle.std.specs.Prelude.{Option, Some, None, option_map, slice_get}
use Rattle.std.specs.List.{All, AllByRecursion}
use Rattle.std.proofs.lemmas.Bool.{cases_Bool}
use Rattle.std.proofs.lemmas.List.Elements.{All-from_recursion}
use Rattle.std.proofs.Math.Decide.{dec_le}
use Rattle.sched_base.specs.declared.UnitId.{UnitId}
use Rattle.sched_model.specs.declared.action.Action.TheVariants.{DomMoved}
use Rattle.sched_model.specs.declared.config.DomConfig.{DomConfig}
use Rattle.sched_model.specs.declared.event.Entry.{Entry}
use Rattle.sched_model.specs.declared.event.Event.{Event}
use Rattle.sched_model.specs.declared.event.Event.TheVariants as event
use Rattle.sched_model.specs.declared.machine.Machine.{Machine}
use Rattle.sched_model.specs.declared.state.Pool.{Pool}
use Rattle.sched_model.specs.declared.state.Records.{Records}
use Rattle.sched_model.specs.declared.state.RtdsUnit.{RtdsUnit}
use Rattle.sched_model.specs.declared.state.State.{State}
use Rattle.sched_model.specs.Actions.{configured_units, home_pool_of_domain}
use Rattle.sched_model.specs.CheckedMachine.{IsChecked}
use Rattle.sched_model.specs.EligibleUnits.{rtds_unit_at}
use Rattle.sched_model.specs.Opening.{opening}
use Rattle.sched_model.specs.Places.{at_place, same_unit}
use Rattle.sched_model.specs.Policy.{unit_rtds_record}
use Rattle.sched_model.specs.Runs.{Reached, IsNext, IsNextEvent, IsRun, IsRunFrom, after_entries, after_entry, event_action, run_start}
use Rattle.sched_laws.specs.StateLaws.{state_after}
use Rattle.sched_laws.proofs.Counts.{same_unit_refl}
use Rattle.term_laws.specs.Term.{Leg, Term, moves, time_on}
use Rattle.term_laws.specs.RtdsTerm.{RtdsTerm, legs, opened_by, opened_terms, rtds_in, term_end, terms}
use Rattle.term_laws.proofs.TermSums.{term_end-goes}
use Rattle.term_laws.proofs.Time.{time_goes_on}
use Rattle.term_laws.proofs.UnitTracks.{renews}
use Rattle.service_laws.specs.Demand.{Job, asked_by}
use Rattle.service_laws.proofs.Passing.{NextMomentLaw}
use Rattle.undisturbed_laws.specs.Undisturbed.{IsAtHome}
use Rattle.reservation_laws.specs.Reservations.{GetsBudget, reservation}
use Rattle.reservation_laws.specs.Sleepers.{HasRoom, IsCalmRtds, may_sleep}
use Rattle.reservation_laws.proofs.Asks.{ask, asked_in}
use Rattle.reservation_laws.proofs.Jobs.{first_left, job, since}
use Rattle.reservation_laws.proofs.UnitSums.{sum_gain}
use Rattle.reservation_laws.proofs.Follows.{Begins, begins, goes, home_from, of_pool}
use Rattle.reservation_laws.proofs.LegSums.{legs_step, open_legs}
use Rattle.reservation_laws.proofs.RunJobs.{Goes, IsReachedBy, faced, reached_more}
use Rattle.reservation_laws.proofs.StateJobs.{At}
use Rattle.reservation_laws.proofs.Tracks.{Base, Watch, face}

-- nothing is left of a term that is over
spent : (fs : Watch) (t : ℕ) (domains : List (Option (List RtdsUnit))) (j : Job) → Base fs t domains → face t domains fs.unit ≡ Some j → j.deadline ≤ t → j.left ≡ 0
spent fs t domains j base at over =
    let x = faced t domains fs.unit (rtds_unit_at domains fs.unit) j refl at in
    let o = base.own x.0 x.1 in
    let left : (job t x.0).left ≡ 0 = elim o.fits [
      | inl none ↦ none
      | inr time ↦ (
          let past : (job t x.0).deadline ≤ t = subst (λ (k : Job). k.deadline ≤ t) (sym x.2) over in
          let until : ℕ = (job t x.0).deadline in
          let one = sum_gain (λ u y. 0) (λ u y. ask (fs.sleeps u) t until (job t y)) (ask (fs.sleeps fs.unit) t until (job t x.0)) fs.unit domains x.0 x.1 (omega arith) (λ v y at_y. omega arith) in
          let own : ask (fs.sleeps fs.unit) t until (job t x.0) ≡ asked_by until (job t x.0) = ap (λ (s : Bool). ask s t until (job t x.0)) fs.wakes in
          let sum = asked_in until (job t x.0) (omega arith) in
          omega (arith, one, own, sum, time, past))
    ] in
    subst (λ (k : Job). k.left ≡ 0) x.2 left

none_if : {X : Type 0} (b : Bool) (x : X) → b ≡ false → cond b (Some x) None ≡ None
none_if b x is = ap (λ (c : Bool). cond c (Some x) None) is

-- an event that replenishes another unit, or none, opens no term
not_opened : (u : UnitId) (t : ℕ) (e : Event) (entries : List Entry) → renews u e ≡ false → opened_by u t e entries ≡ None
not_opened u t (event.Repl w start deadline budget extra) entries is = none_if (same_unit w u) _ is
not_opened u t e entries is = refl

terms_none : (u : UnitId) (entry : Entry) (entries : List Entry) → opened_by u entry.at.0 entry.event entries ≡ None → opened_terms u (entry ∷ entries) ≡ opened_terms u entries
terms_none u entry entries is = ap (λ (o : Option RtdsTerm). elim o as (λ _. List RtdsTerm) [ Some term ↦ term ∷ opened_terms u entries | None ↦ opened_terms u entries ]) is

terms_some : (u : UnitId) (term : RtdsTerm) (entry : Entry) (entries : List Entry) → opened_by u entry.at.0 entry.event entries ≡ Some term → opened_terms u (entry ∷ entries) ≡ term ∷ opened_terms u entries
terms_some u term entry entries is = ap (λ (o : Option RtdsTerm). elim o as (λ _. List RtdsTerm) [ Some x ↦ x ∷ opened_terms u entries | None ↦ opened_terms u entries ]) is

-- the terms of a unit that begins with this record
abbrev terms_by : UnitId → List Entry → Option RtdsUnit → List RtdsTerm
terms_by u entries o = elim o as (λ _. List RtdsTerm) [
  | None ↦ opened_terms u entries
  | Some x ↦ record { term = record { from = 0; until = term_end u.dom.0 x.period entries; budget = x.budget }; delay = 0; extra = x.extra } ∷ opened_terms u entries
]

module _ (m : Machine) (checked : IsChecked m) (law : NextMomentLaw m) (i : ℕ) (rtds : IsCalmRtds m i) (u : UnitId) (has : HasRoom m i u) where
  abbrev r : ℕ
  r = rtds.r

  -- the unit, and which others may sleep
  abbrev sleeps : UnitId → Bool
  sleeps v = elim (slice_get m.config.domains v.dom.0) as (λ _. Bool) [ None ↦ true | Some c ↦ may_sleep m.config.granularity c v.n ]

  sleeps_is : (v : UnitId) (c : DomConfig) → slice_get m.config.domains v.dom.0 ≡ Some c → sleeps v ≡ may_sleep m.config.granularity c v.n
  sleeps_is v c at = ap (λ (o : Option DomConfig). elim o as (λ _. Bool) [ None ↦ true | Some d ↦ may_sleep m.config.granularity d v.n ]) at

  pub wakes : sleeps u ≡ false
  wakes = sleeps_is u has.config has.there ∙ has.wakes

  abbrev fs : Watch
  fs = record { sleeps = sleeps; unit = u; period = (reservation has.config.params).1; wakes = wakes }

  period_is : (c : DomConfig) → slice_get m.config.domains u.dom.0 ≡ Some c → (reservation c.params).1 ≡ fs.period
  period_is c at = (let there = has.there in let same : c ≡ has.config = cc in ap (λ (d : DomConfig). (reservation d.params).1) same)

  starts : Begins m checked rtds.undisturbed law i r rtds.pool rtds.has.there rtds.has.core rtds.kind fs sleeps_is has.room period_is
  starts = begins m checked rtds.undisturbed law i r rtds.pool rtds.has.there rtds.has.core rtds.kind fs sleeps_is has.room period_is

  step : (f : Reached) → IsReachedBy m f → (e : Entry) → IsNext m f e → (a : At i r fs f.state) → Goes m i r fs u f.state a e.event (after_entry m f e).state
  step = goes m checked rtds.undisturbed law i r rtds.pool rtds.has.there rtds.has.core rtds.kind fs sleeps_is has.room period_is u wakes

  -- no domain moves
  no_move : (f : Reached) → IsReachedBy m f → (e : Event) → IsNextEvent m f.state e (event_action e) → (d : ℕ) → moves d e ≡ false
  no_move f by (event.DomMoved x to) ev d = absurd (of_pool m checked rtds.undisturbed law i r rtds.pool rtds.has.there rtds.has.core rtds.kind fs sleeps_is has.room period_is f by (DomMoved x) ev.0)
  no_move f by e ev d = refl

  pub ends_at : (entries : List Entry) (f : Reached) → IsReachedBy m f → IsRunFrom m f entries → (deadline : ℕ) → term_end u.dom.0 deadline entries ≡ deadline
  ends_at [] f by run deadline = refl
  ends_at (e ∷ entries) f by run deadline =
      term_end-goes u.dom.0 deadline e entries (no_move f by e.event run.0.event u.dom.0) ∙ ends_at entries (after_entry m f e) (reached_more m f e by run.0) run.1 deadline

  -- what is left to the unit it has before its term is over
  pub has_left : (entries : List Entry) (f : Reached) → IsReachedBy m f → IsRunFrom m f entries → (a : At i r fs f.state) (term : Term) (j : Job) → term.from ≤ f.state.now → face f.state.now a.domains u ≡ Some j → term.until ≡ j.deadline → term.until ≤ (after_entries m f entries).state.now
      → j.left ≤ time_on term (open_legs (after_entries m f entries).state r u a.core.cur f.state.now entries)
  has_left [] f by run a term j begun at ends over = (let none = spent fs f.state.now a.domains j a.tracks.base at (omega (arith, ends, over)) in omega (arith, none))
  has_left (e ∷ entries) f by run a term j begun at ends over =
      elim (dec_le j.deadline f.state.now) [
        | yes past ↦ (let none = spent fs f.state.now a.domains j a.tracks.base at past in omega (arith, none))
        | no later ↦ (
            let gs : Goes m i r fs u f.state a e.event (after_entry m f e).state = step f by e run.0 a in
            elim (cases_Bool (renews u e.event)) [
              | inl renewal ↦ absurd (let past = (gs.renewed renewal j at).over in omega (arith, past, later))
              | inr other ↦ (
                  let l = gs.left other j at in
                  let on : f.state.now ≤ (after_entry m f e).state.now = time_goes_on m f e run.0 in
                  let k : ℕ = (after_entry m f e).state.now - f.state.now in
                  let deadline = l.deadline in
                  let rest = has_left entries (after_entry m f e) (reached_more m f e by run.0) run.1 gs.new term l.job (omega (arith, begun, on)) l.is (omega (arith, ends, deadline)) over in
                  let within : (after_entry m f e).state.now ≤ term.until = elim l.in_time [ inl same ↦ omega (arith, same, later, ends) | inr in_time ↦ omega (arith, in_time, ends) ] in
                  let sum : f.state.now + k ≡ (after_entry m f e).state.now = omega (arith, on) in
                  let gained = legs_step m r u f e entries run a.core.cur gs.new.core.cur term k gs.stays gs.decides (inr (begun, within, sum)) in
                  let few = l.few in
                  omega (arith, rest, gained, few))
            ])
      ]

  module _ (all : List Leg) where
    -- the legs from here on are among all, where the term begins now or later
    abbrev pub Among : (f : Reached) → At i r fs f.state → State → List Entry → Type 0
    Among f a last entries = (term : Term) → f.state.now ≤ term.from → time_on term (open_legs last r u a.core.cur f.state.now entries) ≤ time_on term all

    among_next : (f : Reached) → IsReachedBy m f → (e : Entry) (entries : List Entry) (run : IsRunFrom m f (e ∷ entries)) (a : At i r fs f.state) → (gs : Goes m i r fs u f.state a e.event (after_entry m f e).state)
        → Among f a (after_entries m f (e ∷ entries)).state (e ∷ entries) → Among (after_entry m f e) gs.new (after_entries m f (e ∷ entries)).state entries
    among_next f by e entries run a gs among term later =
        let on : f.state.now ≤ (after_entry m f e).state.now = time_goes_on m f e run.0 in
        let gained = legs_step m r u f e entries run a.core.cur gs.new.core.cur term 0 gs.stays gs.decides (inl (later, refl)) in
        let whole = among term (omega (arith, later, on)) in
        omega (arith, gained, whole)

    pub terms_full : (entries : List Entry) (f : Reached) → IsReachedBy m f → IsRunFrom m f entries → (a : At i r fs f.state) (j : Job) → face f.state.now a.domains u ≡ Some j → Among f a (after_entries m f entries).state entries
        → AllByRecursion (GetsBudget (after_entries m f entries).state.now all) (opened_terms u entries)
    terms_full [] f by run a j at among = tt
    terms_full (e ∷ entries) f by run a j at among =
        let last : State = (after_entries m f (e ∷ entries)).state in
        let f2 : Reached = after_entry m f e in
        let by2 : IsReachedBy m f2 = reached_more m f e by run.0 in
        let gs : Goes m i r fs u f.state a e.event f2.state = step f by e run.0 a in
        let among2 : Among f2 gs.new last entries = among_next f by e entries run a gs among in
        elim (cases_Bool (renews u e.event)) [
          | inr other ↦ (
              let l = gs.left other j at in
              subst (AllByRecursion (GetsBudget last.now all)) (sym (terms_none u e entries (not_opened u e.at.0 e.event entries other)))
              (terms_full entries f2 by2 run.1 gs.new l.job l.is among2))
          | inl renewal ↦ (
              let n = gs.renewed renewal j at in
              let term : RtdsTerm = record { term = record { from = e.at.0; until = term_end u.dom.0 n.job.deadline entries; budget = n.job.budget }; delay = e.at.0 - n.start.0; extra = n.extra } in
              let opens : opened_by u e.at.0 e.event entries ≡ Some term = ap (λ (x : Event). opened_by u e.at.0 x entries) n.prints ∙ ap (λ b. cond b (Some term) None) (same_unit_refl u) in
              let at_is : e.at.0 ≡ f.state.now = run.0.moment in
              let same = n.same in
              let full = n.full in
              let until : term.term.until ≡ n.job.deadline = ends_at entries f2 by2 run.1 n.job.deadline in
              let gets : GetsBudget last.now all term = λ over. (
              let has = has_left entries f2 by2 run.1 gs.new term.term n.job (omega (arith, at_is, same)) n.is until over in
              let whole = among2 term.term (omega (arith, at_is, same)) in
              omega (arith, has, whole, full)) in
              subst (AllByRecursion (GetsBudget last.now all)) (sym (terms_some u term e entries opens)) (gets, terms_full entries f2 by2 run.1 gs.new n.job n.is among2))
        ]

    -- a unit without a record has no terms
    pub terms_never : (v : UnitId) → IsAtHome m i v.dom.0 → (entries : List Entry) (f : Reached) → IsReachedBy m f → IsRunFrom m f entries → (a : At i r fs f.state) → rtds_unit_at a.domains v ≡ None → (now : ℕ) → AllByRecursion (GetsBudget now all) (opened_terms v entries)
    terms_never v home [] f by run a none now = tt
    terms_never v home (e ∷ entries) f by run a none now =
        let gs : Goes m i r fs u f.state a e.event (after_entry m f e).state = step f by e run.0 a in
        let n = gs.none v home none in
        subst (AllByRecursion (GetsBudget now all)) (sym (terms_none v e entries (not_opened v e.at.0 e.event entries n.0))) (terms_never v home entries (after_entry m f e) (reached_more m f e by run.0) run.1 gs.new n.1 now)

  by_start : IsReachedBy m (run_start m)
  by_start = record { before = []; run = tt; leads = refl }

  home_is : (v : UnitId) → home_pool_of_domain (opening m) v.dom.0 ≡ Some i → IsAtHome m i v.dom.0
  home_is v is = home_from m checked rtds.undisturbed law i r rtds.pool rtds.has.there rtds.has.core rtds.kind fs sleeps_is has.room period_is v is

  record_is : (v : UnitId) → home_pool_of_domain (opening m) v.dom.0 ≡ Some i → rtds_in (opening m) v ≡ rtds_unit_at starts.at.domains v
  record_is v is =
      ap (λ (o : Option ℕ). elim o as (λ _. Option RtdsUnit) [ None ↦ None | Some k ↦ elim (at_place (opening m).pools k) [ None ↦ None | Some pool ↦ unit_rtds_record pool.scheduler.records v ] ]) is
      ∙ ap (λ (o : Option Pool). elim o as (λ _. Option RtdsUnit) [ None ↦ None | Some pool ↦ unit_rtds_record pool.scheduler.records v ]) starts.at.at ∙ ap (λ (x : Records). unit_rtds_record x v) starts.at.records

  -- a unit with a record is one of its domain
  pub is_low : (v : UnitId) → home_pool_of_domain (opening m) v.dom.0 ≡ Some i → (x : RtdsUnit) → rtds_in (opening m) v ≡ Some x → (c : DomConfig) → slice_get m.config.domains v.dom.0 ≡ Some c → v.n < configured_units m.config.granularity c
  is_low v is x at c there = starts.low v x (sym (record_is v is) ∙ at) c there

  module _ (entries : List Entry) (run : IsRun m entries) where
    abbrev s : State
    s = state_after m entries

    -- a unit of the pool without a record has no term
    pub gets_none : (v : UnitId) → home_pool_of_domain (opening m) v.dom.0 ≡ Some i → rtds_in (opening m) v ≡ None → AllByRecursion (GetsBudget s.now (legs s v entries)) (terms m v entries)
    gets_none v is none =
        subst (λ (o : Option RtdsUnit). AllByRecursion (GetsBudget s.now (legs s v entries)) (terms_by v entries o)) (sym none)
        (terms_never (legs s v entries) v (home_is v is) entries (run_start m) by_start run starts.at (sym (record_is v is) ∙ none) s.now)

    -- the core has no unit at the opening
    legs_are : (cur : Option UnitId) → cur ≡ None → open_legs s r u cur 0 entries ≡ legs s u entries
    legs_are cur none = ap (λ (o : Option UnitId). open_legs s r u o 0 entries) none

    gets_some : (x : RtdsUnit) → home_pool_of_domain (opening m) u.dom.0 ≡ Some i → rtds_unit_at starts.at.domains u ≡ Some x → AllByRecursion (GetsBudget s.now (legs s u entries)) (terms m u entries)
    gets_some x is at =
        let a : At i r fs (opening m) = starts.at in
        let fresh = starts.fresh u x at in
        let term : Term = record { from = 0; until = term_end u.dom.0 x.period entries; budget = x.budget } in
        let seen : face 0 a.domains u ≡ Some (job 0 x) = ap (option_map (job 0)) at in
        let same = legs_are a.core.cur starts.nobody in
        let until : term.until ≡ x.deadline = ends_at entries (run_start m) by_start run x.period ∙ sym fresh.deadline in
        let low : first_left x.level (x.left - since 0 x.burned) ≡ x.left - since 0 x.burned = ap (λ (n : ℕ). first_left n (x.left - since 0 x.burned)) fresh.level in
        let none : since 0 x.burned ≡ 0 = ap (since 0) fresh.burned in
        let left = fresh.left in
        let first : term.until ≤ s.now → x.budget ≤ time_on term (legs s u entries) = λ over. (
        let got = has_left entries (run_start m) by_start run a term (job 0 x) (omega arith) seen until over in
        let on : time_on term (open_legs s r u a.core.cur 0 entries) ≡ time_on term (legs s u entries) = ap (time_on term) same in
        omega (arith, got, on, low, none, left)) in
        subst (λ (o : Option RtdsUnit). AllByRecursion (GetsBudget s.now (legs s u entries)) (terms_by u entries o)) (sym (record_is u is ∙ at))
        (first, terms_full (legs s u entries) entries (run_start m) by_start run a (job 0 x) seen (λ any later. (let e : time_on any (open_legs s r u a.core.cur 0 entries) ≡ time_on any (legs s u entries) = ap (time_on any) same in omega (arith, e))))

    -- the law
    pub gets_budget : home_pool_of_domain (opening m) u.dom.0 ≡ Some i → All (GetsBudget s.now (legs s u entries)) (terms m u entries)
    gets_budget is = All-from_recursion (GetsBudget s.now (legs s u entries)) (terms m u entries) (go (rtds_unit_at starts.at.domains u) refl)
      where
        go : (o : Option RtdsUnit) → rtds_unit_at starts.at.domains u ≡ o → AllByRecursion (GetsBudget s.now (legs s u entries)) (terms m u entries)
        go None at = gets_none u is (record_is u is ∙ at)
        go (Some x) at = gets_some x is at
