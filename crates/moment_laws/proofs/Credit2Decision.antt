-- A decision in a Credit2 pool that resets nothing and ends no leg of an earlier moment: credits stay, and the core's own unit is lost to a better one alone.
use Rattle.std.proofs.Common.{◌≡◌, ◌≢◌, ◌≤◌, ◌<◌, ◌+◌, ◌-◌, ℕ, Bool, true, false, not, List, [], refl, arith, ap, cond, subst, sym, ◌∙◌, ◌⊎◌, inl, inr, length}
use Rattle.std.specs.Prelude.{Option, Some, None, is_some, ℤ, pos, int_lt, ◌+ℤ◌, ◌-ℤ◌, slice_get, option_map, ◌&&◌, ◌||◌, ◌==◌}
use Rattle.std.specs.List.{list_any}
use Rattle.std.proofs.Math.Decide.{ℕ_discrete}
use Rattle.std.proofs.lemmas.Bool.{false_from_ne_true, cases_Bool, or_cases, and_from}
use Rattle.sched_base.specs.Numbers.{domain as domain_number}
use Rattle.sched_base.specs.Credit2Numbers.{cap_budget, budget_quota, taken_budget, burned_credit}
use Rattle.sched_base.specs.declared.UnitId.{UnitId}
use Rattle.sched_base.specs.declared.Cores.{Cores}
use Rattle.sched_model.specs.declared.machine.Machine.{Machine}
use Rattle.sched_model.specs.declared.state.Pool.{Pool}
use Rattle.sched_model.specs.declared.state.Domain.{Domain}
use Rattle.sched_model.specs.declared.state.Resource.{Resource}
use Rattle.sched_model.specs.declared.state.Credit2Records.{Credit2Records}
use Rattle.sched_model.specs.declared.state.Credit2Domain.{Credit2Domain}
use Rattle.sched_model.specs.declared.state.Credit2Unit.{Credit2Unit}
use Rattle.sched_model.specs.declared.state.Scheduler.{Scheduler}
use Rattle.sched_model.specs.declared.state.Records.{Records}
use Rattle.sched_model.specs.declared.state.Records.TheVariants.{Credit2Pool}
use Rattle.sched_model.specs.declared.ask.Ask.{Ask}
use Rattle.sched_model.specs.Places.{at_place, change_at, change_item, has_listed_unit}
use Rattle.sched_model.specs.State.{may_unit_run}
use Rattle.sched_model.specs.EligibleUnits.{is_unit_allowed, is_unit_eligible, may_have_core, eligible_units as eligible, has_cap_budget}
use Rattle.sched_model.specs.Credit2 as credit2
use Rattle.sched_model.specs.Credit2.{burned_unit, change_unit, change_domain, domain_after_return, domain_after_take, unit_credit, has_domain_budget, is_rate_limited, richest_unit, most_weight}
use Rattle.sched_model.specs.Policy.{is_unit_better, has_better_waiting}
use Rattle.sched_model.specs.Pool.{pool_core_set, core_ask}
use Rattle.sched_base.proofs.Bools.{and_left, and_right, clash}
use Rattle.sched_laws.proofs.Choices.{at_unit}
use Rattle.sched_laws.proofs.EachPlace.{by_option, by_cond}
use Rattle.sched_laws.proofs.Lists.{slice_get-change_item}
use Rattle.record_laws.proofs.Best.{is_best, none_best}
use Rattle.record_laws.proofs.Orders.{credit_order, greatest_scan}
use Rattle.moment_laws.specs.Stretches.{units}
use Rattle.moment_laws.specs.Turns.{is_funded, ahead}
use Rattle.moment_laws.specs.GoodDecisions.{DecidesWell, StirsNone, Secure, SecureThen, decision, next, Standing}
use Rattle.moment_laws.proofs.Changed.{at_place-change_at, at_place-change_at_other}
use Rattle.moment_laws.proofs.Waiting.{any_after, any_has, less_waits, filter_has, has_filter}
use Rattle.moment_laws.specs.Credit2Turns.{face, faces, IsStill, HasUnit}
use Rattle.moment_laws.proofs.Credit2Faces.{credit_at, credit_is, above, ahead_is, credits_change, faces_change, face_units, same_most, fewer_above, some_behind, above_most, face_of_unit}
use Rattle.moment_laws.proofs.Credit2Steps.{change_item_same, change_at_same, Has, has_change, burn_same, burn_credit, credit_then, credit_kept, gives, funded_gives, funded_takes, takes_funded, funded_runs, gives_budget, again_no_more, takes_less, LeavesOthers, gives_leaves, takes_leaves, runs_leaves}
use Rattle.moment_laws.specs.Turns as turns

-- two units of one domain differ in their index
pub other_index : (u w : UnitId) → (u ≡ w → ⊥) → u.dom.0 ≡ w.dom.0 → u.n ≢ w.n
other_index u w other same index =
    let a : ◌≡◌ {A = UnitId} u (record { dom = w.dom; n = u.n }) = ap (λ (k : ℕ). record { dom = domain_number k; n = u.n }) same in
    let b : ◌≡◌ {A = UnitId} (record { dom = w.dom; n = u.n }) w = ap (λ (k : ℕ). record { dom = w.dom; n = k }) index in
    other (a ∙ b)

-- a unit that goes on, or goes off
abbrev running : Option ℕ → ℕ → Credit2Domain → Credit2Domain
running from n d = record d { units = change_item n (λ (x : Credit2Unit). record x { burned = from }) d.units }

module _ (m : Machine) (t : ℕ) (queue : List UnitId) (affinity : List (Option (List Cores))) (records : Credit2Records) (domains : List (Option Domain)) (resources : List (Option Resource)) (r : ℕ) (c : Resource) where
  abbrev scheduler : Scheduler
  scheduler = record { queue = queue; affinity = affinity; records = Credit2Pool records }

  abbrev pool : Pool
  pool = record { scheduler = scheduler; domains = domains; resources = resources }

  abbrev home : ℕ
  home = pool_core_set pool

  abbrev ask : Ask
  ask = core_ask m.config.granularity t pool r c

  abbrev runs : UnitId → Bool
  runs u = may_unit_run m.config.granularity pool u

  abbrev burned : Credit2Records
  burned = credit2.own_burned_records c.cur t records

  abbrev chosen : Option UnitId
  chosen = credit2.credit2_choice ask scheduler burned

  abbrev own : Option UnitId
  own = credit2.credit2_candidate ask scheduler burned

  abbrev waiting : List UnitId
  waiting = eligible (record scheduler { records = Credit2Pool burned }) home r t

  abbrev within : Bool
  within = is_some own && is_rate_limited burned c.since.0 t

  -- the records after the core's own unit gave back, after the chosen one took, and after the decision
  abbrev given : Option UnitId → Credit2Records
  given cur = elim cur as (λ _. Credit2Records) [ None ↦ records | Some u ↦ change_domain u.dom.0 (gives u.n) records ]

  abbrev then : Option UnitId → Credit2Records
  then choice = elim choice as (λ _. Credit2Records) [ None ↦ credit2.off_records c.cur (given c.cur) | Some w ↦ credit2.running_records (Some t) w (credit2.off_records c.cur (change_domain w.dom.0 (domain_after_take w.n) (given c.cur))) ]

  -- the same, of a core with this unit
  abbrev then_of : Option UnitId → Option UnitId → Credit2Records
  then_of cur choice = elim choice as (λ _. Credit2Records) [ None ↦ credit2.off_records cur (given cur) | Some w ↦ credit2.running_records (Some t) w (credit2.off_records cur (change_domain w.dom.0 (domain_after_take w.n) (given cur))) ]

  module _ (standing : Standing m pool r c) (still : IsStill m t pool records r c) where
    -- charging the core's own unit changes nothing
    burned_is : burned ≡ given c.cur
    burned_is = by_cur c.cur refl
      where
        by_cur : (cur : Option UnitId) → c.cur ≡ cur → credit2.own_burned_records cur t records ≡ given cur
        by_cur None is = refl
        by_cur (Some u) is =
            ap (λ (rs : Credit2Records). change_domain u.dom.0 (gives u.n) rs)
            (ap (λ (ds : List (Option Credit2Domain)). record records { domains = ds })
            (change_at_same u.dom.0 (λ d. record d { units = change_item u.n (burned_unit (most_weight records) t d) d.units }) records.domains
            (λ d at. ap (λ (xs : List Credit2Unit). record d { units = xs }) (change_item_same u.n (burned_unit (most_weight records) t d) d.units (λ x get. (let f = still.fresh u d x is at get in burn_same (most_weight records) t d x f.burned f.residual))))))

    decide_unit : (choice : Option UnitId) → (credit2.credit2_decision_for ask scheduler burned choice).unit ≡ choice
    decide_unit None = refl
    decide_unit (Some u) = refl

    unit_next : (decision m t pool r c).unit ≡ chosen
    unit_next = decide_unit chosen

    decide_records : (choice : Option UnitId) → (credit2.credit2_decision_for ask scheduler burned choice).reset ≡ 0 → (credit2.credit2_decision_for ask scheduler burned choice).records ≡ Credit2Pool (then choice)
    decide_records None none = ap (λ (b : Credit2Records). Credit2Pool (credit2.off_records c.cur b)) burned_is
    decide_records (Some w) none =
        ap (λ k. Credit2Pool (credit2.running_records (Some t) w (credit2.off_records c.cur (change_domain w.dom.0 (domain_after_take w.n) (credit2.reset_records t k burned))))) none
        ∙ ap (λ (b : Credit2Records). Credit2Pool (credit2.running_records (Some t) w (credit2.off_records c.cur (change_domain w.dom.0 (domain_after_take w.n) b)))) burned_is

    records_next : (next m t pool r c).records ≡ Credit2Pool (then chosen)
    records_next = decide_records chosen still.no_reset

    -- faces stay
    face_gives : (n : ℕ) (d : Credit2Domain) → face (gives n d) ≡ face d
    face_gives n d =
        by_cond (λ (y : Credit2Domain). face y ≡ face d) (d.cap == 0) d (domain_after_return n d) (λ is. refl)
        (λ is. by_option (λ (y : Credit2Domain). face y ≡ face d) (slice_get d.units n) d (λ u. record d { budget = d.budget +ℤ u.held; units = change_item n (λ x. record x { held = pos 0 }) d.units })
        (λ none. refl) (λ u some. face_units d (change_item n (λ x. record x { held = pos 0 }) d.units) (credits_change n (λ x. record x { held = pos 0 }) d.units (λ x. refl))))

    face_takes : (n : ℕ) (d : Credit2Domain) → face (domain_after_take n d) ≡ face d
    face_takes n d =
        let taken : ℤ = taken_budget d.budget (budget_quota (cap_budget d.cap) (length d.units)) in
        by_cond (λ (y : Credit2Domain). face y ≡ face d) (d.cap == 0) d (record d { budget = d.budget -ℤ taken; units = change_item n (λ x. record x { held = taken }) d.units }) (λ is. refl)
        (λ is. face_units d (change_item n (λ x. record x { held = taken }) d.units) (credits_change n (λ x. record x { held = taken }) d.units (λ x. refl)))

    face_runs : (from : Option ℕ) (n : ℕ) (d : Credit2Domain) → face (running from n d) ≡ face d
    face_runs from n d = face_units d (change_item n (λ x. record x { burned = from }) d.units) (credits_change n (λ x. record x { burned = from }) d.units (λ x. refl))

    faces_given : (cur : Option UnitId) → faces (given cur).domains ≡ faces records.domains
    faces_given None = refl
    faces_given (Some u) = faces_change u.dom.0 (gives u.n) records.domains (face_gives u.n)

    faces_off : (cur : Option UnitId) (rs : Credit2Records) → faces (credit2.off_records cur rs).domains ≡ faces rs.domains
    faces_off None rs = refl
    faces_off (Some u) rs = faces_change u.dom.0 (running None u.n) rs.domains (face_runs None u.n)

    faces_then : (choice : Option UnitId) → faces (then choice).domains ≡ faces records.domains
    faces_then None = faces_off c.cur (given c.cur) ∙ faces_given c.cur
    faces_then (Some w) =
        faces_change w.dom.0 (running (Some t) w.n) (credit2.off_records c.cur (change_domain w.dom.0 (domain_after_take w.n) (given c.cur))).domains (face_runs (Some t) w.n)
        ∙ faces_off c.cur (change_domain w.dom.0 (domain_after_take w.n) (given c.cur)) ∙ faces_change w.dom.0 (domain_after_take w.n) (given c.cur).domains (face_takes w.n) ∙ faces_given c.cur

    limit_given : (cur : Option UnitId) → (given cur).limit ≡ records.limit
    limit_given None = refl
    limit_given (Some u) = refl

    limit_off : (cur : Option UnitId) (rs : Credit2Records) → (credit2.off_records cur rs).limit ≡ rs.limit
    limit_off None rs = refl
    limit_off (Some u) rs = refl

    limit_then : (choice : Option UnitId) → (then choice).limit ≡ records.limit
    limit_then None = limit_off c.cur (given c.cur) ∙ limit_given c.cur
    limit_then (Some w) = limit_off c.cur (change_domain w.dom.0 (domain_after_take w.n) (given c.cur)) ∙ limit_given c.cur

    credit_same : (a b : Credit2Records) → faces a.domains ≡ faces b.domains → (u : UnitId) → unit_credit a u ≡ unit_credit b u
    credit_same a b same u = credit_is a u ∙ ap (λ fs. credit_at fs u) same ∙ sym (credit_is b u)

    faces_burned : faces burned.domains ≡ faces records.domains
    faces_burned = ap (λ (b : Credit2Records). faces b.domains) burned_is ∙ faces_given c.cur

    ahead_next : (u : UnitId) → ahead (next m t pool r c).records u ≡ ahead (Credit2Pool records) u
    ahead_next u = ap (λ (y : Records). ahead y u) records_next ∙ ahead_is (then chosen) u ∙ ap (λ fs. above (credit_at fs u) fs) (faces_then chosen) ∙ sym (ahead_is records u)

    within_same : (since : ℕ) (rs : Credit2Records) → rs.limit ≡ records.limit → is_rate_limited rs since t ≡ is_rate_limited records since t
    within_same since rs same = ap (λ l. credit2.is_rate_limited (record records { limit = l }) since t) same

    -- the choice, and the units that may be chosen
    chosen_is : c.leaving ≡ false → chosen ≡ cond within own (richest_unit burned own waiting)
    chosen_is stays = ap (λ b. cond b None (cond within own (richest_unit burned own waiting))) stays

    record May (w : UnitId) : Type 0 where
      pub runs : may_unit_run m.config.granularity pool w ≡ true
      pub allowed : is_unit_allowed scheduler home r w ≡ true
      pub budget : has_domain_budget burned w ≡ true
      pub has : HasUnit records w
      pub one : 1 ≤ units m
      pub from : (c.cur ≡ Some w) ⊎ (has_listed_unit queue w ≡ true)

    own_may : (w : UnitId) → own ≡ Some w → May w
    own_may w is = by_cur c.cur refl is
      where
        by_cur : (cur : Option UnitId) → c.cur ≡ cur → elim cur as (λ _. Option UnitId) [ None ↦ None | Some u ↦ cond (ask.runnable && is_unit_allowed scheduler home r u && has_domain_budget burned u) (Some u) None ] ≡ Some w → May w
        by_cur None cur e = absurd (cc)
        by_cur (Some u) cur e =
            elim (ask.runnable && is_unit_allowed scheduler home r u && has_domain_budget burned u) as (λ b. (ask.runnable && is_unit_allowed scheduler home r u && has_domain_budget burned u) ≡ b → cond b (Some u) None ≡ Some w → May w) [
              | true ↦ λ all h. (
                  let same : u ≡ w = cc in
                  let two = and_left (ask.runnable && is_unit_allowed scheduler home r u) _ all in
                  subst May same (record {
                    runs = sym (ap (λ (o : Option UnitId). elim o as (λ _. Bool) [ None ↦ false | Some x ↦ may_unit_run m.config.granularity pool x ]) cur) ∙ and_left ask.runnable _ two;
                    allowed = and_right ask.runnable _ two;
                    budget = and_right (ask.runnable && is_unit_allowed scheduler home r u) _ all;
                    has = still.own_has u cur;
                    one = (standing.own u cur).1;
                    from = inl cur;
                  }))
              | false ↦ λ none h. absurd (cc)
            ] refl e

    waiting_may : (w : UnitId) → has_listed_unit waiting w ≡ true → May w
    waiting_may w has =
        let h = has_filter (is_unit_eligible (record scheduler { records = Credit2Pool burned }) home r t) queue w has in
        record {
          runs = at_unit (λ u. runs u ≡ true) w queue h.0 standing.waits;
          allowed = and_left (is_unit_allowed scheduler home r w) _ h.1;
          budget = and_right (is_unit_allowed scheduler home r w) _ h.1;
          has = still.waiting_has w h.0;
          one = standing.counted w h.0;
          from = inr h.0;
        }

    chosen_may : (w : UnitId) → chosen ≡ Some w → May w
    chosen_may w is = elim (cases_Bool c.leaving) [
      | inl goes ↦ absurd (let e : None ≡ Some w = sym (ap (λ b. cond b None (cond within own (richest_unit burned own waiting))) goes) ∙ is in cc)
      | inr stays ↦ by_within within (sym (chosen_is stays) ∙ is)
    ]
      where
        by_within : (b : Bool) → cond b own (richest_unit burned own waiting) ≡ Some w → May w
        by_within true e = own_may w e
        by_within false e = elim (is_best (credit_order burned) (greatest_scan burned) own waiting w e).source [ inl o ↦ own_may w o | inr has ↦ waiting_may w has ]

    -- what is funded stays so while units go off and on
    off_has : (cur : Option UnitId) (rs : Credit2Records) (d n : ℕ) → Has (λ (x : Credit2Domain). is_funded x n ≡ true) rs.domains d → Has (λ (x : Credit2Domain). is_funded x n ≡ true) (credit2.off_records cur rs).domains d
    off_has None rs d n has = has
    off_has (Some u) rs d n has = has_change _ (λ (x : Credit2Domain). is_funded x n ≡ true) d u.dom.0 (running None u.n) rs.domains has (λ same x at f. funded_runs u.n n None x ∙ f) (λ ne x f. f)

    on_has : (w : UnitId) (rs : Credit2Records) (d n : ℕ) → Has (λ (x : Credit2Domain). is_funded x n ≡ true) rs.domains d → Has (λ (x : Credit2Domain). is_funded x n ≡ true) (credit2.running_records (Some t) w rs).domains d
    on_has w rs d n has = has_change _ (λ (x : Credit2Domain). is_funded x n ≡ true) d w.dom.0 (running (Some t) w.n) rs.domains has (λ same x at f. funded_runs w.n n (Some t) x ∙ f) (λ ne x f. f)

    funded_keeps : (rs : Credit2Records) (u : UnitId) → Has (λ (x : Credit2Domain). is_funded x u.n ≡ true) rs.domains u.dom.0 → elim (at_place rs.domains u.dom.0) as (λ _. Bool) [ None ↦ false | Some d ↦ is_funded d u.n ] ≡ true
    funded_keeps rs u has = ap (λ (o : Option Credit2Domain). elim o as (λ _. Bool) [ None ↦ false | Some d ↦ is_funded d u.n ]) has.at ∙ has.fact

    keeps_funded : (rs : Credit2Records) (u : UnitId) → elim (at_place rs.domains u.dom.0) as (λ _. Bool) [ None ↦ false | Some d ↦ is_funded d u.n ] ≡ true → Has (λ (x : Credit2Domain). is_funded x u.n ≡ true) rs.domains u.dom.0
    keeps_funded rs u is = by_option (λ (b : Bool). b ≡ true → Has (λ (x : Credit2Domain). is_funded x u.n ≡ true) rs.domains u.dom.0) (at_place rs.domains u.dom.0) false (λ d. is_funded d u.n) (λ none e. absurd (cc)) (λ d at e. record { domain = d; at = at; fact = e }) is

    budget_at : (w : UnitId) (d : Credit2Domain) → has_domain_budget burned w ≡ true → at_place (given c.cur).domains w.dom.0 ≡ Some d → has_cap_budget d ≡ true
    budget_at w d has at = sym (ap (λ (b : Credit2Records). has_domain_budget b w) burned_is ∙ ap (λ (o : Option Credit2Domain). elim o as (λ _. Bool) [ None ↦ false | Some x ↦ has_cap_budget x ]) at) ∙ has

    secure_then : (k : ℕ) (u : UnitId) → runs u ≡ true → is_unit_allowed scheduler home k u ≡ true → Has (λ (x : Credit2Domain). is_funded x u.n ≡ true) (then chosen).domains u.dom.0 → SecureThen m t pool r c k u
    secure_then k u run allowed has = and_from (runs u && is_unit_allowed scheduler home k u) _ (and_from (runs u) _ run allowed) (ap (λ (y : Records). turns.keeps y (next m t pool r c) home k t u) records_next ∙ funded_keeps (then chosen) u has)

    there_gives : (i n : ℕ) (d : Credit2Domain) → is_some (slice_get d.units n) ≡ true → is_some (slice_get (gives i d).units n) ≡ true
    there_gives i n d there =
        let l = gives_leaves i d in
        elim (ℕ_discrete n i) [
          | yes e ↦ by_option (λ (b : Bool). b ≡ true → is_some (slice_get (gives i d).units n) ≡ true) (slice_get d.units n) false (λ x. true) (λ none no. absurd (cc))
              (λ x at h. (let o = l.own x (subst (λ k. slice_get d.units k ≡ Some x) e at) in ap is_some (ap (λ k. slice_get (gives i d).units k) e ∙ o.1))) (some_is (slice_get d.units n) there)
          | no other ↦ ap is_some (l.units n other) ∙ there
        ]
      where
        some_is : (o : Option Credit2Unit) → is_some o ≡ true → elim o as (λ _. Bool) [ None ↦ false | Some x ↦ true ] ≡ true
        some_is None e = absurd (cc)
        some_is (Some x) e = refl

    -- the chosen unit is funded
    chosen_funded : (w : UnitId) → chosen ≡ Some w → May w → Has (λ (x : Credit2Domain). is_funded x w.n ≡ true) (then chosen).domains w.dom.0
    chosen_funded w is may =
        let there : Has (λ (x : Credit2Domain). is_some (slice_get x.units w.n) ≡ true) records.domains w.dom.0 = record { domain = may.has.domain; at = may.has.at; fact = ap is_some may.has.get } in
        let got : Has (λ (x : Credit2Domain). is_some (slice_get x.units w.n) ≡ true) (given c.cur).domains w.dom.0 = by_cur c.cur there in
        let funded : Has (λ (x : Credit2Domain). is_funded x w.n ≡ true) (change_at w.dom.0 (domain_after_take w.n) (given c.cur).domains) w.dom.0 =
        has_change (λ (x : Credit2Domain). is_some (slice_get x.units w.n) ≡ true) (λ (x : Credit2Domain). is_funded x w.n ≡ true) w.dom.0 w.dom.0 (domain_after_take w.n) (given c.cur).domains got (λ same x at f. takes_funded w.n x (budget_at w x may.budget at) f) (λ ne x f. absurd (ne refl)) in
        subst (λ (o : Option UnitId). Has (λ (x : Credit2Domain). is_funded x w.n ≡ true) (then o).domains w.dom.0) (sym is) (on_has w (credit2.off_records c.cur (change_domain w.dom.0 (domain_after_take w.n) (given c.cur))) w.dom.0 w.n (off_has c.cur (change_domain w.dom.0 (domain_after_take w.n) (given c.cur)) w.dom.0 w.n funded))
      where
        by_cur : (cur : Option UnitId) → Has (λ (x : Credit2Domain). is_some (slice_get x.units w.n) ≡ true) records.domains w.dom.0 → Has (λ (x : Credit2Domain). is_some (slice_get x.units w.n) ≡ true) (given cur).domains w.dom.0
        by_cur None has = has
        by_cur (Some u) has = has_change _ (λ (x : Credit2Domain). is_some (slice_get x.units w.n) ≡ true) w.dom.0 u.dom.0 (gives u.n) records.domains has (λ same x at f. there_gives u.n w.n x f) (λ ne x f. f)

    -- another core's own unit is none of those that give or take
    apart_own : (k : ℕ) (x : Resource) (u v : UnitId) → k ≢ r → at_place resources k ≡ Some x → x.cur ≡ Some u → c.cur ≡ Some v → u ≡ v → ⊥
    apart_own k x u v other at cur own same = (standing.others k x u other at cur).1 (own ∙ ap (λ y. Some y) (sym same))

    apart_chosen : (k : ℕ) (x : Resource) (u w : UnitId) → k ≢ r → at_place resources k ≡ Some x → x.cur ≡ Some u → May w → u ≡ w → ⊥
    apart_chosen k x u w other at cur may same = elim may.from [
      | inl own ↦ apart_own k x u w other at cur own same
      | inr waits ↦ clash (has_listed_unit queue w) waits (subst (λ y. has_listed_unit queue y ≡ false) same (standing.others k x u other at cur).0)
    ]

    other_funded : (k : ℕ) (x : Resource) (u : UnitId) → k ≢ r → at_place resources k ≡ Some x → x.cur ≡ Some u → Has (λ (y : Credit2Domain). is_funded y u.n ≡ true) records.domains u.dom.0 → Has (λ (y : Credit2Domain). is_funded y u.n ≡ true) (then chosen).domains u.dom.0
    other_funded k x u other at cur has = by_choice chosen refl
      where
        got : (o : Option UnitId) → c.cur ≡ o → Has (λ (y : Credit2Domain). is_funded y u.n ≡ true) (given o).domains u.dom.0
        got None is = has
        got (Some v) is = has_change (λ (y : Credit2Domain). is_funded y u.n ≡ true) (λ (y : Credit2Domain). is_funded y u.n ≡ true) u.dom.0 v.dom.0 (gives v.n) records.domains has
            (λ same d at_d f. funded_gives v.n u.n d (other_index u v (apart_own k x u v other at cur is) same) (λ y get. (still.fresh v d y is at_d get).held) f) (λ ne y f. f)

        by_choice : (o : Option UnitId) → chosen ≡ o → Has (λ (y : Credit2Domain). is_funded y u.n ≡ true) (then o).domains u.dom.0
        by_choice None is = off_has c.cur (given c.cur) u.dom.0 u.n (got c.cur refl)
        by_choice (Some w) is =
            let may = chosen_may w is in
            let taken : Has (λ (y : Credit2Domain). is_funded y u.n ≡ true) (change_domain w.dom.0 (domain_after_take w.n) (given c.cur)).domains u.dom.0 =
            has_change (λ (y : Credit2Domain). is_funded y u.n ≡ true) (λ (y : Credit2Domain). is_funded y u.n ≡ true) u.dom.0 w.dom.0 (domain_after_take w.n) (given c.cur).domains (got c.cur refl)
            (λ same d at_d f. funded_takes w.n u.n d (other_index u w (apart_chosen k x u w other at cur may) same) (budget_at w d may.budget at_d) f) (λ ne y f. f) in
            on_has w (credit2.off_records c.cur (change_domain w.dom.0 (domain_after_take w.n) (given c.cur))) u.dom.0 u.n (off_has c.cur (change_domain w.dom.0 (domain_after_take w.n) (given c.cur)) u.dom.0 u.n taken)

    -- another core's own unit has the same weight and record
    abbrev SameUnit : (u : UnitId) → HasUnit records u → Credit2Domain → Type 0
    SameUnit u h y = (y.weight ≡ h.domain.weight) × (slice_get y.units u.n ≡ Some h.record_of)

    other_same : (k : ℕ) (x : Resource) (u : UnitId) (h : HasUnit records u) → k ≢ r → at_place resources k ≡ Some x → x.cur ≡ Some u → Has (SameUnit u h) (then chosen).domains u.dom.0
    other_same k x u h other at cur = by_choice chosen refl
      where
        leaves : (i : ℕ) (a b : Credit2Domain) → LeavesOthers i a b → u.n ≢ i → SameUnit u h a → SameUnit u h b
        leaves i a b l ne f = (l.weight ∙ f.0, l.units u.n ne ∙ f.1)

        start : Has (SameUnit u h) records.domains u.dom.0
        start = record { domain = h.domain; at = h.at; fact = (refl, h.get) }

        got : (o : Option UnitId) → c.cur ≡ o → Has (SameUnit u h) (given o).domains u.dom.0
        got None is = start
        got (Some v) is = has_change (SameUnit u h) (SameUnit u h) u.dom.0 v.dom.0 (gives v.n) records.domains start
            (λ same d at_d f. leaves v.n d (gives v.n d) (gives_leaves v.n d) (other_index u v (apart_own k x u v other at cur is) same) f) (λ ne y f. f)

        off : (o : Option UnitId) → c.cur ≡ o → (rs : Credit2Records) → Has (SameUnit u h) rs.domains u.dom.0 → Has (SameUnit u h) (credit2.off_records o rs).domains u.dom.0
        off None is rs has = has
        off (Some v) is rs has = has_change (SameUnit u h) (SameUnit u h) u.dom.0 v.dom.0 (running None v.n) rs.domains has
            (λ same d at_d f. leaves v.n d (running None v.n d) (runs_leaves v.n None d) (other_index u v (apart_own k x u v other at cur is) same) f) (λ ne y f. f)

        by_choice : (o : Option UnitId) → chosen ≡ o → Has (SameUnit u h) (then o).domains u.dom.0
        by_choice None is = off c.cur refl (given c.cur) (got c.cur refl)
        by_choice (Some w) is =
            let may = chosen_may w is in
            let taken : Has (SameUnit u h) (change_domain w.dom.0 (domain_after_take w.n) (given c.cur)).domains u.dom.0 =
            has_change (SameUnit u h) (SameUnit u h) u.dom.0 w.dom.0 (domain_after_take w.n) (given c.cur).domains (got c.cur refl)
            (λ same d at_d f. leaves w.n d (domain_after_take w.n d) (takes_leaves w.n d) (other_index u w (apart_chosen k x u w other at cur may) same) f) (λ ne y f. f) in
            has_change (SameUnit u h) (SameUnit u h) u.dom.0 w.dom.0 (running (Some t) w.n) (credit2.off_records c.cur (change_domain w.dom.0 (domain_after_take w.n) (given c.cur))).domains
            (off c.cur refl (change_domain w.dom.0 (domain_after_take w.n) (given c.cur)) taken)
            (λ same d at_d f. leaves w.n d (running (Some t) w.n d) (runs_leaves w.n (Some t) d) (other_index u w (apart_chosen k x u w other at cur may) same) f) (λ ne y f. f)

    most_same : most_weight (then chosen) ≡ most_weight records
    most_same = same_most (then chosen).domains records.domains (faces_then chosen)

    -- the credit that another core's own unit has now is as it was
    other_credit : (k : ℕ) (x : Resource) (u : UnitId) → k ≢ r → at_place resources k ≡ Some x → x.cur ≡ Some u → unit_credit (change_unit u (burned_unit (most_weight (then chosen)) t) (then chosen)) u ≡ unit_credit (change_unit u (burned_unit (most_weight records) t) records) u
    other_credit k x u other at cur =
        let h = still.other_has k x u other at cur in
        let s = other_same k x u h other at cur in
        let now = credit_then (then chosen) u (burned_unit (most_weight (then chosen)) t) s.domain h.record_of s.at s.fact.1 in
        let was = credit_then records u (burned_unit (most_weight records) t) h.domain h.record_of h.at h.get in
        now ∙ burn_credit (most_weight (then chosen)) t s.domain h.record_of
        ∙ ap (λ (w : ℕ). elim h.record_of.burned as (λ _. ℤ) [ None ↦ h.record_of.credit | Some from ↦ burned_credit h.record_of.credit h.record_of.residual w (most_weight (then chosen)) (t - from) ]) s.fact.0
        ∙ ap (λ (w : ℕ). elim h.record_of.burned as (λ _. ℤ) [ None ↦ h.record_of.credit | Some from ↦ burned_credit h.record_of.credit h.record_of.residual h.domain.weight w (t - from) ]) most_same
        ∙ sym (burn_credit (most_weight records) t h.domain h.record_of) ∙ sym was

    better_other : (k : ℕ) (x : Resource) (u e : UnitId) → k ≢ r → at_place resources k ≡ Some x → x.cur ≡ Some u → is_unit_better (next m t pool r c).records u x.since.0 t e ≡ is_unit_better (Credit2Pool records) u x.since.0 t e
    better_other k x u e other at cur =
        ap (λ (y : Records). is_unit_better y u x.since.0 t e) records_next
        ∙ ap (λ b. not b && int_lt (unit_credit (change_unit u (burned_unit (most_weight (then chosen)) t) (then chosen)) u) (unit_credit (then chosen) e)) (within_same x.since.0 (then chosen) (limit_then chosen))
        ∙ ap (λ z. not (is_rate_limited records x.since.0 t) && int_lt z (unit_credit (then chosen) e)) (other_credit k x u other at cur)
        ∙ ap (λ z. not (is_rate_limited records x.since.0 t) && int_lt (unit_credit (change_unit u (burned_unit (most_weight records) t) records) u) z) (credit_same (then chosen) records (faces_then chosen) e)

    -- the core's own unit is chosen again
    module _ (u : UnitId) (cur : c.cur ≡ Some u) (again : chosen ≡ Some u) where
      again_is : then chosen ≡ then_of (Some u) (Some u)
      again_is = ap (λ o. then_of o chosen) cur ∙ ap (λ o. then_of (Some u) o) again

      burned_again : burned ≡ given (Some u)
      burned_again = burned_is ∙ ap given cur

      abbrev second : Credit2Domain → Credit2Domain
      second d = domain_after_take u.n (gives u.n d)

      abbrev last : Credit2Domain → Credit2Domain
      last d = running (Some t) u.n (running None u.n (domain_after_take u.n (gives u.n d)))

      at_last : (d : Credit2Domain) → at_place records.domains u.dom.0 ≡ Some d → at_place (then_of (Some u) (Some u)).domains u.dom.0 ≡ Some (last d)
      at_last d at =
          let e : ℕ = u.dom.0 in
          let a : at_place (change_at e (gives u.n) records.domains) e ≡ Some (gives u.n d) = at_place-change_at e (gives u.n) records.domains ∙ ap (option_map (gives u.n)) at in
          let b : at_place (change_at e (domain_after_take u.n) (change_at e (gives u.n) records.domains)) e ≡ Some (second d) = at_place-change_at e (domain_after_take u.n) (change_at e (gives u.n) records.domains) ∙ ap (option_map (domain_after_take u.n)) a in
          let f : at_place (change_at e (running None u.n) (change_at e (domain_after_take u.n) (change_at e (gives u.n) records.domains))) e ≡ Some (running None u.n (second d)) =
          at_place-change_at e (running None u.n) (change_at e (domain_after_take u.n) (change_at e (gives u.n) records.domains)) ∙ ap (option_map (running None u.n)) b in
          at_place-change_at e (running (Some t) u.n) (change_at e (running None u.n) (change_at e (domain_after_take u.n) (change_at e (gives u.n) records.domains))) ∙ ap (option_map (running (Some t) u.n)) f

      at_other : (k : ℕ) → k ≢ u.dom.0 → at_place (then_of (Some u) (Some u)).domains k ≡ at_place records.domains k
      at_other k ne =
          let e : ℕ = u.dom.0 in
          at_place-change_at_other e k (running (Some t) u.n) (change_at e (running None u.n) (change_at e (domain_after_take u.n) (change_at e (gives u.n) records.domains))) ne
          ∙ at_place-change_at_other e k (running None u.n) (change_at e (domain_after_take u.n) (change_at e (gives u.n) records.domains)) ne
          ∙ at_place-change_at_other e k (domain_after_take u.n) (change_at e (gives u.n) records.domains) ne ∙ at_place-change_at_other e k (gives u.n) records.domains ne

      abbrev passes_at : Option Credit2Domain → Bool
      passes_at o = elim o as (λ _. Bool) [ None ↦ false | Some d ↦ has_cap_budget d ]

      -- no domain's units may run that could not before
      budget_less : (e : UnitId) → has_domain_budget (then_of (Some u) (Some u)) e ≡ true → (has_domain_budget records e ≡ true) × (has_domain_budget burned e ≡ true)
      budget_less e has = elim (ℕ_discrete e.dom.0 u.dom.0) [
        | no ne ↦ (
            let now : has_domain_budget records e ≡ true = sym (ap passes_at (at_other e.dom.0 ne)) ∙ has in
            (now, ap (λ (b : Credit2Records). has_domain_budget b e) burned_again ∙ ap passes_at (at_place-change_at_other u.dom.0 e.dom.0 (gives u.n) records.domains ne) ∙ now))
        | yes same ↦ (
            let h = still.own_has u cur in
            let f = still.fresh u h.domain h.record_of cur h.at h.get in
            let has2 : has_cap_budget (second h.domain) ≡ true = sym (ap (λ k. passes_at (at_place (then_of (Some u) (Some u)).domains k)) same ∙ ap passes_at (at_last h.domain h.at)) ∙ has in
            let now : has_cap_budget h.domain ≡ true = again_no_more u.n h.domain h.record_of h.get f.most has2 in
            let mid : has_cap_budget (gives u.n h.domain) ≡ true = takes_less u.n (gives u.n h.domain) has2 in
            let at_mid : at_place (given (Some u)).domains u.dom.0 ≡ Some (gives u.n h.domain) = at_place-change_at u.dom.0 (gives u.n) records.domains ∙ ap (option_map (gives u.n)) h.at in (
              ap (λ k. passes_at (at_place records.domains k)) same ∙ ap passes_at h.at ∙ now,
              ap (λ (b : Credit2Records). has_domain_budget b e) burned_again ∙ ap (λ k. passes_at (at_place (given (Some u)).domains k)) same ∙ ap passes_at at_mid ∙ mid,
            ))
      ]

      records_again : (next m t pool r c).records ≡ Credit2Pool (then_of (Some u) (Some u))
      records_again = records_next ∙ ap Credit2Pool again_is

      eligible_less : (k : ℕ) (e : UnitId) → is_unit_eligible (next m t pool r c) home k t e ≡ true → (is_unit_eligible scheduler home k t e ≡ true) × (is_unit_eligible (record scheduler { records = Credit2Pool burned }) home k t e ≡ true)
      eligible_less k e is =
          let is2 : (is_unit_allowed scheduler home k e && has_domain_budget (then_of (Some u) (Some u)) e) ≡ true = sym (ap (λ (y : Records). is_unit_allowed scheduler home k e && may_have_core y (next m t pool r c) home k t e) records_again) ∙ is in
          let allowed = and_left (is_unit_allowed scheduler home k e) _ is2 in
          let less = budget_less e (and_right (is_unit_allowed scheduler home k e) _ is2) in
          (and_from (is_unit_allowed scheduler home k e) _ allowed less.0, and_from (is_unit_allowed scheduler home k e) _ allowed less.1)

      -- its credit charged to now is its credit
      own_credit : unit_credit (change_unit u (burned_unit (most_weight (then_of (Some u) (Some u))) t) (then_of (Some u) (Some u))) u ≡ unit_credit records u
      own_credit =
          let h = still.own_has u cur in
          let f = still.fresh u h.domain h.record_of cur h.at h.get in
          let most : ℕ = most_weight (then_of (Some u) (Some u)) in
          let o1 = (gives_leaves u.n h.domain).own h.record_of h.get in
          let o2 = (takes_leaves u.n (gives u.n h.domain)).own o1.0 o1.1 in
          let o3 = (runs_leaves u.n None (second h.domain)).own o2.0 o2.1 in
          let y : Credit2Unit = record o3.0 { burned = Some t } in
          let get : slice_get (last h.domain).units u.n ≡ Some y = slice_get-change_item u.n (λ (x : Credit2Unit). record x { burned = Some t }) (running None u.n (second h.domain)).units ∙ ap (option_map (λ (x : Credit2Unit). record x { burned = Some t })) o3.1 in
          let weight : (last h.domain).weight ≡ h.domain.weight = (takes_leaves u.n (gives u.n h.domain)).weight ∙ (gives_leaves u.n h.domain).weight in
          let residual : o3.0.residual ≡ h.record_of.residual = o3.3 ∙ o2.3 ∙ o1.3 in
          let credit : o3.0.credit ≡ h.record_of.credit = o3.2 ∙ o2.2 ∙ o1.2 in
          let low : o3.0.residual < (last h.domain).weight = (let l = f.residual in omega (arith, l, weight, residual)) in
          let now : unit_credit records u ≡ h.record_of.credit = credit_is records u ∙ (face_of_unit records.domains u h.domain h.record_of h.at h.get).2 in
          credit_then (then_of (Some u) (Some u)) u (burned_unit most t) (last h.domain) y (at_last h.domain h.at) get
          ∙ burn_credit most t (last h.domain) y ∙ credit_kept t most o3.0.residual (last h.domain).weight o3.0.credit low ∙ credit ∙ sym now

      faces_again : faces (then_of (Some u) (Some u)).domains ≡ faces records.domains
      faces_again = ap (λ (b : Credit2Records). faces b.domains) (sym again_is) ∙ faces_then chosen

      better_own : (e : UnitId) → is_unit_better (next m t pool r c).records u c.since.0 t e ≡ (not (is_rate_limited records c.since.0 t) && int_lt (unit_credit records u) (unit_credit records e))
      better_own e =
          ap (λ (y : Records). is_unit_better y u c.since.0 t e) records_again
          ∙ ap (λ z. not (is_rate_limited (then_of (Some u) (Some u)) c.since.0 t) && int_lt z (unit_credit (then_of (Some u) (Some u)) e)) own_credit
          ∙ ap (λ z. not (is_rate_limited (then_of (Some u) (Some u)) c.since.0 t) && int_lt (unit_credit records u) z) (credit_same (then_of (Some u) (Some u)) records faces_again e)
          ∙ ap (λ b. not b && int_lt (unit_credit records u) (unit_credit records e)) (within_same c.since.0 (then_of (Some u) (Some u)) refl)

      again_stirs_none : is_unit_allowed scheduler home r u ≡ true → (is_rate_limited records c.since.0 t ≡ true) ⊎ ((e : UnitId) → has_listed_unit waiting e ≡ true → int_lt (unit_credit burned u) (unit_credit burned e) ≡ false) → StirsNone m t pool r c
      again_stirs_none allowed why = record {
        own = false_from_ne_true _ (λ stirred. (
            let test : UnitId → Bool = λ e. is_unit_eligible (next m t pool r c) home r t e && is_unit_better (next m t pool r c).records u c.since.0 t e in
            let h : (not (is_unit_allowed scheduler home r u) || list_any test (next m t pool r c).queue) ≡ true = sym (ap (λ (o : Option UnitId). has_better_waiting o c.since.0 t r home (next m t pool r c)) cur) ∙ stirred in
            elim (or_cases (not (is_unit_allowed scheduler home r u)) (list_any test (next m t pool r c).queue) h) [
              | inl barred ↦ clash (not (is_unit_allowed scheduler home r u)) barred (ap not allowed)
              | inr some ↦ (
                  let e = any_has test queue (any_after test (decision m t pool r c).unit queue some) in
                  let el = eligible_less r e.0 (and_left (is_unit_eligible (next m t pool r c) home r t e.0) _ e.2) in
                  let b : (not (is_rate_limited records c.since.0 t) && int_lt (unit_credit records u) (unit_credit records e.0)) ≡ true = sym (better_own e.0) ∙ and_right (is_unit_eligible (next m t pool r c) home r t e.0) _ e.2 in
                  elim why [
                    | inl soon ↦ clash (not (is_rate_limited records c.since.0 t)) (and_left (not (is_rate_limited records c.since.0 t)) _ b) (ap not soon)
                    | inr least ↦ (
                        let waits = filter_has (is_unit_eligible (record scheduler { records = Credit2Pool burned }) home r t) queue e.0 e.1 el.1 in
                        let no : int_lt (unit_credit records u) (unit_credit records e.0) ≡ false = sym (ap (λ z. int_lt z (unit_credit burned e.0)) (credit_same burned records faces_burned u) ∙ ap (λ z. int_lt (unit_credit records u) z) (credit_same burned records faces_burned e.0)) ∙ least e.0 waits in
                        clash (int_lt (unit_credit records u) (unit_credit records e.0)) (and_right (not (is_rate_limited records c.since.0 t)) _ b) no)
                  ])
            ]));
        others = λ k x other at stirred. less_waits t k home x.since.0 x.cur scheduler (next m t pool r c) (λ w. refl) (λ w e. (eligible_less k w e).0) (λ w e own h. sym (better_other k x w e other at own) ∙ h)
            (λ test e. any_after test (decision m t pool r c).unit queue e) stirred;
      }

    own_secure : (u : UnitId) → c.cur ≡ Some u → Secure m t pool r c r u → own ≡ Some u
    own_secure u cur secure =
        let two = and_left (runs u && is_unit_allowed scheduler home r u) _ secure in
        let run : ask.runnable ≡ true = ap (λ (o : Option UnitId). elim o as (λ _. Bool) [ None ↦ false | Some x ↦ may_unit_run m.config.granularity pool x ]) cur ∙ and_left (runs u) _ two in
        let has = keeps_funded records u (and_right (runs u && is_unit_allowed scheduler home r u) _ secure) in
        let got : Has (λ (y : Credit2Domain). has_cap_budget y ≡ true) (given (Some u)).domains u.dom.0 =
        has_change (λ (y : Credit2Domain). is_funded y u.n ≡ true) (λ (y : Credit2Domain). has_cap_budget y ≡ true) u.dom.0 u.dom.0 (gives u.n) records.domains has (λ same d at f. gives_budget u.n d f) (λ ne y f. absurd (ne refl)) in
        let budget : has_domain_budget burned u ≡ true = ap (λ (b : Credit2Records). has_domain_budget b u) (burned_is ∙ ap given cur) ∙ ap (λ (o : Option Credit2Domain). elim o as (λ _. Bool) [ None ↦ false | Some d ↦ has_cap_budget d ]) got.at ∙ got.fact in
        let goes_on : (ask.runnable && is_unit_allowed scheduler home r u && has_domain_budget burned u) ≡ true = and_from (ask.runnable && is_unit_allowed scheduler home r u) _ (and_from ask.runnable _ run (and_right (runs u) _ two)) budget in
        ap (λ (o : Option UnitId). elim o as (λ _. Option UnitId) [ None ↦ None | Some w ↦ cond (ask.runnable && is_unit_allowed scheduler home r w && has_domain_budget burned w) (Some w) None ]) cur ∙ ap (λ b. cond b (Some u) None) goes_on

    limit_burned : burned.limit ≡ records.limit
    limit_burned = ap (λ (b : Credit2Records). b.limit) burned_is ∙ limit_given c.cur

    abbrev Kept : UnitId → Type 0
    Kept u = (w : UnitId) × ((decision m t pool r c).unit ≡ Some w) × (((w ≡ u) × (ahead (next m t pool r c).records u ≤ ahead (Credit2Pool records) u) × StirsNone m t pool r c) ⊎ (ahead (next m t pool r c).records w + 1 ≤ ahead (Credit2Pool records) u))

    stays_on : (u : UnitId) → c.cur ≡ Some u → is_unit_allowed scheduler home r u ≡ true → chosen ≡ Some u → (is_rate_limited records c.since.0 t ≡ true) ⊎ ((e : UnitId) → has_listed_unit waiting e ≡ true → int_lt (unit_credit burned u) (unit_credit burned e) ≡ false) → Kept u
    stays_on u cur allowed again why = (u, unit_next ∙ again, inl (refl, (let a = ahead_next u in omega (arith, a)), again_stirs_none u cur again allowed why))

    kept_by : (u : UnitId) → c.leaving ≡ false → c.cur ≡ Some u → Secure m t pool r c r u → (b : Bool) → within ≡ b → (o : Option UnitId) → richest_unit burned own waiting ≡ o → Kept u
    kept_by u stays cur secure true is o best =
        let o_is = own_secure u cur secure in
        let allowed = and_right (runs u) _ (and_left (runs u && is_unit_allowed scheduler home r u) _ secure) in
        stays_on u cur allowed (chosen_is stays ∙ ap (λ b. cond b own (richest_unit burned own waiting)) is ∙ o_is) (inl (sym (within_same c.since.0 burned limit_burned) ∙ and_right (is_some own) _ is))
    kept_by u stays cur secure false is None best = absurd (let e : Some u ≡ None = sym (own_secure u cur secure) ∙ (none_best (credit_order burned) (greatest_scan burned) own waiting best).0 in cc)
    kept_by u stays cur secure false is (Some w) best =
        let g = is_best (credit_order burned) (greatest_scan burned) own waiting w best in
        let allowed = and_right (runs u) _ (and_left (runs u && is_unit_allowed scheduler home r u) _ secure) in
        let chose : chosen ≡ Some w = chosen_is stays ∙ ap (λ b. cond b own (richest_unit burned own waiting)) is ∙ best in
        elim (g.over u (own_secure u cur secure)) [
          | inl same ↦ stays_on u cur allowed (chose ∙ ap (λ x. Some x) same) (inr (λ e has. subst (λ x. int_lt (unit_credit burned x) (unit_credit burned e) ≡ false) same (g.none_better e has)))
          | inr greater ↦ (
            w,
            unit_next ∙ chose,
            inr (
                let may = chosen_may w chose in
                let fw = face_of_unit records.domains w may.has.domain may.has.record_of may.has.at may.has.get in
                let lt : int_lt (credit_at (faces records.domains) u) may.has.record_of.credit ≡ true =
                ap (λ z. int_lt z may.has.record_of.credit) (sym (credit_is records u)) ∙ ap (λ z. int_lt (unit_credit records u) z) (sym (credit_is records w ∙ fw.2)) ∙ ap (λ z. int_lt z (unit_credit records w)) (credit_same records burned (sym faces_burned) u) ∙ ap (λ z. int_lt (unit_credit burned u) z) (credit_same records burned (sym faces_burned) w) ∙ greater in
                let fewer = fewer_above (faces records.domains) (credit_at (faces records.domains) u) w (face may.has.domain) may.has.record_of.credit fw.0 fw.1 lt in
                let a = ahead_next w in
                let b = ahead_is records w in
                let b2 : above (credit_at (faces records.domains) w) (faces records.domains) ≡ above may.has.record_of.credit (faces records.domains) = ap (λ z. above z (faces records.domains)) fw.2 in
                let d = ahead_is records u in
                omega (arith, fewer, a, b, b2, d)),
          )
        ]

    -- a core that idles and goes on idling changes nothing
    idle_by : c.leaving ≡ false → c.cur ≡ None → chosen ≡ None → StirsNone m t pool r c
    idle_by stays cur none =
        let same : then chosen ≡ records = ap (λ o. then_of o chosen) cur ∙ ap (λ o. then_of None o) none in
        let records_same : (next m t pool r c).records ≡ Credit2Pool records = records_next ∙ ap Credit2Pool same in
        let fewer : (k : ℕ) (x : Resource) → has_better_waiting x.cur x.since.0 t k home (next m t pool r c) ≡ true → has_better_waiting x.cur x.since.0 t k home scheduler ≡ true = λ k x stirred.
        less_waits t k home x.since.0 x.cur scheduler (next m t pool r c) (λ w. refl) (λ w e. sym (ap (λ (y : Records). is_unit_allowed scheduler home k w && may_have_core y (next m t pool r c) home k t w) records_same) ∙ e)
        (λ w e o h. sym (ap (λ (y : Records). is_unit_better y w x.since.0 t e) records_same) ∙ h) (λ test e. any_after test (decision m t pool r c).unit queue e) stirred in
        let own_none : own ≡ None = ap (λ (o : Option UnitId). elim o as (λ _. Option UnitId) [ None ↦ None | Some w ↦ cond (ask.runnable && is_unit_allowed scheduler home r w && has_domain_budget burned w) (Some w) None ]) cur in
        let not_within : within ≡ false = ap (λ o. is_some o && is_rate_limited burned c.since.0 t) own_none in
        let best : richest_unit burned own waiting ≡ None = sym (ap (λ b. cond b own (richest_unit burned own waiting)) not_within) ∙ sym (chosen_is stays) ∙ none in
        let empty : waiting ≡ [] = (none_best (credit_order burned) (greatest_scan burned) own waiting best).1 in
        let burned_same : burned ≡ records = burned_is ∙ ap given cur in
        record {
          own = false_from_ne_true _ (λ stirred. (
              let h : list_any (is_unit_eligible scheduler home r t) queue ≡ true = sym (ap (λ (o : Option UnitId). has_better_waiting o c.since.0 t r home scheduler) cur) ∙ fewer r c stirred in
              let w = any_has (is_unit_eligible scheduler home r t) queue h in
              let waits = filter_has (is_unit_eligible (record scheduler { records = Credit2Pool burned }) home r t) queue w.0 w.1 (ap (λ (b : Credit2Records). is_unit_allowed scheduler home r w.0 && has_domain_budget b w.0) burned_same ∙ w.2) in
              clash (has_listed_unit waiting w.0) waits (ap (λ l. has_listed_unit l w.0) empty)));
          others = λ k x other at stirred. fewer k x stirred;
        }

    pub credit2_well : DecidesWell m t pool r c
    credit2_well = record {
      leaves = λ goes. unit_next ∙ ap (λ b. cond b None (cond within own (richest_unit burned own waiting))) goes;
      chosen = λ stays w is. (
          let chose : chosen ≡ Some w = sym unit_next ∙ is in
          let may = chosen_may w chose in
          let fw = face_of_unit records.domains w may.has.domain may.has.record_of may.has.at may.has.get in
          let a = ahead_next w in
          let b = ahead_is records w in
          let b2 : above (credit_at (faces records.domains) w) (faces records.domains) ≡ above may.has.record_of.credit (faces records.domains) = ap (λ z. above z (faces records.domains)) fw.2 in
          let d = some_behind (faces records.domains) w (face may.has.domain) may.has.record_of.credit fw.0 fw.1 in
          let most = still.count in
          (secure_then r w may.runs may.allowed (chosen_funded w chose may), omega (arith, a, b, b2, d, most)));
      kept = λ stays u cur secure. kept_by u stays cur secure within refl (richest_unit burned own waiting) refl;
      idle = λ stays cur none. idle_by stays cur (sym unit_next ∙ none);
      few = λ u. (let a = ahead_next u in let b = ahead_is records u in let d = above_most (credit_at (faces records.domains) u) (faces records.domains) in let most = still.count in omega (arith, a, b, d, most));
      others = λ k x u other at cur secure. (
          let two = and_left (runs u && is_unit_allowed scheduler home k u) _ secure in
          let a = ahead_next u in
          (secure_then k u (and_left (runs u) _ two) (and_right (runs u) _ two) (other_funded k x u other at cur (keeps_funded records u (and_right (runs u && is_unit_allowed scheduler home k u) _ secure))), omega (arith, a)));
    }

-- the same, of any pool with such records
pub credit2_decides_well : (m : Machine) (t : ℕ) (pool : Pool) (records : Credit2Records) → pool.scheduler.records ≡ Credit2Pool records → (r : ℕ) (c : Resource) → Standing m pool r c → IsStill m t pool records r c → DecidesWell m t pool r c
credit2_decides_well m t pool records is r c standing still = subst (λ (rs : Records). Goal rs) (sym is) (λ known same. credit2_well m t pool.scheduler.queue pool.scheduler.affinity records pool.domains pool.resources r c known same) standing still
  where
    with_records : Records → Pool
    with_records rs = record { scheduler = record { queue = pool.scheduler.queue; affinity = pool.scheduler.affinity; records = rs }; domains = pool.domains; resources = pool.resources }

    Goal : Records → Type 0
    Goal rs = Standing m (with_records rs) r c → IsStill m t (with_records rs) records r c → DecidesWell m t (with_records rs) r c
