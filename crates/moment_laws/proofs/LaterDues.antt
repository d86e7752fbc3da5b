-- A decision asks again later than at its own moment, and brings no deadline and no refill that has come.
use Rattle.std.proofs.Common.{mod-lt, ◌≡◌, ◌≤◌, ◌<◌, ◌+◌, ◌-◌, ◌*◌, ℕ, zero, suc, Bool, true, false, not, List, [], ◌∷◌, refl, arith, ap, subst, sym, ◌∙◌, cond, ◌⊎◌, inl, inr}
use Rattle.std.specs.Prelude.{Option, Some, None, is_some, nat_le, nat_lt, slice_get, length, option_map, min, max, ℤ, pos, negsuc, int_lt, ◌==◌, ◌&&◌, ◌||◌, ◌%◌, ◌/◌}
use Rattle.std.proofs.lemmas.Nat.{div-add-mod'}
use Rattle.std.proofs.lemmas.Bool.{lt-leb}
use Rattle.sched_base.specs.Credit2Numbers.{positive_part, slice_length}
use Rattle.sched_base.specs.declared.Cores.{Cores}
use Rattle.sched_base.specs.declared.UnitId.{UnitId}
use Rattle.sched_model.specs.declared.ask.Ask.{Ask}
use Rattle.sched_model.specs.declared.config.Frame.{Frame}
use Rattle.sched_model.specs.declared.config.FrameEntry.{FrameEntry}
use Rattle.sched_model.specs.declared.state.ArincRecords.{ArincRecords}
use Rattle.sched_model.specs.declared.state.Credit2Domain.{Credit2Domain}
use Rattle.sched_model.specs.declared.state.Credit2Records.{Credit2Records}
use Rattle.sched_model.specs.declared.state.Credit2Unit.{Credit2Unit}
use Rattle.sched_model.specs.declared.state.Records.{Records}
use Rattle.sched_model.specs.declared.state.Records.TheVariants.{Credit2Pool, RtdsPool, ArincPool, NullPool}
use Rattle.sched_model.specs.declared.state.RtdsUnit.{RtdsUnit}
use Rattle.sched_model.specs.declared.state.Scheduler.{Scheduler}
use Rattle.sched_model.specs.Places.{at_place, change_item, has_listed_unit}
use Rattle.sched_base.specs.Numbers.{has_moment_come}
use Rattle.sched_model.specs.Arinc.{Window, window_among, frame_window, current_window}
use Rattle.sched_model.specs.EligibleUnits.{Decision, is_unit_allowed, is_unit_eligible, eligible_units, has_cap_budget}
use Rattle.sched_model.specs.Credit2 as credit2
use Rattle.sched_model.specs.Rtds as rtds
use Rattle.sched_model.specs.NullScheduler as null
use Rattle.sched_model.specs.Policy as policy
use Rattle.sched_model.specs.Policy.{decision_of}
use Rattle.sched_base.proofs.Bools.{and_right}
use Rattle.sched_laws.specs.Counts.{total}
use Rattle.sched_laws.proofs.EachPlace.{by_cond, by_option}
use Rattle.record_laws.specs.Decisions.{number_in, own_charged, was_reset, taken_domain, decided_domain}
use Rattle.record_laws.proofs.Changes.{own_number}
use Rattle.record_laws.proofs.Credit2Seen.{most_stays, taken_records, decided_records, decided_domains, domain_burned, domain_took}
use Rattle.record_laws.proofs.Charges.{leaves, leaves_taken, reset_budget}
use Rattle.record_laws.proofs.Best.{is_best}
use Rattle.record_laws.proofs.Orders.{before_order, credit_order, foremost_scan, greatest_scan}
use Rattle.moment_laws.specs.Turns.{is_funded, ahead}
use Rattle.moment_laws.proofs.Waiting.{has_filter}
use Rattle.moment_laws.proofs.Credit2Steps.{Has, takes_funded}
use Rattle.moment_laws.proofs.RtdsKeys.{passes_is}
use Rattle.moment_laws.proofs.DueEvents.{of_credit2, of_rtds, of_records, is_deadline_due, is_refill_due, one_less, how_many_less, total-change_at_less, total-change_each_less}

-- what is promised of a decision at the moment t
pub record DecidesLater (t : ℕ) (before : Records) (d : Decision) : Type 0 where
  pub due : has_moment_come t d.due ≡ false
  pub records : of_records t d.records ≤ of_records t before

-- ARINC 653: the window ends later
until_later : (start ahead last : ℕ) (entries : List FrameEntry) → start + ahead < last → start + ahead < (window_among start ahead last entries).until
until_later start ahead last [] low = low
until_later start ahead last (e ∷ entries) low =
    elim (nat_lt ahead e.run.0) as (λ b. nat_lt ahead e.run.0 ≡ b → start + ahead < (elim b as (λ _. Window) [ true ↦ record { unit = Some (record { dom = e.dom; n = e.unit }); until = start + e.run.0 } | false ↦ window_among (start + e.run.0) (ahead - e.run.0) last entries ]).until) [
      | true ↦ λ is. (let a : ahead < e.run.0 = grind (arith, is) in omega (arith, a))
      | false ↦ λ is. (
          let a : e.run.0 ≤ ahead = grind (arith, is) in
          let same : start + e.run.0 + (ahead - e.run.0) ≡ start + ahead = omega (arith, a) in
          subst (λ k. k < (window_among (start + e.run.0) (ahead - e.run.0) last entries).until) same (until_later (start + e.run.0) (ahead - e.run.0) last entries (subst (λ k. k < last) (sym same) low)))
    ] refl

window_later : (installed : ℕ) (frame : Frame) (t : ℕ) → 0 < frame.major.0 → t < (frame_window installed frame t).until
window_later installed frame t some =
    let ahead : ℕ = (t - installed) % frame.major.0 in
    let d : (t - installed) / frame.major.0 * frame.major.0 + (t - installed) % frame.major.0 ≡ t - installed = div-add-mod' (t - installed) frame.major.0 in
    let whole : t - ahead + ahead ≡ t = omega (arith, d) in
    let low : ahead < frame.major.0 = mod-lt (t - installed) some in
    subst (λ k. k < (frame_window installed frame t).until) whole (until_later (t - ahead) ahead (t - ahead + frame.major.0) frame.entries (omega (arith, low)))

arinc_later : (ask : Ask) (scheduler : Scheduler) (records : ArincRecords) → ((frame : Frame) → records.frame ≡ Some frame → 0 < frame.major.0) → (o : Option Window) → o ≡ cond ask.leaving None (current_window records ask.at.0)
    → DecidesLater ask.at.0 scheduler.records (policy.arinc_decision ask scheduler o)
arinc_later ask scheduler records some None is = record { due = refl; records = omega arith }
arinc_later ask scheduler records some (Some window) is =
    record {
      due = lt-leb window.until ask.at.0 (by_frame records.frame refl (by_cond (λ (o : Option Window). Some window ≡ o → Some window ≡ current_window records ask.at.0) ask.leaving None (current_window records ask.at.0) (λ goes e. absurd (cc)) (λ stays e. e) is));
      records = omega arith;
    }
  where
    by_frame : (frame : Option Frame) → records.frame ≡ frame → Some window ≡ elim frame as (λ _. Option Window) [ None ↦ None | Some f ↦ Some (frame_window records.installed f ask.at.0) ] → ask.at.0 < window.until
    by_frame None at e = absurd (cc)
    by_frame (Some f) at e = (let same : window ≡ frame_window records.installed f ask.at.0 = cc in subst (λ (w : Window). ask.at.0 < w.until) (sym same) (window_later records.installed f ask.at.0 (some f at)))

-- RTDS: a deadline changes in a replenishment alone, and the chosen unit has some budget left
pub same_deadlines : (t : ℕ) (u : UnitId) (f : RtdsUnit → RtdsUnit) (domains : List (Option (List RtdsUnit))) → ((x : RtdsUnit) → (f x).deadline ≡ x.deadline) → total (of_rtds t) (rtds.change_unit u f domains) ≤ total (of_rtds t) domains
same_deadlines t u f domains same =
    total-change_at_less (of_rtds t) u.dom.0 (change_item u.n f) domains (λ units at. how_many_less (is_deadline_due t) u.n f units (λ x get due. subst (λ n. nat_le n t ≡ true) (same x) due))

pub burned_deadline : (t : ℕ) (x : RtdsUnit) → (rtds.unit_burned_to t x).deadline ≡ x.deadline
burned_deadline t x = by_option (λ (y : RtdsUnit). y.deadline ≡ x.deadline) x.burned _ _ (λ is. refl) (λ from is. refl)

module _ (ask : Ask) (queue : List UnitId) (affinity : List (Option (List Cores))) (domains : List (Option (List RtdsUnit))) where
  abbrev rtds_scheduler : Scheduler
  rtds_scheduler = record { queue = queue; affinity = affinity; records = RtdsPool domains }

  abbrev rtds_burned : List (Option (List RtdsUnit))
  rtds_burned = rtds.own_burned_domains ask.cur ask.at.0 domains

  rtds_burn : (cur : Option UnitId) → total (of_rtds ask.at.0) (rtds.own_burned_domains cur ask.at.0 domains) ≤ total (of_rtds ask.at.0) domains
  rtds_burn None = omega arith
  rtds_burn (Some u) = same_deadlines ask.at.0 u (rtds.unit_burned_to ask.at.0) domains (burned_deadline ask.at.0)

  rtds_off : (cur : Option UnitId) → total (of_rtds ask.at.0) (rtds.off_domains cur rtds_burned) ≤ total (of_rtds ask.at.0) rtds_burned
  rtds_off None = omega arith
  rtds_off (Some u) = same_deadlines ask.at.0 u (λ x. record x { burned = None }) rtds_burned (λ x. refl)

  rtds_own : (cur : Option UnitId) (w : UnitId) → elim cur as (λ _. Option UnitId) [ None ↦ None | Some u ↦ cond (ask.runnable && is_unit_allowed rtds_scheduler ask.home.0 ask.core.0 u && nat_lt 0 (rtds.unit_left_budget rtds_burned u)) (Some u) None ] ≡ Some w → nat_lt 0 (rtds.unit_left_budget rtds_burned w) ≡ true
  rtds_own None w e = absurd (cc)
  rtds_own (Some u) w e =
      by_cond (λ (o : Option UnitId). o ≡ Some w → nat_lt 0 (rtds.unit_left_budget rtds_burned w) ≡ true) (ask.runnable && is_unit_allowed rtds_scheduler ask.home.0 ask.core.0 u && nat_lt 0 (rtds.unit_left_budget rtds_burned u)) (Some u) None
      (λ all h. (let same : u ≡ w = cc in subst (λ x. nat_lt 0 (rtds.unit_left_budget rtds_burned x) ≡ true) same (and_right (ask.runnable && is_unit_allowed rtds_scheduler ask.home.0 ask.core.0 u) _ all))) (λ none h. absurd (cc)) e

  rtds_left : (w : UnitId) → rtds.rtds_choice ask rtds_scheduler rtds_burned ≡ Some w → nat_lt 0 (rtds.unit_left_budget rtds_burned w) ≡ true
  rtds_left w =
      by_cond (λ (o : Option UnitId). o ≡ Some w → nat_lt 0 (rtds.unit_left_budget rtds_burned w) ≡ true) ask.leaving None _ (λ goes e. absurd (cc))
      (λ stays e. elim (is_best (before_order rtds_burned) (foremost_scan rtds_burned) (rtds.rtds_candidate ask rtds_scheduler rtds_burned) (eligible_units (record rtds_scheduler { records = RtdsPool rtds_burned }) ask.home.0 ask.core.0 ask.at.0) w e).source [
        | inl own ↦ rtds_own ask.cur w own
        | inr waits ↦ (
            let h = has_filter (is_unit_eligible (record rtds_scheduler { records = RtdsPool rtds_burned }) ask.home.0 ask.core.0 ask.at.0) queue w waits in
            sym (passes_is rtds_burned (record rtds_scheduler { records = RtdsPool rtds_burned }) ask.home.0 ask.core.0 ask.at.0 w) ∙ and_right (is_unit_allowed rtds_scheduler ask.home.0 ask.core.0 w) _ h.1)
      ])

  rtds_later : (chosen : Option UnitId) → rtds.rtds_choice ask rtds_scheduler rtds_burned ≡ chosen → DecidesLater ask.at.0 (RtdsPool domains) (rtds.rtds_decision_for ask rtds_burned chosen)
  rtds_later None is = (let a = rtds_burn ask.cur in let b = rtds_off ask.cur in record { due = refl; records = omega (arith, a, b) })
  rtds_later (Some w) is =
      let a = rtds_burn ask.cur in
      let b = rtds_off ask.cur in
      let c = same_deadlines ask.at.0 w (λ x. record x { burned = Some ask.at.0 }) (rtds.off_domains ask.cur rtds_burned) (λ x. refl) in
      let left = rtds_left w is in
      let some : 0 < rtds.unit_left_budget rtds_burned w = grind (arith, left) in
      record { due = lt-leb (ask.at.0 + rtds.unit_left_budget rtds_burned w) ask.at.0 (omega (arith, some)); records = omega (arith, a, b, c) }

-- Credit2: a unit of a list stays there in one as long
there_still : (n : ℕ) (xs ys : List Credit2Unit) → length ys ≡ length xs → is_some (slice_get xs n) ≡ true → is_some (slice_get ys n) ≡ true
there_still n [] ys same there = absurd (cc)
there_still n (x ∷ xs) [] same there = absurd (let e : 0 ≡ suc (length xs) = same in omega (arith, e))
there_still zero (x ∷ xs) (y ∷ ys) same there = refl
there_still (suc n) (x ∷ xs) (y ∷ ys) same there = there_still n xs ys (let e : suc (length ys) ≡ suc (length xs) = same in omega (arith, e)) there

long_enough : (a limit : ℕ) → 0 < min (max a (max 500000 limit)) (max 10000000 limit)
long_enough a limit = grind arith

min_enough : (a b : ℕ) → 0 < a → 0 < b → 0 < min a b
min_enough a b x y = grind (arith, x, y)

held_enough : (h : ℤ) → int_lt (pos 0) h ≡ true → 0 < positive_part h
held_enough (pos zero) is = absurd (cc)
held_enough (pos (suc n)) is = omega arith
held_enough (negsuc n) is = absurd (cc)

module _ (ask : Ask) (queue : List UnitId) (affinity : List (Option (List Cores))) (records : Credit2Records) where
  abbrev scheduler : Scheduler
  scheduler = record { queue = queue; affinity = affinity; records = Credit2Pool records }

  abbrev t : ℕ
  t = ask.at.0

  abbrev left : Credit2Records → ℕ
  left x = total (of_credit2 t) x.domains

  abbrev burned : Credit2Records
  burned = credit2.own_burned_records ask.cur t records

  abbrev chosen : Option UnitId
  chosen = credit2.credit2_choice ask scheduler burned

  decided_less : (choice : Option UnitId) → left (decided_records ask records choice) ≤ left records
  decided_less choice =
      subst (λ (places : List (Option Credit2Domain)). total (of_credit2 t) places ≤ left records) (sym (decided_domains ask records choice))
      (total-change_each_less (of_credit2 t) (decided_domain ask records choice) records.domains (λ d x. one_less _ _ (λ due. subst (λ (o : Option ℕ). is_refill_due t o ≡ true) (leaves ask records choice d x).refill due)))

  abbrev There : ℕ → Credit2Domain → Type 0
  There n d = is_some (slice_get d.units n) ≡ true

  -- the chosen unit goes on, or waits, and its domain has budget
  own_pays : (cur : Option UnitId) → ask.cur ≡ cur → (w : UnitId) → elim cur as (λ _. Option UnitId) [ None ↦ None | Some u ↦ cond (ask.runnable && is_unit_allowed scheduler ask.home.0 ask.core.0 u && credit2.has_domain_budget burned u) (Some u) None ] ≡ Some w
      → ((ask.cur ≡ Some w) ⊎ (has_listed_unit queue w ≡ true)) × (credit2.has_domain_budget burned w ≡ true)
  own_pays None cur w e = absurd (cc)
  own_pays (Some u) cur w e =
      by_cond (λ (o : Option UnitId). o ≡ Some w → ((ask.cur ≡ Some w) ⊎ (has_listed_unit queue w ≡ true)) × (credit2.has_domain_budget burned w ≡ true)) (ask.runnable && is_unit_allowed scheduler ask.home.0 ask.core.0 u && credit2.has_domain_budget burned u) (Some u) None
      (λ all h. (let same : u ≡ w = cc in subst (λ (x : UnitId). ((ask.cur ≡ Some x) ⊎ (has_listed_unit queue x ≡ true)) × (credit2.has_domain_budget burned x ≡ true)) same (inl cur, and_right (ask.runnable && is_unit_allowed scheduler ask.home.0 ask.core.0 u) _ all)))
      (λ none h. absurd (cc)) e

  chosen_pays : (w : UnitId) → chosen ≡ Some w → ((ask.cur ≡ Some w) ⊎ (has_listed_unit queue w ≡ true)) × (credit2.has_domain_budget burned w ≡ true)
  chosen_pays w =
      let own : Option UnitId = credit2.credit2_candidate ask scheduler burned in
      let waiting : List UnitId = eligible_units (record scheduler { records = Credit2Pool burned }) ask.home.0 ask.core.0 ask.at.0 in
      let Q : Option UnitId → Type 0 = λ o. o ≡ Some w → ((ask.cur ≡ Some w) ⊎ (has_listed_unit queue w ≡ true)) × (credit2.has_domain_budget burned w ≡ true) in
      by_cond Q ask.leaving None _ (λ goes e. absurd (cc))
      (λ stays. by_cond Q (is_some own && credit2.is_rate_limited burned ask.since.0 ask.at.0) own (credit2.richest_unit burned own waiting) (λ is e. own_pays ask.cur refl w e)
      (λ is e. elim (is_best (credit_order burned) (greatest_scan burned) own waiting w e).source [
        | inl o ↦ own_pays ask.cur refl w o
        | inr has ↦ (let h = has_filter (is_unit_eligible (record scheduler { records = Credit2Pool burned }) ask.home.0 ask.core.0 ask.at.0) queue w has in (inr h.0, and_right (is_unit_allowed scheduler ask.home.0 ask.core.0 w) _ h.1))
      ]))

  -- each unit that waits, and the core's own, has a record
  module _ (has_unit_there : (w : UnitId) → (ask.cur ≡ Some w) ⊎ (has_listed_unit queue w ≡ true) → Has (There w.n) records.domains w.dom.0) where
    abbrev taken : UnitId → Credit2Records
    taken w = taken_records ask records w

    abbrev Lasts : ℕ → Credit2Domain → Type 0
    Lasts n d = (is_some (slice_get d.units n) ≡ true) × (is_funded d n ≡ true)

    lasts : (w : UnitId) → chosen ≡ Some w → Has (Lasts w.n) (taken w).domains w.dom.0
    lasts w is =
        let d : ℕ = w.dom.0 in
        let c = chosen_pays w is in
        let has = has_unit_there w c.0 in
        let x : Credit2Domain = has.domain in
        let k : ℕ = credit2.reset_count t w burned in
        let most : ℕ = credit2.most_weight records in
        let most2 : ℕ = credit2.most_weight burned in
        let same : most2 ≡ most = most_stays ask.cur t records in
        let had : Option ℕ = number_in d ask.cur in
        let first : Credit2Domain → Credit2Domain = own_charged most t had in
        let y : Credit2Domain = was_reset most2 t k (first x) in
        let there : There w.n y = there_still w.n x.units y.units (leaves_taken most most2 t k had None x same).count has.fact in
        let charged : at_place burned.domains d ≡ Some (first x) = domain_burned ask records d ∙ ap (option_map first) has.at in
        let pays : has_cap_budget y ≡ true = reset_budget most2 t k (first x) ∙ sym (ap (λ (o : Option Credit2Domain). elim o as (λ _. Bool) [ None ↦ false | Some z ↦ has_cap_budget z ]) charged) ∙ c.1 in
        record {
          domain = credit2.domain_after_take w.n y;
          at = domain_took ask records w d ∙ ap (option_map (taken_domain most most2 t k had (number_in d (Some w)))) has.at ∙ ap (λ (o : Option ℕ). Some (taken_domain most most2 t k had o x)) (own_number w);
          fact = (there_still w.n x.units _ (leaves_taken most most2 t k had (Some w.n) x same).count has.fact, takes_funded w.n y pays there);
        }

    slice_lasts : (w : UnitId) (rs : Credit2Records) → Has (Lasts w.n) rs.domains w.dom.0 → 0 < credit2.chosen_slice ask scheduler rs w
    slice_lasts w rs has =
        let d : Credit2Domain = has.domain in
        by_option (λ (k : ℕ). 0 < k) (at_place rs.domains w.dom.0) _ _ (λ none. (let e = has.at in absurd (cc)))
        (λ x at. (
        let same : x ≡ d = (let e = has.at in cc) in
        let facts : Lasts w.n x = subst (Lasts w.n) (sym same) has.fact in
        by_option (λ (k : ℕ). 0 < k) (slice_get x.units w.n) _ _ (λ none. (let e = ap is_some none in let f = facts.0 in absurd (cc)))
        (λ y get. (
        let long : ℕ = slice_length y.credit (credit2.best_other_credit ask scheduler rs w) x.weight (credit2.most_weight rs) (rs.limit * 1000) in
        let some : 0 < long = long_enough _ (rs.limit * 1000) in
        by_cond (λ (k : ℕ). 0 < k) (x.cap == 0) long (min long (positive_part y.held)) (λ free. some)
        (λ capped. min_enough long (positive_part y.held) some (held_enough y.held (held_of x y w.n get capped facts.1)))))))
      where
        held_of : (x : Credit2Domain) (y : Credit2Unit) (n : ℕ) → slice_get x.units n ≡ Some y → (x.cap == 0) ≡ false → is_funded x n ≡ true → int_lt (pos 0) y.held ≡ true
        held_of x y n get capped funded =
            let rest = sym (ap (λ b. b || (not (int_lt x.budget (pos 0)) && elim (slice_get x.units n) as (λ _. Bool) [ None ↦ false | Some z ↦ int_lt (pos 0) z.held ])) capped) ∙ funded in
            sym (ap (λ (o : Option Credit2Unit). elim o as (λ _. Bool) [ None ↦ false | Some z ↦ int_lt (pos 0) z.held ]) get) ∙ and_right (not (int_lt x.budget (pos 0))) _ rest

    credit2_later : (o : Option UnitId) → chosen ≡ o → DecidesLater t (Credit2Pool records) (credit2.credit2_decision_for ask scheduler burned o)
    credit2_later None is = record { due = refl; records = decided_less None }
    credit2_later (Some w) is =
        let some = slice_lasts w (taken w) (lasts w is) in
        record { due = lt-leb (t + credit2.chosen_slice ask scheduler (taken w) w) t (omega (arith, some)); records = decided_less (Some w) }

-- what a decision needs of the pool
pub record IsReady (ask : Ask) (queue : List UnitId) (records : Records) : Type 0 where
  pub frame : (arinc : ArincRecords) (frame : Frame) → records ≡ ArincPool arinc → arinc.frame ≡ Some frame → 0 < frame.major.0
  pub units : (rs : Credit2Records) → records ≡ Credit2Pool rs → (w : UnitId) → (ask.cur ≡ Some w) ⊎ (has_listed_unit queue w ≡ true) → Has (λ d. is_some (slice_get d.units w.n) ≡ true) rs.domains w.dom.0

decides_by : (ask : Ask) (queue : List UnitId) (affinity : List (Option (List Cores))) (records : Records) → IsReady ask queue records → DecidesLater ask.at.0 records (decision_of ask (record { queue = queue; affinity = affinity; records = records }))
decides_by ask queue affinity (Credit2Pool rs) ready = credit2_later ask queue affinity rs (ready.units rs refl) (credit2.credit2_choice ask (record { queue = queue; affinity = affinity; records = Credit2Pool rs }) (credit2.own_burned_records ask.cur ask.at.0 rs)) refl
decides_by ask queue affinity (RtdsPool xs) ready = rtds_later ask queue affinity xs (rtds.rtds_choice ask (record { queue = queue; affinity = affinity; records = RtdsPool xs }) (rtds.own_burned_domains ask.cur ask.at.0 xs)) refl
decides_by ask queue affinity (ArincPool arinc) ready = arinc_later ask (record { queue = queue; affinity = affinity; records = ArincPool arinc }) arinc (λ frame at. ready.frame arinc frame refl at) (cond ask.leaving None (current_window arinc ask.at.0)) refl
decides_by ask queue affinity (NullPool kept) ready =
    by_cond (DecidesLater ask.at.0 (NullPool kept)) ask.leaving _ _ (λ is. record { due = refl; records = omega arith }) (λ is. by_choice (null.null_choice ask (record { queue = queue; affinity = affinity; records = NullPool kept }) kept))
  where
    by_choice : (o : Option UnitId) → DecidesLater ask.at.0 (NullPool kept) (null.null_decision_for ask.core.0 kept o)
    by_choice None = record { due = refl; records = omega arith }
    by_choice (Some u) = record { due = refl; records = omega arith }

pub decides_later : (ask : Ask) (scheduler : Scheduler) → IsReady ask scheduler.queue scheduler.records → DecidesLater ask.at.0 scheduler.records (decision_of ask scheduler)
decides_later ask scheduler ready = decides_by ask scheduler.queue scheduler.affinity scheduler.records ready
