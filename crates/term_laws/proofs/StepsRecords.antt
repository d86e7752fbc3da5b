-- The decision of a Credit2 pool, and what becomes of one domain of it.
use Rattle.std.proofs.Common.{◌≡◌, ◌<◌, ◌≤◌, ◌+◌, ◌*◌, ℕ, Bool, true, false, refl, arith, ap, subst, sym, ◌∙◌, cond}
use Rattle.std.specs.Prelude.{Option, Some, None, option_map, slice_get, min, ◌==◌, ℤ, pos, negsuc, ◌+ℤ◌, ◌≤ℤ◌}
use Rattle.std.proofs.lemmas.Int.{ints}
use Rattle.sched_base.specs.Numbers.{moment}
use Rattle.sched_base.specs.Credit2Numbers.{positive_part, slice_length}
use Rattle.sched_base.specs.declared.Moment.{Moment}
use Rattle.sched_base.specs.declared.UnitId.{UnitId}
use Rattle.sched_model.specs.declared.ask.Ask.{Ask}
use Rattle.sched_model.specs.declared.state.Scheduler.{Scheduler}
use Rattle.sched_model.specs.declared.state.Credit2Unit.{Credit2Unit}
use Rattle.sched_model.specs.declared.state.Credit2Domain.{Credit2Domain}
use Rattle.sched_model.specs.declared.state.Credit2Records.{Credit2Records}
use Rattle.sched_model.specs.declared.state.Records.TheVariants.{Credit2Pool}
use Rattle.sched_model.specs.Places.{at_place}
use Rattle.sched_model.specs.EligibleUnits.{Decision, has_cap_budget}
use Rattle.sched_model.specs.Credit2.{most_weight, own_burned_records, credit2_choice, has_domain_budget, reset_count, domain_after_take, best_other_credit, chosen_slice, credit2_decision_for, credit2_decision}
use Rattle.sched_laws.specs.PoolFacts.{IfUnit}
use Rattle.state_ranges.proofs.Decided.{choice_pays}
use Rattle.record_laws.specs.Decisions.{decided_domain}
use Rattle.record_laws.proofs.Changes.{number_here}
use Rattle.record_laws.proofs.Credit2Seen.{taken_records, decided_records, records_decided, domain_decided, domain_burned, domain_took}
use Rattle.term_laws.proofs.CapTracks.{Stops, number_in}
use Rattle.term_laws.proofs.StepsDomain.{ArePast, is_capped}
use Rattle.term_laws.proofs.StepsChosen.{own_charged, was_reset, has_taken, part_of, HoldsIt, own_cap, reset_cap, holds_taken, taken_is}
use Rattle.term_laws.proofs.StepsDecided.{DomainDecides, taken_by, domain_decides}

-- the chosen unit of a capped domain runs for no longer than what it took
slice_low : (ask : Ask) (scheduler : Scheduler) (records : Credit2Records) (u : UnitId) (x : Credit2Domain) (h : ℤ) → at_place records.domains u.dom.0 ≡ Some x → 0 < x.cap → HoldsIt u.n h x.units → chosen_slice ask scheduler records u ≤ positive_part h
slice_low ask scheduler records u x h at some holds =
    subst (λ (n : ℕ). n ≤ positive_part h) (sym (ap (λ (o : Option Credit2Domain). of_domain o) at)) (by_unit (slice_get x.units u.n) refl)
  where
    long : Credit2Domain → Credit2Unit → ℕ
    long d y = slice_length y.credit (best_other_credit ask scheduler records u) d.weight (most_weight records) (records.limit * 1000)

    of_unit : Credit2Domain → Option Credit2Unit → ℕ
    of_unit d o = elim o [ None ↦ 0 | Some y ↦ cond (d.cap == 0) (long d y) (min (long d y) (positive_part y.held)) ]

    of_domain : Option Credit2Domain → ℕ
    of_domain o = elim o [ None ↦ 0 | Some d ↦ of_unit d (slice_get d.units u.n) ]

    by_unit : (o : Option Credit2Unit) → slice_get x.units u.n ≡ o → of_unit x o ≤ positive_part h
    by_unit None is = omega arith
    by_unit (Some y) is =
        let e : cond (x.cap == 0) (long x y) (min (long x y) (positive_part y.held)) ≡ min (long x y) (positive_part y.held) = ap (λ (c : Bool). cond c (long x y) (min (long x y) (positive_part y.held))) (is_capped x.cap some) in
        let e2 : positive_part y.held ≡ positive_part h = ap positive_part (holds y is) in
        omega (arith, e, e2)

-- what a decision does to the record of the domain d; the chosen unit is due when what it took is used up, if not before
pub record RecordDecides (d t : ℕ) (had has : Option ℕ) (due : Option Moment) (x y : Credit2Domain) : Type 0 where
  pub taken : ℤ
  pub decides : DomainDecides t had has taken x y
  pub is_due : (j : ℕ) → has ≡ Some j → (n : ℕ) × (due ≡ Some (moment n)) × (0 < x.cap → pos n ≤ℤ (pos t +ℤ taken))

pub record PoolDecides (d t : ℕ) (had : Option ℕ) (own : Credit2Records) (decision : Decision) : Type 0 where
  pub records : Credit2Records
  pub is : decision.records ≡ Credit2Pool records
  pub none : at_place own.domains d ≡ None → at_place records.domains d ≡ None
  pub some : (x : Credit2Domain) → at_place own.domains d ≡ Some x → ArePast t x.units → ((i : ℕ) → had ≡ Some i → (stop : ℤ) × Stops x i stop)
      → (y : Credit2Domain) × (at_place records.domains d ≡ Some y) × RecordDecides d t had (number_in d decision.unit) decision.due x y

module _ (d : ℕ) (ask : Ask) (scheduler : Scheduler) (own : Credit2Records) where
  abbrev had : Option ℕ
  had = number_in d ask.cur

  abbrev burned : Credit2Records
  burned = own_burned_records ask.cur ask.at.0 own

  decides_idle : PoolDecides d ask.at.0 had own (credit2_decision_for ask scheduler burned None)
  decides_idle = record {
    records = decided_records ask own None;
    is = records_decided ask own scheduler None;
    none = λ at. domain_decided ask own None d ∙ ap (option_map (decided_domain ask own None d)) at;
    some = λ x at past runs. (
      decided_domain ask own None d x,
      domain_decided ask own None d ∙ ap (option_map (decided_domain ask own None d)) at,
      record {
        taken = pos 0;
        decides = domain_decides (most_weight own) (most_weight burned) ask.at.0 0 x past had None runs (λ j is. absurd (cc));
        is_due = λ j is. absurd (cc);
      },
    );
  }

  -- the budget of the chosen unit's domain
  pays_here : (u : UnitId) (x : Credit2Domain) → at_place own.domains d ≡ Some x → has_domain_budget burned u ≡ true → (j : ℕ) → number_in d (Some u) ≡ Some j → has_cap_budget (own_charged (most_weight own) ask.at.0 had x) ≡ true
  pays_here u x at pays j is =
      let here = number_here d j u is in
      let there : at_place burned.domains u.dom.0 ≡ Some (own_charged (most_weight own) ask.at.0 had x) =
      ap (λ (k : ℕ). at_place burned.domains k) here.0 ∙ domain_burned ask own d ∙ ap (option_map (own_charged (most_weight own) ask.at.0 had)) at in
      sym (ap (λ (o : Option Credit2Domain). elim o as (λ _. Bool) [ None ↦ false | Some z ↦ has_cap_budget z ]) there) ∙ pays

  module _ (u : UnitId) (pays : has_domain_budget burned u ≡ true) where
    abbrev k : ℕ
    k = reset_count ask.at.0 u burned

    abbrev taken : Credit2Records
    taken = taken_records ask own u

    abbrev first : Credit2Domain → Credit2Domain
    first = own_charged (most_weight own) ask.at.0 had

    abbrev second : Credit2Domain → Credit2Domain
    second = was_reset (most_weight burned) ask.at.0 k

    abbrev all : Credit2Domain → Credit2Domain
    all = decided_domain ask own (Some u) d

    due_low : (x : Credit2Domain) → at_place own.domains d ≡ Some x → (j : ℕ) → number_in d (Some u) ≡ Some j → 0 < x.cap → pos 0 ≤ℤ taken_by (number_in d (Some u)) (second (first x))
        → pos (ask.at.0 + chosen_slice ask scheduler taken u) ≤ℤ (pos ask.at.0 +ℤ taken_by (number_in d (Some u)) (second (first x)))
    due_low x at j is some low =
        let here = number_here d j u is in
        let is_n : number_in d (Some u) ≡ Some u.n = is ∙ ap (λ (n : ℕ). Some n) (sym here.1) in
        let z : Credit2Domain = second (first x) in
        let caps : z.cap ≡ x.cap = reset_cap (most_weight burned) ask.at.0 k (first x) ∙ own_cap (most_weight own) ask.at.0 had x in
        let some_z : 0 < z.cap = subst (λ (n : ℕ). 0 < n) (sym caps) some in
        let there : at_place taken.domains u.dom.0 ≡ Some (domain_after_take u.n z) =
        ap (λ (n : ℕ). at_place taken.domains n) here.0 ∙ domain_took ask own u d ∙ ap (option_map (λ (y : Credit2Domain). has_taken (number_in d (Some u)) (second (first y)))) at ∙ ap (λ (o : Option ℕ). Some (has_taken o z)) is_n in
        let some_t : 0 < (domain_after_take u.n z).cap = subst (λ (n : ℕ). 0 < n) (sym (ap (λ (y : Credit2Domain). y.cap) (taken_is u.n z some_z))) some_z in
        let s = slice_low ask scheduler taken u (domain_after_take u.n z) (part_of z) there some_t (holds_taken u.n z some_z) in
        let taken_is_part : taken_by (number_in d (Some u)) z ≡ part_of z = ap (λ (o : Option ℕ). taken_by o z) is_n in
        let low2 : pos 0 ≤ℤ part_of z = subst (λ (h : ℤ). pos 0 ≤ℤ h) taken_is_part low in
        subst (λ (h : ℤ). pos (ask.at.0 + chosen_slice ask scheduler taken u) ≤ℤ (pos ask.at.0 +ℤ h)) (sym taken_is_part) (within (chosen_slice ask scheduler taken u) (part_of z) s low2)
      where
        within : (n : ℕ) (h : ℤ) → n ≤ positive_part h → pos 0 ≤ℤ h → pos (ask.at.0 + n) ≤ℤ (pos ask.at.0 +ℤ h)
        within n (pos h) less low3 = omega (arith, ints, less)
        within n (negsuc h) less low3 = absurd (omega (arith, ints, low3))

    decided : (x : Credit2Domain) → at_place own.domains d ≡ Some x → ArePast ask.at.0 x.units → ((i : ℕ) → had ≡ Some i → (stop : ℤ) × Stops x i stop)
        → DomainDecides ask.at.0 had (number_in d (Some u)) (taken_by (number_in d (Some u)) (second (first x))) x (all x)
    decided x at past runs = domain_decides (most_weight own) (most_weight burned) ask.at.0 k x past had (number_in d (Some u)) runs (pays_here u x at pays)

    decides_unit : PoolDecides d ask.at.0 had own (credit2_decision_for ask scheduler burned (Some u))
    decides_unit = record {
      records = decided_records ask own (Some u);
      is = refl;
      none = λ at. domain_decided ask own (Some u) d ∙ ap (option_map all) at;
      some = λ x at past runs. (
        all x,
        domain_decided ask own (Some u) d ∙ ap (option_map all) at,
        record {
          taken = taken_by (number_in d (Some u)) (second (first x));
          decides = decided x at past runs;
          is_due = λ j is. (ask.at.0 + chosen_slice ask scheduler taken u, refl, λ some. due_low x at j is some ((decided x at past runs).low some));
        },
      );
    }

  pub pool_decides : PoolDecides d ask.at.0 had own (credit2_decision ask scheduler own)
  pool_decides = by_choice (credit2_choice ask scheduler burned) (choice_pays ask.at.0 (λ n k. Unit {0}) ask scheduler burned)
    where
      by_choice : (c : Option UnitId) → IfUnit (λ u. has_domain_budget burned u ≡ true) c → PoolDecides d ask.at.0 had own (credit2_decision_for ask scheduler burned c)
      by_choice None pays = decides_idle
      by_choice (Some u) pays = decides_unit u pays
