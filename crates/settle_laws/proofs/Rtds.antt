-- A decision of an RTDS core: of the units that wait none changes its claim, and the chosen one goes before all of them.
use Rattle.std.proofs.Common.{◌≡◌, ℕ, Bool, true, false, List, refl, sym, ap, subst, ◌∙◌, cond}
use Rattle.std.specs.Prelude.{Option, Some, None, ◌&&◌, ◌||◌, ◌==◌, nat_lt, option_map}
use Rattle.sched_base.proofs.Bools.{and_left, and_right}
use Rattle.sched_base.specs.declared.Cores.{Cores}
use Rattle.sched_base.specs.declared.UnitId.{UnitId}
use Rattle.sched_model.specs.declared.state.Records.{Records}
use Rattle.sched_model.specs.declared.state.Records.TheVariants.{RtdsPool}
use Rattle.sched_model.specs.declared.state.RtdsUnit.{RtdsUnit}
use Rattle.sched_model.specs.declared.state.Scheduler.{Scheduler}
use Rattle.sched_model.specs.declared.ask.Ask.{Ask}
use Rattle.sched_model.specs.Places.{has_listed_unit, is_unit}
use Rattle.sched_model.specs.EligibleUnits.{Decision, is_unit_allowed, is_unit_eligible, eligible_units, may_have_core, rtds_unit_at}
use Rattle.sched_model.specs.Policy.{after_decision, decision_of, is_unit_better}
use Rattle.sched_model.specs.Rtds as rtds
use Rattle.sched_model.specs.Rtds.{is_record_before, is_unit_before, first_of_units}
use Rattle.sched_laws.proofs.Choices.{foremost_has}
use Rattle.sched_laws.proofs.EachPlace.{by_option, by_cond}
use Rattle.sched_laws.proofs.RtdsUnits.{rtds_unit-other}
use Rattle.sched_laws.specs.PoolFacts.{IfUnit}
use Rattle.record_laws.specs.Decisions.{after_decision as unit_after, charged_if}
use Rattle.record_laws.proofs.Best.{is_best, none_listed}
use Rattle.record_laws.proofs.Orders.{before_order, foremost_scan}
use Rattle.record_laws.proofs.RtdsSeen.{burned_at, decided_units, unit_decided, units_decided}
use Rattle.settle_laws.specs.Wanted.{waits_for}
use Rattle.settle_laws.proofs.Waiting.{Left, has_filter, all_filter}
use Rattle.settle_laws.proofs.Spares.{Apart, Spares, others_from, own_from}

-- what of a unit's record the order and the right to run read
record Claim : Type 0 where
  level : ℕ
  deadline : ℕ
  left : ℕ

abbrev claim : RtdsUnit → Claim
claim x = record { level = x.level; deadline = x.deadline; left = x.left }

abbrev Domains : Type 0
Domains = List (Option (List RtdsUnit))

abbrev claim_of : Domains → UnitId → Option Claim
claim_of domains u = option_map claim (rtds_unit_at domains u)

abbrev may_run : Option Claim → Bool
may_run None = false
may_run (Some a) = nat_lt 0 a.left

abbrev before_of : Option Claim → Option Claim → Bool
before_of None b = false
before_of (Some a) None = false
before_of (Some a) (Some b) = nat_lt a.level b.level || (a.level == b.level && nat_lt a.deadline b.deadline)

runs_by : (o : Option RtdsUnit) → elim o as (λ _. Bool) [ None ↦ false | Some x ↦ nat_lt 0 x.left ] ≡ may_run (option_map claim o)
runs_by None = refl
runs_by (Some x) = refl

before_by : (a b : Option RtdsUnit) → elim a as (λ _. Bool) [ None ↦ false | Some x ↦ elim b as (λ _. Bool) [ None ↦ false | Some y ↦ is_record_before x y ] ] ≡ before_of (option_map claim a) (option_map claim b)
before_by None b = refl
before_by (Some x) None = refl
before_by (Some x) (Some y) = refl

before_is : (domains : Domains) (u w : UnitId) → is_unit_before domains u w ≡ before_of (claim_of domains u) (claim_of domains w)
before_is domains u w = before_by (rtds_unit_at domains u) (rtds_unit_at domains w)

claim_burned : (cur : Option UnitId) (t : ℕ) (domains : Domains) (w : UnitId) → is_unit cur w ≡ false → claim_of (rtds.own_burned_domains cur t domains) w ≡ claim_of domains w
claim_burned None t domains w other = refl
claim_burned (Some v) t domains w other = ap (option_map claim) (rtds_unit-other v w (rtds.unit_burned_to t) domains other)

-- a decision shows no more of a claim than the charge of the core's own unit
claim_after : (ask : Ask) (domains : Domains) (chosen : Option UnitId) (w : UnitId) → claim_of (decided_units ask domains chosen) w ≡ claim_of (rtds.own_burned_domains ask.cur ask.at.0 domains) w
claim_after ask domains chosen w =
    ap (option_map claim) (unit_decided ask domains chosen w) ∙ by_record (is_unit ask.cur w) (is_unit chosen w) (rtds_unit_at domains w) ∙ sym (ap (option_map claim) (burned_at w ask.cur ask.at.0 domains))
  where
    by_record : (had has : Bool) (o : Option RtdsUnit) → option_map claim (option_map (unit_after ask.at.0 had has) o) ≡ option_map claim (option_map (charged_if had ask.at.0) o)
    by_record had has None = refl
    by_record true true (Some x) = refl
    by_record true false (Some x) = refl
    by_record false true (Some x) = refl
    by_record false false (Some x) = refl

decide_unit : (ask : Ask) (domains : Domains) (chosen : Option UnitId) → (rtds.rtds_decision_for ask domains chosen).unit ≡ chosen
decide_unit ask domains None = refl
decide_unit ask domains (Some u) = refl

-- what a waiting unit asks for, by its claim and that of the core's own unit
abbrev own_claim : Domains → Option UnitId → Option Claim
own_claim domains None = None
own_claim domains (Some x) = claim_of domains x

abbrev asks_for : Option UnitId → Bool → Option Claim → Option Claim → Bool
asks_for None allowed a b = allowed && may_run a
asks_for (Some x) allowed a b = (allowed && may_run a) && before_of a b

waits_is : (s : Scheduler) (domains : Domains) (cur : Option UnitId) (since t k home : ℕ) (w : UnitId) → s.records ≡ RtdsPool domains
    → waits_for cur since t k home s w ≡ asks_for cur (is_unit_allowed s home k w) (claim_of domains w) (own_claim domains cur)
waits_is s domains None since t k home w is =
    ap (λ (r : Records). is_unit_allowed s home k w && may_have_core r s home k t w) is
    ∙ ap (λ (b : Bool). is_unit_allowed s home k w && b) (runs_by (rtds_unit_at domains w))
waits_is s domains (Some x) since t k home w is =
    ap (λ (r : Records). (is_unit_allowed s home k w && may_have_core r s home k t w) && is_unit_better r x since t w) is
    ∙ ap (λ (b : Bool). (is_unit_allowed s home k w && b) && is_unit_before domains w x) (runs_by (rtds_unit_at domains w))
    ∙ ap (λ (b : Bool). (is_unit_allowed s home k w && may_run (claim_of domains w)) && b) (before_is domains w x)

module _ (ask : Ask) (queue : List UnitId) (affinity : List (Option (List Cores))) (domains : Domains) (waits_not : (w : UnitId) → has_listed_unit queue w ≡ true → is_unit ask.cur w ≡ false) where
  abbrev s : Scheduler
  s = record { queue = queue; affinity = affinity; records = RtdsPool domains }

  abbrev burned : Domains
  burned = rtds.own_burned_domains ask.cur ask.at.0 domains

  abbrev chosen : Option UnitId
  chosen = rtds.rtds_choice ask s burned

  abbrev decision : Decision
  decision = decision_of ask s

  abbrev next : Scheduler
  next = after_decision decision s

  abbrev last : Domains
  last = decided_units ask domains chosen

  unit_is : decision.unit ≡ chosen
  unit_is = decide_unit ask burned chosen

  records_is : next.records ≡ RtdsPool last
  records_is = units_decided ask domains chosen

  claim_last : (w : UnitId) → is_unit ask.cur w ≡ false → claim_of last w ≡ claim_of domains w
  claim_last w other = claim_after ask domains chosen w ∙ claim_burned ask.cur ask.at.0 domains w other

  others_claim : (cur : Option UnitId) → ((x : UnitId) → cur ≡ Some x → Apart ask s x) → own_claim last cur ≡ own_claim domains cur
  others_claim None apart = refl
  others_claim (Some x) apart = claim_last x (apart x refl).other

  others : (k : ℕ) (cur : Option UnitId) (since : ℕ) → ((x : UnitId) → cur ≡ Some x → Apart ask s x) → (w : UnitId) → Left decision.unit queue w
      → waits_for cur since ask.at.0 k ask.home.0 next w ≡ waits_for cur since ask.at.0 k ask.home.0 s w
  others k cur since apart w left =
      waits_is next last cur since ask.at.0 k ask.home.0 w records_is
      ∙ ap (λ (a : Option Claim). asks_for cur (is_unit_allowed s ask.home.0 k w) a (own_claim last cur)) (claim_last w (waits_not w left.waits))
      ∙ ap (λ (b : Option Claim). asks_for cur (is_unit_allowed s ask.home.0 k w) (claim_of domains w) b) (others_claim cur apart)
      ∙ sym (waits_is s domains cur since ask.at.0 k ask.home.0 w refl)

  abbrev at_choice : Scheduler
  at_choice = record s { records = RtdsPool burned }

  abbrev asked : List UnitId
  asked = eligible_units at_choice ask.home.0 ask.core.0 ask.at.0

  abbrev IsAllowed : UnitId → Type 0
  IsAllowed u = is_unit_allowed s ask.home.0 ask.core.0 u ≡ true

  abbrev own_unit : Option UnitId
  own_unit = rtds.rtds_candidate ask s burned

  own_allowed : IfUnit IsAllowed own_unit
  own_allowed =
      by_option (IfUnit IsAllowed) ask.cur _ _ (λ is. tt)
      (λ u is. by_cond (IfUnit IsAllowed) (ask.runnable && is_unit_allowed s ask.home.0 ask.core.0 u && nat_lt 0 (rtds.unit_left_budget burned u)) _ _ (λ may. and_right ask.runnable _ (and_left (ask.runnable && is_unit_allowed s ask.home.0 ask.core.0 u) _ may)) (λ may. tt))

  chosen_allowed : IfUnit IsAllowed chosen
  chosen_allowed =
      by_cond (IfUnit IsAllowed) ask.leaving _ _ (λ is. tt)
      (λ is. foremost_has IsAllowed burned own_unit asked own_allowed (all_filter IsAllowed (is_unit_eligible at_choice ask.home.0 ask.core.0 ask.at.0) queue (λ u may. and_left _ _ may)))

  -- no unit that waits is asked for by the core of the chosen one
  none_asked : ask.leaving ≡ false → (since : ℕ) (w : UnitId) → has_listed_unit queue w ≡ true → waits_for chosen since ask.at.0 ask.core.0 ask.home.0 at_choice w ≡ false
  none_asked stays since w waits =
      by_choice chosen (sym (ap (λ (b : Bool). cond b None (first_of_units burned own_unit asked)) stays))
    where
      -- with the eligible ones a unit that is asked for
      by_choice : (o : Option UnitId) → first_of_units burned own_unit asked ≡ o → waits_for o since ask.at.0 ask.core.0 ask.home.0 at_choice w ≡ false
      by_choice None is =
          elim (is_unit_eligible at_choice ask.home.0 ask.core.0 ask.at.0 w) as (λ b. is_unit_eligible at_choice ask.home.0 ask.core.0 ask.at.0 w ≡ b → b ≡ false) [
            | true ↦ λ may. absurd (none_listed (before_order burned) (foremost_scan burned) own_unit w asked (has_filter _ queue w waits may) is)
            | false ↦ λ may. refl
          ] refl
      by_choice (Some u) is =
          elim (is_unit_eligible at_choice ask.home.0 ask.core.0 ask.at.0 w) as (λ b. is_unit_eligible at_choice ask.home.0 ask.core.0 ask.at.0 w ≡ b → (b && is_unit_before burned w u) ≡ false) [
            | true ↦ λ may. (is_best (before_order burned) (foremost_scan burned) own_unit asked u is).none_better w (has_filter _ queue w waits may)
            | false ↦ λ may. refl
          ] refl

  own_claims : own_claim last chosen ≡ own_claim burned chosen
  own_claims = by_choice chosen
    where
      by_choice : (o : Option UnitId) → own_claim last o ≡ own_claim burned o
      by_choice None = refl
      by_choice (Some u) = claim_after ask domains chosen u

  pub rtds_spares : Spares ask s
  rtds_spares = record {
    others = λ k cur since other apart is. others_from decision s k ask.at.0 ask.home.0 cur since (λ w left waits. sym (others k cur since apart w left) ∙ waits) is;
    own = λ since stays fits. own_from decision s ask.core.0 ask.at.0 ask.home.0 since
        (λ u is. subst (IfUnit IsAllowed) (sym unit_is ∙ is) chosen_allowed)
        (λ w left.
        ap (λ (o : Option UnitId). waits_for o since ask.at.0 ask.core.0 ask.home.0 next w) unit_is
        ∙ waits_is next last chosen since ask.at.0 ask.core.0 ask.home.0 w records_is
        ∙ ap (λ (a : Option Claim). asks_for chosen (is_unit_allowed s ask.home.0 ask.core.0 w) a (own_claim last chosen)) (claim_after ask domains chosen w)
        ∙ ap (λ (b : Option Claim). asks_for chosen (is_unit_allowed s ask.home.0 ask.core.0 w) (claim_of burned w) b) own_claims
        ∙ sym (waits_is at_choice burned chosen since ask.at.0 ask.core.0 ask.home.0 w refl)
        ∙ none_asked stays since w left.waits);
  }
