-- A decision lets no event of a domain come: no deadline and no refill changes, who waits or runs after it did so before, and what its core ran it
-- runs or saves.
use Rattle.std.proofs.Common.{◌≡◌, ◌∙◌, ℕ, Bool, true, false, not, List, [], ◌∷◌, cond, refl, sym, ap, subst, inl, inr}
use Rattle.std.specs.Prelude.{Option, Some, None, ◌&&◌, ◌||◌, filter, is_some, nat_le, option_map, slice_set}
use Rattle.std.specs.List.{AllByRecursion, list_any, list_all}
use Rattle.std.proofs.lemmas.Bool.{not-true, or_cases}
use Rattle.sched_base.specs.Numbers.{core, has_moment_come, moment}
use Rattle.sched_base.specs.declared.DomId.{DomId}
use Rattle.sched_base.specs.declared.Moment.{Moment}
use Rattle.sched_base.specs.declared.UnitId.{UnitId}
use Rattle.sched_base.proofs.Bools.{and_left, and_right, clash, or_more, or_right}
use Rattle.sched_model.specs.declared.action.Action.TheVariants.{DomMoved, Refill, Repl}
use Rattle.sched_model.specs.declared.ask.Ask.{Ask}
use Rattle.sched_model.specs.declared.state.Credit2Domain.{Credit2Domain}
use Rattle.sched_model.specs.declared.state.Credit2Records.{Credit2Records}
use Rattle.sched_model.specs.declared.state.Domain.{Domain}
use Rattle.sched_model.specs.declared.state.Pool.{Pool}
use Rattle.sched_model.specs.declared.state.Records.{Records}
use Rattle.sched_model.specs.declared.state.Records.TheVariants.{Credit2Pool, RtdsPool, ArincPool, NullPool}
use Rattle.sched_model.specs.declared.state.Resource.{Resource}
use Rattle.sched_model.specs.declared.state.RtdsUnit.{RtdsUnit}
use Rattle.sched_model.specs.declared.state.Scheduler.{Scheduler}
use Rattle.sched_model.specs.Arinc.{Window}
use Rattle.sched_model.specs.Credit2 as credit2
use Rattle.sched_model.specs.EligibleUnits.{Decision, rtds_unit_at}
use Rattle.sched_model.specs.NullScheduler as null
use Rattle.sched_model.specs.Places.{at_place, change_at, has_listed_unit, is_unit, numbered_items, put_at, same_unit, test_at}
use Rattle.sched_model.specs.Policy.{arinc_decision, decision_by, decision_of, is_replenish_due, next_refill_moment}
use Rattle.sched_model.specs.Pool as pools
use Rattle.sched_model.specs.Pool.{core_ask, decided_core, enabled_in, is_domain_unit, is_first_processor_up, is_gathering, is_held_back, is_lowest_processor_up, same_choice, unit_core}
use Rattle.sched_model.specs.Rtds as rtds
use Rattle.sched_laws.specs.PoolFacts.{IfUnit, IsKnownPool}
use Rattle.sched_laws.proofs.Choices.{decision_has, is_unit_same}
use Rattle.sched_laws.proofs.Counts.{is_that_unit}
use Rattle.sched_laws.proofs.EachPlace.{by_cond, by_option, by_test, found_at, none_found, read_put_at}
use Rattle.sched_laws.proofs.Events.{LikePlaces, like_change_at}
use Rattle.sched_laws.proofs.Lists.{some_is, some_same}
use Rattle.sched_laws.proofs.Sound.{some_if_all}
use Rattle.record_laws.proofs.Credit2Seen.{records_decided, domain_decided}
use Rattle.record_laws.proofs.Charges.{leaves}
use Rattle.record_laws.proofs.RtdsSeen.{units_decided, unit_decided, unit_leaves}
use Rattle.sched_plain.proofs.AlikeCores.{UpAsBefore, lowest_same, none_less}
use Rattle.sched_plain.proofs.TouchedSteps.{both}

-- the refill of a Credit2 domain
abbrev refill_in : Option Credit2Domain → Option Moment
refill_in o = elim o as (λ _. Option Moment) [ None ↦ None | Some x ↦ option_map moment x.refill ]

mapped_refill : (f : Credit2Domain → Credit2Domain) → ((x : Credit2Domain) → (f x).refill ≡ x.refill) → (o : Option Credit2Domain) → refill_in (option_map f o) ≡ refill_in o
mapped_refill f keeps None = refl
mapped_refill f keeps (Some x) = ap (λ (m : Option ℕ). option_map moment m) (keeps x)

-- other schedulers have none
rtds_refill : (d : ℕ) (ask : Ask) (domains : List (Option (List RtdsUnit))) (choice : Option UnitId) → next_refill_moment (rtds.rtds_decision_for ask domains choice).records d ≡ None
rtds_refill d ask domains None = refl
rtds_refill d ask domains (Some u) = refl

null_refill : (d core : ℕ) (kept : List (Option UnitId)) (choice : Option UnitId) → next_refill_moment (null.null_decision_for core kept choice).records d ≡ None
null_refill d core kept None = refl
null_refill d core kept (Some u) = refl

window_records : (ask : Ask) (s : Scheduler) (window : Option Window) → (arinc_decision ask s window).records ≡ s.records
window_records ask s None = refl
window_records ask s (Some window) = refl

refill_by : (d : ℕ) (ask : Ask) (s : Scheduler) (records : Records) → s.records ≡ records → next_refill_moment (decision_by records ask s).records d ≡ next_refill_moment records d
refill_by d ask s (Credit2Pool records) is =
    let choice : Option UnitId = credit2.credit2_choice ask s (credit2.own_burned_records ask.cur ask.at.0 records) in
    ap (λ (r : Records). next_refill_moment r d) (records_decided ask records s choice) ∙ ap refill_in (domain_decided ask records choice d) ∙ mapped_refill _ (λ x. (leaves ask records choice d x).refill) (at_place records.domains d)
refill_by d ask s (RtdsPool domains) is = rtds_refill d ask (rtds.own_burned_domains ask.cur ask.at.0 domains) _
refill_by d ask s (ArincPool records) is = ap (λ (r : Records). next_refill_moment r d) (window_records ask s _ ∙ is)
refill_by d ask s (NullPool kept) is = by_cond (λ (e : Decision). next_refill_moment e.records d ≡ None) ask.leaving _ _ (λ leaves. refl) (λ stays. null_refill d ask.core.0 kept _)

-- whether the deadline of an RTDS unit has come
abbrev due_in : ℕ → Option RtdsUnit → Bool
due_in t o = elim o as (λ _. Bool) [ None ↦ false | Some x ↦ nat_le x.deadline t ]

mapped_due : (t : ℕ) (f : RtdsUnit → RtdsUnit) → ((x : RtdsUnit) → (f x).deadline ≡ x.deadline) → (o : Option RtdsUnit) → due_in t (option_map f o) ≡ due_in t o
mapped_due t f keeps None = refl
mapped_due t f keeps (Some x) = ap (λ (n : ℕ). nat_le n t) (keeps x)

credit2_due : (t : ℕ) (ask : Ask) (s : Scheduler) (w : UnitId) (records : Credit2Records) (choice : Option UnitId) → is_replenish_due (credit2.credit2_decision_for ask s records choice).records t w ≡ false
credit2_due t ask s w records None = refl
credit2_due t ask s w records (Some u) = refl

null_due : (t core : ℕ) (w : UnitId) (kept : List (Option UnitId)) (choice : Option UnitId) → is_replenish_due (null.null_decision_for core kept choice).records t w ≡ false
null_due t core w kept None = refl
null_due t core w kept (Some u) = refl

due_by : (t : ℕ) (ask : Ask) (s : Scheduler) (w : UnitId) (records : Records) → s.records ≡ records → is_replenish_due (decision_by records ask s).records t w ≡ is_replenish_due records t w
due_by t ask s w (Credit2Pool records) is = credit2_due t ask s w (credit2.own_burned_records ask.cur ask.at.0 records) _
due_by t ask s w (RtdsPool domains) is =
    let choice : Option UnitId = rtds.rtds_choice ask s (rtds.own_burned_domains ask.cur ask.at.0 domains) in
    ap (λ (r : Records). is_replenish_due r t w) (units_decided ask domains choice) ∙ ap (due_in t) (unit_decided ask domains choice w)
    ∙ mapped_due t _ (λ x. (unit_leaves ask.at.0 (is_unit ask.cur w) (is_unit choice w) x).deadline) (rtds_unit_at domains w)
due_by t ask s w (ArincPool records) is = ap (λ (r : Records). is_replenish_due r t w) (window_records ask s _ ∙ is)
due_by t ask s w (NullPool kept) is = by_cond (λ (e : Decision). is_replenish_due e.records t w ≡ false) ask.leaving _ _ (λ leaves. refl) (λ stays. null_due t ask.core.0 w kept _)

-- who waits after a choice waited before
filtered : (f keep : UnitId → Bool) (units : List UnitId) → list_any f (filter keep units) ≡ true → list_any f units ≡ true
filtered f keep [] has = has
filtered f keep (w ∷ units) has = by (filtered f keep units) (keep w) has
  where
    more : (a : Bool) → list_any f units ≡ true → (a || list_any f units) ≡ true
    more true is = refl
    more false is = is

    by : (list_any f (filter keep units) ≡ true → list_any f units ≡ true) → (b : Bool) → list_any f (cond b (w ∷ filter keep units) (filter keep units)) ≡ true → (f w || list_any f units) ≡ true
    by rest true is = elim (or_cases (f w) (list_any f (filter keep units)) is) [ inl here ↦ or_more (f w) _ here | inr behind ↦ more (f w) (rest behind) ]
    by rest false is = more (f w) (rest is)

-- each of a list is listed
all_listed : (units : List UnitId) (Q : UnitId → Type 0) → ((w : UnitId) → has_listed_unit units w ≡ true → Q w) → AllByRecursion Q units
all_listed [] Q to = tt
all_listed (w ∷ units) Q to = (to w (or_more (same_unit w w) (has_listed_unit units w) (is_that_unit (Some w) w refl)), all_listed units Q (λ z has. to z (behind (same_unit z w) (has_listed_unit units z) has)))
  where
    behind : (a b : Bool) → b ≡ true → (a || b) ≡ true
    behind true b is = refl
    behind false b is = is

module _ (g t now r : ℕ) (c : Resource) (pool : Pool) (at : at_place pool.resources r ≡ Some c) (known : IsKnownPool g pool) (may : test_at pool.resources r (λ (x : Resource). list_all is_held_back x.processors && is_gathering x && is_first_processor_up now x) ≡ true) where
  abbrev decision : Decision
  decision = decision_of (core_ask g now pool r c) pool.scheduler

  abbrev decided : Resource
  decided = decided_core now decision c

  abbrev cores : List (Option Resource)
  cores = put_at r decided pool.resources

  abbrev next : Pool
  next = pools.after_decide g now r c pool

  -- the core saves nothing yet
  no_saving : c.saving ≡ None
  no_saving =
      let passes : (list_all is_held_back c.processors && is_gathering c && is_first_processor_up now c) ≡ true = subst (λ (o : Option Resource). elim o as (λ _. Bool) [ None ↦ false | Some x ↦ list_all is_held_back x.processors && is_gathering x && is_first_processor_up now x ] ≡ true) at may in
      let both = and_left (list_all is_held_back c.processors && is_gathering c) (is_first_processor_up now c) passes in
      let up = and_right (list_all is_held_back c.processors && is_gathering c) (is_first_processor_up now c) passes in
      let held = and_left (list_all is_held_back c.processors) (is_gathering c) both in
      ((known.sound r c at).gathers (and_right (list_all is_held_back c.processors) (is_gathering c) both) (some_if_all now c.processors up held)).1

  -- one core is put in the place of another
  replaced : cores ≡ change_at r (λ (x : Resource). decided) pool.resources
  replaced = ap (λ (o : Option Resource). slice_set pool.resources r (option_map (λ (x : Resource). decided) o)) (sym at)

  like : (R : Resource → Resource → Type 0) → ((x : Resource) → R x x) → R c decided → LikePlaces R pool.resources cores
  like R itself now_r =
      subst (LikePlaces R pool.resources) (sym replaced)
      (like_change_at R r (λ (x : Resource). decided) pool.resources itself (λ x there. (let same : c ≡ x = some_same (sym at ∙ there) in subst (λ (y : Resource). R y decided) same now_r)))

  up_same : is_first_processor_up t decided ≡ is_first_processor_up t c
  up_same = by_test (λ (x : Resource). is_first_processor_up t x ≡ is_first_processor_up t c) (same_choice decision.unit c.cur) _ _ (λ is. refl) (λ is. refl)

  lowest : is_lowest_processor_up t next ≡ is_lowest_processor_up t pool
  lowest = lowest_same t pool cores (like (UpAsBefore t) (λ x. refl) up_same)

  -- what is on the core's domain stays on it
  abbrev is_on : ℕ → Resource → Bool
  is_on d x = is_domain_unit d x.cur || is_domain_unit d x.saving

  keeps_on : (d : ℕ) → is_on d decided ≡ false → is_on d c ≡ false
  keeps_on d = by_test (λ (x : Resource). is_on d x ≡ false → is_on d c ≡ false) (same_choice decision.unit c.cur) _ _ (λ is none. none)
      (λ is none. (let cur = or_right (is_domain_unit d decision.unit) (is_domain_unit d c.cur) none in ap (λ (b : Bool). b || is_domain_unit d c.saving) cur ∙ ap (is_domain_unit d) no_saving))

  pub decide_moves : (d : DomId) → enabled_in g t next (DomMoved d) ≡ true → enabled_in g t pool (DomMoved d) ≡ true
  decide_moves d on =
      let moving : Bool = test_at pool.domains d.0 (λ (x : Domain). is_some x.moving) in
      let then : Bool = list_any (λ (e : ℕ × Resource). is_on d.0 e.1) (numbered_items 0 cores) in
      let none = none_less (λ (x y : Resource). is_on d.0 y ≡ false → is_on d.0 x ≡ false) (is_on d.0) (λ x y less. less) 0 pool.resources cores (like (λ (x y : Resource). is_on d.0 y ≡ false → is_on d.0 x ≡ false) (λ x none. none) (keeps_on d.0)) (not-true then (and_right moving (not then) on)) in
      both moving (not _) (and_left moving (not then) on) (ap not none)

  pub decide_refills : (d : DomId) → enabled_in g t next (Refill d) ≡ true → enabled_in g t pool (Refill d) ≡ true
  decide_refills d on =
      let now_due : Bool = has_moment_come t (next_refill_moment decision.records d.0) in
      let low : Bool = is_lowest_processor_up t next in
      both (has_moment_come t (next_refill_moment pool.scheduler.records d.0)) (is_lowest_processor_up t pool)
      (subst (λ (o : Option Moment). has_moment_come t o ≡ true) (refill_by d.0 (core_ask g now pool r c) pool.scheduler pool.scheduler.records refl) (and_left now_due low on))
      (sym lowest ∙ and_right now_due low on)

  -- a unit that waits, or is on a core
  abbrev about : UnitId → Bool
  about u = has_listed_unit pool.scheduler.queue u || is_some (unit_core pool u)

  or_then : (a b : Bool) → b ≡ true → (a || b) ≡ true
  or_then true b is = refl
  or_then false b is = is

  on_core : (u : UnitId) (k : ℕ) (y : Resource) → at_place pool.resources k ≡ Some y → is_unit y.cur u ≡ true → is_some (unit_core pool u) ≡ true
  on_core u k y there own = by (unit_core pool u) refl
    where
      by : (o : Option ℕ) → unit_core pool u ≡ o → is_some o ≡ true
      by None is = absurd (clash (is_unit y.cur u) own (none_found 0 k (λ (x : Resource). is_unit x.cur u) pool.resources y is there))
      by (Some j) is = refl

  chosen_about : (u : UnitId) → decision.unit ≡ Some u → about u ≡ true
  chosen_about u is =
      let has : IfUnit (λ w. about w ≡ true) decision.unit =
      decision_has (λ w. about w ≡ true) (core_ask g now pool r c) pool.scheduler (all_listed pool.scheduler.queue (λ w. about w ≡ true) (λ w waits. or_more (has_listed_unit pool.scheduler.queue w) (is_some (unit_core pool w)) waits))
      (λ w own runs. or_then (has_listed_unit pool.scheduler.queue w) (is_some (unit_core pool w)) (on_core w r c at (is_that_unit c.cur w own))) in
      subst (λ (o : Option UnitId). IfUnit (λ w. about w ≡ true) o) is has

  own_about : (u : UnitId) → is_unit decided.cur u ≡ true → about u ≡ true
  own_about u = by_test (λ (x : Resource). is_unit x.cur u ≡ true → about u ≡ true) (same_choice decision.unit c.cur) _ _
      (λ is own. or_then (has_listed_unit pool.scheduler.queue u) (is_some (unit_core pool u)) (on_core u r c at own))
      (λ is own. chosen_about u (is_unit_same decision.unit u own))

  waits_about : (u : UnitId) → has_listed_unit next.scheduler.queue u ≡ true → about u ≡ true
  waits_about u has =
      or_more (has_listed_unit pool.scheduler.queue u) (is_some (unit_core pool u))
      (by_option (λ (units : List UnitId). has_listed_unit units u ≡ true → has_listed_unit pool.scheduler.queue u ≡ true) decision.unit _ _ (λ none waits. waits)
      (λ w some waits. filtered (same_unit u) (λ z. not (same_unit w z)) pool.scheduler.queue waits) has)

  runs_about : (u : UnitId) → is_some (unit_core next u) ≡ true → about u ≡ true
  runs_about u has =
      let k = some_is (unit_core next u) has in
      let f = found_at k.0 (λ (x : Resource). is_unit x.cur u) cores k.1 in
      elim (read_put_at r k.0 decided pool.resources f.0 f.1) [
        | inl was ↦ or_then (has_listed_unit pool.scheduler.queue u) (is_some (unit_core pool u)) (on_core u k.0 f.0 was f.2)
        | inr here ↦ own_about u (subst (λ (x : Resource). is_unit x.cur u ≡ true) (sym here.1) f.2)
      ]

  pub decide_renews : (u : UnitId) → enabled_in g t next (Repl u) ≡ true → enabled_in g t pool (Repl u) ≡ true
  decide_renews u on =
      let waits : Bool = has_listed_unit next.scheduler.queue u in
      let runs : Bool = is_some (unit_core next u) in
      let due : Bool = is_replenish_due decision.records t u in
      let low : Bool = is_lowest_processor_up t next in
      let first = and_left ((waits || runs) && due) low on in
      both (about u && is_replenish_due pool.scheduler.records t u) (is_lowest_processor_up t pool)
      (both (about u) (is_replenish_due pool.scheduler.records t u)
      (elim (or_cases waits runs (and_left (waits || runs) due first)) [ inl has ↦ waits_about u has | inr has ↦ runs_about u has ])
      (sym (due_by t (core_ask g now pool r c) pool.scheduler u pool.scheduler.records refl) ∙ and_right (waits || runs) due first))
      (sym lowest ∙ and_right ((waits || runs) && due) low on)
