-- What is kept beside the records and the queue: the set of the domains that may run, the first unit that waits of one of them, and the
-- greatest weight.
use Rattle.std.proofs.Common.{◌≡◌, ◌^◌, ◌-◌, ◌≢◌, ◌<◌, ◌≤◌, ℕ, zero, suc, Bool, true, false, not, List, [], ◌∷◌, ◌++◌, length, map, refl, ap, subst, sym, ◌∙◌, cond, arith, inl, inr}
use Rattle.std.specs.Prelude.{Option, Some, None, filter, fold, max, int_lt, nat_lt, ◌==◌, ◌&&◌, ◌||◌, bit_and, if◌then◌else◌}
use Rattle.std.specs.List.{AllByRecursion}
use Rattle.std.proofs.Math.Decide.{ℕ_discrete}
use Rattle.std.proofs.lemmas.List.{get_or_past}
use Rattle.std.proofs.lemmas.Nat.Bits.{bit_at_ones}
use Rattle.sched_base.specs.declared.UnitId.{UnitId}
use Rattle.sched_base.specs.declared.Cores.{Cores}
use Rattle.sched_base.specs.CoreSets.{has_core_bit}
use Rattle.sched_base.proofs.Bools.{or_left, or_right}
use Rattle.sched_model.specs.declared.state.Credit2Domain.{Credit2Domain}
use Rattle.sched_model.specs.declared.state.Credit2Records.{Credit2Records}
use Rattle.sched_model.specs.Places.{at_place, change_at, change_each, change_item, numbered_items, same_unit, is_unit}
use Rattle.sched_model.specs.EligibleUnits.{has_cap_budget, is_allowed_by}
use Rattle.sched_model.specs.Credit2.{most_weight, change_domain, has_domain_budget, richest_unit, unit_credit, domain_after_return, reset_records, domain_after_take, running_records, off_records}
use Rattle.sched_laws.proofs.EachPlace.{by_option, by_cond}
use Rattle.scheduler_records.specs.Bounds.{own_charged, reset_by}
use Rattle.scheduler_records.proofs.Steps.{reset-each}
use Rattle.arrival_queue.specs.declared.walks.Allowed.{Allowed}
use Rattle.arrival_queue.specs.Filters.{first_that, has_core_bit}
use Rattle.arrival_queue.specs.Queues.{Queued, has_unit, list_without, is_of, closed_up}
use Rattle.queue_laws.proofs.Removed.{is_of_same}
use Rattle.runq.specs.Queue.{Queue}
use Rattle.credit2_core.specs.declared.state.Credit2State.{Credit2State}
use Rattle.credit2_core.specs.declared.run_queue.Ready.{Ready}
use Rattle.sched_ops.specs.Affinity.{is_member_among}
use Rattle.credit2_core.specs.Credit2State.{IsFree}
use Rattle.credit2_core.specs.Choice.{first_ready_unit, first_with_unit}
use Rattle.credit2_core.specs.Domains.{may_run_at, AreRunnable, AreRunnableBut}
use Rattle.credit2_core.specs.Whole.{IsReadyIn, IsReadyBut, stays_first}
use Rattle.credit2_core.proofs.Idle.{set_other}
use Rattle.credit2_core.proofs.Lists.{same_unit-swap}
use Rattle.credit2_core.proofs.Tables.{first_that-same}
use Rattle.std.proofs.Math.Bool.{and-true}
use Rattle.std.proofs.lemmas.Bool.{cases_Bool}

-- the weights of the domains
abbrev weights : ℕ → List (Option Credit2Domain) → List ℕ
weights n domains = map (λ (e : ℕ × Credit2Domain). e.1.weight) (numbered_items n domains)

-- a change of a domain that keeps its weight
abbrev pub KeepsWeight : (Credit2Domain → Credit2Domain) → Type 0
KeepsWeight f = (x : Credit2Domain) → (f x).weight ≡ x.weight

-- the same of its cap and its budget
abbrev pub KeepsBudget : (Credit2Domain → Credit2Domain) → Type 0
KeepsBudget f = (x : Credit2Domain) → has_cap_budget (f x) ≡ has_cap_budget x

weights_changed : (n d : ℕ) (f : Credit2Domain → Credit2Domain) (domains : List (Option Credit2Domain)) → KeepsWeight f → weights n (change_at d f domains) ≡ weights n domains
weights_changed n d f [] keeps = refl
weights_changed n zero f (None ∷ domains) keeps = refl
weights_changed n zero f (Some x ∷ domains) keeps = ap (λ (w : ℕ). w ∷ weights (suc n) domains) (keeps x)
weights_changed n (suc d) f (None ∷ domains) keeps = weights_changed (suc n) d f domains keeps
weights_changed n (suc d) f (Some x ∷ domains) keeps = ap (λ (ws : List ℕ). x.weight ∷ ws) (weights_changed (suc n) d f domains keeps)

pub weight_changed : (d : ℕ) (f : Credit2Domain → Credit2Domain) (records : Credit2Records) → KeepsWeight f → most_weight (change_domain d f records) ≡ most_weight records
weight_changed d f records keeps = ap (fold max 0) (weights_changed 0 d f records.domains keeps)

weights_each : (n k : ℕ) (f : ℕ → Credit2Domain → Credit2Domain) (domains : List (Option Credit2Domain)) → ((i : ℕ) → KeepsWeight (f i)) → weights n (change_each k f domains) ≡ weights n domains
weights_each n k f [] keeps = refl
weights_each n k f (None ∷ domains) keeps = weights_each (suc n) (suc k) f domains keeps
weights_each n k f (Some x ∷ domains) keeps = ap (λ (w : ℕ). w ∷ weights (suc n) (change_each (suc k) f domains)) (keeps k x) ∙ ap (λ (ws : List ℕ). x.weight ∷ ws) (weights_each (suc n) (suc k) f domains keeps)

pub runs_changed : (d i : ℕ) (f : Credit2Domain → Credit2Domain) (domains : List (Option Credit2Domain)) → KeepsBudget f → may_run_at (at_place (change_at d f domains) i) ≡ may_run_at (at_place domains i)
runs_changed d i f [] keeps = refl
runs_changed zero zero f (None ∷ domains) keeps = refl
runs_changed zero zero f (Some x ∷ domains) keeps = keeps x
runs_changed zero (suc i) f (p ∷ domains) keeps = refl
runs_changed (suc d) zero f (p ∷ domains) keeps = refl
runs_changed (suc d) (suc i) f (p ∷ domains) keeps = runs_changed d i f domains keeps

runs_each : (k i : ℕ) (f : ℕ → Credit2Domain → Credit2Domain) (domains : List (Option Credit2Domain)) → ((j : ℕ) → KeepsBudget (f j)) → may_run_at (at_place (change_each k f domains) i) ≡ may_run_at (at_place domains i)
runs_each k i f [] keeps = refl
runs_each k zero f (None ∷ domains) keeps = refl
runs_each k zero f (Some x ∷ domains) keeps = keeps k x
runs_each k (suc i) f (p ∷ domains) keeps = runs_each (suc k) i f domains keeps

-- which changes keep the weight
give_weight : (n : ℕ) → KeepsWeight (domain_after_return n)
give_weight n x = by_option (λ (z : Credit2Domain). z.weight ≡ x.weight) _ x _ (λ none. refl) (λ u is. refl)

pub own_weight : (most t n : ℕ) → KeepsWeight (own_charged most t n)
own_weight most t n x = by_cond (λ (z : Credit2Domain). z.weight ≡ x.weight) (x.cap == 0) _ _ (λ free. refl) (λ capped. give_weight n _)

pub take_weight : (n : ℕ) → KeepsWeight (domain_after_take n)
take_weight n x = by_cond (λ (z : Credit2Domain). z.weight ≡ x.weight) (x.cap == 0) x _ (λ free. refl) (λ capped. refl)

-- a reset keeps weights, caps and budgets
pub record IsSpared (records next : Credit2Records) : Type 0 where
  pub runs : (i : ℕ) → may_run_at (at_place next.domains i) ≡ may_run_at (at_place records.domains i)
  pub weight : most_weight next ≡ most_weight records

pub spared_reset : (t k : ℕ) (records : Credit2Records) → IsSpared records (reset_records t k records)
spared_reset t zero records = record { runs = λ i. refl; weight = refl }
spared_reset t (suc k) records =
    let f : ℕ → Credit2Domain → Credit2Domain = λ n. reset_by (most_weight records) t (suc k) in
    subst (IsSpared records) (sym (reset-each t (suc k) records (omega arith)))
    (record { runs = λ i. runs_each 0 i f records.domains (λ j x. refl); weight = ap (fold max 0) (weights_each 0 0 f records.domains (λ j x. refl)) })

pub spared_set_running : (from : Option ℕ) (u : UnitId) (records : Credit2Records) → IsSpared records (running_records from u records)
spared_set_running from u records =
    let f : Credit2Domain → Credit2Domain = λ d. record d { units = change_item u.n (λ x. record x { burned = from }) d.units } in
    record { runs = λ i. runs_changed u.dom.0 i f records.domains (λ x. refl); weight = weight_changed u.dom.0 f records (λ x. refl) }

pub spared_switch_off : (cur : Option UnitId) (records : Credit2Records) → IsSpared records (off_records cur records)
spared_switch_off None records = record { runs = λ i. refl; weight = refl }
spared_switch_off (Some u) records = spared_set_running None u records

pub ready_spared : (h next : Credit2State) (ready : Ready) → next.queue ≡ h.queue → IsSpared h.records next.records → IsReadyIn h ready → IsReadyIn next ready
ready_spared h next ready same spared is = record {
  domains = record { each = λ i. is.domains.each i ∙ sym (spared.runs i) };
  first = is.first ∙ first_that-same (has_domain_budget h.records) (has_domain_budget next.records) h.queue.units (λ u. sym (spared.runs u.dom.0)) ∙ ap (λ (q : Queue). first_ready_unit next.records q.units) (sym same);
  most = is.most ∙ sym spared.weight;
}

-- the first unit by the set is the first whose domain's cap lets it run
pub first_runnable : (records : Credit2Records) (set : ℕ) (es : List Queued) → AreRunnable records.domains set → first_that (λ u. has_core_bit set u.dom.0) es ≡ first_ready_unit records es
first_runnable records set es are = first_that-same (λ u. has_core_bit set u.dom.0) (has_domain_budget records) es (λ u. are.each u.dom.0)

pub but_again : (d : ℕ) (stands : Bool) (f : Credit2Domain → Credit2Domain) (records : Credit2Records) (es : List Queued) (ready : Ready) → KeepsWeight f → IsReadyBut d stands records es ready → IsReadyBut d stands (change_domain d f records) es ready
but_again d stands f records es ready keeps but = record {
  domains = λ i other. but.domains i other ∙ ap may_run_at (sym (set_other d i _ records.domains other));
  first = but.first;
  most = but.most ∙ sym (weight_changed d f records keeps);
}

pub but_of : (d : ℕ) (stands : Bool) (h : Credit2State) (ready : Ready) → IsReadyIn h ready → IsReadyBut d stands h.records h.queue.units ready
but_of d stands h ready is = record {
  domains = λ i other. is.domains.each i;
  first = λ stand. is.first ∙ sym (first_runnable h.records ready.domains.0 h.queue.units is.domains);
  most = is.most;
}

-- the set, where a domain has its bit again
pub runnable_again : (d set now : ℕ) (may : Bool) (domains : List (Option Credit2Domain)) → length domains ≤ 64 → AreRunnableBut d domains set → may ≡ may_run_at (at_place domains d) → ((i : ℕ) → i ≢ d → has_core_bit now i ≡ has_core_bit set i) → has_core_bit now d ≡ (may && nat_lt d 64)
    → AreRunnable domains now
runnable_again d set now may domains few but is others there = record {
  each = λ i. elim (ℕ_discrete i d) [
    | no other ↦ others i other ∙ but i other
    | yes here ↦ subst (λ (k : ℕ). has_core_bit now k ≡ may_run_at (at_place domains k)) (sym here) (there ∙ ap (λ (b : Bool). b && nat_lt d 64) is ∙ within)
  ];
}
  where
    within : (may_run_at (at_place domains d) && nat_lt d 64) ≡ may_run_at (at_place domains d)
    within = elim (cases_Bool (nat_lt d 64)) [
      | inl low ↦ rw low (and-true (may_run_at (at_place domains d)))
      | inr high ↦ (
          let long : length domains ≤ d = grind (arith, high, few) in
          let none : at_place domains d ≡ None = get_or_past domains d None long in
          rw none refl)
    ]

-- the first that passes does pass
first_passes : (p : UnitId → Bool) (es : List Queued) (u : UnitId) → first_that p es ≡ Some u → p u ≡ true
first_passes p [] u is = absurd cc
first_passes p (e ∷ es) u is =
    elim (p e.unit) as (λ b. p e.unit ≡ b → (if b then Some e.unit else first_that p es) ≡ Some u → p u ≡ true) [
      | true ↦ λ passes found. subst (λ (w : UnitId). p w ≡ true) (same_some found) passes
      | false ↦ λ fails found. first_passes p es u found
    ] refl is
  where
    same_some : Some e.unit ≡ Some u → e.unit ≡ u
    same_some found = cc

-- where fewer pass, the first stays where it passes
fewer_pass : (p q : UnitId → Bool) (es : List Queued) → ((u : UnitId) → q u ≡ true → p u ≡ true) → ((u : UnitId) → first_that p es ≡ Some u → q u ≡ true) → first_that q es ≡ first_that p es
fewer_pass p q [] fewer passes = refl
fewer_pass p q (e ∷ es) fewer passes =
    elim (cases_Bool (q e.unit)) [
      | inl is ↦ (let both : p e.unit ≡ true = fewer e.unit is in rw (is, both) refl)
      | inr is_not ↦ elim (cases_Bool (p e.unit)) [
        | inl first ↦ absurd (let e1 : q e.unit ≡ true = passes e.unit (rw first refl) in cc)
        | inr neither ↦ rw (is_not, neither) (fewer_pass p q es fewer (λ u found. passes u (rw neither found)))
      ]
    ]

-- the kept unit is the first where it stays it
pub stays : (d : ℕ) (may : Bool) (records : Credit2Records) (es : List Queued) (ready : Ready) → IsReadyBut d true records es ready → may ≡ may_run_at (at_place records.domains d) → stays_first ready d may ≡ true → ready.first ≡ first_ready_unit records es
stays d true records es ready but is has = but.first refl ∙ first_runnable records ready.domains.0 es all
  where
    all : AreRunnable records.domains ready.domains.0
    all = record {
      each = λ i. elim (ℕ_discrete i d) [
        | no other ↦ but.domains i other
        | yes here ↦ subst (λ (k : ℕ). has_core_bit ready.domains.0 k ≡ may_run_at (at_place records.domains k)) (sym here) (has ∙ is)
      ];
    }
stays d false records es ready but is other = but.first refl ∙ sym (fewer_pass (λ u. has_core_bit ready.domains.0 u.dom.0) (has_domain_budget records) es fewer passes)
  where
    elsewhere : (u : UnitId) → has_domain_budget records u ≡ true → u.dom.0 ≢ d
    elsewhere u runs here = (let e : may_run_at (at_place records.domains d) ≡ true = subst (λ (k : ℕ). may_run_at (at_place records.domains k) ≡ true) here runs in absurd cc)

    fewer : (u : UnitId) → has_domain_budget records u ≡ true → has_core_bit ready.domains.0 u.dom.0 ≡ true
    fewer u runs = but.domains u.dom.0 (elsewhere u runs) ∙ runs

    apart : (u : UnitId) (o : Option UnitId) → o ≡ Some u → elim o as (λ _. Bool) [ None ↦ true | Some w ↦ not (w.dom.0 == d) ] ≡ true → u.dom.0 ≢ d
    apart u None e f here = absurd cc
    apart u (Some w) e f here =
        let same : w ≡ u = cc in
        let g : (w.dom.0 == d) ≡ true = grind (arith, ap (λ (x : UnitId). x.dom.0) same, here) in
        absurd (let k : not (w.dom.0 == d) ≡ false = rw g refl in cc)

    passes : (u : UnitId) → first_that (λ w. has_core_bit ready.domains.0 w.dom.0) es ≡ Some u → has_domain_budget records u ≡ true
    passes u found =
        let there : ready.first ≡ Some u = but.first refl ∙ found in
        sym (but.domains u.dom.0 (apart u ready.first there other)) ∙ first_passes (λ w. has_core_bit ready.domains.0 w.dom.0) es u found

-- the first of those that are left, where another one left
pub first_left : (p : UnitId → Bool) (u : UnitId) (r : ℕ) (es : List Queued) → u.n < 256 → AllByRecursion (λ (e : Queued). e.unit.n < 256) es → is_unit (first_that p es) u ≡ false → first_that p (map (closed_up r) (list_without u es)) ≡ first_that p es
first_left p u r [] low lows other = refl
first_left p u r (e ∷ es) low lows other =
    elim (is_of u e) as (λ b. is_of u e ≡ b → first_that p (map (closed_up r) (if b then list_without u es else e ∷ list_without u es)) ≡ (if p e.unit then Some e.unit else first_that p es)) [
      | true ↦ λ is. elim (p e.unit) as (λ a. is_unit (if a then Some e.unit else first_that p es) u ≡ false → first_that p (map (closed_up r) (list_without u es)) ≡ (if a then Some e.unit else first_that p es)) [
        | true ↦ λ here. absurd (let same : same_unit u e.unit ≡ true = sym (is_of_same u e low lows.0) ∙ is in let apart : same_unit u e.unit ≡ false = same_unit-swap e.unit u here in cc)
        | false ↦ λ here. first_left p u r es low lows.1 here
      ] other
      | false ↦ λ is. elim (p e.unit) as (λ a. is_unit (if a then Some e.unit else first_that p es) u ≡ false → (if a then Some e.unit else first_that p (map (closed_up r) (list_without u es))) ≡ (if a then Some e.unit else first_that p es)) [
        | true ↦ λ here. refl
        | false ↦ λ here. first_left p u r es low lows.1 here
      ] other
    ] refl

-- the numbers of arrivals do not count
pub first_closed : (p : UnitId → Bool) (r : ℕ) (es : List Queued) → first_that p (map (closed_up r) es) ≡ first_that p es
first_closed p r [] = refl
first_closed p r (e ∷ es) = ap (λ (o : Option UnitId). if p e.unit then Some e.unit else o) (first_closed p r es)

-- a list without the unit is as it was without it
pub without_none : (u : UnitId) (es : List Queued) → has_unit u es ≡ false → list_without u es ≡ es
without_none u [] none = refl
without_none u (e ∷ es) none =
    ap (λ (t : Bool). if t then list_without u es else e ∷ list_without u es) (or_left (is_of u e) (has_unit u es) none)
    ∙ ap (λ (xs : List Queued). e ∷ xs) (without_none u es (or_right (is_of u e) (has_unit u es) none))

-- the greatest, with one more behind all others
pub greatest_more : (records : Credit2Records) (p : UnitId → Bool) (u : UnitId) (best : Option UnitId) (units : List UnitId) → richest_unit records best (filter p (units ++ u ∷ [])) ≡ first_with_unit records (p u) (richest_unit records best (filter p units)) u
greatest_more records p u None [] = elim (p u) as (λ b. richest_unit records None (cond b (u ∷ []) []) ≡ first_with_unit records b None u) [ true ↦ refl | false ↦ refl ]
greatest_more records p u (Some w) [] = elim (p u) as (λ b. richest_unit records (Some w) (cond b (u ∷ []) []) ≡ first_with_unit records b (Some w) u) [ true ↦ refl | false ↦ refl ]
greatest_more records p u None (x ∷ units) =
    elim (p x) as (λ b. richest_unit records None (cond b (x ∷ filter p (units ++ u ∷ [])) (filter p (units ++ u ∷ []))) ≡ first_with_unit records (p u) (richest_unit records None (cond b (x ∷ filter p units) (filter p units))) u) [
      | true ↦ greatest_more records p u (Some x) units
      | false ↦ greatest_more records p u None units
    ]
greatest_more records p u (Some w) (x ∷ units) =
    elim (p x) as (λ b. richest_unit records (Some w) (cond b (x ∷ filter p (units ++ u ∷ [])) (filter p (units ++ u ∷ []))) ≡ first_with_unit records (p u) (richest_unit records (Some w) (cond b (x ∷ filter p units) (filter p units))) u) [
      | true ↦ greatest_more records p u (Some (if int_lt (unit_credit records w) (unit_credit records x) then x else w)) units
      | false ↦ greatest_more records p u (Some w) units
    ]

-- what holds of each unit that waits holds of the first that passes
pub first_has : (P : UnitId → Type 0) (p : UnitId → Bool) (es : List Queued) (u : UnitId) → AllByRecursion (λ (e : Queued). P e.unit) es → first_that p es ≡ Some u → P u
first_has P p [] u each found = absurd cc
first_has P p (e ∷ es) u each found =
    elim (p e.unit) as (λ b. (if b then Some e.unit else first_that p es) ≡ Some u → P u) [
      | true ↦ λ here. subst P (same_some here) each.0
      | false ↦ λ later. first_has P p es u each.1 later
    ] found
  where
    same_some : Some e.unit ≡ Some u → e.unit ≡ u
    same_some is = cc

-- where none was pinned each unit may be on every core
pub free_allows : (unpinned : Bool) (affinity : List (Option (List Cores))) (home core : ℕ) (u : UnitId) → IsFree unpinned affinity → unpinned ≡ true → is_member_among affinity u ≡ true → core < 64 → is_allowed_by affinity home core u ≡ true
free_allows unpinned affinity home core u free is joined low =
    ap (λ (cores : ℕ). has_core_bit cores core || bit_and cores home == 0) (free.all is u joined)
    ∙ ap (λ (bit : ℕ). bit == 1 || bit_and (2 ^ 64 - 1) home == 0) (bit_at_ones 64 core low)

-- what is kept, where a unit left that was not the first, or behind which the first was looked for
pub ready_left : (h next : Credit2State) (ready after : Ready) → next.records ≡ h.records → IsReadyIn h ready → after.domains ≡ ready.domains → after.most ≡ ready.most
    → after.first ≡ first_that (λ w. has_core_bit ready.domains.0 w.dom.0) next.queue.units → IsReadyIn next after
ready_left h next ready after records is domains most first =
    let runs : AreRunnable next.records.domains after.domains.0 =
    subst (λ (r : Credit2Records). AreRunnable r.domains after.domains.0) (sym records) (subst (λ (d : Allowed). AreRunnable h.records.domains d.0) (sym domains) is.domains) in
    record {
      domains = runs;
      first = first ∙ ap (λ (d : Allowed). first_that (λ w. has_core_bit d.0 w.dom.0) next.queue.units) (sym domains) ∙ first_runnable next.records after.domains.0 next.queue.units runs;
      most = most ∙ is.most ∙ ap most_weight (sym records);
    }
