-- In a moment there are no more resets than causes and cores: a reset is of a core whose Credit2 pool had none at this moment, and only a move brings such a core.
use Rattle.sched_base.specs.declared.ResId.{ResId}
use Rattle.sched_base.specs.Numbers.{core, one_if}
use Rattle.std.proofs.Common.{◌≡◌, ◌≢◌, ◌≤◌, ◌+◌, ℕ, zero, suc, Bool, true, false, not, List, [], ◌∷◌, ◌++◌, refl, arith, ap, subst, sym, ◌∙◌, length, inl, inr}
use Rattle.std.specs.Prelude.{Option, Some, None, is_some, int_lt, pos, cond, ◌&&◌, ◌||◌, ◌==◌}
use Rattle.std.specs.List.{list_any, list_all}
use Rattle.std.proofs.Math.Decide.{ℕ_discrete}
use Rattle.std.proofs.lemmas.Bool.{false_from_ne_true, eqb-true}
use Rattle.sched_base.specs.Credit2Numbers.{called_resets}
use Rattle.sched_base.specs.declared.Cores.{Cores}
use Rattle.sched_base.specs.declared.UnitId.{UnitId}
use Rattle.sched_model.specs.declared.ask.Ask.{Ask}
use Rattle.sched_model.specs.declared.config.SchedKind.TheVariants as kinds
use Rattle.sched_model.specs.declared.event.Entry.{Entry}
use Rattle.sched_model.specs.declared.event.Event.{Event}
use Rattle.sched_model.specs.declared.event.Event.TheVariants as event
use Rattle.sched_model.specs.declared.machine.Machine.{Machine}
use Rattle.sched_model.specs.declared.state.Credit2Records.{Credit2Records}
use Rattle.sched_model.specs.declared.state.Pool.{Pool}
use Rattle.sched_model.specs.declared.state.Records.{Records}
use Rattle.sched_model.specs.declared.state.Records.TheVariants.{Credit2Pool, RtdsPool, ArincPool, NullPool}
use Rattle.sched_model.specs.declared.state.Resource.{Resource}
use Rattle.sched_model.specs.declared.state.RtdsUnit.{RtdsUnit}
use Rattle.sched_model.specs.declared.state.Scheduler.{Scheduler}
use Rattle.sched_model.specs.declared.state.State.{State}
use Rattle.sched_model.specs.declared.action.Action.{Action}
use Rattle.sched_model.specs.declared.action.Action.TheVariants.{Moved, Decide}
use Rattle.sched_model.specs.Places.{at_place, clear_at, numbered_items, test_at}
use Rattle.sched_model.specs.Arinc.{Window, current_window}
use Rattle.sched_model.specs.EligibleUnits.{Decision}
use Rattle.sched_model.specs.Credit2 as credit2
use Rattle.sched_model.specs.Rtds as rtds
use Rattle.sched_model.specs.NullScheduler as null
use Rattle.sched_model.specs.Opening.{machine_core_count}
use Rattle.sched_model.specs.Commands.{is_same_kind}
use Rattle.sched_model.specs.Policy as policy
use Rattle.sched_model.specs.Policy.{decision_of, records_kind}
use Rattle.sched_model.specs.Pool.{enabled_in, after_in, after_decide, settled_pool, core_ask, is_held_back, is_gathering, is_first_processor_up}
use Rattle.sched_model.specs.Actions.{home_pool_of_core, change_pool}
use Rattle.sched_model.specs.Machine.{is_action_enabled, after, event_of}
use Rattle.sched_model.specs.Runs.{Reached, IsRun, IsNextEvent, event_action, run_start, after_entry, after_event, after_entries}
use Rattle.sched_model.specs.CheckedMachine.{IsChecked}
use Rattle.sched_model.proofs.RunLemmas.{after_entries-append}
use Rattle.sched_laws.specs.StateLaws.{state_after, has_core_at}
use Rattle.sched_base.proofs.Bools.{and_left, and_right, or_right, clash, one_if_most}
use Rattle.sched_laws.proofs.Counts.{some_numbered}
use Rattle.sched_laws.proofs.EachPlace.{read_change_at, place_below, by_cond}
use Rattle.sched_laws.proofs.Kept.{IsApart}
use Rattle.sched_laws.proofs.Lists.{some-test_at, test_at-some, is_some_at}
use Rattle.sched_laws.proofs.Reached.{is_apart, places_for_cores}
use Rattle.sched_laws.proofs.StillWaits.{split_run}
use Rattle.moment_laws.specs.Stretches.{cores}
use Rattle.moment_laws.specs.Turns.{how_many}
use Rattle.sched_laws.specs.Counts.{total_over}
use Rattle.moment_laws.specs.GoodDecisions.{decision}
use Rattle.moment_laws.proofs.Sums.{many_is, many_none, total_at_most, grows, falls}
use Rattle.moment_laws.proofs.StretchFalls.{push_assoc}
use Rattle.moment_laws.proofs.LegRuns.{action_in}
use Rattle.moment_laws.proofs.CoresByRecords.{IsKeptTest, last_of, Counted, counts, counted_core, core_counted, counted_after}
use Rattle.moment_laws.specs.Moments.{is_cause, are_at}
use Rattle.moment_laws.proofs.MomentParts.{is_reset, resets, ResetsFew}
use Rattle.moment_laws.proofs.DueEvents.{one_less}
use Rattle.moment_laws.proofs.Tests.{or_later}
use Rattle.moment_laws.proofs.ReachedDecisions.{reset_of, printed_reset}

-- the last reset was at the moment
abbrev was_at : ℕ → Option ℕ → Bool
was_at t last = elim last as (λ _. Bool) [ None ↦ false | Some at ↦ at == t ]

-- a Credit2 pool without a reset at the moment
abbrev may_reset : ℕ → Records → Bool
may_reset t records = is_same_kind kinds.Credit2 (records_kind records) && not (was_at t (last_of records))

same_last : (t : ℕ) (a b : Credit2Records) → a.last_reset ≡ b.last_reset → may_reset t (Credit2Pool a) ≡ true → may_reset t (Credit2Pool b) ≡ true
same_last t a b same passes = sym (ap (λ (o : Option ℕ). not (was_at t o)) same) ∙ passes

-- only a reset changes the moment of the last one
last_burned : (cur : Option UnitId) (t : ℕ) (records : Credit2Records) → (credit2.own_burned_records cur t records).last_reset ≡ records.last_reset
last_burned None t records = refl
last_burned (Some u) t records = refl

last_off : (cur : Option UnitId) (records : Credit2Records) → (credit2.off_records cur records).last_reset ≡ records.last_reset
last_off None records = refl
last_off (Some u) records = refl

-- what a decision does: it resets nothing and leaves the last reset, or it resets at its moment, where none was
record Resets (t : ℕ) (before : Records) (d : Decision) : Type 0 where
  none : d.reset ≡ 0 → may_reset t d.records ≡ true → may_reset t before ≡ true
  some : d.reset ≢ 0 → (may_reset t before ≡ true) × (may_reset t d.records ≡ false)

resets_by_choice : (ask : Ask) (scheduler : Scheduler) (records : Credit2Records) (chosen : Option UnitId) → Resets ask.at.0 (Credit2Pool records) (credit2.credit2_decision_for ask scheduler records chosen)
resets_by_choice ask scheduler records None = record { none = λ e. same_last ask.at.0 (credit2.off_records ask.cur records) records (last_off ask.cur records); some = λ other. absurd (other refl) }
resets_by_choice ask scheduler records (Some u) = by_count (credit2.reset_count ask.at.0 u records) refl
  where
    taken : ℕ → Credit2Records
    taken k = credit2.change_domain u.dom.0 (credit2.domain_after_take u.n) (credit2.reset_records ask.at.0 k records)

    by_count : (k : ℕ) → credit2.reset_count ask.at.0 u records ≡ k → Resets ask.at.0 (Credit2Pool records) (credit2.credit2_decision_for ask scheduler records (Some u))
    by_count zero is = record {
      none = λ e. same_last ask.at.0 (credit2.running_records (Some ask.at.0) u (credit2.off_records ask.cur (taken (credit2.reset_count ask.at.0 u records)))) records (last_off ask.cur (taken (credit2.reset_count ask.at.0 u records)) ∙ ap (λ k. (taken k).last_reset) is);
      some = λ other. absurd (other is);
    }
    by_count (suc k) is = record {
      none = λ e. absurd (let a : suc k ≡ 0 = sym is ∙ e in omega (arith, a));
      some = λ other. (
          let last = last_off ask.cur (taken (credit2.reset_count ask.at.0 u records)) ∙ ap (λ n. (taken n).last_reset) is in
          let now : was_at ask.at.0 (Some ask.at.0) ≡ true = grind arith in
          (ap not (not_yet other), ap (λ (o : Option ℕ). not (was_at ask.at.0 o)) last ∙ ap not now));
    }
      where
        not_yet : credit2.reset_count ask.at.0 u records ≢ 0 → was_at ask.at.0 records.last_reset ≡ false
        not_yet other =
            by_cond (λ n. n ≢ 0 → was_at ask.at.0 records.last_reset ≡ false) (int_lt (pos 0) (credit2.unit_credit records u) || was_at ask.at.0 records.last_reset) 0 (called_resets (credit2.unit_credit records u))
            (λ is2 none. absurd (none refl)) (λ is2 none. or_right (int_lt (pos 0) (credit2.unit_credit records u)) (was_at ask.at.0 records.last_reset) is2) other

-- where nothing is reset
no_resets : (t : ℕ) (before : Records) (d : Decision) → d.reset ≡ 0 → may_reset t d.records ≡ false → Resets t before d
no_resets t before d none never = record { none = λ e passes. absurd (clash _ passes never); some = λ other. absurd (other none) }

resets_by : (ask : Ask) (queue : List UnitId) (affinity : List (Option (List Cores))) (records : Records) → Resets ask.at.0 records (decision_of ask (record { queue = queue; affinity = affinity; records = records }))
resets_by ask queue affinity (Credit2Pool records) =
    let scheduler : Scheduler = record { queue = queue; affinity = affinity; records = Credit2Pool records } in
    let burned : Credit2Records = credit2.own_burned_records ask.cur ask.at.0 records in
    let r = resets_by_choice ask scheduler burned (credit2.credit2_choice ask scheduler burned) in
    let back = same_last ask.at.0 burned records (last_burned ask.cur ask.at.0 records) in
    record { none = λ e passes. back (r.none e passes); some = λ other. (let x = r.some other in (back x.0, x.1)) }
resets_by ask queue affinity (RtdsPool domains) = by_choice (rtds.own_burned_domains ask.cur ask.at.0 domains) (rtds.rtds_choice ask (record { queue = queue; affinity = affinity; records = RtdsPool domains }) (rtds.own_burned_domains ask.cur ask.at.0 domains))
  where
    by_choice : (burned : List (Option (List RtdsUnit))) (chosen : Option UnitId) → Resets ask.at.0 (RtdsPool domains) (rtds.rtds_decision_for ask burned chosen)
    by_choice burned None = no_resets ask.at.0 _ _ refl refl
    by_choice burned (Some u) = no_resets ask.at.0 _ _ refl refl
resets_by ask queue affinity (ArincPool records) = by_window (cond ask.leaving None (current_window records ask.at.0))
  where
    by_window : (window : Option Window) → Resets ask.at.0 (ArincPool records) (policy.arinc_decision ask (record { queue = queue; affinity = affinity; records = ArincPool records }) window)
    by_window None = no_resets ask.at.0 _ _ refl refl
    by_window (Some w) = no_resets ask.at.0 _ _ refl refl
resets_by ask queue affinity (NullPool kept) =
    let scheduler : Scheduler = record { queue = queue; affinity = affinity; records = NullPool kept } in
    by_cond (Resets ask.at.0 (NullPool kept)) ask.leaving (null.null_decision_for ask.core.0 (clear_at ask.core.0 kept) None) (null.null_decision_for ask.core.0 kept (null.null_choice ask scheduler kept)) (λ is. no_resets ask.at.0 _ _ refl refl) (λ is. by_choice (null.null_choice ask scheduler kept))
  where
    by_choice : (chosen : Option UnitId) → Resets ask.at.0 (NullPool kept) (null.null_decision_for ask.core.0 kept chosen)
    by_choice None = no_resets ask.at.0 _ _ refl refl
    by_choice (Some u) = no_resets ask.at.0 _ _ refl refl

resets_of_scheduler : (ask : Ask) (scheduler : Scheduler) → Resets ask.at.0 scheduler.records (decision_of ask scheduler)
resets_of_scheduler ask scheduler = resets_by ask scheduler.queue scheduler.affinity scheduler.records

reset_kept : (t : ℕ) → IsKeptTest t (may_reset t)
reset_kept t = record {
  sees = λ a b alike passes. subst (λ (o : Option ℕ). (is_same_kind kinds.Credit2 (records_kind b) && not (was_at t o)) ≡ true) alike.last (subst (λ kind. (is_same_kind kinds.Credit2 kind && not (was_at t (last_of a))) ≡ true) alike.kind passes);
  decides = λ ask scheduler now passes. (
      let r = resets_of_scheduler ask scheduler in
      let d : Decision = decision_of ask scheduler in
      let back : may_reset ask.at.0 scheduler.records ≡ true = by_reset r (d.reset == 0) refl (subst (λ k. may_reset k d.records ≡ true) (sym now) passes) in
      subst (λ k. may_reset k scheduler.records ≡ true) now back);
}
  where
    by_reset : {k : ℕ} {before : Records} {d : Decision} → Resets k before d → (b : Bool) → (d.reset == 0) ≡ b → may_reset k d.records ≡ true → may_reset k before ≡ true
    by_reset {k} {before} {d} r true is passes = r.none (grind (arith, is)) passes
    by_reset {k} {before} {d} r false is passes = absurd (clash _ passes (r.some (λ e. (let a : (d.reset == 0) ≡ true = grind (arith, e) in clash _ a is))).1)

-- the core is in a Credit2 pool without a reset at the moment
abbrev waits_for_reset : ℕ → State → ℕ → Bool
waits_for_reset t s r = list_any (λ (e : ℕ × Pool). counts (may_reset t) r e.1) (numbered_items 0 s.pools)

any_numbered : {X : Type 0} (test : X → Bool) (n i : ℕ) (x : X) (places : List (Option X)) → at_place places i ≡ Some x → test x ≡ true → list_any (λ (e : ℕ × X). test e.1) (numbered_items n places) ≡ true
any_numbered test n i x [] at is = absurd (cc)
any_numbered test n zero x (None ∷ places) at is = absurd (cc)
any_numbered {X} test n zero x (Some y ∷ places) at is = (let e : x ≡ y = cc in let a : test y ≡ true = subst (λ (z : X). test z ≡ true) e is in ap (λ b. b || list_any (λ (e : ℕ × X). test e.1) (numbered_items (suc n) places)) a)
any_numbered test n (suc i) x (None ∷ places) at is = any_numbered test (suc n) i x places at is
any_numbered {X} test n (suc i) x (Some y ∷ places) at is = or_later (test y) (any_numbered test (suc n) i x places at is)

waits_counted : (t : ℕ) (s : State) (r : ℕ) → waits_for_reset t s r ≡ true → (i : ℕ) × Counted (may_reset t) s i r
waits_counted t s r waits = (let f = some_numbered (counts (may_reset t) r) 0 s.pools waits in (f.0, test_at-some s.pools f.0 (counts (may_reset t) r) f.1 f.2 f.3))

counted_waits : (t : ℕ) (s : State) (i r : ℕ) → Counted (may_reset t) s i r → waits_for_reset t s r ≡ true
counted_waits t s i r counted = (let f = some-test_at s.pools i (counts (may_reset t) r) counted in any_numbered (counts (may_reset t) r) 0 i f.0 s.pools f.1 f.2)

-- where one of the numbers grows by one at most, and the others do not
rises : (n i : ℕ) (f h : ℕ → ℕ) → h i ≤ f i + 1 → ((r : ℕ) → r ≢ i → h r ≤ f r) → total_over n h ≤ total_over n f + 1
rises zero i f h own others = omega arith
rises (suc n) i f h own others =
    elim (ℕ_discrete i n) [
      | yes e ↦ (
          let a = grows n 0 f h (λ r below. (let b = others r (omega (arith, below, e)) in omega (arith, b))) in
          let none = many_none n in
          let c : h n ≤ f n + 1 = subst (λ k. h k ≤ f k + 1) e own in
          omega (arith, a, c, none))
      | no ne ↦ (
          let a = rises n i f h own others in
          let c = others n (λ e. ne (sym e)) in
          omega (arith, a, c))
    ]

module _ (m : Machine) (s : State) (apart : IsApart s) (places : (i : ℕ) (pool : Pool) → at_place s.pools i ≡ Some pool → length pool.resources ≡ machine_core_count m.config) where
  abbrev g : ℕ
  g = m.config.granularity

  abbrev left : State → ℕ
  left next = total_over (cores m) (λ r. one_if (waits_for_reset s.now next r))

  was : (action : Action) → is_action_enabled m s s.now action ≡ true → (r : ℕ) → (action ≡ Moved (core r) → ⊥) → waits_for_reset s.now (after m s s.now action) r ≡ true → waits_for_reset s.now s r ≡ true
  was action on r other waits =
      let c = waits_counted s.now (after m s s.now action) r waits in
      elim (counted_after m s.now (may_reset s.now) (reset_kept s.now) s action on c.0 r c.1) [ inl old ↦ counted_waits s.now s c.0 r old | inr come ↦ absurd (other come.moves) ]

  no_rise : (action : Action) → is_action_enabled m s s.now action ≡ true → ((r : ℕ) → action ≡ Moved (core r) → ⊥) → left (after m s s.now action) ≤ left s
  no_rise action on other =
      let a = grows (cores m) 0 (λ r. one_if (waits_for_reset s.now s r)) (λ r. one_if (waits_for_reset s.now (after m s s.now action) r))
      (λ r low. (let b = one_less (waits_for_reset s.now s r) (waits_for_reset s.now (after m s s.now action) r) (was action on r (other r)) in omega (arith, b))) in
      let none = many_none (cores m) in
      omega (arith, a, none)

  move_rises : (q : ℕ) → is_action_enabled m s s.now (Moved (core q)) ≡ true → left (after m s s.now (Moved (core q))) ≤ left s + 1
  move_rises q on =
      rises (cores m) q (λ r. one_if (waits_for_reset s.now s r)) (λ r. one_if (waits_for_reset s.now (after m s s.now (Moved (core q))) r))
      (let a = one_if_most (waits_for_reset s.now (after m s s.now (Moved (core q))) q) in omega (arith, a))
      (λ r other. one_less (waits_for_reset s.now s r) (waits_for_reset s.now (after m s s.now (Moved (core q))) r) (was (Moved (core q)) on r (λ e. other (moved q r e))))
    where
      moved : (a b : ℕ) → Moved (core a) ≡ Moved (core b) → b ≡ a
      moved a b e = (let same : core b ≡ core a = cc in ap (λ (x : ResId). x.0) same)

  -- a reset of the core r: its pool may have no other at this moment
  reset_lowers : (e : Event) (r : ℕ) → is_action_enabled m s s.now (Decide (core r)) ≡ true → e ≡ event_of m s s.now (Decide (core r)) → reset_of e ≢ 0 → left (after m s s.now (Decide (core r))) + 1 ≤ left s
  reset_lowers e r on is some = by_home (home_pool_of_core s r) refl
    where
      by_home : (home : Option ℕ) → home_pool_of_core s r ≡ home → left (after m s s.now (Decide (core r))) + 1 ≤ left s
      by_home None home = absurd (let a : is_action_enabled m s s.now (Decide (core r)) ≡ false = ap (λ (o : Option ℕ). elim o as (λ _. Bool) [ None ↦ false | Some i ↦ test_at s.pools i (λ pool. enabled_in g s.now pool (Decide (core r))) ]) home in cc)
      by_home (Some i) home =
          let on_i : test_at s.pools i (λ pool. enabled_in g s.now pool (Decide (core r))) ≡ true = sym (ap (λ (o : Option ℕ). elim o as (λ _. Bool) [ None ↦ false | Some j ↦ test_at s.pools j (λ pool. enabled_in g s.now pool (Decide (core r))) ]) home) ∙ on in
          let p = some-test_at s.pools i (λ pool. enabled_in g s.now pool (Decide (core r))) on_i in
          let pool : Pool = p.0 in
          let c = some-test_at pool.resources r (λ x. list_all is_held_back x.processors && is_gathering x && is_first_processor_up s.now x) p.2 in
          let printed : reset_of e ≡ (decision m s.now pool r c.0).reset = printed_reset m s e i pool r c.0 is home p.1 c.1 in
          let does = (resets_of_scheduler (core_ask g s.now pool r c.0) pool.scheduler).some (λ none. some (printed ∙ none)) in
          let f : Pool → Pool = λ x. settled_pool s.now (after_in g s.now x (Decide (core r))) in
          let next : State = change_pool i f s in
          let is_next : after m s s.now (Decide (core r)) ≡ next = ap (λ (o : Option ℕ). elim o as (λ _. State) [ None ↦ s | Some j ↦ change_pool j f s ]) home in
          let now : waits_for_reset s.now s r ≡ true = counted_waits s.now s i r (core_counted (may_reset s.now) s i r pool c.0 p.1 c.1 does.0) in
          let has_i : has_core_at s i r ≡ true = test_at-some s.pools i (λ x. is_some (at_place x.resources r)) pool p.1 (is_some_at (at_place pool.resources r) c.0 c.1) in
          let decides : after_in g s.now pool (Decide (core r)) ≡ after_decide g s.now r c.0 pool = ap (λ (o : Option Resource). elim o as (λ _. Pool) [ None ↦ pool | Some x ↦ after_decide g s.now r x pool ]) c.1 in
          let records : (f pool).scheduler.records ≡ (decision m s.now pool r c.0).records = ap (λ (x : Pool). x.scheduler.records) decides in
          let later : waits_for_reset s.now (after m s s.now (Decide (core r))) r ≡ false = ap (λ (x : State). waits_for_reset s.now x r) is_next ∙ false_from_ne_true (waits_for_reset s.now next r) (λ waits. (
          let k = waits_counted s.now next r waits in
          let n = counted_core (may_reset s.now) next k.0 r k.1 in
          elim (read_change_at i k.0 f s.pools n.0 n.2) [
            | inl old ↦ old.0 (apart.cores k.0 i r (test_at-some s.pools k.0 (λ x. is_some (at_place x.resources r)) n.0 old.1 (is_some_at (at_place n.0.resources r) n.1 n.3)) has_i)
            | inr new ↦ (
                let same : pool ≡ new.0 = (let a = new.1 in let b = p.1 in cc) in
                let after_is : f pool ≡ n.0 = ap f same ∙ new.3 in
                clash (may_reset s.now n.0.scheduler.records) n.4 (ap (λ (x : Pool). may_reset s.now x.scheduler.records) (sym after_is) ∙ ap (may_reset s.now) records ∙ does.1))
          ])) in
          let low = place_below pool.resources r c.0 c.1 in
          let count = places i pool p.1 in
          let none = many_none (cores m) in
          let all = falls (cores m) 0 1 r (λ q. one_if (waits_for_reset s.now s q)) (λ q. one_if (waits_for_reset s.now (after m s s.now (Decide (core r))) q)) (omega (arith, low, count))
          (let a = ap one_if now in let b = ap one_if later in omega (arith, a, b))
          (λ q other. (let b = one_less (waits_for_reset s.now s q) (waits_for_reset s.now (after m s s.now (Decide (core r))) q) (was (Decide (core r)) on q (λ e. absurd (cc))) in omega (arith, b))) in
          omega (arith, all, none)

  -- what is left falls with each reset and rises with causes alone
  event_lowers : (e : Event) (over : Bool) → IsNextEvent m s e (event_action e) → one_if (is_reset e) + left (after_event m e (event_action e) (record { state = s; over = over })).state ≤ one_if (is_cause e) + left s
  event_lowers (event.Decide r unit due late reset) over next = by_reset (reset == 0) refl
    where
      by_reset : (b : Bool) → (reset == 0) ≡ b → one_if (not b) + left (after m s s.now (Decide r)) ≤ 0 + left s
      by_reset true is = (let a = no_rise (Decide r) next.0 (λ q e. absurd (cc)) in omega (arith, a))
      by_reset false is = (let a = reset_lowers (event.Decide r unit due late reset) r.0 next.0 next.1 (λ none. (let b : (reset == 0) ≡ true = grind (arith, none) in clash _ b is)) in omega (arith, a))
  event_lowers (event.Moved r to) over next = (let a = move_rises r.0 next.0 in omega (arith, a))
  event_lowers (event.End k) over next = omega arith
  event_lowers event.Finish over next = omega arith
  event_lowers e over next = (let a = no_rise (action_in e) next.0 (λ q same. absurd (cc)) in omega (arith, a))

module _ (m : Machine) (checked : IsChecked m) (t : ℕ) where
  abbrev left_at : State → ℕ
  left_at s = total_over (cores m) (λ r. one_if (waits_for_reset t s r))

  moment_lowers : (moment before : List Entry) → IsRun m (before ++ moment) → are_at t moment ≡ true → resets moment ≤ how_many (λ (e : Entry). is_cause e.event) moment + left_at (state_after m before)
  moment_lowers [] before run at = omega arith
  moment_lowers (e ∷ moment) before run at =
      let s : State = state_after m before in
      let parts = split_run m (run_start m) before (e ∷ moment) run in
      let next = parts.1.0 in
      let now : s.now ≡ t = sym next.moment ∙ eqb-true e.at.0 t (and_left (e.at.0 == t) _ at) in
      let here = event_lowers m s (is_apart m checked before parts.0) (places_for_cores m checked before parts.0) e.event (after_entries m (run_start m) before).over next.event in
      let here_t = subst (λ k. one_if (is_reset e.event) + total_over (cores m) (λ r. one_if (waits_for_reset k (after_entry m (after_entries m (run_start m) before) e).state r)) ≤ one_if (is_cause e.event) + total_over (cores m) (λ r. one_if (waits_for_reset k s r))) now here in
      let rest = moment_lowers moment (before ++ e ∷ []) (subst (IsRun m) (sym (push_assoc before e moment)) run) (and_right (e.at.0 == t) _ at) in
      let same : left_at (state_after m (before ++ e ∷ [])) ≡ left_at (after_entry m (after_entries m (run_start m) before) e).state = ap (λ (x : Reached). left_at x.state) (after_entries-append m (run_start m) before e) in
      omega (arith, here_t, rest, same)

pub resets_few : (m : Machine) → IsChecked m → ResetsFew m
resets_few m checked before moment t run at =
    let a = moment_lowers m checked t moment before run at in
    let b = total_at_most (cores m) 1 (λ r. one_if (waits_for_reset t (state_after m before) r)) (λ r low. one_if_most (waits_for_reset t (state_after m before) r)) in
    let e = many_is (cores m) 1 in
    omega (arith, a, b, e)
