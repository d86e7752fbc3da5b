-- An ARINC 653 pool has one core at most, in every state of a run.
use Rattle.std.proofs.Common.{◌≡◌, ◌≢◌, ◌+◌, ◌-◌, ℕ, zero, suc, Bool, true, false, not, List, [], ◌∷◌, refl, arith, subst, sym, ◌∙◌, ap, length, ◌⊎◌, inl, inr}
use Rattle.std.specs.Prelude.{Option, Some, None, Result, Ok, Err, is_some, slice_get, nat_lt, nat_le, ◌==◌, ◌&&◌, ◌/◌}
use Rattle.std.specs.List.{list_any}
use Rattle.std.proofs.lemmas.List.Elements.{recursion_from_All}
use Rattle.std.proofs.lemmas.Bool.{not-true, and_from}
use Rattle.sched_base.specs.Numbers.{core as core_number, domain as domain_number}
use Rattle.sched_base.specs.declared.PoolId.{PoolId}
use Rattle.sched_base.specs.declared.ResId.{ResId}
use Rattle.sched_base.specs.declared.Cores.{Cores}
use Rattle.sched_model.specs.declared.command.Command.{Command}
use Rattle.sched_model.specs.declared.config.Config.{Config}
use Rattle.sched_model.specs.declared.config.DomConfig.{DomConfig}
use Rattle.sched_model.specs.declared.config.ParamChange.TheVariants as changes
use Rattle.sched_model.specs.declared.config.PoolConfig.{PoolConfig}
use Rattle.sched_model.specs.declared.config.PoolParams.{PoolParams}
use Rattle.sched_model.specs.declared.config.PoolParams.TheVariants as pool_params
use Rattle.sched_model.specs.declared.config.SchedKind.{SchedKind}
use Rattle.sched_model.specs.declared.config.SchedKind.TheVariants as kinds
use Rattle.sched_model.specs.declared.event.Entry.{Entry}
use Rattle.sched_model.specs.declared.event.Refusal.{Refusal}
use Rattle.sched_model.specs.declared.event.Reply.{Reply}
use Rattle.sched_model.specs.declared.machine.Machine.{Machine}
use Rattle.sched_model.specs.declared.plan.Plan.{Plan}
use Rattle.sched_model.specs.declared.plan.Plan.TheVariants as plan
use Rattle.sched_model.specs.declared.state.ArincRecords.{ArincRecords}
use Rattle.sched_model.specs.declared.state.FreeCore.{FreeCore}
use Rattle.sched_model.specs.declared.state.Pool.{Pool}
use Rattle.sched_model.specs.declared.state.Records.{Records}
use Rattle.sched_model.specs.declared.state.Records.TheVariants.{ArincPool}
use Rattle.sched_model.specs.declared.state.Resource.{Resource}
use Rattle.sched_model.specs.declared.state.State.{State}
use Rattle.sched_model.specs.declared.work.CommandLine.{CommandLine}
use Rattle.sched_model.specs.declared.work.StallLine.{StallLine}
use Rattle.sched_model.specs.declared.action.Action.{Action}
use Rattle.sched_model.specs.declared.action.Action.TheVariants.{Stall, Xl, Moved, DomMoved}
use Rattle.sched_model.specs.Places.{at_place, numbered_items}
use Rattle.sched_model.specs.State.{has_core_bit}
use Rattle.sched_model.specs.CheckedMachine.{IsChecked, IsCheckedPool, PoolParamsPass}
use Rattle.sched_model.specs.Policy.{records_kind, empty_records}
use Rattle.sched_model.specs.Opening.{opening, free_core_at_opening, pool_with_domains, pool_with_configured, pool_with_pins, machine_core_count, most_pools, domain_at_opening}
use Rattle.sched_model.specs.Actions.{home_pool_of_action, home_pool_of_core, home_pool_of_domain}
use Rattle.sched_model.specs.Commands.{is_same_kind, cores_in, carried_out, change_home, plan_pool}
use Rattle.sched_model.specs.Machine.{is_action_enabled, has_move_under_way, after, after_at_home, after_stall, after_command, state_after_moved, after_dom_moved, line_verdict, settled_at}
use Rattle.sched_laws.proofs.Judged.{Passed, verdict_passed}
use Rattle.sched_laws.proofs.Records.{same_decision}
use Rattle.sched_laws.specs.EachPlace.{EachAt}
use Rattle.sched_laws.specs.StateLaws.{state_after}
use Rattle.sched_base.proofs.Bools.{and_right, or_right, clash}
use Rattle.sched_base.proofs.Lists.{each_get}
use Rattle.sched_laws.proofs.EachPlace.{EachAt-change_at, EachAt-put_at, read_clear_at, by_option, by_cond}
use Rattle.sched_laws.proofs.Induction.{kept_by_runs}
use Rattle.sched_laws.proofs.Lists.{at_numbered, none_passes, is_some_at}
use Rattle.sched_laws.proofs.Opened.{read_map, read_pools, opened_core}
use Rattle.moment_laws.proofs.CoresByRecords.{IsKeptTest, Counted, Aims, Comes, counted_core, core_counted, counted_after, gives_params, gives_with_domain}
use Rattle.moment_laws.proofs.ReachedDecisions.{PoolOf}

abbrev is_arinc : Records → Bool
is_arinc records = is_same_kind kinds.Arinc653 (records_kind records)

arinc_kept : (t : ℕ) → IsKeptTest t is_arinc
arinc_kept t = record {
  sees = λ a b alike passes. subst (λ kind. is_same_kind kinds.Arinc653 kind ≡ true) alike.kind passes;
  decides = λ ask scheduler now passes. subst (λ kind. is_same_kind kinds.Arinc653 kind ≡ true) (same_decision records_kind (λ a b. refl) (λ a b. refl) (λ a b. refl) scheduler.records ask scheduler refl) passes;
}

-- an accepted cpupool-cpu-add: the pool has no core if it is one of ARINC 653
abbrev Adds : State → Plan → Type 0
Adds s (plan.CpuAdd i core answer) = (r : ℕ) → Counted is_arinc s i.0 r → ⊥
Adds s _ = Unit {0}

-- a pool with a core has one core or more
some_core : (n r : ℕ) (c : Resource) (cores : List (Option Resource)) → at_place cores r ≡ Some c → nat_lt 0 (length (numbered_items n cores)) ≡ true
some_core n r c [] at = absurd (cc)
some_core n zero c (None ∷ cores) at = absurd (cc)
some_core n zero c (Some x ∷ cores) at = grind arith
some_core n (suc r) c (None ∷ cores) at = some_core (suc n) r c cores at
some_core n (suc r) c (Some x ∷ cores) at = grind arith

-- the pool that a core is added to
added : (s : State) (i : ℕ) (pool : Pool) → at_place s.pools i ≡ Some pool → not (is_same_kind kinds.Arinc653 (records_kind pool.scheduler.records) && nat_lt 0 (cores_in pool)) ≡ true → (r : ℕ) → Counted is_arinc s i r → ⊥
added s i pool at passes r counted =
    let now = counted_core is_arinc s i r counted in
    let same : now.0 ≡ pool = (let a = now.2 in cc) in
    let arinc : is_arinc pool.scheduler.records ≡ true = subst (λ (p : Pool). is_arinc p.scheduler.records ≡ true) same now.4 in
    let some = some_core 0 r now.1 pool.resources (subst (λ (p : Pool). at_place p.resources r ≡ Some now.1) same now.3) in
    clash (is_same_kind kinds.Arinc653 (records_kind pool.scheduler.records) && nat_lt 0 (cores_in pool)) (and_from _ _ arinc some) (not-true _ passes)

verdict_adds : (m : Machine) (s : State) (line : CommandLine) (p : Plan) → line_verdict m s line ≡ Ok p → Adds s p
verdict_adds m s line p is = (let passed = verdict_passed m s line p is in by_plan passed.0 p passed.2)
  where
    by_plan : (c : Command) (p : Plan) → Passed m s c p → Adds s p
    by_plan c (plan.CpuAdd i core answer) passed = added s i.0 passed.0.pool passed.0.at passed.0.meets
    by_plan c p passed = tt

-- the free cores with a target, after an action
module _ (T : ℕ → ℕ → Type 0) where
  abbrev Targets : State → Type 0
  Targets s = EachAt (λ r (c : FreeCore). (i : ℕ) → c.target ≡ Some i → T r i) s.free

  targets_home : (d : ℕ) (f : Pool → Pool) (s : State) → Targets s → Targets (change_home d f s)
  targets_home d f s each = by_option Targets (home_pool_of_domain s d) _ _ (λ is. each) (λ i is. each)

  targets_settled : (t : ℕ) (home : Option ℕ) (s : State) → Targets s → Targets (settled_at t home s)
  targets_settled t None s each = each
  targets_settled t (Some i) s each = each

  targets_carried_out : (m : Machine) (t : ℕ) (p : Plan) (s : State) → ((i : PoolId) (core : ResId) (answer : Reply) → p ≡ plan.CpuAdd i core answer → T core.0 i.0) → Targets s → Targets (carried_out m t p s)
  targets_carried_out m t (plan.CpuAdd i core answer) s adds each =
      EachAt-change_at (λ r (c : FreeCore). (j : ℕ) → c.target ≡ Some j → T r j) core.0 (λ (c : FreeCore). record c { target = Some i.0 }) s.free each (λ c at here j is. (let e : i.0 ≡ j = cc in subst (T core.0) e (adds i core answer refl)))
  targets_carried_out m t (plan.Migrate d i j answer) s adds each = by_cond Targets (i.0 == j.0) s _ (λ is. each) (λ is. each)
  targets_carried_out m t (plan.Credit2Dom d weight percent answer) s adds each = targets_home d.0 _ s each
  targets_carried_out m t (plan.Credit2Pool i None answer) s adds each = each
  targets_carried_out m t (plan.RtdsDom d first count period budget extra answer) s adds each = targets_home d.0 _ s each
  targets_carried_out m t (plan.Pause d answer) s adds each = targets_home d.0 _ s each
  targets_carried_out m t (plan.Unpause d answer) s adds each = targets_home d.0 _ s each
  targets_carried_out m t (plan.Pin d unit cores answer) s adds each = targets_home d.0 _ s each
  targets_carried_out m t p s adds each = each

  targets_stall : (g t : ℕ) (line : Option StallLine) (s : State) → Targets s → Targets (elim line as (λ _. State) [ None ↦ s | Some l ↦ after_stall g t l s ])
  targets_stall g t None s each = each
  targets_stall g t (Some l) s each =
      by_option Targets (home_pool_of_core s (l.cpu.0 / g)) _ _ (λ is. EachAt-change_at (λ r (c : FreeCore). (j : ℕ) → c.target ≡ Some j → T r j) (l.cpu.0 / g) _ s.free each (λ c at here. here)) (λ i is. each)

  targets_at : (g t : ℕ) (action : Action) (s : State) → Targets s → Targets (after_at_home g s t action)
  targets_at g t action s each = by_option Targets (home_pool_of_action g s action) _ _ (λ is. each) (λ i is. each)

  targets_dom_moved : (g t d : ℕ) (s : State) → Targets s → Targets (after_dom_moved g t d s)
  targets_dom_moved g t d s each =
      by_option Targets (home_pool_of_domain s d) _ _ (λ is. each)
      (λ i is. by_option Targets (at_place s.pools i) _ _ (λ is2. each)
      (λ pool is2. by_option Targets (at_place pool.domains d) _ _ (λ is3. each) (λ domain is3. by_option Targets domain.moving _ _ (λ is4. each) (λ j is4. each))))

-- the core that moved is no free core with a target any more
targets_moved : (t q : ℕ) (s : State) → Targets (λ r i. Aims s r i × (r ≢ q)) (state_after_moved t q s)
targets_moved t q s =
    by_option (Targets (λ r i. Aims s r i × (r ≢ q))) (at_place s.free q) _ _
    (λ is. (
    let stays : Targets (λ r i. Aims s r i × (r ≢ q)) s = λ r c at i target. (record { core = c; at = at; target = target }, λ e. (let a : at_place s.free q ≡ Some c = subst (λ k. at_place s.free k ≡ Some c) e at in absurd (cc))) in
    by_option (Targets (λ r i. Aims s r i × (r ≢ q))) (home_pool_of_core s q) _ _ (λ is2. stays)
    (λ i is2. by_option (Targets (λ r i. Aims s r i × (r ≢ q))) (at_place s.pools i) _ _ (λ is3. stays)
    (λ pool is3. by_option (Targets (λ r i. Aims s r i × (r ≢ q))) (at_place pool.resources q) _ _ (λ is4. stays)
    (λ c is4. EachAt-put_at (λ r (x : FreeCore). (j : ℕ) → x.target ≡ Some j → Aims s r j × (r ≢ q)) q _ s.free stays (λ j target. absurd (cc)))))))
    (λ c is. by_option (Targets (λ r i. Aims s r i × (r ≢ q))) c.target _ _
    (λ is2 r x at i target. (
      record { core = x; at = at; target = target },
      λ e. (let a : at_place s.free q ≡ Some x = subst (λ k. at_place s.free k ≡ Some x) e at in let same : c ≡ x = cc in let b : x.target ≡ None = subst (λ (y : FreeCore). y.target ≡ None) same is2 in absurd (cc)),
    ))
    (λ j is2 r x at i target. (let old = read_clear_at q r s.free x at in (record { core = x; at = old.1; target = target }, old.0))))

-- an ARINC 653 pool has one core at most, and none where a core is to join it; and one core at most is to join a pool
record IsOne (s : State) : Type 0 where
  cores : (i q r : ℕ) → Counted is_arinc s i q → Counted is_arinc s i r → q ≡ r
  free : (i q r : ℕ) → Aims s q i → Counted is_arinc s i r → ⊥
  aims : (i j q r : ℕ) → Aims s q i → Aims s r j → q ≡ r

targets_now : (s : State) → Targets (Aims s) s
targets_now s r c at i target = record { core = c; at = at; target = target }

-- where nothing comes and no core is given a target
one_same : (s next : State) → ((i r : ℕ) → Counted is_arinc next i r → Counted is_arinc s i r) → Targets (Aims s) next → IsOne s → IsOne next
one_same s next counted targets one = record {
  cores = λ i q r a b. one.cores i q r (counted i q a) (counted i r b);
  free = λ i q r a b. one.free i q r (targets q a.core a.at i a.target) (counted i r b);
  aims = λ i j q r a b. one.aims i j q r (targets q a.core a.at i a.target) (targets r b.core b.at j b.target);
}

-- a core moves
one_moved : (m : Machine) (s : State) (t q : ℕ) → is_action_enabled m s t (Moved (core_number q)) ≡ true → IsOne s → IsOne (after m s t (Moved (core_number q)))
one_moved m s t q on one = record {
  cores = λ i x y a b. elim (was i x a) [
    | inl old ↦ elim (was i y b) [ inl old2 ↦ one.cores i x y old old2 | inr come ↦ absurd (one.free i y x come.aims old) ]
    | inr come ↦ elim (was i y b) [ inl old2 ↦ absurd (one.free i x y come.aims old2) | inr come2 ↦ one.aims i i x y come.aims come2.aims ]
  ];
  free = λ i x y a b. (
      let free_now = aim x i a in
      elim (was i y b) [
        | inl old ↦ one.free i x y free_now.0 old
        | inr come ↦ free_now.1 (one.aims i i x y free_now.0 come.aims ∙ sym (moved q y come.moves))
      ]);
  aims = λ i j x y a b. one.aims i j x y (aim x i a).0 (aim y j b).0;
}
  where
    was : (i r : ℕ) → Counted is_arinc (after m s t (Moved (core_number q))) i r → Counted is_arinc s i r ⊎ Comes s (Moved (core_number q)) i r
    was i r counted = counted_after m t is_arinc (arinc_kept t) s (Moved (core_number q)) on i r counted

    aim : (r i : ℕ) → Aims (after m s t (Moved (core_number q))) r i → Aims s r i × (r ≢ q)
    aim r i a = targets_moved t q s r a.core a.at i a.target

    moved : (a b : ℕ) → Moved (core_number a) ≡ Moved (core_number b) → a ≡ b
    moved a b e = (let same : core_number a ≡ core_number b = cc in ap (λ (x : ResId). x.0) same)

-- an action that moves no core
staying : (m : Machine) (s : State) (t : ℕ) (action : Action) → ((q : ℕ) → action ≡ Moved (core_number q) → ⊥) → is_action_enabled m s t action ≡ true → (i r : ℕ) → Counted is_arinc (after m s t action) i r → Counted is_arinc s i r
staying m s t action other on i r counted = elim (counted_after m t is_arinc (arinc_kept t) s action on i r counted) [ inl old ↦ old | inr come ↦ absurd (other r come.moves) ]

-- a command comes where no core has a target
no_aim : (m : Machine) (s : State) (t : ℕ) → is_action_enabled m s t Xl ≡ true → (r i : ℕ) → Aims s r i → ⊥
no_aim m s t on r i aims = by_line (slice_get m.work.commands s.next_command) on
  where
    by_line : (line : Option CommandLine) → elim line as (λ _. Bool) [ None ↦ false | Some l ↦ nat_le l.at.0 t && not (has_move_under_way s) ] ≡ true → ⊥
    by_line None is = absurd (cc)
    by_line (Some l) is =
        let still : has_move_under_way s ≡ false = not-true _ (and_right (nat_le l.at.0 t) _ is) in
        let none = none_passes (λ (e : ℕ × FreeCore). is_some e.1.target) (numbered_items 0 s.free) (or_right _ _ still) in
        let here = at_numbered (λ (c : FreeCore). is_some c.target ≡ false) 0 s.free none r aims.core aims.at in
        clash (is_some aims.core.target) (is_some_at aims.core.target i aims.target) here

one_command : (m : Machine) (s : State) (t : ℕ) → is_action_enabled m s t Xl ≡ true → IsOne s → IsOne (after m s t Xl)
one_command m s t on one = by_line (slice_get m.work.commands s.next_command) (staying m s t Xl (λ q e. absurd (cc)) on)
  where
    carried : CommandLine → Result Plan Refusal → State
    carried line v = elim v as (λ _. State) [ Err fault ↦ record s { next_command = suc s.next_command } | Ok p ↦ settled_at t (plan_pool s p) (carried_out m t p (record s { next_command = suc s.next_command })) ]

    by_verdict : (line : CommandLine) (v : Result Plan Refusal) → line_verdict m s line ≡ v → ((i r : ℕ) → Counted is_arinc (carried line v) i r → Counted is_arinc s i r) → IsOne (carried line v)
    by_verdict line (Err fault) is was = one_same s (record s { next_command = suc s.next_command }) was (targets_now s) one
    by_verdict line (Ok p) is was =
        let T : ℕ → ℕ → Type 0 = λ r i. (pool : PoolId) × (core : ResId) × (answer : Reply) × (p ≡ plan.CpuAdd pool core answer) × (core.0 ≡ r) × (pool.0 ≡ i) in
        let targets : Targets T (carried line (Ok p)) =
        targets_settled T t (plan_pool s p) (carried_out m t p (record s { next_command = suc s.next_command }))
        (targets_carried_out T m t p (record s { next_command = suc s.next_command }) (λ i core answer e. (i, core, answer, e, refl, refl)) (λ r c at i target. absurd (no_aim m s t on r i (record { core = c; at = at; target = target })))) in
        record {
          cores = λ i q r a b. one.cores i q r (was i q a) (was i r b);
          free = λ i q r a b. (
              let aimed = targets q a.core a.at i a.target in
              let adds = subst (Adds s) aimed.3 (verdict_adds m s line p is) in
              adds r (subst (λ k. Counted is_arinc s k r) (sym aimed.5) (was i r b)));
          aims = λ i j q r a b. (
              let x = targets q a.core a.at i a.target in
              let y = targets r b.core b.at j b.target in
              let same : plan.CpuAdd x.0 x.1 x.2 ≡ plan.CpuAdd y.0 y.1 y.2 = sym x.3 ∙ y.3 in
              let core : x.1 ≡ y.1 = cc in
              sym x.4 ∙ ap (λ (c : ResId). c.0) core ∙ y.4);
        }

    by_line : (line : Option CommandLine) → ((i r : ℕ) → Counted is_arinc (elim line as (λ _. State) [ None ↦ s | Some l ↦ after_command m t l s ]) i r → Counted is_arinc s i r) → IsOne (elim line as (λ _. State) [ None ↦ s | Some l ↦ after_command m t l s ])
    by_line None was = one
    by_line (Some line) was = by_verdict line (line_verdict m s line) refl was

-- each action keeps it
one_at : (m : Machine) (s : State) (action : Action) → ((q : ℕ) → action ≡ Moved (core_number q) → ⊥) → is_action_enabled m s s.now action ≡ true → after m s s.now action ≡ after_at_home m.config.granularity s s.now action → IsOne s → IsOne (after m s s.now action)
one_at m s action other on at one =
    one_same s (after m s s.now action) (staying m s s.now action other on) (subst (Targets (Aims s)) (sym at) (targets_at (Aims s) m.config.granularity s.now action s (targets_now s))) one

one_after : (m : Machine) (s : State) (action : Action) → is_action_enabled m s s.now action ≡ true → IsOne s → IsOne (after m s s.now action)
one_after m s (Moved r) on one = one_moved m s s.now r.0 on one
one_after m s Xl on one = one_command m s s.now on one
one_after m s Stall on one =
    one_same s (after m s s.now Stall) (staying m s s.now Stall (λ q e. absurd (cc)) on) (targets_stall (Aims s) m.config.granularity s.now (slice_get m.work.stalls s.next_stall) s (targets_now s)) one
one_after m s (DomMoved d) on one = one_same s (after m s s.now (DomMoved d)) (staying m s s.now (DomMoved d) (λ q e. absurd (cc)) on) (targets_dom_moved (Aims s) m.config.granularity s.now d.0 s (targets_now s)) one
one_after m s action on one = one_at m s action (λ q e. absurd (cc)) on refl one

-- the opening: a pool has the scheduler of the file, and no free core has a target
module _ (g : ℕ) (A : Type 0) where
  abbrev Opens : Pool → Type 0
  Opens pool = is_arinc pool.scheduler.records ≡ true → A

  opens_pins : (d n : ℕ) (pins : List Cores) (pool : Pool) → Opens pool → Opens (pool_with_pins d n pins pool)
  opens_pins d n [] pool here = here
  opens_pins d n (cores ∷ pins) pool here = opens_pins d (suc n) pins _ (gives_params g 0 is_arinc (arinc_kept 0) A (changes.Pin (domain_number d) (Some n) cores) pool here)

  opens_domains : (i d : ℕ) (domains : List DomConfig) (pool : Pool) → Opens pool → Opens (pool_with_domains g i d domains pool)
  opens_domains i d [] pool here = here
  opens_domains i d (joining ∷ domains) pool here =
      opens_domains i (suc d) domains _ (by_cond Opens (joining.home.0 == i) (pool_with_configured g d joining pool) pool
      (λ is. opens_pins d 0 joining.pins _ (gives_with_domain g 0 is_arinc (arinc_kept 0) A d (domain_at_opening joining) joining.params pool here)) (λ is. here))

arinc_opened : (config : Config) (kind : SchedKind) (params : PoolParams) (domains cores : ℕ) → PoolParamsPass config kind params → is_arinc (empty_records params domains cores) ≡ true → kind ≡ kinds.Arinc653
arinc_opened config kinds.Arinc653 (pool_params.Arinc653 frame) domains cores pass is = refl
arinc_opened config other (pool_params.Arinc653 frame) domains cores pass is = absurd pass
arinc_opened config kind other domains cores pass is = absurd (cc)

one_opening : (m : Machine) → IsChecked m → IsOne (opening m)
one_opening m checked = record {
  cores = λ i q r a b. (
      let x = opened i q a in
      let y = opened i r b in
      let same : x.0 ≡ y.0 = (let e = x.1 in let f = y.1 in cc) in
      let passes : IsCheckedPool m.config x.0 = each_get (IsCheckedPool m.config) m.config.pools i x.0 (recursion_from_All (IsCheckedPool m.config) m.config.pools checked.config.pools) x.1 in
      passes.one_core (arinc_opened m.config x.0.kind x.0.params (length m.config.domains) (machine_core_count m.config) passes.params x.3) q r x.2 (subst (λ (p : PoolConfig). has_core_bit p.cores r ≡ true) (sym same) y.2));
  free = λ i q r a b. no_target q a;
  aims = λ i j q r a b. absurd (no_target q a);
}
  where
    opened : (i r : ℕ) → Counted is_arinc (opening m) i r → (p : PoolConfig) × (slice_get m.config.pools i ≡ Some p) × (has_core_bit p.cores r ≡ true) × (is_arinc (empty_records p.params (length m.config.domains) (machine_core_count m.config)) ≡ true)
    opened i r counted =
        let now = counted_core is_arinc (opening m) i r counted in
        let p = read_pools m.config 0 (most_pools - length m.config.pools) m.config.pools i now.0 now.2 in (
          p.0,
          p.1,
          opened_core m.config (0 + i) p.0 r now.1 (subst (λ (x : Pool). at_place x.resources r ≡ Some now.1) p.2 now.3),
          opens_domains m.config.granularity (is_arinc (empty_records p.0.params (length m.config.domains) (machine_core_count m.config)) ≡ true) (0 + i) 0 m.config.domains _ (λ is. is) (subst (λ (x : Pool). is_arinc x.scheduler.records ≡ true) p.2 now.4),
        )

    no_target : (r : ℕ) {i : ℕ} → Aims (opening m) r i → ⊥
    no_target r {i} a =
        let e : 0 + r ≡ r = omega arith in
        let made : free_core_at_opening m.config r ≡ Some a.core = rw e at (read_map (free_core_at_opening m.config) 0 (machine_core_count m.config) r a.core a.at) in
        by_cond (λ (o : Option FreeCore). o ≡ Some a.core → ⊥) (list_any (λ (pool : PoolConfig). has_core_bit pool.cores r) m.config.pools) None _ (λ is f. absurd (cc))
        (λ is f. (let none : a.core.target ≡ None = (let same = some_same _ a.core f in subst (λ (c : FreeCore). c.target ≡ None) same refl) in let has = a.target in absurd (cc))) made
      where
        some_same : (x y : FreeCore) → Some x ≡ Some y → x ≡ y
        some_same x y e = cc

-- in every state of a run
pub one_core : (m : Machine) → IsChecked m → (before : List Entry) (pool : Pool) → PoolOf m before pool → (arinc : ArincRecords) → pool.scheduler.records ≡ ArincPool arinc → (q r : ℕ) (x c : Resource) → at_place pool.resources q ≡ Some x → at_place pool.resources r ≡ Some c → q ≡ r
one_core m checked before pool of arinc is q r x c at_q at_r =
    let one : IsOne (state_after m before) = kept_by_runs m IsOne (λ s action on. one_after m s action on) (λ s next one. record { cores = one.cores; free = λ i k l a. one.free i k l (record { core = a.core; at = a.at; target = a.target }); aims = λ i j k l a b. one.aims i j k l (record { core = a.core; at = a.at; target = a.target }) (record { core = b.core; at = b.at; target = b.target }) }) before of.run (one_opening m checked) in
    let passes : is_arinc pool.scheduler.records ≡ true = ap is_arinc is in
    one.cores of.i q r (core_counted is_arinc (state_after m before) of.i q pool x of.at at_q passes) (core_counted is_arinc (state_after m before) of.i r pool c of.at at_r passes)
