-- In the ordered run each vCPU that may wake by now is awake when one blocks, so the rate limit keeps nobody.
use Rattle.std.proofs.Common.{◌≡◌, ◌<◌, ◌+◌, ℕ, zero, suc, Bool, true, false, List, [], ◌∷◌, ◌++◌, refl, arith, cond, subst, sym, ap, ◌∙◌, inl, inr, length}
use Rattle.std.specs.Prelude.{Option, Some, None, find, is_some, map, slice_get, ◌||◌}
use Rattle.std.specs.List.{list_any, AllByRecursion}
use Rattle.std.proofs.lemmas.Bool.{cases_Bool}
use Rattle.std.proofs.lemmas.List.{length-map}
use Rattle.std.proofs.lemmas.Option.{slice_get_within}
use Rattle.sched_base.specs.Numbers.{core as core_number, domain as domain_number, moment, processor, has_moment_come}
use Rattle.sched_base.specs.declared.ProcId.{ProcId}
use Rattle.sched_base.specs.declared.VcpuId.{VcpuId}
use Rattle.sched_model.specs.declared.action.Action.{Action}
use Rattle.sched_model.specs.declared.action.Action.TheVariants.{Stall, Xl, Moved, DomMoved, Wake, Block, Slice, Repl, Refill, Arrive, Decide, Leave, Save}
use Rattle.sched_model.specs.declared.config.DomConfig.{DomConfig}
use Rattle.sched_model.specs.declared.event.Entry.{Entry}
use Rattle.sched_model.specs.declared.event.Event.TheVariants as event
use Rattle.sched_model.specs.declared.machine.Machine.{Machine}
use Rattle.sched_model.specs.declared.state.Pool.{Pool}
use Rattle.sched_model.specs.declared.state.State.{State}
use Rattle.sched_model.specs.declared.state.Vcpu.{Vcpu}
use Rattle.sched_model.specs.Actions.{candidates, home_pool_of_domain, units_from, vcpus_from}
use Rattle.sched_model.specs.CheckedMachine.{IsChecked}
use Rattle.sched_model.specs.Machine.{after, event_of, first_enabled_action, is_action_enabled, next_in_horizon, ordered_run}
use Rattle.sched_model.specs.Opening.{machine_core_count}
use Rattle.sched_model.specs.Places.{at_place, numbers_from, test_at}
use Rattle.sched_model.specs.Pool.{enabled_in}
use Rattle.sched_model.specs.Runs.{Reached, after_entry, open_at}
use Rattle.sched_model.proofs.RunLemmas.{IsNext-action, action_of-event_of, after_entry-action, find_passes}
use Rattle.sched_laws.specs.StateLaws.{has_domain_at}
use Rattle.sched_laws.proofs.EachPlace.{vcpu_is}
use Rattle.sched_laws.proofs.Lists.{is_some_at, test_at-some}
use Rattle.sched_laws.proofs.Reached.{home_of_its_domain}
use Rattle.term_laws.proofs.ReachedStates.{IsReached, reached_next}
use Rattle.service_laws.proofs.Passing.{NextMomentLaw}
use Rattle.undisturbed_laws.specs.Undisturbed.{DomainStays}
use Rattle.sched_base.proofs.Bools.{or_more}
use Rattle.moment_laws.proofs.Tests.{or_later}
use Rattle.share_laws.specs.Shares.{IsPlainCredit2}
use Rattle.share_laws.proofs.Paced.{NoneToWake, SeenFor}
use Rattle.share_laws.proofs.PacedRuns.{PacedAt, keeps_nobody, step}
use Rattle.share_laws.proofs.UnitSums.{each_append}
use Rattle.share_laws.proofs.Runs.{KeptAlong, OnTimeLaw, of_reached, pool_stays}

-- something of one of two lists passes
any_left : {X : Type 0} (test : X → Bool) (xs ys : List X) → list_any test xs ≡ true → list_any test (xs ++ ys) ≡ true
any_left test [] ys any = absurd (cc)
any_left test (x ∷ xs) ys any =
    elim (test x) as (λ b. (b || list_any test xs) ≡ true → (b || list_any test (xs ++ ys)) ≡ true) [ true ↦ λ e. refl | false ↦ λ e. any_left test xs ys e ] any

any_right : {X : Type 0} (test : X → Bool) (xs ys : List X) → list_any test ys ≡ true → list_any test (xs ++ ys) ≡ true
any_right test [] ys any = any
any_right test (x ∷ xs) ys any = or_later (test x) (any_right test xs ys any)

any_map : {X Y : Type 0} (test : Y → Bool) (f : X → Y) (xs : List X) → list_any (λ x. test (f x)) xs ≡ true → list_any test (map f xs) ≡ true
any_map test f [] any = any
any_map test f (x ∷ xs) any = elim (test (f x)) as (λ b. (b || list_any (λ y. test (f y)) xs) ≡ true → (b || list_any test (map f xs)) ≡ true) [ true ↦ λ e. refl | false ↦ λ e. any_map test f xs e ] any

any_number : {X : Type 0} (test : X → Bool) (f : ℕ → X) (a c k : ℕ) → k < c → test (f (a + k)) ≡ true → list_any test (map f (numbers_from a c)) ≡ true
any_number test f a zero k low passes = absurd (omega (arith, low))
any_number test f a (suc c) zero low passes = (let e : a + 0 ≡ a = omega arith in or_more (test (f a)) _ (subst (λ n. test (f n) ≡ true) e passes))
any_number test f a (suc c) (suc k) low passes = (let e : a + suc k ≡ suc a + k = omega arith in or_later (test (f a)) (any_number test f (suc a) c k (omega (arith, low)) (subst (λ n. test (f n) ≡ true) e passes)))

-- a vCPU of the file
any_vcpu : (test : VcpuId → Bool) (v : VcpuId) (d k : ℕ) (domains : List DomConfig) (c : DomConfig) → test v ≡ true → v.dom.0 ≡ d + k → slice_get domains k ≡ Some c → v.n < length c.guests → list_any test (vcpus_from d domains) ≡ true
any_vcpu test v d k [] c passes dom is low = absurd (cc)
any_vcpu test v d zero (x ∷ domains) c passes dom is low =
    let same : x ≡ c = cc in
    let e : d ≡ v.dom.0 = omega (arith, dom) in
    let f : ℕ → VcpuId = λ n. record { dom = domain_number d; n = n } in
    let here : test (f (0 + v.n)) ≡ true = (let z : v.n ≡ 0 + v.n = omega arith in subst (λ n. test (f n) ≡ true) z (subst (λ k. test (record { dom = domain_number k; n = v.n }) ≡ true) (sym e) passes)) in
    any_left test (map f (numbers_from 0 (length x.guests))) (vcpus_from (suc d) domains) (any_number test f 0 (length x.guests) v.n (subst (λ (y : DomConfig). v.n < length y.guests) (sym same) low) here)
any_vcpu test v d (suc k) (x ∷ domains) c passes dom is low =
    any_right test (map (λ n. record { dom = domain_number d; n = n }) (numbers_from 0 (length x.guests))) (vcpus_from (suc d) domains) (any_vcpu test v (suc d) k domains c passes (omega (arith, dom)) is low)

-- what is found is of the first list that has something
find_left : {X : Type 0} (test : X → Bool) (xs ys : List X) → list_any test xs ≡ true → find test (xs ++ ys) ≡ find test xs
find_left test [] ys any = absurd (cc)
find_left {X} test (x ∷ xs) ys any =
    elim (test x) as (λ b. (b || list_any test xs) ≡ true → ◌≡◌ {A = Option X} (cond b (Some x) (find test (xs ++ ys))) (cond b (Some x) (find test xs))) [ true ↦ λ e. refl | false ↦ λ e. find_left test xs ys e ] any

find_has : {X : Type 0} (P : X → Type 0) (test : X → Bool) (xs : List X) (x : X) → AllByRecursion P xs → find test xs ≡ Some x → P x
find_has P test [] x each found = absurd (cc)
find_has {X} P test (y ∷ xs) x each found =
    elim (test y) as (λ b. ◌≡◌ {A = Option X} (cond b (Some y) (find test xs)) (Some x) → P x) [ true ↦ λ e. (let same : y ≡ x = cc in subst P same each.0) | false ↦ λ e. find_has P test xs x each.1 e ] found

each_map : {X Y : Type 0} (P : Y → Type 0) (f : X → Y) (xs : List X) → ((x : X) → P (f x)) → AllByRecursion P (map f xs)
each_map P f [] each = tt
each_map P f (x ∷ xs) each = (each x, each_map P f xs each)

abbrev NoBlock : Action → Type 0
NoBlock (Block p) = ⊥
NoBlock _ = Unit {0}

-- the actions up to the wakes, which come before the blocks
abbrev to_wake : Machine → List Action
to_wake m = Stall ∷ Xl ∷ map (λ n. Moved (core_number n)) (numbers_from 0 (machine_core_count m.config)) ++ map (λ n. DomMoved (domain_number n)) (numbers_from 0 (length m.config.domains)) ++ map Wake (vcpus_from 0 m.config.domains)

abbrev with_blocks : Machine → List Action
with_blocks m = to_wake m ++ map (λ n. Block (processor n)) (numbers_from 0 m.config.processors)

abbrev with_slices : Machine → List Action
with_slices m = with_blocks m ++ map (λ n. Slice (core_number n)) (numbers_from 0 (machine_core_count m.config))

abbrev with_repls : Machine → List Action
with_repls m = with_slices m ++ map Repl (units_from m.config.granularity 0 m.config.domains)

abbrev with_refills : Machine → List Action
with_refills m = with_repls m ++ map (λ n. Refill (domain_number n)) (numbers_from 0 (length m.config.domains))

abbrev with_arrives : Machine → List Action
with_arrives m = with_refills m ++ map (λ n. Arrive (processor n)) (numbers_from 0 m.config.processors)

abbrev with_decides : Machine → List Action
with_decides m = with_arrives m ++ map (λ n. Decide (core_number n)) (numbers_from 0 (machine_core_count m.config))

abbrev with_leaves : Machine → List Action
with_leaves m = with_decides m ++ map (λ n. Leave (processor n)) (numbers_from 0 m.config.processors)

no_block_before : (m : Machine) → AllByRecursion NoBlock (to_wake m)
no_block_before m = (
  tt,
  (
    tt,
    each_append NoBlock (map (λ n. Moved (core_number n)) (numbers_from 0 (machine_core_count m.config)) ++ map (λ n. DomMoved (domain_number n)) (numbers_from 0 (length m.config.domains))) (map Wake (vcpus_from 0 m.config.domains))
        (each_append NoBlock (map (λ n. Moved (core_number n)) (numbers_from 0 (machine_core_count m.config))) (map (λ n. DomMoved (domain_number n)) (numbers_from 0 (length m.config.domains))) (each_map NoBlock _ (numbers_from 0 (machine_core_count m.config)) (λ n. tt)) (each_map NoBlock _ (numbers_from 0 (length m.config.domains)) (λ n. tt)))
        (each_map NoBlock Wake (vcpus_from 0 m.config.domains) (λ v. tt)),
  ),
)

-- where a wake may come, the first that may come is no block
first_no_block : (m : Machine) (test : Action → Bool) (x : Action) → list_any test (map Wake (vcpus_from 0 m.config.domains)) ≡ true → find test (candidates m.config) ≡ Some x → NoBlock x
first_no_block m test x any found =
    let wakes : List Action = map Wake (vcpus_from 0 m.config.domains) in
    let moves : List Action = map (λ n. Moved (core_number n)) (numbers_from 0 (machine_core_count m.config)) ++ map (λ n. DomMoved (domain_number n)) (numbers_from 0 (length m.config.domains)) in
    let a : list_any test (to_wake m) ≡ true = or_later (test Stall) (or_later (test Xl) (any_right test moves wakes any)) in
    let b : list_any test (with_blocks m) ≡ true = any_left test (to_wake m) _ a in
    let c : list_any test (with_slices m) ≡ true = any_left test (with_blocks m) _ b in
    let d : list_any test (with_repls m) ≡ true = any_left test (with_slices m) _ c in
    let e : list_any test (with_refills m) ≡ true = any_left test (with_repls m) _ d in
    let f : list_any test (with_arrives m) ≡ true = any_left test (with_refills m) _ e in
    let g : list_any test (with_decides m) ≡ true = any_left test (with_arrives m) _ f in
    let h : list_any test (with_leaves m) ≡ true = any_left test (with_decides m) _ g in
    find_has NoBlock test (to_wake m) x (no_block_before m)
    (sym (find_left test (to_wake m) (map (λ n. Block (processor n)) (numbers_from 0 m.config.processors)) a)
    ∙ sym (find_left test (with_blocks m) (map (λ n. Slice (core_number n)) (numbers_from 0 (machine_core_count m.config))) b)
    ∙ sym (find_left test (with_slices m) (map Repl (units_from m.config.granularity 0 m.config.domains)) c)
    ∙ sym (find_left test (with_repls m) (map (λ n. Refill (domain_number n)) (numbers_from 0 (length m.config.domains))) d)
    ∙ sym (find_left test (with_refills m) (map (λ n. Arrive (processor n)) (numbers_from 0 m.config.processors)) e)
    ∙ sym (find_left test (with_arrives m) (map (λ n. Decide (core_number n)) (numbers_from 0 (machine_core_count m.config))) f)
    ∙ sym (find_left test (with_decides m) (map (λ n. Leave (processor n)) (numbers_from 0 m.config.processors)) g)
    ∙ sym (find_left test (with_leaves m) (map (λ n. Save (core_number n)) (numbers_from 0 (machine_core_count m.config))) h) ∙ found)

module _ (m : Machine) (checked : IsChecked m) (i r rate : ℕ) (plain : IsPlainCredit2 m i r rate) (law : NextMomentLaw m) (on_time : OnTimeLaw m) where
  -- before the first block all that may wake are awake
  none_to_wake : (s : State) → IsReached m s → (p : ProcId) → first_enabled_action m s s.now ≡ Some (Block p) → (pool : Pool) → at_place s.pools i ≡ Some pool → NoneToWake m checked i r rate plain s.now pool
  none_to_wake s reached p first pool at v y is = elim (cases_Bool (has_moment_come s.now y.asleep_until)) [ inr late ↦ late | inl come ↦ absurd (first_no_block m (is_action_enabled m s s.now) (Block p) (wakes come) first) ]
    where
      wakes : has_moment_come s.now y.asleep_until ≡ true → list_any (is_action_enabled m s s.now) (map Wake (vcpus_from 0 m.config.domains)) ≡ true
      wakes come =
          let d = vcpu_is pool.domains v y is in
          let stays = pool_stays m checked i r rate plain s reached pool at in
          let home = stays.domains.others v.dom.0 d.0 d.1 in
          let own = stays.domains.own v.dom.0 home.0 home.1 in
          let found = own.at in
          let there = d.1 in
          let same : own.item ≡ d.0 = cc in
          let scripts : DomainStays home.0 d.0 = subst (DomainStays home.0) same own.meets in
          let count : length d.0.vcpus ≡ length home.0.guests = sym (length-map d.0.vcpus (λ (x : Vcpu). x.script)) ∙ ap length scripts.scripts in
          let within = slice_get_within d.0.vcpus v.n y d.2 in
          let has : has_domain_at s i v.dom.0 ≡ true = test_at-some s.pools i (λ x. is_some (at_place x.domains v.dom.0)) pool at (is_some_at (at_place pool.domains v.dom.0) d.0 d.1) in
          let home_is : home_pool_of_domain s v.dom.0 ≡ Some i = of_reached m (λ (x : State). has_domain_at x i v.dom.0 ≡ true → home_pool_of_domain x v.dom.0 ≡ Some i) (λ entries run. home_of_its_domain m checked entries run i v.dom.0) s reached has in
          let on : enabled_in m.config.granularity s.now pool (Wake v) ≡ true = ap (λ (o : Option Vcpu). elim o as (λ _. Bool) [ None ↦ false | Some x ↦ has_moment_come s.now x.asleep_until ]) is ∙ come in
          let may : is_action_enabled m s s.now (Wake v) ≡ true =
          ap (λ (o : Option ℕ). elim o as (λ _. Bool) [ None ↦ false | Some j ↦ test_at s.pools j (λ x. enabled_in m.config.granularity s.now x (Wake v)) ]) home_is ∙ test_at-some s.pools i (λ x. enabled_in m.config.granularity s.now x (Wake v)) pool at on in
          any_map (is_action_enabled m s s.now) Wake (vcpus_from 0 m.config.domains) (any_vcpu (λ w. is_action_enabled m s s.now (Wake w)) v 0 v.dom.0 m.config.domains home.0 may (omega arith) home.1.there (omega (arith, within, count)))

  seen_first : (s : State) → IsReached m s → (action : Action) → first_enabled_action m s s.now ≡ Some action → (pool : Pool) → at_place s.pools i ≡ Some pool → SeenFor m checked i r rate plain s.now pool action
  seen_first s reached (Block p) first pool at = inr (inr (none_to_wake s reached p first pool at))
  seen_first s reached action first pool at = tt

  pub ordered_kept : (n : ℕ) (s : State) → IsReached m s → PacedAt m checked i r rate plain law on_time s → KeptAlong m checked i r rate plain (open_at s) (ordered_run n m s)
  ordered_kept zero s reached here = tt
  ordered_kept (suc n) s reached here =
      elim (first_enabled_action m s s.now) as (λ o. first_enabled_action m s s.now ≡ o → KeptAlong m checked i r rate plain (open_at s) (elim o as (λ _. List Entry) [
        | Some action ↦ record { at = moment s.now; event = event_of m s s.now action } ∷ ordered_run n m (after m s s.now action)
        | None ↦ elim (next_in_horizon m s) as (λ _. List Entry) [
          | Some next ↦ record { at = moment s.now; event = event.End (moment next) } ∷ ordered_run n m (record s { now = next })
          | None ↦ record { at = moment s.now; event = event.Finish } ∷ []
        ]
      ])) [
        | Some action ↦ λ is. (
          keeps_nobody m checked i r rate plain law on_time s reached here,
          acted (λ x r h. ordered_kept n x r h) action (after_entry m (open_at s) (record { at = moment s.now; event = event_of m s s.now action })) (after_entry-action m s action)
              (reached_next m (open_at s) (record { at = moment s.now; event = event_of m s s.now action }) (IsNext-action m s action (find_passes (is_action_enabled m s s.now) (candidates m.config) action is)) reached)
              (step m checked i r rate plain law on_time (open_at s) (record { at = moment s.now; event = event_of m s s.now action }) (IsNext-action m s action (find_passes (is_action_enabled m s s.now) (candidates m.config) action is)) reached
              (λ other names pool at. (let same : action ≡ other = some_same (sym (action_of-event_of m s s.now action) ∙ names) in seen_first s reached other (is ∙ ap (λ (x : Action). Some x) same) pool at)) here),
        )
        | None ↦ λ is. elim (next_in_horizon m s) as (λ o. next_in_horizon m s ≡ o → KeptAlong m checked i r rate plain (open_at s) (elim o as (λ _. List Entry) [
          | Some next ↦ record { at = moment s.now; event = event.End (moment next) } ∷ ordered_run n m (record s { now = next })
          | None ↦ record { at = moment s.now; event = event.Finish } ∷ []
        ])) [
          | Some next ↦ λ at. (
            keeps_nobody m checked i r rate plain law on_time s reached here,
            ordered_kept n (record s { now = next }) (reached_next m (open_at s) (record { at = moment s.now; event = event.End (moment next) }) (record { goes_on = refl; moment = refl; event = (is, at) }) reached)
                (step m checked i r rate plain law on_time (open_at s) (record { at = moment s.now; event = event.End (moment next) }) (record { goes_on = refl; moment = refl; event = (is, at) }) reached (λ other names pool at. absurd (cc)) here),
          )
          | None ↦ λ at. (keeps_nobody m checked i r rate plain law on_time s reached here, tt)
        ] refl
      ] refl
    where
      some_same : {X : Type 0} {a b : X} → Some a ≡ Some b → a ≡ b
      some_same e = cc

      acted : ((x : State) → IsReached m x → PacedAt m checked i r rate plain law on_time x → KeptAlong m checked i r rate plain (open_at x) (ordered_run n m x)) → (action : Action) → (from : Reached) → from ≡ open_at (after m s s.now action) → IsReached m from.state → PacedAt m checked i r rate plain law on_time from.state → KeptAlong m checked i r rate plain from (ordered_run n m (after m s s.now action))
      acted rest action from same reached here =
          let state : from.state ≡ after m s s.now action = ap (λ (x : Reached). x.state) same in
          subst (λ (f : Reached). KeptAlong m checked i r rate plain f (ordered_run n m (after m s s.now action))) (sym same)
          (rest (after m s s.now action) (subst (IsReached m) state reached) (subst (PacedAt m checked i r rate plain law on_time) state here))
