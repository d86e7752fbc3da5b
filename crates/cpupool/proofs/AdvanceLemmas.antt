-- What an accepted command does to the tool's part is what it does to the state.
use Rattle.sched_base.specs.Numbers.{pool as pool_number}
use Rattle.std.proofs.Common.{◌≡◌, ◌+◌, ℕ, zero, suc, Bool, true, false, not, List, [], ◌∷◌, Option, Some, None, Result, Ok, Err, length, map, refl, sym, ◌∙◌, ap, cond, zero-add}
use Rattle.std.specs.Prelude.{◌==◌, ◌&&◌, ◌||◌, is_some, option_map, slice_set, replicate}
use Rattle.std.proofs.lemmas.List.{map-set}
use Rattle.sched_base.specs.declared.Name.{Name}
use Rattle.sched_base.specs.declared.Moment.{Moment}
use Rattle.sched_model.specs.declared.config.ParamChange.TheVariants as changes
use Rattle.sched_model.specs.declared.config.SchedKind.{SchedKind}
use Rattle.sched_base.specs.declared.DomId.{DomId}
use Rattle.sched_base.specs.declared.PoolId.{PoolId}
use Rattle.sched_base.specs.declared.ResId.{ResId}
use Rattle.sched_model.specs.declared.event.Reply.{Reply}
use Rattle.sched_model.specs.declared.event.Refusal.{Refusal}
use Rattle.sched_model.specs.declared.machine.Machine.{Machine}
use Rattle.sched_model.specs.declared.plan.Plan.{Plan}
use Rattle.sched_model.specs.declared.plan.Plan.TheVariants as plan
use Rattle.sched_model.specs.declared.work.CommandLine.{CommandLine}
use Rattle.sched_model.specs.declared.state.Domain.{Domain}
use Rattle.sched_model.specs.declared.state.FreeCore.{FreeCore}
use Rattle.sched_model.specs.declared.state.Pool.{Pool}
use Rattle.sched_model.specs.declared.state.Resource.{Resource}
use Rattle.sched_model.specs.declared.state.State.{State}
use Rattle.sched_model.specs.Places.{at_place, change_at, put_at, clear_at, numbers_from}
use Rattle.sched_model.specs.Opening.{fresh_pool, machine_core_count}
use Rattle.sched_model.specs.Policy.{standard_pool_params}
use Rattle.sched_model.specs.Pool.{settled_pool, changed_pool, paused_pool, unpaused_pool, pool_with_moving, pool_with_leaving, change_domain}
use Rattle.sched_model.specs.Actions.{home_pool_of_domain, change_pool}
use Rattle.sched_model.specs.Commands.{carried_out, change_home, pool_with_rtds, plan_pool}
use Rattle.sched_model.specs.Machine.{line_verdict, after_command, settled_at}
use Rattle.sched_model.proofs.PlaceLemmas.{at_place-map}
use Rattle.journal_core.specs.Parts.{Outline, UnderWay, ToolPart, core_to, domain_to, pool_outline, first_answer, pool_under_way, core_to_leave, domain_to_move, core_to_join, state_under_way, tool_of as part_of_tool}
use Rattle.cpupool.specs.Tool.{Tool, tool_of, free_core_ends, domain_entry}
use Rattle.cpupool.specs.Verdicts.{has_outlined_core}
use Rattle.cpupool.specs.ToolAdvance.{fresh_outline, after_advance, carried_part, has_outlined_domain_at}
use Rattle.cpupool.proofs.AnswerLemmas.{answer_change, answer_put, changed_answer, clear_none, no_answer, none_at, none_either, put_none}
use Rattle.cpupool.proofs.SubjectLemmas.{flag-there, there-map, length-map as length_map, map_none}
use Rattle.cpupool.proofs.SightLemmas.{IsStill, map_change, outline_still, leaving_still, settled_still, params_still, withdrawn_still, pause_still, unpause_still, rtds_still}
use Rattle.sched_laws.proofs.Records.{kind_default}
use Rattle.journal_core.specs.Parts.{or_else}

-- the tool sees the same of both states
record IsSame (a b : State) : Type 0 where
  names : a.names ≡ b.names
  outlines : map (option_map pool_outline) a.pools ≡ map (option_map pool_outline) b.pools
  leaving : first_answer pool_under_way 0 a.pools ≡ first_answer pool_under_way 0 b.pools
  free : a.free ≡ b.free
  stall : a.next_stall ≡ b.next_stall
  command : a.next_command ≡ b.next_command

-- the part that the tool has of such pools and cores
abbrev part_by : List (Option Name) → List (Option Outline) → Option UnderWay → List (Option FreeCore) → ℕ → ℕ → ToolPart
part_by names outlines leaving free stall command =
    record {
      names = names;
      pools = outlines;
      free = map (option_map free_core_ends) free;
      under_way = elim leaving [ Some way ↦ Some way | None ↦ first_answer core_to_join 0 free ];
      next_stall = stall;
      next_command = command;
    }

same_part : (a b : State) → IsSame a b → part_of_tool a ≡ part_of_tool b
same_part a b same =
    ap (λ x. part_by x (map (option_map pool_outline) a.pools) (first_answer pool_under_way 0 a.pools) a.free a.next_stall a.next_command) same.names
    ∙ ap (λ x. part_by b.names x (first_answer pool_under_way 0 a.pools) a.free a.next_stall a.next_command) same.outlines
    ∙ ap (λ x. part_by b.names (map (option_map pool_outline) b.pools) x a.free a.next_stall a.next_command) same.leaving
    ∙ ap (λ x. part_by b.names (map (option_map pool_outline) b.pools) (first_answer pool_under_way 0 b.pools) x a.next_stall a.next_command) same.free
    ∙ ap (λ x. part_by b.names (map (option_map pool_outline) b.pools) (first_answer pool_under_way 0 b.pools) b.free x a.next_command) same.stall
    ∙ ap (λ x. part_by b.names (map (option_map pool_outline) b.pools) (first_answer pool_under_way 0 b.pools) b.free b.next_stall x) same.command

still_pool : (i : ℕ) (f : Pool → Pool) (s : State) → ((pool : Pool) → IsStill (f pool) pool) → part_of_tool (change_pool i f s) ≡ part_of_tool s
still_pool i f s same = same_part (change_pool i f s) s (record {
  names = refl;
  outlines = map_change pool_outline f (λ pool. outline_still (f pool) pool (same pool)) i s.pools;
  leaving = answer_change pool_under_way f (λ n pool. leaving_still n (f pool) pool (same pool)) i 0 s.pools;
  free = refl;
  stall = refl;
  command = refl;
})

still_home : (d : ℕ) (f : Pool → Pool) (s : State) → ((pool : Pool) → IsStill (f pool) pool) → part_of_tool (change_home d f s) ≡ part_of_tool s
still_home d f s same = elim (home_pool_of_domain s d) as (λ o. part_of_tool (elim o [ None ↦ s | Some i ↦ change_pool i f s ]) ≡ part_of_tool s) [ None ↦ refl | Some i ↦ still_pool i f s same ]

still_settled : (t : ℕ) (o : Option ℕ) (s : State) → part_of_tool (settled_at t o s) ≡ part_of_tool s
still_settled t None s = refl
still_settled t (Some i) s = still_pool i (settled_pool t) s (settled_still t)

-- a pool without cores and domains
no_flags : (X : Type 0) (n : ℕ) → map (is_some {T = X}) (replicate n None) ≡ replicate n false
no_flags X zero = refl
no_flags X (suc n) = ap (λ rest. false ∷ rest) (no_flags X n)

empty_seen : (m : Machine) (s : State) (kind : SchedKind) → pool_outline (fresh_pool m.config (standard_pool_params kind)) ≡ fresh_outline (tool_of m s) kind
empty_seen m s kind =
    let kinds_same = kind_default kind (length m.config.domains) (machine_core_count m.config) in
    let cores = no_flags Resource (machine_core_count m.config) in
    let domains = map_none (λ (d : Domain). length d.vcpus) (length m.config.domains) ∙ ap (λ n. replicate n None) (sym (length_map domain_entry m.config.domains)) in
    cc (kinds_same, cores, domains)

empty_quiet : (m : Machine) (kind : SchedKind) (n : ℕ) → pool_under_way n (fresh_pool m.config (standard_pool_params kind)) ≡ None
empty_quiet m kind n =
    ap (λ a. or_else a (first_answer domain_to_move 0 (replicate (length m.config.domains) None))) (no_answer core_to_leave 0 (machine_core_count m.config)) ∙ no_answer domain_to_move 0 (length m.config.domains)

-- a core sets out from its pool
flags_change : {X : Type 0} (f : X → X) (i : ℕ) (places : List (Option X)) → map is_some (change_at i f places) ≡ map is_some places
flags_change f i [] = refl
flags_change f zero (None ∷ places) = refl
flags_change f zero (Some x ∷ places) = refl
flags_change f (suc i) (x ∷ places) = ap (λ rest. is_some x ∷ rest) (flags_change f i places)

leaving_outline : (r : ℕ) (pool : Pool) → pool_outline (pool_with_leaving r pool) ≡ pool_outline pool
leaving_outline r pool = ap (λ cores. record (pool_outline pool) { cores = cores }) (flags_change (λ c. record c { leaving = true; pending = c.pending || is_some c.cur }) r pool.resources)

core_sets_out : (r k : ℕ) (pool : Pool) → pool_under_way k pool ≡ None → pool_under_way k (pool_with_leaving r pool) ≡ cond (is_some (at_place pool.resources r)) (Some (core_to r None)) None
core_sets_out r k pool none =
    let split = none_either (first_answer core_to_leave 0 pool.resources) (first_answer domain_to_move 0 pool.domains) none in
    let g : Resource → Resource = λ c. record c { leaving = true; pending = c.pending || is_some c.cur } in
    ap (λ b. or_else (first_answer core_to_leave 0 (change_at r g pool.resources)) b) split.1
    ∙ ap (λ a. or_else a None) (answer_put core_to_leave g r 0 pool.resources split.0)
    ∙ ap (λ n. or_else (changed_answer (λ (c : Resource). Some (core_to n None)) (at_place pool.resources r)) None) (zero-add r)
    ∙ elim (at_place pool.resources r) as (λ o. or_else (changed_answer (λ (c : Resource). Some (core_to r None)) o) None ≡ cond (is_some o) (Some (core_to r None)) None) [ None ↦ refl | Some c ↦ refl ]

-- a domain sets out from its pool
moving_outline : (d j : ℕ) (pool : Pool) → pool_outline (pool_with_moving d j pool) ≡ pool_outline pool
moving_outline d j pool =
    let f : Domain → Domain = λ domain. record domain { moving = Some (pool_number j) } in
    outline_still (pool_with_moving d j pool) (change_domain d f pool) (withdrawn_still d (change_domain d f pool))
    ∙ ap (λ domains. record (pool_outline pool) { domains = domains }) (map_change (λ (x : Domain). length x.vcpus) f (λ x. refl) d pool.domains)

domain_sets_out : (d j k : ℕ) (pool : Pool) → pool_under_way k pool ≡ None → pool_under_way k (pool_with_moving d j pool) ≡ cond (is_some (at_place pool.domains d)) (Some (domain_to d j)) None
domain_sets_out d j k pool none =
    let split = none_either (first_answer core_to_leave 0 pool.resources) (first_answer domain_to_move 0 pool.domains) none in
    let f : Domain → Domain = λ domain. record domain { moving = Some (pool_number j) } in
    leaving_still k (pool_with_moving d j pool) (change_domain d f pool) (withdrawn_still d (change_domain d f pool))
    ∙ ap (λ a. or_else a (first_answer domain_to_move 0 (change_at d f pool.domains))) split.0
    ∙ answer_put domain_to_move f d 0 pool.domains split.1
    ∙ ap (λ n. changed_answer (λ (x : Domain). Some (domain_to n j)) (at_place pool.domains d)) (zero-add d)
    ∙ elim (at_place pool.domains d) as (λ o. changed_answer (λ (x : Domain). Some (domain_to d j)) o ≡ cond (is_some o) (Some (domain_to d j)) None) [ None ↦ refl | Some x ↦ refl ]

module _ (m : Machine) (s : State) (idle : state_under_way s ≡ None) where
  abbrev none_leaves : first_answer pool_under_way 0 s.pools ≡ None
  none_leaves = (none_either (first_answer pool_under_way 0 s.pools) (first_answer core_to_join 0 s.free) idle).0

  abbrev none_joins : first_answer core_to_join 0 s.free ≡ None
  none_joins = (none_either (first_answer pool_under_way 0 s.pools) (first_answer core_to_join 0 s.free) idle).1

  -- one pool is changed, and what sets out from it is told by a test of its outline
  sets_out : (i : ℕ) (f : Pool → Pool) (way : UnderWay) (test : Outline → Bool) → ((k : ℕ) (pool : Pool) → pool_under_way k pool ≡ None → pool_under_way k (f pool) ≡ cond (test (pool_outline pool)) (Some way) None)
      → or_else (first_answer pool_under_way 0 (change_at i f s.pools)) (first_answer core_to_join 0 s.free)
      ≡ cond (elim (at_place (map (option_map pool_outline) s.pools) i) [ None ↦ false | Some o ↦ test o ]) (Some way) None
  sets_out i f way test same =
      let tested : Option Outline → Option UnderWay = λ o. cond (elim o [ None ↦ false | Some x ↦ test x ]) (Some way) None in
      ap (or_else (first_answer pool_under_way 0 (change_at i f s.pools))) none_joins
      ∙ ap (λ a. or_else a None) (answer_put pool_under_way f i 0 s.pools none_leaves)
      ∙ elim (at_place s.pools i) as (λ o. at_place s.pools i ≡ o → or_else (changed_answer (λ pool. pool_under_way (0 + i) (f pool)) o) None ≡ tested (option_map pool_outline o)) [
        | None ↦ λ is. refl
        | Some pool ↦ λ is.
            ap (λ a. or_else a None) (same (0 + i) pool (none_at pool_under_way i 0 s.pools pool none_leaves is))
            ∙ elim (test (pool_outline pool)) as (λ b. or_else (cond b (Some way) None) None ≡ cond b (Some way) None) [ true ↦ refl | false ↦ refl ]
      ] refl
      ∙ ap tested (sym (at_place-map pool_outline s.pools i))

  abbrev over : State
  over = record s { next_command = suc s.next_command }

  abbrev part_over : ToolPart → ToolPart
  part_over part = record part { next_command = suc s.next_command }

  -- the part after the plan
  abbrev Carried : ℕ → Plan → Type 0
  Carried t p = part_of_tool (carried_out m t p over) ≡ part_over (carried_part (tool_of m s) p (part_of_tool s))

  created : (t : ℕ) (i : PoolId) (name : Name) (kind : SchedKind) (answer : Reply) → Carried t (plan.PoolCreate i name kind answer)
  created t i name kind answer =
      let fresh : Pool = fresh_pool m.config (standard_pool_params kind) in
      let outlines = map-set (option_map pool_outline) s.pools i.0 (Some fresh) ∙ ap (λ o. slice_set (map (option_map pool_outline) s.pools) i.0 (Some o)) (empty_seen m s kind) in
      let leaving = put_none pool_under_way fresh (empty_quiet m kind) i.0 0 s.pools none_leaves ∙ sym none_leaves in
      ap (λ x. part_by (put_at i.0 name s.names) x (first_answer pool_under_way 0 (put_at i.0 fresh s.pools)) s.free s.next_stall (suc s.next_command)) outlines
      ∙ ap (λ x. part_by (put_at i.0 name s.names) (slice_set (map (option_map pool_outline) s.pools) i.0 (Some (fresh_outline (tool_of m s) kind))) x s.free s.next_stall (suc s.next_command)) leaving

  destroyed : (t : ℕ) (i : PoolId) (answer : Reply) → Carried t (plan.PoolDestroy i answer)
  destroyed t i answer =
      let outlines = map-set (option_map pool_outline) s.pools i.0 None in
      let leaving = clear_none pool_under_way i.0 0 s.pools none_leaves ∙ sym none_leaves in
      ap (λ x. part_by (clear_at i.0 s.names) x (first_answer pool_under_way 0 (clear_at i.0 s.pools)) s.free s.next_stall (suc s.next_command)) outlines
      ∙ ap (λ x. part_by (clear_at i.0 s.names) (clear_at i.0 (map (option_map pool_outline) s.pools)) x s.free s.next_stall (suc s.next_command)) leaving

  -- the part with this on its way
  abbrev part_with : List (Option Outline) → List (Option (List Moment)) → Option UnderWay → ToolPart
  part_with outlines free way = record { names = s.names; pools = outlines; free = free; under_way = way; next_stall = s.next_stall; next_command = suc s.next_command }

  added : (t : ℕ) (i : PoolId) (core : ResId) (answer : Reply) → Carried t (plan.CpuAdd i core answer)
  added t i core answer =
      let g : FreeCore → FreeCore = λ c. record c { target = Some i.0 } in
      let ends = map_change free_core_ends g (λ c. refl) core.0 s.free in
      let way = ap (λ a. or_else a (first_answer core_to_join 0 (change_at core.0 g s.free))) none_leaves
      ∙ answer_put core_to_join g core.0 0 s.free none_joins
      ∙ ap (λ n. changed_answer (λ (c : FreeCore). Some (core_to n (Some i.0))) (at_place s.free core.0)) (zero-add core.0)
      ∙ elim (at_place s.free core.0) as (λ o. changed_answer (λ (c : FreeCore). Some (core_to core.0 (Some i.0))) o ≡ cond (is_some o) (Some (core_to core.0 (Some i.0))) None) [ None ↦ refl | Some c ↦ refl ]
      ∙ ap (λ b. cond b (Some (core_to core.0 (Some i.0))) None) (sym (there-map free_core_ends s.free core.0)) in
      ap (λ x. part_with (map (option_map pool_outline) s.pools) x (or_else (first_answer pool_under_way 0 s.pools) (first_answer core_to_join 0 (change_at core.0 g s.free)))) ends
      ∙ ap (part_with (map (option_map pool_outline) s.pools) (map (option_map free_core_ends) s.free)) way

  removed : (t : ℕ) (i : PoolId) (core : ResId) (answer : Reply) → Carried t (plan.CpuRemove i core answer)
  removed t i core answer =
      let f : Pool → Pool = pool_with_leaving core.0 in
      let outlines = map_change pool_outline f (leaving_outline core.0) i.0 s.pools in
      let way = sets_out i.0 f (core_to core.0 None) (λ o. has_outlined_core o core.0)
      (λ k pool none. core_sets_out core.0 k pool none ∙ ap (λ b. cond b (Some (core_to core.0 None)) None) (sym (flag-there pool.resources core.0))) in
      ap (λ x. part_with x (map (option_map free_core_ends) s.free) (or_else (first_answer pool_under_way 0 (change_at i.0 f s.pools)) (first_answer core_to_join 0 s.free))) outlines
      ∙ ap (part_with (map (option_map pool_outline) s.pools) (map (option_map free_core_ends) s.free)) way

  moved_out : (t : ℕ) (d : DomId) (i j : PoolId) → part_of_tool (change_pool i.0 (pool_with_moving d.0 j.0) over) ≡ part_over (record (part_of_tool s) { under_way = cond (has_outlined_domain_at (part_of_tool s) i.0 d.0) (Some (domain_to d.0 j.0)) None })
  moved_out t d i j =
      let f : Pool → Pool = pool_with_moving d.0 j.0 in
      let outlines = map_change pool_outline f (moving_outline d.0 j.0) i.0 s.pools in
      let way = sets_out i.0 f (domain_to d.0 j.0) (λ o. is_some (at_place o.domains d.0))
      (λ k pool none. domain_sets_out d.0 j.0 k pool none ∙ ap (λ b. cond b (Some (domain_to d.0 j.0)) None) (sym (there-map (λ (x : Domain). length x.vcpus) pool.domains d.0))) in
      ap (λ x. part_with x (map (option_map free_core_ends) s.free) (or_else (first_answer pool_under_way 0 (change_at i.0 f s.pools)) (first_answer core_to_join 0 s.free))) outlines
      ∙ ap (part_with (map (option_map pool_outline) s.pools) (map (option_map free_core_ends) s.free)) way

  migrated : (t : ℕ) (d : DomId) (i j : PoolId) (answer : Reply) → Carried t (plan.Migrate d i j answer)
  migrated t d i j answer =
      elim (i.0 == j.0) as (λ b. part_of_tool (cond b over (change_pool i.0 (pool_with_moving d.0 j.0) over)) ≡ part_over (record (part_of_tool s) { under_way = cond (not b && has_outlined_domain_at (part_of_tool s) i.0 d.0) (Some (domain_to d.0 j.0)) None })) [
        | true ↦ ap (λ w. part_over (record (part_of_tool s) { under_way = w })) idle
        | false ↦ moved_out t d i j
      ]

  -- each plan
  pub carried-seen : (t : ℕ) (p : Plan) → Carried t p
  carried-seen t (plan.PoolList pool answer) = refl
  carried-seen t (plan.PoolCreate i name kind answer) = created t i name kind answer
  carried-seen t (plan.PoolDestroy i answer) = destroyed t i answer
  carried-seen t (plan.PoolRename i name answer) = refl
  carried-seen t (plan.CpuAdd i core answer) = added t i core answer
  carried-seen t (plan.CpuRemove i core answer) = removed t i core answer
  carried-seen t (plan.Migrate d i j answer) = migrated t d i j answer
  carried-seen t (plan.Credit2Dom d weight cap answer) = still_home d.0 (changed_pool (changes.Dom d weight cap) t) over (params_still (changes.Dom d weight cap) t)
  carried-seen t (plan.Credit2Pool i None answer) = refl
  carried-seen t (plan.Credit2Pool i (Some us) answer) = still_pool i.0 (changed_pool (changes.Rate us) t) over (params_still (changes.Rate us) t)
  carried-seen t (plan.RtdsDom d first count period budget extra answer) = still_home d.0 (pool_with_rtds t d.0 period budget extra (numbers_from first count)) over (rtds_still t d.0 period budget extra (numbers_from first count))
  carried-seen t (plan.Pause d answer) = still_home d.0 (paused_pool d.0) over (pause_still d.0)
  carried-seen t (plan.Unpause d answer) = still_home d.0 (unpaused_pool m.config.granularity d.0) over (unpause_still m.config.granularity d.0)
  carried-seen t (plan.ArincSet i frame answer) = still_pool i.0 (changed_pool (changes.Frame frame) t) over (params_still (changes.Frame frame) t)
  carried-seen t (plan.Pin d unit cores answer) = still_home d.0 (changed_pool (changes.Pin d unit cores) t) over (params_still (changes.Pin d unit cores) t)

  -- what an accepted command does
  pub advanced-seen : (t : ℕ) (line : CommandLine) (p : Plan) → line_verdict m s line ≡ Ok p → after_advance (tool_of m s) p ≡ tool_of m (after_command m t line s)
  advanced-seen t line p accepted =
      let after : Result Plan Refusal → State = λ r. elim r [ Err fault ↦ over | Ok q ↦ settled_at t (plan_pool s q) (carried_out m t q over) ] in
      let with_part : ToolPart → Tool = λ part. record (tool_of m s) { part = part } in
      ap with_part (sym (carried-seen t p) ∙ sym (still_settled t (plan_pool s p) (carried_out m t p over))) ∙ ap (λ r. tool_of m (after r)) (sym accepted)
