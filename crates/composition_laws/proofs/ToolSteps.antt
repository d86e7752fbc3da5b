-- What a stall, a command and a move change, by their definitions.
use Rattle.std.proofs.Common.{◌≡◌, ◌+◌, ◌/◌, ◌%◌, ◌==◌, ℕ, zero, suc, Bool, true, false, List, [], ◌∷◌, map, replicate, cond, refl, ap, sym, subst, ◌∙◌}
use Rattle.std.specs.Prelude.{Option, Some, None, Result, Ok, Err, max, option_map, is_some, slice_get}
use Rattle.sched_base.specs.Numbers.{moment, core as core_number, domain as domain_number}
use Rattle.sched_base.specs.declared.PoolId.{PoolId}
use Rattle.sched_model.specs.declared.action.Action.TheVariants.{Stall, Xl, Moved, DomMoved}
use Rattle.sched_model.specs.declared.config.ParamChange.TheVariants as changes
use Rattle.sched_model.specs.declared.config.Config.{Config}
use Rattle.sched_model.specs.declared.config.PoolParams.{PoolParams}
use Rattle.sched_model.specs.declared.event.Refusal.{Refusal}
use Rattle.sched_model.specs.declared.machine.Machine.{Machine}
use Rattle.sched_model.specs.declared.plan.Plan.{Plan}
use Rattle.sched_model.specs.declared.plan.Plan.TheVariants as plan
use Rattle.sched_model.specs.declared.state.Domain.{Domain}
use Rattle.sched_model.specs.declared.state.FreeCore.{FreeCore}
use Rattle.sched_model.specs.declared.state.Pool.{Pool}
use Rattle.sched_model.specs.declared.state.Processor.{Processor}
use Rattle.sched_model.specs.declared.state.Resource.{Resource}
use Rattle.sched_model.specs.declared.state.State.{State}
use Rattle.sched_model.specs.declared.work.CommandLine.{CommandLine}
use Rattle.sched_model.specs.declared.work.StallLine.{StallLine}
use Rattle.sched_model.specs.Places.{at_place, put_at, clear_at, change_at, change_each, change_item, numbers_from}
use Rattle.sched_model.specs.Opening.{fresh_pool, machine_core_count}
use Rattle.sched_model.specs.Policy.{standard_pool_params}
use Rattle.sched_model.specs.Pool.{settled_pool, paused_pool, unpaused_pool, pool_with_moving, pool_with_leaving, changed_pool}
use Rattle.sched_model.specs.Actions.{home_pool_of_core, home_pool_of_domain, change_pool}
use Rattle.sched_model.specs.Commands.{pool_with_rtds, plan_pool, carried_out, change_home}
use Rattle.sched_model.specs.Machine.{after, after_stall, after_command, state_after_moved, state_with_stall, settled_at, line_verdict, later_stall_end, pool_with_core, without_core, with_core_in, without_core_in, left_by, joined_by}
use Rattle.sched_laws.proofs.EachPlace.{at_place-put_at, at_place-put_at_other, at_place-clear_at, at_place-clear_at_other}
use Rattle.composition_laws.proofs.Places.{at_place-change_at, at_place-change_at_other}
use Rattle.journal_core.specs.Parts.{Outline, UnderWay, ToolPart, pool_outline, first_answer, core_to_leave, domain_to_move, core_to_join, pool_under_way, state_under_way, tool_of}
use Rattle.sched_laws.proofs.Judged.{Fits, verdict_fits}
use Rattle.composition_laws.specs.ToolSteps.{ChangesNoPool, ChangesPlace, end_of_stall, with_stall, stall_end_in, StallSteps, carried_at, CommandSteps, JoinSteps, LeaveSteps, DomainSteps, ToolSteps}
use Rattle.composition_laws.proofs.Faces.{seen_change_at}
use Rattle.composition_laws.proofs.PoolSteps.{first_answer-change_at}

-- a pool changed, and what else of the state is no pool's
changes_pool : (i : ℕ) (f : Pool → Pool) (s next : State) → next.pools ≡ change_at i f s.pools → next.now ≡ s.now → ChangesPlace s next i (option_map f)
changes_pool i f s next pools now = record {
  own = ap (λ (l : List (Option Pool)). at_place l i) pools ∙ at_place-change_at i f s.pools;
  others = λ k ne. ap (λ (l : List (Option Pool)). at_place l k) pools ∙ at_place-change_at_other i k f s.pools ne;
  now = now;
}

changes_none : (s next : State) → next.pools ≡ s.pools → next.now ≡ s.now → ChangesNoPool s next
changes_none s next pools now = record { pools = λ k. ap (λ (l : List (Option Pool)). at_place l k) pools; now = now }

-- changed once more
option_map-twice : {X : Type 0} (f h : X → X) (o : Option X) → option_map h (option_map f o) ≡ option_map (λ x. h (f x)) o
option_map-twice f h None = refl
option_map-twice f h (Some x) = refl

-- a pool without cores is settled
change_none : {X : Type 0} (k n : ℕ) (f : ℕ → X → X) → change_each k f (replicate n None) ≡ replicate n None
change_none k zero f = refl
change_none {X} k (suc n) f = ap (λ (places : List (Option X)). None ∷ places) (change_none (suc k) n f)

settled_empty : (t : ℕ) (config : Config) (params : PoolParams) → settled_pool t (fresh_pool config params) ≡ fresh_pool config params
settled_empty t config params = ap (λ (cores : List (Option Resource)). record (fresh_pool config params) { resources = cores }) (change_none 0 (machine_core_count config) _)

-- the tool keeps nothing of when a processor stalls
there-change_at : {X : Type 0} (i : ℕ) (f : X → X) (places : List (Option X)) → map is_some (change_at i f places) ≡ map is_some places
there-change_at i f [] = refl
there-change_at zero f (None ∷ places) = refl
there-change_at zero f (Some x ∷ places) = refl
there-change_at (suc i) f (p ∷ places) = ap (λ ys. is_some p ∷ ys) (there-change_at i f places)

outline_stays : (g p end : ℕ) (pool : Pool) → pool_outline (with_stall g p end pool) ≡ pool_outline pool
outline_stays g p end pool = ap (λ (cores : List Bool). record (pool_outline pool) { cores = cores }) (there-change_at (p / g) _ pool.resources)

way_stays : (g p end k : ℕ) (pool : Pool) → pool_under_way k (with_stall g p end pool) ≡ pool_under_way k pool
way_stays g p end k pool =
    ap (λ (o : Option UnderWay). elim o as (λ _. Option UnderWay) [ Some way ↦ Some way | None ↦ first_answer domain_to_move 0 pool.domains ])
    (first_answer-change_at core_to_leave 0 (p / g) (λ (c : Resource). record c { processors = change_item (p % g) (λ q. record q { stall_end = moment end }) c.processors }) pool.resources (λ r c. refl))

tool_stays : (i g p end : ℕ) (s : State) → tool_of (change_pool i (with_stall g p end) s) ≡ tool_of s
tool_stays i g p end s =
    ap (λ (pools : List (Option Outline)). record (tool_of s) { pools = pools; under_way = state_under_way (change_pool i (with_stall g p end) s) }) (seen_change_at pool_outline i (with_stall g p end) s.pools (outline_stays g p end))
    ∙ ap (λ (o : Option UnderWay). record (tool_of s) { under_way = elim o as (λ _. Option UnderWay) [ Some way ↦ Some way | None ↦ first_answer core_to_join 0 s.free ] })
    (first_answer-change_at pool_under_way 0 i (with_stall g p end) s.pools (way_stays g p end))

module _ (m : Machine) (s : State) (t : ℕ) where
  -- a stall
  after_line : (line : StallLine) → slice_get m.work.stalls s.next_stall ≡ Some line → after m s t Stall ≡ after_stall m.config.granularity t line s
  after_line line is = ap (λ (o : Option StallLine). elim o as (λ _. State) [ None ↦ s | Some l ↦ after_stall m.config.granularity t l s ]) is

  -- the state with the ends of the stalls of the free core r
  abbrev free_stalled : ℕ → ℕ → State
  free_stalled p end =
      record s { free = change_at (p / m.config.granularity) (λ (c : FreeCore). record c { stall_ends = change_item (p % m.config.granularity) (λ old. moment end) c.stall_ends }) s.free }

  stalled_in : (p end : ℕ) (home : Option ℕ) → home_pool_of_core s (p / m.config.granularity) ≡ home
      → state_with_stall m.config.granularity p end s ≡ elim home as (λ _. State) [ None ↦ free_stalled p end | Some i ↦ change_pool i (with_stall m.config.granularity p end) s ]
  stalled_in p end home is = ap (λ (o : Option ℕ). elim o as (λ _. State) [ None ↦ free_stalled p end | Some i ↦ change_pool i (with_stall m.config.granularity p end) s ]) is

  ends_in : (g p end i : ℕ) (pool : Pool) → home_pool_of_core s (p / g) ≡ Some i → at_place s.pools i ≡ Some pool → later_stall_end g s p end ≡ stall_end_in g p end pool
  ends_in g p end i pool home at =
      let by_processor : Option Processor → ℕ = λ o. elim o [ None ↦ end | Some q ↦ max q.stall_end.0 end ] in
      let by_core : Option Resource → ℕ = λ o. elim o [ None ↦ end | Some c ↦ by_processor (slice_get c.processors (p % g)) ] in
      let by_pool : Option Pool → ℕ = λ o. elim o [ None ↦ end | Some q ↦ by_core (at_place q.resources (p / g)) ] in
      let by_free : Option FreeCore → ℕ = λ o. elim o [ None ↦ end | Some c ↦ elim (slice_get c.stall_ends (p % g)) [ None ↦ end | Some old ↦ max old.0 end ] ] in
      let by_home : Option ℕ → ℕ = λ o. elim o [ None ↦ by_free (at_place s.free (p / g)) | Some k ↦ by_pool (at_place s.pools k) ] in
      ap by_home home ∙ ap by_pool at ∙ by_cores (at_place pool.resources (p / g))
    where
      by_cores : (o : Option Resource) → elim o as (λ _. ℕ) [ None ↦ end | Some c ↦ elim (slice_get c.processors (p % g)) [ None ↦ end | Some q ↦ max q.stall_end.0 end ] ]
          ≡ elim (elim o as (λ _. Option Processor) [ None ↦ None | Some c ↦ slice_get c.processors (p % g) ]) as (λ _. ℕ) [ None ↦ end | Some q ↦ max q.stall_end.0 end ]
      by_cores None = refl
      by_cores (Some c) = refl

  stall_steps : (line : StallLine) → slice_get m.work.stalls s.next_stall ≡ Some line → StallSteps m s t line
  stall_steps line is =
      let end : ℕ = end_of_stall m s t line in
      let counted : State → State = λ next. record next { next_stall = suc s.next_stall } in
      let first = after_line line is in
      record {
        free = λ home. let e : after m s t Stall ≡ counted (free_stalled line.cpu.0 end) = first ∙ ap counted (stalled_in line.cpu.0 end None home) in
            subst (ChangesNoPool s) (sym e) (changes_none s (counted (free_stalled line.cpu.0 end)) refl refl);
        own = λ i home. let e : after m s t Stall ≡ counted (change_pool i (with_stall m.config.granularity line.cpu.0 end) s) = first ∙ ap counted (stalled_in line.cpu.0 end (Some i) home) in
            subst (λ (next : State). ChangesPlace s next i (option_map (with_stall m.config.granularity line.cpu.0 end))) (sym e)
            (changes_pool i (with_stall m.config.granularity line.cpu.0 end) s (counted (change_pool i (with_stall m.config.granularity line.cpu.0 end) s)) refl refl);
        end = λ i pool home at. ends_in m.config.granularity line.cpu.0 (t + line.span.0) i pool home at;
        tool = λ i home. let e : after m s t Stall ≡ counted (change_pool i (with_stall m.config.granularity line.cpu.0 end) s) = first ∙ ap counted (stalled_in line.cpu.0 end (Some i) home) in
            ap tool_of e ∙ ap (λ (part : ToolPart). record part { next_stall = suc s.next_stall }) (tool_stays i m.config.granularity line.cpu.0 end s);
      }

  -- a command
  abbrev counted : State
  counted = record s { next_command = suc s.next_command }

  once : (i : ℕ) (next : State) → next.pools ≡ s.pools → next.now ≡ s.now → ChangesPlace s (change_pool i (settled_pool t) next) i (option_map (settled_pool t))
  once i next pools now = changes_pool i (settled_pool t) s (change_pool i (settled_pool t) next) (ap (change_at i (settled_pool t)) pools) now

  twice : (i : ℕ) (f : Pool → Pool) → ChangesPlace s (change_pool i (settled_pool t) (change_pool i f counted)) i (option_map (λ pool. settled_pool t (f pool)))
  twice i f = record {
    own = at_place-change_at i (settled_pool t) (change_at i f s.pools) ∙ ap (option_map (settled_pool t)) (at_place-change_at i f s.pools) ∙ option_map-twice f (settled_pool t) (at_place s.pools i);
    others = λ k ne. at_place-change_at_other i k (settled_pool t) (change_at i f s.pools) ne ∙ at_place-change_at_other i k f s.pools ne;
    now = refl;
  }

  at_home : (d i : ℕ) (f : Pool → Pool) → home_pool_of_domain s d ≡ Some i → ChangesPlace s (change_pool i (settled_pool t) (change_home d f counted)) i (option_map (λ pool. settled_pool t (f pool)))
  at_home d i f home = subst (λ (next : State). ChangesPlace s (change_pool i (settled_pool t) next) i (option_map (λ pool. settled_pool t (f pool))))
      (sym (ap (λ (o : Option ℕ). elim o as (λ _. State) [ None ↦ counted | Some k ↦ change_pool k f counted ]) home)) (twice i f)

  no_home : (d : ℕ) (f : Pool → Pool) → home_pool_of_domain s d ≡ None → ChangesNoPool s (change_home d f counted)
  no_home d f home = subst (ChangesNoPool s) (sym (ap (λ (o : Option ℕ). elim o as (λ _. State) [ None ↦ counted | Some k ↦ change_pool k f counted ]) home)) (changes_none s counted refl refl)

  moved_if : (same : Bool) (i : ℕ) (f : Pool → Pool) → ChangesPlace s (change_pool i (settled_pool t) (cond same counted (change_pool i f counted))) i (option_map (λ pool. settled_pool t (cond same pool (f pool))))
  moved_if true i f = once i counted refl refl
  moved_if false i f = twice i f

  -- the pool of a plan, by its number
  by_number : (p : Plan) (i n : ℕ) → Some n ≡ Some i → ChangesPlace s (change_pool n (settled_pool t) (carried_out m t p counted)) n (carried_at m t p)
      → ChangesPlace s (change_pool i (settled_pool t) (carried_out m t p counted)) i (carried_at m t p)
  by_number p i n is changes = (let e : n ≡ i = cc in subst (λ (k : ℕ). ChangesPlace s (change_pool k (settled_pool t) (carried_out m t p counted)) k (carried_at m t p)) e changes)

  accepted : (p : Plan) (i : ℕ) → Fits s p → plan_pool s p ≡ Some i → ChangesPlace s (change_pool i (settled_pool t) (carried_out m t p counted)) i (carried_at m t p)
  accepted (plan.PoolList None answer) i promises is = absurd (cc)
  accepted (plan.PoolList (Some n) answer) i promises is = by_number (plan.PoolList (Some n) answer) i n.0 is (once n.0 counted refl refl)
  accepted (plan.PoolCreate n name kind answer) i promises is =
      let x : Pool = fresh_pool m.config (standard_pool_params kind) in
      by_number (plan.PoolCreate n name kind answer) i n.0 is (record {
        own = at_place-change_at n.0 (settled_pool t) (put_at n.0 x s.pools) ∙ ap (option_map (settled_pool t)) (at_place-put_at n.0 x s.pools promises.1) ∙ ap (λ (y : Pool). Some y) (settled_empty t m.config (standard_pool_params kind));
        others = λ k ne. at_place-change_at_other n.0 k (settled_pool t) (put_at n.0 x s.pools) ne ∙ at_place-put_at_other n.0 k x s.pools ne;
        now = refl;
      })
  accepted (plan.PoolDestroy n answer) i promises is = by_number (plan.PoolDestroy n answer) i n.0 is (record {
    own = at_place-change_at n.0 (settled_pool t) (clear_at n.0 s.pools) ∙ ap (option_map (settled_pool t)) (at_place-clear_at n.0 s.pools);
    others = λ k ne. at_place-change_at_other n.0 k (settled_pool t) (clear_at n.0 s.pools) ne ∙ at_place-clear_at_other n.0 k s.pools ne;
    now = refl;
  })
  accepted (plan.PoolRename n name answer) i promises is = by_number (plan.PoolRename n name answer) i n.0 is (once n.0 (carried_out m t (plan.PoolRename n name answer) counted) refl refl)
  accepted (plan.CpuAdd n core answer) i promises is = by_number (plan.CpuAdd n core answer) i n.0 is (once n.0 (carried_out m t (plan.CpuAdd n core answer) counted) refl refl)
  accepted (plan.CpuRemove n core answer) i promises is = by_number (plan.CpuRemove n core answer) i n.0 is (twice n.0 (pool_with_leaving core.0))
  accepted (plan.Migrate d n j answer) i promises is = by_number (plan.Migrate d n j answer) i n.0 is (moved_if (n.0 == j.0) n.0 (pool_with_moving d.0 j.0))
  accepted (plan.Credit2Dom d weight percent answer) i promises is = at_home d.0 i (changed_pool (changes.Dom d weight percent) t) is
  accepted (plan.Credit2Pool n None answer) i promises is = by_number (plan.Credit2Pool n None answer) i n.0 is (once n.0 counted refl refl)
  accepted (plan.Credit2Pool n (Some us) answer) i promises is = by_number (plan.Credit2Pool n (Some us) answer) i n.0 is (twice n.0 (changed_pool (changes.Rate us) t))
  accepted (plan.RtdsDom d first count period budget extra answer) i promises is = at_home d.0 i (pool_with_rtds t d.0 period budget extra (numbers_from first count)) is
  accepted (plan.Pause d answer) i promises is = at_home d.0 i (paused_pool d.0) is
  accepted (plan.Unpause d answer) i promises is = at_home d.0 i (unpaused_pool m.config.granularity d.0) is
  accepted (plan.ArincSet n frame answer) i promises is = by_number (plan.ArincSet n frame answer) i n.0 is (twice n.0 (changed_pool (changes.Frame frame) t))
  accepted (plan.Pin d unit cores answer) i promises is = at_home d.0 i (changed_pool (changes.Pin d unit cores) t) is

  homeless : (p : Plan) → plan_pool s p ≡ None → ChangesNoPool s (carried_out m t p counted)
  homeless (plan.PoolList n answer) is = changes_none s counted refl refl
  homeless (plan.Credit2Dom d weight percent answer) is = no_home d.0 (changed_pool (changes.Dom d weight percent) t) is
  homeless (plan.RtdsDom d first count period budget extra answer) is = no_home d.0 (pool_with_rtds t d.0 period budget extra (numbers_from first count)) is
  homeless (plan.Pause d answer) is = no_home d.0 (paused_pool d.0) is
  homeless (plan.Unpause d answer) is = no_home d.0 (unpaused_pool m.config.granularity d.0) is
  homeless (plan.Pin d unit cores answer) is = no_home d.0 (changed_pool (changes.Pin d unit cores) t) is
  homeless p is = absurd (cc)

  -- the state after a line, by its verdict
  pub answered : (line : CommandLine) (v : Result Plan Refusal) → slice_get m.work.commands s.next_command ≡ Some line → line_verdict m s line ≡ v
      → after m s t Xl ≡ elim v as (λ _. State) [ Err fault ↦ counted | Ok p ↦ settled_at t (plan_pool s p) (carried_out m t p counted) ]
  answered line v is says =
      ap (λ (o : Option CommandLine). elim o as (λ _. State) [ None ↦ s | Some l ↦ after_command m t l s ]) is
      ∙ ap (λ (r : Result Plan Refusal). elim r as (λ _. State) [ Err fault ↦ counted | Ok p ↦ settled_at t (plan_pool s p) (carried_out m t p counted) ]) says

  pub at_plan : (line : CommandLine) (p : Plan) (home : Option ℕ) → slice_get m.work.commands s.next_command ≡ Some line → line_verdict m s line ≡ Ok p → plan_pool s p ≡ home → after m s t Xl ≡ settled_at t home (carried_out m t p counted)
  at_plan line p home is says at = answered line (Ok p) is says ∙ ap (λ (o : Option ℕ). settled_at t o (carried_out m t p counted)) at

  pub command_steps : (line : CommandLine) → slice_get m.work.commands s.next_command ≡ Some line → CommandSteps m s t line
  command_steps line is = record {
    refused = λ fault says. subst (ChangesNoPool s) (sym (answered line (Err fault) is says)) (changes_none s counted refl refl);
    tool = λ fault says. ap tool_of (answered line (Err fault) is says);
    none = λ p says home. subst (ChangesNoPool s) (sym (at_plan line p None is says home)) (homeless p home);
    own = λ p i says home. subst (λ (next : State). ChangesPlace s next i (carried_at m t p)) (sym (at_plan line p (Some i) is says home)) (accepted p i (verdict_fits m s line p says) home);
  }

  -- a move
  pub join_steps : (r : ℕ) (c : FreeCore) (i : ℕ) → at_place s.free r ≡ Some c → c.target ≡ Some i → JoinSteps m s t r c i
  join_steps r c i at aims =
      let e : after m s t (Moved (core_number r)) ≡ with_core_in t r i c s = rw (state_after_moved, at, aims) refl in
      record {
        own = subst (λ (next : State). ChangesPlace s next i (option_map (pool_with_core t r c.stall_ends))) (sym e) (changes_pool i (pool_with_core t r c.stall_ends) s (with_core_in t r i c s) refl refl);
        free = ap (λ (next : State). next.free) e;
      }

  pub leave_steps : (r i : ℕ) (pool : Pool) (c : Resource) → at_place s.free r ≡ None → home_pool_of_core s r ≡ Some i → at_place s.pools i ≡ Some pool → at_place pool.resources r ≡ Some c → LeaveSteps m s t r i c
  leave_steps r i pool c not_free home at has =
      let by_core : ℕ → Option Resource → State = λ k o. elim o [ None ↦ s | Some x ↦ without_core_in t r k x s ] in
      let by_pool : ℕ → Option Pool → State = λ k o. elim o [ None ↦ s | Some q ↦ by_core k (at_place q.resources r) ] in
      let by_home : Option ℕ → State = λ o. elim o [ None ↦ s | Some k ↦ by_pool k (at_place s.pools k) ] in
      let by_free : Option FreeCore → State = λ o. elim o [ Some x ↦ elim x.target [ None ↦ s | Some k ↦ with_core_in t r k x s ] | None ↦ by_home (home_pool_of_core s r) ] in
      let e : after m s t (Moved (core_number r)) ≡ without_core_in t r i c s = ap by_free not_free ∙ ap by_home home ∙ ap (by_pool i) at ∙ ap (by_core i) has in
      record {
        own = subst (λ (next : State). ChangesPlace s next i (option_map (without_core t r))) (sym e) (changes_pool i (without_core t r) s (without_core_in t r i c s) refl refl);
        free = ap (λ (next : State). next.free) e;
      }

  pub domain_steps : (d i : ℕ) (pool : Pool) (x : Domain) (j : PoolId) → home_pool_of_domain s d ≡ Some i → at_place s.pools i ≡ Some pool → at_place pool.domains d ≡ Some x → x.moving ≡ Some j → DomainSteps m s t d i j.0 x
  domain_steps d i pool x j home at has moves =
      let g : ℕ = m.config.granularity in
      let by_target : ℕ → Domain → Option PoolId → State = λ k y o. elim o [ None ↦ s | Some to ↦ change_pool to.0 (joined_by g t d y) (change_pool k (left_by t d) s) ] in
      let by_domain : ℕ → Option Domain → State = λ k o. elim o [ None ↦ s | Some y ↦ by_target k y y.moving ] in
      let by_pool : ℕ → Option Pool → State = λ k o. elim o [ None ↦ s | Some q ↦ by_domain k (at_place q.domains d) ] in
      let by_home : Option ℕ → State = λ o. elim o [ None ↦ s | Some k ↦ by_pool k (at_place s.pools k) ] in
      let mid : State = change_pool i (left_by t d) s in
      let e : after m s t (DomMoved (domain_number d)) ≡ change_pool j.0 (joined_by g t d x) mid = ap by_home home ∙ ap (by_pool i) at ∙ ap (by_domain i) has ∙ ap (by_target i x) moves in
      record {
        leaves = changes_pool i (left_by t d) s mid refl refl;
        joins = subst (λ (next : State). ChangesPlace mid next j.0 (option_map (joined_by g t d x))) (sym e) (changes_pool j.0 (joined_by g t d x) mid (change_pool j.0 (joined_by g t d x) mid) refl refl);
        free = ap (λ (next : State). next.free) e;
      }

pub tool_steps : (m : Machine) (s : State) (t : ℕ) → ToolSteps m s t
tool_steps m s t = record {
  stall = stall_steps m s t;
  command = command_steps m s t;
  joins = join_steps m s t;
  leaves = leave_steps m s t;
  domain = domain_steps m s t;
}
