-- What is to come of a state at its moment falls by one with each cause that is no line, stays with a stall, and grows by one at most with a command.
use Rattle.std.proofs.Common.{◌≡◌, ◌≤◌, ◌+◌, ◌/◌, ℕ, zero, suc, Bool, true, false, List, [], ◌∷◌, refl, arith, ap, length}
use Rattle.std.specs.Prelude.{Option, Some, None, Ok, Err, replicate, slice_get, unwrap_or, ◌==◌}
use Rattle.sched_base.specs.Numbers.{moment, span, domain as domain_number, pool as pool_number, one_if}
use Rattle.sched_base.specs.declared.Span.{Span}
use Rattle.sched_base.specs.declared.UnitId.{UnitId}
use Rattle.sched_model.specs.declared.action.Action.{Action}
use Rattle.sched_model.specs.declared.action.Action.TheVariants.{Stall, Xl}
use Rattle.sched_model.specs.declared.config.ParamChange.{ParamChange}
use Rattle.sched_model.specs.declared.config.ParamChange.TheVariants as changes
use Rattle.sched_model.specs.declared.config.SchedKind.{SchedKind}
use Rattle.sched_model.specs.declared.config.SchedKind.TheVariants as kinds
use Rattle.sched_model.specs.declared.machine.Machine.{Machine}
use Rattle.sched_model.specs.declared.plan.Plan.{Plan}
use Rattle.sched_model.specs.declared.plan.Plan.TheVariants as plan
use Rattle.sched_model.specs.declared.state.Credit2Domain.{Credit2Domain}
use Rattle.sched_model.specs.declared.state.Domain.{Domain}
use Rattle.sched_model.specs.declared.state.Pool.{Pool}
use Rattle.sched_model.specs.declared.state.Records.{Records}
use Rattle.sched_model.specs.declared.state.Records.TheVariants.{Credit2Pool, RtdsPool, ArincPool, NullPool}
use Rattle.sched_model.specs.declared.state.Resource.{Resource}
use Rattle.sched_model.specs.declared.state.RtdsUnit.{RtdsUnit}
use Rattle.sched_model.specs.declared.state.State.{State}
use Rattle.sched_model.specs.declared.work.CommandLine.{CommandLine}
use Rattle.sched_model.specs.CheckedMachine.{IsChecked}
use Rattle.sched_model.specs.Places.{at_place, put_at, clear_at, change_at, test_at, numbers_from}
use Rattle.sched_model.specs.Opening.{fresh_pool, joined_core, machine_core_count}
use Rattle.sched_model.specs.Credit2 as credit2
use Rattle.sched_model.specs.Policy as policy
use Rattle.sched_model.specs.Policy.{unit_rtds_record, standard_pool_params, standard_dom_params}
use Rattle.sched_model.specs.Pool as pools
use Rattle.sched_model.specs.Pool.{enabled_in, after_in, settled_pool, change_processor, pool_with_leaving, pool_with_moving, paused_pool, unpaused_pool, changed_pool, pool_without_domain, core_ask, domain_unit_count}
use Rattle.sched_model.specs.Actions.{home_pool_of_action, home_pool_of_core, home_pool_of_domain, change_pool}
use Rattle.sched_model.specs.Commands.{carried_out, change_home, pool_with_rtds, pool_with_rtds_unit, plan_pool}
use Rattle.sched_model.specs.Machine.{after, after_command, state_after_moved, after_dom_moved, after_at_home, enabled_at_home, line_verdict, settled_at, later_stall_end, left_by, joined_by, is_null_pool}
use Rattle.sched_laws.proofs.Events.{kept_marked, kept_pause, kept_queue_units, kept_set_leaving, kept_unpause, kept_withdrawn}
use Rattle.sched_laws.specs.EachPlace.{EachPlace}
use Rattle.sched_base.proofs.Bools.{clash}
use Rattle.sched_laws.proofs.Counts.{total-change_at, total-clear_at}
use Rattle.sched_laws.specs.Counts.{total}
use Rattle.sched_laws.proofs.EachPlace.{by_cond, by_option}
use Rattle.sched_laws.proofs.Lists.{some-test_at}
use Rattle.state_ranges.proofs.RangesWalk.{PoolFits}
use Rattle.composition_laws.proofs.Totals.{total-put_at_more, total-clear_at_less, total-change_at_more}
use Rattle.moment_laws.specs.Turns.{how_many}
use Rattle.moment_laws.proofs.DueEvents.{IsLess, of_pool, of_core, of_domain, of_credit2, of_rtds, of_records, is_overdue, is_deadline_due, is_refill_due, one_less, total-change_at_less, less_commands, less_capped, less_domain, less_processor, less_settled}
use Rattle.moment_laws.proofs.LaterDues.{IsReady, same_deadlines}
use Rattle.moment_laws.proofs.DueInPools.{takes, acts_settled}
use Rattle.moment_laws.specs.Stretches.{cores}

module _ (t : ℕ) where
  less_moving : (d i : ℕ) (pool : Pool) → IsLess t pool (pool_with_moving d i pool)
  less_moving d i pool =
      let f : Domain → Domain = λ x. record x { moving = Some (pool_number i) } in
      kept_withdrawn (less_commands t 0 (of_pool t pool)) d (pools.change_domain d f pool) (less_domain t d f pool (λ x at. omega arith))

  capped_none : (percent : ℕ) → is_refill_due t (credit2.first_refill_moment percent t) ≡ false
  capped_none percent = by_cond (λ (o : Option ℕ). is_refill_due t o ≡ false) (percent == 0) None (Some (t + 10000000)) (λ is. refl) (λ is. grind arith)

  less_records : (change : ParamChange) (records : Records) → of_records t (policy.changed_records records change t) ≤ of_records t records
  less_records (changes.Dom d weight percent) (Credit2Pool rs) =
      let weighted = credit2.change_domain d.0 (credit2.domain_with_weight weight) rs in
      let a = total-change_at_less (of_credit2 t) d.0 (credit2.domain_with_weight weight) rs.domains (λ x at. by_weight weight x) in
      let b = total-change_at_less (of_credit2 t) d.0 (credit2.domain_with_cap (credit2.most_weight weighted) t percent) weighted.domains (λ x at. by_cap (credit2.most_weight weighted) percent x) in
      omega (arith, a, b)
    where
      by_weight : (weight : Option ℕ) (x : Credit2Domain) → of_credit2 t (credit2.domain_with_weight weight x) ≤ of_credit2 t x
      by_weight None x = omega arith
      by_weight (Some w) x = omega arith

      by_cap : (most : ℕ) (percent : Option ℕ) (x : Credit2Domain) → of_credit2 t (credit2.domain_with_cap most t percent x) ≤ of_credit2 t x
      by_cap most None x = omega arith
      by_cap most (Some p) x = one_less (is_refill_due t x.refill) (is_refill_due t (credit2.first_refill_moment p t)) (λ due. absurd (clash _ due (capped_none p)))
  less_records (changes.Rate limit) (Credit2Pool rs) = omega arith
  less_records (changes.«Unit» u period budget extra) (RtdsPool xs) = same_deadlines t u (λ x. record x { next_period = period.0; next_budget = budget.0; next_extra = extra }) xs (λ x. refl)
  less_records (changes.Frame frame) (ArincPool arinc) = omega arith
  less_records (changes.Pin d unit cores) (NullPool kept) = omega arith
  less_records change records = omega arith

  less_params : (change : ParamChange) (pool : Pool) → IsLess t pool (changed_pool change t pool)
  less_params change pool =
      let next : Pool = record pool { scheduler = policy.changed_scheduler change t pool.scheduler } in
      let a = less_records change pool.scheduler.records in
      let b : IsLess t next (pools.marked_pool change t next) =
      kept_marked (less_commands t 0 (of_pool t next)) t (λ d now here. (let c = less_capped t d now in omega (arith, c, here))) change next (omega arith) in
      omega (arith, a, b)

  less_rtds : (d : ℕ) (period budget : Option Span) (extra : Option Bool) (units : List ℕ) (pool : Pool) → IsLess t pool (pool_with_rtds t d period budget extra units pool)
  less_rtds d period budget extra [] pool = omega arith
  less_rtds d period budget extra (n ∷ ns) pool =
      let u : UnitId = record { dom = domain_number d; n = n } in
      let next : Pool = pool_with_rtds_unit t period budget extra u pool in
      let a : IsLess t pool next = by_option (IsLess t pool) (unit_rtds_record pool.scheduler.records u) _ _ (λ is. omega arith)
      (λ x is. less_params (changes.«Unit» u (unwrap_or period (span x.next_period)) (unwrap_or budget (span x.next_budget)) (unwrap_or extra x.next_extra)) pool) in
      let b = less_rtds d period budget extra ns next in
      omega (arith, a, b)

  -- a core or a domain comes or goes
  core_comes : (r : ℕ) (c : Resource) (pool : Pool) → is_overdue t c ≡ false → IsLess t pool (settled_pool t (record pool { resources = put_at r c pool.resources }))
  core_comes r c pool none =
      let next : Pool = record pool { resources = put_at r c pool.resources } in
      let a = total-put_at_more (of_core t) r c pool.resources in
      let b = less_settled t next in
      let e = ap one_if none in
      omega (arith, a, b, e)

  core_goes : (r : ℕ) (pool : Pool) → IsLess t pool (settled_pool t (record pool { resources = clear_at r pool.resources }))
  core_goes r pool =
      let next : Pool = record pool { resources = clear_at r pool.resources } in
      let a = total-clear_at_less (of_core t) r pool.resources in
      let b = less_settled t next in
      omega (arith, a, b)

  fresh_none : (n : ℕ) (x : RtdsUnit) → is_deadline_due t x ≡ false → how_many (is_deadline_due t) (replicate n x) ≡ 0
  fresh_none zero x is = refl
  fresh_none (suc n) x is = (let r = fresh_none n x is in let e = ap one_if is in omega (arith, r, e))

  joins_records : (d count : ℕ) (records : Records) → of_records t (policy.joined_records records (standard_dom_params records) d count t) ≤ of_records t records
  joins_records d count (Credit2Pool rs) = (let a = total-put_at_more (of_credit2 t) d (credit2.fresh_credit2_domain 256 0 count t) rs.domains in omega (arith, a))
  joins_records d count (RtdsPool xs) =
      let x : RtdsUnit = record { period = 10000000; budget = 4000000; extra = true; next_period = 10000000; next_budget = 4000000; next_extra = true; deadline = t + 10000000; left = 4000000; level = 0; burned = None } in
      let none = fresh_none count x (grind arith) in
      let a = total-put_at_more (of_rtds t) d (replicate count x) xs in
      omega (arith, none, a)
  joins_records d count records = omega arith

  domain_comes : (g d : ℕ) (x : Domain) (pool : Pool) → of_pool t (joined_by g t d x pool) ≤ of_domain t x + of_pool t pool
  domain_comes g d x pool =
      let y : Domain = record x { moving = None } in
      let count : ℕ = domain_unit_count g y in
      let start : Pool = record pool { domains = put_at d y pool.domains; scheduler = policy.joined_scheduler d count (standard_dom_params pool.scheduler.records) t pool.scheduler } in
      let queued : Pool = pools.pool_with_queued_units g d (numbers_from 0 count) start in
      let a = total-put_at_more (of_domain t) d y pool.domains in
      let b = joins_records d count pool.scheduler.records in
      let c : IsLess t start queued = kept_queue_units (less_commands t g (of_pool t start)) d (numbers_from 0 count) start (omega arith) in
      let e = less_settled t queued in
      omega (arith, a, b, c, e)

  parts_records : (d : ℕ) (records : Records) → of_records t (policy.parted_records records d) ≤ of_records t records
  parts_records d (Credit2Pool rs) = total-clear_at_less (of_credit2 t) d rs.domains
  parts_records d (RtdsPool xs) = total-clear_at_less (of_rtds t) d xs
  parts_records d records = omega arith

  domain_goes : (d : ℕ) (x : Domain) (pool : Pool) → at_place pool.domains d ≡ Some x → of_domain t x + of_pool t (left_by t d pool) ≤ of_pool t pool
  domain_goes d x pool at =
      let out : Pool = pool_without_domain d pool in
      let a = total-clear_at (of_domain t) d x pool.domains at in
      let b = parts_records d pool.scheduler.records in
      let c = less_settled t out in
      by_cond (λ (p : Pool). of_domain t x + of_pool t p ≤ of_pool t pool) (is_null_pool pool.scheduler.records) (settled_pool t out) out (λ is. omega (arith, a, b, c)) (λ is. omega (arith, a, b))

  none_placed : {X : Type 0} (f : X → ℕ) (n : ℕ) → total f (replicate n None) ≡ 0
  none_placed f zero = refl
  none_placed f (suc n) = none_placed f n

  empty_none : (m : Machine) (kind : SchedKind) → of_pool t (fresh_pool m.config (standard_pool_params kind)) ≤ 0
  empty_none m kind =
      let a = none_placed (of_core t) (machine_core_count m.config) in
      let b = none_placed (of_domain t) (length m.config.domains) in
      let c = no_records kind in
      omega (arith, a, b, c)
    where
      no_records : (kind : SchedKind) → of_records t (policy.empty_records (standard_pool_params kind) (length m.config.domains) (machine_core_count m.config)) ≡ 0
      no_records kinds.Credit2 = none_placed (of_credit2 t) (length m.config.domains)
      no_records kinds.Rtds = none_placed (of_rtds t) (length m.config.domains)
      no_records kinds.Arinc653 = refl
      no_records kinds.Null = refl

-- what is to come of all pools
abbrev pub of_pools : ℕ → State → ℕ
of_pools t s = total (of_pool t) s.pools

module _ (m : Machine) (t : ℕ) where
  abbrev g : ℕ
  g = m.config.granularity

  abbrev Less : State → State → Type 0
  Less s next = of_pools t next ≤ of_pools t s

  change_less : (i : ℕ) (f : Pool → Pool) (s : State) → ((pool : Pool) → of_pool t (f pool) ≤ of_pool t pool) → Less s (change_pool i f s)
  change_less i f s less = total-change_at_less (of_pool t) i f s.pools (λ pool at. less pool)

  home_less : (d : ℕ) (f : Pool → Pool) (s : State) → ((pool : Pool) → of_pool t (f pool) ≤ of_pool t pool) → Less s (change_home d f s)
  home_less d f s less = by_option (Less s) (home_pool_of_domain s d) _ _ (λ is. omega arith) (λ i is. change_less i f s less)

  plan_less : (p : Plan) (s : State) → Less s (carried_out m t p s)
  plan_less (plan.PoolCreate i name kind answer) s =
      let a = total-put_at_more (of_pool t) i.0 (fresh_pool m.config (standard_pool_params kind)) s.pools in
      let none = empty_none t m kind in
      omega (arith, a, none)
  plan_less (plan.PoolDestroy i answer) s = total-clear_at_less (of_pool t) i.0 s.pools
  plan_less (plan.CpuRemove i core answer) s = change_less i.0 (pool_with_leaving core.0) s (λ pool. kept_set_leaving (less_commands t g (of_pool t pool)) core.0 pool (omega arith))
  plan_less (plan.Migrate d i j answer) s = by_cond (Less s) (i.0 == j.0) s (change_pool i.0 (pool_with_moving d.0 j.0) s) (λ is. omega arith) (λ is. change_less i.0 (pool_with_moving d.0 j.0) s (less_moving t d.0 j.0))
  plan_less (plan.Credit2Dom d weight percent answer) s = home_less d.0 (changed_pool (changes.Dom d weight percent) t) s (less_params t (changes.Dom d weight percent))
  plan_less (plan.Credit2Pool i (Some us) answer) s = change_less i.0 (changed_pool (changes.Rate us) t) s (less_params t (changes.Rate us))
  plan_less (plan.RtdsDom d first count period budget extra answer) s = home_less d.0 (pool_with_rtds t d.0 period budget extra (numbers_from first count)) s (less_rtds t d.0 period budget extra (numbers_from first count))
  plan_less (plan.Pause d answer) s = home_less d.0 (paused_pool d.0) s (λ pool. kept_pause (less_commands t g (of_pool t pool)) d.0 pool (omega arith))
  plan_less (plan.Unpause d answer) s = home_less d.0 (unpaused_pool g d.0) s (λ pool. kept_unpause (less_commands t g (of_pool t pool)) d.0 pool (omega arith))
  plan_less (plan.ArincSet i frame answer) s = change_less i.0 (changed_pool (changes.Frame frame) t) s (less_params t (changes.Frame frame))
  plan_less (plan.Pin d unit cores answer) s = home_less d.0 (changed_pool (changes.Pin d unit cores) t) s (less_params t (changes.Pin d unit cores))
  plan_less p s = omega arith

  settled_less : (home : Option ℕ) (s : State) → Less s (settled_at t home s)
  settled_less None s = omega arith
  settled_less (Some i) s = change_less i (settled_pool t) s (less_settled t)

  line_less : (line : CommandLine) (s : State) → Less s (after_command m t line s)
  line_less line s =
      let next : State = record s { next_command = suc s.next_command } in
      elim (line_verdict m s line) as (λ v. Less s (elim v as (λ _. State) [ Err fault ↦ next | Ok p ↦ settled_at t (plan_pool s p) (carried_out m t p next) ])) [
        | Err fault ↦ omega arith
        | Ok p ↦ (let a = plan_less p next in let b = settled_less (plan_pool s p) (carried_out m t p next) in omega (arith, a, b))
      ]

  pub command_less : (s : State) → Less s (after m s t Xl)
  command_less s = by_option (Less s) (slice_get m.work.commands s.next_command) _ _ (λ is. omega arith) (λ line is. line_less line s)

  pub stall_less : (s : State) → Less s (after m s t Stall)
  stall_less s =
      by_option (Less s) (slice_get m.work.stalls s.next_stall) _ _ (λ is. omega arith)
      (λ l is. by_option (Less s) (home_pool_of_core s (l.cpu.0 / g)) _ _ (λ is2. omega arith)
      (λ i is2. change_less i (change_processor g l.cpu.0 (λ q. record q { stall_end = moment (later_stall_end g s l.cpu.0 (t + l.span.0)) })) s (less_processor t g l.cpu.0 _)))

  pub moved_less : (r : ℕ) (s : State) → Less s (state_after_moved t r s)
  moved_less r s =
      by_option (Less s) (at_place s.free r) _ _
      (λ is. by_option (Less s) (home_pool_of_core s r) _ _ (λ is2. omega arith)
      (λ i is2. by_option (Less s) (at_place s.pools i) _ _ (λ is3. omega arith)
      (λ pool is3. by_option (Less s) (at_place pool.resources r) _ _ (λ is4. omega arith)
      (λ c is4. change_less i (λ x. settled_pool t (record x { resources = clear_at r x.resources })) s (core_goes t r)))))
      (λ c is. by_option (Less s) c.target _ _ (λ is2. omega arith)
      (λ i is2. change_less i (λ x. settled_pool t (record x { resources = put_at r (joined_core c.stall_ends) x.resources })) (record s { free = clear_at r s.free }) (λ x. core_comes t r (joined_core c.stall_ends) x refl)))

  pub dom_moved_less : (d : ℕ) (s : State) → Less s (after_dom_moved g t d s)
  dom_moved_less d s =
      by_option (Less s) (home_pool_of_domain s d) _ _ (λ is. omega arith)
      (λ i is. by_option (Less s) (at_place s.pools i) _ _ (λ is2. omega arith)
      (λ pool is2. by_option (Less s) (at_place pool.domains d) _ _ (λ is3. omega arith)
      (λ domain is3. by_option (Less s) domain.moving _ _ (λ is4. omega arith)
      (λ j is4. (
      let mid : List (Option Pool) = change_at i (left_by t d) s.pools in
      let a = total-change_at (of_pool t) i (left_by t d) s.pools pool is2 in
      let b = domain_goes t d domain pool is3 in
      let c = total-change_at_more (of_pool t) (of_domain t domain) j.0 (joined_by g t d domain) mid (domain_comes t g d domain) in
      omega (arith, a, b, c))))))

  -- what is known of each pool
  pub record IsReadyPool (pool : Pool) : Type 0 where
    pub fits : PoolFits m t pool
    pub ready : (r : ℕ) (c : Resource) → at_place pool.resources r ≡ Some c → IsReady (core_ask g t pool r c) pool.scheduler.queue pool.scheduler.records

  -- an event of a pool
  pub home_lowers : IsChecked m → (s : State) → EachPlace IsReadyPool s.pools → (action : Action) → enabled_at_home m s t action ≡ true → of_pools t (after_at_home g s t action) + takes action ≤ of_pools t s
  home_lowers checked s each action on = by_home (home_pool_of_action g s action) on
    where
      by_home : (home : Option ℕ) → elim home as (λ _. Bool) [ None ↦ false | Some i ↦ test_at s.pools i (λ pool. enabled_in g t pool action) ] ≡ true
          → of_pools t (elim home as (λ _. State) [ None ↦ s | Some i ↦ change_pool i (λ pool. settled_pool t (after_in g t pool action)) s ]) + takes action ≤ of_pools t s
      by_home None e = absurd (cc)
      by_home (Some i) e =
          let p = some-test_at s.pools i (λ pool. enabled_in g t pool action) e in
          let pool : Pool = p.0 in
          let known = each i pool p.1 in
          let a = total-change_at (of_pool t) i (λ x. settled_pool t (after_in g t x action)) s.pools pool p.1 in
          let b = acts_settled m checked t pool known.fits known.ready action p.2 in
          omega (arith, a, b)
