-- Where one thing alone is on its way, that is what the tool's part names.
use Rattle.std.proofs.Common.{◌≡◌, ◌≤◌, ◌+◌, ℕ, true, false, refl, arith, ap, ◌∙◌, cond}
use Rattle.std.specs.Prelude.{Option, Some, None, is_some, option_map}
use Rattle.sched_base.specs.declared.PoolId.{PoolId}
use Rattle.sched_model.specs.declared.state.Domain.{Domain}
use Rattle.sched_model.specs.declared.state.FreeCore.{FreeCore}
use Rattle.sched_model.specs.declared.state.Pool.{Pool}
use Rattle.sched_model.specs.declared.state.Resource.{Resource}
use Rattle.sched_model.specs.declared.state.State.{State}
use Rattle.sched_model.specs.Places.{at_place}
use Rattle.journal_core.specs.Parts.{UnderWay, core_to, domain_to, first_answer, core_to_leave, domain_to_move, core_to_join, pool_under_way, state_under_way}
use Rattle.sched_laws.proofs.Counts.{total_at}
use Rattle.sched_laws.specs.Counts.{total}
use Rattle.composition_laws.proofs.Totals.{none_answers, only_answer}
use Rattle.composition_laws.proofs.Counted.{leaves, moves, joins, from_pool, in_all}
use Rattle.sched_base.specs.Numbers.{one_if}
use Rattle.composition_laws.proofs.Ending.{Joining, Leaving, Moving}
use Rattle.journal_core.specs.Parts.{or_else}

-- what is not counted does not answer
core_quiet : (r : ℕ) (c : Resource) → leaves c ≡ 0 → core_to_leave r c ≡ None
core_quiet r c none = elim c.leaving as (λ b. one_if b ≡ 0 → cond b (Some (core_to r None)) None ≡ None) [ true ↦ λ e. absurd (omega (arith, e)) | false ↦ λ e. refl ] none

domain_quiet : (d : ℕ) (x : Domain) → moves x ≡ 0 → domain_to_move d x ≡ None
domain_quiet d x none = elim x.moving as (λ (o : Option PoolId). one_if (is_some o) ≡ 0 → option_map (λ (i : PoolId). domain_to d i.0) o ≡ None) [ Some i ↦ λ e. absurd (omega (arith, e)) | None ↦ λ e. refl ] none

free_quiet : (r : ℕ) (c : FreeCore) → joins c ≡ 0 → core_to_join r c ≡ None
free_quiet r c none = elim c.target as (λ (o : Option ℕ). one_if (is_some o) ≡ 0 → option_map (λ (i : ℕ). core_to r (Some i)) o ≡ None) [ Some i ↦ λ e. absurd (omega (arith, e)) | None ↦ λ e. refl ] none

pool_quiet : (i : ℕ) (pool : Pool) → from_pool pool ≡ 0 → pool_under_way i pool ≡ None
pool_quiet i pool none =
    let cores : total leaves pool.resources ≡ 0 = omega (arith, none) in
    let domains : total moves pool.domains ≡ 0 = omega (arith, none) in
    ap (λ o. or_else o (first_answer domain_to_move 0 pool.domains)) (none_answers core_to_leave leaves core_quiet 0 pool.resources cores) ∙ none_answers domain_to_move moves domain_quiet 0 pool.domains domains

-- the core that is leaving, and the domain that is moving, are what is on its way from the pool
core_answers : (i r : ℕ) (c : Resource) (pool : Pool) → from_pool pool ≤ 1 → at_place pool.resources r ≡ Some c → c.leaving ≡ true → pool_under_way i pool ≡ Some (core_to r None)
core_answers i r c pool one at leaving =
    let e : 0 + r ≡ r = omega arith in
    let here : leaves c ≡ 1 = ap one_if leaving in
    let answer : core_to_leave (0 + r) c ≡ Some (core_to r None) = ap (λ b. cond b (Some (core_to (0 + r) None)) None) leaving ∙ ap (λ n. Some (core_to n None)) e in
    ap (λ o. or_else o (first_answer domain_to_move 0 pool.domains)) (only_answer core_to_leave leaves core_quiet 0 r pool.resources c (core_to r None) (omega (arith, one)) at (omega (arith, here)) answer)

domain_answers : (i d : ℕ) (x : Domain) (to : PoolId) (pool : Pool) → from_pool pool ≤ 1 → at_place pool.domains d ≡ Some x → x.moving ≡ Some to → pool_under_way i pool ≡ Some (domain_to d to.0)
domain_answers i d x to pool one at moving =
    let e : 0 + d ≡ d = omega arith in
    let here : moves x ≡ 1 = ap (λ o. one_if (is_some o)) moving in
    let counted : moves x ≤ total moves pool.domains = total_at moves d x pool.domains at in
    let answer : domain_to_move (0 + d) x ≡ Some (domain_to d to.0) = ap (option_map (λ (i : PoolId). domain_to (0 + d) i.0)) moving ∙ ap (λ n. Some (domain_to n to.0)) e in
    ap (λ o. or_else o (first_answer domain_to_move 0 pool.domains)) (none_answers core_to_leave leaves core_quiet 0 pool.resources (omega (arith, one, here, counted)))
    ∙ only_answer domain_to_move moves domain_quiet 0 d pool.domains x (domain_to d to.0) (omega (arith, one)) at (omega (arith, here)) answer

-- the same of all pools and the cores of none
module _ (s : State) (one : in_all s ≤ 1) where
  pool_answers : (i : ℕ) (pool : Pool) (way : UnderWay) → at_place s.pools i ≡ Some pool → 1 ≤ from_pool pool → (from_pool pool ≤ 1 → pool_under_way (0 + i) pool ≡ Some way) → state_under_way s ≡ Some way
  pool_answers i pool way at some answer =
      let counted : from_pool pool ≤ total from_pool s.pools = total_at from_pool i pool s.pools at in
      ap (λ o. or_else o (first_answer core_to_join 0 s.free)) (only_answer pool_under_way from_pool pool_quiet 0 i s.pools pool way (omega (arith, one)) at some (answer (omega (arith, one, counted))))

  pub leaving_answers : (r : ℕ) → Leaving s r → state_under_way s ≡ Some (core_to r None)
  leaving_answers r l =
      let here : leaves l.core ≡ 1 = ap one_if l.leaving in
      let counted : leaves l.core ≤ total leaves l.pool.resources = total_at leaves r l.core l.pool.resources l.core_at in
      pool_answers l.home l.pool (core_to r None) l.pool_at (omega (arith, here, counted)) (λ few. core_answers (0 + l.home) r l.core l.pool few l.core_at l.leaving)

  pub moving_answers : (d : ℕ) (x : Moving s d) → state_under_way s ≡ Some (domain_to d x.target.0)
  moving_answers d x =
      let here : moves x.domain ≡ 1 = ap (λ o. one_if (is_some o)) x.moving in
      let counted : moves x.domain ≤ total moves x.pool.domains = total_at moves d x.domain x.pool.domains x.domain_at in
      pool_answers x.home x.pool (domain_to d x.target.0) x.pool_at (omega (arith, here, counted)) (λ few. domain_answers (0 + x.home) d x.domain x.target x.pool few x.domain_at x.moving)

  pub joining_answers : (r : ℕ) (j : Joining s r) → state_under_way s ≡ Some (core_to r (Some j.target))
  joining_answers r j =
      let e : 0 + r ≡ r = omega arith in
      let here : joins j.core ≡ 1 = ap (λ o. one_if (is_some o)) j.aims in
      let counted : joins j.core ≤ total joins s.free = total_at joins r j.core s.free j.at in
      let answer : core_to_join (0 + r) j.core ≡ Some (core_to r (Some j.target)) = ap (option_map (λ (i : ℕ). core_to (0 + r) (Some i))) j.aims ∙ ap (λ n. Some (core_to n (Some j.target))) e in
      ap (λ o. or_else o (first_answer core_to_join 0 s.free)) (none_answers pool_under_way from_pool pool_quiet 0 s.pools (omega (arith, one, here, counted)))
      ∙ only_answer core_to_join joins free_quiet 0 r s.free j.core (core_to r (Some j.target)) (omega (arith, one)) j.at (omega (arith, here)) answer
