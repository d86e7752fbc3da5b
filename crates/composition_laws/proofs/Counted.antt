-- The count of what is on its way, place by place; and the test whether something is.
use Rattle.std.proofs.Common.{◌≡◌, ◌≤◌, ◌+◌, ℕ, Bool, true, false, arith, ap, ◌∙◌, inl, inr}
use Rattle.std.specs.Prelude.{is_some, count_by, ◌||◌}
use Rattle.std.specs.List.{list_any}
use Rattle.std.proofs.lemmas.Bool.{cases_Bool, or_cases}
use Rattle.sched_model.specs.declared.state.Domain.{Domain}
use Rattle.sched_model.specs.declared.state.FreeCore.{FreeCore}
use Rattle.sched_model.specs.declared.state.Pool.{Pool}
use Rattle.sched_model.specs.declared.state.Resource.{Resource}
use Rattle.sched_model.specs.declared.state.State.{State}
use Rattle.sched_model.specs.Places.{numbered_items}
use Rattle.sched_model.specs.Machine.{has_move_under_way}
use Rattle.sched_laws.specs.EachPlace.{EachPlace}
use Rattle.sched_base.proofs.Bools.{or_left, or_right}
use Rattle.sched_laws.proofs.Counts.{total_is, total_none, total_at, some_numbered}
use Rattle.sched_laws.specs.Counts.{total}
use Rattle.sched_laws.proofs.Lists.{none_passes, at_numbered}
use Rattle.composition_laws.specs.Moves.{moves_in, moves_of}
use Rattle.composition_laws.proofs.Totals.{total-same}
use Rattle.sched_base.specs.Numbers.{one_if}

-- one for a core that is leaving, for a domain that is moving, and for a core of no pool that is to join one
abbrev pub leaves : Resource → ℕ
leaves c = one_if c.leaving

abbrev pub moves : Domain → ℕ
moves x = one_if (is_some x.moving)

abbrev pub joins : FreeCore → ℕ
joins c = one_if (is_some c.target)

-- how many are on their way from the pool, and in all
abbrev pub from_pool : Pool → ℕ
from_pool pool = total leaves pool.resources + total moves pool.domains

abbrev pub in_all : State → ℕ
in_all s = total from_pool s.pools + total joins s.free

from_pool_is : (pool : Pool) → moves_in pool ≡ from_pool pool
from_pool_is pool = let a = total_is leaves 0 pool.resources in let b = total_is moves 0 pool.domains in ap (λ n. n + count_by (λ (d : ℕ × Domain). is_some d.1.moving) (numbered_items 0 pool.domains)) a ∙ ap (λ n. total leaves pool.resources + n) b

pub in_all_is : (s : State) → moves_of s ≡ in_all s
in_all_is s =
    ap (λ n. n + count_by (λ (c : ℕ × FreeCore). is_some c.1.target) (numbered_items 0 s.free)) (total_is moves_in 0 s.pools ∙ total-same moves_in from_pool s.pools from_pool_is) ∙ ap (λ n. total from_pool s.pools + n) (total_is joins 0 s.free)

-- whether something is on its way from the pool
abbrev goes_from : Pool → Bool
goes_from pool = list_any (λ (c : ℕ × Resource). c.1.leaving) (numbered_items 0 pool.resources) || list_any (λ (d : ℕ × Domain). is_some d.1.moving) (numbered_items 0 pool.domains)

abbrev goes_from_pools : State → Bool
goes_from_pools s = list_any (λ (e : ℕ × Pool). goes_from e.1) (numbered_items 0 s.pools)

abbrev goes_from_free : State → Bool
goes_from_free s = list_any (λ (e : ℕ × FreeCore). is_some e.1.target) (numbered_items 0 s.free)

none_from : (pool : Pool) → goes_from pool ≡ false → from_pool pool ≡ 0
none_from pool none =
    let cores = or_left (list_any (λ (c : ℕ × Resource). c.1.leaving) (numbered_items 0 pool.resources)) (list_any (λ (d : ℕ × Domain). is_some d.1.moving) (numbered_items 0 pool.domains)) none in
    let domains = or_right (list_any (λ (c : ℕ × Resource). c.1.leaving) (numbered_items 0 pool.resources)) (list_any (λ (d : ℕ × Domain). is_some d.1.moving) (numbered_items 0 pool.domains)) none in
    let each_core : EachPlace (λ (c : Resource). c.leaving ≡ false) pool.resources = at_numbered (λ (c : Resource). c.leaving ≡ false) 0 pool.resources (none_passes (λ (c : ℕ × Resource). c.1.leaving) (numbered_items 0 pool.resources) cores) in
    let each_domain : EachPlace (λ (x : Domain). is_some x.moving ≡ false) pool.domains =
    at_numbered (λ (x : Domain). is_some x.moving ≡ false) 0 pool.domains (none_passes (λ (d : ℕ × Domain). is_some d.1.moving) (numbered_items 0 pool.domains) domains) in
    let a : total leaves pool.resources ≡ 0 = total_none leaves pool.resources (λ r c at. ap one_if (each_core r c at)) in
    let b : total moves pool.domains ≡ 0 = total_none moves pool.domains (λ d x at. ap one_if (each_domain d x at)) in
    omega (arith, a, b)

-- where nothing is on its way the count is 0
pub none_in_all : (s : State) → has_move_under_way s ≡ false → in_all s ≡ 0
none_in_all s none =
    let pools = or_left (goes_from_pools s) (goes_from_free s) none in
    let free = or_right (goes_from_pools s) (goes_from_free s) none in
    let each_pool : EachPlace (λ (pool : Pool). goes_from pool ≡ false) s.pools = at_numbered (λ (pool : Pool). goes_from pool ≡ false) 0 s.pools (none_passes (λ (e : ℕ × Pool). goes_from e.1) (numbered_items 0 s.pools) pools) in
    let each_free : EachPlace (λ (c : FreeCore). is_some c.target ≡ false) s.free = at_numbered (λ (c : FreeCore). is_some c.target ≡ false) 0 s.free (none_passes (λ (e : ℕ × FreeCore). is_some e.1.target) (numbered_items 0 s.free) free) in
    let a : total from_pool s.pools ≡ 0 = total_none from_pool s.pools (λ i pool at. none_from pool (each_pool i pool at)) in
    let b : total joins s.free ≡ 0 = total_none joins s.free (λ r c at. ap one_if (each_free r c at)) in
    omega (arith, a, b)

some_from : (pool : Pool) → goes_from pool ≡ true → 1 ≤ from_pool pool
some_from pool some = elim (or_cases (list_any (λ (c : ℕ × Resource). c.1.leaving) (numbered_items 0 pool.resources)) (list_any (λ (d : ℕ × Domain). is_some d.1.moving) (numbered_items 0 pool.domains)) some) [
  | inl core ↦ (let p = some_numbered (λ (c : Resource). c.leaving) 0 pool.resources core in let one : leaves p.1 ≡ 1 = ap one_if p.3 in let a = total_at leaves p.0 p.1 pool.resources p.2 in omega (arith, one, a))
  | inr domain ↦ (let p = some_numbered (λ (x : Domain). is_some x.moving) 0 pool.domains domain in let one : moves p.1 ≡ 1 = ap one_if p.3 in let a = total_at moves p.0 p.1 pool.domains p.2 in omega (arith, one, a))
]

some_in_all : (s : State) → has_move_under_way s ≡ true → 1 ≤ in_all s
some_in_all s some = elim (or_cases (goes_from_pools s) (goes_from_free s) some) [
  | inl pool ↦ (let p = some_numbered goes_from 0 s.pools pool in let one = some_from p.1 p.3 in let a = total_at from_pool p.0 p.1 s.pools p.2 in omega (arith, one, a))
  | inr free ↦ (let p = some_numbered (λ (c : FreeCore). is_some c.target) 0 s.free free in let one : joins p.1 ≡ 1 = ap one_if p.3 in let a = total_at joins p.0 p.1 s.free p.2 in omega (arith, one, a))
]

-- where the count is 0 nothing is on its way
pub none_under_way : (s : State) → in_all s ≡ 0 → has_move_under_way s ≡ false
none_under_way s none = elim (cases_Bool (has_move_under_way s)) [ inl some ↦ (let a = some_in_all s some in absurd (omega (arith, a, none))) | inr is ↦ is ]
