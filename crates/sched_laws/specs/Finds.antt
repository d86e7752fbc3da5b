-- What is found in a state by the number of a pool or of a domain.
use Rattle.std.specs.Prelude.{◌≡◌, ℕ, true, Some, is_some}
use Rattle.sched_model.specs.declared.state.Domain.{Domain}
use Rattle.sched_model.specs.declared.state.Pool.{Pool}
use Rattle.sched_model.specs.declared.state.State.{State}
use Rattle.sched_model.specs.Places.{at_place}
use Rattle.sched_model.specs.Actions.{home_pool_of_domain}

-- the pool i is there
abbrev pub IsThere : State → ℕ → Type 0
IsThere s i = is_some (at_place s.pools i) ≡ true

-- the pool i is there, and P holds of it
pub record FindsPool (s : State) (i : ℕ) (P : Pool → Type 0) : Type 0 where
  pub pool : Pool
  pub at : at_place s.pools i ≡ Some pool
  pub meets : P pool

-- the domain d is in a pool, and P holds of them
pub record FindsDomain (s : State) (d : ℕ) (P : Pool → Domain → Type 0) : Type 0 where
  pub home : ℕ
  pub pool : Pool
  pub domain : Domain
  pub is_home : home_pool_of_domain s d ≡ Some home
  pub at : at_place s.pools home ≡ Some pool
  pub has : at_place pool.domains d ≡ Some domain
  pub meets : P pool domain
