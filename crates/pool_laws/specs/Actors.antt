-- Who does a pool's events, and which of an actor's events comes first. g is the number of a core's processors, t the moment.
use Rattle.std.specs.Prelude.{ℕ, ◌≡◌, ◌*◌, ◌==◌, Bool, true, false, Option, Some, None}
use Rattle.sched_model.specs.declared.action.Action.{Action}
use Rattle.sched_model.specs.declared.action.Action.TheVariants.{Wake, Block, Slice, Repl, Refill, Arrive, Decide, Leave, Save}
use Rattle.sched_model.specs.declared.action.Actor.{Actor}
use Rattle.sched_model.specs.declared.action.Actor.TheVariants.{Proc, Dom, Tool}
use Rattle.sched_model.specs.declared.state.Pool.{Pool}
use Rattle.sched_model.specs.Places.{first_place}
use Rattle.sched_model.specs.Pool.{enabled_in}
use Rattle.sched_model.specs.Actions.{IsOfPool}
use Rattle.pool_laws.specs.Order.{IsNotAfter}

-- whether the processor is the first of the core
abbrev pub leads : ℕ → ℕ → ℕ → Bool
leads g r p = p == r * g

-- whether the processor is the pool's lowest
abbrev pub is_lowest : ℕ → Pool → ℕ → Bool
is_lowest g pool p = elim (first_place 0 (λ c. true) pool.resources) [ None ↦ false | Some r ↦ leads g r p ]

-- whether the processor does the action: its own, those of the core whose first it is, and the timers where it is the pool's lowest
abbrev pub is_by_processor : ℕ → Pool → ℕ → Action → Bool
is_by_processor g pool p (Block q) = p == q.0
is_by_processor g pool p (Slice r) = leads g r.0 p
is_by_processor g pool p (Repl u) = is_lowest g pool p
is_by_processor g pool p (Refill d) = is_lowest g pool p
is_by_processor g pool p (Arrive q) = p == q.0
is_by_processor g pool p (Decide r) = leads g r.0 p
is_by_processor g pool p (Leave q) = p == q.0
is_by_processor g pool p (Save r) = leads g r.0 p
is_by_processor g pool p _ = false

-- whether the domain does the action: it wakes its vCPUs
abbrev pub is_by_domain : ℕ → Action → Bool
is_by_domain d (Wake v) = v.dom.0 == d
is_by_domain d _ = false

-- whether the actor does the action in the pool
abbrev pub is_by : ℕ → Pool → Actor → Action → Bool
is_by g pool (Proc p) action = is_by_processor g pool p.0 action
is_by g pool (Dom d) action = is_by_domain d.0 action
is_by g pool Tool action = false

-- an event of the pool by the actor that may come at t, and that comes after no other such one
pub record ComesFirstBy (g t : ℕ) (pool : Pool) (actor : Actor) (event : Action) : Type 0 where
  pub of_pool : IsOfPool event
  pub own : is_by g pool actor event ≡ true
  pub enabled : enabled_in g t pool event ≡ true
  pub first : (action : Action) → IsOfPool action → is_by g pool actor action ≡ true → enabled_in g t pool action ≡ true → IsNotAfter event action

-- the first event of the pool by the actor that may come at t; none where none may
abbrev pub IsFirstBy : ℕ → ℕ → Pool → Actor → Option Action → Type 0
IsFirstBy g t pool actor None = (action : Action) → IsOfPool action → is_by g pool actor action ≡ true → enabled_in g t pool action ≡ false
IsFirstBy g t pool actor (Some event) = ComesFirstBy g t pool actor event
