-- A domain's pool changed, where its number is known.
use Rattle.std.proofs.Common.{◌≡◌, ◌∙◌, ℕ, List, ap, sym}
use Rattle.std.specs.Prelude.{Option, None, Some}
use Rattle.sched_model.specs.declared.state.Pool.{Pool}
use Rattle.sched_model.specs.declared.state.State.{State}
use Rattle.sched_model.specs.Places.{change_at}
use Rattle.sched_model.specs.Actions.{change_pool, home_pool_of_domain}
use Rattle.sched_model.specs.Commands.{change_home}

-- the pools with that of the domain changed
pub home-changed : (d i : ℕ) (f : Pool → Pool) (s : State) (pools : List (Option Pool)) → home_pool_of_domain s d ≡ Some i → pools ≡ change_at i f s.pools → record s { pools = pools } ≡ change_home d f s
home-changed d i f s pools home changed =
    ap (λ (places : List (Option Pool)). record s { pools = places }) changed ∙ sym (ap (λ (o : Option ℕ). elim o as (λ _. State) [ None ↦ s | Some j ↦ change_pool j f s ]) home)
