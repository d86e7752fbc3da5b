-- No command, and no look at cores, changes the moment or how many stalls and commands are over.
use Rattle.std.proofs.Common.{◌≡◌, ℕ, refl}
use Rattle.std.specs.Prelude.{Option, Some, None}
use Rattle.sched_model.specs.declared.machine.Machine.{Machine}
use Rattle.sched_model.specs.declared.plan.Plan.{Plan}
use Rattle.sched_model.specs.declared.plan.Plan.TheVariants as plan
use Rattle.sched_model.specs.declared.state.Pool.{Pool}
use Rattle.sched_model.specs.declared.state.State.{State}
use Rattle.sched_model.specs.Actions.{home_pool_of_domain}
use Rattle.sched_model.specs.Commands.{carried_out, change_home}
use Rattle.sched_model.specs.Machine.{settled_at}
use Rattle.sched_laws.proofs.EachPlace.{by_cond, by_option}

-- the same moment, and as many stalls and commands done
abbrev pub SameClock : State → State → Type 0
SameClock a b = (a.now ≡ b.now) × (a.next_stall ≡ b.next_stall) × (a.next_command ≡ b.next_command)

pub same_clock : (s : State) → SameClock s s
same_clock s = (refl, refl, refl)

pub home_clock : (d : ℕ) (f : Pool → Pool) (s : State) → SameClock (change_home d f s) s
home_clock d f s = by_option (λ (x : State). SameClock x s) (home_pool_of_domain s d) _ _ (λ none. same_clock s) (λ i is. (refl, refl, refl))

pub carried_clock : (m : Machine) (t : ℕ) (p : Plan) (s : State) → SameClock (carried_out m t p s) s
carried_clock m t (plan.PoolList pool answer) s = same_clock s
carried_clock m t (plan.Migrate d i j answer) s = by_cond (λ (x : State). SameClock x s) _ _ _ (λ same. same_clock s) (λ other. (refl, refl, refl))
carried_clock m t (plan.Credit2Dom d weight percent answer) s = home_clock d.0 _ s
carried_clock m t (plan.Credit2Pool i None answer) s = same_clock s
carried_clock m t (plan.Credit2Pool i (Some us) answer) s = (refl, refl, refl)
carried_clock m t (plan.RtdsDom d first count period budget extra answer) s = home_clock d.0 _ s
carried_clock m t (plan.Pause d answer) s = home_clock d.0 _ s
carried_clock m t (plan.Unpause d answer) s = home_clock d.0 _ s
carried_clock m t (plan.Pin d unit cores answer) s = home_clock d.0 _ s
carried_clock m t p s = (refl, refl, refl)

pub settled_clock : (t : ℕ) (o : Option ℕ) (s : State) → SameClock (settled_at t o s) s
settled_clock t None s = same_clock s
settled_clock t (Some i) s = (refl, refl, refl)
