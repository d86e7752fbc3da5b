use Rattle.std.proofs.Common.{◌≡◌, ◌∙◌, ℕ, List, sym, ap, subst}
use Rattle.std.specs.Prelude.{Option}
use Rattle.sched_model.specs.declared.machine.Machine.{Machine}
use Rattle.sched_model.specs.declared.state.FreeCore.{FreeCore}
use Rattle.sched_model.specs.declared.state.Pool.{Pool}
use Rattle.sched_model.specs.declared.state.State.{State}
use Rattle.sched_model.specs.Places.{numbered_items}
use Rattle.sched_laws.specs.EachPlace.{EachPlace}
use Rattle.plain_pool.specs.Ready.{AreWhole, IsLeastWith, ScanFits, lesser_moment}
use Rattle.sched_plain.specs.Soonest.{IsReadyAmong, command_ready, last_moment, least_of_free, next_stall_moment}
use Rattle.sched_plain.proofs.Bridges.{stands-state}
use Rattle.sched_plain.proofs.Turns.{are_whole, scans_fit, soonest_is}
use Rattle.sched_plain.proofs.soonest.soonest.Goals as goal

pub of_command-lines-requires : goal.of_command-lines-requires
of_command-lines-requires c = stands-state c.args.machine.now c.args.state.now c.requires

pub of_pools-requires : goal.of_pools-requires
of_pools-requires c = subst (λ (pools : List (Option Pool)). EachPlace ScanFits pools) (sym c.as_slice-2.ensures) (scans_fit c.args.machine.now c.args.state.now c.requires)

pub returns : goal.returns
returns c =
    let m : Machine = c.args.machine.now in
    let s : State = c.args.state.now in
    let g : ℕ = m.config.granularity in
    let stall : c.lesser.result ≡ lesser_moment last_moment (next_stall_moment m s) = c.lesser.ensures ∙ ap (lesser_moment last_moment) c.stall_ready.ensures in
    let lines : c.of_command-lines.result ≡ lesser_moment (lesser_moment last_moment (next_stall_moment m s)) (command_ready m s) = c.of_command-lines.ensures ∙ ap (λ (n : ℕ). lesser_moment n (command_ready m s)) stall in
    let free : c.of_free-free.result ≡ least_of_free (lesser_moment (lesser_moment last_moment (next_stall_moment m s)) (command_ready m s)) (numbered_items 0 s.free) =
    c.of_free-free.ensures ∙ ap (λ (cores : List (Option FreeCore)). least_of_free c.of_command-lines.result (numbered_items 0 cores)) c.as_slice.ensures ∙ ap (λ (n : ℕ). least_of_free n (numbered_items 0 s.free)) lines
    in
    let least : EachPlace (AreWhole g) s.pools → IsLeastWith c.of_free-free.result (IsReadyAmong g s.pools) c.of_pools.result =
    subst (λ (pools : List (Option Pool)). EachPlace (AreWhole g) pools → IsLeastWith c.of_free-free.result (IsReadyAmong g pools) c.of_pools.result) c.as_slice-2.ensures (c.of_pools.ensures g)
    in
    soonest_is m s c.requires c.of_pools.result (subst (λ (n : ℕ). IsLeastWith n (IsReadyAmong g s.pools) c.of_pools.result) free (least (are_whole m s c.requires)))
