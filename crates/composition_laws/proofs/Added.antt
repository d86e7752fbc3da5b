-- A core that a command adds to a pool is one of no pool.
use Rattle.std.proofs.Common.{◌≡◌, ℕ, true, List, refl, inl, inr}
use Rattle.std.specs.Prelude.{Option, Some, None, Ok, is_some}
use Rattle.sched_base.specs.declared.PoolId.{PoolId}
use Rattle.sched_base.specs.declared.ResId.{ResId}
use Rattle.sched_model.specs.declared.event.Entry.{Entry}
use Rattle.sched_model.specs.declared.event.Reply.{Reply}
use Rattle.sched_model.specs.declared.machine.Machine.{Machine}
use Rattle.sched_model.specs.declared.plan.Plan.TheVariants as plan
use Rattle.sched_model.specs.declared.state.Pool.{Pool}
use Rattle.sched_model.specs.declared.state.State.{State}
use Rattle.sched_model.specs.declared.work.CommandLine.{CommandLine}
use Rattle.sched_model.specs.Places.{at_place}
use Rattle.sched_model.specs.CheckedMachine.{IsChecked}
use Rattle.sched_model.specs.Actions.{home_pool_of_core}
use Rattle.sched_model.specs.Machine.{line_verdict}
use Rattle.sched_model.specs.Runs.{IsRun}
use Rattle.sched_laws.specs.StateLaws.{state_after}
use Rattle.sched_base.proofs.Bools.{clash}
use Rattle.sched_laws.proofs.EachPlace.{none_found}
use Rattle.composition_laws.proofs.Alike.{core_of}
use Rattle.composition_laws.proofs.Judged.{plan_finds}
use Rattle.composition_laws.proofs.Moving.{IsKnown, known_in_runs}

in_no_pool : (s : State) (r i : ℕ) (o : Option Pool) → home_pool_of_core s r ≡ None → at_place s.pools i ≡ o → core_of o r ≡ true → ⊥
in_no_pool s r i None home at has = absurd (cc)
in_no_pool s r i (Some pool) home at has = clash (is_some (at_place pool.resources r)) has (none_found 0 i (λ p. is_some (at_place p.resources r)) s.pools pool home at)

pub added_is_free : (m : Machine) → IsChecked m → (entries : List Entry) → IsRun m entries → (line : CommandLine) (i : PoolId) (core : ResId) (answer : Reply)
    → line_verdict m (state_after m entries) line ≡ Ok (plan.CpuAdd i core answer) → is_some (at_place (state_after m entries).free core.0) ≡ true
added_is_free m checked entries run line i core answer says =
    let s : State = state_after m entries in
    let known : IsKnown m s = known_in_runs m checked entries run in
    let found = plan_finds m checked s line (plan.CpuAdd i core answer) says in
    elim (known.housed.cores core.0 found.2) [ inl free ↦ free | inr p ↦ absurd (in_no_pool s core.0 p.0 (at_place s.pools p.0) found.1 refl p.1) ]
