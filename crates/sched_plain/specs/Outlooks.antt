-- What is known of the events to come: of those of the present moment, and of those of any later one. g is the number of a core's processors.
use Rattle.std.specs.Prelude.{ℕ, ◌≡◌, ◌≤◌, ◌⊎◌, true, false, List, Option, Some, None, replicate, slice_set}
use Rattle.sched_model.specs.declared.action.Action.{Action}
use Rattle.sched_model.specs.declared.machine.Machine.{Machine}
use Rattle.sched_model.specs.declared.state.FreeCore.{FreeCore}
use Rattle.sched_model.specs.declared.state.Pool.{Pool}
use Rattle.sched_model.specs.declared.state.Resource.{Resource}
use Rattle.sched_model.specs.declared.state.State.{State}
use Rattle.sched_model.specs.Machine.{is_free_core_ready}
use Rattle.sched_model.specs.Places.{at_place}
use Rattle.sched_model.specs.Pool.{enabled_in}
use Rattle.sched_plain.specs.KeptFloors.{AreKept, IsTouched, floor_of, forgotten, pended, touched, touched_core, touched_domain}
use Rattle.sched_plain.specs.Search.{has_command_come, has_stall_come}
use Rattle.sched_plain.specs.Waits.{IsCoreWait, IsDomainWait}
use Rattle.sched_plain.specs.declared.floors.Outlook.{Outlook}
use Rattle.sched_plain.specs.declared.floors.Waits.{Waits}

-- the moments by the numbers of cores and domains
abbrev pub wait_of : ℕ → Waits → Action → ℕ
wait_of g waits action = floor_of g (record { cores = waits.cores; domains = waits.domains }) action

-- no event of a pool may come before what is known of its core or domain
pub record AreLater (g : ℕ) (pools : List (Option Pool)) (waits : Waits) : Type 0 where
  pub each : (t i : ℕ) (pool : Pool) (action : Action) → at_place pools i ≡ Some pool → enabled_in g t pool action ≡ true → wait_of g waits action ≤ t

-- the wait of the core, or of the domain, is found anew in its pool, and the others are as they were
pub record IsCoreAwaited (g : ℕ) (pool : Pool) (r : ℕ) (old new : Waits) : Type 0 where
  pub wait : ℕ
  pub right : IsCoreWait g pool r wait
  pub set : new ≡ record old { cores = slice_set old.cores r wait }

pub record IsDomainAwaited (g : ℕ) (pool : Pool) (d : ℕ) (old new : Waits) : Type 0 where
  pub wait : ℕ
  pub right : IsDomainWait g pool d wait
  pub set : new ≡ record old { domains = slice_set old.domains d wait }

-- the next stall, the next command and the cores of no pool are not due yet
pub record IsStill (m : Machine) (s : State) : Type 0 where
  pub stall : has_stall_come m s s.now ≡ false
  pub command : has_command_come m s s.now ≡ false
  pub free : (r : ℕ) (c : FreeCore) → at_place s.free r ≡ Some c → is_free_core_ready s.now c ≡ false

-- what is known is so
pub record IsSeen (m : Machine) (s : State) (outlook : Outlook) : Type 0 where
  pub floors : AreKept m.config.granularity s.now s.pools outlook.floors
  pub waits : AreLater m.config.granularity s.pools outlook.waits
  pub still : outlook.is_still ≡ true → IsStill m s

-- the same, where anything is kept
abbrev pub IsSeenIf : Machine → State → Option Outlook → Type 0
IsSeenIf m s None = Unit {0}
IsSeenIf m s (Some outlook) = IsSeen m s outlook

-- where less is known than before, and nothing of each event that may come at some moment in the next pool, but not in the old one
pub record AreSooner (g : ℕ) (old next : Pool) (before after : Waits) : Type 0 where
  pub lower : (action : Action) → wait_of g after action ≤ wait_of g before action
  pub each : (t : ℕ) (action : Action) → enabled_in g t next action ≡ true → (wait_of g after action ≤ t) ⊎ (enabled_in g t old action ≡ true)

pub record IsSeenOver (g t : ℕ) (old next : Pool) (before after : Outlook) : Type 0 where
  pub floors : IsTouched g t old next before.floors after.floors
  pub waits : AreSooner g old next before.waits after.waits
  pub still : after.is_still ≡ before.is_still

abbrev pub IsSeenOverIf : ℕ → ℕ → Pool → Pool → Option Outlook → Option Outlook → Type 0
IsSeenOverIf g t old next before None = Unit {0}
IsSeenOverIf g t old next None (Some after) = ⊥
IsSeenOverIf g t old next (Some before) (Some after) = IsSeenOver g t old next before after

-- nothing is known any more, where anything was kept
abbrev pub IsUnseen : Option Outlook → Type 0
IsUnseen None = Unit {0}
IsUnseen (Some outlook) = (outlook.floors ≡ record { cores = replicate 64 0; domains = replicate 64 0 }) × (outlook.waits ≡ record { cores = replicate 64 0; domains = replicate 64 0 }) × (outlook.is_still ≡ false)

-- nothing is known of the present moment, where anything was kept, and all else is as it was
abbrev pub passed : Outlook → Outlook
passed outlook = record outlook { floors = record { cores = replicate 64 0; domains = replicate 64 0 }; is_still = false }

-- what is known after the event of the pool, before its cores are looked at; the core and the domain that it touches are told
abbrev pub seen_after : ℕ → Pool → Action → Outlook → Outlook
seen_after g pool action outlook = record outlook {
  floors = touched g pool action outlook.floors;
  waits = record { cores = forgotten (touched_core g pool action) outlook.waits.cores; domains = forgotten (touched_domain g pool action) outlook.waits.domains };
  core = touched_core g pool action;
  domain = touched_domain g pool action;
}

-- and after a look at these cores: the processors of each that is pending may arrive
abbrev pub looked : List (Option Resource) → Outlook → Outlook
looked cores outlook = record outlook {
  floors = record outlook.floors { cores = pended 9 0 cores outlook.floors.cores };
  waits = record outlook.waits { cores = pended 0 0 cores outlook.waits.cores };
}
