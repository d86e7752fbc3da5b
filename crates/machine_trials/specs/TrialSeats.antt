-- What the trials ask of the seats of a hall, and of the numbers of its actors.
use Rattle.std.specs.Prelude.{◌≡◌, length}
use Rattle.sched_model.specs.declared.config.Config.{Config}
use Rattle.lock_moves.specs.Sets.{LockTable}
use Rattle.hall.specs.Seats.{IsOf, Seated}
use Rattle.machine_trials.specs.declared.numbering.Actors.{Actors}

-- the machine has so many processors and domains
pub record AreActors (config : Config) (actors : Actors) : Type 0 where
  pub processors_are : actors.processors ≡ config.processors
  pub domains_are : actors.domains ≡ length config.domains

-- the seat is one of the hall and has one of the 1024 parts, and the hall's machine has the actors
pub record MayServe (hall : LockTable) (actors : Actors) (s : Seated) : Type 0 where
  pub of : IsOf hall s
  pub one : s.sitting.view.shares ≡ 1
  pub actors_are : AreActors hall.opened.input.config actors
