-- How many units still have room in a pool.
use Rattle.std.specs.Prelude.{◌≡◌, ◌+◌, true}
use Rattle.unit_state.specs.Guests.{units_in, most_units}
use Rattle.pool_core.specs.Seen.{Seen}

-- all units of a machine have room here: those of the domains that are here, and as many as may still join
pub record IsRoomy (seen : Seen) : Type 0 where
  pub room : units_in seen.granularity seen.pool.domains + seen.spare ≡ most_units

-- a pool at a place is in use, and has room for all units of a machine
pub record IsPlaced (seen : Seen) : Type 0 where
  pub used : seen.in_use ≡ true
  pub roomy : IsRoomy seen
