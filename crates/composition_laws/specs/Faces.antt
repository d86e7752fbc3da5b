-- What the rest of the state knows of a pool.
use Rattle.std.specs.Prelude.{ℕ, Bool, List, Option, option_map, map, length}
use Rattle.sched_base.specs.declared.PoolId.{PoolId}
use Rattle.sched_model.specs.declared.config.SchedKind.{SchedKind}
use Rattle.sched_model.specs.declared.state.Domain.{Domain}
use Rattle.sched_model.specs.declared.state.Pool.{Pool}
use Rattle.sched_model.specs.Policy.{records_kind}
use Rattle.journal_core.specs.Parts.{is_leaving}

-- how many vCPUs a domain has, and the pool to which it is moving
pub record DomainFace : Type 0 where
  pub vcpus : ℕ
  pub moving : Option PoolId

-- a pool's scheduler, which cores it has and which of them are leaving, and its domains
pub record Face : Type 0 where
  pub kind : SchedKind
  pub cores : List (Option Bool)
  pub domains : List (Option DomainFace)

abbrev pub domain_face : Domain → DomainFace
domain_face d = record { vcpus = length d.vcpus; moving = d.moving }

-- the face of a pool
abbrev pub face_of : Pool → Face
face_of pool = record { kind = records_kind pool.scheduler.records; cores = map (option_map is_leaving) pool.resources; domains = map (option_map domain_face) pool.domains }
