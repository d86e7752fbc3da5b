-- The units in all, the frames of the pools held against the domains, and the pools that come of it.
use Rattle.std.specs.Prelude.{ℕ, ℤ, pos, negsuc, nat_lt, nat_le, codes, List, [], ◌∷◌, ◌++◌, length, slice_get, Some, None, Result, Ok, Err, ⊤, if◌then◌else◌}
use Rattle.std.specs.List.{sum_by}
use Rattle.sched_base.specs.Numbers.{domain}
use Rattle.sched_model.specs.declared.config.DomConfig.{DomConfig}
use Rattle.sched_model.specs.declared.config.Frame.{Frame}
use Rattle.sched_model.specs.declared.config.FrameEntry.{FrameEntry}
use Rattle.sched_model.specs.declared.config.PoolConfig.{PoolConfig}
use Rattle.sched_model.specs.declared.config.PoolParams.{PoolParams}
use Rattle.sched_model.specs.declared.config.PoolParams.TheVariants as pool_params
use Rattle.dom_file.specs.declared.draft.EntryDraft.{EntryDraft}
use Rattle.dom_file.specs.declared.draft.FrameDraft.{FrameDraft}
use Rattle.dom_file.specs.declared.draft.ParamsDraft.{ParamsDraft}
use Rattle.dom_file.specs.declared.draft.ParamsDraft.TheVariants as drafts
use Rattle.dom_file.specs.declared.draft.PoolDraft.{PoolDraft}
use Rattle.dom_file.specs.declared.fault.TableName.TheVariants.{Pool}
use Rattle.dom_file.specs.declared.fault.DomCause.{DomCause}
use Rattle.dom_file.specs.declared.fault.DomCause.TheVariants.{Range}
use Rattle.dom_file.specs.declared.fault.DomFault.{DomFault}
use Rattle.dom_file.specs.Steps.{◌>>=◌, at, each}
use Rattle.dom_file.specs.Pins.{guest_unit_count}

-- the number, where it is one of so many from 0
abbrev pub number_below : ℕ → ℤ → Result ℕ DomCause
number_below count (pos n) = if nat_lt n count then Ok n else Err (Range (pos n))
number_below count (negsuc n) = Err (Range (negsuc n))

-- how many units the domain with this number has
abbrev pub units_of_domain : ℕ → List DomConfig → ℕ → ℕ
units_of_domain g domains n = elim (slice_get domains n) [ None ↦ 0 | Some d ↦ guest_unit_count g (length d.guests) ]

-- an entry of a frame names a domain and a unit that are there
abbrev pub entry_of : ℕ → List DomConfig → EntryDraft → Result FrameEntry DomCause
entry_of g domains e = do
  dom ← number_below (length domains) e.dom
  unit ← number_below (units_of_domain g domains dom) e.unit
  Ok (record { dom = domain dom; unit = unit; run = e.run })

-- a frame whose entries are all there
abbrev pub frame_of : ℕ → List DomConfig → FrameDraft → Result Frame DomCause
frame_of g domains frame = each (entry_of g domains) frame.entries >>= λ entries. Ok (record { major = frame.major; entries = entries })

-- the parameters of a pool, with its frame, if it has one
abbrev pub params_of : ℕ → List DomConfig → ParamsDraft → Result PoolParams DomCause
params_of g domains (drafts.Credit2 limit) = Ok (pool_params.Credit2 limit)
params_of g domains drafts.Rtds = Ok pool_params.Rtds
params_of g domains (drafts.Arinc653 None) = Ok (pool_params.Arinc653 None)
params_of g domains (drafts.Arinc653 (Some frame)) = frame_of g domains frame >>= λ f. Ok (pool_params.Arinc653 (Some f))
params_of g domains drafts.Null = Ok pool_params.Null

-- the pool with this number
abbrev pub finished_pool : ℕ → List DomConfig → ℕ → PoolDraft → Result PoolConfig DomFault
finished_pool g domains index pool = do
  params ← at Pool index (codes "frame") (params_of g domains pool.params)
  Ok (record { name = pool.name; kind = pool.kind; cores = pool.cores; params = params })

-- these pools, and the others behind them
abbrev pub finished_pools : ℕ → List DomConfig → List PoolConfig → List PoolDraft → Result (List PoolConfig) DomFault
finished_pools g domains pools [] = Ok pools
finished_pools g domains pools (draft ∷ more) = finished_pool g domains (length pools) draft >>= λ pool. finished_pools g domains (pools ++ pool ∷ []) more

-- the units of all domains
abbrev pub total_units : ℕ → List DomConfig → ℕ
total_units g domains = sum_by (λ (d : DomConfig). guest_unit_count g (length d.guests)) domains

-- there are at most 256 of them
abbrev pub unit_count_check : ℕ → List DomConfig → Result ⊤ DomCause
unit_count_check g domains = if nat_le (total_units g domains) 256 then Ok tt else Err (Range (pos (total_units g domains)))
