-- A pool that opens with the parameters of the file.
use Rattle.std.proofs.Common.{◌≡◌, ◌+◌, ℕ, zero, suc, true, List, [], ◌∷◌, ◌++◌, arith, sym, refl, ap, subst, ◌∙◌, length}
use Rattle.std.specs.Prelude.{Option, Some, None, map, replicate, slice_get}
use Rattle.std.proofs.lemmas.List.{append-nil, length-replicate}
use Rattle.sched_base.specs.declared.UnitId.{UnitId}
use Rattle.sched_model.specs.declared.config.Config.{Config}
use Rattle.sched_model.specs.declared.config.PoolConfig.{PoolConfig}
use Rattle.sched_model.specs.declared.config.PoolParams.{PoolParams}
use Rattle.sched_model.specs.declared.config.PoolParams.TheVariants as pool_params
use Rattle.sched_model.specs.declared.config.SchedKind.{SchedKind}
use Rattle.sched_model.specs.declared.config.SchedKind.TheVariants as kinds
use Rattle.sched_model.specs.declared.state.Domain.{Domain}
use Rattle.sched_model.specs.declared.state.Pool.{Pool}
use Rattle.sched_model.specs.declared.state.Scheduler.{Scheduler}
use Rattle.sched_model.specs.Policy.{standard_pool_params, empty_records, records_kind}
use Rattle.sched_model.specs.declared.work.Work.{Work}
use Rattle.sched_model.specs.Opening.{machine_core_count, fresh_pool, opening, pool_at_opening, pools_at_opening}
use Rattle.sched_model.specs.Places.{at_place, numbers_from}
use Rattle.sched_laws.specs.EachPlace.{EachPlace}
use Rattle.sched_laws.proofs.EachPlace.{EachPlace-empty, is_empty}
use Rattle.sched_ops.specs.Conditions.{ArePoolParams}
use Rattle.sched_ops.specs.Seen.{restarted_scheduler, vacant_scheduler}
use Rattle.pool_records.specs.OpeningCores.{opening_core}
use Rattle.unit_state.specs.Guests.{units_in, most_units}
use Rattle.pool_core.specs.Seen.{Seen, vacant_pool as vacant_pool}
use Rattle.machine_opening.specs.OpeningPool.{IsOpening, IsPending, opening_seen, with_cores}
use Rattle.machine_opening.proofs.Attaching.{all_pending}

pub kind_given : (kind : SchedKind) (params : PoolParams) (domains cores : ℕ) → ArePoolParams kind params → records_kind (empty_records params domains cores) ≡ kind
kind_given kinds.Credit2 (pool_params.Credit2 limit) domains cores fits = refl
kind_given kinds.Rtds pool_params.Rtds domains cores fits = refl
kind_given kinds.Arinc653 (pool_params.Arinc653 frame) domains cores fits = refl
kind_given kinds.Null pool_params.Null domains cores fits = refl
kind_given kinds.Credit2 pool_params.Rtds domains cores fits = elim fits [ ]
kind_given kinds.Credit2 (pool_params.Arinc653 frame) domains cores fits = elim fits [ ]
kind_given kinds.Credit2 pool_params.Null domains cores fits = elim fits [ ]
kind_given kinds.Rtds (pool_params.Credit2 limit) domains cores fits = elim fits [ ]
kind_given kinds.Rtds (pool_params.Arinc653 frame) domains cores fits = elim fits [ ]
kind_given kinds.Rtds pool_params.Null domains cores fits = elim fits [ ]
kind_given kinds.Arinc653 (pool_params.Credit2 limit) domains cores fits = elim fits [ ]
kind_given kinds.Arinc653 pool_params.Rtds domains cores fits = elim fits [ ]
kind_given kinds.Arinc653 pool_params.Null domains cores fits = elim fits [ ]
kind_given kinds.Null (pool_params.Credit2 limit) domains cores fits = elim fits [ ]
kind_given kinds.Null pool_params.Rtds domains cores fits = elim fits [ ]
kind_given kinds.Null (pool_params.Arinc653 frame) domains cores fits = elim fits [ ]

-- a scheduler without domains that begins anew is one with the new parameters and the same places
pub restart : (kind : SchedKind) (params : PoolParams) (domains cores : ℕ) → ArePoolParams kind params
    → restarted_scheduler params (vacant_scheduler (standard_pool_params kind) domains cores) ≡ vacant_scheduler params domains cores
restart kinds.Credit2 (pool_params.Credit2 limit) domains cores fits = ap (λ (n : ℕ). vacant_scheduler (pool_params.Credit2 limit) n 0) (length-replicate domains _)
restart kinds.Rtds pool_params.Rtds domains cores fits = ap (λ (n : ℕ). vacant_scheduler pool_params.Rtds n 0) (length-replicate domains _)
restart kinds.Arinc653 (pool_params.Arinc653 frame) domains cores fits = ap (λ (n : ℕ). vacant_scheduler (pool_params.Arinc653 frame) n 0) (length-replicate domains _)
restart kinds.Null pool_params.Null domains cores fits =
    let none : Option UnitId = None in
    ap (λ (n : ℕ). vacant_scheduler pool_params.Null n (length (replicate cores none))) (length-replicate domains _) ∙ ap (λ (n : ℕ). vacant_scheduler pool_params.Null domains n) (length-replicate cores _)
restart kinds.Credit2 pool_params.Rtds domains cores fits = elim fits [ ]
restart kinds.Credit2 (pool_params.Arinc653 frame) domains cores fits = elim fits [ ]
restart kinds.Credit2 pool_params.Null domains cores fits = elim fits [ ]
restart kinds.Rtds (pool_params.Credit2 limit) domains cores fits = elim fits [ ]
restart kinds.Rtds (pool_params.Arinc653 frame) domains cores fits = elim fits [ ]
restart kinds.Rtds pool_params.Null domains cores fits = elim fits [ ]
restart kinds.Arinc653 (pool_params.Credit2 limit) domains cores fits = elim fits [ ]
restart kinds.Arinc653 pool_params.Rtds domains cores fits = elim fits [ ]
restart kinds.Arinc653 pool_params.Null domains cores fits = elim fits [ ]
restart kinds.Null (pool_params.Credit2 limit) domains cores fits = elim fits [ ]
restart kinds.Null pool_params.Rtds domains cores fits = elim fits [ ]
restart kinds.Null (pool_params.Arinc653 frame) domains cores fits = elim fits [ ]

-- the pool at the opening, with its cores and before its domains
abbrev pub begun : Config → PoolConfig → Seen
begun config home =
    record {
      pool = record (fresh_pool config home.params) { resources = map (opening_core config.granularity home.cores) (numbers_from 0 (machine_core_count config)) };
      granularity = config.granularity;
      spare = most_units;
      latest = 0;
      in_use = true;
    }

-- the calls that make it
pub begins : (config : Config) (home : PoolConfig) (kind : SchedKind) (domains cores : ℕ) (room next now : Seen) → kind ≡ home.kind → ArePoolParams home.kind home.params → domains ≡ length config.domains
    → cores ≡ machine_core_count config → room ≡ vacant_pool (standard_pool_params kind) config.granularity domains cores most_units
    → next ≡ record room { pool = record room.pool { scheduler = restarted_scheduler home.params room.pool.scheduler }; in_use = true }
    → now ≡ with_cores (map (opening_core config.granularity home.cores) (numbers_from 0 cores)) next → now ≡ begun config home
begins config home kind domains cores room next now same fits of_domains of_cores is_room is_next is_now =
    let g : ℕ = config.granularity in
    let made : ℕ → Seen → Seen = λ count s. with_cores (map (opening_core g home.cores) (numbers_from 0 count)) s in
    let with_scheduler : ℕ → ℕ → Scheduler → Seen = λ n count s. made count (record (vacant_pool (standard_pool_params kind) g n count most_units) { pool = record (vacant_pool (standard_pool_params kind) g n count most_units).pool { scheduler = s }; in_use = true }) in
    let passes : ArePoolParams kind home.params = rw same fits in
    is_now ∙ ap (made cores) is_next ∙ ap (λ (s : Seen). made cores (record s { pool = record s.pool { scheduler = restarted_scheduler home.params s.pool.scheduler }; in_use = true })) is_room
    ∙ ap (with_scheduler domains cores) (restart kind home.params domains cores passes)
    ∙ ap (λ (n : ℕ). with_scheduler n cores (vacant_scheduler home.params n cores)) of_domains
    ∙ ap (λ (count : ℕ). with_scheduler (length config.domains) count (vacant_scheduler home.params (length config.domains) count)) of_cores

-- empty places have no units
no_units : (g n : ℕ) → units_in g (replicate n None) ≡ 0
no_units g zero = refl
no_units g (suc n) = (let r = no_units g n in omega (arith, r))

-- its domains may come in
pub opens : (config : Config) (home : PoolConfig) → ArePoolParams home.kind home.params → IsOpening config home 0 (begun config home)
opens config home fits = record {
  still = record { used = refl; early = refl; pending = subst (EachPlace IsPending) (append-nil (map (opening_core config.granularity home.cores) (numbers_from 0 (machine_core_count config)))) (all_pending config.granularity home.cores 0 (machine_core_count config) 0) };
  granularity = refl;
  kind = kind_given home.kind home.params (length config.domains) (machine_core_count config) fits;
  places = length-replicate (length config.domains) _;
  sets = length-replicate (length config.domains) _;
  absent = λ n later. is_empty _ (λ x at. EachPlace-empty (λ (y : Domain). ⊥) (length config.domains) n x at);
  room = ap (λ (k : ℕ). k + most_units) (no_units config.granularity (length config.domains));
}

-- what stands at the place i of the machine's opening
opening_at : (config : Config) (k i : ℕ) (pools : List PoolConfig) (rest : List (Option Pool)) (home : PoolConfig) → slice_get pools i ≡ Some home → at_place (pools_at_opening config k pools ++ rest) i ≡ Some (pool_at_opening config (k + i) home)
opening_at config k i [] rest home at = absurd (cc)
opening_at config k zero (pool ∷ pools) rest home at =
    let same : pool ≡ home = cc in
    let number : k ≡ k + 0 = omega arith in
    ap (λ (p : PoolConfig). Some (pool_at_opening config k p)) same ∙ ap (λ (n : ℕ). Some (pool_at_opening config n home)) number
opening_at config k (suc i) (pool ∷ pools) rest home at =
    let number : suc k + i ≡ k + suc i = omega arith in
    opening_at config (suc k) i pools rest home at ∙ ap (λ (n : ℕ). Some (pool_at_opening config n home)) number

pub stands_at : (config : Config) (i : ℕ) (home : PoolConfig) (work : Work) (seen : Seen) → slice_get config.pools i ≡ Some home → seen ≡ opening_seen config i home → at_place (opening (record { config = config; work = work })).pools i ≡ Some seen.pool
stands_at config i home work seen at is =
    let number : 0 + i ≡ i = omega arith in
    opening_at config 0 i config.pools _ home at ∙ ap (λ (n : ℕ). Some (pool_at_opening config n home)) number ∙ ap (λ (s : Seen). Some s.pool) (sym is)
