-- The answers to the commands with lists are those of the definitions.
use Rattle.sched_base.specs.Numbers.{span, domain as domain_number, pool as pool_number}
use Rattle.std.proofs.Common.{◌≡◌, ◌*◌, ℕ, true, false, List, [], ◌∷◌, Option, Some, None, Result, Ok, Err, length, refl, ◌∙◌, ap, cond, nat_lt, arith}
use Rattle.std.specs.Prelude.{◌==◌, option_map, slice_get, sum_by, nat_le, bit_and, ⊤}
use Rattle.std.proofs.lemmas.List.Sums.{sum_by-cons}
use Rattle.std.proofs.lemmas.Option.{slice_get-map}
use Rattle.sched_model.specs.declared.command.ArincEntry.{ArincEntry}
use Rattle.sched_model.specs.declared.config.DomConfig.{DomConfig}
use Rattle.sched_model.specs.declared.config.FrameEntry.{FrameEntry}
use Rattle.sched_model.specs.declared.event.Param.TheVariants as param
use Rattle.sched_model.specs.declared.event.Refusal.{Refusal}
use Rattle.sched_model.specs.declared.event.Refusal.TheVariants as refusal
use Rattle.sched_model.specs.declared.event.Reply.TheVariants as reply
use Rattle.sched_model.specs.declared.machine.Machine.{Machine}
use Rattle.sched_model.specs.declared.plan.Plan.{Plan}
use Rattle.sched_model.specs.declared.plan.Plan.TheVariants as plan
use Rattle.sched_model.specs.declared.state.Domain.{Domain}
use Rattle.sched_model.specs.declared.state.Pool.{Pool}
use Rattle.sched_model.specs.declared.state.State.{State}
use Rattle.sched_model.specs.Commands.{demand, meant_domain, judged_frame_entry, judged_frame_entries, judge_frame, has_vcpu, named_cores, elsewhere_refusal}
use Rattle.journal_core.specs.Parts.{pool_outline}
use Rattle.cpupool.specs.declared.outline.DomainEntry.{DomainEntry}
use Rattle.cpupool.specs.Tool.{tool_of, domain_entry}
use Rattle.cpupool.specs.Verdicts.{guest_count, seen_entry, seen_entries, seen_frame, guest_or_refused, seen_cores, seen_elsewhere}
use Rattle.cpupool.proofs.SubjectLemmas.{domain-seen}
use Rattle.cpupool.proofs.CountLemmas.{cores-set}

-- what an entry becomes for a domain with so many vCPUs
abbrev sized : Machine → ArincEntry → ℕ → ℕ → Result FrameEntry Refusal
sized m e d vcpus =
    demand (nat_lt (e.unit * m.config.granularity) vcpus) refusal.NoVcpu
    (demand (nat_le 1 e.run) (refusal.Range param.Run e.run) (Ok (record { dom = domain_number d; unit = e.unit; run = span e.run })))

abbrev by_size : Machine → ArincEntry → ℕ → Option ℕ → Result FrameEntry Refusal
by_size m e d None = Err refusal.NoDomain
by_size m e d (Some vcpus) = sized m e d vcpus

abbrev by_config : Machine → ArincEntry → ℕ → Option DomConfig → Result FrameEntry Refusal
by_config m e d None = Err refusal.NoDomain
by_config m e d (Some domain) = sized m e d (length domain.guests)

-- an entry of a frame
pub entry-seen : (m : Machine) (s : State) (e : ArincEntry) → seen_entry (tool_of m s) e ≡ judged_frame_entry m e
entry-seen m s e =
    let seen : Option ℕ → Result FrameEntry Refusal = λ o. elim o [ None ↦ Err refusal.NoDomain | Some d ↦ by_size m e d (guest_count (tool_of m s) d) ] in
    let found : Option ℕ → Result FrameEntry Refusal = λ o. elim o [ None ↦ Err refusal.NoDomain | Some d ↦ by_config m e d (slice_get m.config.domains d) ] in
    ap seen (domain-seen m s e.dom)
    ∙ elim (meant_domain m e.dom) as (λ o. seen o ≡ found o) [
      | None ↦ refl
      | Some d ↦
          ap (λ o. by_size m e d (option_map (λ (x : DomainEntry). x.vcpus) o)) (slice_get-map domain_entry m.config.domains d)
          ∙ elim (slice_get m.config.domains d) as (λ o. by_size m e d (option_map (λ (x : DomainEntry). x.vcpus) (option_map domain_entry o)) ≡ by_config m e d o) [ None ↦ refl | Some domain ↦ refl ]
    ]

-- one entry before the others
abbrev joined : Result FrameEntry Refusal → Result (List FrameEntry) Refusal → Result (List FrameEntry) Refusal
joined r rs = elim r [ Err fault ↦ Err fault | Ok entry ↦ elim rs [ Err fault ↦ Err fault | Ok rest ↦ Ok (entry ∷ rest) ] ]

-- the entries of a frame
pub entries-seen : (m : Machine) (s : State) (entries : List ArincEntry) → seen_entries (tool_of m s) entries ≡ judged_frame_entries m entries
entries-seen m s [] = refl
entries-seen m s (e ∷ entries) =
    ap (λ r. joined r (seen_entries (tool_of m s) entries)) (entry-seen m s e) ∙ ap (joined (judged_frame_entry m e)) (entries-seen m s entries)

-- the entry, if it is one, runs as long
abbrev RunsAs : ArincEntry → Result FrameEntry Refusal → Type 0
RunsAs e (Err fault) = ⊤
RunsAs e (Ok entry) = entry.run.0 ≡ e.run

runs_sized : (m : Machine) (e : ArincEntry) (d vcpus : ℕ) → RunsAs e (sized m e d vcpus)
runs_sized m e d vcpus =
    elim (nat_lt (e.unit * m.config.granularity) vcpus) as (λ b. RunsAs e (demand b refusal.NoVcpu (demand (nat_le 1 e.run) (refusal.Range param.Run e.run) (Ok (record { dom = domain_number d; unit = e.unit; run = span e.run }))))) [
      | true ↦ elim (nat_le 1 e.run) as (λ b. RunsAs e (demand b (refusal.Range param.Run e.run) (Ok (record { dom = domain_number d; unit = e.unit; run = span e.run })))) [ true ↦ refl | false ↦ tt ]
      | false ↦ tt
    ]

entry_runs : (m : Machine) (e : ArincEntry) → RunsAs e (judged_frame_entry m e)
entry_runs m e =
    elim (meant_domain m e.dom) as (λ o. RunsAs e (elim o [ None ↦ Err refusal.NoDomain | Some d ↦ by_config m e d (slice_get m.config.domains d) ])) [
      | None ↦ tt
      | Some d ↦ elim (slice_get m.config.domains d) as (λ o. RunsAs e (by_config m e d o)) [ None ↦ tt | Some domain ↦ runs_sized m e d (length domain.guests) ]
    ]

-- the entries, if they are a frame's, run as long
abbrev pub RunAs : List ArincEntry → Result (List FrameEntry) Refusal → Type 0
RunAs entries (Err fault) = ⊤
RunAs entries (Ok frame) = sum_by (λ (e : ArincEntry). e.run) entries ≡ sum_by (λ (e : FrameEntry). e.run.0) frame

run_joined : (e : ArincEntry) (entries : List ArincEntry) (r : Result FrameEntry Refusal) (rs : Result (List FrameEntry) Refusal) → RunsAs e r → RunAs entries rs → RunAs (e ∷ entries) (joined r rs)
run_joined e entries (Err fault) rs one others = tt
run_joined e entries (Ok entry) (Err fault) one others = tt
run_joined e entries (Ok entry) (Ok rest) one others =
    let typed = sum_by-cons (λ (x : ArincEntry). x.run) e entries in
    let framed = sum_by-cons (λ (x : FrameEntry). x.run.0) entry rest in
    omega (arith, typed, framed, one, others)

pub entries_run : (m : Machine) (entries : List ArincEntry) → RunAs entries (judged_frame_entries m entries)
entries_run m [] = refl
entries_run m (e ∷ entries) = run_joined e entries (judged_frame_entry m e) (judged_frame_entries m entries) (entry_runs m e) (entries_run m entries)

-- the plan for a frame
pub frame-seen : (m : Machine) (s : State) (i major : ℕ) (entries : List ArincEntry) → seen_frame (tool_of m s) i major entries ≡ judge_frame m i major entries
frame-seen m s i major entries =
    let plan_of : List FrameEntry → ℕ → Result Plan Refusal = λ frame sum.
    demand (nat_le sum major) (refusal.FrameLong sum major) (Ok (plan.ArincSet (pool_number i) (record { major = span major; entries = frame }) reply.Done)) in
    let seen : Result (List FrameEntry) Refusal → Result Plan Refusal = λ r. elim r [ Err fault ↦ Err fault | Ok frame ↦ plan_of frame (sum_by (λ (e : ArincEntry). e.run) entries) ] in
    let found : Result (List FrameEntry) Refusal → Result Plan Refusal = λ r. elim r [ Err fault ↦ Err fault | Ok frame ↦ plan_of frame (sum_by (λ (e : FrameEntry). e.run.0) frame) ] in
    ap seen (entries-seen m s entries)
    ∙ elim (judged_frame_entries m entries) as (λ r. RunAs entries r → seen r ≡ found r) [ Err fault ↦ λ run. refl | Ok frame ↦ λ run. ap (plan_of frame) run ] (entries_run m entries)

-- what follows a vCPU that the domain has
pub guest_judged : (domain : Domain) (vcpu : Option ℕ) (next : Option ℕ → Result Plan Refusal)
    → (elim (guest_or_refused (length domain.vcpus) vcpu) [ Err fault ↦ Err fault | Ok guest ↦ next guest ]) ≡ demand (has_vcpu domain vcpu) refusal.NoVcpu (next vcpu)
guest_judged domain None next = refl
guest_judged domain (Some v) next =
    let answer : Result (Option ℕ) Refusal → Result Plan Refusal = λ r. elim r [ Err fault ↦ Err fault | Ok guest ↦ next guest ] in
    elim (nat_lt v (length domain.vcpus)) as (λ b. answer (cond b (Ok (Some v)) (Err refusal.NoVcpu)) ≡ demand b refusal.NoVcpu (next (Some v))) [ true ↦ refl | false ↦ refl ]

-- the cores that the ranges name
pub cores-named : (m : Machine) (s : State) (ranges : List (ℕ × ℕ)) → seen_cores (tool_of m s) ranges ≡ named_cores m.config ranges
cores-named m s [] = refl
cores-named m s (e ∷ ranges) = refl

-- the refusal of ranges that name no core of the pool
pub elsewhere-seen : (m : Machine) (s : State) (pool : Pool) (ranges : List (ℕ × ℕ)) → seen_elsewhere (tool_of m s) (pool_outline pool) ranges ≡ elsewhere_refusal m.config pool ranges
elsewhere-seen m s pool [] = refl
elsewhere-seen m s pool (e ∷ ranges) = ap (λ set. cond (bit_and (named_cores m.config (e ∷ ranges)).0 set == 0) (Some (refusal.CpuElsewhere e.0)) None) (cores-set 0 pool.resources)
