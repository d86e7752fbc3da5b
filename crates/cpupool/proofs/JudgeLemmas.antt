-- The answer to a command by what the tool knows is the answer of the definitions.
use Rattle.sched_model.specs.CheckedMachine.{most_span}
use Rattle.sched_base.specs.Numbers.{domain as domain_number}
use Rattle.std.proofs.Common.{◌≡◌, ◌/◌, Some, None, refl, ◌∙◌, ap}
use Rattle.sched_model.specs.declared.command.Command.{Command}
use Rattle.sched_model.specs.declared.command.Command.TheVariants as command
use Rattle.sched_model.specs.declared.config.SchedKind.TheVariants as kinds
use Rattle.sched_model.specs.declared.event.Param.TheVariants as param
use Rattle.sched_model.specs.declared.event.Refusal.TheVariants as refusal
use Rattle.sched_model.specs.declared.machine.Machine.{Machine}
use Rattle.sched_model.specs.declared.state.FreeCore.{FreeCore}
use Rattle.sched_model.specs.declared.state.State.{State}
use Rattle.sched_model.specs.Policy.{records_kind}
use Rattle.sched_model.specs.Commands.{judged_command, demand, demand_kind, in_range}
use Rattle.journal_core.specs.Parts.{pool_outline}
use Rattle.cpupool.specs.Tool.{tool_of}
use Rattle.sched_model.specs.Pool.{domain_unit_count}
use Rattle.cpupool.specs.Facts.{command_facts, KeepsFacts, no_subject}
use Rattle.cpupool.specs.Verdicts.{seen_verdict}
use Rattle.cpupool.proofs.SubjectLemmas.{flag-there, core_home-seen}
use Rattle.cpupool.proofs.CountLemmas.{cores-seen, domains-seen, places-count, first_empty-map, last_core-seen}
use Rattle.cpupool.proofs.NamedLemmas.{named_outline, named_size}
use Rattle.cpupool.proofs.FactLemmas.{rate-known, units-known, subject-known}
use Rattle.cpupool.proofs.DomainLemmas.{limit_judged, credit2_judged, rtds_judged}
use Rattle.cpupool.proofs.ListLemmas.{frame-seen, guest_judged, cores-named, elsewhere-seen}

pub judge_seen : (m : Machine) (s : State) (c : Command) → KeepsFacts m s c → seen_verdict (tool_of m s) (command_facts m s c) c ≡ judged_command m s c
judge_seen m s (command.PoolList None) keeps = rw (places-count pool_outline 0 s.pools, places-count (λ (c : FreeCore). c.stall_ends) 0 s.free) refl
judge_seen m s (command.PoolList (Some which)) keeps = named_outline m s which _ _ (λ i pool is at. rw (cores-seen pool, domains-seen pool) refl)
judge_seen m s (command.PoolCreate name kind) keeps = rw (first_empty-map pool_outline 0 s.pools) refl
judge_seen m s (command.PoolDestroy which) keeps = named_outline m s which _ _ (λ i pool is at. rw (cores-seen pool, domains-seen pool) refl)
judge_seen m s (command.PoolRename which name) keeps = named_outline m s which _ _ (λ i pool is at. refl)
judge_seen m s (command.CpuAdd which cpu) keeps = named_outline m s which _ _ (λ i pool is at. rw (core_home-seen m s (cpu / m.config.granularity), cores-seen pool) refl)
judge_seen m s (command.CpuRemove which cpu) keeps = named_outline m s which _ _ (λ i pool is at. rw (flag-there pool.resources (cpu / m.config.granularity), last_core-seen i pool) refl)
judge_seen m s (command.Migrate which target) keeps = named_size m s which _ _ (λ d i pool domain is lives at inside. named_outline m s target _ _ (λ j new named there. rw (cores-seen new) refl))
judge_seen m s (command.Credit2Dom which weight cap) keeps = named_size m s which _ _ (λ d i pool domain is lives at inside.
    let values = keeps (domain_number d) (subject-known m s which no_subject d is) i pool domain lives at inside in
    credit2_judged m.config.granularity d i pool.scheduler.records (domain_unit_count m.config.granularity domain) _ weight cap (units-known m s which d i pool domain is lives at inside) values.some_unit values.all_units)
judge_seen m s (command.Credit2Pool which limit) keeps = named_outline m s which _ _ (λ i pool is at. limit_judged i pool (records_kind pool.scheduler.records) _ limit (rate-known s which i pool is at))
judge_seen m s (command.RtdsDom which vcpu period budget extra) keeps = named_size m s which _ _ (λ d i pool domain is lives at inside.
    let values = keeps (domain_number d) (subject-known m s which no_subject d is) i pool domain lives at inside in
    rtds_judged m s d i pool domain _ (units-known m s which d i pool domain is lives at inside) values vcpu period budget extra)
judge_seen m s (command.Pause which) keeps = named_size m s which _ _ (λ d i pool domain is lives at inside. refl)
judge_seen m s (command.Unpause which) keeps = named_size m s which _ _ (λ d i pool domain is lives at inside. refl)
judge_seen m s (command.ArincSet which major entries) keeps = named_outline m s which _ _ (λ i pool is at.
    ap (λ next. demand_kind kinds.Arinc653 i pool (demand (in_range 1 most_span major) (refusal.Range param.Major major) next)) (frame-seen m s i major entries))
judge_seen m s (command.Pin which vcpu cpus) keeps = named_size m s which _ _ (λ d i pool domain is lives at inside.
    guest_judged domain vcpu _ ∙ rw (elsewhere-seen m s pool cpus, cores-named m s cpus) refl)
