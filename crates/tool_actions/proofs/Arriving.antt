-- The end of a move keeps the counts of the pools.
use Rattle.std.proofs.Common.{◌≡◌, ◌∙◌, ℕ, zero, suc, false, true, List, [], ◌∷◌, cond, refl, sym, ap, subst}
use Rattle.std.specs.Prelude.{Option, None, Some}
use Rattle.sched_base.specs.declared.Moment.{Moment}
use Rattle.sched_model.specs.declared.config.SchedKind.{SchedKind}
use Rattle.sched_model.specs.declared.machine.Machine.{Machine}
use Rattle.sched_model.specs.declared.state.State.{State}
use Rattle.sched_model.specs.Commands.{is_same_kind}
use Rattle.sched_model.specs.Machine.{after}
use Rattle.sched_model.specs.Places.{change_at}
use Rattle.journal_core.specs.Parts.{Outline, UnderWay, core_to, domain_to, state_under_way}
use Rattle.cpupool.specs.Tool.{Tool, tool_of}
use Rattle.cpupool.specs.Verdicts.{outlined_core_home, outlined_domain_home}
use Rattle.cpupool.specs.ToolArrival.{EndsTheMove, action_of, after_arrival, but_for_free, handed_over, pools_after, outlined_size, with_core, outline_with_domain, outline_without_domain}
use Rattle.cpupool.proofs.ArrivedLemmas.{arrived-seen}
use Rattle.machine_parts.specs.Counts.{KeepsCounts, in_use_of}

-- a change that keeps the scheduler of each pool keeps how many pools of a scheduler there are
in_use-changed : (kind : SchedKind) (i : ℕ) (f : Outline → Outline) (places : List (Option Outline)) → ((o : Outline) → (f o).kind ≡ o.kind) → in_use_of kind (change_at i f places) ≡ in_use_of kind places
in_use-changed kind i f [] keeps = refl
in_use-changed kind zero f (None ∷ places) keeps = refl
in_use-changed kind zero f (Some o ∷ places) keeps = ap (λ (k : SchedKind). cond (is_same_kind kind k) (suc (in_use_of kind places)) (in_use_of kind places)) (keeps o)
in_use-changed kind (suc i) f (None ∷ places) keeps = in_use-changed kind i f places keeps
in_use-changed kind (suc i) f (Some o ∷ places) keeps = ap (λ (n : ℕ). cond (is_same_kind kind o.kind) (suc n) n) (in_use-changed kind i f places keeps)

-- and so does what arrives
in_use-arrived : (kind : SchedKind) (way : UnderWay) (pools : List (Option Outline)) → in_use_of kind (pools_after pools way) ≡ in_use_of kind pools
in_use-arrived kind (core_to r None) pools = elim (outlined_core_home pools r) as (λ o. in_use_of kind (elim o as (λ _. List (Option Outline)) [ None ↦ pools | Some i ↦ change_at i (with_core r false) pools ]) ≡ in_use_of kind pools) [
  | None ↦ refl
  | Some i ↦ in_use-changed kind i (with_core r false) pools (λ o. refl)
]
in_use-arrived kind (core_to r (Some i)) pools = in_use-changed kind i (with_core r true) pools (λ o. refl)
in_use-arrived kind (domain_to d j) pools = elim (outlined_domain_home pools d) as (λ o. in_use_of kind (elim o as (λ _. List (Option Outline)) [ None ↦ pools | Some i ↦ handed_over d i j pools ]) ≡ in_use_of kind pools) [
  | None ↦ refl
  | Some i ↦ elim (outlined_size pools i d) as (λ o. in_use_of kind (elim o as (λ _. List (Option Outline)) [ None ↦ pools | Some vcpus ↦ change_at j (outline_with_domain d vcpus) (change_at i (outline_without_domain d) pools) ]) ≡ in_use_of kind pools) [
    | None ↦ refl
    | Some vcpus ↦ in_use-changed kind j (outline_with_domain d vcpus) (change_at i (outline_without_domain d) pools) (λ o. refl) ∙ in_use-changed kind i (outline_without_domain d) pools (λ o. refl)
  ]
]

counts-arrived : (tool : Tool) → KeepsCounts tool.part (after_arrival tool).part
counts-arrived tool =
    elim tool.part.under_way as (λ o. KeepsCounts tool.part (elim o as (λ _. Tool) [ None ↦ tool | Some way ↦ record tool { part = record tool.part { pools = pools_after tool.part.pools way; under_way = None } } ]).part) [
      | None ↦ record { in_use = λ kind. refl; commands = refl }
      | Some way ↦ record { in_use = λ kind. in_use-arrived kind way tool.part.pools; commands = refl }
    ]

-- the end of a move keeps the counts of the pools, whatever cores of no pool there are
pub keeps-moved : (m : Machine) (s : State) (t : ℕ) (way : UnderWay) (free : List (Option (List Moment))) (old new : Tool) → state_under_way s ≡ Some way → EndsTheMove m s t (action_of way) → tool_of m s ≡ old
    → new ≡ but_for_free free (tool_of m (after m s t (action_of way))) → KeepsCounts old.part new.part
keeps-moved m s t way free old new is ends known left =
    let tool : Tool = but_for_free free (tool_of m s) in
    let same : new ≡ after_arrival tool = left ∙ sym (arrived-seen m s t way free is ends) in
    let keeps : KeepsCounts tool.part (after_arrival tool).part = counts-arrived tool in
    subst (λ (x : Tool). KeepsCounts x.part new.part) known (subst (λ (x : Tool). KeepsCounts (tool_of m s).part x.part) (sym same) (record { in_use = keeps.in_use; commands = keeps.commands }))
