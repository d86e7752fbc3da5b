-- What a processor does after a change of a core or of a processor.
use Rattle.std.proofs.Common.{◌≡◌, ◌≢◌, ◌+◌, ◌*◌, ◌/◌, ◌%◌, ℕ, List, refl, sym, ap, subst, ◌∙◌}
use Rattle.std.specs.Prelude.{Option, Some, None, option_map, slice_get}
use Rattle.std.proofs.Math.Decide.{ℕ_discrete}
use Rattle.std.proofs.lemmas.Nat.{div-add-mod'}
use Rattle.sched_base.specs.declared.VcpuId.{VcpuId}
use Rattle.sched_model.specs.declared.state.Doing.TheVariants.{Guest, Idle, Held}
use Rattle.sched_model.specs.declared.state.Processor.{Processor}
use Rattle.sched_model.specs.declared.state.Resource.{Resource}
use Rattle.sched_model.specs.Places.{at_place, change_at, change_each}
use Rattle.sched_model.specs.Pool.{with_doing}
use Rattle.sched_model.proofs.PlaceLemmas.{at_place-change_at_other}
use Rattle.sched_laws.proofs.EachPlace.{at_place-change_each, at_place-change_at}
use Rattle.core_state.specs.Seen.{processor_among, with_sibling}
use Rattle.sched_laws.proofs.Lists.{slice_get-change_item, slice_get-change_item_other}

-- what a processor runs
abbrev pub run_by : Option Processor → Option VcpuId
run_by o = elim o [ None ↦ None | Some q ↦ elim q.doing [ Guest v ↦ Some v | Idle ↦ None | Held ↦ None ] ]

sibling_kept : (i : ℕ) (f : Resource → Resource) (o : Option Resource) → ((c : Resource) → o ≡ Some c → (f c).processors ≡ c.processors)
    → elim (option_map f o) as (λ _. Option Processor) [ None ↦ None | Some c ↦ slice_get c.processors i ] ≡ elim o as (λ _. Option Processor) [ None ↦ None | Some c ↦ slice_get c.processors i ]
sibling_kept i f None same = refl
sibling_kept i f (Some c) same = ap (λ ps. slice_get ps i) (same c refl)

-- a change of a core that keeps its processors
pub processor_kept : (g p r : ℕ) (f : Resource → Resource) (cores : List (Option Resource)) → ((c : Resource) → at_place cores r ≡ Some c → (f c).processors ≡ c.processors) → processor_among g (change_at r f cores) p ≡ processor_among g cores p
processor_kept g p r f cores same = elim (ℕ_discrete (p / g) r) [
  | yes e ↦
      let at : at_place (change_at r f cores) (p / g) ≡ option_map f (at_place cores (p / g)) = subst (λ (k : ℕ). at_place (change_at r f cores) k ≡ option_map f (at_place cores k)) (sym e) (at_place-change_at r f cores) in
      ap (λ (o : Option Resource). elim o as (λ _. Option Processor) [ None ↦ None | Some c ↦ slice_get c.processors (p % g) ]) at
      ∙ sibling_kept (p % g) f (at_place cores (p / g)) (λ c is. same c (subst (λ (k : ℕ). at_place cores k ≡ Some c) e is))
  | no other ↦ ap (λ (o : Option Resource). elim o as (λ _. Option Processor) [ None ↦ None | Some c ↦ slice_get c.processors (p % g) ]) (at_place-change_at_other r (p / g) f cores other)
]

-- the same of a change of each core
pub processor_each : (g p : ℕ) (f : ℕ → Resource → Resource) (cores : List (Option Resource)) → ((r : ℕ) (c : Resource) → (f r c).processors ≡ c.processors) → processor_among g (change_each 0 f cores) p ≡ processor_among g cores p
processor_each g p f cores same =
    ap (λ (o : Option Resource). elim o as (λ _. Option Processor) [ None ↦ None | Some c ↦ slice_get c.processors (p % g) ]) (at_place-change_each 0 (p / g) f cores)
    ∙ sibling_kept (p % g) (f (0 + p / g)) (at_place cores (p / g)) (λ c is. same (0 + p / g) c)

-- a processor changed
pub processor_changed : (g p : ℕ) (f : Processor → Processor) (cores : List (Option Resource)) → processor_among g (change_at (p / g) (with_sibling (p % g) f) cores) p ≡ option_map f (processor_among g cores p)
processor_changed g p f cores =
    ap (λ (o : Option Resource). elim o as (λ _. Option Processor) [ None ↦ None | Some c ↦ slice_get c.processors (p % g) ]) (at_place-change_at (p / g) (with_sibling (p % g) f) cores)
    ∙ by_core (at_place cores (p / g))
  where
    by_core : (o : Option Resource) → elim (option_map (with_sibling (p % g) f) o) as (λ _. Option Processor) [ None ↦ None | Some c ↦ slice_get c.processors (p % g) ] ≡ option_map f (elim o as (λ _. Option Processor) [ None ↦ None | Some c ↦ slice_get c.processors (p % g) ])
    by_core None = refl
    by_core (Some c) = slice_get-change_item (p % g) f c.processors

pub same_number : (g p q : ℕ) → p / g ≡ q / g → p % g ≡ q % g → p ≡ q
same_number g p q core place = sym (div-add-mod' p g) ∙ ap (λ (k : ℕ). k * g + p % g) core ∙ ap (λ (k : ℕ). q / g * g + k) place ∙ div-add-mod' q g

-- another processor
pub processor_other : (g p q : ℕ) (f : Processor → Processor) (cores : List (Option Resource)) → q ≢ p → processor_among g (change_at (p / g) (with_sibling (p % g) f) cores) q ≡ processor_among g cores q
processor_other g p q f cores other = elim (ℕ_discrete (q / g) (p / g)) [
  | yes core ↦
      let at : at_place (change_at (p / g) (with_sibling (p % g) f) cores) (q / g) ≡ option_map (with_sibling (p % g) f) (at_place cores (q / g)) =
      subst (λ (k : ℕ). at_place (change_at (p / g) (with_sibling (p % g) f) cores) k ≡ option_map (with_sibling (p % g) f) (at_place cores k)) (sym core) (at_place-change_at (p / g) (with_sibling (p % g) f) cores) in
      ap (λ (o : Option Resource). elim o as (λ _. Option Processor) [ None ↦ None | Some c ↦ slice_get c.processors (q % g) ]) at ∙ by_core (at_place cores (q / g)) (λ e. other (same_number g q p core e))
  | no apart ↦ ap (λ (o : Option Resource). elim o as (λ _. Option Processor) [ None ↦ None | Some c ↦ slice_get c.processors (q % g) ]) (at_place-change_at_other (p / g) (q / g) (with_sibling (p % g) f) cores apart)
]
  where
    by_core : (o : Option Resource) → q % g ≢ p % g → elim (option_map (with_sibling (p % g) f) o) as (λ _. Option Processor) [ None ↦ None | Some c ↦ slice_get c.processors (q % g) ] ≡ elim o as (λ _. Option Processor) [ None ↦ None | Some c ↦ slice_get c.processors (q % g) ]
    by_core None apart = refl
    by_core (Some c) apart = slice_get-change_item_other (p % g) (q % g) f c.processors (λ e. apart (sym e))

-- a processor that runs nothing
pub idle_runs_none : (o : Option Processor) → run_by (option_map (with_doing Idle) o) ≡ None
idle_runs_none None = refl
idle_runs_none (Some q) = refl

pub held_runs_none : (o : Option Processor) → run_by (option_map (with_doing Held) o) ≡ None
held_runs_none None = refl
held_runs_none (Some q) = refl
