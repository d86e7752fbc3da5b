-- What follows for a pool or a domain by what the tool knows is what follows by the definitions.
use Rattle.std.proofs.Common.{◌≡◌, ℕ, Option, Some, None, Result, Err, length, map, refl, ◌∙◌, ap}
use Rattle.std.specs.Prelude.{option_map}
use Rattle.sched_model.specs.declared.command.Which.{Which}
use Rattle.sched_model.specs.declared.event.Refusal.{Refusal}
use Rattle.sched_model.specs.declared.event.Refusal.TheVariants as refusal
use Rattle.sched_model.specs.declared.machine.Machine.{Machine}
use Rattle.sched_model.specs.declared.plan.Plan.{Plan}
use Rattle.sched_model.specs.declared.state.Domain.{Domain}
use Rattle.sched_model.specs.declared.state.Pool.{Pool}
use Rattle.sched_model.specs.declared.state.State.{State}
use Rattle.sched_model.specs.Actions as actions
use Rattle.sched_model.specs.Places.{at_place}
use Rattle.sched_model.specs.Commands.{meant_pool, meant_domain, with_pool, answer_for_domain}
use Rattle.sched_model.proofs.PlaceLemmas.{at_place-map}
use Rattle.journal_core.specs.Parts.{Outline, pool_outline}
use Rattle.cpupool.specs.Tool.{tool_of}
use Rattle.cpupool.specs.Verdicts.{SeenPool, SeenDomain, with_outline, with_size, outlined_domain_home}
use Rattle.cpupool.proofs.SubjectLemmas.{pool-seen, domain-seen, domain_home-seen}

module _ (m : Machine) (s : State) where
  -- the pool that is named
  pub named_outline : (which : Which) (next : ℕ → Outline → Result Plan Refusal) (follows : ℕ → Pool → Result Plan Refusal)
      → ((i : ℕ) (pool : Pool) → meant_pool s which ≡ Some i → at_place s.pools i ≡ Some pool → next i (pool_outline pool) ≡ follows i pool)
      → with_outline (tool_of m s) which next ≡ with_pool s which follows
  named_outline which next follows same =
      let answer : Option SeenPool → Result Plan Refusal = λ o. elim o [ None ↦ Err refusal.NoPool | Some x ↦ next x.i x.pool ] in
      let seen_there : ℕ → Option Outline → Option SeenPool = λ i o. option_map (λ pool. record { i = i; pool = pool }) o in
      let seen : Option ℕ → Option SeenPool = λ o. elim o [ None ↦ None | Some i ↦ seen_there i (at_place (map (option_map pool_outline) s.pools) i) ] in
      let there : ℕ → Option Pool → Result Plan Refusal = λ i o. elim o [ None ↦ Err refusal.NoPool | Some pool ↦ follows i pool ] in
      let found : Option ℕ → Result Plan Refusal = λ o. elim o [ None ↦ Err refusal.NoPool | Some i ↦ there i (at_place s.pools i) ] in
      ap (λ o. answer (seen o)) (pool-seen m s which)
      ∙ elim (meant_pool s which) as (λ o. meant_pool s which ≡ o → answer (seen o) ≡ found o) [
        | None ↦ λ is. refl
        | Some i ↦ λ is.
            ap (λ o. answer (seen_there i o)) (at_place-map pool_outline s.pools i)
            ∙ elim (at_place s.pools i) as (λ o. at_place s.pools i ≡ o → answer (seen_there i (option_map pool_outline o)) ≡ there i o) [
              | None ↦ λ at. refl
              | Some pool ↦ λ at. same i pool is at
            ] refl
      ] refl

  -- the domain that is named
  pub named_size : (which : Which) (next : ℕ → ℕ → Outline → ℕ → Result Plan Refusal) (follows : ℕ → ℕ → Pool → Domain → Result Plan Refusal)
      → ((d i : ℕ) (pool : Pool) (domain : Domain) → meant_domain m which ≡ Some d → actions.home_pool_of_domain s d ≡ Some i → at_place s.pools i ≡ Some pool → at_place pool.domains d ≡ Some domain
      → next d i (pool_outline pool) (length domain.vcpus) ≡ follows d i pool domain)
      → with_size (tool_of m s) which next ≡ answer_for_domain m s which follows
  named_size which next follows same =
      let answer : Option SeenDomain → Result Plan Refusal = λ o. elim o [ None ↦ Err refusal.NoDomain | Some x ↦ next x.d x.i x.pool x.vcpus ] in
      let sized : ℕ → ℕ → Outline → Option ℕ → Option SeenDomain = λ d i pool o. option_map (λ vcpus. record { d = d; i = i; pool = pool; vcpus = vcpus }) o in
      let placed : ℕ → ℕ → Option Outline → Option SeenDomain = λ d i o. elim o [ None ↦ None | Some pool ↦ sized d i pool (at_place pool.domains d) ] in
      let homed : ℕ → Option ℕ → Option SeenDomain = λ d o. elim o [ None ↦ None | Some i ↦ placed d i (at_place (map (option_map pool_outline) s.pools) i) ] in
      let seen : Option ℕ → Option SeenDomain = λ o. elim o [ None ↦ None | Some d ↦ homed d (outlined_domain_home (tool_of m s).part.pools d) ] in
      let there : ℕ → ℕ → Pool → Option Domain → Result Plan Refusal = λ d i pool o. elim o [ None ↦ Err refusal.NoDomain | Some domain ↦ follows d i pool domain ] in
      let at_home : ℕ → ℕ → Option Pool → Result Plan Refusal = λ d i o. elim o [ None ↦ Err refusal.NoDomain | Some pool ↦ there d i pool (at_place pool.domains d) ] in
      let home : ℕ → Option ℕ → Result Plan Refusal = λ d o. elim o [ None ↦ Err refusal.NoDomain | Some i ↦ at_home d i (at_place s.pools i) ] in
      let found : Option ℕ → Result Plan Refusal = λ o. elim o [ None ↦ Err refusal.NoDomain | Some d ↦ home d (actions.home_pool_of_domain s d) ] in
      ap (λ o. answer (seen o)) (domain-seen m s which)
      ∙ elim (meant_domain m which) as (λ o. meant_domain m which ≡ o → answer (seen o) ≡ found o) [
        | None ↦ λ is. refl
        | Some d ↦ λ is.
            ap (λ o. answer (homed d o)) (domain_home-seen m s d)
            ∙ elim (actions.home_pool_of_domain s d) as (λ o. actions.home_pool_of_domain s d ≡ o → answer (homed d o) ≡ home d o) [
              | None ↦ λ lives. refl
              | Some i ↦ λ lives.
                  ap (λ o. answer (placed d i o)) (at_place-map pool_outline s.pools i)
                  ∙ elim (at_place s.pools i) as (λ o. at_place s.pools i ≡ o → answer (placed d i (option_map pool_outline o)) ≡ at_home d i o) [
                    | None ↦ λ at. refl
                    | Some pool ↦ λ at.
                        ap (λ o. answer (sized d i (pool_outline pool) o)) (at_place-map (λ (x : Domain). length x.vcpus) pool.domains d)
                        ∙ elim (at_place pool.domains d) as (λ o. at_place pool.domains d ≡ o → answer (sized d i (pool_outline pool) (option_map (λ (x : Domain). length x.vcpus) o)) ≡ there d i pool o) [
                          | None ↦ λ inside. refl
                          | Some domain ↦ λ inside. same d i pool domain is lives at inside
                        ] refl
                  ] refl
            ] refl
      ] refl
