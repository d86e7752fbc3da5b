-- What the tool finds by what it knows is what the definitions find in the state.
use Rattle.sched_base.specs.Numbers.{domain as domain_number, pool as pool_number}
use Rattle.std.proofs.Common.{◌≡◌, ℕ, zero, suc, Bool, true, false, List, [], ◌∷◌, length, map, refl, ◌∙◌, ap, nat_lt}
use Rattle.std.specs.Prelude.{Option, Some, None, is_some, option_map, replicate, slice_index_or, bytes_eq, cond}
use Rattle.sched_base.specs.declared.PoolId.{PoolId}
use Rattle.sched_model.specs.declared.config.DomConfig.{DomConfig}
use Rattle.sched_model.specs.declared.command.Command.{Command}
use Rattle.sched_model.specs.declared.command.Command.TheVariants as command
use Rattle.sched_model.specs.declared.command.Which.{Which}
use Rattle.sched_model.specs.declared.command.Which.TheVariants.{Name, Number}
use Rattle.sched_model.specs.declared.facts.Subject.{Subject}
use Rattle.sched_model.specs.declared.machine.Machine.{Machine}
use Rattle.sched_model.specs.declared.state.State.{State}
use Rattle.sched_model.specs.declared.state.Pool.{Pool}
use Rattle.sched_model.specs.Places.{at_place, first_place}
use Rattle.sched_model.specs.Actions as actions
use Rattle.sched_model.specs.Commands.{meant_pool, meant_domain, named_domain_number}
use Rattle.sched_model.proofs.PlaceLemmas.{is_some-option_map, at_place-map}
use Rattle.journal_core.specs.Parts.{pool_outline}
use Rattle.cpupool.specs.Tool.{tool_of, domain_entry, number_of_pool}
use Rattle.cpupool.specs.Facts.{subject_of, subject_of_pool, subject_of_domain}
use Rattle.cpupool.specs.Verdicts.{seen_pool, seen_domain, command_subject, seen_pool_subject, seen_domain_subject, entry_named, has_outlined_core, outlined_core_home, outlined_domain_home}

-- a pool is told by its number
pub pool_told : (i : Option PoolId) (n : Option ℕ) → option_map number_of_pool i ≡ n → i ≡ option_map pool_number n
pool_told None n is = ap (option_map pool_number) is
pool_told (Some i) n is = ap (option_map pool_number) is

-- the first place that passes, each place changed
pub first_place-map : {X Y : Type 0} (f : X → Y) (test : Y → Bool) (n : ℕ) (places : List (Option X)) → first_place n test (map (option_map f) places) ≡ first_place n (λ x. test (f x)) places
first_place-map f test n [] = refl
first_place-map f test n (None ∷ places) = first_place-map f test (suc n) places
first_place-map f test n (Some x ∷ places) = elim (test (f x)) as (λ b. (elim b [ true ↦ Some n | false ↦ first_place (suc n) test (map (option_map f) places) ]) ≡ (elim b [ true ↦ Some n | false ↦ first_place (suc n) (λ y. test (f y)) places ])) [
  | true ↦ refl
  | false ↦ first_place-map f test (suc n) places
]

-- two tests that agree find the same place
pub first_place-same : {X : Type 0} (p q : X → Bool) (n : ℕ) (places : List (Option X)) → ((x : X) → p x ≡ q x) → first_place n p places ≡ first_place n q places
first_place-same p q n [] same = refl
first_place-same p q n (None ∷ places) same = first_place-same p q (suc n) places same
first_place-same p q n (Some x ∷ places) same =
    let by_p : Bool → Option ℕ = λ b. elim b [ true ↦ Some n | false ↦ first_place (suc n) p places ] in
    let by_q : Bool → Option ℕ = λ b. elim b [ true ↦ Some n | false ↦ first_place (suc n) q places ] in
    ap by_p (same x) ∙ elim (q x) as (λ b. by_p b ≡ by_q b) [ true ↦ refl | false ↦ first_place-same p q (suc n) places same ]

-- whether something stands at a place
pub flag-there : {X : Type 0} (places : List (Option X)) (n : ℕ) → slice_index_or (map is_some places) n false ≡ is_some (at_place places n)
flag-there [] n = refl
flag-there (x ∷ places) zero = refl
flag-there (x ∷ places) (suc n) = flag-there places n

pub there-map : {X Y : Type 0} (f : X → Y) (places : List (Option X)) (n : ℕ) → is_some (at_place (map (option_map f) places) n) ≡ is_some (at_place places n)
there-map f places n = ap is_some (at_place-map f places n) ∙ is_some-option_map f (at_place places n)

-- the domain with a name
pub domain_named-seen : (d : ℕ) (name : List ℕ) (domains : List DomConfig) → entry_named d name (map domain_entry domains) ≡ named_domain_number d name domains
domain_named-seen d name [] = refl
domain_named-seen d name (domain ∷ domains) = elim (bytes_eq name domain.name) as (λ b. (elim b [ true ↦ Some d | false ↦ entry_named (suc d) name (map domain_entry domains) ]) ≡ (elim b [ true ↦ Some d | false ↦ named_domain_number (suc d) name domains ])) [
  | true ↦ refl
  | false ↦ domain_named-seen (suc d) name domains
]

-- a constant in place of what is there
pub option_map-const : {X Y Z : Type 0} (f : X → Y) (z : Z) (x : Option X) → option_map (λ y. z) (option_map f x) ≡ option_map (λ y. z) x
option_map-const f z None = refl
option_map-const f z (Some x) = refl

-- the pool that a command names
pub pool-seen : (m : Machine) (s : State) (which : Which) → seen_pool (tool_of m s) which ≡ meant_pool s which
pool-seen m s (Name name) = refl
pool-seen m s (Number i) = ap (option_map (λ o. i)) (at_place-map pool_outline s.pools i) ∙ option_map-const pool_outline i (at_place s.pools i)

-- how many domains there are
pub length-map : {X Y : Type 0} (f : X → Y) (xs : List X) → length (map f xs) ≡ length xs
length-map f [] = refl
length-map f (x ∷ xs) = ap suc (length-map f xs)

-- nothing changed is nothing
pub map_none : {X Y : Type 0} (f : X → Y) (n : ℕ) → map (option_map f) (replicate n None) ≡ replicate n None
map_none f zero = refl
map_none f (suc n) = ap (λ xs. None ∷ xs) (map_none f n)

-- the domain that a command names
pub domain-seen : (m : Machine) (s : State) (which : Which) → seen_domain (tool_of m s) which ≡ meant_domain m which
domain-seen m s (Name name) = domain_named-seen 0 name m.config.domains
domain-seen m s (Number d) = ap (λ n. cond (nat_lt d n) (Some d) None) (length-map domain_entry m.config.domains)

-- the home of a core
pub core_home-seen : (m : Machine) (s : State) (r : ℕ) → outlined_core_home (tool_of m s).part.pools r ≡ actions.home_pool_of_core s r
core_home-seen m s r =
    first_place-map pool_outline (λ o. has_outlined_core o r) 0 s.pools
    ∙ first_place-same (λ (pool : Pool). has_outlined_core (pool_outline pool) r) (λ (pool : Pool). is_some (at_place pool.resources r)) 0 s.pools (λ pool. flag-there pool.resources r)

-- the home of a domain
pub domain_home-seen : (m : Machine) (s : State) (d : ℕ) → outlined_domain_home (tool_of m s).part.pools d ≡ actions.home_pool_of_domain s d
domain_home-seen m s d =
    first_place-map pool_outline (λ o. is_some (at_place o.domains d)) 0 s.pools
    ∙ first_place-same (λ (pool : Pool). is_some (at_place (pool_outline pool).domains d)) (λ (pool : Pool). is_some (at_place pool.domains d)) 0 s.pools (λ pool. there-map _ pool.domains d)

pub pool_subject-seen : (m : Machine) (s : State) (which : Which) → seen_pool_subject (tool_of m s) which ≡ subject_of_pool s which
pool_subject-seen m s which = ap (λ i. record { pool = option_map pool_number i; dom = None }) (pool-seen m s which)

pub domain_subject-seen : (m : Machine) (s : State) (which : Which) (seen otherwise : Subject) → seen ≡ otherwise → seen_domain_subject (tool_of m s) which seen ≡ subject_of_domain m s which otherwise
domain_subject-seen m s which seen otherwise same =
    let found : Option ℕ → Subject = λ o. elim o [ None ↦ seen | Some d ↦ record { pool = option_map pool_number (outlined_domain_home (tool_of m s).part.pools d); dom = Some (domain_number d) } ] in
    ap found (domain-seen m s which)
    ∙ elim (meant_domain m which) as (λ o. found o ≡ (elim o [ None ↦ otherwise | Some d ↦ record { pool = option_map pool_number (actions.home_pool_of_domain s d); dom = Some (domain_number d) } ])) [
      | None ↦ same
      | Some d ↦ ap (λ (home : Option ℕ). record { pool = option_map pool_number home; dom = Some (domain_number d) }) (domain_home-seen m s d)
    ]

-- the subject of a command
pub subject_seen : (m : Machine) (s : State) (c : Command) → command_subject (tool_of m s) c ≡ subject_of m s c
subject_seen m s (command.PoolList None) = refl
subject_seen m s (command.PoolList (Some which)) = pool_subject-seen m s which
subject_seen m s (command.PoolCreate name kind) = refl
subject_seen m s (command.PoolDestroy which) = pool_subject-seen m s which
subject_seen m s (command.PoolRename which name) = pool_subject-seen m s which
subject_seen m s (command.CpuAdd which cpu) = pool_subject-seen m s which
subject_seen m s (command.CpuRemove which cpu) = pool_subject-seen m s which
subject_seen m s (command.Migrate which target) = domain_subject-seen m s which _ _ (pool_subject-seen m s target)
subject_seen m s (command.Credit2Dom which weight cap) = domain_subject-seen m s which _ _ refl
subject_seen m s (command.Credit2Pool which limit) = pool_subject-seen m s which
subject_seen m s (command.RtdsDom which vcpu period budget extra) = domain_subject-seen m s which _ _ refl
subject_seen m s (command.Pause which) = domain_subject-seen m s which _ _ refl
subject_seen m s (command.Unpause which) = domain_subject-seen m s which _ _ refl
subject_seen m s (command.ArincSet which major entries) = pool_subject-seen m s which
subject_seen m s (command.Pin which vcpu cpus) = domain_subject-seen m s which _ _ refl
