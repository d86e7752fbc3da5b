-- What the tool counts is what the definitions count.
use Rattle.std.proofs.Common.{◌≡◌, ◌+◌, ◌^◌, ℕ, suc, Bool, true, false, List, [], ◌∷◌, Option, Some, None, length, map, refl, ap, arith}
use Rattle.std.specs.Prelude.{is_some, option_map, count_by, cond, if◌then◌else◌}
use Rattle.std.proofs.lemmas.List.Sums.{sum_by-cons}
use Rattle.sched_model.specs.declared.state.Domain.{Domain}
use Rattle.sched_model.specs.declared.state.Pool.{Pool}
use Rattle.sched_model.specs.declared.state.Resource.{Resource}
use Rattle.sched_model.specs.Places.{numbered_items, first_empty}
use Rattle.sched_model.specs.Pool.{cores_from}
use Rattle.sched_model.specs.Commands.{cores_in, domains_in, last_core_fault}
use Rattle.journal_core.specs.Parts.{pool_outline}
use Rattle.cpupool.specs.Verdicts.{outlined_core_count, outlined_domain_count, flags_from, last_core_refusal}
use Rattle.cpupool.proofs.SubjectLemmas.{first_place-map}

-- one more is counted first
pub count-cons : {X : Type 0} (p : X → Bool) (x : X) (xs : List X) → count_by p (x ∷ xs) ≡ cond (p x) 1 0 + count_by p xs
count-cons p x xs = sum_by-cons (λ y. cond (p y) 1 0) x xs

-- the same of the list that says which are there
pub flags-count : {X : Type 0} (n : ℕ) (places : List (Option X)) → count_by (λ b. b) (map is_some places) ≡ length (numbered_items n places)
flags-count n [] = refl
flags-count n (None ∷ places) =
    let first = count-cons (λ (b : Bool). b) false (map is_some places) in
    let rest = flags-count (suc n) places in
    grind arith
flags-count n (Some x ∷ places) =
    let first = count-cons (λ (b : Bool). b) true (map is_some places) in
    let rest = flags-count (suc n) places in
    grind arith

-- the same of places that are changed
pub places-count : {X Y : Type 0} (f : X → Y) (n : ℕ) (places : List (Option X)) → count_by is_some (map (option_map f) places) ≡ length (numbered_items n places)
places-count f n [] = refl
places-count f n (None ∷ places) =
    let first = count-cons is_some None (map (option_map f) places) in
    let rest = places-count f (suc n) places in
    grind arith
places-count f n (Some x ∷ places) =
    let first = count-cons is_some (Some (f x)) (map (option_map f) places) in
    let rest = places-count f (suc n) places in
    grind arith

pub cores-seen : (pool : Pool) → outlined_core_count (pool_outline pool) ≡ cores_in pool
cores-seen pool = flags-count 0 pool.resources

pub domains-seen : (pool : Pool) → outlined_domain_count (pool_outline pool) ≡ domains_in pool
domains-seen pool = places-count _ 0 pool.domains

-- the first empty place, each place changed
pub first_empty-map : {X Y : Type 0} (f : X → Y) (n : ℕ) (places : List (Option X)) → first_empty n (map (option_map f) places) ≡ first_empty n places
first_empty-map f n [] = refl
first_empty-map f n (None ∷ places) = refl
first_empty-map f n (Some x ∷ places) = first_empty-map f (suc n) places

-- the set of a pool's cores
pub cores-set : (r : ℕ) (cores : List (Option Resource)) → flags_from r (map is_some cores) ≡ cores_from r cores
cores-set r [] = refl
cores-set r (c ∷ cores) = ap (λ n. (if is_some c then 2 ^ r else 0) + n) (cores-set (suc r) cores)

-- the refusal of a pool's last core
pub last_core-seen : (i : ℕ) (pool : Pool) → last_core_refusal i (pool_outline pool) ≡ last_core_fault i pool
last_core-seen i pool =
    let cores = cores-seen pool in
    let first = first_place-map (λ (d : Domain). length d.vcpus) (λ vcpus. true) 0 pool.domains in
    rw (cores, first) refl
