-- A unit that never sleeps is runnable, and a pool of one core has that core alone.
use Rattle.std.proofs.Common.{◌≡◌, ◌≤◌, ◌<◌, ◌+◌, ◌*◌, ◌/◌, ◌%◌, ℕ, zero, suc, Bool, true, false, not, List, [], ◌∷◌, refl, arith, subst, sym, ap, ◌∙◌, take, drop}
use Rattle.std.specs.Prelude.{Option, Some, None, is_some, is_none, slice_get, option_map, ◌^◌, ◌&&◌, ◌||◌}
use Rattle.std.specs.List.{list_any}
use Rattle.std.proofs.lemmas.Bool.{and_from}
use Rattle.std.proofs.lemmas.Nat.{div-add-mod'}
use Rattle.std.proofs.lemmas.Option.{slice_get-map}
use Rattle.sched_base.specs.declared.Span.{Span}
use Rattle.sched_base.specs.declared.UnitId.{UnitId}
use Rattle.sched_base.proofs.Lists.{each_get}
use Rattle.sched_model.specs.declared.config.DomConfig.{DomConfig}
use Rattle.sched_model.specs.declared.config.PoolConfig.{PoolConfig}
use Rattle.sched_model.specs.declared.machine.Machine.{Machine}
use Rattle.sched_model.specs.declared.state.Domain.{Domain}
use Rattle.sched_model.specs.declared.state.Pool.{Pool}
use Rattle.sched_model.specs.declared.state.Resource.{Resource}
use Rattle.sched_model.specs.declared.state.Vcpu.{Vcpu}
use Rattle.sched_model.specs.CheckedMachine.{IsChecked}
use Rattle.sched_model.specs.Opening.{joined_core}
use Rattle.sched_model.specs.Places.{at_place}
use Rattle.sched_model.specs.Pool.{cores_from}
use Rattle.sched_model.specs.State.{has_core_bit, is_awake, may_unit_run, unit_runnable, vcpus_of_unit}
use Rattle.sched_laws.proofs.HomeCores.{home_has}
use Rattle.sched_laws.proofs.Lists.{some_is, test_at-some}
use Rattle.sched_laws.proofs.SiblingsLaw.{some_processor}
use Rattle.undisturbed_laws.specs.Undisturbed.{DomainStays, HasHome, NeverSleeps, PoolStays, RunsForEver}

or_right_true : (a b : Bool) → b ≡ true → (a || b) ≡ true
or_right_true true b is = refl
or_right_true false b is = is

or_left_true : (a b : Bool) → a ≡ true → (a || b) ≡ true
or_left_true true b is = refl
or_left_true false b is = absurd (cc)

-- a part of a list that has something that passes
part_has : {X : Type 0} (test : X → Bool) (a b i : ℕ) (xs : List X) (x : X) → slice_get xs i ≡ Some x → test x ≡ true → b ≤ i → i < b + a → list_any test (take a (drop b xs)) ≡ true
part_has test a b i [] x at passes low high = absurd (cc)
part_has test zero zero i (y ∷ xs) x at passes low high = absurd (omega (arith, high))
part_has test (suc a) zero zero (y ∷ xs) x at passes low high = (let e : y ≡ x = cc in or_left_true (test y) (list_any test (take a xs)) (subst (λ z. test z ≡ true) (sym e) passes))
part_has test (suc a) zero (suc i) (y ∷ xs) x at passes low high = or_right_true (test y) (list_any test (take a xs)) (part_has test a zero i xs x at passes (omega arith) (omega (arith, high)))
part_has test a (suc b) zero (y ∷ xs) x at passes low high = absurd (omega (arith, low))
part_has test a (suc b) (suc i) (y ∷ xs) x at passes low high = part_has test a b i xs x at passes (omega (arith, low)) (omega (arith, high))

-- where a vCPU of a unit is
pub place_low : (g k n : ℕ) → k / g ≡ n → n * g ≤ k
place_low g k n is = (let e = div-add-mod' k g in let f : k / g * g ≡ n * g = ap (λ q. q * g) is in omega (arith, e, f))

pub place_high : (g k n : ℕ) → 0 < g → k / g ≡ n → k < n * g + g
place_high g k n some is = (let e = div-add-mod' k g in let f : k / g * g ≡ n * g = ap (λ q. q * g) is in let low : k % g < g = rest g k some in omega (arith, e, f, low))
  where
    rest : (g k : ℕ) → 0 < g → k % g < g
    rest g k some = omega (arith, some)

-- the vCPU with the script of that place
mapped_is : {X Y : Type 0} (f : X → Y) (o : Option X) (y : Y) → option_map f o ≡ Some y → (x : X) × (o ≡ Some x) × (f x ≡ y)
mapped_is f None y is = absurd (cc)
mapped_is f (Some x) y is = (x, refl, cc)

pub never_sleeps : (m : Machine) → IsChecked m → (i : ℕ) (pool_config : PoolConfig) (pool : Pool) → PoolStays m i pool_config pool → (u : UnitId) → NeverSleeps m u → (config : DomConfig) → HasHome m i u.dom.0 config → may_unit_run m.config.granularity pool u ≡ true
never_sleeps m checked i pool_config pool stays u never config home =
    let g : ℕ = m.config.granularity in
    let some : 0 < g = some_processor g checked.config.granularity in
    let own = stays.domains.own u.dom.0 config home in
    let x : Domain = own.item in
    let domain : DomainStays config x = own.meets in
    let there = never.there in
    let there2 = home.there in
    let same : never.config ≡ config = cc in
    let script : slice_get config.guests never.n ≡ Some [] = subst (λ (c : DomConfig). slice_get c.guests never.n ≡ Some []) same never.script in
    let seen : option_map (λ (y : Vcpu). y.script) (slice_get x.vcpus never.n) ≡ Some [] = sym (slice_get-map (λ (y : Vcpu). y.script) x.vcpus never.n) ∙ ap (λ (l : List (List Span)). slice_get l never.n) domain.scripts ∙ script in
    let y = mapped_is (λ (z : Vcpu). z.script) (slice_get x.vcpus never.n) [] seen in
    let forever : RunsForEver y.0 = each_get (λ (z : Vcpu). z.script ≡ [] → RunsForEver z) x.vcpus never.n y.0 domain.endless y.1 y.2 in
    let awake : is_awake y.0 ≡ true = ap is_none forever.awake in
    let any : list_any is_awake (vcpus_of_unit g x u.n) ≡ true = part_has is_awake g (u.n * g) never.n x.vcpus y.0 y.1 awake (place_low g never.n u.n never.place) (place_high g never.n u.n some never.place) in
    test_at-some pool.domains u.dom.0 (λ d. unit_runnable g d u.n) x own.at
    (and_from (not x.paused && is_none x.moving) (list_any is_awake (vcpus_of_unit g x u.n)) (and_from (not x.paused) (is_none x.moving) (ap not domain.runs) (ap is_none domain.stays)) any)

-- one core stands at the place r
one_at : ℕ → List (Option Resource)
one_at zero = Some (joined_core []) ∷ []
one_at (suc r) = None ∷ one_at r

one_sum : (k r : ℕ) → cores_from k (one_at r) ≡ 2 ^ (k + r)
unfolding one_at
one_sum k zero = (let e : k ≡ k + 0 = omega arith in let p : 2 ^ k ≡ 2 ^ (k + 0) = ap (λ n. 2 ^ n) e in omega (arith, p))
one_sum k (suc r) = (let e : suc k + r ≡ k + suc r = omega arith in let p : 2 ^ (suc k + r) ≡ 2 ^ (k + suc r) = ap (λ n. 2 ^ n) e in let rest = one_sum (suc k) r in omega (arith, p, rest))

one_only : (r q : ℕ) → is_some (at_place (one_at r) q) ≡ true → q ≡ r
unfolding one_at
one_only zero zero is = refl
one_only zero (suc q) is = absurd (none_past q is)
  where
    none_past : (q : ℕ) → is_some (at_place {X = Resource} [] q) ≡ true → ⊥
    none_past zero is = cc
    none_past (suc q) is = cc
one_only (suc r) zero is = absurd (cc)
one_only (suc r) (suc q) is = ap suc (one_only r q is)

one_there : (r : ℕ) → is_some (at_place (one_at r) r) ≡ true
unfolding one_at
one_there zero = refl
one_there (suc r) = one_there r

one_bit : (r q : ℕ) → has_core_bit (2 ^ r) q ≡ is_some (at_place (one_at r) q)
one_bit r q = (let e : 2 ^ r ≡ 2 ^ (0 + r) = ap (λ n. 2 ^ n) (zero_plus r) in ap (λ n. has_core_bit n q) (e ∙ sym (one_sum 0 r)) ∙ home_has (one_at r) q)
  where
    zero_plus : (r : ℕ) → r ≡ 0 + r
    zero_plus r = omega arith

-- a pool with the core r alone
pub only_core : (m : Machine) (i r : ℕ) (config : PoolConfig) (pool : Pool) → PoolStays m i config pool → config.cores ≡ 2 ^ r → (q : ℕ) (d : Resource) → at_place pool.resources q ≡ Some d → q ≡ r
only_core m i r config pool stays one q d at =
    one_only r q (sym (one_bit r q) ∙ ap (λ n. has_core_bit n q) (sym one) ∙ sym (stays.cores q) ∙ ap is_some at)

pub core_there : (m : Machine) (i r : ℕ) (config : PoolConfig) (pool : Pool) → PoolStays m i config pool → config.cores ≡ 2 ^ r → (c : Resource) × (at_place pool.resources r ≡ Some c)
core_there m i r config pool stays one =
    some_is (at_place pool.resources r) (stays.cores r ∙ ap (λ n. has_core_bit n r) one ∙ one_bit r r ∙ one_there r)
