-- The candidates stand in the order of actions, one kind after another.
use Rattle.std.proofs.Common.{◌≡◌, ◌≤◌, ◌<◌, ◌+◌, ◌-◌, ◌/◌, ℕ, zero, suc, List, [], ◌∷◌, ◌++◌, refl, ap, sym, ◌∙◌, arith, length, inl, inr}
use Rattle.std.specs.Prelude.{map}
use Rattle.sched_base.specs.Numbers.{domain, core, processor}
use Rattle.sched_base.specs.declared.UnitId.{UnitId}
use Rattle.sched_base.specs.declared.VcpuId.{VcpuId}
use Rattle.sched_model.specs.declared.action.Action.{Action}
use Rattle.sched_model.specs.declared.action.Action.TheVariants.{Stall, Xl, Moved, DomMoved, Wake, Block, Slice, Repl, Refill, Arrive, Decide, Leave, Save}
use Rattle.sched_model.specs.declared.config.Config.{Config}
use Rattle.sched_model.specs.declared.config.DomConfig.{DomConfig}
use Rattle.sched_model.specs.Places.{numbers_from}
use Rattle.sched_model.specs.Opening.{machine_core_count}
use Rattle.sched_model.specs.Actions.{vcpus_from, units_from, candidates}
use Rattle.pool_laws.specs.Order.{kind_place, subject_place, index_place, IsNotAfter}
use Rattle.pool_laws.proofs.ActionOrder.{later_kind}
use Rattle.composition_laws.proofs.Members.{Has, Has-cases, Has-from_map, numbers-above}
use Rattle.composition_laws.proofs.Sorted.{Sorted, Sorted-append, Sorted-map}

-- the numbers of a stretch rise
numbers_rise : (n count : ℕ) → Sorted (λ (x y : ℕ). x ≤ y) (numbers_from n count)
numbers_rise n zero = tt
numbers_rise n (suc count) = (λ y h. (let low = numbers-above y (suc n) count h in omega (arith, low)), numbers_rise (suc n) count)

-- the vCPUs and the units of all domains, by domain and then by index
record IsVcpuNotAfter (v w : VcpuId) : Type 0 where
  by_domain : v.dom.0 ≤ w.dom.0
  then_by_index : v.dom.0 ≡ w.dom.0 → v.n ≤ w.n

record IsUnitNotAfter (u w : UnitId) : Type 0 where
  by_domain : u.dom.0 ≤ w.dom.0
  then_by_index : u.dom.0 ≡ w.dom.0 → u.n ≤ w.n

module _ (d : ℕ) where
  abbrev pub vcpu_at : ℕ → VcpuId
  vcpu_at n = record { dom = domain d; n = n }

  abbrev pub unit_at : ℕ → UnitId
  unit_at n = record { dom = domain d; n = n }

  vcpus_here : (v : VcpuId) (ns : List ℕ) → Has v (map vcpu_at ns) → v.dom.0 ≡ d
  vcpus_here v ns h = (let r = Has-from_map vcpu_at v ns h in ap (λ (x : VcpuId). x.dom.0) (sym r.2))

  units_here : (u : UnitId) (ns : List ℕ) → Has u (map unit_at ns) → u.dom.0 ≡ d
  units_here u ns h = (let r = Has-from_map unit_at u ns h in ap (λ (x : UnitId). x.dom.0) (sym r.2))

vcpus-above : (d : ℕ) (domains : List DomConfig) (v : VcpuId) → Has v (vcpus_from d domains) → d ≤ v.dom.0
vcpus-above d [] v h = absurd h
vcpus-above d (x ∷ domains) v h = elim (Has-cases v (map (vcpu_at d) (numbers_from 0 (length x.guests))) (vcpus_from (suc d) domains) h) [
  | inl here ↦ (let e = vcpus_here d v (numbers_from 0 (length x.guests)) here in omega (arith, e))
  | inr later ↦ (let r = vcpus-above (suc d) domains v later in omega (arith, r))
]

units-above : (g d : ℕ) (domains : List DomConfig) (u : UnitId) → Has u (units_from g d domains) → d ≤ u.dom.0
units-above g d [] u h = absurd h
units-above g d (x ∷ domains) u h = elim (Has-cases u (map (unit_at d) (numbers_from 0 ((length x.guests + g - 1) / g))) (units_from g (suc d) domains) h) [
  | inl here ↦ (let e = units_here d u (numbers_from 0 ((length x.guests + g - 1) / g)) here in omega (arith, e))
  | inr later ↦ (let r = units-above g (suc d) domains u later in omega (arith, r))
]

vcpus_rise : (d : ℕ) (domains : List DomConfig) → Sorted IsVcpuNotAfter (vcpus_from d domains)
vcpus_rise d [] = tt
vcpus_rise d (x ∷ domains) =
    let ns : List ℕ = numbers_from 0 (length x.guests) in
    Sorted-append IsVcpuNotAfter (map (vcpu_at d) ns) (vcpus_from (suc d) domains)
    (Sorted-map (λ (a b : ℕ). a ≤ b) IsVcpuNotAfter (vcpu_at d) (λ a b le. record { by_domain = omega arith; then_by_index = λ e. le }) ns (numbers_rise 0 (length x.guests)))
    (vcpus_rise (suc d) domains)
    (λ v w h k. (
    let e = vcpus_here d v ns h in
    let r = vcpus-above (suc d) domains w k in
    record { by_domain = omega (arith, e, r); then_by_index = λ f. absurd (omega (arith, e, r, f)) }))

units_rise : (g d : ℕ) (domains : List DomConfig) → Sorted IsUnitNotAfter (units_from g d domains)
units_rise g d [] = tt
units_rise g d (x ∷ domains) =
    let ns : List ℕ = numbers_from 0 ((length x.guests + g - 1) / g) in
    Sorted-append IsUnitNotAfter (map (unit_at d) ns) (units_from g (suc d) domains)
    (Sorted-map (λ (a b : ℕ). a ≤ b) IsUnitNotAfter (unit_at d) (λ a b le. record { by_domain = omega arith; then_by_index = λ e. le }) ns (numbers_rise 0 ((length x.guests + g - 1) / g)))
    (units_rise g (suc d) domains)
    (λ v w h k. (
    let e = units_here d v ns h in
    let r = units-above g (suc d) domains w k in
    record { by_domain = omega (arith, e, r); then_by_index = λ f. absurd (omega (arith, e, r, f)) }))

-- actions in order, of kinds at places below k
record Begun (k : ℕ) (actions : List Action) : Type 0 where
  sorted : Sorted IsNotAfter actions
  kinds : (a : Action) → Has a actions → kind_place a < k

-- actions in order, of the one kind at the place k
record Stretch (k : ℕ) (actions : List Action) : Type 0 where
  sorted : Sorted IsNotAfter actions
  kind : (a : Action) → Has a actions → kind_place a ≡ k

nothing_yet : Begun 0 []
nothing_yet = record { sorted = tt; kinds = λ a h. absurd h }

and_then : (k : ℕ) (before actions : List Action) → Begun k before → Stretch k actions → Begun (suc k) (before ++ actions)
and_then k before actions b s = record {
  sorted = Sorted-append IsNotAfter before actions b.sorted s.sorted (λ x y h j. later_kind x y (let l = b.kinds x h in let e = s.kind y j in omega (arith, l, e)));
  kinds = λ a h. (elim (Has-cases a before actions h) [
    | inl l ↦ (let k = b.kinds a l in omega (arith, k))
    | inr j ↦ (let e = s.kind a j in omega (arith, e))
  ]);
}

-- the actions of one kind, from their subjects
of_each : {X : Type 0} (k : ℕ) (S : X → X → Type 0) (of : X → Action) (subjects : List X) → ((x : X) → kind_place (of x) ≡ k) → ((x y : X) → S x y → IsNotAfter (of x) (of y)) → Sorted S subjects → Stretch k (map of subjects)
of_each k S of subjects kind to s = record {
  sorted = Sorted-map S IsNotAfter of to subjects s;
  kind = λ a h. (let r = Has-from_map of a subjects h in ap kind_place (sym r.2) ∙ kind r.0);
}

of_one : (action : Action) → Stretch (kind_place action) (action ∷ [])
of_one action = record { sorted = (λ y h. absurd h, tt); kind = λ a h. elim h [ inl e ↦ ap kind_place (sym e) | inr n ↦ absurd n ] }

of_numbers : (k : ℕ) (of : ℕ → Action) (count : ℕ) → ((x : ℕ) → kind_place (of x) ≡ k) → ((x : ℕ) → subject_place (of x) ≡ x) → ((x : ℕ) → index_place (of x) ≡ 0) → Stretch k (map of (numbers_from 0 count))
of_numbers k of count kind subject index =
    of_each k (λ (x y : ℕ). x ≤ y) of (numbers_from 0 count) kind
    (λ x y le. (
    let kx = kind x in
    let ky = kind y in
    let sx = subject x in
    let sy = subject y in
    let ix = index x in
    let iy = index y in
    record { by_kind = omega (arith, kx, ky); then_by_subject = λ e. omega (arith, le, sx, sy); then_by_index = λ e f. omega (arith, ix, iy) }))
    (numbers_rise 0 count)

of_vcpus : (domains : List DomConfig) → Stretch 4 (map Wake (vcpus_from 0 domains))
of_vcpus domains =
    of_each 4 IsVcpuNotAfter Wake (vcpus_from 0 domains) (λ v. refl)
    (λ a b s. record { by_kind = omega arith; then_by_subject = λ e. s.by_domain; then_by_index = λ e f. s.then_by_index f }) (vcpus_rise 0 domains)

of_units : (g : ℕ) (domains : List DomConfig) → Stretch 7 (map Repl (units_from g 0 domains))
of_units g domains =
    of_each 7 IsUnitNotAfter Repl (units_from g 0 domains) (λ u. refl)
    (λ a b s. record { by_kind = omega arith; then_by_subject = λ e. s.by_domain; then_by_index = λ e f. s.then_by_index f }) (units_rise g 0 domains)

pub candidates_in_order : (config : Config) → Sorted IsNotAfter (candidates config)
candidates_in_order config =
    let cores : ℕ = machine_core_count config in
    let processors : ℕ = config.processors in
    let domains : ℕ = length config.domains in
    let stall = and_then 0 _ _ nothing_yet (of_one Stall) in
    let xl = and_then 1 _ _ stall (of_one Xl) in
    let moved = and_then 2 _ _ xl (of_numbers 2 (λ n. Moved (core n)) cores (λ n. refl) (λ n. refl) (λ n. refl)) in
    let dom_moved = and_then 3 _ _ moved (of_numbers 3 (λ n. DomMoved (domain n)) domains (λ n. refl) (λ n. refl) (λ n. refl)) in
    let wake = and_then 4 _ _ dom_moved (of_vcpus config.domains) in
    let block = and_then 5 _ _ wake (of_numbers 5 (λ n. Block (processor n)) processors (λ n. refl) (λ n. refl) (λ n. refl)) in
    let slice = and_then 6 _ _ block (of_numbers 6 (λ n. Slice (core n)) cores (λ n. refl) (λ n. refl) (λ n. refl)) in
    let repl = and_then 7 _ _ slice (of_units config.granularity config.domains) in
    let refill = and_then 8 _ _ repl (of_numbers 8 (λ n. Refill (domain n)) domains (λ n. refl) (λ n. refl) (λ n. refl)) in
    let arrive = and_then 9 _ _ refill (of_numbers 9 (λ n. Arrive (processor n)) processors (λ n. refl) (λ n. refl) (λ n. refl)) in
    let decide = and_then 10 _ _ arrive (of_numbers 10 (λ n. Decide (core n)) cores (λ n. refl) (λ n. refl) (λ n. refl)) in
    let leave = and_then 11 _ _ decide (of_numbers 11 (λ n. Leave (processor n)) processors (λ n. refl) (λ n. refl) (λ n. refl)) in
    (and_then 12 _ _ leave (of_numbers 12 (λ n. Save (core n)) cores (λ n. refl) (λ n. refl) (λ n. refl))).sorted
