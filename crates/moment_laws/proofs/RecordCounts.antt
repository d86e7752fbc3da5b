-- Records of the units of the file's domains are as many as the machine has units, at most.
use Rattle.std.proofs.Common.{◌≡◌, ◌≤◌, ◌+◌, ◌-◌, ◌/◌, ℕ, zero, suc, true, List, [], ◌∷◌, refl, arith, ap, sym, ◌∙◌, length}
use Rattle.std.specs.Prelude.{Option, Some, None, ℤ, slice_get, map}
use Rattle.std.proofs.lemmas.List.{length-map}
use Rattle.sched_model.specs.declared.config.DomConfig.{DomConfig}
use Rattle.sched_model.specs.declared.state.RtdsUnit.{RtdsUnit}
use Rattle.sched_model.specs.declared.state.Credit2Domain.{Credit2Domain}
use Rattle.sched_model.specs.declared.state.Credit2Unit.{Credit2Unit}
use Rattle.sched_model.specs.Places.{at_place}
use Rattle.sched_model.specs.Actions.{units_from}
use Rattle.sched_laws.specs.Counts.{total}
use Rattle.sched_laws.proofs.Opened.{units_from-more}
use Rattle.moment_laws.specs.Turns.{how_many}
use Rattle.moment_laws.proofs.Sums.{how_many_most}
use Rattle.moment_laws.specs.Credit2Turns.{Face, face, faces}
use Rattle.moment_laws.proofs.RtdsKeys.{Key, key, keys}
use Rattle.moment_laws.specs.Stretches.{units}

-- at each place stands something for a domain of the file, that counts for its units at most
abbrev pub CountsFor : {X : Type 0} → ℕ → (X → ℕ) → List DomConfig → List (Option X) → Type 0
CountsFor {X} g f configs places = (d : ℕ) (x : X) → at_place places d ≡ Some x → (config : DomConfig) × (slice_get configs d ≡ Some config) × (f x ≤ (length config.guests + g - 1) / g)

pub counted_units : {X : Type 0} (g k : ℕ) (f : X → ℕ) (configs : List DomConfig) (places : List (Option X)) → CountsFor g f configs places → total f places ≤ length (units_from g k configs)
counted_units g k f configs [] counts = omega arith
counted_units g k f [] (None ∷ places) counts = counted_units g (suc k) f [] places (λ d x at. absurd (let r = counts (suc d) x at in let e = r.1 in cc))
counted_units g k f [] (Some y ∷ places) counts = absurd (let r = counts zero y refl in let e = r.1 in cc)
counted_units g k f (config ∷ configs) (None ∷ places) counts = (
    let rest = counted_units g (suc k) f configs places (λ d x at. counts (suc d) x at) in
    let size = units_from-more g k config configs in
    omega (arith, rest, size))
counted_units g k f (config ∷ configs) (Some y ∷ places) counts = (
    let rest = counted_units g (suc k) f configs places (λ d x at. counts (suc d) x at) in
    let size = units_from-more g k config configs in
    let here = counts zero y refl in
    let same : config ≡ here.0 = (let e = here.1 in cc) in
    let few = here.2 in
    let guests : (length config.guests + g - 1) / g ≡ (length here.0.guests + g - 1) / g = ap (λ (c : DomConfig). (length c.guests + g - 1) / g) same in
    omega (arith, rest, size, few, guests))

-- what stands among the keys, and among the faces
pub read_keys : (xs : List (Option (List RtdsUnit))) (d : ℕ) (ks : List Key) → at_place (keys xs) d ≡ Some ks → (units : List RtdsUnit) × (at_place xs d ≡ Some units) × (how_many (λ k. true) ks ≤ length units)
read_keys [] zero ks at = absurd (cc)
read_keys [] (suc d) ks at = absurd (cc)
read_keys (None ∷ xs) zero ks at = absurd (cc)
read_keys (Some units ∷ xs) zero ks at = (
    let same : map key units ≡ ks = cc in
    let a = how_many_most (λ (k : Key). true) ks in
    let b : length ks ≡ length units = sym (ap length same) ∙ length-map units key in
    (units, refl, omega (arith, a, b)))
read_keys (o ∷ xs) (suc d) ks at = read_keys xs d ks at

pub read_faces : (domains : List (Option Credit2Domain)) (d : ℕ) (f : Face) → at_place (faces domains) d ≡ Some f → (domain : Credit2Domain) × (at_place domains d ≡ Some domain) × (how_many (λ c. true) f.2 ≤ length domain.units)
read_faces [] zero f at = absurd (cc)
read_faces [] (suc d) f at = absurd (cc)
read_faces (None ∷ domains) zero f at = absurd (cc)
read_faces (Some domain ∷ domains) zero f at = (
    let same : face domain ≡ f = cc in
    let a = how_many_most (λ (c : ℤ). true) f.2 in
    let b : length f.2 ≡ length domain.units = sym (ap (λ (x : Face). length x.2) same) ∙ length-map domain.units (λ (x : Credit2Unit). x.credit) in
    (domain, refl, omega (arith, a, b)))
read_faces (o ∷ domains) (suc d) f at = read_faces domains d f at
