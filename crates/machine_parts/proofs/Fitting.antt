-- A domain of the machine that a pool has not yet has room there.
use Rattle.std.proofs.Common.{◌≡◌, ◌∙◌, ◌≤◌, ◌<◌, ℕ, zero, suc, ◌+◌, ◌-◌, ◌/◌, List, [], ◌∷◌, length, refl, sym, ap, subst, arith}
use Rattle.std.specs.Prelude.{Option, Some, None, slice_get}
use Rattle.std.proofs.lemmas.Option.{slice_get_within}
use Rattle.sched_model.specs.declared.config.DomConfig.{DomConfig}
use Rattle.sched_model.specs.declared.state.Domain.{Domain}
use Rattle.sched_model.specs.Actions.{units_from}
use Rattle.sched_model.specs.Places.{at_place}
use Rattle.sched_model.specs.Pool.{domain_unit_count}
use Rattle.sched_laws.proofs.Opened.{units_from-more}
use Rattle.state_ranges.specs.Ranges.{DomainInRange, PoolInRange}
use Rattle.pool_core.specs.Seen.{Seen, IsNow}
use Rattle.machine_parts.specs.Told.{Told}
use Rattle.machine_parts.specs.Places.{GoesOn, StandsAt, state_of}
use Rattle.unit_state.specs.Guests.{units_in, most_units}
use Rattle.machine_parts.specs.Rooms.{IsPlaced}
use Rattle.machine_parts.proofs.Going.{early, range-of}
use Rattle.machine_parts.proofs.Standing.{stands-there}
use Rattle.sched_model.specs.Actions.{configured_units}

same-units : (g : ℕ) (x : Domain) (b c : DomConfig) → length x.vcpus ≡ length b.guests → b ≡ c → domain_unit_count g x ≡ configured_units g c
same-units g x b c count same = ap (λ k. (k + g - 1) / g) (count ∙ ap (λ (y : DomConfig). length y.guests) same)

-- each domain at a place has as many vCPUs as the domain of the file with that number
abbrev Follows : List (Option Domain) → List DomConfig → Type 0
Follows places configs = (k : ℕ) (x : Domain) → at_place places k ≡ Some x → (c : DomConfig) × (slice_get configs k ≡ Some c) × (length x.vcpus ≡ length c.guests)

units-low : (g n : ℕ) (places : List (Option Domain)) (configs : List DomConfig) → Follows places configs → units_in g places ≤ length (units_from g n configs)
units-low g n [] configs follows = omega arith
units-low g n (None ∷ places) [] follows = (let rest = units-low g (suc n) places [] (λ k x at. let f = follows (suc k) x at in absurd (let none = f.1 in cc)) in omega (arith, rest))
units-low g n (Some x ∷ places) [] follows = absurd (let f = follows 0 x refl in let none = f.1 in cc)
units-low g n (None ∷ places) (c ∷ configs) follows =
    let rest = units-low g (suc n) places configs (λ k x at. follows (suc k) x at) in
    let more = units_from-more g n c configs in
    omega (arith, rest, more)
units-low g n (Some x ∷ places) (c ∷ configs) follows =
    let rest = units-low g (suc n) places configs (λ k y at. follows (suc k) y at) in
    let more = units_from-more g n c configs in
    let f = follows 0 x refl in
    let head : f.0 ≡ c = (let at = f.1 in cc) in
    let same = same-units g x f.0 c f.2 head in
    omega (arith, rest, more, same)

-- beside those that are here there is room for a domain that is not
units-room : (g n d : ℕ) (places : List (Option Domain)) (configs : List DomConfig) (c : DomConfig) → Follows places configs → at_place places d ≡ None → slice_get configs d ≡ Some c
    → units_in g places + configured_units g c ≤ length (units_from g n configs)
units-room g n d places [] c follows absent at = absurd (cc)
units-room g n zero [] (b ∷ configs) c follows absent at = (let more = units_from-more g n b configs in let same : configured_units g b ≡ configured_units g c = (let e : b ≡ c = cc in ap (configured_units g) e) in omega (arith, more, same))
units-room g n zero (Some x ∷ places) (b ∷ configs) c follows absent at = absurd (cc)
units-room g n zero (None ∷ places) (b ∷ configs) c follows absent at =
    let rest = units-low g (suc n) places configs (λ k x is. follows (suc k) x is) in
    let more = units_from-more g n b configs in
    let same : configured_units g b ≡ configured_units g c = (let e : b ≡ c = cc in ap (configured_units g) e) in
    omega (arith, rest, more, same)
units-room g n (suc d) [] (b ∷ configs) c follows absent at =
    let rest = units-room g (suc n) d [] configs c (λ k x is. absurd (cc)) refl at in
    let more = units_from-more g n b configs in
    omega (arith, rest, more)
units-room g n (suc d) (None ∷ places) (b ∷ configs) c follows absent at =
    let rest = units-room g (suc n) d places configs c (λ k x is. follows (suc k) x is) absent at in
    let more = units_from-more g n b configs in
    omega (arith, rest, more)
units-room g n (suc d) (Some x ∷ places) (b ∷ configs) c follows absent at =
    let rest = units-room g (suc n) d places configs c (λ k y is. follows (suc k) y is) absent at in
    let more = units_from-more g n b configs in
    let f = follows 0 x refl in
    let head : f.0 ≡ b = (let here = f.1 in cc) in
    let same = same-units g x f.0 b f.2 head in
    omega (arith, rest, more, same)

-- a domain of the machine that is not in the pool has room there
pub room-here : (w : Told) → GoesOn w → (i : ℕ) (seen : Seen) → StandsAt w i (Some seen) → IsPlaced seen → (d : ℕ) (x : Domain) → at_place seen.pool.domains d ≡ None → DomainInRange w.input (state_of w).now d x
    → domain_unit_count seen.granularity x ≤ seen.spare
room-here w goes i seen stands placed d x absent range =
    let pool : PoolInRange w.input (state_of w).now seen.pool = (range-of w goes).pools i seen.pool (stands-there w i (Some seen) stands) in
    let m = w.input in
    let g = m.config.granularity in
    let follows : Follows seen.pool.domains m.config.domains = λ k y at. (let here = pool.domains k y at in (here.config, here.at, here.count)) in
    let room = units-room g 0 d seen.pool.domains m.config.domains range.config follows absent range.at in
    let few = goes.checked.config.few_units in
    let same = same-units g x range.config range.config range.count refl in
    let suits = stands.suits seen refl in
    let all = placed.roomy.room in
    let fits : domain_unit_count g x ≤ seen.spare = (let here = subst (λ (k : ℕ). units_in k seen.pool.domains + seen.spare ≡ most_units) suits.granularity all in omega (arith, room, few, same, here)) in
    subst (λ (k : ℕ). domain_unit_count k x ≤ seen.spare) (sym suits.granularity) fits

-- there is a place for it, and the moment is not before the latest one given
pub place-here : (w : Told) → GoesOn w → (i : ℕ) (seen : Seen) → StandsAt w i (Some seen) → (d : ℕ) (x : Domain) → DomainInRange w.input (state_of w).now d x → d < length seen.pool.domains
place-here w goes i seen stands d x range =
    let pool : PoolInRange w.input (state_of w).now seen.pool = (range-of w goes).pools i seen.pool (stands-there w i (Some seen) stands) in
    let places = pool.domain_places in
    let inside = slice_get_within w.input.config.domains d range.config range.at in
    omega (arith, places, inside)

pub now-here : (w : Told) → GoesOn w → (i t : ℕ) → t ≡ (state_of w).now → (seen : Seen) → StandsAt w i (Some seen) → IsNow seen t
now-here w goes i t now seen stands = record {
  after = (let late = (stands.suits seen refl).latest in omega (arith, late, now));
  early = (let limit = early w goes in omega (arith, limit, now));
}
