-- The records after a change of one unit, and what they have in common with the sets of cores.
use Rattle.std.proofs.Common.{◌≡◌, ◌≤◌, ◌<◌, ◌+◌, ℕ, zero, suc, true, List, [], ◌∷◌, refl, arith, ap, subst, sym, ◌∙◌, length, nat_lt}
use Rattle.std.proofs.Math.Decide.{ℕ_discrete}
use Rattle.std.specs.Prelude.{Option, Some, None, slice_get, slice_set, option_map}
use Rattle.std.proofs.lemmas.Bool.Decides.{nat_tests}
use Rattle.std.proofs.lemmas.List.Elements.{All-from_recursion}
use Rattle.sched_base.specs.declared.Cores.{Cores}
use Rattle.sched_base.specs.declared.UnitId.{UnitId}
use Rattle.unit_places.specs.Places.{has_unit_place, unit_index}
use Rattle.unit_places.proofs.Placed.{placed}
use Rattle.sched_model.specs.Places.{at_place, change_at, change_item}
use Rattle.sched_model.specs.declared.state.RtdsUnit.{RtdsUnit}
use Rattle.sched_model.specs.EligibleUnits.{rtds_unit_at}
use Rattle.sched_model.specs.Rtds.{change_unit}
use Rattle.sched_laws.proofs.EachPlace.{by_option, place_below, length_set, EachPlace-change_at, at_place-set_other, at_place-change_at}
use Rattle.sched_laws.proofs.Lists.{item_below, length_change_item}
use Rattle.sched_base.proofs.Lists.{AllByRecursion-map}
use Rattle.state_ranges.specs.Ranges.{RtdsInRange}
use Rattle.state_ranges.specs.Fits.{RtdsFits, RtdsFit}
use Rattle.state_ranges.proofs.Done.{rtds_in_range}
use Rattle.scheduler_records.specs.Fits as shared
use Rattle.rtds_core.specs.RtdsParts.{IsShaped, size, total}
use Rattle.std.proofs.lemmas.Option.{slice_get_within}

pub at_place-set : {X : Type 0} (i : ℕ) (o : Option X) (places : List (Option X)) → i < length places → at_place (slice_set places i o) i ≡ o
at_place-set i o [] inside = absurd (omega (arith, inside))
at_place-set zero o (p ∷ places) inside = refl
at_place-set (suc i) o (p ∷ places) inside = at_place-set i o places (omega (arith, inside))

-- the record that is there after a change of its unit, and after one of another
abbrev pub unit_in : Option (List RtdsUnit) → ℕ → Option RtdsUnit
unit_in o n = elim o as (λ _. Option RtdsUnit) [ None ↦ None | Some units ↦ slice_get units n ]

-- the counts of the units stay
sizes_changed : (u : UnitId) (f : RtdsUnit → RtdsUnit) (domains : List (Option (List RtdsUnit))) (d : ℕ) → option_map length (at_place (change_unit u f domains) d) ≡ option_map length (at_place domains d)
sizes_changed u f domains d =
    elim (ℕ_discrete u.dom.0 d) [
      | yes e ↦
          subst (λ (k : ℕ). option_map length (at_place (change_unit u f domains) k) ≡ option_map length (at_place domains k)) e
          (ap (option_map length) (at_place-change_at u.dom.0 (change_item u.n f) domains) ∙ there (at_place domains u.dom.0))
      | no ne ↦ ap (option_map length) (at_place-set_other u.dom.0 d _ domains ne)
    ]
  where
    there : (o : Option (List RtdsUnit)) → option_map length (option_map (change_item u.n f) o) ≡ option_map length o
    there None = refl
    there (Some units) = ap Some (length_change_item u.n f units)

pub shape_changed : (u : UnitId) (f : RtdsUnit → RtdsUnit) (domains : List (Option (List RtdsUnit))) (affinity : List (Option (List Cores))) → IsShaped domains affinity → IsShaped (change_unit u f domains) affinity
shape_changed u f domains affinity is = record {
  places = length_set u.dom.0 _ domains ∙ is.places;
  few = is.few;
  same = λ d. sizes_changed u f domains d ∙ is.same d;
  small = EachPlace-change_at (λ (units : List RtdsUnit). length units ≤ 32) u.dom.0 (change_item u.n f) domains is.small (λ units at few. (let e = length_change_item u.n f units in omega (arith, few, e)));
}

pub total_changed : {X : Type 0} (i : ℕ) (f : List X → List X) (places : List (Option (List X))) → ((xs : List X) → length (f xs) ≡ length xs) → total (change_at i f places) ≡ total places
total_changed {X} i f [] keeps = refl
total_changed {X} zero f (o ∷ places) keeps = ap (λ (n : ℕ). n + total places) (there o)
  where
    there : (o : Option (List X)) → size (option_map f o) ≡ size o
    there None = refl
    there (Some xs) = keeps xs
total_changed {X} (suc i) f (o ∷ places) keeps = ap (λ (n : ℕ). size o + n) (total_changed i f places keeps)

pub total_set : {X : Type 0} (i : ℕ) (o : Option (List X)) (places : List (Option (List X))) → i < length places → total (slice_set places i o) + size (at_place places i) ≡ total places + size o
total_set i o [] inside = absurd (omega (arith, inside))
total_set zero o (p ∷ places) inside = omega arith
total_set (suc i) o (p ∷ places) inside = (let r = total_set i o places (omega (arith, inside)) in omega (arith, r))

-- the units of the domain of a unit that has a record
pub record Home (domains : List (Option (List RtdsUnit))) (u : UnitId) : Type 0 where
  pub units : List RtdsUnit
  pub at : at_place domains u.dom.0 ≡ Some units
  pub inside : u.n < length units

pub home_of : (domains : List (Option (List RtdsUnit))) (u : UnitId) (x : RtdsUnit) → rtds_unit_at domains u ≡ Some x → Home domains u
home_of domains u x at =
    by_option (λ (o : Option RtdsUnit). o ≡ Some x → Home domains u) (at_place domains u.dom.0) _ _ (λ none e. absurd (cc))
    (λ units there e. record { units = units; at = there; inside = slice_get_within units u.n x e }) at

pub record IsLow (u : UnitId) : Type 0 where
  pub dom : u.dom.0 < 64
  pub index : u.n < 32
  pub byte : u.n < 256
  pub place : has_unit_place u ≡ true
  pub id : unit_index u < 2048

pub low_unit : (domains : List (Option (List RtdsUnit))) (affinity : List (Option (List Cores))) (u : UnitId) (x : RtdsUnit) → IsShaped domains affinity → rtds_unit_at domains u ≡ Some x → IsLow u
low_unit domains affinity u x is at =
    let home = home_of domains u x at in
    let few : length home.units ≤ 32 = is.small u.dom.0 home.units home.at in
    let below : u.dom.0 < length domains = place_below domains u.dom.0 home.units home.at in
    let inside = home.inside in
    let places = is.places in
    let most = is.few in
    let d : u.dom.0 < 64 = omega (arith, below, places, most) in
    let n : u.n < 32 = omega (arith, inside, few) in
    record { dom = d; index = n; byte = omega (arith, n); place = placed u d n; id = omega (arith, d, n) }

-- a unit that has a record has a set of cores, and the other way round
pub record Sets (affinity : List (Option (List Cores))) (u : UnitId) : Type 0 where
  pub sets : List Cores
  pub at : at_place affinity u.dom.0 ≡ Some sets
  pub inside : u.n < length sets

same_size : {X Y : Type 0} (a : Option (List X)) (b : Option (List Y)) (xs : List X) → option_map length a ≡ option_map length b → a ≡ Some xs → (ys : List Y) × (b ≡ Some ys) × (length xs ≡ length ys)
same_size None b xs same is = absurd (cc)
same_size (Some zs) None xs same is = absurd (cc)
same_size {X} (Some zs) (Some ys) xs same is =
    let e : zs ≡ xs = cc in
    let l : length zs ≡ length ys = cc in
    (ys, refl, ap (λ (k : List X). length k) (sym e) ∙ l)

pub sets_of : (domains : List (Option (List RtdsUnit))) (affinity : List (Option (List Cores))) (u : UnitId) (x : RtdsUnit) → IsShaped domains affinity → rtds_unit_at domains u ≡ Some x → Sets affinity u
sets_of domains affinity u x is at =
    let home = home_of domains u x at in
    let s = same_size (at_place domains u.dom.0) (at_place affinity u.dom.0) home.units (is.same u.dom.0) home.at in
    let inside = home.inside in
    let long = s.2 in
    record { sets = s.0; at = s.1; inside = omega (arith, inside, long) }

pub record_of : (domains : List (Option (List RtdsUnit))) (affinity : List (Option (List Cores))) (u : UnitId) (sets : List Cores) → IsShaped domains affinity → at_place affinity u.dom.0 ≡ Some sets → u.n < length sets → (x : RtdsUnit) × (rtds_unit_at domains u ≡ Some x)
record_of domains affinity u sets is at inside =
    let s = same_size (at_place affinity u.dom.0) (at_place domains u.dom.0) sets (sym (is.same u.dom.0)) at in
    let long = s.2 in
    let there = item_below s.0 u.n (omega (arith, inside, long)) in
    (there.0, ap (λ (o : Option (List RtdsUnit)). unit_in o u.n) s.1 ∙ there.1)

abbrev pub count_in : Option (List Cores) → ℕ
count_in o = elim o as (λ _. ℕ) [ None ↦ 0 | Some sets ↦ length sets ]

-- a member has a record, and the other way round
pub member_record : (domains : List (Option (List RtdsUnit))) (affinity : List (Option (List Cores))) (u : UnitId) → IsShaped domains affinity → nat_lt u.n (count_in (at_place affinity u.dom.0)) ≡ true → (x : RtdsUnit) × (rtds_unit_at domains u ≡ Some x)
member_record domains affinity u is member = there (at_place affinity u.dom.0) refl member
  where
    there : (o : Option (List Cores)) → at_place affinity u.dom.0 ≡ o → nat_lt u.n (count_in o) ≡ true → (x : RtdsUnit) × (rtds_unit_at domains u ≡ Some x)
    there None at e = absurd (grind (arith, nat_tests, e))
    there (Some sets) at e = record_of domains affinity u sets is at (grind (arith, nat_tests, e))

pub record_member : (domains : List (Option (List RtdsUnit))) (affinity : List (Option (List Cores))) (u : UnitId) (x : RtdsUnit) → IsShaped domains affinity → rtds_unit_at domains u ≡ Some x → nat_lt u.n (count_in (at_place affinity u.dom.0)) ≡ true
record_member domains affinity u x is at =
    let s = sets_of domains affinity u x is at in
    ap (λ (o : Option (List Cores)). nat_lt u.n (count_in o)) s.at ∙ (let i = s.inside in grind (arith, nat_tests, i))

-- the ranges that the changes of records ask for
pub shared_fits : (t : ℕ) (domains : List (Option (List RtdsUnit))) → length domains ≤ 64 → RtdsFit t domains → shared.RtdsFits t domains
shared_fits t domains few fit = record { few_domains = few; domains = λ d units at. All-from_recursion (RtdsInRange t) units (AllByRecursion-map (RtdsFits t) (RtdsInRange t) (rtds_in_range t) units (fit d units at)) }
