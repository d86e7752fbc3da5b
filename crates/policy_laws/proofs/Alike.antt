-- Pools that are alike in what is kept of their schedulers' units, and the changes under which a pool stays so.
use Rattle.std.proofs.Common.{◌≡◌, ℕ, Bool, true, false, List, refl, subst, sym, ◌∙◌, ap, length, ◌≤◌}
use Rattle.std.specs.Prelude.{Option, Some, None, option_map, is_some, nat_lt}
use Rattle.sched_base.specs.declared.Cores.{Cores}
use Rattle.sched_base.specs.declared.Moment.{Moment}
use Rattle.sched_base.specs.declared.UnitId.{UnitId}
use Rattle.sched_model.specs.declared.state.Domain.{Domain}
use Rattle.sched_model.specs.declared.state.Resource.{Resource}
use Rattle.sched_model.specs.declared.state.Records.{Records}
use Rattle.sched_model.specs.declared.state.Records.TheVariants.{Credit2Pool}
use Rattle.sched_model.specs.declared.state.Scheduler.{Scheduler}
use Rattle.sched_model.specs.declared.state.Pool.{Pool}
use Rattle.sched_model.specs.Places.{at_place, change_at, is_unit}
use Rattle.sched_model.specs.Pool.{unit_core, domain_unit_count}
use Rattle.sched_laws.specs.EachPlace.{EachPlace}
use Rattle.sched_laws.proofs.Events.{LikePlaces, like_look, like_change_at}
use Rattle.sched_laws.proofs.EachPlace.{found_at, none_found}
use Rattle.sched_laws.proofs.Choices.{is_unit_same}
use Rattle.sched_laws.proofs.Counts.{same_unit_refl}
use Rattle.sched_base.proofs.Bools.{clash}
use Rattle.sched_ops.specs.Conditions.{is_member, is_on, may_unit_be_on}
use Rattle.sched_ops.specs.Seen.{units_of}
use Rattle.policy_laws.specs.Holds.{HasMembers, HasMember, AreOn}
use Rattle.policy_laws.specs.RunningUnits.{keeps_records}

-- two lists of places are alike, as far as the measure tells
pub record AreAlike {X Y : Type 0} (measure : X → Y) (old next : List (Option X)) : Type 0 where
  pub places : length next ≡ length old
  pub same : (i : ℕ) → option_map measure (at_place next i) ≡ option_map measure (at_place old i)

module _ {X Y : Type 0} (measure : X → Y) where
  pub alike_refl : (places : List (Option X)) → AreAlike measure places places
  alike_refl places = record { places = refl; same = λ i. refl }

  pub alike_trans : (a b c : List (Option X)) → AreAlike measure a b → AreAlike measure b c → AreAlike measure a c
  alike_trans a b c one two = record { places = two.places ∙ one.places; same = λ i. two.same i ∙ one.same i }

  pub alike_like : (R : X → X → Type 0) (old next : List (Option X)) → ((x y : X) → R x y → measure y ≡ measure x) → LikePlaces R old next → AreAlike measure old next
  alike_like R old next to like = record { places = like.count; same = like_look R (option_map measure) old next (λ x y now. ap (λ (z : Y). Some z) (to x y now)) like }

  pub alike_change_at : (i : ℕ) (f : X → X) (places : List (Option X)) → ((x : X) → measure (f x) ≡ measure x) → AreAlike measure places (change_at i f places)
  alike_change_at i f places same =
      alike_like (λ x y. measure y ≡ measure x) places (change_at i f places) (λ x y now. now) (like_change_at (λ x y. measure y ≡ measure x) i f places (λ x. refl) (λ x at. same x))

  -- what stands at a place stood there alike, and stands there alike after
  pub alike_was : (old next : List (Option X)) (i : ℕ) (y : X) → AreAlike measure old next → at_place next i ≡ Some y → (x : X) × (at_place old i ≡ Some x) × (measure y ≡ measure x)
  alike_was old next i y alike at = from (at_place old i) (ap (option_map measure) (sym at) ∙ alike.same i) refl
    where
      from : (o : Option X) → Some (measure y) ≡ option_map measure o → at_place old i ≡ o → (x : X) × (at_place old i ≡ Some x) × (measure y ≡ measure x)
      from None e is = absurd (cc)
      from (Some x) e is = (x, is, cc)

  pub alike_is : (old next : List (Option X)) (i : ℕ) (x : X) → AreAlike measure old next → at_place old i ≡ Some x → (y : X) × (at_place next i ≡ Some y) × (measure y ≡ measure x)
  alike_is old next i x alike at = from (at_place next i) (alike.same i ∙ ap (option_map measure) at) refl
    where
      from : (o : Option X) → option_map measure o ≡ Some (measure x) → at_place next i ≡ o → (y : X) × (at_place next i ≡ Some y) × (measure y ≡ measure x)
      from None e is = absurd (cc)
      from (Some y) e is = (y, is, cc)

-- what is kept of a core alone
pub record CoreFace : Type 0 where
  pub cur : Option UnitId
  pub saving : Option UnitId
  pub since : Moment

abbrev pub core_face : Resource → CoreFace
core_face c = record { cur = c.cur; saving = c.saving; since = c.since }

-- two pools are alike: in the units of each domain, which of them are on, and what each core has
pub record IsAlike (g : ℕ) (affinity : List (Option (List Cores))) (places : List (Option Domain)) (kept : Records) (resources : List (Option Resource)) (affinity2 : List (Option (List Cores))) (places2 : List (Option Domain)) (kept2 : Records) (resources2 : List (Option Resource)) : Type 0 where
  pub sets : AreAlike length affinity affinity2
  pub domains : AreAlike (domain_unit_count g) places places2
  pub on : (u : UnitId) → is_on kept2 u ≡ is_on kept u
  pub kind : keeps_records kept2 ≡ keeps_records kept
  pub cores : AreAlike core_face resources resources2

abbrev pub Alike : ℕ → Pool → Pool → Type 0
Alike g pool next = IsAlike g pool.scheduler.affinity pool.domains pool.scheduler.records pool.resources next.scheduler.affinity next.domains next.scheduler.records next.resources

-- a unit may be on where it is, or nothing is recorded
pub may_is : (records : Records) (u : UnitId) → may_unit_be_on records u ≡ (elim (keeps_records records) as (λ _. Bool) [ true ↦ is_on records u | false ↦ true ])
may_is (Credit2Pool records) u = refl
may_is records u = refl

pub may_same : (old next : Records) (u : UnitId) → is_on next u ≡ is_on old u → keeps_records next ≡ keeps_records old → may_unit_be_on next u ≡ may_unit_be_on old u
may_same old next u on kind =
    may_is next u
    ∙ ap (λ (b : Bool). elim (keeps_records next) as (λ _. Bool) [ true ↦ b | false ↦ true ]) on
    ∙ ap (λ (k : Bool). elim k as (λ _. Bool) [ true ↦ is_on old u | false ↦ true ]) kind
    ∙ sym (may_is old u)

-- a core that has the unit is found
pub core_found : (pool : Pool) (r : ℕ) (c : Resource) (u : UnitId) → at_place pool.resources r ≡ Some c → c.cur ≡ Some u → is_some (unit_core pool u) ≡ true
core_found pool r c u at is =
    elim (unit_core pool u) as (λ o. unit_core pool u ≡ o → is_some o ≡ true) [
      | None ↦ λ none. absurd (clash (is_unit c.cur u) (ap (λ (o : Option UnitId). is_unit o u) is ∙ same_unit_refl u) (none_found 0 r (λ (x : Resource). is_unit x.cur u) pool.resources c none at))
      | Some k ↦ λ some. refl
    ] refl

-- a core is found only where it has the unit
pub found_core : (pool : Pool) (u : UnitId) → is_some (unit_core pool u) ≡ true → (r : ℕ) × (c : Resource) × (at_place pool.resources r ≡ Some c) × (c.cur ≡ Some u)
found_core pool u found =
    elim (unit_core pool u) as (λ o. unit_core pool u ≡ o → is_some o ≡ true → (r : ℕ) × (c : Resource) × (at_place pool.resources r ≡ Some c) × (c.cur ≡ Some u)) [
      | None ↦ λ is e. absurd (cc)
      | Some r ↦ λ is e. (let f = found_at r (λ (x : Resource). is_unit x.cur u) pool.resources is in (r, f.0, f.1, is_unit_same f.0.cur u f.2))
    ] refl found

-- how many units a domain joined with, from how many sets there are
abbrev pub units_in : Option ℕ → ℕ
units_in None = 0
units_in (Some n) = n

pub units_of_is : (scheduler : Scheduler) (d : ℕ) → units_of scheduler d ≡ units_in (option_map length (at_place scheduler.affinity d))
units_of_is scheduler d = of (at_place scheduler.affinity d)
  where
    of : (o : Option (List Cores)) → elim o as (λ _. ℕ) [ None ↦ 0 | Some sets ↦ length sets ] ≡ units_in (option_map length o)
    of None = refl
    of (Some sets) = refl

module _ (g : ℕ) where
  pub is_alike_refl : (pool : Pool) → Alike g pool pool
  is_alike_refl pool = record { sets = alike_refl length _; domains = alike_refl (domain_unit_count g) _; on = λ u. refl; kind = refl; cores = alike_refl core_face _ }

  pub is_alike_trans : (a b c : Pool) → Alike g a b → Alike g b c → Alike g a c
  is_alike_trans a b c one two = record {
    sets = alike_trans length a.scheduler.affinity b.scheduler.affinity c.scheduler.affinity one.sets two.sets;
    domains = alike_trans (domain_unit_count g) a.domains b.domains c.domains one.domains two.domains;
    on = λ u. two.on u ∙ one.on u;
    kind = two.kind ∙ one.kind;
    cores = alike_trans core_face a.resources b.resources c.resources one.cores two.cores;
  }

  pub alike_member : (pool next : Pool) (u : UnitId) → Alike g pool next → is_member next.scheduler u ≡ is_member pool.scheduler u
  alike_member pool next u alike =
      let count : units_of next.scheduler u.dom.0 ≡ units_of pool.scheduler u.dom.0 =
      units_of_is next.scheduler u.dom.0 ∙ ap units_in (alike.sets.same u.dom.0) ∙ sym (units_of_is pool.scheduler u.dom.0) in
      ap (λ (n : ℕ). nat_lt u.n n) count

  pub alike_members : (pool next : Pool) → Alike g pool next → HasMembers g pool → HasMembers g next
  alike_members pool next alike has = record {
    places = alike.sets.places ∙ has.places ∙ sym alike.domains.places;
    units = λ d. alike.sets.same d ∙ has.units d ∙ sym (alike.domains.same d);
  }

  pub alike_units : (pool next : Pool) → Alike g pool next → EachPlace (HasMember pool) pool.resources → EachPlace (HasMember next) next.resources
  alike_units pool next alike each r c at =
      let was = alike_was core_face pool.resources next.resources r c alike.cores at in
      let here : HasMember pool was.0 = each r was.0 was.1 in
      record {
        cur = λ u is. alike_member pool next u alike ∙ here.cur u (sym (ap (λ (f : CoreFace). f.cur) was.2) ∙ is);
        saving = λ u is. alike_member pool next u alike ∙ here.saving u (sym (ap (λ (f : CoreFace). f.saving) was.2) ∙ is);
      }

  pub alike_on : (pool next : Pool) → Alike g pool next → AreOn pool → AreOn next
  alike_on pool next alike on = record {
    own = λ r c at u is.
        let was = alike_was core_face pool.resources next.resources r c alike.cores at in
        may_same pool.scheduler.records next.scheduler.records u (alike.on u) alike.kind ∙ on.own r was.0 was.1 u (sym (ap (λ (f : CoreFace). f.cur) was.2) ∙ is);
    off = λ u is.
        let found = found_core pool u (on.off u (sym (alike.on u) ∙ is)) in
        let now = alike_is core_face pool.resources next.resources found.0 found.1 alike.cores found.2 in
        core_found next found.0 now.0 u now.1 (ap (λ (f : CoreFace). f.cur) now.2 ∙ found.3);
  }

  pub alike_since : (t : ℕ) (pool next : Pool) → Alike g pool next → EachPlace (λ (c : Resource). c.since.0 ≤ t) pool.resources → EachPlace (λ (c : Resource). c.since.0 ≤ t) next.resources
  alike_since t pool next alike each r c at =
      let was = alike_was core_face pool.resources next.resources r c alike.cores at in
      subst (λ (m : Moment). m.0 ≤ t) (sym (ap (λ (f : CoreFace). f.since) was.2)) (each r was.0 was.1)
