-- The legs of a domain that are open and those that follow, and what an entry does to them.
use Rattle.std.proofs.Common.{◌≡◌, ◌≢◌, ◌≤◌, ◌<◌, ◌+◌, ℕ, suc, Bool, true, false, List, ◌∷◌, refl, arith, ap, sym, ◌∙◌, ◌⊎◌, inl, inr, cond, ◌==◌}
use Rattle.std.specs.Prelude.{Option, Some, None, option_map, sum_by}
use Rattle.std.proofs.lemmas.List.Sums.{sum_by-cons}
use Rattle.sched_base.specs.declared.UnitId.{UnitId}
use Rattle.sched_model.specs.declared.event.Event.{Event}
use Rattle.sched_model.specs.declared.event.Event.TheVariants as event
use Rattle.sched_model.specs.declared.event.Entry.{Entry}
use Rattle.sched_model.specs.declared.machine.Machine.{Machine}
use Rattle.sched_model.specs.declared.state.State.{State}
use Rattle.term_laws.specs.Term.{Leg, late_of, leg_from}
use Rattle.term_laws.specs.CapTerm.{PlacedLeg, next_decision, taken_for, domain_legs}
use Rattle.term_laws.proofs.CapTracks.{number_in, decided_for, on_core, EventTracks}
use Rattle.term_laws.proofs.CoreSums.{total_same, total_changed}
use Rattle.sched_laws.specs.Counts.{over, total_over}

-- an open leg: the unit's number, and the moment and the number of the decision at which the leg begins
pub record OpenLeg : Type 0 where
  pub unit : ℕ
  pub from : ℕ
  pub first : ℕ

-- the leg that is open on each core
abbrev pub Opens : Type 0
Opens = ℕ → Option OpenLeg

-- the open leg on the core r as it will have been, where these entries follow, the first with the number n, and lead to the state s
abbrev pub to_close : State → ℕ → ℕ → List Entry → OpenLeg → PlacedLeg
to_close s r n entries o = record { leg = leg_from s r o.from entries; first = o.first; last = next_decision r n entries }

-- the leg, closed by the entry with the number n
abbrev pub closed_at : ℕ → ℕ → ℕ → OpenLeg → PlacedLeg
closed_at t late n o = record { leg = record { from = o.from; until = t; late = late }; first = o.first; last = n }

-- the leg that a decision for the domain's unit begins
abbrev pub begun_at : ℕ → ℕ → ℕ → OpenLeg
begun_at t n k = record { unit = k; from = t; first = n }

-- what is added up over the open legs, and over those that follow
abbrev pub rest : ℕ → ℕ → (PlacedLeg → ℕ) → Opens → State → ℕ → List Entry → ℕ
rest cores d f opens s n entries = total_over cores (λ r. over (λ o. f (to_close s r n entries o)) (opens r)) + sum_by f (domain_legs s d n entries)

-- the legs that are open after the entry with the number n
abbrev pub opens_after : ℕ → ℕ → Entry → Opens → Opens
opens_after d n entry opens r = elim (late_of r entry.event) [ None ↦ opens r | Some late ↦ option_map (begun_at entry.at.0 n) (decided_for d entry.event) ]

-- an event by which no core decides, or one core
pub record DecidesOne (d : ℕ) (e : Event) : Type 0 where
  pub core : ℕ
  pub late : ℕ
  pub is_late : late_of core e ≡ Some late
  pub others : (r : ℕ) → r ≢ core → late_of r e ≡ None
  pub taken : taken_for d e ≡ option_map (λ k. core) (decided_for d e)

pub record DecidesNone (d : ℕ) (e : Event) : Type 0 where
  pub none : (r : ℕ) → late_of r e ≡ None
  pub taken : taken_for d e ≡ None

decides_one : (d r late : ℕ) (unit : Option UnitId) → elim unit as (λ _. Option ℕ) [ None ↦ None | Some u ↦ cond (u.dom.0 == d) (Some r) None ] ≡ option_map (λ k. r) (number_in d unit)
decides_one d r late None = refl
decides_one d r late (Some u) = elim (u.dom.0 == d) as (λ b. cond b (Some r) None ≡ option_map (λ k. r) (cond b (Some u.n) None)) [ true ↦ refl | false ↦ refl ]

pub decides : (d : ℕ) (e : Event) → DecidesNone d e ⊎ DecidesOne d e
decides d (event.Decide core unit due late reset) =
    inr (record {
      core = core.0;
      late = late.0;
      is_late = (let same : (core.0 == core.0) ≡ true = grind arith in ap (λ (b : Bool). cond b (Some late.0) None) same);
      others = λ r other. (let differs : (core.0 == r) ≡ false = grind (arith, other) in ap (λ (b : Bool). cond b (Some late.0) None) differs);
      taken = decides_one d core.0 late.0 unit;
    })
decides d _ = inl (record { none = λ r. refl; taken = refl })

-- the open legs are those of the cores that have one of the domain's units, and have begun
pub record Tracked (d : ℕ) (opens : Opens) (n : ℕ) (s : State) : Type 0 where
  pub on : (r : ℕ) → on_core s d r ≡ option_map (λ (o : OpenLeg). o.unit) (opens r)
  pub begun : (r : ℕ) (o : OpenLeg) → opens r ≡ Some o → o.from ≤ s.now
  pub earlier : (r : ℕ) (o : OpenLeg) → opens r ≡ Some o → o.first < n

-- the leg that an entry closes, if any: it ends then, and the others go on
pub record Closes (cores d : ℕ) (opens opens2 : Opens) (n : ℕ) (entry : Entry) (closed : Option PlacedLeg) : Type 0 where
  pub parts : (f : PlacedLeg → ℕ) (s : State) (entries : List Entry) → rest cores d f opens s n (entry ∷ entries) ≡ over f closed + rest cores d f opens2 s (suc n) entries
  pub ended : (placed : PlacedLeg) → closed ≡ Some placed → placed.leg.until ≡ entry.at.0

pub late_is : (d n : ℕ) (entry : Entry) (opens : Opens) (r : ℕ) (o : Option ℕ) → late_of r entry.event ≡ o
    → opens_after d n entry opens r ≡ elim o as (λ _. Option OpenLeg) [ None ↦ opens r | Some late ↦ option_map (begun_at entry.at.0 n) (decided_for d entry.event) ]
late_is d n entry opens r o is = ap (λ (x : Option ℕ). elim x as (λ _. Option OpenLeg) [ None ↦ opens r | Some late ↦ option_map (begun_at entry.at.0 n) (decided_for d entry.event) ]) is

-- a core that does not decide: its leg goes on
goes_on : (s : State) (r n : ℕ) (entry : Entry) (entries : List Entry) (o : OpenLeg) → late_of r entry.event ≡ None → to_close s r n (entry ∷ entries) o ≡ to_close s r (suc n) entries o
goes_on s r n entry entries o is =
    ap (λ (x : Option ℕ). record { leg = elim x as (λ _. Leg) [ Some late ↦ record { from = o.from; until = entry.at.0; late = late } | None ↦ leg_from s r o.from entries ]; first = o.first; last = elim x as (λ _. ℕ) [ Some late ↦ n | None ↦ next_decision r (suc n) entries ] }) is

-- one that decides
closes : (s : State) (r n late : ℕ) (entry : Entry) (entries : List Entry) (o : OpenLeg) → late_of r entry.event ≡ Some late → to_close s r n (entry ∷ entries) o ≡ closed_at entry.at.0 late n o
closes s r n late entry entries o is =
    ap (λ (x : Option ℕ). record { leg = elim x as (λ _. Leg) [ Some late ↦ record { from = o.from; until = entry.at.0; late = late } | None ↦ leg_from s r o.from entries ]; first = o.first; last = elim x as (λ _. ℕ) [ Some late ↦ n | None ↦ next_decision r (suc n) entries ] }) is

over_same : {X : Type 0} (f g : X → ℕ) (o : Option X) → ((x : X) → f x ≡ g x) → over f o ≡ over g o
over_same f g None same = refl
over_same f g (Some x) same = same x

module _ (cores d n : ℕ) (entry : Entry) (opens : Opens) where
  -- an event by which no core decides
  pub closes_none : DecidesNone d entry.event → Closes cores d opens (opens_after d n entry opens) n entry None
  closes_none quiet = record {
    parts = λ f s entries. (
        let same = total_same cores (λ r. over (λ o. f (to_close s r n (entry ∷ entries) o)) (opens r)) (λ r. over (λ o. f (to_close s r (suc n) entries o)) (opens_after d n entry opens r))
        (λ r low. over_same (λ o. f (to_close s r n (entry ∷ entries) o)) (λ o. f (to_close s r (suc n) entries o)) (opens r) (λ o. ap f (goes_on s r n entry entries o (quiet.none r)))
        ∙ ap (over (λ o. f (to_close s r (suc n) entries o))) (sym (late_is d n entry opens r None (quiet.none r)))) in
        let legs : domain_legs s d n (entry ∷ entries) ≡ domain_legs s d (suc n) entries = ap (λ (x : Option ℕ). elim x as (λ _. List PlacedLeg) [
          | Some r ↦ record { leg = leg_from s r entry.at.0 entries; first = n; last = next_decision r (suc n) entries } ∷ domain_legs s d (suc n) entries
          | None ↦ domain_legs s d (suc n) entries
        ]) quiet.taken in
        let sums = ap (sum_by f) legs in
        omega (arith, same, sums));
    ended = λ placed is. absurd (cc);
  }

  -- the leg of the core that decides ends, and one for the domain begins
  module _ (one : DecidesOne d entry.event) (high : cores ≤ one.core → (opens one.core ≡ None) × (decided_for d entry.event ≡ None)) where
    abbrev pub the_closed : Option PlacedLeg
    the_closed = option_map (closed_at entry.at.0 one.late n) (opens one.core)

    ended_then : (o : Option OpenLeg) (placed : PlacedLeg) → option_map (closed_at entry.at.0 one.late n) o ≡ Some placed → placed.leg.until ≡ entry.at.0
    ended_then None placed is = absurd (cc)
    ended_then (Some o) placed is = (let e : closed_at entry.at.0 one.late n o ≡ placed = cc in sym (ap (λ (x : PlacedLeg). x.leg.until) e))

    over_map : {X Y : Type 0} (f : Y → ℕ) (g : X → Y) (o : Option X) → over f (option_map g o) ≡ over (λ x. f (g x)) o
    over_map f g None = refl
    over_map f g (Some x) = refl

    parts_one : (f : PlacedLeg → ℕ) (s : State) (entries : List Entry) → rest cores d f opens s n (entry ∷ entries) ≡ over f the_closed + rest cores d f (opens_after d n entry opens) s (suc n) entries
    parts_one f s entries =
        let r0 = one.core in
        let before : ℕ → ℕ = λ r. over (λ o. f (to_close s r n (entry ∷ entries) o)) (opens r) in
        let behind : ℕ → ℕ = λ r. over (λ o. f (to_close s r (suc n) entries o)) (opens_after d n entry opens r) in
        let new : ℕ = over (λ k. f (to_close s r0 (suc n) entries (begun_at entry.at.0 n k))) (decided_for d entry.event) in
        let was : before r0 ≡ over f the_closed = over_same (λ o. f (to_close s r0 n (entry ∷ entries) o)) (λ o. f (closed_at entry.at.0 one.late n o)) (opens r0) (λ o. ap f (closes s r0 n one.late entry entries o one.is_late)) ∙ sym (over_map f (closed_at entry.at.0 one.late n) (opens r0)) in
        let is_new : behind r0 ≡ new = ap (over (λ o. f (to_close s r0 (suc n) entries o))) (late_is d n entry opens r0 (Some one.late) one.is_late) ∙ over_map (λ o. f (to_close s r0 (suc n) entries o)) (begun_at entry.at.0 n) (decided_for d entry.event) in
        let changed = total_changed cores r0 before behind
        (λ r other. over_same (λ o. f (to_close s r n (entry ∷ entries) o)) (λ o. f (to_close s r (suc n) entries o)) (opens r) (λ o. ap f (goes_on s r n entry entries o (one.others r other)))
        ∙ ap (over (λ o. f (to_close s r (suc n) entries o))) (sym (late_is d n entry opens r None (one.others r other))))
        (λ le. ap (over (λ o. f (to_close s r0 n (entry ∷ entries) o))) (high le).0 ∙ sym (is_new ∙ ap (over (λ k. f (to_close s r0 (suc n) entries (begun_at entry.at.0 n k)))) (high le).1)) in
        let legs = followed f s entries in
        omega (arith, changed, was, is_new, legs)
      where
        followed : (f : PlacedLeg → ℕ) (s : State) (entries : List Entry)
            → sum_by f (domain_legs s d n (entry ∷ entries)) ≡ over (λ k. f (to_close s one.core (suc n) entries (begun_at entry.at.0 n k))) (decided_for d entry.event) + sum_by f (domain_legs s d (suc n) entries)
        followed f s entries =
            ap (λ (x : Option ℕ). sum_by f (elim x as (λ _. List PlacedLeg) [
              | Some r ↦ record { leg = leg_from s r entry.at.0 entries; first = n; last = next_decision r (suc n) entries } ∷ domain_legs s d (suc n) entries
              | None ↦ domain_legs s d (suc n) entries
            ])) one.taken
            ∙ there (decided_for d entry.event)
          where
            there : (o : Option ℕ) → sum_by f (elim (option_map (λ k. one.core) o) as (λ _. List PlacedLeg) [
              | Some r ↦ record { leg = leg_from s r entry.at.0 entries; first = n; last = next_decision r (suc n) entries } ∷ domain_legs s d (suc n) entries
              | None ↦ domain_legs s d (suc n) entries
            ]) ≡ over (λ k. f (to_close s one.core (suc n) entries (begun_at entry.at.0 n k))) o + sum_by f (domain_legs s d (suc n) entries)
            there None = omega arith
            there (Some k) = sum_by-cons f (to_close s one.core (suc n) entries (begun_at entry.at.0 n k)) (domain_legs s d (suc n) entries)

    pub closes_one : Closes cores d opens (opens_after d n entry opens) n entry the_closed
    closes_one = record { parts = parts_one; ended = λ placed is. ended_then (opens one.core) placed is }

-- the open legs follow the entry
pub tracked_after : (m : Machine) (d n : ℕ) (opens : Opens) (entry : Entry) (s s2 : State) → entry.at.0 ≡ s.now → s.now ≤ s2.now → EventTracks m d entry.event s s2 → Tracked d opens n s → Tracked d (opens_after d n entry opens) (suc n) s2
tracked_after m d n opens entry s s2 at later step tracked = record {
  on = λ r. go r (late_of r entry.event) refl;
  begun = λ r o is. starts r o (late_of r entry.event) refl is;
  earlier = λ r o is. comes r o (late_of r entry.event) refl is;
}
  where
    back : (o : Option ℕ) → option_map (λ (x : OpenLeg). x.unit) (option_map (begun_at entry.at.0 n) o) ≡ o
    back None = refl
    back (Some k) = refl

    go : (r : ℕ) (o : Option ℕ) → late_of r entry.event ≡ o → on_core s2 d r ≡ option_map (λ (x : OpenLeg). x.unit) (opens_after d n entry opens r)
    go r None is = step.stays r is ∙ tracked.on r ∙ ap (option_map (λ (x : OpenLeg). x.unit)) (sym (late_is d n entry opens r None is))
    go r (Some late) is = (step.decides r late is).1 ∙ sym (ap (option_map (λ (x : OpenLeg). x.unit)) (late_is d n entry opens r (Some late) is) ∙ back (decided_for d entry.event))

    fresh : (o : OpenLeg) (k : Option ℕ) → option_map (begun_at entry.at.0 n) k ≡ Some o → (o.from ≡ entry.at.0) × (o.first ≡ n)
    fresh o None is = absurd (cc)
    fresh o (Some k) is = (let e : begun_at entry.at.0 n k ≡ o = cc in (sym (ap (λ (x : OpenLeg). x.from) e), sym (ap (λ (x : OpenLeg). x.first) e)))

    starts : (r : ℕ) (o : OpenLeg) (x : Option ℕ) → late_of r entry.event ≡ x → opens_after d n entry opens r ≡ Some o → o.from ≤ s2.now
    starts r o None is at2 = (let b = tracked.begun r o (sym (late_is d n entry opens r None is) ∙ at2) in omega (arith, b, later))
    starts r o (Some late) is at2 = (let f = (fresh o (decided_for d entry.event) (sym (late_is d n entry opens r (Some late) is) ∙ at2)).0 in omega (arith, f, at, later))

    comes : (r : ℕ) (o : OpenLeg) (x : Option ℕ) → late_of r entry.event ≡ x → opens_after d n entry opens r ≡ Some o → o.first < suc n
    comes r o None is at2 = (let b = tracked.earlier r o (sym (late_is d n entry opens r None is) ∙ at2) in omega (arith, b))
    comes r o (Some late) is at2 = (let f = (fresh o (decided_for d entry.event) (sym (late_is d n entry opens r (Some late) is) ∙ at2)).1 in omega (arith, f))
