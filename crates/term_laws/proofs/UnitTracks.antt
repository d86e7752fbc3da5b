-- What each entry of a run does to an RTDS unit: to its record, and to the due of the core that it is on.
use Rattle.std.proofs.Common.{◌≡◌, ◌≢◌, ◌≤◌, ◌+◌, ◌-◌, ℕ, Bool, true, false, refl, arith, ap, subst, sym, ◌∙◌, inl, inr, nat_lt}
use Rattle.std.specs.Prelude.{Option, Some, None, option_map, ◌==◌}
use Rattle.std.proofs.lemmas.Bool.{eq-eqb, ne_eqb}
use Rattle.sched_base.specs.Numbers.{moment, span}
use Rattle.sched_base.specs.declared.Moment.{Moment}
use Rattle.sched_base.specs.declared.UnitId.{UnitId}
use Rattle.sched_base.specs.RtdsNumbers.{burned_left}
use Rattle.sched_model.specs.declared.event.Event.{Event}
use Rattle.sched_model.specs.declared.event.Event.TheVariants as event
use Rattle.sched_model.specs.declared.machine.Machine.{Machine}
use Rattle.sched_model.specs.declared.state.State.{State}
use Rattle.sched_model.specs.declared.state.RtdsUnit.{RtdsUnit}
use Rattle.sched_model.specs.Places.{same_unit}
use Rattle.sched_model.specs.Rtds.{unit_after_span, unit_burned_to, unit_after_replenish}
use Rattle.sched_laws.proofs.EachPlace.{by_cond}
pub use Rattle.record_laws.specs.Decisions.{charged_if, off_if, on_if, after_decision}
use Rattle.term_laws.specs.Term.{late_of, moves}
use Rattle.term_laws.specs.RtdsTerm.{rtds_in}
use Rattle.term_laws.proofs.UnitFollowed.{charged, charged_back}
use Rattle.term_laws.proofs.CapTracks.{on_core, due_at, EventTracks}
use Rattle.term_laws.proofs.CapLegs.{decides}

-- whether the number is this one
abbrev pub is_number : ℕ → Option ℕ → Bool
is_number n None = false
is_number n (Some k) = k == n

pub yes_number : (n : ℕ) (o : Option ℕ) → o ≡ Some n → is_number n o ≡ true
yes_number n o is = ap (is_number n) is ∙ eq-eqb n n refl

pub not_number : (n : ℕ) (o : Option ℕ) → (o ≡ Some n → ⊥) → is_number n o ≡ false
not_number n None other = refl
not_number n (Some k) other = ne_eqb k n (λ e. other (ap (λ (x : ℕ). Some x) e))

-- the core has the unit
abbrev pub HasIt : UnitId → State → ℕ → Type 0
HasIt u s r = on_core s u.dom.0 r ≡ Some u.n

-- what a decision keeps of a record that it has charged
pub record AsDecided (x y : RtdsUnit) : Type 0 where
  pub left : y.left ≡ x.left
  pub extra : y.extra ≡ x.extra
  pub deadline : y.deadline ≡ x.deadline

pub as_decided : (t : ℕ) (had has : Bool) (x : RtdsUnit) → AsDecided (charged_if had t x) (after_decision t had has x)
as_decided t true true x = record { left = refl; extra = refl; deadline = refl }
as_decided t true false x = record { left = refl; extra = refl; deadline = refl }
as_decided t false true x = record { left = refl; extra = refl; deadline = refl }
as_decided t false false x = record { left = refl; extra = refl; deadline = refl }

-- a running unit charged up to t
pub burned_to : (t b : ℕ) (x : RtdsUnit) → x.burned ≡ Some b → unit_burned_to t x ≡ unit_after_span (t - b) (record x { burned = Some t })
burned_to t b x is = ap (λ (o : Option ℕ). elim o as (λ _. RtdsUnit) [ None ↦ x | Some from ↦ unit_after_span (t - from) (record x { burned = Some t }) ]) is

-- without extra time it has less left then
pub less_left : (left n : ℕ) (x : RtdsUnit) → x.left ≤ left → x.extra ≡ false → burned_left x.left x.budget x.extra n ≤ left - n
less_left left n x few plain =
    by_cond (λ y. y ≤ left - n) (nat_lt n x.left) _ _
    (λ is. omega (arith, few))
    (λ is. by_cond (λ y. y ≤ left - n) x.extra _ _ (λ extra. absurd (cc)) (λ e. omega arith))

-- the unit runs, and a core that has it is due in time
pub record Runs (x : RtdsUnit) (o : Option Moment) : Type 0 where
  pub from : ℕ
  pub burned : x.burned ≡ Some from
  pub due : ℕ
  pub is : o ≡ Some (moment due)
  pub low : x.extra ≡ false → due ≤ from + x.left

abbrev pub UnitHolds : UnitId → State → Type 0
UnitHolds u s = (x : RtdsUnit) → rtds_in s u ≡ Some x → (r : ℕ) → HasIt u s r → Runs x (due_at s r)

-- whether the event replenishes the unit
abbrev pub renews : UnitId → Event → Bool
renews u (event.Repl w start deadline budget extra) = same_unit w u
renews u _ = false

-- the event that tells of the unit's replenishment
abbrev pub told_of : UnitId → RtdsUnit → Event
told_of u x = event.Repl u (moment (x.deadline - x.period)) (moment x.deadline) (span x.budget) x.extra

-- the unit is replenished when its deadline has come; the due of the core that has it falls
pub record Renewed (u : UnitId) (e : Event) (s s2 : State) : Type 0 where
  pub old : RtdsUnit
  pub at : rtds_in s u ≡ Some old
  pub over : old.deadline ≤ s.now
  pub next : rtds_in s2 u ≡ Some (unit_after_replenish s.now old)
  pub prints : e ≡ told_of u (unit_after_replenish s.now old)
  pub due : (r due : ℕ) → HasIt u s r → due_at s r ≡ Some (moment due) → (due2 : ℕ) × (due_at s2 r ≡ Some (moment due2)) × (due2 ≤ due) × (due2 ≤ s.now + (unit_after_replenish s.now old).left)

-- what an event does to the unit, where it leads from the state s to the state s2
pub record UnitTracks (m : Machine) (u : UnitId) (e : Event) (s s2 : State) : Type 0 where
  pub renewed : renews u e ≡ true → Renewed u e s s2
  -- a core that decides charges the unit that it had, and is due when what is left to the one that it has is used up
  pub decided : (r late : ℕ) → late_of r e ≡ Some late → rtds_in s2 u ≡ option_map (after_decision s.now (is_number u.n (on_core s u.dom.0 r)) (is_number u.n (on_core s2 u.dom.0 r))) (rtds_in s u)
  pub taken : (r late : ℕ) (y : RtdsUnit) → late_of r e ≡ Some late → HasIt u s2 r → rtds_in s2 u ≡ Some y → due_at s2 r ≡ Some (moment (s.now + y.left))
  -- another event charges nothing, and no due rises
  pub goes : ((r : ℕ) → late_of r e ≡ None) → renews u e ≡ false → moves u.dom.0 e ≡ false → charged (rtds_in s2 u) ≡ charged (rtds_in s u)
  pub due : (x : RtdsUnit) (r due : ℕ) → rtds_in s u ≡ Some x → HasIt u s r → late_of r e ≡ None → due_at s r ≡ Some (moment due) → (due2 : ℕ) × (due_at s2 r ≡ Some (moment due2)) × (due2 ≤ due)

map_itself : (o : Option RtdsUnit) (f : RtdsUnit → RtdsUnit) → ((x : RtdsUnit) → f x ≡ x) → option_map f o ≡ o
map_itself None f same = refl
map_itself (Some x) f same = ap (λ (y : RtdsUnit). Some y) (same x)

mapped : (f : RtdsUnit → RtdsUnit) (o : Option RtdsUnit) (y : RtdsUnit) → option_map f o ≡ Some y → (x : RtdsUnit) × (o ≡ Some x) × (f x ≡ y)
mapped f None y is = absurd (cc)
mapped f (Some x) y is = (x, refl, cc)

module _ (m : Machine) (u : UnitId) (e : Event) (s s2 : State) (cores : EventTracks m u.dom.0 e s s2) (unit : UnitTracks m u e s s2) where
  -- the unit's record after a decision of a core
  pub decided_is : (r late : ℕ) (had has : Bool) → late_of r e ≡ Some late → is_number u.n (on_core s u.dom.0 r) ≡ had → is_number u.n (on_core s2 u.dom.0 r) ≡ has → rtds_in s2 u ≡ option_map (after_decision s.now had has) (rtds_in s u)
  decided_is r late had has is a b =
      unit.decided r late is ∙ ap (λ (x : Bool). option_map (after_decision s.now x (is_number u.n (on_core s2 u.dom.0 r))) (rtds_in s u)) a
      ∙ ap (λ (x : Bool). option_map (after_decision s.now had x) (rtds_in s u)) b

  -- a core that neither had nor has the unit
  pub decided_past : (r late : ℕ) → late_of r e ≡ Some late → (HasIt u s r → ⊥) → (HasIt u s2 r → ⊥) → rtds_in s2 u ≡ rtds_in s u
  decided_past r late is not_had not_has =
      decided_is r late false false is (not_number u.n (on_core s u.dom.0 r) not_had) (not_number u.n (on_core s2 u.dom.0 r) not_has)
      ∙ map_itself (rtds_in s u) (after_decision s.now false false) (λ x. refl)

  module _ (one : (r k : ℕ) → HasIt u s r → HasIt u s k → r ≡ k) (one2 : (r k : ℕ) → HasIt u s2 r → HasIt u s2 k → r ≡ k) where
    -- a core that has the unit, and does not decide
    pub on_still : (r : ℕ) → HasIt u s r → late_of r e ≡ None → HasIt u s2 r
    on_still r on is = cores.stays r is ∙ on

    pub no_move : (r : ℕ) → HasIt u s r → moves u.dom.0 e ≡ false
    no_move r on = go (moves u.dom.0 e) refl
      where
        go : (b : Bool) → moves u.dom.0 e ≡ b → b ≡ false
        go true is = absurd (let none = cores.moved r is in let h = on in let c : None ≡ Some u.n = sym none ∙ h in cc)
        go false is = refl

    pub charged_still : (r : ℕ) → HasIt u s r → late_of r e ≡ None → renews u e ≡ false → (moves u.dom.0 e ≡ false) × (charged (rtds_in s2 u) ≡ charged (rtds_in s u))
    charged_still r on is not_renewed = (
      no_move r on,
      elim (decides u.dom.0 e) [
        | inl quiet ↦ unit.goes quiet.none not_renewed (no_move r on)
        | inr decision ↦ (
            let other : decision.core ≢ r = λ same. (let late : late_of r e ≡ Some decision.late = subst (λ k. late_of k e ≡ Some decision.late) same decision.is_late in let c : None ≡ Some decision.late = sym is ∙ late in cc) in
            ap charged (decided_past decision.core decision.late decision.is_late (λ had. other (one decision.core r had on)) (λ has. other (one2 decision.core r has (on_still r on is)))))
      ],
    )

    -- the core that has the unit is due in time afterwards too
    pub holds_after : UnitHolds u s → UnitHolds u s2
    holds_after holds y at r on = go (late_of r e) refl
      where
        go : (o : Option ℕ) → late_of r e ≡ o → Runs y (due_at s2 r)
        go (Some late) is =
            let x = mapped (after_decision s.now (is_number u.n (on_core s u.dom.0 r)) true) (rtds_in s u) y (sym (decided_is r late (is_number u.n (on_core s u.dom.0 r)) true is refl (yes_number u.n (on_core s2 u.dom.0 r) on)) ∙ at) in
            record {
              from = s.now;
              burned = sym (ap (λ (z : RtdsUnit). z.burned) x.2);
              due = s.now + y.left;
              is = unit.taken r late y is on at;
              low = λ plain. omega arith;
            }
        go None is = by_renewal (renews u e) refl
          where
            was_on : HasIt u s r
            was_on = sym (cores.stays r is) ∙ on

            by_renewal : (b : Bool) → renews u e ≡ b → Runs y (due_at s2 r)
            by_renewal true renewed =
                let n = unit.renewed renewed in
                let h = holds n.old n.at r was_on in
                let d = n.due r h.due was_on h.is in
                let same : Some (unit_after_replenish s.now n.old) ≡ Some y = sym n.next ∙ at in
                let e2 : unit_after_replenish s.now n.old ≡ y = cc in
                let left = ap (λ (z : RtdsUnit). z.left) e2 in
                let low = d.3 in
                record {
                  from = s.now;
                  burned = sym (ap (λ (z : RtdsUnit). z.burned) e2) ∙ ap (λ (z : RtdsUnit). z.burned) (burned_to s.now h.from n.old h.burned);
                  due = d.0;
                  is = d.1;
                  low = λ plain. omega (arith, low, left);
                }
            by_renewal false not_renewed =
                let c = charged_back (rtds_in s u) y (sym (ap charged at) ∙ (charged_still r was_on is not_renewed).1) in
                let h = holds c.0 c.1 r was_on in
                let d = unit.due c.0 r h.due c.1 was_on is h.is in
                let left = c.2.left in
                let falls = d.2 in
                record {
                  from = h.from;
                  burned = c.2.burned ∙ h.burned;
                  due = d.0;
                  is = d.1;
                  low = λ plain. (let l = h.low (sym c.2.extra ∙ plain) in omega (arith, l, left, falls));
                }
