-- What one unit that comes to wait asks of the cores of a null pool.
use Rattle.std.proofs.Common.{◌≡◌, ◌≢◌, ℕ, Bool, true, false, not, List, refl, sym, ◌∙◌, ap, subst}
use Rattle.std.specs.Prelude.{Option, Some, None, ◌&&◌, ◌||◌, ◌==◌, ◌^◌, is_none}
use Rattle.std.proofs.Math.Decide.{ℕ_discrete}
use Rattle.std.proofs.lemmas.Bool.{eq-eqb, ne_eqb}
use Rattle.std.proofs.lemmas.Nat.Bits.{bit_at-pow_other, bit_at-pow_same, bit_at-zero}
use Rattle.sched_base.proofs.Bools.{and_false, and_right, clash, false_before}
use Rattle.sched_base.specs.declared.Cores.{Cores}
use Rattle.sched_base.specs.declared.UnitId.{UnitId}
use Rattle.sched_model.specs.declared.state.Resource.{Resource}
use Rattle.sched_model.specs.declared.state.Records.TheVariants.{NullPool}
use Rattle.sched_model.specs.declared.state.Scheduler.{Scheduler}
use Rattle.sched_model.specs.State.{has_core_bit}
use Rattle.sched_model.specs.Places.{at_place, has_listed_unit, is_unit}
use Rattle.sched_model.specs.EligibleUnits.{has_given_core, is_allowed_by, is_core_given, is_unit_allowed, is_unit_eligible, is_unit_placed}
use Rattle.sched_laws.proofs.Counts.{is_that_unit}
use Rattle.scheduler_records.specs.Parts.{scheduler_of}
use Rattle.settle_laws.specs.Wanted.{waits_for}
use Rattle.settle_laws.proofs.Null.{has_at, has_by, placed_at}
use Rattle.settle_laws.proofs.Tests.{false_if}
use Rattle.sched_ops.specs.WantedCores.{is_asked}
use Rattle.sched_ops.proofs.Coming.{comes_for, is_wanted_alone}
use Rattle.sched_null.specs.Coming.{is_idle, is_open_to}

-- the set of one core, and that of none
pub one_core : (core r : ℕ) → has_core_bit (2 ^ core) r ≡ (r == core)
one_core core r = elim (ℕ_discrete r core) [
  | yes e ↦ subst (λ (k : ℕ). has_core_bit (2 ^ core) k ≡ (k == core)) (sym e) (ap (λ (n : ℕ). n == 1) (bit_at-pow_same core) ∙ sym (eq-eqb core core refl))
  | no other ↦ ap (λ (n : ℕ). n == 1) (bit_at-pow_other core r other) ∙ sym (ne_eqb r core other)
]

pub no_core : (r : ℕ) → has_core_bit 0 r ≡ false
no_core r = ap (λ (n : ℕ). n == 1) (bit_at-zero r)

-- what is asked of the place of one core alone
pub at_one : (core r : ℕ) (test : ℕ → Bool) (b : Bool) → test core ≡ b → ((r == core) && b) ≡ ((r == core) && test r)
at_one core r test b is = elim (ℕ_discrete r core) [
  | yes e ↦ ap (λ (x : Bool). (r == core) && x) (sym is ∙ ap test (sym e))
  | no other ↦ (let n : (r == core) ≡ false = ne_eqb r core other in ap (λ (x : Bool). x && b) n ∙ sym (ap (λ (x : Bool). x && test r) n))
]

module _ (queue : List UnitId) (affinity : List (Option (List Cores))) (kept : List (Option UnitId)) (home : ℕ) where
  abbrev pub pool : Scheduler
  pool = scheduler_of queue affinity (NullPool kept)

  -- a core that is kept for a unit is given to it where the unit may have it
  pub given_where : (core : ℕ) (w : UnitId) → at_place kept core ≡ Some w → is_unit_placed pool kept home core w ≡ (has_core_bit home core && is_allowed_by affinity home core w)
  given_where core w at = ap (λ (b : Bool). b && has_core_bit home core && is_allowed_by affinity home core w) (is_that_unit (at_place kept core) w at)

  pub taken_where : (core : ℕ) (w : UnitId) → at_place kept core ≡ Some w → is_core_given pool kept home core ≡ (has_core_bit home core && is_allowed_by affinity home core w)
  taken_where core w at =
      ap (λ (o : Option UnitId). elim o as (λ _. Bool) [ None ↦ false | Some x ↦ is_unit_placed pool kept home core x ]) at
      ∙ given_where core w at

  module _ (u : UnitId) where
    -- a unit for which no core is kept, or one that it may not have, is given none
    pub given_none : ((r : ℕ) → at_place kept r ≢ Some u) → has_given_core pool kept home u ≡ false
    given_none none = false_if (has_given_core pool kept home u) (λ has. (let p = has_at pool home kept u has in none p.place (placed_at pool home kept p.place u p.is)))

    module _ (once : (q r : ℕ) (w : UnitId) → at_place kept q ≡ Some w → at_place kept r ≡ Some w → q ≡ r) where
      pub given_not : (core : ℕ) → at_place kept core ≡ Some u → (has_core_bit home core && is_allowed_by affinity home core u) ≡ false → has_given_core pool kept home u ≡ false
      given_not core at barred = false_if (has_given_core pool kept home u) (λ has.
          (let p = has_at pool home kept u has in
          let here : p.place ≡ core = once p.place core u (placed_at pool home kept p.place u p.is) at in
          clash (is_unit_placed pool kept home core u) (subst (λ (k : ℕ). is_unit_placed pool kept home k u ≡ true) here p.is) (given_where core u at ∙ barred)))

      -- one that is given a core may have that core alone
      may_given : (core r t : ℕ) → is_unit_placed pool kept home core u ≡ true → is_unit_eligible pool home r t u ≡ (r == core)
      may_given core r t placed = elim (ℕ_discrete r core) [
        | yes e ↦ (
            let here : is_unit_placed pool kept home r u ≡ true = subst (λ (k : ℕ). is_unit_placed pool kept home k u ≡ true) (sym e) placed in
            let allowed : is_allowed_by affinity home r u ≡ true = and_right (is_unit (at_place kept r) u && has_core_bit home r) (is_allowed_by affinity home r u) here in
            ap (λ (b : Bool). b && (is_unit_placed pool kept home r u || (not (has_given_core pool kept home u) && not (is_core_given pool kept home r)))) allowed
            ∙ ap (λ (b : Bool). b || (not (has_given_core pool kept home u) && not (is_core_given pool kept home r))) here
            ∙ sym (eq-eqb r core e))
        | no other ↦ (
            let not_here : is_unit_placed pool kept home r u ≡ false = false_if (is_unit_placed pool kept home r u) (λ here. other (once r core u (placed_at pool home kept r u here) (placed_at pool home kept core u placed))) in
            let has : has_given_core pool kept home u ≡ true = has_by pool home kept core u placed in
            ap (λ (b : Bool). is_allowed_by affinity home r u && (b || (not (has_given_core pool kept home u) && not (is_core_given pool kept home r)))) not_here
            ∙ ap (λ (b : Bool). is_allowed_by affinity home r u && (not b && not (is_core_given pool kept home r))) has
            ∙ and_false (is_allowed_by affinity home r u)
            ∙ sym (ne_eqb r core other))
      ]

      pub given_asks : (core r t : ℕ) (place : Option Resource) → is_unit_placed pool kept home core u ≡ true → has_listed_unit queue u ≡ true → is_wanted_alone t home pool u r place ≡ ((r == core) && is_idle place)
      given_asks core r t None placed waits = sym (and_false (r == core))
      given_asks core r t (Some c) placed waits =
          ap (λ (b : Bool). is_asked c && (b && waits_for c.cur c.since.0 t r home pool u)) waits
          ∙ by_cur c.cur
        where
          turned : (a b : Bool) → (a && b) ≡ (b && (a && true))
          turned true true = refl
          turned true false = refl
          turned false true = refl
          turned false false = refl

          none : (a b e : Bool) → (a && (e && false)) ≡ (b && (a && false))
          none true true true = refl
          none true true false = refl
          none true false true = refl
          none true false false = refl
          none false true e = refl
          none false false e = refl

          by_cur : (cur : Option UnitId) → (is_asked c && waits_for cur c.since.0 t r home pool u) ≡ ((r == core) && (is_asked c && is_none cur))
          by_cur None = ap (λ (b : Bool). is_asked c && b) (may_given core r t placed) ∙ turned (is_asked c) (r == core)
          by_cur (Some own) = none (is_asked c) (r == core) (is_unit_eligible pool home r t u)

    -- one that is given none may have each core that is given to none
    may_open : (r t : ℕ) → has_given_core pool kept home u ≡ false → is_unit_eligible pool home r t u ≡ (is_unit_allowed pool home r u && not (is_core_given pool kept home r))
    may_open r t none =
        let not_here : is_unit_placed pool kept home r u ≡ false = false_before (is_unit_placed pool kept home r u) (has_given_core pool kept home u) (has_by pool home kept r u) none in
        ap (λ (b : Bool). is_allowed_by affinity home r u && (b || (not (has_given_core pool kept home u) && not (is_core_given pool kept home r)))) not_here
        ∙ ap (λ (b : Bool). is_allowed_by affinity home r u && (not b && not (is_core_given pool kept home r))) none

    pub open_asks : (r t since : ℕ) (cur : Option UnitId) → has_given_core pool kept home u ≡ false → has_listed_unit queue u ≡ true → is_open_to pool kept home r u cur ≡ comes_for cur since t r home pool u
    open_asks r t since cur none waits = by_cur cur ∙ sym (ap (λ (b : Bool). b && waits_for cur since t r home pool u) waits)
      where
        by_cur : (cur : Option UnitId) → is_open_to pool kept home r u cur ≡ waits_for cur since t r home pool u
        by_cur None = sym (may_open r t none)
        by_cur (Some own) = sym (and_false (is_unit_eligible pool home r t u))

    -- one that does not wait asks for nothing
    pub absent_asks : (r t : ℕ) (place : Option Resource) → has_listed_unit queue u ≡ false → is_wanted_alone t home pool u r place ≡ false
    absent_asks r t None absent = refl
    absent_asks r t (Some c) absent = ap (λ (b : Bool). is_asked c && (b && waits_for c.cur c.since.0 t r home pool u)) absent ∙ and_false (is_asked c)
