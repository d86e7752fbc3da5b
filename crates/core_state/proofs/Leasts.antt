-- The first number that has come, and the least of the moments of several dues.
use Rattle.sched_base.specs.Numbers.{core, processor, has_moment_come}
use Rattle.std.proofs.Common.{◌≡◌, ◌≤◌, ◌<◌, ◌⊎◌, ℕ, List, ◌∙◌, refl, sym, ap, subst, arith, inl, inr}
use Rattle.std.specs.Prelude.{Bool, true, false, nat_le, Option, Some, None, if◌then◌else◌}
use Rattle.std.proofs.lemmas.Bool.Decides.{nat_tests}
use Rattle.sched_base.specs.declared.Moment.{Moment}
use Rattle.sched_model.specs.declared.action.Action.{Action}
use Rattle.sched_model.specs.declared.action.Action.TheVariants.{Block, Slice, Arrive, Decide, Leave, Save}
use Rattle.due_heap.specs.Dues.{armed_moment, IsArmed, HasCome}
use Rattle.core_state.specs.declared.dues.Dues.{Dues}
use Rattle.core_state.specs.Seen.{Seen}
use Rattle.core_state.specs.Ends.{ready_within, ready_among}
use Rattle.core_state.specs.Firsts.{IsFirstCome, IsNotLater, IsLeast, earlier_of_both}
use Rattle.core_state.specs.CoreState.{AreArmed, AgreesBut}

-- the first number of a set that has come is that of the events of its kind
first_alike : (dues ends : ℕ → Option Moment) (t : ℕ) (o : Option ℕ) → ((i : ℕ) → dues i ≡ ends i) → IsFirstCome dues t o → IsFirstCome ends t o
first_alike dues ends t None same none = λ i. subst (λ (at : Option Moment). has_moment_come t at ≡ false) (same i) (none i)
first_alike dues ends t (Some i) same first = (
  subst (λ (at : Option Moment). has_moment_come t at ≡ true) (same i) first.0,
  λ j below. subst (λ (at : Option Moment). has_moment_come t at ≡ false) (same j) (first.1 j below),
)

pub first_same : (make : ℕ → Action) (t : ℕ) (o : Option ℕ) {seen now : Seen} {dues : List (Option Moment)} → seen ≡ now → AgreesBut 0 0 dues (λ i. ready_among seen (make i)) → IsFirstCome (armed_moment dues) t o → IsFirstCome (λ i. ready_among now (make i)) t o
first_same make t o {seen} {now} {dues} is are first = first_alike (armed_moment dues) (λ i. ready_among now (make i)) t o (λ i. are.above i (omega arith) ∙ ap (λ (x : Seen). ready_among x (make i)) is) first

not_come : (t : ℕ) (o : Option Moment) → ((at : Moment) → o ≡ Some at → t < at.0) → has_moment_come t o ≡ false
not_come t None later = refl
not_come t (Some at) later = let h : t < at.0 = later at refl in grind (arith, nat_tests)

pub first_none : (dues : List (Option Moment)) (t : ℕ) → ((id : ℕ) (at : Moment) → IsArmed dues id at → t < at.0) → IsFirstCome (armed_moment dues) t None
first_none dues t later = λ i. not_come t (armed_moment dues i) (later i)

not_come_if : (t : ℕ) (o : Option Moment) → ((at : Moment) → o ≡ Some at → at.0 ≤ t → ⊥) → has_moment_come t o ≡ false
not_come_if t None never = refl
not_come_if t (Some at) never =
    elim (nat_le at.0 t) as (λ b. nat_le at.0 t ≡ b → nat_le at.0 t ≡ false) [
      | true ↦ λ come. absurd (never at refl (grind (arith, nat_tests)))
      | false ↦ λ not_yet. not_yet
    ] refl

pub first_some : (dues : List (Option Moment)) (t id : ℕ) → HasCome dues t id → ((other : ℕ) → HasCome dues t other → id ≤ other) → IsFirstCome (armed_moment dues) t (Some id)
first_some dues t id come first = (
  (let at = come.at in let h = come.come in let test : nat_le at.0 t ≡ true = grind (arith, nat_tests) in ap (has_moment_come t) come.armed ∙ test),
  λ j below.
      not_come_if t (armed_moment dues j) (λ at is h. let least = first j (record { at = at; armed = is; come = h }) in omega (arith, least, below)),
)

-- the least of a set
late_none : (o : Option Moment) → ((at : Moment) → o ≡ Some at → ⊥) → IsNotLater None o
late_none None never = tt
late_none (Some at) never = absurd (never at refl)

pub least_none : (dues : List (Option Moment)) → ((id : ℕ) (at : Moment) → IsArmed dues id at → ⊥) → IsLeast (armed_moment dues) None
least_none dues never = record { first = λ i. late_none (armed_moment dues i) (never i); one = λ m e. absurd (cc) }

pub late_some : (a : Moment) (o : Option Moment) → ((b : Moment) → o ≡ Some b → a.0 ≤ b.0) → IsNotLater (Some a) o
late_some a None after = tt
late_some a (Some b) after = after b refl

-- the earlier of two moments
not_later_trans : (a b c : Option Moment) → IsNotLater a b → IsNotLater b c → IsNotLater a c
not_later_trans None None None p q = tt
not_later_trans None None (Some c) p q = q
not_later_trans None (Some b) c p q = absurd p
not_later_trans (Some a) None None p q = tt
not_later_trans (Some a) None (Some c) p q = absurd q
not_later_trans (Some a) (Some b) None p q = tt
not_later_trans (Some a) (Some b) (Some c) p q = omega (arith, p, q)

not_later_refl : (a : Option Moment) → IsNotLater a a
not_later_refl None = tt
not_later_refl (Some a) = omega arith

earlier_of_test : (test : Bool) (a b : Moment) → nat_le a.0 b.0 ≡ test
    → IsNotLater (if test then Some a else Some b) (Some a) × IsNotLater (if test then Some a else Some b) (Some b)
earlier_of_test true a b e = (not_later_refl (Some a), grind (arith, nat_tests, e))
earlier_of_test false a b e = (grind (arith, nat_tests, e), not_later_refl (Some b))

earlier_first : (a b : Option Moment) → IsNotLater (earlier_of_both a b) a × IsNotLater (earlier_of_both a b) b
earlier_first None None = (tt, tt)
earlier_first None (Some b) = (tt, not_later_refl (Some b))
earlier_first (Some a) None = (not_later_refl (Some a), tt)
earlier_first (Some a) (Some b) = earlier_of_test (nat_le a.0 b.0) a b refl

earlier_either : (a b : Option Moment) → (earlier_of_both a b ≡ a) ⊎ (earlier_of_both a b ≡ b)
earlier_either None b = inr refl
earlier_either (Some a) None = inl refl
earlier_either (Some a) (Some b) = elim (nat_le a.0 b.0) as (λ t. ((if t then Some a else Some b) ≡ Some a) ⊎ ((if t then Some a else Some b) ≡ Some b)) [ true ↦ inl refl | false ↦ inr refl ]

-- the moments of one kind and of another
abbrev pub both : {X Y : Type 0} → (X → Option Moment) → (Y → Option Moment) → X ⊎ Y → Option Moment
both f h (inl x) = f x
both f h (inr y) = h y

pub least_both : {X Y : Type 0} (f : X → Option Moment) (h : Y → Option Moment) (a b : Option Moment) → IsLeast f a → IsLeast h b → IsLeast (both f h) (earlier_of_both a b)
least_both {X} {Y} f h a b of_a of_b =
    let early = earlier_first a b in
    record { first = first early; one = one }
  where
    first : IsNotLater (earlier_of_both a b) a × IsNotLater (earlier_of_both a b) b → (x : X ⊎ Y) → IsNotLater (earlier_of_both a b) (both f h x)
    first early (inl x) = not_later_trans (earlier_of_both a b) a (f x) early.0 (of_a.first x)
    first early (inr y) = not_later_trans (earlier_of_both a b) b (h y) early.1 (of_b.first y)

    one : (m : Moment) → earlier_of_both a b ≡ Some m → (x : X ⊎ Y) × (both f h x ≡ Some m)
    one m is = elim (earlier_either a b) [
      | inl e ↦ let x = of_a.one m (sym e ∙ is) in (inl x.0, x.1)
      | inr e ↦ let y = of_b.one m (sym e ∙ is) in (inr y.0, y.1)
    ]

-- the same, of a moment that is that
pub least_earlier : {X Y : Type 0} (f : X → Option Moment) (h : Y → Option Moment) (a b at : Option Moment) → at ≡ earlier_of_both a b → IsLeast f a → IsLeast h b → IsLeast (both f h) at
least_earlier {X} {Y} f h a b at is of_a of_b = subst (λ (o : Option Moment). IsLeast (both f h) o) (sym is) (least_both f h a b of_a of_b)

-- the least of moments is that of others, where these are the same moments
pub least_same : {X Y : Type 0} (f : X → Option Moment) (h : Y → Option Moment) (at : Option Moment)
    → ((x : X) → (y : Y) × (h y ≡ f x)) → ((y : Y) → (h y ≡ None) ⊎ ((x : X) × (f x ≡ h y)))
    → IsLeast f at → IsLeast h at
least_same {X} {Y} f h at among from least = record {
  first = λ y. elim (from y) [
    | inl none ↦ subst (λ (o : Option Moment). IsNotLater at o) (sym none) (never_late at)
    | inr x ↦ subst (λ (o : Option Moment). IsNotLater at o) x.1 (least.first x.0)
  ];
  one = λ m is. (let x = least.one m is in let y = among x.0 in (y.0, y.1 ∙ x.1));
}
  where
    never_late : (a : Option Moment) → IsNotLater a None
    never_late None = tt
    never_late (Some a) = tt

-- the moments of six dues
abbrev pub six : Dues → ((ℕ ⊎ ℕ) ⊎ ℕ) ⊎ ((ℕ ⊎ ℕ) ⊎ ℕ) → Option Moment
six dues = both (both (both (armed_moment dues.slices) (armed_moment dues.decides)) (armed_moment dues.saves)) (both (both (armed_moment dues.blocks) (armed_moment dues.arrives)) (armed_moment dues.leaves))

pub least_six : (dues : Dues) (a b c d e f ab abc de def all : Option Moment)
    → IsLeast (armed_moment dues.slices) a → IsLeast (armed_moment dues.decides) b → IsLeast (armed_moment dues.saves) c
    → IsLeast (armed_moment dues.blocks) d → IsLeast (armed_moment dues.arrives) e → IsLeast (armed_moment dues.leaves) f
    → ab ≡ earlier_of_both a b → abc ≡ earlier_of_both ab c → de ≡ earlier_of_both d e → def ≡ earlier_of_both de f → all ≡ earlier_of_both abc def → IsLeast (six dues) all
least_six dues a b c d e f ab abc de def all of_a of_b of_c of_d of_e of_f is_ab is_abc is_de is_def is_all =
    least_earlier (both (both (armed_moment dues.slices) (armed_moment dues.decides)) (armed_moment dues.saves)) (both (both (armed_moment dues.blocks) (armed_moment dues.arrives)) (armed_moment dues.leaves)) abc def all is_all
    (least_earlier (both (armed_moment dues.slices) (armed_moment dues.decides)) (armed_moment dues.saves) ab c abc is_abc
    (least_earlier (armed_moment dues.slices) (armed_moment dues.decides) a b ab is_ab of_a of_b) of_c)
    (least_earlier (both (armed_moment dues.blocks) (armed_moment dues.arrives)) (armed_moment dues.leaves) de f def is_def
    (least_earlier (armed_moment dues.blocks) (armed_moment dues.arrives) d e de is_de of_d of_e) of_f)

pub least_within : (seen : Seen) (dues : Dues) (at : Option Moment) → AreArmed seen dues → IsLeast (six dues) at → IsLeast (ready_within seen) at
least_within seen dues at armed = least_same (six dues) (ready_within seen) at among from
  where
    among : (x : ((ℕ ⊎ ℕ) ⊎ ℕ) ⊎ ((ℕ ⊎ ℕ) ⊎ ℕ)) → (a : Action) × (ready_within seen a ≡ six dues x)
    among (inl (inl (inl r))) = (Slice (core r), sym (armed.slices.above r (omega arith)))
    among (inl (inl (inr r))) = (Decide (core r), sym (armed.decides.above r (omega arith)))
    among (inl (inr r)) = (Save (core r), sym (armed.saves.above r (omega arith)))
    among (inr (inl (inl p))) = (Block (processor p), sym (armed.blocks.above p (omega arith)))
    among (inr (inl (inr p))) = (Arrive (processor p), sym (armed.arrives.above p (omega arith)))
    among (inr (inr p)) = (Leave (processor p), sym (armed.leaves.above p (omega arith)))

    from : (a : Action) → (ready_within seen a ≡ None) ⊎ ((x : ((ℕ ⊎ ℕ) ⊎ ℕ) ⊎ ((ℕ ⊎ ℕ) ⊎ ℕ)) × (six dues x ≡ ready_within seen a))
    from (Block p) = inr (inr (inl (inl p.0)), armed.blocks.above p.0 (omega arith))
    from (Slice r) = inr (inl (inl (inl r.0)), armed.slices.above r.0 (omega arith))
    from (Arrive p) = inr (inr (inl (inr p.0)), armed.arrives.above p.0 (omega arith))
    from (Decide r) = inr (inl (inl (inr r.0)), armed.decides.above r.0 (omega arith))
    from (Leave p) = inr (inr (inr p.0), armed.leaves.above p.0 (omega arith))
    from (Save r) = inr (inl (inr r.0), armed.saves.above r.0 (omega arith))
    from a = inl refl
