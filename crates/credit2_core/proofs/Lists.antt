-- Lists of units, with one more or one less, and what holds of each unit that is queued.
use Rattle.std.proofs.Common.{◌≡◌, ◌+◌, Bool, true, false, not, List, [], ◌∷◌, ◌++◌, length, map, refl, subst, sym, cond, arith, inl, inr}
use Rattle.std.specs.Prelude.{if◌then◌else◌, nat_lt}
use Rattle.std.specs.List.{AllByRecursion}
use Rattle.sched_base.specs.declared.UnitId.{UnitId}
use Rattle.sched_model.specs.Places.{has_listed_unit, without_unit, same_unit}
use Rattle.sched_base.proofs.Bools.{or_left, or_right, or_more}
use Rattle.sched_laws.proofs.Choices.{same_unit_same}
use Rattle.sched_laws.proofs.Counts.{same_unit_refl}
use Rattle.sched_ops.specs.Conditions.{IsApart}
use Rattle.arrival_queue.specs.Queues.{Queued, put_first, list_with}
use Rattle.queue_laws.specs.Arrivals.{arrival_order, arrivals}
use Rattle.std.proofs.Math.Bool.{or-true}
use Rattle.std.proofs.lemmas.Bool.{or_from, cases_Bool}

pub has_unit-push : (w u : UnitId) (units : List UnitId) → has_listed_unit units w ≡ false → same_unit w u ≡ false → has_listed_unit (units ++ u ∷ []) w ≡ false
has_unit-push w u [] absent other = or_from (same_unit w u) false other refl
has_unit-push w u (x ∷ units) absent other = or_from (same_unit w x) (has_listed_unit (units ++ u ∷ []) w) (or_left _ _ absent) (has_unit-push w u units (or_right (same_unit w x) _ absent) other)

pub same_unit-swap : (u w : UnitId) → same_unit u w ≡ false → same_unit w u ≡ false
same_unit-swap u w other = elim (cases_Bool (same_unit w u)) [
  | inl is ↦ (let e = same_unit_same w u is in absurd (let r = same_unit_refl w in let f : same_unit w w ≡ false = subst (λ (x : UnitId). same_unit x w ≡ false) (sym e) other in cc))
  | inr is ↦ is
]

pub apart_push : (u : UnitId) (units : List UnitId) → IsApart units → has_listed_unit units u ≡ false → IsApart (units ++ u ∷ [])
apart_push u [] apart absent = (refl, tt)
apart_push u (x ∷ units) apart absent = (
  has_unit-push x u units apart.0 (same_unit-swap u x (or_left _ _ absent)),
  apart_push u units apart.1 (or_right (same_unit u x) _ absent),
)

pub has_unit-without : (w u : UnitId) (units : List UnitId) → has_listed_unit units w ≡ false → has_listed_unit (without_unit u units) w ≡ false
has_unit-without w u [] absent = refl
has_unit-without w u (x ∷ units) absent =
    elim (not (same_unit u x)) as (λ b. has_listed_unit (cond b (x ∷ without_unit u units) (without_unit u units)) w ≡ false) [
      | true ↦ or_from (same_unit w x) (has_listed_unit (without_unit u units) w) (or_left _ _ absent) (has_unit-without w u units (or_right (same_unit w x) _ absent))
      | false ↦ has_unit-without w u units (or_right (same_unit w x) _ absent)
    ]

pub apart_without : (u : UnitId) (units : List UnitId) → IsApart units → IsApart (without_unit u units)
apart_without u [] apart = tt
apart_without u (x ∷ units) apart =
    elim (not (same_unit u x)) as (λ b. IsApart (cond b (x ∷ without_unit u units) (without_unit u units))) [
      | true ↦ (has_unit-without x u units apart.0, apart_without u units apart.1)
      | false ↦ apart_without u units apart.1
    ]

-- what holds of each item holds after one is put, and of the new one too
pub All-put : {X : Type 0} (P : X → Type 0) (t : X → Bool) (x : X) (xs : List X) → P x → AllByRecursion P xs → AllByRecursion P (put_first t x xs)
All-put P t x [] here all = (here, tt)
All-put P t x (y ∷ xs) here all =
    elim (t y) as (λ b. AllByRecursion P (if b then x ∷ y ∷ xs else y ∷ put_first t x xs)) [
      | true ↦ (here, (all.0, all.1))
      | false ↦ (all.0, All-put P t x xs here all.1)
    ]

pub put-All : {X : Type 0} (P : X → Type 0) (t : X → Bool) (x : X) (xs : List X) → AllByRecursion P (put_first t x xs) → P x × AllByRecursion P xs
put-All P t x [] all = all
put-All P t x (y ∷ xs) all =
    elim (t y) as (λ b. AllByRecursion P (if b then x ∷ y ∷ xs else y ∷ put_first t x xs) → P x × AllByRecursion P (y ∷ xs)) [
      | true ↦ λ a. (a.0, (a.1.0, a.1.1))
      | false ↦ λ a. (let r = put-All P t x xs a.1 in (r.0, (a.0, r.1)))
    ] all

arrived-All : (P : Queued → Type 0) (es : List Queued) → AllByRecursion P (arrival_order es) → AllByRecursion P es
arrived-All P [] all = tt
arrived-All P (e ∷ es) all = (let r = put-All P (λ x. nat_lt e.rank x.rank) e (arrival_order es) all in (r.0, arrived-All P es r.1))

map-All : (P : UnitId → Type 0) (es : List Queued) → AllByRecursion P (map (λ e. e.unit) es) → AllByRecursion (λ (e : Queued). P e.unit) es
map-All P [] all = tt
map-All P (e ∷ es) all = (all.0, map-All P es all.1)

pub queued_have : (P : UnitId → Type 0) (es : List Queued) → AllByRecursion P (arrivals es) → AllByRecursion (λ (e : Queued). P e.unit) es
queued_have P es all = arrived-All (λ e. P e.unit) es (map-All P (arrival_order es) all)

length-put : {X : Type 0} (t : X → Bool) (x : X) (xs : List X) → length (put_first t x xs) ≡ length xs + 1
length-put t x [] = refl
length-put t x (y ∷ xs) =
    elim (t y) as (λ b. length (if b then x ∷ y ∷ xs else y ∷ put_first t x xs) ≡ length (y ∷ xs) + 1) [
      | true ↦ omega arith
      | false ↦ (let r = length-put t x xs in omega (arith, r))
    ]

pub length-placed : (e : Queued) (es : List Queued) → length (list_with e es) ≡ length es + 1
length-placed e es = length-put _ e es

-- what holds of whatever is in the list holds of each
pub each_has : (units : List UnitId) (P : UnitId → Type 0) → ((u : UnitId) → has_listed_unit units u ≡ true → P u) → AllByRecursion P units
each_has [] P has = tt
each_has (u ∷ units) P has = (has u (or_more (same_unit u u) (has_listed_unit units u) (same_unit_refl u)), each_has units P (λ w there. has w (later w there)))
  where
    later : (w : UnitId) → has_listed_unit units w ≡ true → has_listed_unit (u ∷ units) w ≡ true
    later w there = rw there (or-true (same_unit w u))
