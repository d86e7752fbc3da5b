-- What the words of a set of moments tell: a change of one id, a later moment told, and the walks over an id after another.
use Rattle.std.proofs.Common.{◌≡◌, ◌≢◌, ℕ, ◌≤◌, ◌<◌, Option, Some, None, List, length, set, Bool, true, false, refl, sym, ◌∙◌, ap, subst, inl, inr, arith}
use Rattle.std.specs.Prelude.{IfNone, IfSome, ◌&&◌, ◌||◌, not, if◌then◌else◌}
use Rattle.std.proofs.Math.Decide.{ℕ_discrete}
use Rattle.std.proofs.lemmas.Bool.{cases_lt}
use Rattle.std.proofs.lemmas.Bool.Decides.{nat_tests}
use Rattle.std.proofs.lemmas.List.{get_or-set_same, get_or-set_other, get_or_past, length-set}
use Rattle.sched_base.specs.declared.Moment.{Moment}
use Rattle.due_heap.specs.declared.set.Sifted.{Sifted}
use Rattle.due_heap.specs.declared.set.Words.{Words}
use Rattle.due_heap.specs.Dues.{IsArmed, GoesFirst, HasCome, armed_moment}
use Rattle.due_heap.specs.Winners.{precedes, is_armed_due}
use Rattle.sched_base.specs.Numbers.{has_moment_come}
use Rattle.due_heap.specs.Words.{AreWords, ChangesId, IsFirstAmong, IsFirstCome, IsLowest, Sifts, TakesDue, first_with_id, has_core_bit, is_later}
use Rattle.due_heap.proofs.Tree.{armed_below, precedes-goes_first}
use Rattle.due_heap.proofs.Descent.{is_come, past_of}

-- ---- the order by moment, then by id

goes_first-same : (at : Moment) (id : ℕ) → GoesFirst at id at id
goes_first-same at id = record { by_moment = omega arith; then_by_id = λ e. omega arith }

goes_first-trans : (a : Moment) (i : ℕ) (b : Moment) (j : ℕ) (c : Moment) (k : ℕ) → GoesFirst a i b j → GoesFirst b j c k → GoesFirst a i c k
goes_first-trans a i b j c k p q =
    let p_at = p.by_moment in
    let q_at = q.by_moment in
    record {
      by_moment = omega (arith, p_at, q_at);
      then_by_id = λ e.
          let p_id = p.then_by_id (omega (arith, e, p_at, q_at)) in
          let q_id = q.then_by_id (omega (arith, e, p_at, q_at)) in
          omega (arith, p_id, q_id);
    }

before-goes_first : (a : Moment) (i : ℕ) (b : Moment) (j : ℕ) → precedes (Some a) i (Some b) j ≡ true → GoesFirst a i b j
before-goes_first a i b j before = record { by_moment = grind (arith, nat_tests, before); then_by_id = λ e. grind (arith, nat_tests, before, e) }

-- an id has one moment
one_moment : (moments : List (Option Moment)) (id : ℕ) (a b : Moment) → IsArmed moments id a → IsArmed moments id b → a ≡ b
one_moment moments id a b p q = let e : Some a ≡ Some b = sym p ∙ q in cc

-- ---- the first of a set's armed ids

-- fewer ids, with the same first, and the first of no ids
pub among_fewer : (moments : List (Option Moment)) (more fewer : ℕ → Bool) (first : Option (Moment × ℕ))
    → ((id : ℕ) (at : Moment) → IsArmed moments id at → fewer id ≡ true → more id ≡ true) → IsFirstAmong moments more first → IsFirstAmong moments fewer first
among_fewer moments more fewer None within is = λ id at has armed. is id at (within id at armed has) armed
among_fewer moments more fewer (Some due) within is = (is.0, λ id at has armed. is.1 id at (within id at armed has) armed)

module _ (moments : List (Option Moment)) (fewer more : ℕ → Bool) (id : ℕ)
    (within : (other : ℕ) → more other ≡ true → other ≢ id → fewer other ≡ true) where
  -- an armed id goes before whatever moment it has
  same_id : (at m : Moment) (w : Moment) (i : ℕ) (other : ℕ) → other ≡ id → IsArmed moments id at → IsArmed moments other m → GoesFirst w i at id → GoesFirst w i m other
  same_id at m w i other e armed be here =
      let there : IsArmed moments id m = subst (λ (k : ℕ). IsArmed moments k m) e be in
      subst (λ (k : ℕ). GoesFirst w i m k) (sym e) (subst (λ (x : Moment). GoesFirst w i x id) (one_moment moments id at m armed there) here)

  not_armed : (m : Moment) (other : ℕ) → other ≡ id → armed_moment moments id ≡ None → IsArmed moments other m → ⊥
  not_armed m other e none be = let there : IsArmed moments id m = subst (λ (k : ℕ). IsArmed moments k m) e be in absurd (cc)

  -- one id more, with its moment, if it is armed
  pub among_more : (first : Option (Moment × ℕ)) (due : Option Moment) → armed_moment moments id ≡ due
      → IsFirstAmong moments fewer first → IsFirstAmong moments more (first_with_id first due id)
  among_more None None armed is = λ other m has be.
      elim (ℕ_discrete other id) [ yes e ↦ not_armed m other e armed be | no ne ↦ is other m (within other has ne) be ]
  among_more (Some due) None armed is = (
    is.0,
    λ other m has be.
        elim (ℕ_discrete other id) [ yes e ↦ absurd (not_armed m other e armed be) | no ne ↦ is.1 other m (within other has ne) be ],
  )
  among_more None (Some at) armed is = (
    armed,
    λ other m has be.
        elim (ℕ_discrete other id) [
          | yes e ↦ same_id at m at id other e armed be (goes_first-same at id)
          | no ne ↦ absurd (is other m (within other has ne) be)
        ],
  )
  among_more (Some due) (Some at) armed is = by (precedes (Some at) id (Some due.0) due.1) refl
    where
      first_of_two : (w : Moment) (i : ℕ) → GoesFirst w i at id → GoesFirst w i due.0 due.1 → (other : ℕ) (m : Moment) → more other ≡ true → IsArmed moments other m → GoesFirst w i m other
      first_of_two w i here rest other m has be =
          elim (ℕ_discrete other id) [
            | yes e ↦ same_id at m w i other e armed be here
            | no ne ↦ goes_first-trans w i due.0 due.1 m other rest (is.1 other m (within other has ne) be)
          ]

      by : (b : Bool) → precedes (Some at) id (Some due.0) due.1 ≡ b → IsFirstAmong moments more (if b then Some (at, id) else Some due)
      by true before = (armed, first_of_two at id (goes_first-same at id) (before-goes_first at id due.0 due.1 before))
      by false after = (is.0, first_of_two due.0 due.1 (precedes-goes_first due.0 due.1 at id after) (goes_first-same due.0 due.1))

-- an id that is no longer to be looked at was so before, but for the one looked at now
pub looked_before : (among id rest rest_new : ℕ) → ChangesId id false rest rest_new
    → (other : ℕ) → (has_core_bit among other && not (has_core_bit rest_new other)) ≡ true → other ≢ id → (has_core_bit among other && not (has_core_bit rest other)) ≡ true
looked_before among id rest rest_new change other has ne = ap (λ (b : Bool). has_core_bit among other && not b) (sym (change.others other ne)) ∙ has

-- where none is left to be looked at, each was
pub all_looked_at : (among rest : ℕ) → ((id : ℕ) → has_core_bit rest id ≡ false) → (id : ℕ) → has_core_bit among id ≡ true → (has_core_bit among id && not (has_core_bit rest id)) ≡ true
all_looked_at among rest none id has = ap (λ (b : Bool). has_core_bit among id && not b) (none id) ∙ ap (λ (b : Bool). b && true) has

-- ---- the walk that finds which later ids come

-- the set has what has come at t of those that are no longer to be looked at
pub record AreComeBut (moments : List (Option Moment)) (t among rest come : ℕ) : Type 0 where
  pub left : (id : ℕ) → id < 64 → has_core_bit rest id ≡ true → has_core_bit among id ≡ true
  pub come_is : (id : ℕ) → id < 64 → has_core_bit come id ≡ (not (has_core_bit rest id) && (has_core_bit among id && is_armed_due moments t id))

now_looked : (rest among come : Bool) → rest ≡ false → among ≡ true → come ≡ (not rest && (among && come))
now_looked true among come p q = let wrong : true ≡ false = p in absurd (cc)
now_looked false false come p q = let wrong : false ≡ true = q in absurd (cc)
now_looked false true come p q = refl

pub come_more : (moments : List (Option Moment)) (t among id rest rest_new come come_new : ℕ) → IsLowest rest id
    → ChangesId id false rest rest_new → ChangesId id (is_armed_due moments t id) come come_new
    → AreComeBut moments t among rest come → AreComeBut moments t among rest_new come_new
come_more moments t among id rest rest_new come come_new low without put are = record {
  left = λ other few has. elim (ℕ_discrete other id) [
    | yes e ↦ subst (λ (k : ℕ). has_core_bit among k ≡ true) (sym e) (are.left id low.few low.has)
    | no ne ↦ are.left other few (sym (without.others other ne) ∙ has)
  ];
  come_is = λ other few. elim (ℕ_discrete other id) [
    | yes e ↦ subst (λ (k : ℕ). has_core_bit come_new k ≡ (not (has_core_bit rest_new k) && (has_core_bit among k && is_armed_due moments t k))) (sym e)
        (put.here ∙ now_looked (has_core_bit rest_new id) (has_core_bit among id) (is_armed_due moments t id) without.here (are.left id low.few low.has))
    | no ne ↦ put.others other ne ∙ are.come_is other few ∙ ap (λ (b : Bool). not b && (has_core_bit among other && is_armed_due moments t other)) (sym (without.others other ne))
  ];
}

-- none of those that are no longer to be looked at, and whose moment is after t, goes before the bound
abbrev pub IsBoundBut : List (Option Moment) → ℕ → ℕ → ℕ → Moment → ℕ → Type 0
IsBoundBut moments t among rest soon next = (id : ℕ) (at : Moment) → has_core_bit among id ≡ true → has_core_bit rest id ≡ false → IsArmed moments id at → t < at.0 → GoesFirst soon next at id

pub bound_more : (moments : List (Option Moment)) (t among id rest rest_new : ℕ) (old new : Sifted) → ChangesId id false rest rest_new → Sifts moments id t old new
    → IsBoundBut moments t among rest old.soon old.next → IsBoundBut moments t among rest_new new.soon new.next
bound_more moments t among id rest rest_new old new change sifts so_far = λ other at has gone armed after.
    elim (ℕ_discrete other id) [
      | yes e ↦ subst (λ (k : ℕ). GoesFirst new.soon new.next at k) (sym e) (sifts.soon at (subst (λ (k : ℕ). IsArmed moments k at) e armed) after)
      | no ne ↦ sifts.others at other (so_far other at has (sym (change.others other ne) ∙ gone) armed after)
    ]

-- an id that is still to be looked at is not among those that have come
pub not_come_yet : (moments : List (Option Moment)) (t among id rest come : ℕ) → IsLowest rest id → AreComeBut moments t among rest come → has_core_bit come id ≡ false
not_come_yet moments t among id rest come low are =
    are.come_is id low.few ∙ ap (λ (b : Bool). not b && (has_core_bit among id && is_armed_due moments t id)) low.has

-- ---- one id takes its moment, or none

pub taken : (moments : List (Option Moment)) (id : ℕ) (due : Option Moment) (old new : Words) → id < length moments → TakesDue id due old new
    → AreWords moments old → AreWords (set moments id due) new
taken moments id due old new below takes are = record {
  few = let len = length-set moments id due in let few = are.few in omega (arith, len, few);
  come = λ other few. word other old.come new.come (has_moment_come old.told.0) (has_moment_come new.told.0) (ap (λ (t : Moment). has_moment_come t.0) (sym takes.told)) takes.come (are.come other few);
  later = λ other few. word other old.later new.later (is_later old.told.0) (is_later new.told.0) (ap (λ (t : Moment). is_later t.0) (sym takes.told)) takes.later (are.later other few);
  soon = λ other at armed after.
      let late : old.told.0 < at.0 = subst (λ (t : Moment). t.0 < at.0) takes.told after in
      elim (ℕ_discrete other id) [
        | yes e ↦
            let here : due ≡ Some at = sym (get_or-set_same moments id due None below) ∙ subst (λ (k : ℕ). IsArmed (set moments id due) k at) e armed in
            subst (λ (k : ℕ). GoesFirst new.soon new.next at k) (sym e) (takes.soon at here late)
        | no ne ↦
            let was : IsArmed moments other at = sym (get_or-set_other moments id other due None ne) ∙ armed in
            takes.others at other (are.soon other at was late)
      ];
}
  where
    word : (other w v : ℕ) (old_test new_test : Option Moment → Bool) → old_test ≡ new_test → ChangesId id (old_test due) w v
        → has_core_bit w other ≡ old_test (armed_moment moments other) → has_core_bit v other ≡ new_test (armed_moment (set moments id due) other)
    word other w v old_test new_test tests change was =
        elim (ℕ_discrete other id) [
          | yes e ↦ subst (λ (k : ℕ). has_core_bit v k ≡ new_test (armed_moment (set moments id due) k)) (sym e)
              (change.here ∙ ap old_test (sym (get_or-set_same moments id due None below)) ∙ ap (λ (f : Option Moment → Bool). f (armed_moment (set moments id due) id)) tests)
          | no ne ↦ change.others other ne ∙ was ∙ ap old_test (sym (get_or-set_other moments id other due None ne)) ∙ ap (λ (f : Option Moment → Bool). f (armed_moment (set moments id due) other)) tests
        ]

-- ---- a later moment told

not_past_is : (t : ℕ) (at : Moment) → t < at.0 → has_moment_come t (Some at) ≡ false
not_past_is t at high = grind (arith, nat_tests, high)

past_same : (told t : ℕ) (due : Option Moment) → told ≤ t → ((at : Moment) → due ≡ Some at → told < at.0 → t < at.0) → has_moment_come t due ≡ has_moment_come told due
past_same told t None le none = refl
past_same told t (Some at) le none =
    elim (cases_lt told at.0) [
      | inl lt ↦ not_past_is t at (none at refl lt) ∙ sym (not_past_is told at lt)
      | inr ge ↦ past_of t at (omega (arith, ge, le)) ∙ sym (past_of told at ge)
    ]

-- where no id comes up to t, what has come at t had come at the moment told
pub past_till : (moments : List (Option Moment)) (words : Words) (t : ℕ) → AreWords moments words → words.told.0 ≤ t → (words.told.0 < t → t < words.soon.0)
    → (id : ℕ) → is_armed_due moments t id ≡ is_armed_due moments words.told.0 id
past_till moments words t are le till id =
    past_same words.told.0 t (armed_moment moments id) le (λ at armed after.
    let first = (are.soon id at armed after).by_moment in
    elim (cases_lt words.told.0 t) [
      | inl lt ↦ let before = till lt in omega (arith, first, before)
      | inr ge ↦ omega (arith, ge, after)
    ])

or_more : (p q : Bool) → (p ≡ true → q ≡ true) → (p || (not p && q)) ≡ q
or_more true q still_is = sym (still_is refl)
or_more false q still_is = refl

and_less : (p q : Bool) → (p ≡ true → q ≡ true) → (not p && not (not p && q)) ≡ not q
and_less true q still_is = let e : q ≡ true = still_is refl in ap not (sym e)
and_less false q still_is = refl

come_of : (t : ℕ) (at : Moment) → has_moment_come t (Some at) ≡ true → at.0 ≤ t
come_of t at e = grind (arith, nat_tests, e)

still : (told t : ℕ) (at : Moment) → told ≤ t → has_moment_come told (Some at) ≡ true → has_moment_come t (Some at) ≡ true
still told t at le past = let low = come_of told at past in past_of t at (omega (arith, low, le))

past_more : (told t : ℕ) (due : Option Moment) → told ≤ t → (has_moment_come told due || (is_later told due && has_moment_come t due)) ≡ has_moment_come t due
past_more told t None le = refl
past_more told t (Some at) le = or_more (has_moment_come told (Some at)) (has_moment_come t (Some at)) (still told t at le)

later_less : (told t : ℕ) (due : Option Moment) → told ≤ t → (is_later told due && not (is_later told due && has_moment_come t due)) ≡ is_later t due
later_less told t None le = refl
later_less told t (Some at) le = and_less (has_moment_come told (Some at)) (has_moment_come t (Some at)) (still told t at le)

later_is : (moments : List (Option Moment)) (t id : ℕ) (at : Moment) → IsArmed moments id at → t < at.0 → is_later t (armed_moment moments id) ≡ true
later_is moments t id at armed after = ap (is_later t) armed ∙ ap not (not_past_is t at after)

-- a moment told at which ids may come: those of the later ones that come, those that do not, and a bound of these
pub told_looked : (moments : List (Option Moment)) (words : Words) (t : Moment) (come both later : ℕ) (soon : Moment) (next : ℕ)
    → AreWords moments words → words.told.0 ≤ t.0
    → ((id : ℕ) → id < 64 → has_core_bit come id ≡ (has_core_bit words.later id && is_armed_due moments t.0 id))
    → ((id : ℕ) → has_core_bit both id ≡ (has_core_bit words.come id || has_core_bit come id))
    → ((id : ℕ) → id < 64 → has_core_bit later id ≡ (has_core_bit words.later id && not (has_core_bit come id)))
    → ((id : ℕ) (at : Moment) → has_core_bit words.later id ≡ true → IsArmed moments id at → t.0 < at.0 → GoesFirst soon next at id)
    → AreWords moments (record { told = t; come = both; later = later; soon = soon; next = next })
told_looked moments words t come both later soon next are le come_is both_is later_is_of bound = record {
  few = are.few;
  come = λ id few. both_is id ∙ ap (λ (b : Bool). has_core_bit words.come id || b) (came id few) ∙ ap (λ (b : Bool). b || (is_later words.told.0 (armed_moment moments id) && is_armed_due moments t.0 id)) (are.come id few)
      ∙ past_more words.told.0 t.0 (armed_moment moments id) le;
  later = λ id few. later_is_of id few ∙ ap (λ (b : Bool). has_core_bit words.later id && not b) (came id few)
      ∙ ap (λ (b : Bool). b && not (is_later words.told.0 (armed_moment moments id) && is_armed_due moments t.0 id)) (are.later id few) ∙ later_less words.told.0 t.0 (armed_moment moments id) le;
  soon = λ id at armed after.
      let few : id < 64 = (let lt = armed_below moments id at armed in let few = are.few in omega (arith, lt, few)) in
      bound id at (are.later id few ∙ later_is moments words.told.0 id at armed (omega (arith, le, after))) armed after;
}
  where
    came : (id : ℕ) → id < 64 → has_core_bit come id ≡ (is_later words.told.0 (armed_moment moments id) && is_armed_due moments t.0 id)
    came id few = come_is id few ∙ ap (λ (b : Bool). b && is_armed_due moments t.0 id) (are.later id few)

-- ---- the least id that has come, and the first armed id

pub lowest_come : (moments : List (Option Moment)) (words : Words) (t : ℕ) (first : Option ℕ) → AreWords moments words
    → ((id : ℕ) → is_armed_due moments t id ≡ is_armed_due moments words.told.0 id)
    → IfNone first ((id : ℕ) → has_core_bit words.come id ≡ false) → IfSome first (IsLowest words.come) → IsFirstCome moments t first
lowest_come moments words t None are same none low = λ id.
    elim (cases_lt id 64) [
      | inl few ↦ same id ∙ sym (are.come id few) ∙ none id
      | inr past ↦ let few = are.few in ap (has_moment_come t) (get_or_past moments id None (omega (arith, past, few)))
    ]
lowest_come moments words t (Some first) are same none low = (
  same first ∙ sym (are.come first low.few) ∙ low.has,
  λ id h.
      let first_few = low.few in same id ∙ sym (are.come id (omega (arith, h, first_few))) ∙ low.below id h,
)

pub come_some : (moments : List (Option Moment)) (t : ℕ) (first : Option ℕ) → IsFirstCome moments t first → IfSome first (λ id. HasCome moments t id)
come_some moments t None is = tt
come_some moments t (Some first) is = is_come t moments first is.0

either : (p : Bool) → (p || not p) ≡ true
either true = refl
either false = refl

-- an armed id is one of those that have come or are later
pub all_told : (moments : List (Option Moment)) (words : Words) (both : ℕ) (first : Option (Moment × ℕ)) → AreWords moments words
    → ((id : ℕ) → has_core_bit both id ≡ (has_core_bit words.come id || has_core_bit words.later id)) → IsFirstAmong moments (has_core_bit both) first → IsFirstAmong moments (λ (_ : ℕ). true) first
all_told moments words both first are both_is is =
    among_fewer moments (has_core_bit both) (λ (_ : ℕ). true) first (λ id at armed _.
    let lt = armed_below moments id at armed in
    let few = are.few in
    let in_words : id < 64 = omega (arith, lt, few) in
    both_is id ∙ ap (λ (b : Bool). b || has_core_bit words.later id) (are.come id in_words) ∙ ap (λ (b : Bool). is_armed_due moments words.told.0 id || b) (are.later id in_words)
    ∙ ap (λ (due : Option Moment). has_moment_come words.told.0 due || is_later words.told.0 due) armed ∙ either (has_moment_come words.told.0 (Some at))) is

-- ---- the walk that finds the least armed id that has come

-- none has come of those that are no longer to be looked at
abbrev pub AreLookedAt : List (Option Moment) → ℕ → ℕ → Type 0
AreLookedAt moments t rest = (id : ℕ) → id < 64 → has_core_bit rest id ≡ false → is_armed_due moments t id ≡ false

unarmed : (told t : ℕ) (due : Option Moment) → (has_moment_come told due || is_later told due) ≡ false → has_moment_come t due ≡ false
unarmed told t None none = refl
unarmed told t (Some at) none = let yes = either (has_moment_come told (Some at)) in absurd (cc)

pub all_armed : (moments : List (Option Moment)) (words : Words) (both t : ℕ) → AreWords moments words
    → ((id : ℕ) → has_core_bit both id ≡ (has_core_bit words.come id || has_core_bit words.later id)) → AreLookedAt moments t both
all_armed moments words both t are both_is = λ id few none.
    unarmed words.told.0 t (armed_moment moments id)
    (ap (λ (b : Bool). b || is_later words.told.0 (armed_moment moments id)) (sym (are.come id few))
    ∙ ap (λ (b : Bool). has_core_bit words.come id || b) (sym (are.later id few))
    ∙ sym (both_is id)
    ∙ none)

pub looked_more : (moments : List (Option Moment)) (t id rest rest_new : ℕ) → ChangesId id false rest rest_new → is_armed_due moments t id ≡ false
    → AreLookedAt moments t rest → AreLookedAt moments t rest_new
looked_more moments t id rest rest_new change not_come are = λ other few none. elim (ℕ_discrete other id) [
  | yes e ↦ subst (λ (k : ℕ). is_armed_due moments t k ≡ false) (sym e) not_come
  | no ne ↦ are other few (sym (change.others other ne) ∙ none)
]

pub looked_some : (moments : List (Option Moment)) (t id rest : ℕ) → IsLowest rest id → is_armed_due moments t id ≡ true
    → AreLookedAt moments t rest → IsFirstCome moments t (Some id)
looked_some moments t id rest low come are = (come, λ other h. let few = low.few in are other (omega (arith, few, h)) (low.below other h))

pub looked_none : (moments : List (Option Moment)) (words : Words) (t rest : ℕ) → AreWords moments words → ((id : ℕ) → has_core_bit rest id ≡ false)
    → AreLookedAt moments t rest → IsFirstCome moments t None
looked_none moments words t rest words_are none are = λ id. elim (cases_lt id 64) [
  | inl few ↦ are id few (none id)
  | inr past ↦ let few = words_are.few in ap (has_moment_come t) (get_or_past moments id None (omega (arith, past, few)))
]
