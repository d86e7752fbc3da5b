-- The legs of a unit, and what they add up to within a term.
use Rattle.std.proofs.Common.{◌≡◌, ◌≤◌, ◌+◌, ◌-◌, ℕ, Bool, true, false, List, [], ◌∷◌, refl, arith, ap, ◌∙◌, inl, inr}
use Rattle.std.specs.Prelude.{Option, Some, None, min, max}
use Rattle.std.proofs.lemmas.List.Sums.{sum_by-cons}
use Rattle.sched_base.specs.declared.UnitId.{UnitId}
use Rattle.sched_model.specs.declared.event.Entry.{Entry}
use Rattle.sched_model.specs.declared.machine.Machine.{Machine}
use Rattle.sched_model.specs.declared.state.State.{State}
use Rattle.sched_model.specs.Runs.{Reached, IsRunFrom, after_entry}
use Rattle.term_laws.specs.Term.{Leg, Term, late_now, late_of, leg_from, moves, shared_span, time_on, late_in, late_within}
use Rattle.term_laws.specs.RtdsTerm.{taken_by, legs, term_end}
use Rattle.term_laws.proofs.CoreSums.{counts_or_not}
use Rattle.term_laws.proofs.Time.{time_goes_on}

-- the time within the term is at most the allowance and what was late
abbrev pub Fits : Term → ℕ → List Leg → Type 0
Fits term allowed ls = time_on term ls ≤ allowed + late_within term ls

pub fits_nil : (term : Term) (allowed : ℕ) → Fits term allowed []
fits_nil term allowed = omega arith

pub fits_cons : (term : Term) (leg : Leg) (ls : List Leg) (allowed left : ℕ) → shared_span term leg + left ≤ allowed + late_in term leg → Fits term left ls → Fits term allowed (leg ∷ ls)
fits_cons term leg ls allowed left one rest =
    let a = sum_by-cons (shared_span term) leg ls in
    let b = sum_by-cons (late_in term) leg ls in
    omega (arith, a, b, one, rest)

-- a leg that is not met costs nothing
pub fits_unmet : (term : Term) (leg : Leg) (ls : List Leg) (allowed : ℕ) → shared_span term leg ≡ 0 → Fits term allowed ls → Fits term allowed (leg ∷ ls)
fits_unmet term leg ls allowed none rest = fits_cons term leg ls allowed allowed (omega (arith, none)) rest

-- a leg that is closed within the term: what is left then is allowed for
pub fits_closed : (term : Term) (leg : Leg) (ls : List Leg) (allowed left : ℕ) → left ≤ allowed → leg.until ≤ max leg.from term.from + left + leg.late
    → ((allowed2 : ℕ) → left - (leg.until - max leg.from term.from) ≤ allowed2 → Fits term allowed2 ls) → Fits term allowed (leg ∷ ls)
fits_closed term leg ls allowed left few late rest =
    elim (counts_or_not (shared_span term leg) leg.late) [
      | inl none ↦ fits_unmet term leg ls allowed none (rest allowed (omega (arith, few)))
      | inr is ↦ fits_cons term leg ls allowed (allowed + leg.late - shared_span term leg) (enough is.1) (rest (allowed + leg.late - shared_span term leg) remains)
    ]
  where
    part : shared_span term leg ≤ leg.until - max leg.from term.from
    part = omega arith

    enough : late_in term leg ≡ leg.late → shared_span term leg + (allowed + leg.late - shared_span term leg) ≤ allowed + late_in term leg
    enough is = (let p = part in omega (arith, p, is, few, late))

    remains : left - (leg.until - max leg.from term.from) ≤ allowed + leg.late - shared_span term leg
    remains = (let p = part in omega (arith, p, few, late))

-- a leg that is closed after the term
pub fits_over : (term : Term) (leg : Leg) (ls : List Leg) (allowed latest : ℕ) → term.until ≤ leg.until → leg.until ≤ latest + leg.late → latest ≤ max leg.from term.from + allowed → Fits term 0 ls → Fits term allowed (leg ∷ ls)
fits_over term leg ls allowed latest over late low rest =
    elim (counts_or_not (shared_span term leg) leg.late) [
      | inl none ↦ fits_cons term leg ls allowed 0 (omega (arith, none)) rest
      | inr is ↦ (let counts = is.1 in fits_cons term leg ls allowed 0 (omega (arith, counts, over, late, low)) rest)
    ]

-- nothing later than the term is in it
unmet_later : (term : Term) (leg : Leg) → term.until ≤ leg.from → shared_span term leg ≡ 0
unmet_later term leg later = omega arith

pub leg_from-starts : (s : State) (r t : ℕ) (entries : List Entry) → (leg_from s r t entries).from ≡ t
leg_from-starts s r t [] = refl
leg_from-starts s r t (entry ∷ entries) =
    elim (late_of r entry.event) as (λ o. (elim o as (λ _. Leg) [ Some late ↦ record { from = t; until = entry.at.0; late = late } | None ↦ leg_from s r t entries ]).from ≡ t) [
      | Some late ↦ refl
      | None ↦ leg_from-starts s r t entries
    ]

-- legs that begin when the term is over
pub fits_later : (m : Machine) (u : UnitId) (term : Term) (from : Reached) (entries : List Entry) (s : State) (allowed : ℕ) → IsRunFrom m from entries → term.until ≤ from.state.now → Fits term allowed (legs s u entries)
fits_later m u term from [] s allowed run over = fits_nil term allowed
fits_later m u term from (entry ∷ entries) s allowed run over =
    let moment_is = run.0.moment in
    let later = time_goes_on m from entry run.0 in
    let rest = fits_later m u term (after_entry m from entry) entries s allowed run.1 (omega (arith, over, later)) in
    elim (taken_by u entry.event) as (λ o. Fits term allowed (elim o as (λ _. List Leg) [ Some r ↦ leg_from s r entry.at.0 entries ∷ legs s u entries | None ↦ legs s u entries ])) [
      | Some r ↦ fits_unmet term (leg_from s r entry.at.0 entries) (legs s u entries) allowed (unmet_later term (leg_from s r entry.at.0 entries) (let b = leg_from-starts s r entry.at.0 entries in omega (arith, over, moment_is, b))) rest
      | None ↦ rest
    ]

pub leg_from-open : (s : State) (r a : ℕ) (entry : Entry) (entries : List Entry) → late_of r entry.event ≡ None → leg_from s r a (entry ∷ entries) ≡ leg_from s r a entries
leg_from-open s r a entry entries is = ap (λ (o : Option ℕ). elim o as (λ _. Leg) [ Some late ↦ record { from = a; until = entry.at.0; late = late } | None ↦ leg_from s r a entries ]) is

pub leg_from-closed : (s : State) (r a late : ℕ) (entry : Entry) (entries : List Entry) → late_of r entry.event ≡ Some late → leg_from s r a (entry ∷ entries) ≡ record { from = a; until = entry.at.0; late = late }
leg_from-closed s r a late entry entries is = ap (λ (o : Option ℕ). elim o as (λ _. Leg) [ Some late ↦ record { from = a; until = entry.at.0; late = late } | None ↦ leg_from s r a entries ]) is

pub legs-none : (s : State) (u : UnitId) (entry : Entry) (entries : List Entry) → taken_by u entry.event ≡ None → legs s u (entry ∷ entries) ≡ legs s u entries
legs-none s u entry entries is = ap (λ (o : Option ℕ). elim o as (λ _. List Leg) [ Some r ↦ leg_from s r entry.at.0 entries ∷ legs s u entries | None ↦ legs s u entries ]) is

pub legs-taken : (s : State) (u : UnitId) (r : ℕ) (entry : Entry) (entries : List Entry) → taken_by u entry.event ≡ Some r → legs s u (entry ∷ entries) ≡ leg_from s r entry.at.0 entries ∷ legs s u entries
legs-taken s u r entry entries is = ap (λ (o : Option ℕ). elim o as (λ _. List Leg) [ Some r ↦ leg_from s r entry.at.0 entries ∷ legs s u entries | None ↦ legs s u entries ]) is

pub term_end-goes : (d deadline : ℕ) (entry : Entry) (entries : List Entry) → moves d entry.event ≡ false → term_end d deadline (entry ∷ entries) ≡ term_end d deadline entries
term_end-goes d deadline entry entries is = ap (λ (b : Bool). elim b as (λ _. ℕ) [ true ↦ min entry.at.0 deadline | false ↦ term_end d deadline entries ]) is

pub term_end-moves : (d deadline : ℕ) (entry : Entry) (entries : List Entry) → moves d entry.event ≡ true → term_end d deadline (entry ∷ entries) ≡ min entry.at.0 deadline
term_end-moves d deadline entry entries is = ap (λ (b : Bool). elim b as (λ _. ℕ) [ true ↦ min entry.at.0 deadline | false ↦ term_end d deadline entries ]) is

pub term_end-le : (d deadline : ℕ) (entries : List Entry) → term_end d deadline entries ≤ deadline
term_end-le d deadline [] = omega arith
term_end-le d deadline (entry ∷ entries) =
    elim (moves d entry.event) as (λ b. elim b as (λ _. ℕ) [ true ↦ min entry.at.0 deadline | false ↦ term_end d deadline entries ] ≤ deadline) [
      | true ↦ omega arith
      | false ↦ term_end-le d deadline entries
    ]

-- an open leg: the core, and the moment from which the unit is there
abbrev pub Open : Type 0
Open = Option (ℕ × ℕ)

-- the legs of the unit, with the one that is open first
abbrev pub legs_with : UnitId → State → Open → List Entry → List Leg
legs_with u last None entries = legs last u entries
legs_with u last (Some leg) entries = leg_from last leg.0 leg.1 entries ∷ legs last u entries

-- the legs, with the one that a decision at a moment closes, where one was open
abbrev pub with_closed : ℕ → State → Open → List Leg → List Leg
with_closed t s None ls = ls
with_closed t s (Some leg) ls = record { from = leg.1; until = t; late = late_now s leg.0 } ∷ ls

-- the leg that a decision at a moment begins, if any
abbrev pub begun_at : ℕ → Option ℕ → Open
begun_at t None = None
begun_at t (Some r) = Some (r, t)

-- an entry that leaves the open leg as it is, and one that closes it, if there is one, and may begin another
pub legs-still : (u : UnitId) (last : State) (leg : Open) (entry : Entry) (entries : List Entry) → ((l : ℕ × ℕ) → leg ≡ Some l → late_of l.0 entry.event ≡ None) → taken_by u entry.event ≡ None → legs_with u last leg (entry ∷ entries) ≡ legs_with u last leg entries
legs-still u last None entry entries open_still none = legs-none last u entry entries none
legs-still u last (Some leg) entry entries open_still none =
    ap (λ l. l ∷ legs last u (entry ∷ entries)) (leg_from-open last leg.0 leg.1 entry entries (open_still leg refl)) ∙ ap (λ ls. leg_from last leg.0 leg.1 entries ∷ ls) (legs-none last u entry entries none)

pub legs-decided : (u : UnitId) (last s : State) (leg : Open) (taken : Option ℕ) (entry : Entry) (entries : List Entry) → ((l : ℕ × ℕ) → leg ≡ Some l → late_of l.0 entry.event ≡ Some (late_now s l.0)) → taken_by u entry.event ≡ taken
    → legs_with u last leg (entry ∷ entries) ≡ with_closed entry.at.0 s leg (legs_with u last (begun_at entry.at.0 taken) entries)
legs-decided u last s leg taken entry entries closes is = by_leg leg closes
  where
    begun : (o : Option ℕ) → taken_by u entry.event ≡ o → legs last u (entry ∷ entries) ≡ legs_with u last (begun_at entry.at.0 o) entries
    begun None none = legs-none last u entry entries none
    begun (Some r) some = legs-taken last u r entry entries some

    by_leg : (o : Open) → ((l : ℕ × ℕ) → o ≡ Some l → late_of l.0 entry.event ≡ Some (late_now s l.0)) → legs_with u last o (entry ∷ entries) ≡ with_closed entry.at.0 s o (legs_with u last (begun_at entry.at.0 taken) entries)
    by_leg None closes2 = begun taken is
    by_leg (Some l) closes2 =
        ap (λ x. x ∷ legs last u (entry ∷ entries)) (leg_from-closed last l.0 l.1 (late_now s l.0) entry entries (closes2 l refl))
        ∙ ap (λ ls. record { from = l.1; until = entry.at.0; late = late_now s l.0 } ∷ ls) (begun taken is)
