-- How long the legs of a unit lie within a term, entry by entry.
use Rattle.std.proofs.Common.{◌≡◌, ◌≤◌, ◌+◌, ℕ, Bool, true, false, List, [], ◌∷◌, ◌⊎◌, refl, arith, cond, subst, sym, ◌∙◌, ap, inl, inr}
use Rattle.std.specs.Prelude.{Option, Some, None}
use Rattle.std.proofs.lemmas.List.Sums.{sum_by-cons}
use Rattle.sched_base.specs.declared.UnitId.{UnitId}
use Rattle.sched_model.specs.declared.event.Entry.{Entry}
use Rattle.sched_model.specs.declared.machine.Machine.{Machine}
use Rattle.sched_model.specs.declared.state.State.{State}
use Rattle.sched_model.specs.Places.{is_unit}
use Rattle.sched_model.specs.Runs.{Reached, IsRunFrom, after_entries, after_entry}
use Rattle.term_laws.specs.Term.{Leg, Term, late_of, leg_from, shared_span, time_on}
use Rattle.term_laws.specs.RtdsTerm.{legs, taken_by}
use Rattle.term_laws.proofs.TermSums.{leg_from-closed, leg_from-open, leg_from-starts, legs-none, legs-taken}
use Rattle.term_laws.proofs.Time.{time_goes_on}

-- the legs of the unit on the core r from here on, with the one that is open where the core has the unit
abbrev pub open_legs : State → ℕ → UnitId → Option UnitId → ℕ → List Entry → List Leg
open_legs last r u cur now entries = cond (is_unit cur u) (leg_from last r now entries ∷ legs last u entries) (legs last u entries)

-- where a leg ends does not hang on where it begins
ends_same : (last : State) (r a b : ℕ) (entries : List Entry) → (leg_from last r a entries).until ≡ (leg_from last r b entries).until
ends_same last r a b [] = refl
ends_same last r a b (entry ∷ entries) = go (ends_same last r a b entries) (late_of r entry.event) refl
  where
    go : (leg_from last r a entries).until ≡ (leg_from last r b entries).until → (o : Option ℕ) → late_of r entry.event ≡ o → (leg_from last r a (entry ∷ entries)).until ≡ (leg_from last r b (entry ∷ entries)).until
    go rest None is = ap (λ (l : Leg). l.until) (leg_from-open last r a entry entries is) ∙ rest ∙ sym (ap (λ (l : Leg). l.until) (leg_from-open last r b entry entries is))
    go rest (Some late) is = ap (λ (l : Leg). l.until) (leg_from-closed last r a late entry entries is) ∙ sym (ap (λ (l : Leg). l.until) (leg_from-closed last r b late entry entries is))

-- it ends now or later
pub ends_later : (m : Machine) (r a : ℕ) (entries : List Entry) (f : Reached) → IsRunFrom m f entries → f.state.now ≤ (leg_from (after_entries m f entries).state r a entries).until
ends_later m r a [] f run = omega arith
ends_later m r a (entry ∷ entries) f run =
    let last : State = (after_entries m f (entry ∷ entries)).state in
    let at = run.0.moment in
    let on = time_goes_on m f entry run.0 in
    go last (late_of r entry.event) refl (let rest = ends_later m r a entries (after_entry m f entry) run.1 in omega (arith, rest, on)) at
  where
    go : (last : State) (o : Option ℕ) → late_of r entry.event ≡ o → f.state.now ≤ (leg_from last r a entries).until → entry.at.0 ≡ f.state.now → f.state.now ≤ (leg_from last r a (entry ∷ entries)).until
    go last None is rest at = subst (λ (l : Leg). f.state.now ≤ l.until) (sym (leg_from-open last r a entry entries is)) rest
    go last (Some late) is rest at = subst (λ (l : Leg). f.state.now ≤ l.until) (sym (leg_from-closed last r a late entry entries is)) (omega (arith, at))

-- one leg more
one_leg : (term : Term) (l : Leg) (ls : List Leg) → time_on term (l ∷ ls) ≡ shared_span term l + time_on term ls
one_leg term l ls = sum_by-cons (shared_span term) l ls

leg_more : (term : Term) (l : Leg) (ls : List Leg) → time_on term ls ≤ time_on term (l ∷ ls)
leg_more term l ls = (let e = one_leg term l ls in omega (arith, e))

-- an entry takes no leg away
pub legs_more : (last : State) (u : UnitId) (term : Term) (entry : Entry) (entries : List Entry) → time_on term (legs last u entries) ≤ time_on term (legs last u (entry ∷ entries))
legs_more last u term entry entries = go (taken_by u entry.event) refl
  where
    go : (o : Option ℕ) → taken_by u entry.event ≡ o → time_on term (legs last u entries) ≤ time_on term (legs last u (entry ∷ entries))
    go None is = subst (λ ls. time_on term (legs last u entries) ≤ time_on term ls) (sym (legs-none last u entry entries is)) (omega arith)
    go (Some r) is = subst (λ ls. time_on term (legs last u entries) ≤ time_on term ls) (sym (legs-taken last u r entry entries is)) (leg_more term (leg_from last r entry.at.0 entries) (legs last u entries))

-- a leg that is begun later
shared_later : (term : Term) (l1 l2 : Leg) (k : ℕ) → l1.until ≡ l2.until → ((l2.from ≤ term.from) × (l1.from ≤ l2.from) × (k ≡ 0)) ⊎ ((term.from ≤ l1.from) × (l2.from ≤ term.until) × (l2.from ≤ l2.until) × (l1.from + k ≡ l2.from)) → shared_span term l2 + k ≤ shared_span term l1
shared_later term l1 l2 k same (inl early) = (let a = early.0 in let b = early.1 in let c = early.2 in omega (arith, same, a, b, c))
shared_later term l1 l2 k same (inr inside) = (let a = inside.0 in let b = inside.1 in let c = inside.2 in let d = inside.3 in omega (arith, same, a, b, c, d))

-- either the term begins later, and nothing is gained, or it is on
abbrev pub Gains : Term → ℕ → ℕ → ℕ → Type 0
Gains term now now2 k = ((now2 ≤ term.from) × (k ≡ 0)) ⊎ ((term.from ≤ now) × (now2 ≤ term.until) × (now + k ≡ now2))

module _ (m : Machine) (r : ℕ) (u : UnitId) (f : Reached) (entry : Entry) (entries : List Entry) (run : IsRunFrom m f (entry ∷ entries)) (cur cur2 : Option UnitId) where
  abbrev now : ℕ
  now = f.state.now

  abbrev now2 : ℕ
  now2 = (after_entry m f entry).state.now

  abbrev last : State
  last = (after_entries m f (entry ∷ entries)).state

  -- what an entry adds to the time in a term
  pub legs_step : (term : Term) (k : ℕ) → (late_of r entry.event ≡ None → cur2 ≡ cur) → ((late : ℕ) → late_of r entry.event ≡ Some late → (now2 ≡ now) × (taken_by u entry.event ≡ cond (is_unit cur2 u) (Some r) None))
      → Gains term now now2 k → time_on term (open_legs last r u cur2 now2 entries) + cond (is_unit cur u) k 0 ≤ time_on term (open_legs last r u cur now (entry ∷ entries))
  legs_step term k stays decides gains = go (late_of r entry.event) refl
    where
      on : now ≤ now2
      on = time_goes_on m f entry run.0

      more : time_on term (legs last u entries) ≤ time_on term (legs last u (entry ∷ entries))
      more = legs_more last u term entry entries

      still : late_of r entry.event ≡ None → shared_span term (leg_from last r now2 entries) + k ≤ shared_span term (leg_from last r now (entry ∷ entries))
      still is =
          let l1 : Leg = leg_from last r now (entry ∷ entries) in
          let l2 : Leg = leg_from last r now2 entries in
          let from1 : l1.from ≡ now = leg_from-starts last r now (entry ∷ entries) in
          let from2 : l2.from ≡ now2 = leg_from-starts last r now2 entries in
          let until : l1.until ≡ l2.until = ap (λ (l : Leg). l.until) (leg_from-open last r now entry entries is) ∙ ends_same last r now now2 entries in
          let later : now2 ≤ l2.until = ends_later m r now2 entries (after_entry m f entry) run.1 in
          let low = on in
          shared_later term l1 l2 k until (elim gains [
            | inl early ↦ inl ((let a = early.0 in omega (arith, a, from2)), omega (arith, from1, from2, low), early.1)
            | inr inside ↦ inr ((let a = inside.0 in omega (arith, a, from1)), (let b = inside.1 in omega (arith, b, from2)), omega (arith, later, from2), (let c = inside.2 in omega (arith, c, from1, from2)))
          ])

      open_case : (b : Bool) → late_of r entry.event ≡ None → time_on term (cond b (leg_from last r now2 entries ∷ legs last u entries) (legs last u entries)) + cond b k 0 ≤ time_on term (cond b (leg_from last r now (entry ∷ entries) ∷ legs last u (entry ∷ entries)) (legs last u (entry ∷ entries)))
      open_case true is =
          let a = one_leg term (leg_from last r now2 entries) (legs last u entries) in
          let b = one_leg term (leg_from last r now (entry ∷ entries)) (legs last u (entry ∷ entries)) in
          let c = still is in
          let d = more in
          omega (arith, a, b, c, d)
      open_case false is = (let d = more in omega (arith, d))

      -- the leg of the core's unit ends, and perhaps another begins
      old_more : (b : Bool) → time_on term (legs last u (entry ∷ entries)) ≤ time_on term (cond b (leg_from last r now (entry ∷ entries) ∷ legs last u (entry ∷ entries)) (legs last u (entry ∷ entries)))
      old_more true = leg_more term (leg_from last r now (entry ∷ entries)) (legs last u (entry ∷ entries))
      old_more false = omega arith

      begun : (b : Bool) → taken_by u entry.event ≡ cond b (Some r) None → now2 ≡ now → time_on term (cond b (leg_from last r now2 entries ∷ legs last u entries) (legs last u entries)) ≤ time_on term (legs last u (entry ∷ entries))
      begun true is same =
          let at : entry.at.0 ≡ now2 = run.0.moment ∙ sym same in
          let e : legs last u (entry ∷ entries) ≡ leg_from last r now2 entries ∷ legs last u entries = legs-taken last u r entry entries is ∙ ap (λ (n : ℕ). leg_from last r n entries ∷ legs last u entries) at in
          subst (λ ls. time_on term (leg_from last r now2 entries ∷ legs last u entries) ≤ time_on term ls) (sym e) (omega arith)
      begun false is same = more

      no_gain : (b : Bool) → now2 ≡ now → cond b k 0 ≡ 0
      no_gain true same = elim gains [ inl early ↦ early.1 | inr inside ↦ (let c = inside.2 in omega (arith, c, same)) ]
      no_gain false same = refl

      go : (o : Option ℕ) → late_of r entry.event ≡ o → time_on term (open_legs last r u cur2 now2 entries) + cond (is_unit cur u) k 0 ≤ time_on term (open_legs last r u cur now (entry ∷ entries))
      go None is =
          subst (λ (c : Option UnitId). time_on term (open_legs last r u c now2 entries) + cond (is_unit cur u) k 0 ≤ time_on term (open_legs last r u cur now (entry ∷ entries))) (sym (stays is)) (open_case (is_unit cur u) is)
      go (Some late) is =
          let d = decides late is in
          chain (time_on term (open_legs last r u cur2 now2 entries)) (cond (is_unit cur u) k 0) (time_on term (legs last u (entry ∷ entries))) (time_on term (open_legs last r u cur now (entry ∷ entries)))
          (begun (is_unit cur2 u) d.1 d.0) (no_gain (is_unit cur u) d.0) (old_more (is_unit cur u))
        where
          chain : (a k b c : ℕ) → a ≤ b → k ≡ 0 → b ≤ c → a + k ≤ c
          chain a k b c p q s = omega (arith, p, q, s)
