-- What is read of the tallies stays true while time passes, and while something is given.
use Rattle.std.proofs.Common.{◌≡◌, ◌≢◌, ℕ, ◌+◌, ◌-◌, ◌≤◌, ◌<◌, Bool, true, false, not, cond, List, [], ◌∷◌, length, sym, ap, subst, arith, ◌∙◌, inl, inr, refl, true≢false}
use Rattle.std.specs.Prelude.{Option, Some, None, is_some, ◌&&◌, ◌==◌, slice_set}
use Rattle.std.proofs.lemmas.Bool.{cases_eq, eq-eqb, ne_eqb, eqb-true}
use Rattle.std.proofs.lemmas.List.{get_or-set_same, get_or-set_other}
use Rattle.std.proofs.Math.Nat.{le-max_left}
use Rattle.sched_model.specs.declared.event.Entry.{Entry}
use Rattle.sched_times.specs.declared.grant.Grant.{Grant}
use Rattle.sched_times.specs.declared.range.Range.{Range}
use Rattle.sched_times.specs.declared.tally.ResourceTally.{ResourceTally}
use Rattle.sched_times.specs.declared.tally.UserTally.{UserTally}
use Rattle.sched_times.specs.Times.{over_at, told_by, told_until, told_of}
use Rattle.sched_times.specs.Present.{Rule, is_number, user_of, held_by, has_after}
use Rattle.sched_times.specs.Tallies.{unused, awake, resource_at, user_at, open_run, open_wait, having, sleeping, changed_at, loser, users_given}
use Rattle.sched_times.proofs.Within.{length-changed}

-- the time of the range never goes back
pub over-more : (range : Range) (a b : ℕ) → a ≤ b → over_at range a ≤ over_at range b
over-more range a b le = omega arith

pub told-more : (range : Range) (horizon : ℕ) (e : Entry) (before : List Entry) → told_of range horizon before ≤ told_of range horizon (e ∷ before)
told-more range horizon e before =
    over-more range (told_until horizon before) (told_until horizon (e ∷ before)) (le-max_left (told_until horizon before) (told_by horizon e))

-- a sum with what is open of it, when time passes
pub passes : (b : Bool) (sum since old now : ℕ) → since ≤ old → old ≤ now → let now_open : ℕ = cond b (now - since) 0 in let old_open : ℕ = cond b (old - since) 0 in let more : ℕ = cond b (now - old) 0 in sum + now_open ≡ sum + old_open + more
passes true sum since old now low high = omega (arith, low, high)
passes false sum since old now low high = omega arith

-- what is counted up to now is all there is
pub closed : (b c : Bool) (sum since now : ℕ) → let open_now : ℕ = cond b (now - since) 0 in let nothing : ℕ = cond c (now - now) 0 in (sum + open_now) + nothing ≡ sum + open_now
closed b true sum since now = omega arith
closed b false sum since now = omega arith

-- the tally of the user k with another one changed
pub user-changed : (o : Option ℕ) (f : UserTally → UserTally) (users : List UserTally) (k : ℕ) → k < length users
    → user_at (changed_at o f users) k ≡ cond (is_number o k) (f (user_at users k)) (user_at users k)
user-changed None f users k below = refl
user-changed (Some j) f users k below = elim (cases_eq k j) [
  | inl e ↦
      subst (λ i. user_at (slice_set users j (f (user_at users j))) i ≡ cond (j == i) (f (user_at users i)) (user_at users i)) (sym e)
      (get_or-set_same users j (f (user_at users j)) awake (omega (arith, e, below)) ∙ sym (ap (λ b. cond b (f (user_at users j)) (user_at users j)) (eq-eqb j j refl)))
  | inr apart ↦ get_or-set_other users j k (f (user_at users j)) awake apart ∙ sym (ap (λ b. cond b (f (user_at users k)) (user_at users k)) (ne_eqb j k (λ e. apart (sym e))))
]

pub resource-changed : (r : ℕ) (f : ResourceTally → ResourceTally) (resources : List ResourceTally) (i : ℕ) → i < length resources
    → resource_at (slice_set resources r (f (resource_at resources r))) i ≡ cond (r == i) (f (resource_at resources i)) (resource_at resources i)
resource-changed r f resources i below =
    let y : ResourceTally = f (resource_at resources r) in
    elim (cases_eq i r) [
      | inl e ↦
          subst (λ j. resource_at (slice_set resources r y) j ≡ cond (r == j) (f (resource_at resources j)) (resource_at resources j)) (sym e)
          (get_or-set_same resources r y unused (omega (arith, e, below)) ∙ sym (ap (λ b. cond b y (resource_at resources r)) (eq-eqb r r refl)))
      | inr apart ↦ get_or-set_other resources r i y unused apart ∙ sym (ap (λ b. cond b (f (resource_at resources i)) (resource_at resources i)) (ne_eqb r i (λ e. apart (sym e))))
    ]

-- the number is k exactly where it is that one
pub number-is : (o : Option ℕ) (k : ℕ) → is_number o k ≡ true → o ≡ Some k
number-is None k is = absurd (true≢false (sym is))
number-is (Some n) k is = ap Some (eqb-true n k is)

is-number : (k : ℕ) → is_number (Some k) k ≡ true
is-number k = eq-eqb k k refl

-- who has something is the one to whom it was given
module _ (rule : Rule) where
  pub has-user : (before : List Entry) (k r : ℕ) → held_by rule k before ≡ Some r → user_of rule r before ≡ Some k
  has-user [] k r is = cc
  has-user (e ∷ before) k r is =
      by (λ has. has-user before k r has) (rule e before) is
    where
      by : (held_by rule k before ≡ Some r → user_of rule r before ≡ Some k) → (o : Option Grant)
          → elim o as (λ _. Option ℕ) [ None ↦ held_by rule k before | Some g ↦ has_after g k (held_by rule k before) ] ≡ Some r
          → elim o as (λ _. Option ℕ) [ None ↦ user_of rule r before | Some g ↦ cond (g.on == r) g.to (user_of rule r before) ] ≡ Some k
      by was None has = was has
      by was (Some g) has = given (is_number g.to k) refl has
        where
          kept : (b : Bool) → is_number (held_by rule k before) g.on ≡ b → cond b None (held_by rule k before) ≡ Some r → cond (g.on == r) g.to (user_of rule r before) ≡ Some k
          kept true lost has = cc
          kept false keeps has =
              let apart : g.on ≢ r = λ e. true≢false (sym (is-number r) ∙ ap (λ o. is_number o r) (sym has) ∙ ap (is_number (held_by rule k before)) (sym e) ∙ keeps) in
              ap (λ b. cond b g.to (user_of rule r before)) (ne_eqb g.on r apart) ∙ was has

          given : (b : Bool) → is_number g.to k ≡ b → cond b (Some g.on) (cond (is_number (held_by rule k before) g.on) None (held_by rule k before)) ≡ Some r → cond (g.on == r) g.to (user_of rule r before) ≡ Some k
          given true to has =
              let on : g.on ≡ r = cc in
              ap (λ b. cond b g.to (user_of rule r before)) (eq-eqb g.on r on) ∙ number-is g.to k to
          given false to has = kept (is_number (held_by rule k before) g.on) refl has

-- what is read of a tally now
pub record Counts (now run wait : ℕ) (t : UserTally) : Type 0 where
  pub run_is : t.runs + open_run now t ≡ run
  pub wait_is : t.waits + open_wait now t ≡ wait

abbrev recounted : ℕ → Option ℕ → Bool → UserTally → UserTally
recounted now has asleep t = record { has = has; asleep = asleep; since = now; runs = t.runs + open_run now t; waits = t.waits + open_wait now t }

counts-again : (now run wait : ℕ) (has : Option ℕ) (asleep : Bool) (t : UserTally) → Counts now run wait t → Counts now run wait (recounted now has asleep t)
counts-again now run wait has asleep t counts = record {
  run_is = closed (is_some t.has) (is_some has) t.runs t.since now ∙ counts.run_is;
  wait_is = closed (not (is_some t.has) && not t.asleep) (not (is_some has) && not asleep) t.waits t.since now ∙ counts.wait_is;
}

pub counts-changed : (now : ℕ) (run wait : ℕ → ℕ) (o : Option ℕ) (has : UserTally → Option ℕ) (asleep : UserTally → Bool) (users : List UserTally)
    → ((k : ℕ) → k < length users → Counts now (run k) (wait k) (user_at users k))
    → (k : ℕ) → k < length users → Counts now (run k) (wait k) (user_at (changed_at o (λ t. recounted now (has t) (asleep t) t) users) k)
counts-changed now run wait o has asleep users each k below =
    let t : UserTally = user_at users k in
    subst (Counts now (run k) (wait k)) (sym (user-changed o (λ t. recounted now (has t) (asleep t) t) users k below))
    (elim (is_number o k) as (λ b. Counts now (run k) (wait k) (cond b (recounted now (has t) (asleep t) t) t)) [
      | true ↦ counts-again now (run k) (wait k) (has t) (asleep t) t (each k below)
      | false ↦ each k below
    ])

-- the user k loses what is given exactly where it has that
lost : (g : Grant) (users : List UserTally) (k : ℕ) (user : Option ℕ) → (is_number (user_at users k).has g.on ≡ true → user ≡ Some k)
    → is_number (loser g user users) k ≡ is_number (user_at users k).has g.on
lost g users k None is = elim (is_number (user_at users k).has g.on) as (λ b. (b ≡ true → None ≡ Some k) → false ≡ b) [ true ↦ λ is. (let e = is refl in cc) | false ↦ λ is. refl ] is
lost g users k (Some j) is = elim (cases_eq j k) [
  | inl e ↦
      subst (λ i. is_number (loser g (Some i) users) k ≡ is_number (user_at users k).has g.on) (sym e)
      (elim (is_number (user_at users k).has g.on) as (λ b. is_number (cond b (Some k) None) k ≡ b) [ true ↦ is-number k | false ↦ refl ])
  | inr apart ↦
      elim (is_number (user_at users j).has g.on) as (λ b. is_number (cond b (Some j) None) k ≡ false) [ true ↦ ne_eqb j k apart | false ↦ refl ]
      ∙ elim (is_number (user_at users k).has g.on) as (λ b. (b ≡ true → Some j ≡ Some k) → false ≡ b) [ true ↦ λ is. (let e : j ≡ k = (let s = is refl in cc) in absurd (apart e)) | false ↦ λ is. refl ] is
]

-- what the user k has after something was given
pub has-given : (g : Grant) (now : ℕ) (resources : List ResourceTally) (users : List UserTally) (k : ℕ) → k < length users
    → (is_number (user_at users k).has g.on ≡ true → (resource_at resources g.on).user ≡ Some k)
    → (user_at (users_given g now resources users) k).has ≡ has_after g k (user_at users k).has
has-given g now resources users k below is =
    let l : Option ℕ = loser g (resource_at resources g.on).user users in
    let mid : List UserTally = changed_at l (having None now) users in
    let t : UserTally = user_at users k in
    let m : UserTally = user_at mid k in
    let first : m.has ≡ cond (is_number t.has g.on) None t.has =
    ap (λ (u : UserTally). u.has) (user-changed l (having None now) users k below)
    ∙ elim (is_number l k) as (λ b. (cond b (having None now t) t).has ≡ cond b None t.has) [ true ↦ refl | false ↦ refl ]
    ∙ ap (λ b. cond b None t.has) (lost g users k (resource_at resources g.on).user is) in
    ap (λ (u : UserTally). u.has) (user-changed g.to (having (Some g.on) now) mid k (omega (arith, below, length-changed l (having None now) users)))
    ∙ elim (is_number g.to k) as (λ b. (cond b (having (Some g.on) now m) m).has ≡ cond b (Some g.on) m.has) [ true ↦ refl | false ↦ refl ]
    ∙ ap (λ o. cond (is_number g.to k) (Some g.on) o) first

pub asleep-had : (o : Option ℕ) (has : Option ℕ) (now : ℕ) (users : List UserTally) (k : ℕ) → k < length users → (user_at (changed_at o (having has now) users) k).asleep ≡ (user_at users k).asleep
asleep-had o has now users k below =
    ap (λ (u : UserTally). u.asleep) (user-changed o (having has now) users k below)
    ∙ elim (is_number o k) as (λ b. (cond b (having has now (user_at users k)) (user_at users k)).asleep ≡ (user_at users k).asleep) [ true ↦ refl | false ↦ refl ]

pub has-slept : (o : Option ℕ) (asleep : Bool) (now : ℕ) (users : List UserTally) (k : ℕ) → k < length users → (user_at (changed_at o (sleeping asleep now) users) k).has ≡ (user_at users k).has
has-slept o asleep now users k below =
    ap (λ (u : UserTally). u.has) (user-changed o (sleeping asleep now) users k below)
    ∙ elim (is_number o k) as (λ b. (cond b (sleeping asleep now (user_at users k)) (user_at users k)).has ≡ (user_at users k).has) [ true ↦ refl | false ↦ refl ]

pub asleep-slept : (o : Option ℕ) (asleep : Bool) (now : ℕ) (users : List UserTally) (k : ℕ) → k < length users
    → (user_at (changed_at o (sleeping asleep now) users) k).asleep ≡ cond (is_number o k) asleep (user_at users k).asleep
asleep-slept o asleep now users k below =
    ap (λ (u : UserTally). u.asleep) (user-changed o (sleeping asleep now) users k below)
    ∙ elim (is_number o k) as (λ b. (cond b (sleeping asleep now (user_at users k)) (user_at users k)).asleep ≡ cond b asleep (user_at users k).asleep) [ true ↦ refl | false ↦ refl ]
