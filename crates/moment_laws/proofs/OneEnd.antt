-- A moment ends once: after an End the moment is a later one, and after Finish nothing comes.
use Rattle.std.proofs.Common.{◌≡◌, ◌≤◌, ◌<◌, ◌+◌, ℕ, Bool, true, false, List, [], ◌∷◌, ◌++◌, refl, arith, ap, cond, subst, sym, ◌∙◌}
use Rattle.std.specs.Prelude.{Option, Some, None, is_some, filter, min, nat_le, nat_lt, ◌&&◌, ◌==◌}
use Rattle.std.proofs.Math.Decide.{dec_le}
use Rattle.std.proofs.lemmas.Bool.{ltb-true, eqb-true}
use Rattle.sched_model.specs.declared.event.Event.{Event}
use Rattle.sched_model.specs.declared.event.Event.TheVariants as event
use Rattle.sched_model.specs.declared.event.Entry.{Entry}
use Rattle.sched_model.specs.declared.machine.Machine.{Machine}
use Rattle.sched_model.specs.declared.state.State.{State}
use Rattle.sched_model.specs.Machine.{first_enabled_action, moments, least_later_moment, next_in_horizon}
use Rattle.sched_model.specs.Places.{least_number}
use Rattle.sched_model.specs.Runs.{Reached, IsRun, IsRunFrom, IsNextEvent, event_action, run_start, after_entry, after_entries, after_event}
use Rattle.sched_base.proofs.Bools.{and_left, and_right}
use Rattle.sched_laws.proofs.EachPlace.{by_option, by_cond}
use Rattle.sched_laws.proofs.StillWaits.{split_run}
use Rattle.sched_base.specs.Numbers.{one_if}
use Rattle.moment_laws.specs.Moments.{are_at, is_end}
use Rattle.moment_laws.proofs.MomentParts.{ends}

-- the least of the numbers that pass a test passes it
least_passes : (test : ℕ → Bool) (ns : List ℕ) (k : ℕ) → least_number (filter test ns) ≡ Some k → test k ≡ true
least_passes test [] k is = absurd (cc)
least_passes test (n ∷ ns) k is =
    elim (test n) as (λ b. test n ≡ b → least_number (cond b (n ∷ filter test ns) (filter test ns)) ≡ Some k → test k ≡ true) [
      | true ↦ λ passes e. of_two n (λ l at. least_passes test ns l at) passes (least_number (filter test ns)) refl e
      | false ↦ λ fails e. least_passes test ns k e
    ] refl is
  where
    of_two : (n : ℕ) → ((l : ℕ) → least_number (filter test ns) ≡ Some l → test l ≡ true) → test n ≡ true → (o : Option ℕ) → least_number (filter test ns) ≡ o → elim o as (λ _. Option ℕ) [ None ↦ Some n | Some m ↦ Some (min n m) ] ≡ Some k → test k ≡ true
    of_two n rest passes None at e = (let same : n ≡ k = cc in subst (λ x. test x ≡ true) same passes)
    of_two n rest passes (Some l) at e = (let same : min n l ≡ k = cc in elim (dec_le n l) [
      | yes low ↦ (let first : n ≡ k = omega (arith, same, low) in subst (λ x. test x ≡ true) first passes)
      | no high ↦ (let second : l ≡ k = omega (arith, same, high) in subst (λ x. test x ≡ true) second (rest l at))
    ])

strictly_later : (m : Machine) (s : State) (next : ℕ) → next_in_horizon m s ≡ Some next → s.now < next
strictly_later m s next is =
    by_option (λ (o : Option ℕ). o ≡ Some next → s.now < next) (least_later_moment m s s.now) None (λ k. cond (nat_le k m.config.horizon.0) (Some k) None)
    (λ none e. absurd (cc))
    (λ k found. by_cond (λ (o : Option ℕ). o ≡ Some next → s.now < next) (nat_le k m.config.horizon.0) (Some k) None
    (λ within e. (
    let same : k ≡ next = cc in
    let later = ltb-true s.now k (and_left (nat_lt s.now k) _ (least_passes (λ l. nat_lt s.now l && is_some (first_enabled_action m s l)) (moments m s) k found)) in
    omega (arith, later, same)))
    (λ past e. absurd (cc))) is

module _ (m : Machine) (t : ℕ) where
  -- after an entry that ends the moment none of the moment comes
  past : (ev : Event) (from : Reached) (entries : List Entry) → is_end ev ≡ true → IsNextEvent m from.state ev (event_action ev) → from.state.now ≡ t → IsRunFrom m (after_event m ev (event_action ev) from) entries → are_at t entries ≡ true → entries ≡ []
  past (event.End n) from [] is next now run at = refl
  past (event.End n) from (e ∷ entries) is next now run at =
      absurd (
      let later = strictly_later m from.state n.0 next.1 in
      let moment : e.at.0 ≡ n.0 = run.0.moment in
      let same = eqb-true e.at.0 t (and_left (e.at.0 == t) _ at) in
      omega (arith, later, moment, same, now))
  past event.Finish from [] is next now run at = refl
  past event.Finish from (e ∷ entries) is next now run at = absurd (let over : true ≡ false = run.0.goes_on in cc)
  past e from entries is next now run at = absurd (cc)

  one_end_from : (entries : List Entry) (from : Reached) → IsRunFrom m from entries → are_at t entries ≡ true → ends entries ≤ 1
  one_end_from [] from run at = omega arith
  one_end_from (e ∷ entries) from run at =
      let here : from.state.now ≡ t = sym run.0.moment ∙ eqb-true e.at.0 t (and_left (e.at.0 == t) _ at) in
      let rest = one_end_from entries (after_entry m from e) run.1 (and_right (e.at.0 == t) _ at) in
      elim (is_end e.event) as (λ b. is_end e.event ≡ b → one_if b + ends entries ≤ 1) [
        | true ↦ λ is. (let none = past e.event from entries is run.0.event here run.1 (and_right (e.at.0 == t) _ at) in let zero_ends : ends entries ≡ 0 = ap ends none in omega (arith, zero_ends))
        | false ↦ λ is. omega (arith, rest)
      ] refl

pub one_end : (m : Machine) (before moment : List Entry) (t : ℕ) → IsRun m (before ++ moment) → are_at t moment ≡ true → ends moment ≤ 1
one_end m before moment t run at = one_end_from m t moment (after_entries m (run_start m) before) (split_run m (run_start m) before moment run).1 at
