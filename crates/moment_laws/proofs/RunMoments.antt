-- A run is made of its moments: what each of them has few of, the run has few of.
use Rattle.std.proofs.Common.{◌≡◌, ◌≤◌, ◌+◌, ◌*◌, ℕ, Bool, true, false, List, [], ◌∷◌, ◌++◌, refl, arith, ap, subst, sym, ◌∙◌, length}
use Rattle.std.specs.Prelude.{◌==◌}
use Rattle.std.proofs.Math.Nat.{mul-le-mul_left}
use Rattle.std.proofs.lemmas.Bool.{eq-eqb, and_from}
use Rattle.sched_model.specs.declared.event.Entry.{Entry}
use Rattle.sched_model.specs.declared.machine.Machine.{Machine}
use Rattle.sched_model.specs.CheckedMachine.{IsChecked}
use Rattle.sched_model.specs.Opening.{opening}
use Rattle.sched_model.specs.Runs.{Reached, IsRun, run_start, after_entries}
use Rattle.sched_model.proofs.RunLemmas.{after_entries-append}
use Rattle.sched_laws.specs.StateLaws.{state_after}
use Rattle.sched_base.proofs.Bools.{and_left, and_right}
use Rattle.sched_laws.proofs.StillWaits.{split_run}
use Rattle.moment_laws.specs.Stretches.{cores, units}
use Rattle.moment_laws.specs.Turns.{how_many}
use Rattle.sched_base.specs.Numbers.{one_if}
use Rattle.moment_laws.proofs.StretchFalls.{push_assoc}
use Rattle.moment_laws.specs.Moments.{are_at, causes, is_cause, is_end, is_line, most_causes, most_due, most_in_any_moment, most_in_moments, whole_moments, work_lines}
use Rattle.moment_laws.proofs.ActionClock.{event_goes, lines_few}
use Rattle.moment_laws.proofs.FewCauses.{causes_few}
use Rattle.moment_laws.proofs.MomentLaw.{moment_ends}
use Rattle.moment_laws.proofs.MomentParts.{append_all, append_none, causes_are, counted_events, ends}

how_many_push : (test : Entry → Bool) (xs : List Entry) (e : Entry) → how_many test (xs ++ e ∷ []) ≡ how_many test xs + one_if (test e)
how_many_push test [] e = omega arith
how_many_push test (x ∷ xs) e = (let r = how_many_push test xs e in omega (arith, r))

at_push : (t : ℕ) (xs : List Entry) (e : Entry) → are_at t xs ≡ true → e.at.0 ≡ t → are_at t (xs ++ e ∷ []) ≡ true
at_push t [] e at now = and_from (e.at.0 == t) true (eq-eqb e.at.0 t now) refl
at_push t (x ∷ xs) e at now = and_from (x.at.0 == t) _ (and_left (x.at.0 == t) _ at) (at_push t xs e (and_right (x.at.0 == t) _ at) now)

-- each moment has a for each of its entries that pass q, and b besides, of those that pass p at most
abbrev pub EachMoment : Machine → (Entry → Bool) → (Entry → Bool) → ℕ → ℕ → Type 0
EachMoment m p q a b = (before moment : List Entry) (t : ℕ) → IsRun m (before ++ moment) → are_at t moment ≡ true → how_many p moment ≤ a * how_many q moment + b

module _ (m : Machine) (p q : Entry → Bool) (a b : ℕ) (each : EachMoment m p q a b) where
  -- the entries of a moment that goes on, and those that follow
  pieces : (entries moment before : List Entry) → IsRun m ((before ++ moment) ++ entries) → are_at (state_after m (before ++ moment)).now moment ≡ true
      → how_many p moment + how_many p entries ≤ a * (how_many q moment + how_many q entries) + (ends entries + 1) * b
  pieces [] moment before run at =
      let here = each before moment (state_after m (before ++ moment)).now (split_run m (run_start m) (before ++ moment) [] run).0 at in
      let sum : a * (how_many q moment + 0) ≡ a * how_many q moment = grind arith in
      omega (arith, here, sum)
  pieces (e ∷ entries) moment before run at =
      let now : ℕ = (state_after m (before ++ moment)).now in
      let joined : (before ++ moment) ++ e ∷ [] ≡ before ++ (moment ++ e ∷ []) = append_all before moment (e ∷ []) in
      let run2 : IsRun m (((before ++ moment) ++ e ∷ []) ++ entries) = subst (IsRun m) (sym (push_assoc (before ++ moment) e entries)) run in
      let run3 : IsRun m ((before ++ (moment ++ e ∷ [])) ++ entries) = subst (λ xs. IsRun m (xs ++ entries)) joined run2 in
      let next = (split_run m (run_start m) (before ++ moment) (e ∷ entries) run).1.0 in
      let more : are_at now (moment ++ e ∷ []) ≡ true = at_push now moment e at next.moment in
      let count_p = how_many_push p moment e in
      let count_q = how_many_push q moment e in
      let spread : a * (how_many q moment + (one_if (q e) + how_many q entries)) ≡ a * how_many q moment + a * one_if (q e) + a * how_many q entries = grind arith in
      let of_moment : a * how_many q (moment ++ e ∷ []) ≡ a * how_many q moment + a * one_if (q e) = ap (λ k. a * k) count_q ∙ grind arith in
      elim (is_end e.event) as (λ k. is_end e.event ≡ k → how_many p moment + (one_if (p e) + how_many p entries) ≤ a * (how_many q moment + (one_if (q e) + how_many q entries)) + ((one_if k + ends entries) + 1) * b) [
        | false ↦ λ goes. (
            let pushed : (state_after m (before ++ (moment ++ e ∷ []))).now ≡ now = ap (λ xs. (state_after m xs).now) (sym joined) ∙ ap (λ (x : Reached). x.state.now) (after_entries-append m (run_start m) (before ++ moment) e) ∙ (event_goes m (after_entries m (run_start m) (before ++ moment)) e.event next.event).0 goes in
            let rest = pieces entries (moment ++ e ∷ []) before run3 (subst (λ t. are_at t (moment ++ e ∷ []) ≡ true) (sym pushed) more) in
            let all : a * (how_many q (moment ++ e ∷ []) + how_many q entries) ≡ a * how_many q (moment ++ e ∷ []) + a * how_many q entries = grind arith in
            omega (arith, rest, count_p, spread, of_moment, all))
        | true ↦ λ stops. (
            let here = each before (moment ++ e ∷ []) now (split_run m (run_start m) (before ++ (moment ++ e ∷ [])) entries run3).0 more in
            let nil = append_none (before ++ (moment ++ e ∷ [])) in
            let rest = pieces entries [] (before ++ (moment ++ e ∷ [])) (subst (λ xs. IsRun m (xs ++ entries)) (sym nil) run3) refl in
            let last : ((1 + ends entries) + 1) * b ≡ (ends entries + 1) * b + b = grind arith in
            omega (arith, here, rest, count_p, spread, of_moment, last))
      ] refl

  pub moments_together : (entries : List Entry) → IsRun m entries → how_many p entries ≤ a * how_many q entries + (ends entries + 1) * b
  moments_together entries run =
      let all = pieces entries [] [] run refl in
      let sum : a * (0 + how_many q entries) ≡ a * how_many q entries = grind arith in
      omega (arith, all, sum)

all_pass : (entries : List Entry) → how_many (λ (e : Entry). true) entries ≡ length entries
all_pass [] = grind arith
all_pass (e ∷ entries) = (let r = all_pass entries in grind (arith, r))

-- on numbers
spread_moments : (g c n r x : ℕ) → 4 * (g + 1) * (c + n * (r + 1)) * (x + 1) ≡ 4 * (g + 1) * (x + 1) * c + n * (4 * (g + 1) * (r + 1) * (x + 1))
spread_moments g c n r x = grind arith

spread_moment : (g c r x : ℕ) → 4 * (g + 1) * (c + r + 1) * (x + 1) ≡ 4 * (g + 1) * (x + 1) * c + 4 * (g + 1) * (r + 1) * (x + 1)
spread_moment g c r x = grind arith

-- the entries of a run, by the number of its causes
pub run_by_causes : (m : Machine) → IsChecked m → (entries : List Entry) → IsRun m entries → length entries ≤ most_in_moments m (causes entries) (whole_moments entries + 1)
run_by_causes m checked entries run =
    let g : ℕ = m.config.granularity in
    let r : ℕ = cores m in
    let x : ℕ = cores m * cores m * (2 * units m + 5) in
    let a : ℕ = 4 * (g + 1) * (x + 1) in
    let b : ℕ = 4 * (g + 1) * (r + 1) * (x + 1) in
    let each : EachMoment m (λ e. true) (λ e. is_cause e.event) a b = λ before moment t run2 at. (
    let h = moment_ends m checked before moment t run2 at in
    let n = all_pass moment in
    let c : a * causes moment ≡ a * how_many (λ (e : Entry). is_cause e.event) moment = ap (λ k. a * k) (causes_are moment) in
    let s = spread_moment g (causes moment) r x in
    omega (arith, h, n, c, s)) in
    let all = moments_together m (λ e. true) (λ e. is_cause e.event) a b each entries run in
    let n = all_pass entries in
    let c : a * causes entries ≡ a * how_many (λ (e : Entry). is_cause e.event) entries = ap (λ k. a * k) (causes_are entries) in
    let w : (whole_moments entries + 1) * b ≡ (ends entries + 1) * b = ap (λ k. (k + 1) * b) (counted_events is_end entries) in
    let s = spread_moments g (causes entries) (whole_moments entries + 1) r x in
    omega (arith, all, n, c, w, s)

-- the causes of a run, by the lines of the workload
pub causes_by_lines : (m : Machine) → IsChecked m → (entries : List Entry) → IsRun m entries → causes entries ≤ 2 * work_lines m + (whole_moments entries + 1) * most_due m
causes_by_lines m checked entries run =
    let each : EachMoment m (λ e. is_cause e.event) (λ e. is_line e.event) 2 (most_due m) = λ before moment t run2 at. (
    let h = causes_few m checked before moment t run2 at in
    let c = causes_are moment in
    let l = counted_events is_line moment in
    omega (arith, h, c, l)) in
    let all = moments_together m (λ e. is_cause e.event) (λ e. is_line e.event) 2 (most_due m) each entries run in
    let c = causes_are entries in
    let w : (whole_moments entries + 1) * most_due m ≡ (ends entries + 1) * most_due m = ap (λ k. (k + 1) * most_due m) (counted_events is_end entries) in
    let few = lines_few m entries (run_start m) run in
    let none : (opening m).next_stall ≡ 0 = refl in
    let none2 : (opening m).next_command ≡ 0 = refl in
    omega (arith, all, c, w, few, none, none2)

-- on numbers: n moments and one more
together : (g c k l r x n : ℕ) → c ≤ 2 * l + (n + 1) * k → 4 * (g + 1) * (c + (n + 1) * (r + 1)) * (x + 1) ≤ (n + 1) * (4 * (g + 1) * ((2 * l + k) + r + 1) * (x + 1))
together g c k l r x n few =
    let a : ℕ = 4 * (g + 1) * (x + 1) in
    let more : c + (n + 1) * (r + 1) ≤ (n + 1) * ((2 * l + k) + r + 1) = (
    let e : (n + 1) * ((2 * l + k) + r + 1) ≡ 2 * l + n * (2 * l) + (n + 1) * k + (n + 1) * (r + 1) = grind arith in
    omega (arith, few, e)) in
    let d = mul-le-mul_left a more in
    let i : a * (c + (n + 1) * (r + 1)) ≡ 4 * (g + 1) * (c + (n + 1) * (r + 1)) * (x + 1) = grind arith in
    let j : a * ((n + 1) * ((2 * l + k) + r + 1)) ≡ (n + 1) * (4 * (g + 1) * ((2 * l + k) + r + 1) * (x + 1)) = grind arith in
    omega (arith, d, i, j)

-- the entries of a run, by the machine alone
pub run_by_moments : (m : Machine) → IsChecked m → (entries : List Entry) → IsRun m entries → length entries ≤ (whole_moments entries + 1) * most_in_any_moment m
run_by_moments m checked entries run =
    let a = run_by_causes m checked entries run in
    let few = causes_by_lines m checked entries run in
    let b = together m.config.granularity (causes entries) (most_due m) (work_lines m) (cores m) (cores m * cores m * (2 * units m + 5)) (whole_moments entries) few in
    let same : most_causes m (work_lines m) ≡ 2 * work_lines m + most_due m = omega arith in
    let i : (whole_moments entries + 1) * most_in_any_moment m ≡ (whole_moments entries + 1) * (4 * (m.config.granularity + 1) * ((2 * work_lines m + most_due m) + cores m + 1) * (cores m * cores m * (2 * units m + 5) + 1)) =
    ap (λ k. (whole_moments entries + 1) * (4 * (m.config.granularity + 1) * (k + cores m + 1) * (cores m * cores m * (2 * units m + 5) + 1))) same in
    omega (arith, a, b, i)
