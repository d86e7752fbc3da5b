-- The lines from what a report keeps are those of the definition.
use Rattle.std.proofs.Common.{◌≡◌, ℕ, zero, suc, ◌+◌, ◌-◌, ◌≤◌, ◌<◌, Bool, true, List, [], ◌∷◌, ◌++◌, refl, sym, ap, ◌∙◌, arith, length, map, get_or, length-append, zero-add}
use Rattle.std.specs.Prelude.{Some, slice_get, option_map, sum_by, flat_map}
use Rattle.std.proofs.lemmas.List.{length-map}
use Rattle.std.proofs.lemmas.List.Sums.{AllPass-from_list_all}
use Rattle.std.proofs.lemmas.Option.{slice_get-get_or, slice_get-map}
use Rattle.sched_base.specs.declared.UnitId.{UnitId}
use Rattle.sched_base.specs.Numbers.{core as core_number}
use Rattle.sched_model.specs.declared.config.Config.{Config}
use Rattle.sched_model.specs.declared.event.Entry.{Entry}
use Rattle.sched_model.specs.Places.{same_unit, is_unit}
use Rattle.sched_model.specs.Opening.{machine_core_count}
use Rattle.sched_model.proofs.PlaceLemmas.{length-numbers_from}
use Rattle.sched_report.specs.declared.tally.UnitTally.{UnitTally}
use Rattle.sched_report.specs.declared.tally.CoreTally.{CoreTally}
use Rattle.sched_report.specs.declared.line.CoreLine.{CoreLine}
use Rattle.sched_report.specs.Reports.{cores as core_numbers, units as unit_ids, stays_of, decisions_on, line_of_unit, line_of_core, report_of}
use Rattle.sched_report.specs.Lines.{text_of_unit, text_of_core, text_of_end, report_lines}
use Rattle.sched_report.specs.Stays.{Stay, Decision, choices, decisions, stays, last_moment, span}
use Rattle.sched_report.specs.Tallies.{undecided_core, unit_place_number, has_unit_place, tally_at, ended_time, open_stay_time, begins, lateness_on, core_tally, unit_tally, unit_line_by, core_line_by, IsTally}
use Rattle.sched_report.proofs.Folds.{weigh, ended-stays}
use Rattle.sched_report.proofs.Grows.{is_of, begins-stays, run-is_ended, decides-count}
use Rattle.sched_report.proofs.Sums.{sum_by-filter, length-filter, sum_by-flat_map, sum_by-same, sum_by-plus, sum_by-map}
use Rattle.sched_report.proofs.InOrder.{get_or-numbers}

-- the stays of a core have ended or go on
stays-time : (p : UnitId → Bool) (es : List Entry) (r : ℕ) → sum_by (weigh p) (stays r es) ≡ ended_time p undecided_core (choices r es) + open_stay_time p (last_moment es) (core_tally es r)
stays-time p es r = omega (arith, ended-stays p (last_moment es) undecided_core (choices r es))

module _ (config : Config) (es : List Entry) (u : UnitId) where
  abbrev q : Stay → Bool
  q s = same_unit s.unit u

  abbrev p : UnitId → Bool
  p w = same_unit w u

  abbrev rs : List ℕ
  rs = core_numbers config

  run-told : (cores : List CoreTally) → cores ≡ map (core_tally es) rs
      → sum_by span (stays_of config es u) ≡ (unit_tally config es u).run + sum_by (open_stay_time p (last_moment es)) cores
  run-told cores are =
      sum_by-filter q span (flat_map (λ r. stays r es) rs)
      ∙ sum_by-flat_map (weigh p) (λ r. stays r es) rs
      ∙ sum_by-same (λ r. sum_by (weigh p) (stays r es)) (λ r. ended_time p undecided_core (choices r es) + open_stay_time p (last_moment es) (core_tally es r)) rs (stays-time p es)
      ∙ sum_by-plus (λ r. ended_time p undecided_core (choices r es)) (λ r. open_stay_time p (last_moment es) (core_tally es r)) rs
      ∙ ap (λ n. (unit_tally config es u).run + n) (sym (ap (sum_by (open_stay_time p (last_moment es))) are ∙ sum_by-map (open_stay_time p (last_moment es)) (core_tally es) rs))

  picks-told : length (stays_of config es u) ≡ (unit_tally config es u).picks
  picks-told =
      length-filter q (flat_map (λ r. stays r es) rs)
      ∙ sum_by-flat_map (is_of u) (λ r. stays r es) rs
      ∙ sum_by-same (λ r. sum_by (is_of u) (stays r es)) (λ r. sum_by (begins u) (decisions r es)) rs (λ r. begins-stays (last_moment es) u (decisions r es))

  late-told : sum_by (λ (d : Decision). d.choice.late.0) (decisions_on config es u) ≡ (unit_tally config es u).late
  late-told =
      sum_by-filter (λ (d : Decision). is_unit d.before u) (λ (d : Decision). d.choice.late.0) (flat_map (λ r. decisions r es) rs)
      ∙ sum_by-flat_map (lateness_on u) (λ r. decisions r es) rs

  unit-told : (units : List UnitTally) (cores : List CoreTally) (last : ℕ) → cores ≡ map (core_tally es) rs → tally_at units (unit_place_number u) ≡ unit_tally config es u → last ≡ last_moment es
      → unit_line_by units cores last u ≡ line_of_unit config es u
  unit-told units cores last are tally is_last = λ i. record {
    unit = u;
    run = (ap (λ (t : UnitTally). t.run + sum_by (open_stay_time p last) cores) tally ∙ ap (λ l. (unit_tally config es u).run + sum_by (open_stay_time p l) cores) is_last ∙ sym (run-told cores are)) i;
    picks = (ap (λ (t : UnitTally). t.picks) tally ∙ sym picks-told) i;
    repl = (tally i).repl;
    late = (ap (λ (t : UnitTally). t.late) tally ∙ sym late-told) i;
  }

pub core-told : (es : List Entry) (r : ℕ) → core_line_by (core_tally es r) (last_moment es) r ≡ line_of_core es r
core-told es r =
    let time : (core_tally es r).run + open_stay_time (λ w. true) (last_moment es) (core_tally es r) ≡ sum_by span (stays r es) =
    omega (arith, stays-time (λ w. true) es r, run-is_ended undecided_core (choices r es)) in
    let decides : (core_tally es r).decides ≡ length (choices r es) = omega (arith, decides-count undecided_core (choices r es)) in
    λ i. record { core = core_number r; run = time i; idle = last_moment es - time i; decides = decides i }

get-front : {X : Type 0} (xs ys : List X) (i : ℕ) → i < length xs → slice_get (xs ++ ys) i ≡ slice_get xs i
get-front [] ys i below = absurd (omega (arith, below))
get-front (x ∷ xs) ys zero below = refl
get-front (x ∷ xs) ys (suc i) below = get-front xs ys i (omega (arith, below))

get-back : {X : Type 0} (xs ys : List X) (i r : ℕ) → length xs + r ≡ i → slice_get (xs ++ ys) i ≡ slice_get ys r
get-back [] ys i r is = let e : i ≡ r = omega (arith, is) in ap (slice_get ys) e
get-back (x ∷ xs) ys zero r is = absurd (omega (arith, is))
get-back (x ∷ xs) ys (suc i) r is = get-back xs ys i r (omega (arith, is))

module _ {config : Config} {es : List Entry} {names : List UnitId} {units : List UnitTally} {cores : List CoreTally} {count last : ℕ} (kept : IsTally config es names units cores count last) where
  pub many-cores : length cores ≡ machine_core_count config
  many-cores = ap length kept.cores_are ∙ length-map (core_numbers config) (core_tally es) ∙ length-numbers_from 0 (machine_core_count config)

  pub few-cores : length cores ≤ 64
  few-cores = omega (arith, many-cores, kept.few_cores)

  abbrev of_units : List (List ℕ)
  of_units = map text_of_unit (report_of config es).units

  abbrev of_cores : List (List ℕ)
  of_cores = map text_of_core (report_of config es).cores

  abbrev of_end : List (List ℕ)
  of_end = text_of_end (length es) (last_moment es) ∷ []

  -- the lines before those of the cores, and before the last
  pub unit-lines : length (map text_of_unit (report_of config es).units) ≡ length names
  unit-lines = length-map (map (line_of_unit config es) (unit_ids config)) text_of_unit ∙ length-map (unit_ids config) (line_of_unit config es) ∙ ap length (sym kept.names_are)

  pub core-lines : length (map text_of_core (report_of config es).cores) ≡ length cores
  core-lines = length-map (map (line_of_core es) (core_numbers config)) text_of_core ∙ length-map (core_numbers config) (line_of_core es) ∙ length-numbers_from 0 (machine_core_count config) ∙ sym many-cores

  pub all-lines : length (report_lines (report_of config es)) ≡ length names + length cores + 1
  all-lines = omega (arith, length-append (of_units ++ of_cores) of_end, length-append of_units of_cores, unit-lines, core-lines)

  pub unit-line-at : (i : ℕ) (d : UnitId) → i < length names
      → slice_get (report_lines (report_of config es)) i ≡ Some (text_of_unit (unit_line_by units cores last (get_or names i d)))
  unit-line-at i d below =
      let u : UnitId = get_or names i d in
      let has : has_unit_place u ≡ true = AllPass-from_list_all has_unit_place names kept.have_places i d below in
      let told : unit_line_by units cores last u ≡ line_of_unit config es u = unit-told config es u units cores last kept.cores_are (kept.units_are u has) kept.last_is in
      get-front (of_units ++ of_cores) of_end i (omega (arith, below, unit-lines, length-append of_units of_cores))
      ∙ get-front of_units of_cores i (omega (arith, below, unit-lines))
      ∙ slice_get-map text_of_unit (map (line_of_unit config es) (unit_ids config)) i
      ∙ ap (option_map text_of_unit) (slice_get-map (line_of_unit config es) (unit_ids config) i
      ∙ ap (option_map (line_of_unit config es)) (ap (λ us. slice_get us i) (sym kept.names_are) ∙ slice_get-get_or names i d below))
      ∙ ap (λ l. Some (text_of_unit l)) (sym told)

  pub core-line-at : (i r : ℕ) (d : CoreTally) → length names + r ≡ i → r < length cores
      → slice_get (report_lines (report_of config es)) i ≡ Some (text_of_core (core_line_by (get_or cores r d) last r))
  core-line-at i r d is below =
      let there : r < machine_core_count config = omega (arith, below, many-cores) in
      let tally : get_or cores r d ≡ core_tally es r =
      ap (λ ks. get_or ks r d) kept.cores_are ∙ get_or-numbers (core_tally es) 0 (machine_core_count config) r d there ∙ ap (core_tally es) (zero-add r) in
      let lines : List CoreLine = map (line_of_core es) (core_numbers config) in
      let line : slice_get lines r ≡ Some (line_of_core es r) =
      slice_get-get_or lines r (line_of_core es r) (omega (arith, there, length-map (core_numbers config) (line_of_core es), length-numbers_from 0 (machine_core_count config)))
      ∙ ap Some (get_or-numbers (line_of_core es) 0 (machine_core_count config) r (line_of_core es r) there ∙ ap (line_of_core es) (zero-add r)) in
      get-front (of_units ++ of_cores) of_end i (omega (arith, is, below, unit-lines, core-lines, length-append of_units of_cores))
      ∙ get-back of_units of_cores i r (omega (arith, is, unit-lines))
      ∙ slice_get-map text_of_core lines r
      ∙ ap (option_map text_of_core) line
      ∙ (λ j. Some (text_of_core (sym (core-told es r) j)))
      ∙ (λ j. Some (text_of_core (core_line_by (sym tally j) (sym kept.last_is j) r)))

  pub last-line-at : (i : ℕ) → length names + length cores ≡ i → slice_get (report_lines (report_of config es)) i ≡ Some (text_of_end count last)
  last-line-at i is =
      get-back (of_units ++ of_cores) of_end i 0 (omega (arith, is, unit-lines, core-lines, length-append of_units of_cores))
      ∙ (λ j. Some (text_of_end (sym kept.count_is j) (sym kept.last_is j)))
