-- What a report keeps between entries: a tally of each core and of each unit, with the stays that have ended.
use Rattle.sched_base.specs.Numbers.{moment, core as core_number}
use Rattle.std.specs.Prelude.{◌≡◌, ◌≤◌, ◌<◌, ◌+◌, ◌-◌, ◌*◌, ◌^◌, ℕ, Bool, true, List, [], ◌∷◌, Option, Some, None, fold, map, filter, length, sum_by, nat_lt, slice_index_or, slice_set, if◌then◌else◌}
use Rattle.std.specs.List.{list_all}
use Rattle.sched_base.specs.declared.UnitId.{UnitId}
pub use Rattle.unit_places.specs.Places.{unit_place_number, has_unit_place}
use Rattle.sched_model.specs.declared.config.Config.{Config}
use Rattle.sched_model.specs.declared.event.Entry.{Entry}
use Rattle.sched_model.specs.Places.{same_unit, is_unit}
use Rattle.sched_model.specs.Pool.{same_choice}
use Rattle.sched_model.specs.Opening.{machine_core_count}
use Rattle.sched_report.specs.declared.choice.CoreChoice.{CoreChoice}
use Rattle.sched_report.specs.declared.line.UnitLine.{UnitLine}
use Rattle.sched_report.specs.declared.line.CoreLine.{CoreLine}
use Rattle.sched_report.specs.declared.tally.UnitTally.{UnitTally}
use Rattle.sched_report.specs.declared.tally.CoreTally.{CoreTally}
use Rattle.sched_report.specs.Stays.{Decision, choices, decisions, renewals, last_moment}
use Rattle.sched_report.specs.Reports.{cores as core_numbers, units as unit_ids}

-- nothing done
abbrev pub nothing_done : UnitTally
nothing_done = record { run = 0; picks = 0; repl = 0; late = 0 }

-- a core that has not decided
abbrev pub undecided_core : CoreTally
undecided_core = record { cur = None; since = moment 0; run = 0; decides = 0 }

-- the tally at the place
abbrev pub tally_at : List UnitTally → Option ℕ → UnitTally
tally_at tallies None = nothing_done
tally_at tallies (Some i) = slice_index_or tallies i nothing_done

-- the tally at the place changed
abbrev pub changed_at : Option ℕ → (UnitTally → UnitTally) → List UnitTally → List UnitTally
changed_at None f tallies = tallies
changed_at (Some i) f tallies = slice_set tallies i (f (slice_index_or tallies i nothing_done))

-- a decision found the unit: so much time ended, and so late it was
abbrev pub with_ended_stay : ℕ → ℕ → UnitTally → UnitTally
with_ended_stay ended_span late t = record t { run = t.run + ended_span; late = t.late + late }

-- a stay of the unit began
abbrev pub with_begun_stay : UnitTally → UnitTally
with_begun_stay t = record t { picks = t.picks + 1 }

-- the unit was replenished
abbrev pub with_renewal : UnitTally → UnitTally
with_renewal t = record t { repl = t.repl + 1 }

-- how long the stay was that the choice ends, 0 where it ends none
abbrev pub ended_span : CoreTally → CoreChoice → ℕ
ended_span core c = elim core.cur [ None ↦ 0 | Some u ↦ (if same_choice core.cur c.unit then 0 else c.at.0 - core.since.0) ]

-- a core after a choice
abbrev pub core_tally_after : CoreTally → CoreChoice → CoreTally
core_tally_after core c =
    record {
      cur = (if same_choice core.cur c.unit then core.cur else c.unit);
      since = (if same_choice core.cur c.unit then core.since else c.at);
      run = core.run + ended_span core c;
      decides = core.decides + 1;
    }

-- the units after a choice of the core: the one that it found
abbrev pub after_found : CoreTally → CoreChoice → List UnitTally → List UnitTally
after_found core c tallies = elim core.cur [ None ↦ tallies | Some u ↦ changed_at (unit_place_number u) (with_ended_stay (ended_span core c) c.late.0) tallies ]

-- and the one whose stay begins
abbrev pub after_picked : CoreTally → CoreChoice → List UnitTally → List UnitTally
after_picked core c tallies = (if same_choice core.cur c.unit then tallies else elim c.unit [ None ↦ tallies | Some u ↦ changed_at (unit_place_number u) with_begun_stay tallies ])

-- the units after a choice of the core
abbrev pub units_after : CoreTally → CoreChoice → List UnitTally → List UnitTally
units_after core c tallies = after_picked core c (after_found core c tallies)

-- the units after a replenishment, where there is one
abbrev pub units_renewed : Option UnitId → List UnitTally → List UnitTally
units_renewed None tallies = tallies
units_renewed (Some u) tallies = changed_at (unit_place_number u) with_renewal tallies

-- the time up to the last moment of a stay that goes on, where its unit passes the test
abbrev pub open_stay_time : (UnitId → Bool) → ℕ → CoreTally → ℕ
open_stay_time p last core = elim core.cur [ None ↦ 0 | Some u ↦ (if p u then last - core.since.0 else 0) ]

-- the tally of the core r after the entries
abbrev pub core_tally : List Entry → ℕ → CoreTally
core_tally entries r = fold core_tally_after undecided_core (choices r entries)

-- the time of the stays that these choices of a core end, of units that pass the test
abbrev pub ended_time : (UnitId → Bool) → CoreTally → List CoreChoice → ℕ
ended_time p core [] = 0
ended_time p core (c ∷ cs) = elim core.cur [ None ↦ 0 | Some u ↦ (if p u then ended_span core c else 0) ] + ended_time p (core_tally_after core c) cs

-- 1 where a stay of the unit begins with the decision
abbrev pub begins : UnitId → Decision → ℕ
begins u d = elim d.choice.unit [ None ↦ 0 | Some w ↦ (if is_unit d.before w then 0 else if same_unit w u then 1 else 0) ]

-- how late the decision was, where it found the unit
abbrev pub lateness_on : UnitId → Decision → ℕ
lateness_on u d = (if is_unit d.before u then d.choice.late.0 else 0)

-- the tally of the unit after the entries
abbrev pub unit_tally : Config → List Entry → UnitId → UnitTally
unit_tally config entries u =
    record {
      run = sum_by (λ r. ended_time (λ w. same_unit w u) undecided_core (choices r entries)) (core_numbers config);
      picks = sum_by (λ r. sum_by (begins u) (decisions r entries)) (core_numbers config);
      repl = length (filter (λ w. same_unit w u) (renewals entries));
      late = sum_by (λ r. sum_by (lateness_on u) (decisions r entries)) (core_numbers config);
    }

-- the moment and the lateness of the choice fit 64 bits
pub record IsShort (c : CoreChoice) : Type 0 where
  pub at : c.at.0 < 2 ^ 64
  pub late : c.late.0 < 2 ^ 64

-- the cores after an entry that makes this choice, where it makes one; a core that is not there changes nothing
abbrev pub cores_with : Option CoreChoice → List CoreTally → List CoreTally
cores_with None cores = cores
cores_with (Some c) cores = slice_set cores c.core.0 (core_tally_after (slice_index_or cores c.core.0 undecided_core) c)

-- the units after it
abbrev pub units_with : Option CoreChoice → List CoreTally → List UnitTally → List UnitTally
units_with None cores units = units
units_with (Some c) cores units = (if nat_lt c.core.0 (length cores) then units_after (slice_index_or cores c.core.0 undecided_core) c units else units)

-- the numbers of a unit that so many times, stays and replenishments give at most
pub record UnitWithin (times stays renewals : ℕ) (t : UnitTally) : Type 0 where
  pub run : t.run ≤ times * 2 ^ 64
  pub picks : t.picks ≤ stays
  pub repl : t.repl ≤ renewals
  pub late : t.late ≤ times * 2 ^ 64

-- the numbers of a core that so many decisions give at most
pub record CoreWithin (count : ℕ) (t : CoreTally) : Type 0 where
  pub run : t.run ≤ count * 2 ^ 64
  pub decides : t.decides ≤ count

-- each place has such numbers
abbrev pub UnitsWithin : ℕ → ℕ → ℕ → List UnitTally → Type 0
UnitsWithin times stays renewals tallies = (i : ℕ) → UnitWithin times stays renewals (slice_index_or tallies i nothing_done)

-- the same of cores
abbrev pub CoresWithin : ℕ → List CoreTally → Type 0
CoresWithin count tallies = (i : ℕ) → CoreWithin count (slice_index_or tallies i undecided_core)

-- what the report keeps is the tally of the entries: the names of the units, the units' tallies by place, the cores' tallies by number,
-- the number of entries and the last moment
pub record IsTally (config : Config) (entries : List Entry) (names : List UnitId) (units : List UnitTally) (cores : List CoreTally) (count last : ℕ) : Type 0 where
  pub names_are : names ≡ unit_ids config
  pub have_places : list_all has_unit_place names ≡ true
  pub few_names : length names ≤ 2048
  pub few_cores : machine_core_count config ≤ 64
  pub all_places : length units ≡ 2048
  pub units_are : (u : UnitId) → has_unit_place u ≡ true → tally_at units (unit_place_number u) ≡ unit_tally config entries u
  pub cores_are : cores ≡ map (core_tally entries) (core_numbers config)
  pub units_within : UnitsWithin count count count units
  pub cores_within : CoresWithin count cores
  pub count_is : count ≡ length entries
  pub few_entries : count ≤ 4294967295
  pub last_is : last ≡ last_moment entries

-- the line of the unit, from the tallies
abbrev pub unit_line_by : List UnitTally → List CoreTally → ℕ → UnitId → UnitLine
unit_line_by units cores last u =
    let t = tally_at units (unit_place_number u) in
    record {
      unit = u;
      run = t.run + sum_by (open_stay_time (λ w. same_unit w u) last) cores;
      picks = t.picks;
      repl = t.repl;
      late = t.late;
    }

-- the line of the core, from its tally
abbrev pub core_line_by : CoreTally → ℕ → ℕ → CoreLine
core_line_by core last r =
    let time = core.run + open_stay_time (λ u. true) last core in
    record { core = core_number r; run = time; idle = last - time; decides = core.decides }
