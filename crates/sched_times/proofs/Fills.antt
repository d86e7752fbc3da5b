-- The times are read from what is kept, and fill the range.
use Rattle.std.proofs.Common.{◌≡◌, ℕ, ◌+◌, ◌-◌, Bool, true, false, not, cond, List, [], ◌∷◌, subst, arith}
use Rattle.std.specs.Prelude.{Option, ◌&&◌, reverse}
use Rattle.sched_model.specs.declared.config.Config.{Config}
use Rattle.sched_model.specs.declared.event.Entry.{Entry}
use Rattle.sched_model.specs.declared.event.Event.{Event}
use Rattle.sched_times.specs.declared.range.Range.{Range}
use Rattle.sched_times.specs.declared.grant.Sleep.{Sleep}
use Rattle.sched_times.specs.declared.tally.ResourceTally.{ResourceTally}
use Rattle.sched_times.specs.declared.tally.UserTally.{UserTally}
use Rattle.sched_times.specs.Times.{told_of, time_held}
use Rattle.sched_times.specs.Present.{Rule, is_asleep, runs, waits, sleeps, core_grant, processor_grant, sleep_of, no_sleep}
use Rattle.sched_times.specs.Tallies.{AreTallies, IsTally}
use Rattle.sched_times.proofs.Holds.{told-more}

-- tests of which one always holds share the time among them
pub two-fill : (test : List Entry → Bool) (range : Range) (horizon : ℕ) (before : List Entry)
    → time_held test range horizon before + time_held (λ b. not (test b)) range horizon before ≡ told_of range horizon before
two-fill test range horizon [] = omega arith
two-fill test range horizon (e ∷ before) =
    let more : ℕ = told_of range horizon (e ∷ before) - told_of range horizon before in
    let ahead = told-more range horizon e before in
    let were = two-fill test range horizon before in
    let one : cond (test before) more 0 + cond (not (test before)) more 0 ≡ more = elim (test before) as (λ b. cond b more 0 + cond (not b) more 0 ≡ more) [ true ↦ omega arith | false ↦ omega arith ] in
    omega (arith, ahead, were, one)

pub three-fill : (rule : Rule) (sleep : Event → Option Sleep) (k : ℕ) (range : Range) (horizon : ℕ) (before : List Entry)
    → time_held (runs rule k) range horizon before + time_held (waits rule sleep k) range horizon before + time_held (sleeps rule sleep k) range horizon before ≡ told_of range horizon before
three-fill rule sleep k range horizon [] = omega arith
three-fill rule sleep k range horizon (e ∷ before) =
    let more : ℕ = told_of range horizon (e ∷ before) - told_of range horizon before in
    let ahead = told-more range horizon e before in
    let were = three-fill rule sleep k range horizon before in
    let a : Bool = runs rule k before in
    let s : Bool = is_asleep sleep k before in
    let one : cond a more 0 + cond (not a && not s) more 0 + cond (not a && s) more 0 ≡ more =
    elim a as (λ b. cond b more 0 + cond (not b && not s) more 0 + cond (not b && s) more 0 ≡ more) [
      | true ↦ omega arith
      | false ↦ elim s as (λ c. 0 + cond (not c) more 0 + cond c more 0 ≡ more) [ true ↦ omega arith | false ↦ omega arith ]
    ] in
    omega (arith, ahead, were, one)

module _ {config : Config} {range : Range} {es : List Entry} {granularity horizon until : ℕ} {cores : List ResourceTally} {units : List UserTally} {processors : List ResourceTally} {vcpus : List UserTally} {idle : List Bool} (kept : IsTally config range es granularity horizon until cores units processors vcpus idle) where
  pub of_cores : AreTallies core_grant no_sleep range config.horizon.0 (reverse es) cores units
  of_cores = subst (λ h. AreTallies core_grant no_sleep range h (reverse es) cores units) kept.horizon_is kept.of_cores

  pub of_processors : AreTallies (processor_grant config.granularity) sleep_of range config.horizon.0 (reverse es) processors vcpus
  of_processors =
      subst (λ h. AreTallies (processor_grant config.granularity) sleep_of range h (reverse es) processors vcpus) kept.horizon_is
      (subst (λ g. AreTallies (processor_grant g) sleep_of range horizon (reverse es) processors vcpus) kept.granularity_is kept.of_processors)
