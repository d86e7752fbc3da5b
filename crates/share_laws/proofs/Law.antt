-- The law, from what is kept of each state.
use Rattle.std.proofs.Common.{◌≡◌, ◌≤◌, ◌+◌, ◌*◌, ◌++◌, ℕ, false, List, arith, subst, sym, ap, ◌∙◌, inl, inr}
use Rattle.std.specs.Prelude.{is_some, ◌&&◌, nat_lt, ◌-◌}
use Rattle.sched_base.specs.declared.UnitId.{UnitId}
use Rattle.sched_base.proofs.Bools.{and_false}
use Rattle.sched_model.specs.declared.event.Entry.{Entry}
use Rattle.sched_model.specs.declared.machine.Machine.{Machine}
use Rattle.sched_model.specs.declared.state.Credit2Records.{Credit2Records}
use Rattle.sched_model.specs.declared.state.Records.TheVariants.{Credit2Pool}
use Rattle.sched_model.specs.declared.state.State.{State}
use Rattle.sched_model.specs.CheckedMachine.{IsChecked}
use Rattle.sched_model.specs.Credit2.{credit2_candidate, own_burned_records}
use Rattle.sched_model.specs.Pool.{core_ask}
use Rattle.sched_model.specs.Runs.{IsRun, after_entries, run_start}
use Rattle.sched_model.specs.Opening.{opening}
use Rattle.sched_laws.proofs.StillWaits.{split_run}
use Rattle.term_laws.proofs.ReachedStates.{IsReached, reached_opening}
use Rattle.service_laws.specs.Service.{has_unit, time_of}
use Rattle.service_laws.proofs.Passing.{NextMomentLaw}
use Rattle.undisturbed_laws.specs.Undisturbed.{NeverSleeps}
use Rattle.record_laws.proofs.Credit2Seen.{own_limit}
use Rattle.share_laws.specs.Shares.{HasWeight, IsNearShare, IsPlainCredit2, IsWithinShare, SleepsAreSeen, longest_slice}
use Rattle.share_laws.proofs.Ordered.{ordered_kept}
use Rattle.share_laws.proofs.PacedRuns.{always_keeps_nobody, opened}
use Rattle.share_laws.proofs.Parts.{near_share}
use Rattle.share_laws.proofs.Runs.{KeepsNobody, KeptAlong, OnTimeLaw, kept_each, kept_first, pool_stays, shared}
use Rattle.share_laws.proofs.Start.{first_books, opens_fair, some_weight}

-- without a rate limit nobody is kept
never_limited : (limit past : ℕ) → limit ≡ 0 → nat_lt past (limit * 1000) ≡ false
never_limited limit past none = (let e : limit * 1000 ≡ 0 = omega (arith, none) in grind (arith, e))

unlimited : (m : Machine) (checked : IsChecked m) (i r rate : ℕ) (plain : IsPlainCredit2 m i r rate) → rate ≡ 0 → (s : State) → IsReached m s → KeepsNobody m checked i r rate plain s
unlimited m checked i r rate plain none s reached pool at c has on books is =
    let b = first_books m checked i r rate plain pool (pool_stays m checked i r rate plain s reached pool at) in
    let same : b.0 ≡ books = records_same b.0 books (sym b.1 ∙ is) in
    let limit : books.limit ≡ 0 = ap (λ (x : Credit2Records). x.limit) (sym same) ∙ b.2.limit ∙ none in
    ap (λ k. is_some (credit2_candidate (core_ask m.config.granularity s.now pool r c) pool.scheduler (own_burned_records c.cur s.now books)) && k) (never_limited _ (s.now - c.since.0) (own_limit s.now c.cur books ∙ limit)) ∙ and_false _
  where
    records_same : (a b : Credit2Records) → Credit2Pool a ≡ Credit2Pool b → a ≡ b
    records_same a b same = cc

kept_in : (m : Machine) (checked : IsChecked m) → NextMomentLaw m → OnTimeLaw m → (i r rate : ℕ) (plain : IsPlainCredit2 m i r rate) (entries : List Entry) → IsRun m entries → SleepsAreSeen m i rate entries → KeptAlong m checked i r rate plain (run_start m) entries
kept_in m checked law on_time i r rate plain entries run (inl single) = kept_each m checked i r rate plain (always_keeps_nobody m checked i r rate plain law on_time (inl single)) (run_start m) entries run (reached_opening m)
kept_in m checked law on_time i r rate plain entries run (inr (inl nobody)) = kept_each m checked i r rate plain (always_keeps_nobody m checked i r rate plain law on_time (inr nobody)) (run_start m) entries run (reached_opening m)
kept_in m checked law on_time i r rate plain entries run (inr (inr (inl none))) = kept_each m checked i r rate plain (unlimited m checked i r rate plain none) (run_start m) entries run (reached_opening m)
kept_in m checked law on_time i r rate plain entries run (inr (inr (inr ordered))) =
    subst (KeptAlong m checked i r rate plain (run_start m)) (sym ordered.is) (ordered_kept m checked i r rate plain law on_time ordered.count (opening m) (reached_opening m) (opened m checked i r rate plain law on_time))

module _ (m : Machine) (checked : IsChecked m) (law : NextMomentLaw m) (on_time : OnTimeLaw m) (i r rate : ℕ) (plain : IsPlainCredit2 m i r rate) where
  share_along : (u v : UnitId) (wu wv : ℕ) → HasWeight m i u wu → HasWeight m i v wv → NeverSleeps m v → (entries : List Entry) → IsRun m entries → KeptAlong m checked i r rate plain (run_start m) entries → IsWithinShare m i r rate u wu v wv entries
  share_along u v wu wv has_u has_v never entries run kept =
      let start = opens_fair m checked i r rate plain u v wu wv has_u has_v in
      let all = shared m checked i r rate plain law on_time start.0 u v wu wv (some_weight m checked i r rate plain u wu has_u) (some_weight m checked i r rate plain v wv has_v) never has_v 0 0 (run_start m) entries run (reached_opening m) kept start.1 in
      subst (λ a. a * wv ≤ time_of m (has_unit i r v) (run_start m) entries * wu + (longest_slice rate + 1) * wv) (zero_plus (time_of m (has_unit i r u) (run_start m) entries))
      (subst (λ b. (0 + time_of m (has_unit i r u) (run_start m) entries) * wv ≤ b * wu + (longest_slice rate + 1) * wv) (zero_plus (time_of m (has_unit i r v) (run_start m) entries)) all)
    where
      zero_plus : (n : ℕ) → 0 + n ≡ n
      zero_plus n = omega arith

  pub within_share : (u v : UnitId) (wu wv : ℕ) → HasWeight m i u wu → HasWeight m i v wv → NeverSleeps m v → (entries : List Entry) → SleepsAreSeen m i rate entries → IsRun m entries → IsWithinShare m i r rate u wu v wv entries
  within_share u v wu wv has_u has_v never entries seen run = share_along u v wu wv has_u has_v never entries run (kept_in m checked law on_time i r rate plain entries run seen)

  -- in a part of a run, between two that never sleep
  pub part_share : (u v : UnitId) (wu wv : ℕ) → HasWeight m i u wu → HasWeight m i v wv → NeverSleeps m u → NeverSleeps m v → (before entries : List Entry) → SleepsAreSeen m i rate (before ++ entries) → IsRun m (before ++ entries)
      → IsNearShare m i r rate u wu v wv (after_entries m (run_start m) before) entries
  part_share u v wu wv has_u has_v never_u never_v before entries seen run =
      let kept = kept_in m checked law on_time i r rate plain (before ++ entries) run seen in
      near_share m i r rate u v wu wv before entries (share_along u v wu wv has_u has_v never_v (before ++ entries) run kept)
      (share_along v u wv wu has_v has_u never_u before (split_run m (run_start m) before entries run).0 (kept_first m checked i r rate plain (run_start m) before entries kept))
