-- The law of moves, from what is kept.
use Rattle.std.proofs.Common.{◌≡◌, ◌≤◌, ◌+◌, ℕ, suc, Bool, true, false, List, [], ◌∷◌, map, refl, arith, ap, sym, ◌∙◌, cond, inl, inr}
use Rattle.std.specs.Prelude.{Option, Some, None, slice_get, replicate, length, ◌==◌, ◌-◌, ◌&&◌, not, nat_le}
use Rattle.std.specs.List.{list_any}
use Rattle.std.proofs.lemmas.Bool.{not-true}
use Rattle.sched_base.specs.Numbers.{moment, domain as domain_number, core as core_number}
use Rattle.sched_base.specs.declared.Cores.{Cores}
use Rattle.sched_model.specs.declared.action.Action.{Action}
use Rattle.sched_model.specs.declared.action.Action.TheVariants.{Stall, Xl, Moved, DomMoved}
use Rattle.sched_model.specs.declared.config.Config.{Config}
use Rattle.sched_model.specs.declared.config.DomConfig.{DomConfig}
use Rattle.sched_model.specs.declared.config.ParamChange.TheVariants as changes
use Rattle.sched_model.specs.declared.config.PoolConfig.{PoolConfig}
use Rattle.sched_model.specs.declared.event.Entry.{Entry}
use Rattle.sched_model.specs.declared.machine.Machine.{Machine}
use Rattle.sched_model.specs.declared.state.FreeCore.{FreeCore}
use Rattle.sched_model.specs.declared.state.Pool.{Pool}
use Rattle.sched_model.specs.declared.state.Resource.{Resource}
use Rattle.sched_model.specs.declared.state.State.{State}
use Rattle.sched_model.specs.declared.work.CommandLine.{CommandLine}
use Rattle.sched_model.specs.declared.work.StallLine.{StallLine}
use Rattle.sched_model.specs.CheckedMachine.{IsChecked}
use Rattle.sched_model.specs.Places.{numbers_from}
use Rattle.sched_model.specs.State.{has_core_bit}
use Rattle.sched_model.specs.Opening.{opening, free_core_at_opening, pool_at_opening, pool_with_domains, pool_with_configured, pool_with_pins, fresh_pool, joined_core, machine_core_count, most_pools, domain_at_opening}
use Rattle.sched_model.specs.Pool.{pool_with_domain}
use Rattle.sched_model.specs.Machine.{is_action_enabled, after, after_stall, after_command, has_move_under_way}
use Rattle.sched_model.specs.Runs.{IsRun}
use Rattle.journal_core.specs.Parts.{core_to, domain_to, state_under_way}
use Rattle.sched_laws.specs.StateLaws.{state_after}
use Rattle.sched_laws.proofs.ApartKept.{apart_after}
use Rattle.sched_base.proofs.Bools.{and_right}
use Rattle.sched_laws.proofs.Counts.{total_none}
use Rattle.sched_laws.specs.Counts.{total}
use Rattle.sched_laws.proofs.EachPlace.{by_cond}
use Rattle.sched_laws.proofs.Induction.{kept_by_runs}
use Rattle.sched_laws.proofs.Kept.{IsApart}
use Rattle.sched_laws.proofs.Opened.{apart_opening, read_map, read_pools}
use Rattle.composition_laws.specs.Moves.{HasOneMove}
use Rattle.composition_laws.proofs.Counted.{leaves, moves, joins, from_pool, in_all, in_all_is, none_in_all, none_under_way}
use Rattle.composition_laws.proofs.Inside.{same_params, domain_comes, from_empty}
use Rattle.composition_laws.proofs.Staying.{same_home, same_stall, adds_line}
use Rattle.composition_laws.proofs.Ending.{core_found, domain_found, moved_ends, dom_moved_ends}
use Rattle.composition_laws.proofs.Whose.{leaving_answers, moving_answers, joining_answers}

-- at the opening nothing is on its way
total-made : {X : Type 0} (f : X → ℕ) (make : ℕ → Option X) (k n : ℕ) → ((r : ℕ) (x : X) → make r ≡ Some x → f x ≡ 0) → total f (map make (numbers_from k n)) ≡ 0
total-made f make k n none = total_none f (map make (numbers_from k n)) (λ i x at. none (k + i) x (read_map make k n i x at))

from_pins : (d n : ℕ) (pins : List Cores) (pool : Pool) → from_pool (pool_with_pins d n pins pool) ≡ from_pool pool
from_pins d n [] pool = refl
from_pins d n (cores ∷ pins) pool = from_pins d (suc n) pins _ ∙ same_params (changes.Pin (domain_number d) (Some n) cores) 0 pool

from_configured : (g d : ℕ) (joining : DomConfig) (pool : Pool) → from_pool (pool_with_configured g d joining pool) ≤ from_pool pool
from_configured g d joining pool =
    let same : from_pool (pool_with_configured g d joining pool) ≡ from_pool (pool_with_domain g 0 d (domain_at_opening joining) joining.params pool) = from_pins d 0 joining.pins _ in
    let a : from_pool (pool_with_domain g 0 d (domain_at_opening joining) joining.params pool) ≤ from_pool pool = domain_comes g 0 d (domain_at_opening joining) joining.params pool refl in
    omega (arith, same, a)

from_domains : (g i d : ℕ) (domains : List DomConfig) (pool : Pool) → from_pool (pool_with_domains g i d domains pool) ≤ from_pool pool
from_domains g i d [] pool = omega arith
from_domains g i d (joining ∷ domains) pool =
    let next : Pool = cond (joining.home.0 == i) (pool_with_configured g d joining pool) pool in
    let a : from_pool (pool_with_domains g i (suc d) domains next) ≤ from_pool next = from_domains g i (suc d) domains next in
    let b : from_pool next ≤ from_pool pool = by_cond (λ (p : Pool). from_pool p ≤ from_pool pool) (joining.home.0 == i) (pool_with_configured g d joining pool) pool (λ is. from_configured g d joining pool) (λ is. omega arith) in
    omega (arith, a, b)

from_opened : (config : Config) (i : ℕ) (p : PoolConfig) → from_pool (pool_at_opening config i p) ≡ 0
from_opened config i p =
    let new : Resource = joined_core (replicate config.granularity (moment 0)) in
    let cores : List (Option Resource) = map (λ r. cond (has_core_bit p.cores r) (Some new) None) (numbers_from 0 (machine_core_count config)) in
    let start : Pool = record (fresh_pool config p.params) { resources = cores } in
    let a : total leaves cores ≡ 0 = total-made leaves (λ r. cond (has_core_bit p.cores r) (Some new) None) 0 (machine_core_count config)
    (λ r c. by_cond (λ (o : Option Resource). o ≡ Some c → leaves c ≡ 0) (has_core_bit p.cores r) (Some new) None (λ is e. (let same : new ≡ c = cc in ap leaves (sym same))) (λ is e. absurd (cc))) in
    let b : from_pool (fresh_pool config p.params) ≡ 0 = from_empty config p.params in
    let c : from_pool (pool_at_opening config i p) ≤ total leaves cores + total moves (fresh_pool config p.params).domains = from_domains config.granularity i 0 config.domains start in
    omega (arith, a, b, c)

in_opening : (m : Machine) → in_all (opening m) ≡ 0
in_opening m =
    let bare : FreeCore = record { target = None; stall_ends = replicate m.config.granularity (moment 0) } in
    let pools : total from_pool (opening m).pools ≡ 0 = total_none from_pool (opening m).pools (λ i pool at. (let r = read_pools m.config 0 (most_pools - length m.config.pools) m.config.pools i pool at in ap from_pool r.2 ∙ from_opened m.config (0 + i) r.0)) in
    let free : total joins (opening m).free ≡ 0 = total-made joins (free_core_at_opening m.config) 0 (machine_core_count m.config)
    (λ r c. by_cond (λ (o : Option FreeCore). o ≡ Some c → joins c ≡ 0) (list_any (λ pool. has_core_bit pool.cores r) m.config.pools) None (Some bare) (λ is e. absurd (cc)) (λ is e. (let same : bare ≡ c = cc in ap joins (sym same)))) in
    omega (arith, pools, free)

-- what is known of every state of a run
record IsKnown (s : State) : Type 0 where
  apart : IsApart s
  most : in_all s ≤ 1

stall_after : (m : Machine) (t : ℕ) (line : Option StallLine) (s : State) → in_all (elim line as (λ _. State) [ None ↦ s | Some l ↦ after_stall m.config.granularity t l s ]) ≡ in_all s
stall_after m t None s = refl
stall_after m t (Some l) s = same_stall m.config.granularity t l s

command_after : (m : Machine) (t : ℕ) (line : Option CommandLine) (s : State) → elim line as (λ _. Bool) [ None ↦ false | Some l ↦ nat_le l.at.0 t && not (has_move_under_way s) ] ≡ true
    → in_all (elim line as (λ _. State) [ None ↦ s | Some l ↦ after_command m t l s ]) ≤ 1
command_after m t None s on = absurd (cc)
command_after m t (Some l) s on =
    let none = none_in_all s (not-true (has_move_under_way s) (and_right (nat_le l.at.0 t) (not (has_move_under_way s)) on)) in
    let a = adds_line m t l s in
    omega (arith, none, a)

-- an event that may come
most_after : (m : Machine) (s : State) (t : ℕ) (action : Action) → is_action_enabled m s t action ≡ true → IsApart s → in_all s ≤ 1 → in_all (after m s t action) ≤ 1
most_after m s t Stall on apart most = let same = stall_after m t (slice_get m.work.stalls s.next_stall) s in omega (arith, same, most)
most_after m s t Xl on apart most = command_after m t (slice_get m.work.commands s.next_command) s on
most_after m s t (Moved r) on apart most = let a = moved_ends m s t r.0 apart on in omega (arith, a, most)
most_after m s t (DomMoved d) on apart most = let a = dom_moved_ends m s t d.0 on in omega (arith, a, most)
most_after m s t action on apart most = let same = same_home m.config.granularity t action s in omega (arith, same, most)

known_in_runs : (m : Machine) → IsChecked m → (entries : List Entry) → IsRun m entries → IsKnown (state_after m entries)
known_in_runs m checked entries run =
    kept_by_runs m IsKnown
    (λ s action on here. record { apart = apart_after m s s.now action on here.apart; most = most_after m s s.now action on here.apart here.most })
    (λ s next here. record { apart = record { cores = here.apart.cores; domains = here.apart.domains; free = here.apart.free }; most = here.most })
    entries run (record { apart = apart_opening m checked; most = (let none = in_opening m in omega (arith, none)) })

-- after a move nothing is on its way
ended : (s next : State) → in_all s ≤ 1 → 1 + in_all next ≤ in_all s → has_move_under_way next ≡ false
ended s next most ends = none_under_way next (omega (arith, most, ends))

module _ (m : Machine) (s : State) (known : IsKnown s) where
  moves_core : (t r : ℕ) → is_action_enabled m s t (Moved (core_number r)) ≡ true → (to : Option ℕ) × (state_under_way s ≡ Some (core_to r to))
  moves_core t r on = elim (core_found m s t r known.apart on) [ inl j ↦ (Some j.target, joining_answers s known.most r j) | inr l ↦ (None, leaving_answers s known.most r l) ]

  moves_domain : (t d : ℕ) → is_action_enabled m s t (DomMoved (domain_number d)) ≡ true → (j : ℕ) × (state_under_way s ≡ Some (domain_to d j))
  moves_domain t d on = let x = domain_found m s t d on in (x.target.0, moving_answers s known.most d x)

  one_move : HasOneMove m s
  one_move = record {
    most = (let same = in_all_is s in let most = known.most in omega (arith, same, most));
    core = moves_core;
    domain = moves_domain;
    after_core = λ t r on. ended s (after m s t (Moved (core_number r))) known.most (moved_ends m s t r known.apart on);
    after_domain = λ t d on. ended s (after m s t (DomMoved (domain_number d))) known.most (dom_moved_ends m s t d on);
  }

pub has_one_move : (m : Machine) → IsChecked m → (entries : List Entry) → IsRun m entries → HasOneMove m (state_after m entries)
has_one_move m checked entries run = one_move m (state_after m entries) (known_in_runs m checked entries run)
