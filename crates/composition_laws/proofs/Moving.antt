-- A move hands over the name of what moves, from one part to another.
use Rattle.std.proofs.lemmas.Bool.{and_right, and_from}
use Rattle.sched_base.specs.Numbers.{core, domain as domain_number}
use Rattle.std.proofs.Common.{◌≡◌, ◌≢◌, ◌<◌, ◌≤◌, ◌-◌, ◌+◌, ◌/◌, ℕ, Bool, true, false, List, [], length, refl, ap, sym, subst, ◌∙◌, arith, inl, inr}
use Rattle.std.specs.Prelude.{Option, Some, None, option_map, is_some, nat_lt, map}
use mathlib.Core.Logic.{dite}
use native.Mathlib.Decide.{ℕ_discrete}
use Rattle.sched_base.specs.declared.PoolId.{PoolId}
use Rattle.sched_model.specs.declared.action.Action.TheVariants.{Moved, DomMoved}
use Rattle.sched_model.specs.declared.event.Entry.{Entry}
use Rattle.sched_model.specs.declared.machine.Machine.{Machine}
use Rattle.sched_model.specs.declared.state.Domain.{Domain}
use Rattle.sched_model.specs.declared.state.FreeCore.{FreeCore}
use Rattle.sched_model.specs.declared.state.Pool.{Pool}
use Rattle.sched_model.specs.declared.state.Resource.{Resource}
use Rattle.sched_model.specs.declared.state.State.{State}
use Rattle.sched_model.specs.Places.{at_place, put_at, clear_at}
use Rattle.sched_model.specs.CheckedMachine.{IsChecked, IsGranularity}
use Rattle.sched_model.specs.Opening.{machine_core_count, joined_core}
use Rattle.sched_model.specs.Policy.{standard_dom_params}
use Rattle.sched_model.specs.Pool.{settled_pool, pool_with_domain, pool_without_domain}
use Rattle.sched_model.specs.Actions.{home_pool_of_core, home_pool_of_domain, change_pool}
use Rattle.sched_model.specs.Machine.{after, pool_with_core, without_core, left_by, joined_by, is_null_pool}
use Rattle.sched_model.specs.Runs.{IsRun, run_start}
use Rattle.sched_laws.specs.EachPlace.{EachPlace}
use Rattle.sched_laws.specs.StateLaws.{state_after}
use Rattle.sched_laws.proofs.EachPlace.{by_cond, place_below, EachPlace-change_at, at_place-put_at, at_place-put_at_other, at_place-clear_at, at_place-clear_at_other}
use Rattle.sched_laws.proofs.Lists.{some_is, is_some_at}
use Rattle.sched_laws.proofs.Opened.{with_domain-domains, with_domain-resources}
use Rattle.state_ranges.specs.Ranges.{StateInRange}
use Rattle.state_ranges.proofs.Done.{in_range}
use Rattle.journal_core.specs.Parts.{pool_part, lists, pool_lists}
use Rattle.composition_laws.proofs.Places.{some_change_at}
use Rattle.composition_laws.proofs.Alike.{mover_of}
use Rattle.composition_laws.proofs.Housed.{Housed}
use Rattle.composition_laws.proofs.HousedMoved.{HasPlaces}
use Rattle.composition_laws.proofs.NamesLaw.{housed_from}
use Rattle.composition_laws.proofs.Begun.{housed_opening}
use Rattle.composition_laws.specs.ToolSteps.{ChangesPlace, JoinSteps, LeaveSteps, DomainSteps}
use Rattle.composition_laws.specs.ListedNames.{HandsOver, ListsNames}
use Rattle.composition_laws.proofs.ToolSteps.{join_steps, leave_steps, domain_steps}
use Rattle.composition_laws.proofs.ListedNames.{tool_lists, part_lists, same_lists, core_name, domain_name, names_at, names_settled}
use Rattle.composition_laws.proofs.StayingNames.{lists_stay}
use Rattle.composition_laws.proofs.HousedMoved.{left_length}

low_name : (n : ℕ) → n < 64 → nat_lt n 64 ≡ true
low_name n low = grind (arith, low)

pub high_name : (d : ℕ) → nat_lt (64 + d) 64 ≡ false
high_name d = grind arith

is_high : (n : ℕ) → nat_lt n 64 ≡ false → 64 ≤ n
is_high n high = grind (arith, high)

-- what is known of a state of a run
pub record IsKnown (m : Machine) (s : State) : Type 0 where
  pub few_cores : machine_core_count m.config ≤ 64
  pub pool_places : length s.pools ≡ 16
  pub places : HasPlaces m s
  pub housed : Housed m s

-- a pool changed in what the name n does not name
core_elsewhere : (t r n : ℕ) (pool : Pool) (cores : List (Option Resource)) → at_place cores n ≡ at_place pool.resources n → pool_lists n (settled_pool t (record pool { resources = cores })) ≡ pool_lists n pool
core_elsewhere t r n pool cores same = names_settled t n (record pool { resources = cores }) ∙ names_at n (record pool { resources = cores }) pool (λ low. ap is_some same) (λ high. refl)

-- the name at each place, after a change that leaves it
at_each : (s next : State) (i n k : ℕ) (f : Pool → Pool) → ChangesPlace s next i (option_map f) → ((pool : Pool) → pool_lists n (f pool) ≡ pool_lists n pool) → lists (pool_part (at_place next.pools k)) n ≡ lists (pool_part (at_place s.pools k)) n
at_each s next i n k f c keeps = dite (ℕ_discrete k i)
    (λ e. subst (λ (j : ℕ). lists (pool_part (at_place next.pools j)) n ≡ lists (pool_part (at_place s.pools j)) n) (sym e) (ap (λ (o : Option Pool). lists (pool_part o) n) c.own ∙ by_place (at_place s.pools i)))
    (λ ne. ap (λ (o : Option Pool). lists (pool_part o) n) (c.others k ne))
  where
    by_place : (o : Option Pool) → lists (pool_part (option_map f o)) n ≡ lists (pool_part o) n
    by_place None = refl
    by_place (Some pool) = keeps pool

module _ (m : Machine) (s : State) (t : ℕ) (known : IsKnown m s) where
  is_pool : (i : ℕ) → is_some (at_place s.pools i) ≡ true → i ≢ 16
  is_pool i there e = let pool = some_is (at_place s.pools i) there in let low = place_below s.pools i pool.0 pool.1 in let len = known.pool_places in omega (arith, low, len, e)

  join_hands : (r : ℕ) (c : FreeCore) (i : ℕ) → at_place s.free r ≡ Some c → c.target ≡ Some i → HandsOver s (after m s t (Moved (core r))) r 16 i
  join_hands r c i at aims =
      let next : State = after m s t (Moved (core r)) in
      let steps : JoinSteps m s t r c i = join_steps m s t r c i at aims in
      let there : is_some (at_place s.pools i) ≡ true = known.housed.aims r i (ap (option_map (λ (x : FreeCore). x.target)) at ∙ ap (λ o. Some o) aims) in
      let pool = some_is (at_place s.pools i) there in
      let inside : r < machine_core_count m.config = (let b = place_below s.free r c at in let e = known.places.free in omega (arith, b, e)) in
      let low : nat_lt r 64 ≡ true = low_name r (let few = known.few_cores in omega (arith, inside, few)) in
      let room : r < length pool.0.resources = (let e = known.places.cores i pool.0 pool.1 in omega (arith, inside, e)) in
      let comes : pool_lists r (pool_with_core t r c.stall_ends pool.0) ≡ true =
      names_settled t r (record pool.0 { resources = put_at r (joined_core c.stall_ends) pool.0.resources }) ∙ core_name r (record pool.0 { resources = put_at r (joined_core c.stall_ends) pool.0.resources }) low
      ∙ ap is_some (at_place-put_at r (joined_core c.stall_ends) pool.0.resources room) in
      let cleared : at_place next.free r ≡ None = ap (λ (l : List (Option FreeCore)). at_place l r) steps.free ∙ at_place-clear_at r s.free in
      record {
        had = tool_lists s r ∙ and_from (nat_lt r 64) (is_some (at_place s.free r)) low (is_some_at (at_place s.free r) c at);
        has = part_lists next i r (is_pool i there) ∙ ap (λ (o : Option Pool). lists (pool_part o) r) (steps.own.own ∙ ap (option_map (pool_with_core t r c.stall_ends)) pool.1) ∙ comes;
        gone = λ apart. tool_lists next r ∙ and_right (nat_lt r 64) (is_some (at_place next.free r)) (ap is_some cleared);
        elsewhere = λ k not_tool ne. part_lists next k r not_tool ∙ ap (λ (o : Option Pool). lists (pool_part o) r) (steps.own.others k ne) ∙ sym (part_lists s k r not_tool);
        others = λ k n ne. same_lists s next k n
            (at_each s next i n k (pool_with_core t r c.stall_ends) steps.own (λ p. core_elsewhere t r n p (put_at r (joined_core c.stall_ends) p.resources) (at_place-put_at_other r n (joined_core c.stall_ends) p.resources ne)))
            (ap (λ (l : List (Option FreeCore)). is_some (at_place l n)) steps.free ∙ ap is_some (at_place-clear_at_other r n s.free ne));
      }

  leave_hands : (r i : ℕ) (pool : Pool) (c : Resource) → at_place s.free r ≡ None → home_pool_of_core s r ≡ Some i → at_place s.pools i ≡ Some pool → at_place pool.resources r ≡ Some c → HandsOver s (after m s t (Moved (core r))) r i 16
  leave_hands r i pool c not_free home at has =
      let next : State = after m s t (Moved (core r)) in
      let steps : LeaveSteps m s t r i c = leave_steps m s t r i pool c not_free home at has in
      let x : FreeCore = record { target = None; stall_ends = map (λ p. p.stall_end) c.processors } in
      let ne16 : i ≢ 16 = is_pool i (is_some_at (at_place s.pools i) pool at) in
      let inside : r < machine_core_count m.config = (let b = place_below pool.resources r c has in let e = known.places.cores i pool at in omega (arith, b, e)) in
      let low : nat_lt r 64 ≡ true = low_name r (let few = known.few_cores in omega (arith, inside, few)) in
      let room : r < length s.free = (let e = known.places.free in omega (arith, inside, e)) in
      let put : at_place next.free r ≡ Some x = ap (λ (l : List (Option FreeCore)). at_place l r) steps.free ∙ at_place-put_at r x s.free room in
      let goes : pool_lists r (without_core t r pool) ≡ false =
      names_settled t r (record pool { resources = clear_at r pool.resources }) ∙ core_name r (record pool { resources = clear_at r pool.resources }) low ∙ ap is_some (at_place-clear_at r pool.resources) in
      record {
        had = part_lists s i r ne16 ∙ ap (λ (o : Option Pool). lists (pool_part o) r) at ∙ core_name r pool low ∙ ap is_some has;
        has = tool_lists next r ∙ and_from (nat_lt r 64) (is_some (at_place next.free r)) low (ap is_some put);
        gone = λ apart. part_lists next i r ne16 ∙ ap (λ (o : Option Pool). lists (pool_part o) r) (steps.own.own ∙ ap (option_map (without_core t r)) at) ∙ goes;
        elsewhere = λ k ne not_tool. part_lists next k r not_tool ∙ ap (λ (o : Option Pool). lists (pool_part o) r) (steps.own.others k ne) ∙ sym (part_lists s k r not_tool);
        others = λ k n ne. same_lists s next k n
            (at_each s next i n k (without_core t r) steps.own (λ p. core_elsewhere t r n p (clear_at r p.resources) (at_place-clear_at_other r n p.resources ne)))
            (ap (λ (l : List (Option FreeCore)). is_some (at_place l n)) steps.free ∙ ap is_some (at_place-put_at_other r n x s.free ne));
      }

-- a domain's pools
module _ (g t d : ℕ) where
  left_is : (P : Pool → Type 0) (pool : Pool) → P (settled_pool t (pool_without_domain d pool)) → P (pool_without_domain d pool) → P (left_by t d pool)
  left_is P pool settles leaves = by_cond P (is_null_pool pool.scheduler.records) (settled_pool t (pool_without_domain d pool)) (pool_without_domain d pool) (λ is. settles) (λ is. leaves)

  -- the name of the domain
  named : (pool : Pool) → pool_lists (64 + d) pool ≡ is_some (at_place pool.domains d)
  named pool = domain_name (64 + d) pool (high_name d) ∙ ap (λ (n : ℕ). is_some (at_place pool.domains n)) (let e : (64 + d) - 64 ≡ d = omega arith in e)

  left_gone : (pool : Pool) → pool_lists (64 + d) (left_by t d pool) ≡ false
  left_gone pool =
      let gone : pool_lists (64 + d) (pool_without_domain d pool) ≡ false = named (pool_without_domain d pool) ∙ ap is_some (at_place-clear_at d pool.domains) in
      left_is (λ (q : Pool). pool_lists (64 + d) q ≡ false) pool (names_settled t (64 + d) (pool_without_domain d pool) ∙ gone) gone

  other : (n : ℕ) → n ≢ 64 + d → nat_lt n 64 ≡ false → n - 64 ≢ d
  other n ne high e = let low = is_high n high in ne (omega (arith, low, e))

  left_others : (n : ℕ) → n ≢ 64 + d → (pool : Pool) → pool_lists n (left_by t d pool) ≡ pool_lists n pool
  left_others n ne pool =
      let stays : pool_lists n (pool_without_domain d pool) ≡ pool_lists n pool = names_at n (pool_without_domain d pool) pool (λ low. refl) (λ high. ap is_some (at_place-clear_at_other d (n - 64) pool.domains (other n ne high))) in
      left_is (λ (q : Pool). pool_lists n q ≡ pool_lists n pool) pool (names_settled t n (pool_without_domain d pool) ∙ stays) stays

  module _ (x : Domain) where
    abbrev joined : Pool → Pool
    joined pool = pool_with_domain g t d (record x { moving = None }) (standard_dom_params pool.scheduler.records) pool

    joined_domains : (pool : Pool) → (joined pool).domains ≡ put_at d (record x { moving = None }) pool.domains
    joined_domains pool = with_domain-domains g t d (record x { moving = None }) (standard_dom_params pool.scheduler.records) pool

    joined_has : (pool : Pool) → d < length pool.domains → pool_lists (64 + d) (joined_by g t d x pool) ≡ true
    joined_has pool room = names_settled t (64 + d) (joined pool) ∙ named (joined pool) ∙ ap (λ (l : List (Option Domain)). is_some (at_place l d)) (joined_domains pool) ∙ ap is_some (at_place-put_at d (record x { moving = None }) pool.domains room)

    joined_others : (n : ℕ) → n ≢ 64 + d → (pool : Pool) → pool_lists n (joined_by g t d x pool) ≡ pool_lists n pool
    joined_others n ne pool = names_settled t n (joined pool) ∙ names_at n (joined pool) pool
        (λ low. ap (λ (l : List (Option Resource)). is_some (at_place l n)) (with_domain-resources g t d (record x { moving = None }) (standard_dom_params pool.scheduler.records) pool))
        (λ high. ap (λ (l : List (Option Domain)). is_some (at_place l (n - 64))) (joined_domains pool) ∙ ap is_some (at_place-put_at_other d (n - 64) (record x { moving = None }) pool.domains (other n ne high)))

domain_hands : (m : Machine) (s : State) (t : ℕ) → IsKnown m s → (d i : ℕ) (pool : Pool) (x : Domain) (j : PoolId) → home_pool_of_domain s d ≡ Some i → at_place s.pools i ≡ Some pool → at_place pool.domains d ≡ Some x → x.moving ≡ Some j
    → HandsOver s (after m s t (DomMoved (domain_number d))) (64 + d) i j.0
domain_hands m s t known d i pool x j home at has moves =
    let g : ℕ = m.config.granularity in
    let next : State = after m s t (DomMoved (domain_number d)) in
    let mid : State = change_pool i (left_by t d) s in
    let steps : DomainSteps m s t d i j.0 x = domain_steps m s t d i pool x j home at has moves in
    let there : is_some (at_place s.pools j.0) ≡ true = known.housed.movers i d j (ap (λ o. mover_of o d) at ∙ ap (option_map (λ (y : Domain). y.moving)) has ∙ ap (λ o. Some o) moves) in
    let q = some_is (at_place mid.pools j.0) (some_change_at i j.0 (left_by t d) s.pools ∙ there) in
    let lengths : EachPlace (λ (p : Pool). length p.domains ≡ length m.config.domains) mid.pools =
    EachPlace-change_at (λ (p : Pool). length p.domains ≡ length m.config.domains) i (left_by t d) s.pools known.places.domains (λ p at_p here. left_length t d p ∙ here) in
    let room : d < length q.0.domains = (let b = place_below pool.domains d x has in let e = known.places.domains i pool at in let e2 = lengths j.0 q.0 q.1 in omega (arith, b, e, e2)) in
    let from : i ≢ 16 = is_pool m s t known i (is_some_at (at_place s.pools i) pool at) in
    let to : j.0 ≢ 16 = is_pool m s t known j.0 there in
    let seen : ℕ → Option Pool → Bool = λ n o. lists (pool_part o) n in
    record {
      had = part_lists s i (64 + d) from ∙ ap (seen (64 + d)) at ∙ named g t d pool ∙ ap is_some has;
      has = part_lists next j.0 (64 + d) to ∙ ap (seen (64 + d)) (steps.joins.own ∙ ap (option_map (joined_by g t d x)) q.1) ∙ joined_has g t d x q.0 room;
      gone = λ apart. part_lists next i (64 + d) from ∙ ap (seen (64 + d)) (steps.joins.others i apart ∙ steps.leaves.own ∙ ap (option_map (left_by t d)) at) ∙ left_gone g t d pool;
      elsewhere = λ k not_from not_to. same_lists s next k (64 + d) (ap (seen (64 + d)) (steps.joins.others k not_to ∙ steps.leaves.others k not_from)) (ap (λ (l : List (Option FreeCore)). is_some (at_place l (64 + d))) steps.free);
      others = λ k n ne. same_lists s next k n
          (at_each mid next j.0 n k (joined_by g t d x) steps.joins (joined_others g t d x n ne) ∙ at_each s mid i n k (left_by t d) steps.leaves (left_others g t d n ne))
          (ap (λ (l : List (Option FreeCore)). is_some (at_place l n)) steps.free);
    }

few_by : (g processors : ℕ) → IsGranularity g → processors ≤ 64 → processors / g ≤ 64
few_by g processors (inl is) few = subst (λ (n : ℕ). processors / n ≤ 64) (sym is) (omega (arith, few))
few_by g processors (inr (inl is)) few = subst (λ (n : ℕ). processors / n ≤ 64) (sym is) (omega (arith, few))
few_by g processors (inr (inr is)) few = subst (λ (n : ℕ). processors / n ≤ 64) (sym is) (omega (arith, few))

pub known_in_runs : (m : Machine) → IsChecked m → (entries : List Entry) → IsRun m entries → IsKnown m (state_after m entries)
known_in_runs m checked entries run = let ranges : StateInRange m (state_after m entries) = in_range m checked entries run in record {
  few_cores = few_by m.config.granularity m.config.processors checked.config.granularity checked.config.processors.most;
  pool_places = ranges.pool_places;
  places = record { free = ranges.free_places; cores = λ i pool at. (ranges.pools i pool at).core_places; domains = λ i pool at. (ranges.pools i pool at).domain_places };
  housed = housed_from m checked [] entries (run_start m) refl tt run (housed_opening m checked);
}

pub lists_names : (m : Machine) → IsChecked m → (entries : List Entry) → IsRun m entries → (t : ℕ) → ListsNames m (state_after m entries) t
lists_names m checked entries run t =
    let s : State = state_after m entries in
    let known : IsKnown m s = known_in_runs m checked entries run in
    record { stays = lists_stay m s t; joins = join_hands m s t known; leaves = leave_hands m s t known; domain = domain_hands m s t known }
