-- The law of parts, from what is kept.
use Rattle.sched_base.proofs.Bools.{clash, and_left, and_right}
use Rattle.std.proofs.lemmas.Bool.{lt-ltb, ltb-true, cases_Bool}
use Rattle.sched_model.proofs.RunLemmas.{IsRunFrom-append, after_entries-append}
use Rattle.std.proofs.Common.{◌≡◌, ◌≢◌, ◌<◌, ◌≤◌, ◌-◌, ℕ, zero, suc, Bool, true, false, eqb, List, [], ◌∷◌, ◌++◌, length, refl, arith, ap, subst, sym, ◌∙◌, inl, inr, eq-eqb, eqb-true, ne_eqb, cond}
use Rattle.std.specs.Prelude.{Option, Some, None, is_some, option_map, take, slice_get, map, nat_lt, ◌&&◌}
use mathlib.Core.Logic.{dite}
use native.Mathlib.Decide.{ℕ_discrete}
use Rattle.sched_base.specs.declared.PoolId.{PoolId}
use Rattle.sched_model.specs.declared.event.Event.{Event}
use Rattle.sched_model.specs.declared.event.Entry.{Entry}
use Rattle.sched_model.specs.declared.machine.Machine.{Machine}
use Rattle.sched_model.specs.declared.action.Action.{Action}
use Rattle.sched_model.specs.declared.action.Action.TheVariants.{Stall, Xl, Moved, DomMoved}
use Rattle.sched_model.specs.declared.state.Domain.{Domain}
use Rattle.sched_model.specs.declared.state.FreeCore.{FreeCore}
use Rattle.sched_model.specs.declared.state.Pool.{Pool}
use Rattle.sched_model.specs.declared.state.State.{State}
use Rattle.sched_model.specs.declared.work.StallLine.{StallLine}
use Rattle.sched_model.specs.Places.{at_place, first_place, test_at}
use Rattle.sched_model.specs.Opening.{machine_core_count}
use Rattle.sched_model.specs.CheckedMachine.{IsChecked}
use Rattle.sched_model.specs.Machine.{is_action_enabled, after, after_stall, after_at_home}
use Rattle.sched_model.specs.Runs.{Reached, event_action, named_next_moment, after_quiet, after_event, IsNext, IsNextEvent, IsRunFrom, IsRun, run_start, after_entry, after_entries}
use Rattle.sched_model.proofs.PlaceLemmas.{is_some-option_map}
use Rattle.sched_laws.specs.StateLaws.{state_after}
use Rattle.sched_laws.proofs.EachPlace.{found_at, none_found, place_below}
use Rattle.sched_laws.proofs.Lists.{test_at-some, some_is}
use Rattle.sched_laws.proofs.Kept.{IsApart}
use Rattle.state_ranges.specs.Ranges.{StateInRange}
use Rattle.state_ranges.proofs.Done.{in_range}
use Rattle.state_ranges.proofs.RangesLaw.{fits_in_runs}
use Rattle.journal_core.specs.Parts.{StatePart, pool_part, part_of, lists, pool_lists, home_in, is_name}
use Rattle.journal_core.specs.Histories.{part_at, home_at, state_at, NamesStandOnce}
use Rattle.composition_laws.proofs.Looks.{has_core_in}
use Rattle.composition_laws.proofs.Alike.{core_of, mover_of, alike_stall, alike_at_home}
use Rattle.composition_laws.proofs.Housed.{Housed, housed_alike, housed_command}
use Rattle.composition_laws.proofs.Begun.{housed_opening}
use Rattle.composition_laws.proofs.HousedMoved.{HasPlaces, housed_moved, housed_dom_moved}

housed_stall : (m : Machine) (t : ℕ) (line : Option StallLine) (s : State) → Housed m s → Housed m (elim line as (λ _. State) [ None ↦ s | Some l ↦ after_stall m.config.granularity t l s ])
housed_stall m t None s h = h
housed_stall m t (Some l) s h = housed_alike m s (after_stall m.config.granularity t l s) (alike_stall m.config.granularity t l s) h

housed_home : (m : Machine) (t : ℕ) (action : Action) (s : State) → Housed m s → Housed m (after_at_home m.config.granularity s t action)
housed_home m t action s h = housed_alike m s (after_at_home m.config.granularity s t action) (alike_at_home m.config.granularity t action s) h

-- an event that may come
housed_after : (m : Machine) (s : State) (t : ℕ) (action : Action) → is_action_enabled m s t action ≡ true → HasPlaces m s → Housed m s → Housed m (after m s t action)
housed_after m s t Stall on places h = housed_stall m t (slice_get m.work.stalls s.next_stall) s h
housed_after m s t Xl on places h = housed_command m t (slice_get m.work.commands s.next_command) s on h
housed_after m s t (Moved r) on places h = housed_moved m t r.0 s places h
housed_after m s t (DomMoved d) on places h = housed_dom_moved m m.config.granularity t d.0 s places h
housed_after m s t action on places h = housed_home m t action s h

housed_quiet : (m : Machine) (end : Option ℕ) (from : Reached) → Housed m from.state → Housed m (after_quiet end from).state
housed_quiet m None from h = h
housed_quiet m (Some next) from h = record { cores = h.cores; domains = h.domains; aims = h.aims; movers = h.movers; away = h.away }

housed_event : (m : Machine) (e : Event) (action : Option Action) (from : Reached) → IsNextEvent m from.state e action → HasPlaces m from.state → Housed m from.state → Housed m (after_event m e action from).state
housed_event m e None from next places h = housed_quiet m (named_next_moment e) from h
housed_event m e (Some action) from next places h = housed_after m from.state from.state.now action next.0 places h

has_places : (m : Machine) → IsChecked m → (entries : List Entry) → IsRun m entries → HasPlaces m (state_after m entries)
has_places m checked entries run = let ranges : StateInRange m (state_after m entries) = in_range m checked entries run in
    record { free = ranges.free_places; cores = λ i pool at. (ranges.pools i pool at).core_places; domains = λ i pool at. (ranges.pools i pool at).domain_places }

pub housed_from : (m : Machine) → IsChecked m → (done rest : List Entry) (from : Reached) → after_entries m (run_start m) done ≡ from → IsRun m done → IsRunFrom m from rest → Housed m from.state → Housed m (after_entries m from rest).state
housed_from m checked done [] from is run goes h = h
housed_from m checked done (e ∷ rest) from is run goes h =
    housed_from m checked (done ++ e ∷ []) rest (after_entry m from e) (after_entries-append m (run_start m) done e ∙ ap (λ r. after_entry m r e) is)
    (IsRunFrom-append m (run_start m) done e run (subst (λ r. IsNext m r e) (sym is) goes.0)) goes.1
    (housed_event m e.event (event_action e.event) from goes.0.event (subst (λ (r : Reached). HasPlaces m r.state) is (has_places m checked done run)) h)

-- a domain that is moving moves to another pool
pub moves-away : (m : Machine) → IsChecked m → (entries : List Entry) → IsRun m entries → (i d : ℕ) (pool : Pool) (x : Domain) (j : PoolId) → at_place (state_after m entries).pools i ≡ Some pool → at_place pool.domains d ≡ Some x → x.moving ≡ Some j
    → j.0 ≢ i
moves-away m checked entries run i d pool x j at has moves =
    (housed_from m checked [] entries (run_start m) refl tt run (housed_opening m checked)).away i d j (ap (λ o. mover_of o d) at ∙ ap (option_map (λ (y : Domain). y.moving)) has ∙ ap (λ o. Some o) moves)

-- from a test to another and back
same_tests : (a b : Bool) → (a ≡ true → b ≡ true) → (b ≡ true → a ≡ true) → a ≡ b
same_tests true b to back = sym (to refl)
same_tests false true to back = back refl
same_tests false false to back = refl

take_whole : {X : Type 0} (n : ℕ) (xs : List X) → length xs ≤ n → take n xs ≡ xs
take_whole zero [] few = refl
take_whole zero (x ∷ xs) few = absurd (omega (arith, few))
take_whole (suc n) [] few = refl
take_whole (suc n) (x ∷ xs) few = ap (λ l. x ∷ l) (take_whole n xs (omega (arith, few)))

pub some_mapped : {X Y : Type 0} (f : X → Y) (n : ℕ) (places : List (Option X)) → is_some (at_place (map (option_map f) places) n) ≡ is_some (at_place places n)
some_mapped f n [] = refl
some_mapped f zero (None ∷ places) = refl
some_mapped f zero (Some x ∷ places) = refl
some_mapped f (suc n) (p ∷ places) = some_mapped f n places

module _ (m : Machine) (s : State) (apart : IsApart s) (places : HasPlaces m s) (pool_places : length s.pools ≡ 16) (h : Housed m s) (n : ℕ) where
  -- the pool k lists the name
  abbrev Listed : ℕ → Bool
  Listed k = test_at s.pools k (pool_lists n)

  -- where it was found, or the tool's part
  abbrev or_tool : Option ℕ → ℕ
  or_tool o = elim o as (λ _. ℕ) [ Some i ↦ i | None ↦ 16 ]

  found : Option ℕ
  found = first_place 0 (pool_lists n) s.pools

  home_is : home_in m.config s n ≡ cond (is_name m.config n) (or_tool found) 255
  unfolding found
  home_is = ap (λ (l : List (Option Pool)). cond (is_name m.config n) (or_tool (first_place 0 (pool_lists n) l)) 255) (take_whole 16 s.pools (omega (arith, pool_places)))

  listed_pool : (k : ℕ) → Listed k ≡ true → (pool : Pool) × (at_place s.pools k ≡ Some pool) × (pool_lists n pool ≡ true)
  listed_pool k is = by_place (at_place s.pools k) refl is
    where
      by_place : (o : Option Pool) → at_place s.pools k ≡ o → elim o as (λ _. Bool) [ None ↦ false | Some pool ↦ pool_lists n pool ] ≡ true → (pool : Pool) × (at_place s.pools k ≡ Some pool) × (pool_lists n pool ≡ true)
      by_place None at is = absurd (cc)
      by_place (Some pool) at is = (pool, at, is)

  core_listed : nat_lt n 64 ≡ true → (pool : Pool) → pool_lists n pool ≡ has_core_in pool n
  core_listed low pool = ap (λ b. cond b (is_some (at_place pool.resources n)) (is_some (at_place pool.domains (n - 64)))) low

  domain_listed : nat_lt n 64 ≡ false → (pool : Pool) → pool_lists n pool ≡ is_some (at_place pool.domains (n - 64))
  domain_listed high pool = ap (λ b. cond b (is_some (at_place pool.resources n)) (is_some (at_place pool.domains (n - 64)))) high

  core_name : nat_lt n 64 ≡ true → is_name m.config n ≡ nat_lt n (machine_core_count m.config)
  core_name low = ap (λ b. cond b (nat_lt n (machine_core_count m.config)) (nat_lt (n - 64) (length m.config.domains))) low

  domain_name : nat_lt n 64 ≡ false → is_name m.config n ≡ nat_lt (n - 64) (length m.config.domains)
  domain_name high = ap (λ b. cond b (nat_lt n (machine_core_count m.config)) (nat_lt (n - 64) (length m.config.domains))) high

  -- what a pool lists is a name of the input
  listed_name : (k : ℕ) → Listed k ≡ true → is_name m.config n ≡ true
  listed_name k is = let p = listed_pool k is in elim (cases_Bool (nat_lt n 64)) [
    | inl low ↦ (let c = some_is (at_place p.0.resources n) (sym (core_listed low p.0) ∙ p.2) in let b = place_below p.0.resources n c.0 c.1 in let e = places.cores k p.0 p.1 in core_name low ∙ lt-ltb n (machine_core_count m.config) (omega (arith, b, e)))
    | inr high ↦ (let x = some_is (at_place p.0.domains (n - 64)) (sym (domain_listed high p.0) ∙ p.2) in let b = place_below p.0.domains (n - 64) x.0 x.1 in let e = places.domains k p.0 p.1 in domain_name high ∙ lt-ltb (n - 64) (length m.config.domains) (omega (arith, b, e)))
  ]

  -- no two pools list it
  listed_once : (k j : ℕ) → Listed k ≡ true → Listed j ≡ true → k ≡ j
  listed_once k j a b = let p = listed_pool k a in let q = listed_pool j b in elim (cases_Bool (nat_lt n 64)) [
    | inl low ↦ apart.cores k j n (test_at-some s.pools k (λ pool. is_some (at_place pool.resources n)) p.0 p.1 (sym (core_listed low p.0) ∙ p.2)) (test_at-some s.pools j (λ pool. is_some (at_place pool.resources n)) q.0 q.1 (sym (core_listed low q.0) ∙ q.2))
    | inr high ↦ apart.domains k j (n - 64) (test_at-some s.pools k (λ pool. is_some (at_place pool.domains (n - 64))) p.0 p.1 (sym (domain_listed high p.0) ∙ p.2)) (test_at-some s.pools j (λ pool. is_some (at_place pool.domains (n - 64))) q.0 q.1 (sym (domain_listed high q.0) ∙ q.2))
  ]

  -- it was found where a pool lists it
  found_listed : (i : ℕ) → found ≡ Some i → Listed i ≡ true
  unfolding found
  found_listed i is = let f = found_at i (pool_lists n) s.pools is in test_at-some s.pools i (pool_lists n) f.0 f.1 f.2

  none_listed : found ≡ None → (k : ℕ) → Listed k ≡ true → ⊥
  unfolding found
  none_listed is k listed = let p = listed_pool k listed in clash (pool_lists n p.0) p.2 (none_found 0 k (pool_lists n) s.pools p.0 is p.1)

  -- the tool's part lists it
  abbrev Free : Bool
  Free = nat_lt n 64 && is_some (at_place s.free n)

  free_low : Free ≡ true → (nat_lt n 64 ≡ true) × (is_some (at_place s.free n) ≡ true)
  free_low is = (and_left (nat_lt n 64) (is_some (at_place s.free n)) is, and_right (nat_lt n 64) (is_some (at_place s.free n)) is)

  free_apart : Free ≡ true → (k : ℕ) → Listed k ≡ true → ⊥
  free_apart is k listed = let f = free_low is in let p = listed_pool k listed in
      apart.free k n f.1 (test_at-some s.pools k (λ pool. is_some (at_place pool.resources n)) p.0 p.1 (sym (core_listed f.0 p.0) ∙ p.2))

  free_name : Free ≡ true → is_name m.config n ≡ true
  free_name is = let f = free_low is in let c = some_is (at_place s.free n) f.1 in let b = place_below s.free n c.0 c.1 in let e = places.free in core_name f.0 ∙ lt-ltb n (machine_core_count m.config) (omega (arith, b, e))

  -- a name that no pool lists is a free core's
  free_or_listed : is_name m.config n ≡ true → ((k : ℕ) → Listed k ≡ true → ⊥) → Free ≡ true
  free_or_listed named none = elim (cases_Bool (nat_lt n 64)) [
    | inl low ↦ elim (h.cores n (ltb-true n (machine_core_count m.config) (sym (core_name low) ∙ named))) [
      | inl free ↦ ap (λ b. b && is_some (at_place s.free n)) low ∙ free
      | inr p ↦ absurd (none p.0 (core_here (at_place s.pools p.0) low p.1))
    ]
    | inr high ↦ (let p = h.domains (n - 64) (ltb-true (n - 64) (length m.config.domains) (sym (domain_name high) ∙ named)) in absurd (none p.0 (domain_here (at_place s.pools p.0) high p.1)))
  ]
    where
      core_here : (o : Option Pool) → nat_lt n 64 ≡ true → core_of o n ≡ true → elim o as (λ _. Bool) [ None ↦ false | Some pool ↦ pool_lists n pool ] ≡ true
      core_here None low is = is
      core_here (Some pool) low is = core_listed low pool ∙ is

      domain_here : (o : Option Pool) → nat_lt n 64 ≡ false → is_some (mover_of o (n - 64)) ≡ true → elim o as (λ _. Bool) [ None ↦ false | Some pool ↦ pool_lists n pool ] ≡ true
      domain_here None high is = is
      domain_here (Some pool) high is = domain_listed high pool ∙ (sym (is_some-option_map (λ (x : Domain). x.moving) (at_place pool.domains (n - 64))) ∙ is)

  -- the home of what a pool lists, and of a free core
  home_listed : (k : ℕ) → Listed k ≡ true → home_in m.config s n ≡ k
  home_listed k is = home_is ∙ (ap (λ b. cond b (or_tool found) 255) (listed_name k is) ∙ by_found found refl)
    where
      by_found : (o : Option ℕ) → found ≡ o → or_tool o ≡ k
      by_found None none = absurd (none_listed none k is)
      by_found (Some i) at = listed_once i k (found_listed i at) is

  home_free : Free ≡ true → home_in m.config s n ≡ 16
  home_free is = home_is ∙ (ap (λ b. cond b (or_tool found) 255) (free_name is) ∙ by_found found refl)
    where
      by_found : (o : Option ℕ) → found ≡ o → or_tool o ≡ 16
      by_found None none = refl
      by_found (Some i) at = absurd (free_apart is i (found_listed i at))

  -- what is listed by the part of its home
  listed_at : (k : ℕ) → k < 16 → home_in m.config s n ≡ k → Listed k ≡ true
  listed_at k low is = by_name (is_name m.config n) refl
    where
      by_found : (o : Option ℕ) → found ≡ o → or_tool o ≡ k → Listed k ≡ true
      by_found None none e = absurd (omega (arith, low, e))
      by_found (Some i) at e = subst (λ (j : ℕ). Listed j ≡ true) e (found_listed i at)

      by_name : (b : Bool) → is_name m.config n ≡ b → Listed k ≡ true
      by_name true named = by_found found refl (sym (home_is ∙ ap (λ b. cond b (or_tool found) 255) named) ∙ is)
      by_name false unnamed = let e : 255 ≡ k = sym (home_is ∙ ap (λ b. cond b (or_tool found) 255) unnamed) ∙ is in absurd (omega (arith, low, e))

  free_at : home_in m.config s n ≡ 16 → Free ≡ true
  free_at is = by_name (is_name m.config n) refl
    where
      by_found : is_name m.config n ≡ true → (o : Option ℕ) → found ≡ o → or_tool o ≡ 16 → Free ≡ true
      by_found named None none e = free_or_listed named (none_listed none)
      by_found named (Some i) at e = let p = listed_pool i (found_listed i at) in let b = place_below s.pools i p.0 p.1 in let len = pool_places in absurd (omega (arith, b, len, e))

      by_name : (b : Bool) → is_name m.config n ≡ b → Free ≡ true
      by_name true named = by_found named found refl (sym (home_is ∙ ap (λ b. cond b (or_tool found) 255) named) ∙ is)
      by_name false unnamed = let e : 255 ≡ 16 = sym (home_is ∙ ap (λ b. cond b (or_tool found) 255) unnamed) ∙ is in absurd (omega (arith, e))

  lists_pool : (o : Option Pool) → lists (pool_part o) n ≡ elim o as (λ _. Bool) [ None ↦ false | Some pool ↦ pool_lists n pool ]
  lists_pool None = refl
  lists_pool (Some pool) = refl

  stands_once : (k : ℕ) → k < 17 → lists (part_of s k) n ≡ eqb (home_in m.config s n) k
  stands_once k low = dite (ℕ_discrete k 16)
      (λ e. subst (λ (j : ℕ). lists (part_of s j) n ≡ eqb (home_in m.config s n) j) (sym e)
      (ap (λ b. nat_lt n 64 && b) (some_mapped (λ (c : FreeCore). c.stall_ends) n s.free) ∙ same_tests Free (eqb (home_in m.config s n) 16) (λ is. eq-eqb (home_in m.config s n) 16 (home_free is)) (λ is. free_at (eqb-true (home_in m.config s n) 16 is))))
      (λ ne. ap (λ (p : StatePart). lists p n) (ap (λ b. cond b (part_of s 16) (pool_part (at_place s.pools k))) (ne_eqb k 16 ne)) ∙ (lists_pool (at_place s.pools k)
      ∙ same_tests (Listed k) (eqb (home_in m.config s n) k) (λ is. eq-eqb (home_in m.config s n) k (home_listed k is)) (λ is. listed_at k (omega (arith, low, ne)) (eqb-true (home_in m.config s n) k is))))

pub names_stand_once : (m : Machine) → IsChecked m → (entries : List Entry) → IsRun m entries → NamesStandOnce m entries
unfolding part_at home_at
names_stand_once m checked entries run k n low small =
    stands_once m (state_at m entries) (fits_in_runs m checked entries run).apart (has_places m checked entries run) (in_range m checked entries run).pool_places (housed_from m checked [] entries (run_start m) refl tt run (housed_opening m checked)) n k low
