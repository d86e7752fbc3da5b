-- What a seat settles for an actor of one pool, whose lock it holds beside the book, and what it does before and after.
use mathlib.Core.Logic.{dite}
use native.Mathlib.Decide.{ℕ_discrete, dec_lt}
use Rattle.std.proofs.Common.{◌≡◌, ◌≢◌, ◌∙◌, ◌<◌, ◌/◌, ◌+◌, ◌-◌, ◌&&◌, ℕ, true, true≢false, List, [], length, refl, sym, ap, subst, arith}
use Rattle.std.specs.Prelude.{Option, Some, None, is_some, nat_lt}
use Rattle.std.specs.Option.{ForSome, IsSome}
use Rattle.sched_base.specs.Numbers.{core, moment, processor}
use Rattle.sched_base.specs.declared.DomId.{DomId}
use Rattle.sched_base.specs.declared.ProcId.{ProcId}
use Rattle.sched_model.specs.declared.action.Action.{Action}
use Rattle.sched_model.specs.declared.action.Action.TheVariants.{Arrive}
use Rattle.sched_model.specs.declared.action.Actor.{Actor}
use Rattle.sched_model.specs.declared.action.Actor.TheVariants.{Proc, Dom, Tool}
use Rattle.sched_model.specs.declared.event.Event.{Event}
use Rattle.sched_model.specs.declared.machine.Machine.{Machine}
use Rattle.sched_model.specs.declared.state.FreeCore.{FreeCore}
use Rattle.sched_model.specs.declared.state.Pool.{Pool}
use Rattle.sched_model.specs.declared.state.State.{State}
use Rattle.sched_model.specs.Actions.{home_pool_of_action}
use Rattle.sched_model.specs.CheckedMachine.{IsChecked}
use Rattle.sched_model.specs.Machine.{event_of, is_action_enabled}
use Rattle.sched_model.specs.Places.{at_place}
use Rattle.sched_model.specs.Runs.{IsRun}
use Rattle.sched_base.proofs.Bools.{and_left, and_right}
use Rattle.sched_laws.proofs.Lists.{is_some_at, some_is, test_at-some}
use Rattle.sched_laws.proofs.Reached.{is_apart}
use Rattle.journal_core.specs.Books.{Chronicle}
use Rattle.journal_core.specs.Histories.{state_at}
use Rattle.journal_core.specs.Parts.{StatePart, ToolPart, is_name, lists, part_of, pool_lists, tool_lock, tool_of, tool_part}
use Rattle.composition_laws.specs.OrderLaws.{ComesAtHome}
use Rattle.composition_laws.proofs.Home.{pool_is_home}
use Rattle.composition_laws.proofs.NamesLaw.{some_mapped}
use Rattle.composition_laws.specs.Actors.{first_by, has_actor}
use Rattle.composition_laws.proofs.Actors.{first_in_pool, none_of_free}
use Rattle.composition_laws.proofs.ListedNames.{core_name, domain_name}
use Rattle.pool_laws.specs.Actors.{ComesFirstBy, IsFirstBy}
use Rattle.pool_core.specs.Seen.{Seen as PoolSeen}
use Rattle.machine_parts.specs.Places.{GoesOn, SlotSuits, StandsAt, slot_part, state_of}
use Rattle.machine_parts.specs.Told.{told_of}
use Rattle.machine_parts.proofs.Going.{part_of-is, state_of-is}
use Rattle.machine_parts.proofs.Standing.{pool_at, stands-there}
use Rattle.lock_moves.specs.declared.content.NameId.{NameId}
use Rattle.lock_moves.specs.declared.content.NameId.TheVariants as name_id
use Rattle.lock_moves.specs.Plays.{Current, IsPartOfSome}
use Rattle.lock_moves.specs.Sets.{HasTaken, IsAsKnown, LockTable, sitting_with}
use Rattle.lock_moves.specs.SeatSight.{Seen, Sitting, find_lock, after_give, known_part, after_search, locks_without}
use Rattle.lock_moves.specs.Words.{has_core, has_name, name_number}
use Rattle.lock_moves.proofs.Finding.{find-head, find-tail, find-without-other, find-without-same, none_held}
use Rattle.hall.specs.declared.turns.Full.{Full}
use Rattle.hall.specs.SeatKnowledge.{KnowsPool}
use Rattle.hall.specs.BookTurns.{HoldsOnly, IsNamed, SettlesEvent, SettlesFull, SettlesNothing, state_in, FindsFull}
use Rattle.hall.specs.Steps.{HasBook, HasEntered, KeepsLocks, KeepsOthers, KeepsSight}
use Rattle.hall.proofs.Calls.{goes-where, settles-event, settles-full}
use Rattle.hall.proofs.Locking.{no_place, no_tool}
use Rattle.hall.proofs.Parting.{now-held, part-held, stands-held, run-held}
use Rattle.hall.proofs.Processors.{arrival-small}
use Rattle.composition_laws.proofs.Moving.{high_name}

module _ (set : LockTable) (b : Chronicle) (s : Sitting) (has : HasBook set b s) (current : Current s.view) (of_hall : IsChecked set.opened.input) (input : b.input ≡ set.opened.input)
    (i : ℕ) (low : i < 16) (slot : Option PoolSeen) (knows : KnowsPool i slot s.view) (some : IsSome slot) (t : ℕ) (now : t ≡ s.view.now)
    (actor : Actor) (mine : ForSome slot (λ seen. has_actor seen.granularity seen.pool actor ≡ true))
    (found : Option Action) (first : ForSome slot (λ seen. IsFirstBy seen.granularity t seen.pool actor found)) where
  abbrev m : Machine
  m = b.input

  checked : IsChecked m
  checked = subst IsChecked (sym input) of_hall

  -- where the book leads, by the word of the laws
  abbrev there : State
  there = state_at b.input b.history

  run : IsRun m b.history
  run = run-held set b s has current

  same : state_in b ≡ there
  same = state_of-is (told_of b)

  here : (seen : PoolSeen) × (slot ≡ Some seen)
  here = some_is slot some

  abbrev seen : PoolSeen
  seen = here.0

  stands : StandsAt (told_of b) i slot
  stands = stands-held set b s has current i slot low knows

  at : at_place there.pools i ≡ Some seen.pool
  at = subst (λ (x : State). at_place x.pools i ≡ Some seen.pool) same (stands-there (told_of b) i slot stands ∙ ap pool_at here.1)

  granularity : seen.granularity ≡ m.config.granularity
  granularity = (stands.suits seen here.1).granularity

  time : t ≡ there.now
  time = now ∙ now-held set b s has current ∙ ap (λ (x : State). x.now) same

  first-there : IsFirstBy m.config.granularity there.now seen.pool actor found
  first-there = subst (λ (n : ℕ). IsFirstBy m.config.granularity n seen.pool actor found) time (subst (λ (g : ℕ). IsFirstBy g t seen.pool actor found) granularity (first seen here.1))

  -- what was found is the actor's first action of the whole machine
  first-held : first_by m (state_in b) actor ≡ found
  first-held =
      let has_it : has_actor m.config.granularity seen.pool actor ≡ true = subst (λ (g : ℕ). has_actor g seen.pool actor ≡ true) granularity (mine seen here.1) in
      subst (λ (x : State). first_by m x actor ≡ found) (sym same) (first_in_pool m checked b.history run i seen.pool actor at has_it found first-there)

  pub nothing-held : (new : Sitting) → found ≡ None → KeepsSight s new → SettlesNothing actor b s new
  nothing-held new none keeps = record { keeps = keeps; none = first-held ∙ none }

  module _ (action : Action) (is : found ≡ Some action) where
    comes-first : ComesFirstBy m.config.granularity there.now seen.pool actor action
    comes-first = subst (λ (o : Option Action). IsFirstBy m.config.granularity there.now seen.pool actor o) is first-there

    at-home : ComesAtHome m there there.now i action
    at-home = (pool_is_home m checked b.history run i there.now action).0 (record { pool = seen.pool; at = at; enabled = comes-first.enabled })

    pub enabled-held : is_action_enabled m (state_of (told_of b)) (state_of (told_of b)).now action ≡ true
    enabled-held = subst (λ (x : State). is_action_enabled m x x.now action ≡ true) (sym same) at-home.enabled

    pub home-held : home_pool_of_action m.config.granularity (state_of (told_of b)) action ≡ Some i
    home-held = subst (λ (x : State). home_pool_of_action m.config.granularity x action ≡ Some i) (sym same) at-home.home

    pub goes-held : GoesOn (told_of b)
    goes-held = goes-where b checked run action enabled-held

    -- the core of an arrival is one of 64
    pub few-held : (p : ℕ) → action ≡ Arrive (processor p) → p / set.opened.input.config.granularity < 64
    few-held = arrival-small (told_of b) goes-held action enabled-held set.opened.input input

    pub full-held : (full : Full) (new : Sitting) → FindsFull full b s new → SettlesFull actor full b s new
    full-held full new finds = settles-full b s new actor action (first-held ∙ is) full finds

    pub event-held : (place : ℕ) (e : Event) (new : Sitting) → place ≡ length b.history → e ≡ event_of m (state_of (told_of b)) (state_of (told_of b)).now action → HasEntered b (record { at = moment t; event = e }) s new → SettlesEvent actor place e b s new
    event-held place e new place_is e_is entered = settles-event b s new actor action (first-held ∙ is) (moment t) place e (now ∙ now-held set b s has current) place_is e_is entered

-- the lock is put back, and nothing is held
pub only-gone : (k : ℕ) (s1 s2 s3 s4 : Sitting) → HoldsOnly k s1.view → ((j : ℕ) → j ≢ 17 → find_lock j s2.view.held ≡ find_lock j s1.view.held) → KeepsOthers k s2.view s3.view → s4 ≡ sitting_with s3 (after_give k s3.view) → s4.view.held ≡ []
only-gone k s1 s2 s3 s4 only locks others is =
    ap (λ (s : Sitting). s.view.held) is ∙ none_held (locks_without k s3.view.held) (λ j. dite (ℕ_discrete j k)
    (λ same. ap (λ (n : ℕ). find_lock n (locks_without k s3.view.held)) same ∙ find-without-same k s3.view.held)
    (λ other. find-without-other k j s3.view.held other ∙ dite (dec_lt j 17)
    (λ part. others.locks j part other ∙ locks j (λ e. omega (arith, e, part)) ∙ only j other)
    (λ high. dite (ℕ_discrete j 17)
    (λ book. ap (λ (n : ℕ). find_lock n s3.view.held) book ∙ others.book)
    (λ more. others.others j (omega (arith, high, more)) (locks j more ∙ only j other)))))

-- a lock was found and taken by a seat that held none
module _ (k : ℕ) (part : StatePart) (refused : List ℕ) (t : ℕ) (s0 s1 : Sitting) (taken : HasTaken k part (after_search refused t s0.view) s0 s1) where
  pub sought-keeps : KeepsSight s0 s1
  sought-keeps = subst (KeepsSight s0) (sym taken.2) (record { table = refl; input = refl; limit = refl; shares = refl; front = refl; own = refl; takes = refl })

  pub sought-known : IsAsKnown k part s1.view
  sought-known = (known_part part taken.0, ap (λ (s : Sitting). find_lock k s.view.held) taken.2 ∙ find-head k (known_part part taken.0) [], refl, taken.3)

  pub sought-only : HoldsOnly k s1.view
  sought-only j other = ap (λ (s : Sitting). find_lock j s.view.held) taken.2 ∙ find-tail j k (known_part part taken.0) [] other

-- a pool's place lies under a pool's lock, and what the tool keeps under the tool's
pub lock-of-pool : (k : ℕ) (slot : Option PoolSeen) (v : Seen) → k < 17 → IsPartOfSome k (slot_part slot) v → k < 16
lock-of-pool k slot v low some = dite (ℕ_discrete k 16)
    (λ is. absurd (no_place v slot (subst (λ (n : ℕ). IsPartOfSome n (slot_part slot) v) is some)))
    (λ other. omega (arith, low, other))

pub lock-of-tool : (k : ℕ) (tool : ToolPart) (v : Seen) → k < 17 → IsPartOfSome k (tool_part tool) v → k ≡ 16
lock-of-tool k tool v low some = dite (dec_lt k 16)
    (λ below. absurd (no_tool k v tool below some))
    (λ high. omega (arith, low, high))

same-name : (a b : NameId) → (let o : Option NameId = Some a in o) ≡ Some b → b ≡ a
same-name a b is = cc

no-name : (b : NameId) → (let o : Option NameId = None in o) ≡ Some b → ⊥
no-name b is = absurd (cc)

-- a pool that lists the actor's name has the actor
listed-has : (m : Machine) (actor : Actor) (name : NameId) → IsNamed m actor name → (pool : Pool) → pool_lists (name_number name) pool ≡ true → has_actor m.config.granularity pool actor ≡ true
listed-has m (Proc p) name named pool listed =
    let r : ℕ = p.0 / m.config.granularity in
    let same : name ≡ name_id.Res (core r) = same-name (name_id.Res (core r)) name named.is in
    let has : has_core m r ≡ true = subst (λ (n : NameId). has_name m n ≡ true) same named.has in
    let low : nat_lt r 64 ≡ true = and_left (nat_lt r 64) (is_name m.config r) has in
    let here : pool_lists r pool ≡ true = subst (λ (n : NameId). pool_lists (name_number n) pool ≡ true) same listed in
    sym (core_name r pool low) ∙ here
listed-has m (Dom d) name named pool listed =
    let same : name ≡ name_id.Dom d = same-name (name_id.Dom d) name named.is in
    let here : pool_lists (64 + d.0) pool ≡ true = subst (λ (n : NameId). pool_lists (name_number n) pool ≡ true) same listed in
    let back : 64 + d.0 - 64 ≡ d.0 = omega arith in
    subst (λ (n : ℕ). is_some (at_place pool.domains n) ≡ true) back
    (sym (domain_name (64 + d.0) pool (high_name d.0)) ∙ here)
listed-has m Tool name named pool listed = absurd (no-name name named.is)

pub actor-there : (m : Machine) (now : ℕ) (actor : Actor) (name : NameId) → IsNamed m actor name → (slot : Option PoolSeen) → ForSome slot (SlotSuits m now) → lists (slot_part slot) (name_number name) ≡ true
    → ForSome slot (λ seen. has_actor seen.granularity seen.pool actor ≡ true)
actor-there m now actor name named slot suits listed seen is =
    subst (λ (g : ℕ). has_actor g seen.pool actor ≡ true) (sym (suits seen is).granularity)
    (listed-has m actor name named seen.pool (subst (λ (o : Option PoolSeen). lists (slot_part o) (name_number name) ≡ true) is listed))

-- where the tool's part lists the actor's name, its core is free, and nothing of it may come
module _ (set hall : LockTable) (b : Chronicle) (s : Sitting) (has : HasBook set b s) (current : Current s.view) (of_hall : IsChecked hall.opened.input) (input : b.input ≡ hall.opened.input) (part : ToolPart) (knows : IsAsKnown tool_lock (tool_part part) s.view) where
  abbrev there-free : List (Option FreeCore)
  there-free = (state_at b.input b.history).free

  free-listed : (n : ℕ) → lists (tool_part part) n ≡ true → (nat_lt n 64 && is_some (at_place (tool_of (state_in b)).free n)) ≡ true
  free-listed n listed =
      let is : (let p : StatePart = tool_part part in p) ≡ part_of (state_of (told_of b)) tool_lock = part-held set b s has current tool_lock (tool_part part) (omega arith) knows ∙ part_of-is (told_of b) tool_lock in
      subst (λ (p : StatePart). lists p n ≡ true) is listed

  -- the core of such a processor is free; a domain is never listed
  free-core : (m : Machine) → m ≡ b.input → (p : ProcId) (name : NameId) → IsNamed m (Proc p) name → lists (tool_part part) (name_number name) ≡ true → (c : FreeCore) × (at_place there-free (p.0 / b.input.config.granularity) ≡ Some c)
  free-core m is p name named listed =
      let r : ℕ = p.0 / m.config.granularity in
      let same : name ≡ name_id.Res (core r) = same-name (name_id.Res (core r)) name named.is in
      let both = free-listed r (subst (λ (n : NameId). lists (tool_part part) (name_number n) ≡ true) same listed) in
      let ends : is_some (at_place (tool_of (state_in b)).free r) ≡ true = and_right (nat_lt r 64) (is_some (at_place (tool_of (state_in b)).free r)) both in
      let free : is_some (at_place (state_in b).free r) ≡ true = sym (some_mapped (λ (c : FreeCore). c.stall_ends) r (state_in b).free) ∙ ends in
      let c = some_is (at_place (state_in b).free r) free in
      let state : state_in b ≡ state_at b.input b.history = state_of-is (told_of b) in
      (c.0, subst (λ (x : Machine). at_place there-free (p.0 / x.config.granularity) ≡ Some c.0) is (subst (λ (x : State). at_place x.free r ≡ Some c.0) state c.1))

  no-domain : (d : ℕ) → lists (tool_part part) (64 + d) ≡ true → ⊥
  no-domain d listed =
      let both = free-listed (64 + d) listed in
      let low : nat_lt (64 + d) 64 ≡ true = and_left (nat_lt (64 + d) 64) (is_some (at_place (tool_of (state_in b)).free (64 + d))) both in
      true≢false (sym low ∙ high_name d)

  domain-listed : (m : Machine) (d : DomId) (name : NameId) → IsNamed m (Dom d) name → lists (tool_part part) (name_number name) ≡ true → ⊥
  domain-listed m d name named listed =
      let same : name ≡ name_id.Dom d = same-name (name_id.Dom d) name named.is in
      no-domain d.0 (subst (λ (n : NameId). lists (tool_part part) (name_number n) ≡ true) same listed)

  nothing-free : (m : Machine) → m ≡ b.input → (actor : Actor) (name : NameId) → IsNamed m actor name → lists (tool_part part) (name_number name) ≡ true → first_by b.input (state_in b) actor ≡ None
  nothing-free m is (Proc p) name named listed =
      let c = free-core m is p name named listed in
      let state : state_in b ≡ state_at b.input b.history = state_of-is (told_of b) in
      subst (λ (x : State). first_by b.input x (Proc p) ≡ None) (sym state) (none_of_free b.input (subst IsChecked (sym input) of_hall) b.history (run-held set b s has current) p c.0 c.1)
  nothing-free m is (Dom d) name named listed = absurd (domain-listed m d name named listed)
  nothing-free m is Tool name named listed = absurd (no-name name named.is)

  -- so no pool has the actor
  pub free-alone : (m : Machine) → m ≡ b.input → (actor : Actor) (name : NameId) → IsNamed m actor name → lists (tool_part part) (name_number name) ≡ true → (i : ℕ) (pool : Pool) → at_place (state_at b.input b.history).pools i ≡ Some pool → has_actor b.input.config.granularity pool actor ≡ true → ⊥
  free-alone m is (Proc p) name named listed i pool stood mine =
      let r : ℕ = p.0 / b.input.config.granularity in
      let c = free-core m is p name named listed in
      (is_apart b.input (subst IsChecked (sym input) of_hall) b.history (run-held set b s has current)).free i r (is_some_at (at_place there-free r) c.0 c.1)
      (test_at-some (state_at b.input b.history).pools i (λ (x : Pool). is_some (at_place x.resources r)) pool stood mine)
  free-alone m is (Dom d) name named listed i pool stood mine = absurd (domain-listed m d name named listed)
  free-alone m is Tool name named listed i pool stood mine = absurd (no-name name named.is)

  pub free-settles : (actor : Actor) (name : NameId) → IsNamed hall.opened.input actor name → lists (tool_part part) (name_number name) ≡ true → (new : Sitting) → KeepsSight s new → SettlesNothing actor b s new
  free-settles actor name named listed new keeps = record { keeps = keeps; none = nothing-free hall.opened.input (sym input) actor name named listed }

-- putting the book back changes of no other lock what is known
pub keeps-all : (k : ℕ) (old new : Seen) → KeepsLocks old new → KeepsOthers k old new
keeps-all k old new keeps = record { locks = λ j low other. keeps.locks j low; others = keeps.others; book = keeps.book; moment = keeps.moment }
