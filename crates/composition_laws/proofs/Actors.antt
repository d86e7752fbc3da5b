-- The first action of an actor is its first event in the pool that has it, and the tool's is the tool's first.
use Rattle.sched_base.specs.Numbers.{core as core_number, domain}
use Rattle.std.proofs.Common.{◌≡◌, ◌/◌, ◌*◌, ◌==◌, ℕ, Bool, true, false, List, cond, refl, arith, sym, subst, inl, inr}
use Rattle.std.specs.Prelude.{Option, Some, None, is_some, ◌&&◌}
use Rattle.std.proofs.lemmas.Bool.{eqb-true, cases_Bool, and_from}
use Rattle.sched_base.specs.declared.ProcId.{ProcId}
use Rattle.sched_base.specs.declared.DomId.{DomId}
use Rattle.sched_model.specs.declared.action.Action.{Action}
use Rattle.sched_model.specs.declared.action.Action.TheVariants.{Stall, Xl, Moved, DomMoved, Wake, Block, Slice, Repl, Refill, Arrive, Decide, Leave, Save}
use Rattle.sched_model.specs.declared.action.Actor.{Actor}
use Rattle.sched_model.specs.declared.action.Actor.TheVariants.{Proc, Dom, Tool}
use Rattle.sched_model.specs.declared.event.Entry.{Entry}
use Rattle.sched_model.specs.declared.machine.Machine.{Machine}
use Rattle.sched_model.specs.declared.state.FreeCore.{FreeCore}
use Rattle.sched_model.specs.declared.state.Pool.{Pool}
use Rattle.sched_model.specs.declared.state.Resource.{Resource}
use Rattle.sched_model.specs.declared.state.State.{State}
use Rattle.sched_model.specs.Places.{at_place, test_at, first_place}
use Rattle.sched_model.specs.Pool.{enabled_in}
use Rattle.sched_model.specs.Actions.{IsOfPool, home_pool_of_action, home_pool_of_core, home_pool_of_domain}
use Rattle.sched_model.specs.CheckedMachine.{IsChecked, IsGranularity}
use Rattle.sched_model.specs.Machine.{is_action_enabled}
use Rattle.sched_model.specs.Runs.{IsRun}
use Rattle.sched_laws.specs.StateLaws.{state_after}
use Rattle.sched_base.proofs.Bools.{and_left, and_right, clash}
use Rattle.sched_laws.proofs.EachPlace.{found_at}
use Rattle.sched_laws.proofs.Lists.{is_some_at, some-test_at, test_at-some}
use Rattle.sched_laws.proofs.Reached.{is_apart}
use Rattle.journal_core.specs.Parts.{UnderWay, core_to, domain_to, state_under_way}
use Rattle.pool_laws.specs.Order.{IsNotAfter}
use Rattle.pool_laws.specs.Actors.{IsFirstBy, is_by, is_by_domain, is_by_processor, is_lowest, leads}
use Rattle.composition_laws.proofs.Candidates.{is_candidate}
use Rattle.composition_laws.proofs.FirstByOrder.{first_by_order}
use Rattle.composition_laws.proofs.Home.{pool_is_home}
use Rattle.composition_laws.proofs.MoveLaw.{has_one_move}
use Rattle.composition_laws.specs.WholeFirst.{first_tool_move, first_tool_action}
use Rattle.composition_laws.specs.Actors.{is_tool, is_by_at_home, is_by_actor, first_by, has_actor}
use Rattle.composition_laws.proofs.WholeFirst.{chosen, by_tool, only_pools}

-- the core of a processor that is its first
core_of_first : (g r p : ℕ) → IsGranularity g → leads g r p ≡ true → r ≡ p / g
core_of_first g r p (inl is) on = subst (λ (n : ℕ). p ≡ r * n → r ≡ p / n) (sym is) (λ e. omega (arith, e)) (eqb-true p (r * g) on)
core_of_first g r p (inr (inl is)) on = subst (λ (n : ℕ). p ≡ r * n → r ≡ p / n) (sym is) (λ e. omega (arith, e)) (eqb-true p (r * g) on)
core_of_first g r p (inr (inr is)) on = subst (λ (n : ℕ). p ≡ r * n → r ≡ p / n) (sym is) (λ e. omega (arith, e)) (eqb-true p (r * g) on)

-- a pool has the core of its lowest processor
has_lowest : (g p : ℕ) (pool : Pool) → IsGranularity g → is_lowest g pool p ≡ true → is_some (at_place pool.resources (p / g)) ≡ true
has_lowest g p pool of on = by_place (first_place 0 (λ (c : Resource). true) pool.resources) refl on
  where
    by_place : (o : Option ℕ) → first_place 0 (λ (c : Resource). true) pool.resources ≡ o → elim o as (λ _. Bool) [ None ↦ false | Some r ↦ leads g r p ] ≡ true → is_some (at_place pool.resources (p / g)) ≡ true
    by_place None is e = absurd (cc)
    by_place (Some r) is e =
        let f = found_at r (λ (c : Resource). true) pool.resources is in
        let same = core_of_first g r p of e in
        subst (λ (k : ℕ). is_some (at_place pool.resources k) ≡ true) same (is_some_at (at_place pool.resources r) f.0 f.1)

-- what is by an actor other than the tool is an event of a pool
own_event : (m : Machine) (s : State) (actor : Actor) → is_tool actor ≡ false → (b : Action) → is_by_actor m s actor b ≡ true → IsOfPool b × (is_by_at_home m s actor b ≡ true)
own_event m s actor other Stall on = absurd (clash (is_tool actor) on other)
own_event m s actor other Xl on = absurd (clash (is_tool actor) on other)
own_event m s actor other (Moved r) on = absurd (clash (is_tool actor) on other)
own_event m s actor other (DomMoved d) on = absurd (clash (is_tool actor) on other)
own_event m s actor other action on = (tt, on)

by_home : (m : Machine) (s : State) (actor : Actor) (b : Action) → IsOfPool b → is_by_at_home m s actor b ≡ true → is_by_actor m s actor b ≡ true
by_home m s actor Stall own on = absurd own
by_home m s actor Xl own on = absurd own
by_home m s actor (Moved r) own on = absurd own
by_home m s actor (DomMoved d) own on = absurd own
by_home m s actor action own on = on

-- the home of an event, and who does it there
record AtHome (g : ℕ) (s : State) (actor : Actor) (b : Action) : Type 0 where
  place : ℕ
  pool : Pool
  home : home_pool_of_action g s b ≡ Some place
  at : at_place s.pools place ≡ Some pool
  by : is_by g pool actor b ≡ true

at_home : (m : Machine) (s : State) (actor : Actor) (b : Action) → is_by_at_home m s actor b ≡ true → AtHome m.config.granularity s actor b
at_home m s actor b on = by_place (home_pool_of_action m.config.granularity s b) refl on
  where
    by_place : (o : Option ℕ) → home_pool_of_action m.config.granularity s b ≡ o → elim o as (λ _. Bool) [ None ↦ false | Some i ↦ test_at s.pools i (λ pool. is_by m.config.granularity pool actor b) ] ≡ true → AtHome m.config.granularity s actor b
    by_place None is e = absurd (cc)
    by_place (Some i) is e = (let p = some-test_at s.pools i (λ pool. is_by m.config.granularity pool actor b) e in record { place = i; pool = p.0; home = is; at = p.1; by = p.2 })

module _ (m : Machine) (checked : IsChecked m) (entries : List Entry) (run : IsRun m entries) where
  abbrev s : State
  s = state_after m entries

  abbrev g : ℕ
  g = m.config.granularity

  of : IsGranularity g
  of = checked.config.granularity

  -- whoever does the event of a pool, the pool has
  has_its_core : (i r : ℕ) (pool : Pool) → at_place s.pools i ≡ Some pool → home_pool_of_core s r ≡ Some i → is_some (at_place pool.resources r) ≡ true
  has_its_core i r pool at home =
      let f = found_at i (λ (p : Pool). is_some (at_place p.resources r)) s.pools home in
      let same : f.0 ≡ pool = (let x = f.1 in cc) in
      subst (λ (p : Pool). is_some (at_place p.resources r) ≡ true) same f.2

  has_its_domain : (i d : ℕ) (pool : Pool) → at_place s.pools i ≡ Some pool → home_pool_of_domain s d ≡ Some i → is_some (at_place pool.domains d) ≡ true
  has_its_domain i d pool at home =
      let f = found_at i (λ (p : Pool). is_some (at_place p.domains d)) s.pools home in
      let same : f.0 ≡ pool = (let x = f.1 in cc) in
      subst (λ (p : Pool). is_some (at_place p.domains d) ≡ true) same f.2

  -- the event of a processor, and of the core whose first it is
  by_itself : (i p q : ℕ) (pool : Pool) → at_place s.pools i ≡ Some pool → home_pool_of_core s (q / g) ≡ Some i → (p == q) ≡ true → is_some (at_place pool.resources (p / g)) ≡ true
  by_itself i p q pool at home on = (let same = eqb-true p q on in has_its_core i (p / g) pool at (subst (λ (n : ℕ). home_pool_of_core s (n / g) ≡ Some i) (sym same) home))

  by_first : (i p r : ℕ) (pool : Pool) → at_place s.pools i ≡ Some pool → home_pool_of_core s r ≡ Some i → leads g r p ≡ true → is_some (at_place pool.resources (p / g)) ≡ true
  by_first i p r pool at home on = has_its_core i (p / g) pool at (subst (λ (n : ℕ). home_pool_of_core s n ≡ Some i) (core_of_first g r p of on) home)

  has_processor : (i : ℕ) (p : ProcId) (pool : Pool) → at_place s.pools i ≡ Some pool → (b : Action) → home_pool_of_action g s b ≡ Some i → is_by_processor g pool p.0 b ≡ true → has_actor g pool (Proc p) ≡ true
  has_processor i p pool at (Block q) home on = by_itself i p.0 q.0 pool at home on
  has_processor i p pool at (Slice r) home on = by_first i p.0 r.0 pool at home on
  has_processor i p pool at (Repl u) home on = has_lowest g p.0 pool of on
  has_processor i p pool at (Refill d) home on = has_lowest g p.0 pool of on
  has_processor i p pool at (Arrive q) home on = by_itself i p.0 q.0 pool at home on
  has_processor i p pool at (Decide r) home on = by_first i p.0 r.0 pool at home on
  has_processor i p pool at (Leave q) home on = by_itself i p.0 q.0 pool at home on
  has_processor i p pool at (Save r) home on = by_first i p.0 r.0 pool at home on
  has_processor i p pool at action home on = absurd (cc)

  has_domain : (i : ℕ) (d : DomId) (pool : Pool) → at_place s.pools i ≡ Some pool → (b : Action) → home_pool_of_action g s b ≡ Some i → is_by_domain d.0 b ≡ true → has_actor g pool (Dom d) ≡ true
  has_domain i d pool at (Wake v) home on = (let same = eqb-true v.dom.0 d.0 on in has_its_domain i d.0 pool at (subst (λ (n : ℕ). home_pool_of_domain s n ≡ Some i) same home))
  has_domain i d pool at action home on = absurd (cc)

  has_doer : (i : ℕ) (actor : Actor) (pool : Pool) → at_place s.pools i ≡ Some pool → (b : Action) → home_pool_of_action g s b ≡ Some i → is_by g pool actor b ≡ true → has_actor g pool actor ≡ true
  has_doer i (Proc p) pool at b home on = has_processor i p pool at b home on
  has_doer i (Dom d) pool at b home on = has_domain i d pool at b home on
  has_doer i Tool pool at b home on = absurd (cc)

  -- an actor is in one pool
  one_pool : (actor : Actor) (i j : ℕ) (a b : Pool) → at_place s.pools i ≡ Some a → at_place s.pools j ≡ Some b → has_actor g a actor ≡ true → has_actor g b actor ≡ true → i ≡ j
  one_pool (Proc p) i j a b at_i at_j in_a in_b =
      (is_apart m checked entries run).cores i j (p.0 / g)
      (test_at-some s.pools i (λ pool. is_some (at_place pool.resources (p.0 / g))) a at_i in_a) (test_at-some s.pools j (λ pool. is_some (at_place pool.resources (p.0 / g))) b at_j in_b)
  one_pool (Dom d) i j a b at_i at_j in_a in_b =
      (is_apart m checked entries run).domains i j d.0
      (test_at-some s.pools i (λ pool. is_some (at_place pool.domains d.0)) a at_i in_a) (test_at-some s.pools j (λ pool. is_some (at_place pool.domains d.0)) b at_j in_b)
  one_pool Tool i j a b at_i at_j in_a in_b = absurd (cc)

  abbrev test : Actor → Action → Bool
  test actor action = is_by_actor m s actor action && is_action_enabled m s s.now action

  -- no action that may come is the actor's; or it is the first of those
  none_by : (actor : Actor) → ((b : Action) → is_by_actor m s actor b ≡ true → is_action_enabled m s s.now b ≡ true → ⊥) → first_by m s actor ≡ None
  none_by actor none =
      (first_by_order m.config (test actor) None).0
      (λ b there. elim (cases_Bool (test actor b)) [ inl on ↦ absurd (none b (and_left (is_by_actor m s actor b) _ on) (and_right (is_by_actor m s actor b) _ on)) | inr off ↦ off ])

  some_by : (actor : Actor) (a : Action) → is_by_actor m s actor a ≡ true → is_action_enabled m s s.now a ≡ true → ((b : Action) → is_by_actor m s actor b ≡ true → is_action_enabled m s s.now b ≡ true → IsNotAfter a b) → first_by m s actor ≡ Some a
  some_by actor a own on first =
      (first_by_order m.config (test actor) (Some a)).0
      (record {
        there = is_candidate m checked entries run s.now a on;
        passes = and_from (is_by_actor m s actor a) (is_action_enabled m s s.now a) own on;
        first = λ b there pass. first b (and_left (is_by_actor m s actor b) _ pass) (and_right (is_by_actor m s actor b) _ pass);
      })

  module _ (i : ℕ) (pool : Pool) (actor : Actor) (at : at_place s.pools i ≡ Some pool) (has : has_actor g pool actor ≡ true) where
    no_tool : is_tool actor ≡ false
    no_tool = by actor has
      where
        by : (a : Actor) → has_actor g pool a ≡ true → is_tool a ≡ false
        by (Proc p) h = refl
        by (Dom d) h = refl
        by Tool h = absurd (cc)

    -- what is by the actor is by it in this pool, and comes there where it may come
    record Here (b : Action) : Type 0 where
      of_pool : IsOfPool b
      by : is_by g pool actor b ≡ true
      home : home_pool_of_action g s b ≡ Some i

    here : (b : Action) → is_by_actor m s actor b ≡ true → Here b
    here b on =
        let o = own_event m s actor no_tool b on in
        let h = at_home m s actor b o.1 in
        let same : i ≡ h.place = one_pool actor i h.place pool h.pool at h.at has (has_doer h.place actor h.pool h.at b h.home h.by) in
        let same_pool : h.pool ≡ pool = (let x = h.at in let y = subst (λ (n : ℕ). at_place s.pools n ≡ Some pool) same at in cc) in
        record { of_pool = o.0; by = subst (λ (p : Pool). is_by g p actor b ≡ true) same_pool h.by; home = subst (λ (n : ℕ). home_pool_of_action g s b ≡ Some n) (sym same) h.home }

    comes_here : (b : Action) → Here b → is_action_enabled m s s.now b ≡ true → enabled_in g s.now pool b ≡ true
    comes_here b h on =
        let c = (pool_is_home m checked entries run i s.now b).1 (record { home = h.home; enabled = on }) in
        let same : c.pool ≡ pool = (let x = c.at in cc) in
        subst (λ (p : Pool). enabled_in g s.now p b ≡ true) same c.enabled

    pub first_in_pool : (found : Option Action) → IsFirstBy g s.now pool actor found → first_by m s actor ≡ found
    first_in_pool None none =
        none_by actor (λ b own on. (let h = here b own in clash (enabled_in g s.now pool b) (comes_here b h on) (none b h.of_pool h.by)))
    first_in_pool (Some a) first =
        let c = (pool_is_home m checked entries run i s.now a).0 (record { pool = pool; at = at; enabled = first.enabled }) in
        let there : is_by_at_home m s actor a ≡ true =
        subst (λ (o : Option ℕ). elim o as (λ _. Bool) [ None ↦ false | Some j ↦ test_at s.pools j (λ p. is_by g p actor a) ] ≡ true) (sym c.home)
        (test_at-some s.pools i (λ p. is_by g p actor a) pool at first.own) in
        some_by actor a (by_home m s actor a first.of_pool there) c.enabled (λ b own on. (let h = here b own in first.first b h.of_pool h.by (comes_here b h on)))

  -- the processor of a core that no pool has does nothing
  pub none_of_free : (p : ProcId) (core : FreeCore) → at_place s.free (p.0 / g) ≡ Some core → first_by m s (Proc p) ≡ None
  none_of_free p core at =
      none_by (Proc p)
      (λ b own on. (
      let o = own_event m s (Proc p) refl b own in
      let h = at_home m s (Proc p) b o.1 in
      (is_apart m checked entries run).free h.place (p.0 / g) (is_some_at (at_place s.free (p.0 / g)) core at)
      (test_at-some s.pools h.place (λ pool. is_some (at_place pool.resources (p.0 / g))) h.pool h.at (has_doer h.place (Proc p) h.pool h.at b h.home h.by))))

  -- the tool does nothing in a pool
  tool_event : (b : Action) → IsOfPool b → is_by_actor m s Tool b ≡ true → ⊥
  tool_event Stall own on = own
  tool_event Xl own on = own
  tool_event (Moved r) own on = own
  tool_event (DomMoved d) own on = own
  tool_event action own on = (let h = at_home m s Tool action on in let x = h.by in cc)

  -- and its first action is one of its own
  tool_move : (way : Option UnderWay) (a : Action) → first_tool_move m s s.now way ≡ Some a → is_by_actor m s Tool a ≡ true
  tool_move None a is = absurd (cc)
  tool_move (Some (core_to r to)) a is = (let c = chosen m s s.now (Moved (core_number r)) a is in subst (λ (x : Action). is_by_actor m s Tool x ≡ true) c.1 refl)
  tool_move (Some (domain_to d i)) a is = (let c = chosen m s s.now (DomMoved (domain d)) a is in subst (λ (x : Action). is_by_actor m s Tool x ≡ true) c.1 refl)

  tool_own : (a : Action) → first_tool_action m s s.now ≡ Some a → is_by_actor m s Tool a ≡ true
  tool_own a is =
      let from_move : Option Action = first_tool_move m s s.now (state_under_way s) in
      elim (is_action_enabled m s s.now Stall) as (λ b. cond b (Some Stall) (cond (is_action_enabled m s s.now Xl) (Some Xl) from_move) ≡ Some a → is_by_actor m s Tool a ≡ true) [
        | true ↦ λ e. (let same : Stall ≡ a = cc in subst (λ (x : Action). is_by_actor m s Tool x ≡ true) same refl)
        | false ↦ elim (is_action_enabled m s s.now Xl) as (λ b. cond b (Some Xl) from_move ≡ Some a → is_by_actor m s Tool a ≡ true) [
          | true ↦ λ e. (let same : Xl ≡ a = cc in subst (λ (x : Action). is_by_actor m s Tool x ≡ true) same refl)
          | false ↦ λ e. tool_move (state_under_way s) a e
        ]
      ] is

  pub tool_is_first : first_by m s Tool ≡ first_tool_action m s s.now
  tool_is_first =
      let one = has_one_move m checked entries run in
      elim (first_tool_action m s s.now) as (λ o. first_tool_action m s s.now ≡ o → first_by m s Tool ≡ o) [
        | None ↦ λ is. none_by Tool (λ b own on. tool_event b (only_pools m s s.now one is b on) own)
        | Some a ↦ λ is. (let f = by_tool m s s.now one a is in some_by Tool a (tool_own a is) f.0 (λ b own on. f.1 b on))
      ] refl
