-- The name that an action hands over, and the names that a seat has once it was moved.
use Rattle.std.proofs.Common.{◌≡◌, ◌∙◌, ◌+◌, ◌<◌, ℕ, Bool, true, false, cond, eqb, List, [], ◌∷◌, ◌++◌, refl, sym, ap, ap₂, subst, eq-eqb, ne_eqb, eqb-true, arith}
use Rattle.std.specs.Prelude.{◌&&◌, Option, Some, None, is_some, option_map, take}
use Rattle.std.specs.Option.{ForSome}
use mathlib.Core.Logic.{dite}
use native.Mathlib.Decide.{ℕ_discrete}
use Rattle.sched_base.specs.Numbers.{core as core_number, domain as domain_number, moment, pool as pool_number}
use Rattle.sched_base.specs.declared.DomId.{DomId}
use Rattle.sched_base.specs.declared.PoolId.{PoolId}
use Rattle.sched_model.specs.declared.action.Action.{Action}
use Rattle.sched_model.specs.declared.action.Action.TheVariants.{Moved, DomMoved}
use Rattle.sched_model.specs.declared.config.SchedKind.{SchedKind}
use Rattle.sched_model.specs.declared.event.Entry.{Entry}
use Rattle.sched_model.specs.declared.machine.Machine.{Machine}
use Rattle.sched_model.specs.declared.state.FreeCore.{FreeCore}
use Rattle.sched_model.specs.declared.state.State.{State}
use Rattle.sched_model.specs.Actions.{home_pool_of_core, home_pool_of_domain}
use Rattle.sched_model.specs.Machine.{after, event_of, is_action_enabled}
use Rattle.sched_model.specs.Opening.{machine_core_count}
use Rattle.sched_model.specs.Places.{at_place, first_place}
use Rattle.sched_laws.proofs.EachPlace.{found_at, is_empty, place_below}
use Rattle.sched_laws.proofs.Lists.{some_is}
use Rattle.journal_core.specs.Histories.{NamesStandOnce, home_at, now_at, state_at}
use Rattle.journal_core.specs.Parts.{UnderWay, core_to, domain_to, is_name, lists, no_home, part_of, pool_lists, tool_lock, state_under_way}
use Rattle.composition_laws.proofs.NamesLaw.{names_stand_once}
use Rattle.composition_laws.specs.ListedNames.{HandsOver, ListsAsBefore, ListsNames}
use Rattle.sched_laws.specs.StateLaws.{MovesNothing}
use Rattle.composition_laws.proofs.Moving.{lists_names}
use Rattle.cpupool.specs.Steps.{outlined_kind, move_of}
use Rattle.cpupool.specs.Tool.{Tool, tool_of}
use Rattle.cpupool.specs.declared.moves.Move.TheVariants as move
use Rattle.cpupool.proofs.ArrivedLemmas.{core_joins}
use Rattle.machine_parts.specs.Places.{GoesOn, state_of}
use Rattle.machine_parts.specs.Told.{Told, told_more}
use Rattle.machine_parts.proofs.Going.{part_of-is, range-of, state-on, state_of-is, now_of-is}
use Rattle.machine_parts.proofs.AtPlaces.{number-of}
use Rattle.tool_actions.proofs.CoreMoves.{leaves-some, own-of, way-there}
use Rattle.tool_actions.proofs.DomainMoves.{domain-told, finds-some}
use Rattle.tool_actions.proofs.Stalling.{known-of}
use Rattle.lock_moves.specs.declared.content.LockId.{LockId}
use Rattle.lock_moves.specs.declared.content.NameId.TheVariants.{Res, Dom}
use Rattle.lock_moves.specs.Plays.{Current, Placed}
use Rattle.lock_moves.specs.SeatSight.{HoldsBelow, Known, Seen, find_lock, has_place, moved_name}
use Rattle.lock_moves.specs.Words.{has_name, name_number}
use Rattle.lock_moves.proofs.Holding.{moved_holds, name_at_home}
use Rattle.lock_moves.proofs.Naming.{after_else, after_here, find-renamed, names_after}
use Rattle.hall.specs.declared.whole.NameMove.{NameMove}
use Rattle.hall.specs.Moves.{HandsName, HandsNameOver, MayHand, after_handing, lock_or_tool}
use Rattle.hall.proofs.Processors.{core-inside, core-small, is_low}
use Rattle.sched_laws.proofs.Free.{now_after}

-- an action that is neither the move of a core nor that of a domain
pub moves-nothing : (action : Action) → ((r : ℕ) → action ≡ Moved (core_number r) → ⊥) → ((d : ℕ) → action ≡ DomMoved (domain_number d) → ⊥) → MovesNothing action
moves-nothing (Moved r) core domain = core r.0 refl
moves-nothing (DomMoved d) core domain = domain d.0 refl
moves-nothing action core domain = tt

-- a name whose home is a part is one of the input
named-at : (m : Machine) (h : List Entry) (n a : ℕ) → a < 17 → home_at m h n ≡ a → is_name m.config n ≡ true
unfolding home_at
named-at m h n a low home = by_name (is_name m.config n) refl
  where
    there : ℕ
    there = elim (first_place 0 (pool_lists n) (take tool_lock (state_at m h).pools)) as (λ _. ℕ) [ Some i ↦ i | None ↦ tool_lock ]

    by_name : (b : Bool) → is_name m.config n ≡ b → is_name m.config n ≡ true
    by_name true is = is
    by_name false is = absurd (let none : no_home ≡ a = sym (ap (λ (b : Bool). cond b there no_home) is) ∙ home in omega (arith, none, low))

module _ (w : Told) (goes : GoesOn w) where
  abbrev m : Machine
  m = w.input

  abbrev s : State
  s = state_of w

  pub once-of : NamesStandOnce w.input w.history
  once-of = names_stand_once w.input goes.checked w.history goes.run

  laws-of : (t : ℕ) → ListsNames m s t
  laws-of t = subst (λ (x : State). ListsNames m x t) (sym (state_of-is w)) (lists_names m goes.checked w.history goes.run t)

  -- a part that lists a name is its home
  pub home-of-name : (a n : ℕ) → a < 17 → n < 128 → lists (part_of s a) n ≡ true → home_at m w.history n ≡ a
  home-of-name a n low small has = eqb-true (home_at m w.history n) a (sym (once-of a n low small) ∙ ap (λ p. lists p n) (part_of-is w a) ∙ has)

  pub name-there : (a n : ℕ) → a < 17 → n < 128 → lists (part_of s a) n ≡ true → is_name m.config n ≡ true
  name-there a n low small has = named-at m w.history n a low (home-of-name a n low small has)

  pool-low : (i : ℕ) → is_some (at_place s.pools i) ≡ true → i < 16
  pool-low i there = (let found = some_is (at_place s.pools i) there in let low = place_below s.pools i found.0 found.1 in let places = (range-of w goes).pool_places in omega (arith, low, places))

  module _ (action : Action) where
    abbrev left : State
    left = after m s s.now action

    hands-core : (r a b : ℕ) (from to : LockId) → r < 64 → a < 17 → b < 17 → from.0 ≡ a → to.0 ≡ b → HandsOver s left r a b → HandsNameOver w action (record { name = Res (core_number r); from = from; to = to })
    hands-core r a b from to small low_a low_b is_a is_b over = record {
      name = ap₂ (λ p q. p && q) (is_low r 64 small) (name-there a r low_a (omega (arith, small)) over.had);
      from = subst (λ (k : ℕ). k < 17) (sym is_a) low_a;
      to = subst (λ (k : ℕ). k < 17) (sym is_b) low_b;
      over = subst (λ (k : ℕ). HandsOver s left r k to.0) (sym is_a) (subst (λ (k : ℕ). HandsOver s left r a k) (sym is_b) over);
    }

    hands-domain : (d a b : ℕ) (from to : LockId) → d < 64 → a < 17 → b < 17 → from.0 ≡ a → to.0 ≡ b → HandsOver s left (64 + d) a b → HandsNameOver w action (record { name = Dom (domain_number d); from = from; to = to })
    hands-domain d a b from to small low_a low_b is_a is_b over = record {
      name = ap₂ (λ p q. p && q) (is_low d 64 small) (name-there a (64 + d) low_a (omega (arith, small)) over.had);
      from = subst (λ (k : ℕ). k < 17) (sym is_a) low_a;
      to = subst (λ (k : ℕ). k < 17) (sym is_b) low_b;
      over = subst (λ (k : ℕ). HandsOver s left (64 + d) k to.0) (sym is_a) (subst (λ (k : ℕ). HandsOver s left (64 + d) a k) (sym is_b) over);
    }

  -- nothing is handed over where nothing moves
  pub hands-none : (action : Action) → MovesNothing action → ListsAsBefore s (after m s s.now action)
  hands-none action nothing = (laws-of s.now).stays action nothing

  module _ (tool : Tool) (known : tool_of m s ≡ tool) where
    under : (way : UnderWay) → tool.part.under_way ≡ Some way → state_under_way s ≡ Some way
    under way is = ap (λ (x : Tool). x.part.under_way) known ∙ is

    -- what is on its way, where a core may move
    pub core-told : (r : ℕ) → is_action_enabled m s s.now (Moved (core_number r)) ≡ true → (to : Option ℕ) × (tool.part.under_way ≡ Some (core_to r to))
    core-told r on = way-there w tool s.now r (record { goes = goes; now = refl; known = known; enabled = on })

    -- and where a domain may
    pub domain-moves : (d : ℕ) → is_action_enabled m s s.now (DomMoved (domain_number d)) ≡ true → (j : ℕ) × (option_map (move_of tool.part) tool.part.under_way ≡ Some (move.Dom (domain_number d) (pool_number j) (outlined_kind tool.part j)))
    domain-moves d on = domain-told w tool s.now d (record { goes = goes; now = refl; known = known; enabled = on })

    -- the core that moves, from its pool or from none
    pub core-handed : (r : ℕ) → is_action_enabled m s s.now (Moved (core_number r)) ≡ true → (home to : Option PoolId) → home ≡ option_map pool_number (home_pool_of_core s r) → tool.part.under_way ≡ Some (core_to r (option_map (λ (i : PoolId). i.0) to))
        → (a b : LockId) → a.0 ≡ lock_or_tool home → b.0 ≡ lock_or_tool to → HandsNameOver w (Moved (core_number r)) (record { name = Res (core_number r); from = a; to = b })
    core-handed r on home (Some i) told way a b from is_to =
        let c = core_joins s r i.0 (under (core_to r (Some i.0)) way) in
        let none : home ≡ None = told ∙ ap (option_map pool_number) ((own-of w goes).free r c.0 c.1) in
        let low : r < machine_core_count m.config = (let below = place_below s.free r c.0 c.1 in let places = (range-of w goes).free_places in omega (arith, below, places)) in
        let target : i.0 < 16 = pool-low i.0 ((known-of w goes).housed.aims r i.0 (ap (option_map (λ (x : FreeCore). x.target)) c.1 ∙ ap (λ (o : Option ℕ). Some o) c.2)) in
        hands-core (Moved (core_number r)) r tool_lock i.0 a b (core-small w goes r low) (omega arith) (omega (arith, target)) (from ∙ ap lock_or_tool none) is_to ((laws-of s.now).joins r c.0 i.0 c.1 c.2)
    core-handed r on home None told way a b from is_to = by_home home told from
      where
        by_home : (o : Option PoolId) → o ≡ option_map pool_number (home_pool_of_core s r) → a.0 ≡ lock_or_tool o → HandsNameOver w (Moved (core_number r)) (record { name = Res (core_number r); from = a; to = b })
        by_home None is from_is = absurd (leaves-some w goes tool known r on way None is refl)
        by_home (Some i) is from_is =
            let at_home : home_pool_of_core s r ≡ Some i.0 = number-of (home_pool_of_core s r) i (sym is) in
            let there = found_at i.0 _ s.pools at_home in
            let core = some_is (at_place there.0.resources r) there.2 in
            let not_free : at_place s.free r ≡ None = is_empty (at_place s.free r) (λ c at. absurd (let none = (own-of w goes).free r c at in cc)) in
            let low : r < machine_core_count m.config = core-inside w goes i.0 r at_home in
            let pool : i.0 < 16 = (let below = place_below s.pools i.0 there.0 there.1 in let places = (range-of w goes).pool_places in omega (arith, below, places)) in
            hands-core (Moved (core_number r)) r i.0 tool_lock a b (core-small w goes r low) (omega (arith, pool)) (omega arith) from_is is_to ((laws-of s.now).leaves r i.0 there.0 core.0 not_free at_home there.1 core.1)

    -- the domain that moves
    pub domain-handed : (d : ℕ) → is_action_enabled m s s.now (DomMoved (domain_number d)) ≡ true → (home : Option PoolId) → home ≡ option_map pool_number (home_pool_of_domain s d) → (n : DomId) (to : PoolId) (kind : SchedKind) → option_map (move_of tool.part) tool.part.under_way ≡ Some (move.Dom n to kind)
        → (a b : LockId) → a.0 ≡ lock_or_tool home → b.0 ≡ to.0 → HandsNameOver w (DomMoved (domain_number d)) (record { name = Dom (domain_number d); from = a; to = b })
    domain-handed d on home told n to kind moving a b from is_to =
        let found = finds-some w goes d on in
        let i : ℕ = found.0 in
        let j : ℕ = found.1 in
        let f = found.2 in
        let way : tool.part.under_way ≡ Some (domain_to d j) = ap (λ (x : Tool). x.part.under_way) (sym known) ∙ f.way in
        let is : Some (move.Dom (domain_number d) (pool_number j) (outlined_kind tool.part j)) ≡ Some (move.Dom n to kind) = ap (option_map (move_of tool.part)) (sym way) ∙ moving in
        let target : pool_number j ≡ to = cc in
        let at_home : home ≡ Some (pool_number i) = told ∙ ap (option_map pool_number) f.home in
        let low : d < 64 = (let below = place_below f.pool.domains d f.domain f.domain_at in let places = ((range-of w goes).pools i f.pool f.pool_at).domain_places in let few = goes.checked.config.few_domains in omega (arith, below, places, few)) in
        let low_i : i < 16 = (let below = place_below s.pools i f.pool f.pool_at in let places = (range-of w goes).pool_places in omega (arith, below, places)) in
        let low_j : j < 16 = pool-low j f.target in
        hands-domain (DomMoved (domain_number d)) d i j a b low (omega (arith, low_i)) (omega (arith, low_j)) (from ∙ ap lock_or_tool at_home) (is_to ∙ ap (λ (x : PoolId). x.0) (sym target))
        ((laws-of s.now).domain d i f.pool f.domain (pool_number j) f.home f.pool_at f.domain_at f.moving)

-- the names of a seat that holds all locks, and whose names are those of the state, after the entry of an action
module _ (w : Told) (goes : GoesOn w) (action : Action) (on : is_action_enabled w.input (state_of w) (state_of w).now action ≡ true) (e : Entry) (is : e ≡ record { at = moment (state_of w).now; event = event_of w.input (state_of w) (state_of w).now action }) (next_goes : GoesOn (told_more w e))
    (v : Seen) (input : w.input ≡ v.input) (front : v.front ≡ w.history) (current : Current v) (all : HoldsBelow 18 v) where
  abbrev after_it : State
  after_it = after w.input (state_of w) (state_of w).now action

  abbrev history : List Entry
  history = w.history ++ e ∷ []

  now-next : v.now ≡ now_at v.input history
  now-next =
      current.1 ∙ (λ i. now_at (sym input i) (front i)) ∙ now_of-is w ∙ sym (now_of-is (told_more w e) ∙ ap (λ (x : State). x.now) (state-on w goes action on e is) ∙ now_after w.input (state_of w) (state_of w).now action)
      ∙ ap (λ (x : Machine). now_at x history) input

  had : (k n : ℕ) (x : Known) → k < 17 → find_lock k v.held ≡ Some x → n < 128 → has_place n x.names ≡ lists (part_of (state_of w) k) n
  had k n x low found small =
      (current.0 k x low found).1 n small ∙ (λ i. eqb (home_at (sym input i) (front i) n) k) ∙ sym (once-of w goes k n low small) ∙ ap (λ p. lists p n) (part_of-is w k)

  wants : (k n : ℕ) → k < 17 → n < 128 → lists (part_of after_it k) n ≡ eqb (home_at v.input history n) k
  wants k n low small =
      sym (ap (λ p. lists p n) (part_of-is (told_more w e) k) ∙ ap (λ (x : State). lists (part_of x k) n) (state-on w goes action on e is)) ∙ once-of (told_more w e) next_goes k n low small ∙ ap (λ (x : Machine). eqb (home_at x history n) k) input

  placed-same : ListsAsBefore (state_of w) after_it → Placed v history
  placed-same same = (λ k x n low found small. had k n x low found small ∙ sym (same k n) ∙ wants k n low small, now-next)

  -- the lock `to` alone lists what was handed over
  lists-handed : (n a b k : ℕ) → HandsOver (state_of w) after_it n a b → a < 17 → n < 128 → k < 17 → eqb b k ≡ lists (part_of after_it k) n
  lists-handed n a b k over low_a small low = dite (ℕ_discrete b k)
      (λ here. eq-eqb b k here ∙ sym (subst (λ (j : ℕ). lists (part_of after_it j) n ≡ true) here over.has))
      (λ away. ne_eqb b k away ∙ dite (ℕ_discrete a k)
      (λ from. sym (subst (λ (j : ℕ). lists (part_of after_it j) n ≡ false) from (over.gone (λ same. away (sym same ∙ from)))))
      (λ ne.
      let home : home_at w.input w.history n ≡ a = home-of-name w goes a n low_a small over.had in
      sym (over.elsewhere k (λ e. ne (sym e)) (λ e. away (sym e)) ∙ sym (ap (λ p. lists p n) (part_of-is w k)) ∙ once-of w goes k n low small ∙ ap (λ (j : ℕ). eqb j k) home ∙ ne_eqb a k ne)))

  placed-moved : (n a b : ℕ) → HandsOver (state_of w) after_it n a b → a < 17 → n < 128 → Placed (moved_name n b v) history
  placed-moved n a b over low_a small_n = (
    λ k y p low found small.
        let t = find-renamed n b k v.held y found in
        ap (λ (z : Known). has_place p z.names) t.2 ∙ dite (ℕ_discrete p n)
        (λ here. subst (λ (q : ℕ). has_place q (names_after n b k t.0) ≡ eqb (home_at v.input history q) k) (sym here) (after_here n b k t.0 ∙ lists-handed n a b k over low_a small_n low ∙ wants k n low small_n))
        (λ ne. after_else n b k p t.0 ne ∙ had k p t.0 low t.1 small ∙ sym (over.others k p ne) ∙ wants k p low small),
    now-next,
  )

  small-name : (moved : NameMove) → has_name w.input moved.name ≡ true → name_number moved.name < 128
  small-name moved has = by_name moved.name has
    where
      by_name : (name : _) → has_name w.input name ≡ true → name_number name < 128
      by_name (Res r) named = (let low : r.0 < 64 = grind (arith, named) in omega (arith, low))
      by_name (Dom d) named = (let low : d.0 < 64 = grind (arith, named) in omega (arith, low))

  pub placed-handed : (moved : Option NameMove) → HandsName w action moved → Placed (after_handing moved v) history
  placed-handed None same = placed-same same
  placed-handed (Some moved) hands = placed-moved (name_number moved.name) moved.from.0 moved.to.0 hands.over hands.from (small-name moved hands.name)

  may-hand : (moved : NameMove) → HandsNameOver w action moved → MayHand v moved
  may-hand moved hands =
      let small = small-name moved hands.name in
      record {
        name = ap (λ (x : Machine). has_name x moved.name) (sym input) ∙ hands.name;
        from = name_at_home w.input w.history moved.from.0 (name_number moved.name) v (sym input) front hands.from small (home-of-name w goes moved.from.0 (name_number moved.name) hands.from small hands.over.had) (all.holds moved.from.0 (let low = hands.from in omega (arith, low))) current;
        number = hands.to;
        to = all.holds moved.to.0 (let low = hands.to in omega (arith, low));
      }

  pub may-hand-over : (moved : Option NameMove) → HandsName w action moved → ForSome moved (MayHand v)
  may-hand-over None same x at = absurd (cc)
  may-hand-over (Some moved) hands x at = (let is_x : moved ≡ x = cc in subst (MayHand v) is_x (may-hand moved hands))

-- the seat holds the same locks once a name was moved
pub handed-holds : (moved : Option NameMove) (n : ℕ) (v : Seen) → HoldsBelow n v → HoldsBelow n (after_handing moved v)
handed-holds None n v held = held
handed-holds (Some moved) n v held = moved_holds (name_number moved.name) moved.to.0 n v held
