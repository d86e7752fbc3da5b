-- The actors of a pool, whose lock a seat holds beside the book.
use Rattle.std.proofs.Common.{◌≡◌, ◌<◌, ◌∙◌, ◌/◌, ℕ, true, length, sym, ap, subst, arith}
use Rattle.std.specs.Prelude.{Option, Some, is_some}
use Rattle.std.specs.Option.{ForSome, IsSome}
use Rattle.sched_model.specs.declared.action.Actor.{Actor}
use Rattle.sched_model.specs.declared.action.Actor.TheVariants.{Proc, Dom, Tool}
use Rattle.sched_model.specs.declared.machine.Machine.{Machine}
use Rattle.sched_model.specs.declared.state.Pool.{Pool}
use Rattle.sched_model.specs.declared.state.State.{State}
use Rattle.sched_model.specs.CheckedMachine.{IsChecked}
use Rattle.sched_model.specs.Places.{at_place}
use Rattle.sched_model.specs.Runs.{IsRun}
use Rattle.sched_laws.proofs.EachPlace.{place_below}
use Rattle.sched_laws.proofs.Granularity.{by_granularity}
use Rattle.sched_laws.proofs.Lists.{some_is, test_at-some}
use Rattle.sched_laws.proofs.Reached.{is_apart}
use Rattle.journal_core.specs.Books.{Chronicle}
use Rattle.journal_core.specs.Histories.{state_at}
use Rattle.composition_laws.specs.Actors.{has_actor}
use Rattle.composition_laws.proofs.Moving.{known_in_runs}
use Rattle.pool_core.specs.Seen.{Seen as PoolSeen}
use Rattle.machine_parts.specs.Places.{StandsAt}
use Rattle.machine_parts.specs.Told.{told_of}
use Rattle.machine_parts.proofs.Going.{state_of-is}
use Rattle.machine_parts.proofs.Standing.{pool_at, stands-there}
use Rattle.lock_moves.specs.Plays.{Current}
use Rattle.lock_moves.specs.Sets.{LockTable}
use Rattle.lock_moves.specs.SeatSight.{Sitting}
use Rattle.hall.specs.Holds.{IsOfSomePool}
use Rattle.hall.specs.SeatKnowledge.{KnowsPool}
use Rattle.hall.specs.Serving.{AreTogether}
use Rattle.hall.specs.Steps.{HasBook}
use Rattle.hall.specs.Turns.{is_actor}
use Rattle.hall.proofs.Parting.{run-held, stands-held}
use Rattle.hall.proofs.Processors.{is_low}

-- a pool has no other actor than a processor or a domain
pub of-some : (g : ℕ) (pool : Pool) (actor : Actor) → has_actor g pool actor ≡ true → IsOfSomePool actor
of-some g pool (Proc p) has = tt
of-some g pool (Dom d) has = tt
of-some g pool Tool has = absurd (cc)

same-pool : (a b : Pool) → (let o : Option Pool = Some a in o) ≡ Some b → a ≡ b
same-pool a b is = cc

-- an actor is in one pool
one-pool : (m : Machine) → IsChecked m → (b : Chronicle) → b.input ≡ m → IsRun b.input b.history → (actor : Actor) (i j : ℕ) (p q : Pool) → at_place (state_at b.input b.history).pools i ≡ Some p → at_place (state_at b.input b.history).pools j ≡ Some q
    → has_actor b.input.config.granularity p actor ≡ true → has_actor b.input.config.granularity q actor ≡ true → j ≡ i
one-pool m checked b is run (Proc r) i j p q at-i at-j in-p in-q =
    let n = r.0 / b.input.config.granularity in
    (is_apart b.input (subst IsChecked (sym is) checked) b.history run).cores j i n
    (test_at-some (state_at b.input b.history).pools j (λ pool. is_some (at_place pool.resources n)) q at-j in-q)
    (test_at-some (state_at b.input b.history).pools i (λ pool. is_some (at_place pool.resources n)) p at-i in-p)
one-pool m checked b is run (Dom d) i j p q at-i at-j in-p in-q =
    (is_apart b.input (subst IsChecked (sym is) checked) b.history run).domains j i d.0
    (test_at-some (state_at b.input b.history).pools j (λ pool. is_some (at_place pool.domains d.0)) q at-j in-q)
    (test_at-some (state_at b.input b.history).pools i (λ pool. is_some (at_place pool.domains d.0)) p at-i in-p)
one-pool m checked b is run Tool i j p q at-i at-j in-p in-q = absurd (cc)

-- a pool's actor is one of the input
actor-inside : (m : Machine) → IsChecked m → (b : Chronicle) → b.input ≡ m → IsRun b.input b.history → (i : ℕ) (pool : Pool) → at_place (state_at b.input b.history).pools i ≡ Some pool → (actor : Actor) → has_actor b.input.config.granularity pool actor ≡ true
    → is_actor b.input.config actor ≡ true
actor-inside m checked b is run i pool at (Proc p) has =
    let whole = subst IsChecked (sym is) checked in
    let g = b.input.config.granularity in
    let n = b.input.config.processors in
    let c = some_is (at_place pool.resources (p.0 / g)) has in
    let below = place_below pool.resources (p.0 / g) c.0 c.1 in
    let cores = (known_in_runs b.input whole b.history run).places.cores i pool at in
    let low : p.0 / g < n / g = omega (arith, below, cores) in
    is_low p.0 n (by_granularity (λ (k : ℕ). p.0 / k < n / k → p.0 < n) g whole.config.granularity (λ l. omega (arith, l)) (λ l. omega (arith, l)) (λ l. omega (arith, l)) low)
actor-inside m checked b is run i pool at (Dom d) has =
    let x = some_is (at_place pool.domains d.0) has in
    let below = place_below pool.domains d.0 x.0 x.1 in
    let domains = (known_in_runs b.input (subst IsChecked (sym is) checked) b.history run).places.domains i pool at in
    is_low d.0 (length b.input.config.domains) (omega (arith, below, domains))
actor-inside m checked b is run i pool at Tool has = absurd (cc)

module _ (set : LockTable) (b : Chronicle) (s : Sitting) (has : HasBook set b s) (current : Current s.view) (m : Machine) (checked : IsChecked m) (input : b.input ≡ m)
    (i : ℕ) (low : i < 16) (slot : Option PoolSeen) (knows : KnowsPool i slot s.view) (some : IsSome slot) where
  abbrev g : ℕ
  g = b.input.config.granularity

  abbrev there : State
  there = state_at b.input b.history

  run : IsRun b.input b.history
  run = run-held set b s has current

  here : (seen : PoolSeen) × (slot ≡ Some seen)
  here = some_is slot some

  abbrev seen : PoolSeen
  seen = here.0

  stands : StandsAt (told_of b) i slot
  stands = stands-held set b s has current i slot low knows

  at : at_place there.pools i ≡ Some seen.pool
  at = subst (λ (x : State). at_place x.pools i ≡ Some seen.pool) (state_of-is (told_of b)) (stands-there (told_of b) i slot stands ∙ ap pool_at here.1)

  -- the pool of the place has the actor
  abbrev IsHere : Actor → Type 0
  IsHere actor = ForSome slot (λ x. has_actor x.granularity x.pool actor ≡ true)

  has-it : (actor : Actor) → IsHere actor → has_actor g seen.pool actor ≡ true
  has-it actor mine = subst (λ (n : ℕ). has_actor n seen.pool actor ≡ true) (stands.suits seen here.1).granularity (mine seen here.1)

  is-here : (actor : Actor) → has_actor g seen.pool actor ≡ true → IsHere actor
  is-here actor mine x is =
      let same : seen ≡ x = (let e : (let o : Option PoolSeen = Some seen in o) ≡ Some x = sym here.1 ∙ is in cc) in
      subst (λ (y : PoolSeen). has_actor y.granularity y.pool actor ≡ true) same
      (subst (λ (n : ℕ). has_actor n seen.pool actor ≡ true) (sym (stands.suits seen here.1).granularity) mine)

  pub together-held : (actor other : Actor) → IsHere actor → IsHere other → AreTogether g there actor other
  together-held actor other mine too = record { place = i; pool = seen.pool; at = at; has = has-it actor mine; too = has-it other too }

  pub other-held : (actor other : Actor) → IsHere actor → AreTogether g there actor other → IsHere other
  other-held actor other mine both =
      let same : both.place ≡ i = one-pool m checked b input run actor i both.place seen.pool both.pool at both.at (has-it actor mine) both.has in
      let pool : both.pool ≡ seen.pool = same-pool both.pool seen.pool (sym both.at ∙ ap (at_place there.pools) same ∙ at) in
      is-here other (subst (λ (p : Pool). has_actor g p other ≡ true) pool both.too)

  pub inside-held : (actor : Actor) → IsHere actor → is_actor b.input.config actor ≡ true
  inside-held actor mine = actor-inside m checked b input run i seen.pool at actor (has-it actor mine)

  pub some-held : (actor : Actor) → IsHere actor → IsOfSomePool actor
  some-held actor mine = of-some g seen.pool actor (has-it actor mine)
