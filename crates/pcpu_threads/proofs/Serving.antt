-- What the threads of a run do: holds by the seats of their rows.
use mathlib.Core.Logic.{dite}
use native.Mathlib.Decide.{ℕ_discrete}
use Rattle.std.proofs.Common.{◌≡◌, ◌∙◌, ◌+◌, ◌-◌, ◌%◌, ◌*◌, ◌<◌, ℕ, suc, true, List, [], ◌∷◌, length, get_or, set, refl, sym, ap, subst, arith}
use Rattle.std.proofs.lemmas.List.{get_or_default, get_or-set_same, get_or-set_other}
use Rattle.std.specs.Prelude.{Result, Ok, Err, IfOk, IfErr}
use Rattle.std.specs.List.{All}
use Rattle.sched_model.specs.declared.action.Actor.{Actor}
use Rattle.sched_model.specs.declared.action.Actor.TheVariants.{Dom, Proc, Tool}
use Rattle.sched_model.specs.declared.config.Config.{Config}
use Rattle.sched_model.specs.declared.machine.Machine.{Machine}
use Rattle.lock_moves.specs.Sets.{LockTable}
use Rattle.hall.specs.declared.turns.Acted.{Acted}
use Rattle.hall.specs.declared.turns.Done.TheVariants as done
use Rattle.hall.specs.declared.turns.Full.{Full}
use Rattle.hall.specs.Holds.{IsOfSomePool}
use Rattle.hall.specs.Serving.{HasServed, HasServedFull, HasServedOnce, Serves}
use Rattle.hall.specs.Turns.{is_actor}
use Rattle.hall.proofs.Processors.{is_low}
use Rattle.hall.specs.Seats.{Seated, Stays, shares_in}
use Rattle.hall.proofs.Calls.{kept-stays}
use Rattle.pcpu_threads.specs.Crews.{ActsForWorkers, HasWorker, IsAmong, IsHand, IsRow}
use Rattle.pcpu_threads.specs.Workers.{Works, shares_of}
use Rattle.pcpu_threads.proofs.Counting.{shares-cons}
use Rattle.std.proofs.lemmas.Bool.{ltb-true}
use Rattle.std.proofs.Math.Nat.{mod-lt, mul-mod_left}
use Rattle.pcpu_threads.proofs.Working.{acts-said, works-for, works-same, works_refl, works_trans}

-- an actor of the input that does events of a pool has a worker
with-worker : (config : Config) (n : ℕ) (actor : Actor) → n ≡ config.processors → 0 < n → is_actor config actor ≡ true → IsOfSomePool actor → HasWorker n actor
with-worker config n (Proc p) all some low of = (p.0, (let below = ltb-true p.0 config.processors low in omega (arith, below, all)), refl)
with-worker config n (Dom d) all some low of = (d.0 % n, mod-lt d.0 some, refl)
with-worker config n Tool all some low of = absurd of

-- what the seats of a hall with so many processors have seen
module _ (n : ℕ) (some : 0 < n) where
  served-works : (actor : Actor) (place : ℕ) (old new : Seated) → n ≡ old.sitting.view.input.config.processors → HasServedOnce actor place old new → Works (HasWorker n) old new
  served-works actor place old new all (doer, served) =
      works-for (HasWorker n) doer (with-worker old.sitting.view.input.config n doer all some served.is served.some) old new
      (acts-said doer old new served.once.stays (Ok (done.Event place served.once.event)) served.once.done tt)

  serves-works : (actor : Actor) (places : List ℕ) (old new : Seated) → n ≡ old.sitting.view.input.config.processors → Serves actor places old new → Works (HasWorker n) old new
  serves-works actor [] old new all same = works-same (HasWorker n) old new (kept-stays old.sitting new.sitting same.sight) (record { front = same.sight.front; own = same.sight.own; takes = (let more = same.sight.takes in omega (arith, more)) })
  serves-works actor (place ∷ places) old new all serves =
      let first = serves-works actor places old serves.0 all serves.1 in
      works_trans (HasWorker n) old serves.0 new first
      (served-works actor place serves.0 new (all ∙ sym (ap (λ (m : Machine). m.config.processors) first.stays.input)) serves.2)

  -- a whole hold
  pub hold-works : (actor : Actor) (r : Result Acted Full) (old new : Seated) → n ≡ old.sitting.view.input.config.processors → HasWorker n actor → IfOk r (λ acted. HasServed actor acted old new) → IfErr r (λ full. HasServedFull actor full old new) → Works (HasWorker n) old new
  hold-works actor (Ok acted) old new all has served full =
      works_trans (HasWorker n) old served.mid new (serves-works actor served.places old served.mid all served.serves)
      (works-for (HasWorker n) actor has served.mid new (acts-said actor served.mid new served.stays (Ok done.Nothing) (served.nothing, served.arrived) tt))
  hold-works actor (Err f) old new all has served full =
      works_trans (HasWorker n) old full.mid new (serves-works actor full.places old full.mid all full.serves)
      (let same : n ≡ full.mid.sitting.view.input.config.processors = all ∙ sym (ap (λ (m : Machine). m.config.processors) (serves-works actor full.places old full.mid all full.serves).stays.input) in
      works-for (HasWorker n) full.doer (with-worker full.mid.sitting.view.input.config n full.doer same some full.is full.some) full.mid new
      (acts-said full.doer full.mid new full.stays (Err f) tt full.full_is))

-- one seat of the row has gone on
module _ (hall : LockTable) (domains : ℕ) (seats : List Seated) (w : ℕ) (new : Seated) (low : w < length seats) (row : IsRow hall domains seats) (stays : (d : Seated) → Stays (get_or seats w d) new) where
  set-here : (k : ℕ) (d : Seated) → k ≡ w → get_or (set seats w new) k d ≡ new
  set-here k d same = ap (λ (j : ℕ). get_or (set seats w new) j d) same ∙ get_or-set_same seats w new d low

  pub acts-set : ((d : Seated) → Works (HasWorker (length seats - 1)) (get_or seats w d) new) → ActsForWorkers seats (set seats w new)
  acts-set works k d inside = dite (ℕ_discrete k w)
      (λ same. subst (Works (HasWorker (length seats - 1)) (get_or seats k d)) (sym (set-here k d same)) (subst (λ (j : ℕ). Works (HasWorker (length seats - 1)) (get_or seats j d) new) (sym same) (works d)))
      (λ other. subst (Works (HasWorker (length seats - 1)) (get_or seats k d)) (sym (get_or-set_other seats w k new d other)) (works_refl (HasWorker (length seats - 1)) (get_or seats k d)))

pub rows-long : (hall : LockTable) (domains : ℕ) (a b : List Seated) → IsRow hall domains a → IsRow hall domains b → length a ≡ length b
rows-long hall domains a b one other = one.wide.count ∙ sym other.wide.count

pub acts_trans : (hall : LockTable) (domains : ℕ) (a b c : List Seated) → IsRow hall domains a → IsRow hall domains b → ActsForWorkers a b → ActsForWorkers b c → ActsForWorkers a c
acts_trans hall domains a b c one other u v w d low =
    let len = rows-long hall domains a b one other in
    works_trans (HasWorker (length a - 1)) (get_or a w d) (get_or b w d) (get_or c w d) (u w d low)
    (subst (λ (n : ℕ). Works (HasWorker (n - 1)) (get_or b w d) (get_or c w d)) (sym len) (v w d (omega (arith, low, len))))

-- an actor with a worker is one of the input, and does the events of a pool
pub among-is : (config : Config) (n domains : ℕ) (actor : Actor) → n ≡ config.processors → domains ≡ length config.domains → IsAmong n domains actor → is_actor config actor ≡ true
among-is config n domains (Proc p) processors all among = is_low p.0 config.processors (omega (arith, among, processors))
among-is config n domains (Dom d) processors all among = is_low d.0 (length config.domains) (omega (arith, among, all))
among-is config n domains Tool processors all among = absurd among

pub among-pool : (n domains : ℕ) (actor : Actor) → IsAmong n domains actor → IsOfSomePool actor
among-pool n domains (Proc p) among = tt
among-pool n domains (Dom d) among = tt
among-pool n domains Tool among = among

-- a hold of a pool by one of the row's seats
pub acts-served : (hall : LockTable) (domains : ℕ) (seats : List Seated) (w : ℕ) (any new : Seated) (actor : Actor) (r : Result Acted Full) → IsRow hall domains seats → w < length seats - 1 → Stays (get_or seats w any) new
    → is_actor hall.opened.input.config actor ≡ true → IsOfSomePool actor → IfOk r (λ acted. HasServed actor acted (get_or seats w any) new) → IfErr r (λ full. HasServedFull actor full (get_or seats w any) new) → ActsForWorkers seats (set seats w new)
acts-served hall domains seats w any new actor r row low stays is of served full =
    let n : ℕ = length seats - 1 in
    let inside : w < length seats = omega (arith, low) in
    let here : (d : Seated) → get_or seats w any ≡ get_or seats w d = λ d. get_or_default seats w any d inside in
    let some : 0 < n = omega (arith, low) in
    let wide : n ≡ hall.opened.input.config.processors = (let count = row.wide.count in omega (arith, count)) in
    let mine : n ≡ (get_or seats w any).sitting.view.input.config.processors = wide ∙ sym (ap (λ (m : Machine). m.config.processors) (row.hands w any inside).of.input) in
    acts-set hall domains seats w new inside row (λ d. subst (λ (s : Seated). Stays s new) (here d) stays)
    (λ d. subst (λ (s : Seated). Works (HasWorker n) s new) (here d) (hold-works n some actor r (get_or seats w any) new mine (with-worker hall.opened.input.config n actor wide some is of) served full))

-- seats with one part each have as many parts as they are
pub hands-shares : (hall : LockTable) (seats : List Seated) → All (IsHand hall) seats → shares_of seats ≡ length seats
hands-shares hall [] hands = refl
hands-shares hall (s ∷ seats) hands =
    let first : shares_in s ≡ 1 = (hands 0 s (omega arith)).one in
    let rest : shares_of seats ≡ length seats = hands-shares hall seats (λ k d low. hands (suc k) d (omega (arith, low))) in
    let all = shares-cons s seats in
    omega (arith, first, rest, all)

pub rows-even : (rows wide count n : ℕ) → count ≡ rows * wide → n ≡ count → n % wide ≡ 0
rows-even rows wide count n is same = ap (λ (k : ℕ). k % wide) (same ∙ is) ∙ mul-mod_left rows wide
