-- What is to come of a pool at a moment, as a number: dues of cores, vCPUs that are ripe, deadlines and refills; and what changes of one core, one vCPU or the records do to it.
use Rattle.std.proofs.Common.{◌≡◌, ◌≤◌, ◌+◌, ◌-◌, ℕ, zero, suc, Bool, true, false, not, List, [], ◌∷◌, refl, arith, ap, subst, sym, ◌∙◌}
use Rattle.std.specs.Prelude.{Option, Some, None, nat_le, slice_get, option_map, ◌==◌, ◌&&◌, ◌||◌, ◌/◌}
use Rattle.std.proofs.lemmas.Bool.{and_from}
use Rattle.sched_base.specs.Numbers.{moment, span, has_moment_come, one_if}
use Rattle.sched_base.specs.declared.Moment.{Moment}
use Rattle.sched_base.specs.declared.Span.{Span}
use Rattle.sched_base.specs.declared.VcpuId.{VcpuId}
use Rattle.sched_model.specs.declared.state.Credit2Domain.{Credit2Domain}
use Rattle.sched_model.specs.declared.state.Doing.TheVariants.{Guest}
use Rattle.sched_model.specs.declared.state.Domain.{Domain}
use Rattle.sched_model.specs.declared.state.Pool.{Pool}
use Rattle.sched_model.specs.declared.state.Processor.{Processor}
use Rattle.sched_model.specs.declared.state.Records.{Records}
use Rattle.sched_model.specs.declared.state.Records.TheVariants.{Credit2Pool, RtdsPool}
use Rattle.sched_model.specs.declared.state.Resource.{Resource}
use Rattle.sched_model.specs.declared.state.RtdsUnit.{RtdsUnit}
use Rattle.sched_model.specs.declared.state.Vcpu.{Vcpu}
use Rattle.sched_model.specs.Places.{at_place, change_at, change_each, change_item}
use Rattle.sched_model.specs.Pool.{change_core, change_processor, change_vcpu, change_cores_of, with_doing, started_on, settled_pool, stopped_vcpu}
use Rattle.sched_laws.proofs.Events.{LikePlaces, like_change_at, like_change_each, like_map, like_of_domain, capped, IsMarked, KeptByCommands, kept_settled}
use Rattle.sched_base.proofs.Bools.{and_left, or_more, clash}
use Rattle.sched_laws.specs.Counts.{total}
use Rattle.moment_laws.specs.Turns.{how_many}
use Rattle.moment_laws.specs.Stretches.{units}

-- the core is not pending, and its due has come
abbrev pub is_overdue : ℕ → Resource → Bool
is_overdue t c = has_moment_come t c.due && not c.pending

-- the work that is left is none, or is done by then
abbrev pub ends_by : ℕ → Option Moment → Option Span → Bool
ends_by t started None = false
ends_by t None (Some work) = work.0 == 0
ends_by t (Some from) (Some work) = work.0 == 0 || nat_le (from.0 + work.0) t

-- the vCPU sleeps and its moment has come, or it is awake and its work ends by then
abbrev pub is_ripe : ℕ → Vcpu → Bool
is_ripe t x = elim x.asleep_until as (λ _. Bool) [ None ↦ ends_by t x.started x.work_left | Some until ↦ nat_le until.0 t ]

-- the refill has come; the deadline has come
abbrev pub is_refill_due : ℕ → Option ℕ → Bool
is_refill_due t None = false
is_refill_due t (Some due) = nat_le due t

abbrev pub is_deadline_due : ℕ → RtdsUnit → Bool
is_deadline_due t x = nat_le x.deadline t

-- how many of each
abbrev pub of_core : ℕ → Resource → ℕ
of_core t c = one_if (is_overdue t c)

abbrev pub of_domain : ℕ → Domain → ℕ
of_domain t d = how_many (is_ripe t) d.vcpus

abbrev pub of_credit2 : ℕ → Credit2Domain → ℕ
of_credit2 t d = one_if (is_refill_due t d.refill)

abbrev pub of_rtds : ℕ → List RtdsUnit → ℕ
of_rtds t units = how_many (is_deadline_due t) units

abbrev pub of_records : ℕ → Records → ℕ
of_records t (Credit2Pool records) = total (of_credit2 t) records.domains
of_records t (RtdsPool domains) = total (of_rtds t) domains
of_records t any = 0

-- what is to come of the pool
abbrev pub of_pool : ℕ → Pool → ℕ
of_pool t pool = (total (of_core t) pool.resources + total (of_domain t) pool.domains) + of_records t pool.scheduler.records

pub one_less : (a b : Bool) → (b ≡ true → a ≡ true) → one_if b ≤ one_if a
one_less true true to = omega arith
one_less true false to = omega arith
one_less false true to = absurd (let e = to refl in cc)
one_less false false to = omega arith

pub how_many_less : {X : Type 0} (test : X → Bool) (i : ℕ) (f : X → X) (xs : List X) → ((x : X) → slice_get xs i ≡ Some x → test (f x) ≡ true → test x ≡ true) → how_many test (change_item i f xs) ≤ how_many test xs
how_many_less test i f [] less = omega arith
how_many_less test zero f (x ∷ xs) less = (let a = one_less (test x) (test (f x)) (less x refl) in omega (arith, a))
how_many_less test (suc i) f (x ∷ xs) less = (let r = how_many_less test i f xs less in omega (arith, r))

like_rest : {X : Type 0} (R : X → X → Type 0) (o p : Option X) (old next : List (Option X)) → LikePlaces R (o ∷ old) (p ∷ next) → LikePlaces R old next
like_rest R o p old next like = record { count = (let count = like.count in omega (arith, count)); at = λ i. like.at (suc i) }

-- the sum over what is no more at any place
total-like_less : {X : Type 0} (R : X → X → Type 0) (f : X → ℕ) (old next : List (Option X)) → ((x y : X) → R x y → f y ≤ f x) → LikePlaces R old next → total f next ≤ total f old
total-like_less R f old [] less like = omega arith
total-like_less R f [] (p ∷ next) less like = (let count = like.count in absurd (omega (arith, count)))
total-like_less R f (None ∷ old) (None ∷ next) less like = total-like_less R f old next less (like_rest R None None old next like)
total-like_less R f (None ∷ old) (Some y ∷ next) less like = absurd (like.at 0)
total-like_less R f (Some x ∷ old) (None ∷ next) less like = absurd (like.at 0)
total-like_less R f (Some x ∷ old) (Some y ∷ next) less like =
    let a = less x y (like.at 0) in
    let rest = total-like_less R f old next less (like_rest R (Some x) (Some y) old next like) in
    omega (arith, a, rest)

pub total-change_at_less : {X : Type 0} (f : X → ℕ) (i : ℕ) (h : X → X) (places : List (Option X)) → ((x : X) → at_place places i ≡ Some x → f (h x) ≤ f x) → total f (change_at i h places) ≤ total f places
total-change_at_less {X} f i h places less =
    let R : X → X → Type 0 = λ x y. f y ≤ f x in
    total-like_less R f places _ (λ x y le. le) (like_change_at R i h places (λ x. omega arith) less)

pub total-change_each_less : {X : Type 0} (f : X → ℕ) (h : ℕ → X → X) (places : List (Option X)) → ((n : ℕ) (x : X) → f (h n x) ≤ f x) → total f (change_each 0 h places) ≤ total f places
total-change_each_less {X} f h places less =
    let R : X → X → Type 0 = λ x y. f y ≤ f x in
    total-like_less R f places _ (λ x y le. le) (like_change_each R h places less)

-- a pending core has no due to come
pub pending_none : (t : ℕ) (c : Resource) → c.pending ≡ true → is_overdue t c ≡ false
pending_none t c is = ap (λ b. has_moment_come t c.due && not b) is ∙ none (has_moment_come t c.due)
  where
    none : (b : Bool) → (b && false) ≡ false
    none true = refl
    none false = refl

module _ (t : ℕ) where
  abbrev pub IsLess : Pool → Pool → Type 0
  IsLess pool next = of_pool t next ≤ of_pool t pool

  -- a core that is overdue was so
  abbrev Calms : Resource → Resource → Type 0
  Calms c d = is_overdue t d ≡ true → is_overdue t c ≡ true

  less_like : (cores : List (Option Resource)) (pool : Pool) → LikePlaces Calms pool.resources cores → IsLess pool (record pool { resources = cores })
  less_like cores pool like = (let a = total-like_less Calms (of_core t) pool.resources cores (λ c d. one_less (is_overdue t c) (is_overdue t d)) like in omega (arith, a))

  pub less_core : (r : ℕ) (f : Resource → Resource) (pool : Pool) → ((c : Resource) → Calms c (f c)) → IsLess pool (change_core r f pool)
  less_core r f pool less = less_like _ pool (like_change_at Calms r f pool.resources (λ c e. e) (λ c at. less c))

  pub less_domain : (d : ℕ) (f : Domain → Domain) (pool : Pool) → ((x : Domain) → at_place pool.domains d ≡ Some x → of_domain t (f x) ≤ of_domain t x) → IsLess pool (record pool { domains = change_at d f pool.domains })
  less_domain d f pool less = (let a = total-change_at_less (of_domain t) d f pool.domains less in omega (arith, a))

  pub less_vcpu : (v : VcpuId) (f : Vcpu → Vcpu) (pool : Pool) → ((x : Vcpu) → is_ripe t (f x) ≡ true → is_ripe t x ≡ true) → IsLess pool (change_vcpu v f pool)
  less_vcpu v f pool less = less_domain v.dom.0 (λ d. record d { vcpus = change_item v.n f d.vcpus }) pool (λ d at. how_many_less (is_ripe t) v.n f d.vcpus (λ x get. less x))

  pub less_processor : (g p : ℕ) (f : Processor → Processor) (pool : Pool) → IsLess pool (change_processor g p f pool)
  less_processor g p f pool = less_core (p / g) _ pool (λ c is. is)

  -- a vCPU that is started, or stopped, is no riper
  started_ripe : (x : Vcpu) → is_ripe t (record x { started = Some (moment t) }) ≡ true → is_ripe t x ≡ true
  started_ripe x = by_sleep x.asleep_until x.started x.work_left
    where
      none_left : (w : ℕ) → (w == 0 || nat_le (t + w) t) ≡ true → (w == 0) ≡ true
      none_left zero is = refl
      none_left (suc w) is = absurd (let a : t + suc w ≤ t = grind (arith, is) in omega (arith, a))

      by_sleep : (o s : Option Moment) (w : Option Span) → elim o as (λ _. Bool) [ None ↦ ends_by t (Some (moment t)) w | Some until ↦ nat_le until.0 t ] ≡ true → elim o as (λ _. Bool) [ None ↦ ends_by t s w | Some until ↦ nat_le until.0 t ] ≡ true
      by_sleep (Some until) s w is = is
      by_sleep None s None is = is
      by_sleep None None (Some w) is = none_left w.0 is
      by_sleep None (Some from) (Some w) is = or_more (w.0 == 0) (nat_le (from.0 + w.0) t) (none_left w.0 is)

  stopped_ripe : (x : Vcpu) → is_ripe t (stopped_vcpu t x) ≡ true → is_ripe t x ≡ true
  stopped_ripe x = by_start x.started refl
    where
      less_work : (from w : ℕ) → (w - (t - from) == 0) ≡ true → (w == 0 || nat_le (from + w) t) ≡ true
      less_work from zero is = refl
      less_work from (suc w) is = (let a : suc w - (t - from) ≡ 0 = grind (arith, is) in let b : from + suc w ≤ t = omega (arith, a) in grind (arith, b))

      by_work : (from : Moment) (o : Option Moment) (w : Option Span) → elim o as (λ _. Bool) [ None ↦ ends_by t None (option_map (λ (work : Span). span (work.0 - (t - from.0))) w) | Some until ↦ nat_le until.0 t ] ≡ true
          → elim o as (λ _. Bool) [ None ↦ ends_by t (Some from) w | Some until ↦ nat_le until.0 t ] ≡ true
      by_work from (Some until) w is = is
      by_work from None None is = is
      by_work from None (Some w) is = less_work from.0 w.0 is

      by_start : (s : Option Moment) → x.started ≡ s → is_ripe t (stopped_vcpu t x) ≡ true → is_ripe t x ≡ true
      by_start None is e = subst (λ (o : Option Moment). is_ripe t (elim o as (λ _. Vcpu) [ None ↦ x | Some from ↦ record x { work_left = option_map (λ (work : Span). span (work.0 - (t - from.0))) x.work_left; started = None } ]) ≡ true) is e
      by_start (Some from) is e =
          subst (λ (o : Option Moment). elim x.asleep_until as (λ _. Bool) [ None ↦ ends_by t o x.work_left | Some until ↦ nat_le until.0 t ] ≡ true) (sym is)
          (by_work from x.asleep_until x.work_left (subst (λ (o : Option Moment). is_ripe t (elim o as (λ _. Vcpu) [ None ↦ x | Some from ↦ record x { work_left = option_map (λ (work : Span). span (work.0 - (t - from.0))) x.work_left; started = None } ]) ≡ true) is e))

  pub less_started_on : (g p : ℕ) (v : VcpuId) (pool : Pool) → IsLess pool (started_on g t p v pool)
  less_started_on g p v pool =
      let a = less_vcpu v (λ x. record x { started = Some (moment t) }) pool started_ripe in
      let b = less_processor g p (with_doing (Guest v)) (change_vcpu v (λ x. record x { started = Some (moment t) }) pool) in
      omega (arith, a, b)

  pub less_stopped : (v : VcpuId) (pool : Pool) → IsLess pool (change_vcpu v (stopped_vcpu t) pool)
  less_stopped v pool = less_vcpu v (stopped_vcpu t) pool stopped_ripe

  pub less_capped : (d : ℕ) (pool : Pool) → IsLess pool (change_cores_of d (capped t) pool)
  less_capped d pool = less_like _ pool (like_of_domain Calms d (capped t) pool.resources (λ c e. e) (λ c e. absurd (clash _ e (pending_none t (capped t c) refl))))

  -- what commands do to the marks, the queue and the paused domains
  marked_calms : (c d : Resource) → IsMarked c d → Calms c d
  marked_calms c d marked e = and_from (has_moment_come t c.due) (not c.pending) (subst (λ (o : Option Moment). has_moment_come t o ≡ true) marked.keeps.due (and_left (has_moment_come t d.due) _ e)) (still c.pending refl)
    where
      still : (b : Bool) → c.pending ≡ b → not b ≡ true
      still true is = absurd (clash _ e (pending_none t d (marked.keeps.pending is)))
      still false is = refl

  pub less_commands : (g most : ℕ) → KeptByCommands g (λ pool. of_pool t pool ≤ most)
  less_commands g most = record {
    marks = λ cores pool like here. (let a = less_like cores pool (like_map IsMarked Calms pool.resources cores marked_calms like) in omega (arith, a, here));
    queues = λ u pool runs here. here;
    dequeues = λ d pool here. here;
    pausing = λ d paused pool here. (let a = less_domain d (λ x. record x { paused = paused }) pool (λ x at. omega arith) in omega (arith, a, here));
  }

  pub less_settled : (pool : Pool) → IsLess pool (settled_pool t pool)
  less_settled pool = kept_settled (less_commands 0 (of_pool t pool)) t pool (omega arith)
