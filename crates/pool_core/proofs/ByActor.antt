-- The first event of an actor, from the first of each kind.
use Rattle.std.proofs.Common.{◌≡◌, ◌≢◌, ◌≤◌, ◌<◌, ◌+◌, ◌*◌, ◌/◌, ◌%◌, ℕ, suc, List, Bool, true, false, refl, sym, ap, subst, ◌∙◌, inl, inr, arith}
use Rattle.std.specs.Prelude.{Option, Some, None, ◌==◌, ◌&&◌}
use Rattle.std.proofs.Math.Decide.{ℕ_discrete}
use Rattle.std.proofs.Math.Nat.{mul-div_cancel, mul-mod_left}
use Rattle.std.proofs.lemmas.Bool.{cases_lt, eqb-true, false_from_ne_true, eq-eqb}
use Rattle.sched_base.specs.declared.DomId.{DomId}
use Rattle.sched_base.specs.declared.Moment.{Moment}
use Rattle.sched_base.specs.declared.ProcId.{ProcId}
use Rattle.sched_base.specs.declared.VcpuId.{VcpuId}
use Rattle.sched_base.specs.Numbers.{domain, core, processor, has_moment_come}
use Rattle.sched_model.specs.declared.action.Action.{Action}
use Rattle.sched_model.specs.declared.action.Action.TheVariants.{Wake, Block, Slice, Arrive, Decide, Leave, Save}
use Rattle.sched_model.specs.declared.action.Actor.{Actor}
use Rattle.sched_model.specs.declared.action.Actor.TheVariants.{Proc, Dom}
use Rattle.sched_model.specs.declared.state.Domain.{Domain}
use Rattle.sched_model.specs.declared.state.Pool.{Pool}
use Rattle.sched_model.specs.declared.state.Vcpu.{Vcpu}
use Rattle.sched_model.specs.Places.{first_place}
use Rattle.sched_model.specs.Pool.{done_moment, enabled_in, pool_vcpu, vcpu_among}
use Rattle.sched_base.proofs.Bools.{clash}
use Rattle.pool_laws.proofs.Readiness.{ready}
use Rattle.unit_state.specs.Guests.{KeepsGuests}
use Rattle.unit_state.specs.Seen.{Seen as GuestsSeen, done_among, is_due_among}
use Rattle.unit_state.proofs.GuestLemmas.{vcpu_bounds}
use Rattle.core_state.specs.Seen.{Seen as CoresSeen}
use Rattle.sched_ops.specs.Seen.{Seen as SchedulerSeen}
use Rattle.pool_core.specs.Order.{IsFirstByIn, IsFirstIn, IsNotAfter, kind_place}
use Rattle.pool_laws.specs.Actors.{IsFirstBy, is_by, is_by_domain, is_by_processor, is_lowest, leads}
use Rattle.pool_core.specs.Seen.{pool_of}
use Rattle.pool_core.proofs.Order.{from_wakes, is_of_pool, joined, none_at, one_at, to_saves, widened}
use Rattle.pool_laws.proofs.ActionOrder.{action_at, not_after_itself, of_kind}

-- a test of two parts, of which the first is known
pub and_then : (a b x : Bool) → a ≡ true → x ≡ b → x ≡ (a && b)
and_then true b x is same = same
and_then false b x is same = absurd (cc)

pub and_stop : (a b : Bool) → a ≡ false → false ≡ (a && b)
and_stop true b is = absurd (cc)
and_stop false b is = refl

-- whether the work of the vCPU is done, if there is one
abbrev pub done_test : ℕ → Pool → Option VcpuId → Bool
done_test t pool o = elim o [ None ↦ false | Some v ↦ elim (pool_vcpu pool v) [ None ↦ false | Some x ↦ has_moment_come t (done_moment x) ] ]

pub done_is : (t : ℕ) (domains : List (Option Domain)) (v : VcpuId) → has_moment_come t (done_among domains v) ≡ (elim (vcpu_among domains v) [ None ↦ false | Some x ↦ has_moment_come t (done_moment x) ])
done_is t domains v = by (vcpu_among domains v)
  where
    by : (o : Option Vcpu) → has_moment_come t (elim o as (λ _. Option Moment) [ None ↦ None | Some x ↦ done_moment x ]) ≡ (elim o as (λ _. Bool) [ None ↦ false | Some x ↦ has_moment_come t (done_moment x) ])
    by None = refl
    by (Some x) = refl

-- a processor is the first of one core alone
led : (g r k p : ℕ) → 0 < g → p ≡ r * g → leads g k p ≡ true → k ≡ r
led g r k p some is own =
    let e : k * g ≡ r * g = sym (eqb-true p (k * g) own) ∙ is in
    sym (mul-div_cancel k some) ∙ ap (λ (n : ℕ). n / g) e ∙ mul-div_cancel r some

-- one that is not the first is that of no core
not_led : (g k p : ℕ) → p % g ≢ 0 → leads g k p ≡ true → ⊥
not_led g k p rest own = rest (ap (λ (n : ℕ). n % g) (eqb-true p (k * g) own) ∙ mul-mod_left k g)

lowest_leads : (g p : ℕ) (o : Option ℕ) → elim o as (λ _. Bool) [ None ↦ false | Some r ↦ leads g r p ] ≡ true → (r : ℕ) × (leads g r p ≡ true)
lowest_leads g p None own = absurd (cc)
lowest_leads g p (Some r) own = (r, own)

-- a core's first processor is the pool's lowest, where the core is the pool's first
pub lowest_of : (g r p : ℕ) (pool : Pool) → p ≡ r * g → first_place 0 (λ c. true) pool.resources ≡ Some r → is_lowest g pool p ≡ true
lowest_of g r p pool is first = ap (λ (o : Option ℕ). elim o as (λ _. Bool) [ None ↦ false | Some k ↦ leads g k p ]) first ∙ eq-eqb p (r * g) is

module _ (g t : ℕ) (pool : Pool) (actor : Actor) where
  -- of all the kinds of a pool
  pub of_all : (o : Option Action) → IsFirstByIn 4 13 g t pool actor o → IsFirstBy g t pool actor o
  of_all None none = λ action of own. none action (from_wakes action of) (to_saves action) own
  of_all (Some event) is = record { of_pool = is_of_pool event is.kind; own = is.passes; enabled = is.enabled; first = λ action of own may. is.first action (from_wakes action of) own may }

  -- a kind of which the actor does the event of one number alone: where that may not come
  only_none : (k : ℕ) (make : ℕ → Action) (i : ℕ) → ((j n : ℕ) → action_at k j n ≡ make j) → ((j : ℕ) → is_by g pool actor (make j) ≡ true → j ≡ i) → enabled_in g t pool (make i) ≡ false
      → IsFirstByIn k (suc k) g t pool actor None
  only_none k make i made only off = none_at (is_by g pool actor) g t pool k (λ j n own.
      let e = made j n in
      let same = only j (subst (λ (a : Action). is_by g pool actor a ≡ true) e own) in
      ap (enabled_in g t pool) (e ∙ ap make same) ∙ off)

  -- and where it may
  only_one : (k : ℕ) (make : ℕ → Action) (i : ℕ) → ((j n : ℕ) → action_at k j n ≡ make j) → ((j : ℕ) → is_by g pool actor (make j) ≡ true → j ≡ i) → kind_place (make i) ≡ k → is_by g pool actor (make i) ≡ true
      → enabled_in g t pool (make i) ≡ true → IsFirstByIn k (suc k) g t pool actor (Some (make i))
  only_one k make i made only kind own on = one_at (is_by g pool actor) g t pool k (make i) kind own on (λ j n by may.
      let e = made j n in
      let same = only j (subst (λ (a : Action). is_by g pool actor a ≡ true) e by) in
      subst (IsNotAfter (make i)) (sym (e ∙ ap make same)) (not_after_itself (make i)))

module _ (g t : ℕ) (pool : Pool) (p : ProcId) where
  no_wake : IsFirstByIn 4 5 g t pool (Proc p) None
  no_wake = none_at (is_by g pool (Proc p)) g t pool 4 (λ i n own. absurd (cc))

  no_block : enabled_in g t pool (Block p) ≡ false → IsFirstByIn 5 6 g t pool (Proc p) None
  no_block off = only_none g t pool (Proc p) 5 (λ n. Block (processor n)) p.0 (λ j n. refl) (λ j own. sym (eqb-true p.0 j own)) off

  a_block : enabled_in g t pool (Block p) ≡ true → IsFirstByIn 5 6 g t pool (Proc p) (Some (Block p))
  a_block on = only_one g t pool (Proc p) 5 (λ n. Block (processor n)) p.0 (λ j n. refl) (λ j own. sym (eqb-true p.0 j own)) refl (eq-eqb p.0 p.0 refl) on

  no_arrive : enabled_in g t pool (Arrive p) ≡ false → IsFirstByIn 9 10 g t pool (Proc p) None
  no_arrive off = only_none g t pool (Proc p) 9 (λ n. Arrive (processor n)) p.0 (λ j n. refl) (λ j own. sym (eqb-true p.0 j own)) off

  an_arrive : enabled_in g t pool (Arrive p) ≡ true → IsFirstByIn 9 10 g t pool (Proc p) (Some (Arrive p))
  an_arrive on = only_one g t pool (Proc p) 9 (λ n. Arrive (processor n)) p.0 (λ j n. refl) (λ j own. sym (eqb-true p.0 j own)) refl (eq-eqb p.0 p.0 refl) on

  no_leave : enabled_in g t pool (Leave p) ≡ false → IsFirstByIn 11 12 g t pool (Proc p) None
  no_leave off = only_none g t pool (Proc p) 11 (λ n. Leave (processor n)) p.0 (λ j n. refl) (λ j own. sym (eqb-true p.0 j own)) off

  a_leave : enabled_in g t pool (Leave p) ≡ true → IsFirstByIn 11 12 g t pool (Proc p) (Some (Leave p))
  a_leave on = only_one g t pool (Proc p) 11 (λ n. Leave (processor n)) p.0 (λ j n. refl) (λ j own. sym (eqb-true p.0 j own)) refl (eq-eqb p.0 p.0 refl) on

  -- the timers, by the pool's lowest processor and by any other
  timer_own : (a : Action) → 7 ≤ kind_place a → kind_place a < 9 → is_lowest g pool p.0 ≡ true → is_by_processor g pool p.0 a ≡ true
  timer_own a from below low = elim (ℕ_discrete (kind_place a) 7) [
    | yes same ↦ subst (λ (x : Action). is_by_processor g pool p.0 x ≡ true) (of_kind 7 a same) low
    | no other ↦ subst (λ (x : Action). is_by_processor g pool p.0 x ≡ true) (of_kind 8 a (omega (arith, from, below, other))) low
  ]

  pub timers_of : (o : Option Action) → is_lowest g pool p.0 ≡ true → IsFirstIn 7 9 g t pool o → IsFirstByIn 7 9 g t pool (Proc p) o
  timers_of None low none = λ action from below own. none action from below refl
  timers_of (Some event) low is =
      record { kind = is.kind; kind_below = is.kind_below; passes = timer_own event is.kind is.kind_below low; enabled = is.enabled; first = λ action from own may. is.first action from refl may }

  pub no_timers : is_lowest g pool p.0 ≡ false → IsFirstByIn 7 9 g t pool (Proc p) None
  no_timers high = joined (is_by g pool (Proc p)) g t pool 7 8 9 None (omega arith)
      (none_at (is_by g pool (Proc p)) g t pool 7 (λ i n own. absurd (clash _ own high)))
      (none_at (is_by g pool (Proc p)) g t pool 8 (λ i n own. absurd (clash _ own high)))

  -- of a core's first processor: the events that come at a moment of their own
  pub block_first : enabled_in g t pool (Block p) ≡ true → IsFirstByIn 4 9 g t pool (Proc p) (Some (Block p))
  block_first on = joined (is_by g pool (Proc p)) g t pool 4 5 9 (Some (Block p)) (omega arith) no_wake (widened (is_by g pool (Proc p)) g t pool 5 6 9 (Block p) (omega arith) (a_block on))

  after_block : (c : ℕ) (o : Option Action) → enabled_in g t pool (Block p) ≡ false → IsFirstByIn 6 c g t pool (Proc p) o → IsFirstByIn 4 c g t pool (Proc p) o
  after_block c o off others = joined (is_by g pool (Proc p)) g t pool 4 5 c o (omega arith) no_wake (joined (is_by g pool (Proc p)) g t pool 5 6 c o (omega arith) (no_block off) others)

  module _ (r : ℕ) (some : 0 < g) (is : p.0 ≡ r * g) where
    no_own : (k : ℕ) (make : ℕ → Action) → ((j n : ℕ) → action_at k j n ≡ make j) → ((j : ℕ) → is_by g pool (Proc p) (make j) ≡ leads g j p.0) → enabled_in g t pool (make r) ≡ false → IsFirstByIn k (suc k) g t pool (Proc p) None
    no_own k make made by off = only_none g t pool (Proc p) k make r made (λ j own. led g r j p.0 some is (sym (by j) ∙ own)) off

    an_own : (k : ℕ) (make : ℕ → Action) → ((j n : ℕ) → action_at k j n ≡ make j) → ((j : ℕ) → is_by g pool (Proc p) (make j) ≡ leads g j p.0) → kind_place (make r) ≡ k → enabled_in g t pool (make r) ≡ true
        → IsFirstByIn k (suc k) g t pool (Proc p) (Some (make r))
    an_own k make made by kind on = only_one g t pool (Proc p) k make r made (λ j own. led g r j p.0 some is (sym (by j) ∙ own)) kind (by r ∙ eq-eqb p.0 (r * g) is) on

    pub slice_first : enabled_in g t pool (Block p) ≡ false → enabled_in g t pool (Slice (core r)) ≡ true → IsFirstByIn 4 9 g t pool (Proc p) (Some (Slice (core r)))
    slice_first off on = after_block 9 (Some (Slice (core r))) off (widened (is_by g pool (Proc p)) g t pool 6 7 9 (Slice (core r)) (omega arith) (an_own 6 (λ n. Slice (core n)) (λ j n. refl) (λ j. refl) refl on))

    pub timer_first : (o : Option Action) → enabled_in g t pool (Block p) ≡ false → enabled_in g t pool (Slice (core r)) ≡ false → IsFirstByIn 7 9 g t pool (Proc p) o → IsFirstByIn 4 9 g t pool (Proc p) o
    timer_first o off also others = after_block 9 o off (joined (is_by g pool (Proc p)) g t pool 6 7 9 o (omega arith) (no_own 6 (λ n. Slice (core n)) (λ j n. refl) (λ j. refl) also) others)

    -- those by which a core decides anew
    pub arrive_first : enabled_in g t pool (Arrive p) ≡ true → IsFirstByIn 9 13 g t pool (Proc p) (Some (Arrive p))
    arrive_first on = widened (is_by g pool (Proc p)) g t pool 9 10 13 (Arrive p) (omega arith) (an_arrive on)

    pub decide_first : enabled_in g t pool (Arrive p) ≡ false → enabled_in g t pool (Decide (core r)) ≡ true → IsFirstByIn 9 13 g t pool (Proc p) (Some (Decide (core r)))
    decide_first unready on =
        joined (is_by g pool (Proc p)) g t pool 9 10 13 (Some (Decide (core r))) (omega arith) (no_arrive unready) (widened (is_by g pool (Proc p)) g t pool 10 11 13 (Decide (core r)) (omega arith) (an_own 10 (λ n. Decide (core n)) (λ j n. refl) (λ j. refl) refl on))

    after_decide : (o : Option Action) → enabled_in g t pool (Arrive p) ≡ false → enabled_in g t pool (Decide (core r)) ≡ false → IsFirstByIn 11 13 g t pool (Proc p) o → IsFirstByIn 9 13 g t pool (Proc p) o
    after_decide o unready undecided others =
        joined (is_by g pool (Proc p)) g t pool 9 10 13 o (omega arith) (no_arrive unready) (joined (is_by g pool (Proc p)) g t pool 10 11 13 o (omega arith) (no_own 10 (λ n. Decide (core n)) (λ j n. refl) (λ j. refl) undecided) others)

    pub leave_first : enabled_in g t pool (Arrive p) ≡ false → enabled_in g t pool (Decide (core r)) ≡ false → enabled_in g t pool (Leave p) ≡ true → IsFirstByIn 9 13 g t pool (Proc p) (Some (Leave p))
    leave_first unready undecided on = after_decide (Some (Leave p)) unready undecided (widened (is_by g pool (Proc p)) g t pool 11 12 13 (Leave p) (omega arith) (a_leave on))

    pub save_first : enabled_in g t pool (Arrive p) ≡ false → enabled_in g t pool (Decide (core r)) ≡ false → enabled_in g t pool (Leave p) ≡ false → enabled_in g t pool (Save (core r)) ≡ true
        → IsFirstByIn 9 13 g t pool (Proc p) (Some (Save (core r)))
    save_first unready undecided stuck on =
        after_decide (Some (Save (core r))) unready undecided (joined (is_by g pool (Proc p)) g t pool 11 12 13 (Some (Save (core r))) (omega arith) (no_leave stuck) (an_own 12 (λ n. Save (core n)) (λ j n. refl) (λ j. refl) refl on))

    pub no_step : enabled_in g t pool (Arrive p) ≡ false → enabled_in g t pool (Decide (core r)) ≡ false → enabled_in g t pool (Leave p) ≡ false → enabled_in g t pool (Save (core r)) ≡ false → IsFirstByIn 9 13 g t pool (Proc p) None
    no_step unready undecided stuck off =
        after_decide None unready undecided (joined (is_by g pool (Proc p)) g t pool 11 12 13 None (omega arith) (no_leave stuck) (no_own 12 (λ n. Save (core n)) (λ j n. refl) (λ j. refl) off))

  -- of a processor that is not the first of its core
  module _ (rest : p.0 % g ≢ 0) where
    not_own : (k : ℕ) → ((j n : ℕ) → is_by g pool (Proc p) (action_at k j n) ≡ leads g j p.0) → IsFirstByIn k (suc k) g t pool (Proc p) None
    not_own k by = none_at (is_by g pool (Proc p)) g t pool k (λ j n own. absurd (not_led g j p.0 rest (sym (by j n) ∙ own)))

    not_low : is_lowest g pool p.0 ≡ false
    not_low = false_from_ne_true _ (λ low. let led = lowest_leads g p.0 (first_place 0 (λ c. true) pool.resources) low in not_led g led.0 p.0 rest led.1)

    pub sibling_blocks : enabled_in g t pool (Block p) ≡ true → IsFirstBy g t pool (Proc p) (Some (Block p))
    sibling_blocks on = of_all g t pool (Proc p) (Some (Block p)) (widened (is_by g pool (Proc p)) g t pool 4 9 13 (Block p) (omega arith) (block_first on))

    from_arrive : (o : Option Action) → enabled_in g t pool (Block p) ≡ false → IsFirstByIn 9 13 g t pool (Proc p) o → IsFirstBy g t pool (Proc p) o
    from_arrive o off others = of_all g t pool (Proc p) o (after_block 13 o off
        (joined (is_by g pool (Proc p)) g t pool 6 7 13 o (omega arith) (not_own 6 (λ j n. refl)) (joined (is_by g pool (Proc p)) g t pool 7 9 13 o (omega arith) (no_timers not_low) others)))

    from_leave : (o : Option Action) → enabled_in g t pool (Block p) ≡ false → enabled_in g t pool (Arrive p) ≡ false → IsFirstByIn 11 13 g t pool (Proc p) o → IsFirstBy g t pool (Proc p) o
    from_leave o off unready others = from_arrive o off (joined (is_by g pool (Proc p)) g t pool 9 10 13 o (omega arith) (no_arrive unready) (joined (is_by g pool (Proc p)) g t pool 10 11 13 o (omega arith) (not_own 10 (λ j n. refl)) others))

    pub sibling_arrives : enabled_in g t pool (Block p) ≡ false → enabled_in g t pool (Arrive p) ≡ true → IsFirstBy g t pool (Proc p) (Some (Arrive p))
    sibling_arrives off on = from_arrive (Some (Arrive p)) off (widened (is_by g pool (Proc p)) g t pool 9 10 13 (Arrive p) (omega arith) (an_arrive on))

    pub sibling_leaves : enabled_in g t pool (Block p) ≡ false → enabled_in g t pool (Arrive p) ≡ false → enabled_in g t pool (Leave p) ≡ true → IsFirstBy g t pool (Proc p) (Some (Leave p))
    sibling_leaves off unready on = from_leave (Some (Leave p)) off unready (widened (is_by g pool (Proc p)) g t pool 11 12 13 (Leave p) (omega arith) (a_leave on))

    pub sibling_rests : enabled_in g t pool (Block p) ≡ false → enabled_in g t pool (Arrive p) ≡ false → enabled_in g t pool (Leave p) ≡ false → IsFirstBy g t pool (Proc p) None
    sibling_rests off unready stuck = from_leave None off unready (joined (is_by g pool (Proc p)) g t pool 11 12 13 None (omega arith) (no_leave stuck) (not_own 12 (λ j n. refl)))

-- a domain does nothing but wakes
wakes_alone : (d : ℕ) (a : Action) → 5 ≤ kind_place a → is_by_domain d a ≡ true → ⊥
wakes_alone d (Wake v) from own = absurd (omega (arith, from))
wakes_alone d a from own = absurd (cc)

-- a vCPU that may wake is one of a domain's 32 at most
due_below : (t : ℕ) (guests : GuestsSeen) (v : VcpuId) → KeepsGuests guests → is_due_among t guests.domains v ≡ true → v.n < 32
due_below t guests v keeps due = by (vcpu_among guests.domains v) refl due
  where
    by : (o : Option Vcpu) → vcpu_among guests.domains v ≡ o → has_moment_come t (elim o as (λ _. Option Moment) [ None ↦ None | Some x ↦ x.asleep_until ]) ≡ true → v.n < 32
    by None is come = absurd (cc)
    by (Some x) is come = (vcpu_bounds guests v x keeps is).1

-- a vCPU of the domain
abbrev pub its : DomId → ℕ → VcpuId
its d n = record { dom = d; n = n }

-- of the first vCPUs of the domain none may wake, nor may the next one
pub one_more : (t : ℕ) (d : DomId) (guests : GuestsSeen) (n : ℕ) → is_due_among t guests.domains (its d n) ≡ false → ((k : ℕ) → k < n → is_due_among t guests.domains (its d k) ≡ false)
    → (k : ℕ) → k < n + 1 → is_due_among t guests.domains (its d k) ≡ false
one_more t d guests n off before k below = elim (cases_lt k n) [
  | inl less ↦ before k less
  | inr past ↦ subst (λ (m : ℕ). is_due_among t guests.domains (its d m) ≡ false) (omega (arith, past, below)) off
]

-- of a domain: its first vCPU that may wake
module _ (t : ℕ) (d : DomId) (guests : GuestsSeen) (cores : CoresSeen) (s : SchedulerSeen) where
  numbered : (i n : ℕ) → (i == d.0) ≡ true → action_at 4 i n ≡ Wake (its d n)
  numbered i n own = ap (λ (k : ℕ). Wake (record { dom = domain k; n = n })) (eqb-true i d.0 own)

  wakes : (n : ℕ) → enabled_in guests.granularity t (pool_of guests cores s) (Wake (its d n)) ≡ is_due_among t guests.domains (its d n)
  wakes n = ready guests.granularity t (pool_of guests cores s) (Wake (its d n))

  -- none of its vCPUs may wake
  pub sleeps : KeepsGuests guests → ((n : ℕ) → n < 32 → is_due_among t guests.domains (its d n) ≡ false) → IsFirstBy guests.granularity t (pool_of guests cores s) (Dom d) None
  sleeps keeps none =
      let pool : Pool = pool_of guests cores s in
      of_all guests.granularity t pool (Dom d) None (joined (is_by guests.granularity pool (Dom d)) guests.granularity t pool 4 5 13 None (omega arith)
      (none_at (is_by guests.granularity pool (Dom d)) guests.granularity t pool 4 (λ i n own. ap (enabled_in guests.granularity t pool) (numbered i n own) ∙ wakes n ∙ false_from_ne_true _ (λ due. clash _ due (none n (due_below t guests (its d n) keeps due)))))
      (λ action from below own. absurd (wakes_alone d.0 action from own)))

  -- the first that may
  pub wakes_first : (n : ℕ) → is_due_among t guests.domains (its d n) ≡ true → ((k : ℕ) → k < n → is_due_among t guests.domains (its d k) ≡ false) → IsFirstBy guests.granularity t (pool_of guests cores s) (Dom d) (Some (Wake (its d n)))
  wakes_first n due before =
      let pool : Pool = pool_of guests cores s in
      of_all guests.granularity t pool (Dom d) (Some (Wake (its d n))) (widened (is_by guests.granularity pool (Dom d)) guests.granularity t pool 4 5 13 (Wake (its d n)) (omega arith)
      (one_at (is_by guests.granularity pool (Dom d)) guests.granularity t pool 4 (Wake (its d n)) refl (eq-eqb d.0 d.0 refl) (wakes n ∙ due) (λ i k own on.
      let e = numbered i k own in
      subst (IsNotAfter (Wake (its d n))) (sym e) (after k (sym (wakes k) ∙ subst (λ (a : Action). enabled_in guests.granularity t pool a ≡ true) e on)))))
    where
      after : (k : ℕ) → is_due_among t guests.domains (its d k) ≡ true → IsNotAfter (Wake (its d n)) (Wake (its d k))
      after k on = record {
        by_kind = omega arith;
        then_by_subject = λ same. omega arith;
        then_by_index = λ same also. elim (cases_lt k n) [
          | inl less ↦ absurd (clash _ on (before k less))
          | inr past ↦ past
        ];
      }
