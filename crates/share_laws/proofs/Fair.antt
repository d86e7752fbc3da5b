-- What is kept of each state: the accounts of two units, of which the second never sleeps, and their times so far.
use Rattle.std.proofs.Common.{◌≡◌, ◌≢◌, ◌<◌, ◌≤◌, ◌+◌, ◌-◌, ◌*◌, ℕ, zero, suc, Bool, true, false, List, refl, arith, cond, subst, sym, ap, ◌∙◌, ◌⊎◌, inl, inr}
use Rattle.std.specs.Prelude.{Option, Some, None, option_map, max, int_lt}
use Rattle.sched_base.specs.Numbers.{has_moment_come}
use Rattle.sched_base.specs.declared.Moment.{Moment}
use Rattle.sched_base.specs.declared.UnitId.{UnitId}
use Rattle.sched_base.proofs.Bools.{and_left}
use Rattle.sched_model.specs.declared.action.Action.{Action}
use Rattle.sched_model.specs.declared.action.Action.TheVariants.{Decide, Refill}
use Rattle.sched_model.specs.declared.ask.Ask.{Ask}
use Rattle.sched_model.specs.declared.state.Credit2Domain.{Credit2Domain}
use Rattle.sched_model.specs.declared.state.Credit2Records.{Credit2Records}
use Rattle.sched_model.specs.declared.state.Credit2Unit.{Credit2Unit}
use Rattle.sched_model.specs.declared.state.Pool.{Pool}
use Rattle.sched_model.specs.declared.state.Records.{Records}
use Rattle.sched_model.specs.declared.state.Records.TheVariants.{Credit2Pool}
use Rattle.sched_model.specs.declared.state.Resource.{Resource}
use Rattle.sched_model.specs.declared.state.State.{State}
use Rattle.sched_model.specs.Actions.{change_pool}
use Rattle.sched_model.specs.Credit2.{credit2_decision, most_weight, own_burned_records, unit_credit}
use Rattle.sched_model.specs.EligibleUnits.{Decision}
use Rattle.sched_model.specs.Places.{at_place, change_at, is_unit}
use Rattle.sched_model.specs.Policy as policy
use Rattle.sched_model.specs.Policy.{decision_by, decision_of, unit_rtds_record}
use Rattle.sched_model.specs.Pool as pools
use Rattle.sched_model.specs.Pool.{after_decide, after_in, change_core, core_ask, decided_core, enabled_in, reconsidered_core, same_choice, settled_pool}
use Rattle.sched_model.proofs.PlaceLemmas.{at_place-change_at_other}
use Rattle.sched_laws.proofs.Choices.{is_unit_same}
use Rattle.sched_laws.proofs.EachPlace.{at_place-change_at, at_place-change_each, at_place-put_at, place_below, by_cond, by_test}
use Rattle.sched_laws.proofs.Events.{KeepsCore, KeptByParts, LikePlaces, commands_of, kept_by_parts, kept_settled, like_change_at, like_is, like_map}
use Rattle.sched_laws.proofs.OnePlace.{decided_cur}
use Rattle.service_laws.specs.Passing.{at_moment}
use Rattle.service_laws.specs.Service.{count_from, has_unit, time_until}
use Rattle.share_laws.specs.Shares.{longest_slice}
use Rattle.record_laws.proofs.Charges.{most_decided}
use Rattle.record_laws.proofs.Credit2Seen.{decided_limit}
use Rattle.share_laws.proofs.Decision.{MayBeChosen, PaysAll, PaysNoMore, all_charged, all_then, charged_records, chosen, due_then, is_kept, no_more_charged, no_more_then, not_poorer, records_then, resets, sees_then, then, uncut, unit_then}
use Rattle.share_laws.proofs.Numbers.{fair, more_time, paid_less, slice_more}
use Rattle.share_laws.proofs.Records.{Sees, sees_charged, sees_credit, sees_uncharged}
use Rattle.share_laws.proofs.Refills.{NoRefills, none_then, weight_most}

-- how many of some numbers pass a test that says the same of each
pub constant_count : (test : ℕ → Bool) (b : Bool) (from n : ℕ) → ((k : ℕ) → test k ≡ b) → count_from test from n ≡ cond b n 0
constant_count test true from zero same = refl
constant_count test false from zero same = refl
constant_count test true from (suc n) same = (let e = constant_count test true (suc from) n same in let f : ◌≡◌ {A = ℕ} (cond (test from) 1 0) 1 = ap (λ b. cond b 1 0) (same from) in omega (arith, e, f))
constant_count test false from (suc n) same = (let e = constant_count test false (suc from) n same in let f : ◌≡◌ {A = ℕ} (cond (test from) 1 0) 0 = ap (λ b. cond b 1 0) (same from) in omega (arith, e, f))

-- the unit runs since the last decision, or not at all
abbrev pub since_last : Bool → ℕ → Option ℕ
since_last runs last = cond runs (Some last) None

record Charged (cur : Option UnitId) (t : ℕ) (records : Credit2Records) (u : UnitId) (w : ℕ) (y : Credit2Unit) : Type 0 where
  sees : Sees (own_burned_records cur t records) u w y
  runs : ((cur ≡ Some u) × (y.burned ≡ Some t)) ⊎ (y.burned ≡ None)

not_own : (cur : Option UnitId) (u : UnitId) → is_unit cur u ≡ false → cur ≡ Some u → ⊥
not_own cur u none is = (let e : is_unit (Some u) u ≡ false = subst (λ (o : Option UnitId). is_unit o u ≡ false) is none in clash_own u e)
  where
    clash_own : (u : UnitId) → is_unit (Some u) u ≡ false → ⊥
    clash_own u e = grind (arith, e)

-- the accounts at a decision, where the core's own unit was charged
charge_all : (cur : Option UnitId) (t last : ℕ) (records : Credit2Records) (u : UnitId) (w most given ran n : ℕ) (x : Credit2Unit) → 0 < w → most_weight records ≡ most → Sees records u w x → x.burned ≡ since_last (is_unit cur u) last → n ≡ ran + cond (is_unit cur u) (t - last) 0 → PaysAll most given w ran x
    → (y : Credit2Unit) × Charged cur t records u w y × PaysAll most given w n y
charge_all cur t last records u w most given ran n x some heavy here runs time pays = by_unit (is_unit cur u) refl runs time
  where
    by_unit : (b : Bool) → is_unit cur u ≡ b → x.burned ≡ since_last b last → n ≡ ran + cond b (t - last) 0 → (y : Credit2Unit) × Charged cur t records u w y × PaysAll most given w n y
    by_unit true is runs time =
        let own : cur ≡ Some u = is_unit_same cur u is in
        let r = sees_charged t last records u w x runs here in
        let paid = all_charged (most_weight records) given w ran t last x r.0 some r.2 (subst (λ k. PaysAll k given w ran x) (sym heavy) pays) in (
          r.0,
          record { sees = subst (λ (o : Option UnitId). Sees (own_burned_records o t records) u w r.0) (sym own) r.1; runs = inl (own, r.2.burned) },
          subst (λ k. PaysAll most given w k r.0) (sym time) (subst (λ k. PaysAll k given w (ran + (t - last)) r.0) heavy paid),
        )
    by_unit false is runs time =
        (x, record { sees = sees_uncharged cur t records u w x (not_own cur u is) here; runs = inr runs }, subst (λ k. PaysAll most given w k x) (let e : ran ≡ n = omega (arith, time) in e) pays)

charge_no_more : (cur : Option UnitId) (t last : ℕ) (records : Credit2Records) (u : UnitId) (w most given ran n : ℕ) (x : Credit2Unit) → 0 < w → most_weight records ≡ most → Sees records u w x → x.burned ≡ since_last (is_unit cur u) last → n ≡ ran + cond (is_unit cur u) (t - last) 0 → PaysNoMore most given w ran x
    → (y : Credit2Unit) × Charged cur t records u w y × PaysNoMore most given w n y
charge_no_more cur t last records u w most given ran n x some heavy here runs time pays = by_unit (is_unit cur u) refl runs time
  where
    by_unit : (b : Bool) → is_unit cur u ≡ b → x.burned ≡ since_last b last → n ≡ ran + cond b (t - last) 0 → (y : Credit2Unit) × Charged cur t records u w y × PaysNoMore most given w n y
    by_unit true is runs time =
        let own : cur ≡ Some u = is_unit_same cur u is in
        let r = sees_charged t last records u w x runs here in
        let paid = no_more_charged (most_weight records) given w ran t last x r.0 some r.2 (subst (λ k. PaysNoMore k given w ran x) (sym heavy) pays) in (
          r.0,
          record { sees = subst (λ (o : Option UnitId). Sees (own_burned_records o t records) u w r.0) (sym own) r.1; runs = inl (own, r.2.burned) },
          subst (λ k. PaysNoMore most given w k r.0) (sym time) (subst (λ k. PaysNoMore k given w (ran + (t - last)) r.0) heavy paid),
        )
    by_unit false is runs time =
        (x, record { sees = sees_uncharged cur t records u w x (not_own cur u is) here; runs = inr runs }, subst (λ k. PaysNoMore most given w k x) (let e : ran ≡ n = omega (arith, time) in e) pays)

module _ (i r rate most : ℕ) (u v : UnitId) (wu wv : ℕ) where
  -- the times so far are nu and nv
  pub record Fair (nu nv : ℕ) (s : State) : Type 0 where
    pub pool : Pool
    pub at : at_place s.pools i ≡ Some pool
    pub core : Resource
    pub has : at_place pool.resources r ≡ Some core
    pub books : Credit2Records
    pub is : pool.scheduler.records ≡ Credit2Pool books
    pub unfilled : NoRefills books
    pub limit : books.limit ≡ rate
    pub heavy : most_weight books ≡ most
    pub given : ℕ
    pub last : ℕ
    pub past : last ≤ s.now
    pub unit_u : Credit2Unit
    pub sees_u : Sees books u wu unit_u
    pub ran_u : ℕ
    pub time_u : nu ≡ ran_u + cond (is_unit core.cur u) (s.now - last) 0
    pub runs_u : unit_u.burned ≡ since_last (is_unit core.cur u) last
    pub all : PaysAll most given wu ran_u unit_u
    pub unit_v : Credit2Unit
    pub sees_v : Sees books v wv unit_v
    pub ran_v : ℕ
    pub time_v : nv ≡ ran_v + cond (is_unit core.cur v) (s.now - last) 0
    pub runs_v : unit_v.burned ≡ since_last (is_unit core.cur v) last
    pub no_more : PaysNoMore most given wv ran_v unit_v
    pub turn : is_unit core.cur u ≡ true → (ran_u * wv ≤ ran_v * wu + wv) × (due : Moment) × (core.due ≡ Some due) × (due.0 ≤ last + longest_slice rate)
    pub bound : nu * wv ≤ nv * wu + (longest_slice rate + 1) * wv

  -- the core keeps its unit and its due, and the scheduler its records
  record Still (cur : Option UnitId) (due : Option Moment) (records : Records) (pool : Pool) : Type 0 where
    core : Resource
    has : at_place pool.resources r ≡ Some core
    cur_is : core.cur ≡ cur
    due_is : core.due ≡ due
    records_are : pool.scheduler.records ≡ records

  fair_still : (nu nv : ℕ) (s : State) (places : List (Option Pool)) (here : Fair nu nv s) (next : Pool) → at_place places i ≡ Some next → Still here.core.cur here.core.due (Credit2Pool here.books) next → Fair nu nv (record s { pools = places })
  fair_still nu nv s places here next at still = record {
    pool = next;
    at = at;
    core = still.core;
    has = still.has;
    books = here.books;
    is = still.records_are;
    unfilled = here.unfilled;
    limit = here.limit;
    heavy = here.heavy;
    given = here.given;
    last = here.last;
    past = here.past;
    unit_u = here.unit_u;
    sees_u = here.sees_u;
    ran_u = here.ran_u;
    time_u = subst (λ (o : Option UnitId). nu ≡ here.ran_u + cond (is_unit o u) (s.now - here.last) 0) (sym still.cur_is) here.time_u;
    runs_u = subst (λ (o : Option UnitId). here.unit_u.burned ≡ since_last (is_unit o u) here.last) (sym still.cur_is) here.runs_u;
    all = here.all;
    unit_v = here.unit_v;
    sees_v = here.sees_v;
    ran_v = here.ran_v;
    time_v = subst (λ (o : Option UnitId). nv ≡ here.ran_v + cond (is_unit o v) (s.now - here.last) 0) (sym still.cur_is) here.time_v;
    runs_v = subst (λ (o : Option UnitId). here.unit_v.burned ≡ since_last (is_unit o v) here.last) (sym still.cur_is) here.runs_v;
    no_more = here.no_more;
    turn = λ on. (
        let t = here.turn (sym (ap (λ (o : Option UnitId). is_unit o u) still.cur_is) ∙ on) in
        (t.0, t.1, still.due_is ∙ t.2, t.3));
    bound = here.bound;
  }

  -- another pool changes
  pub fair_elsewhere : (nu nv : ℕ) (s : State) (j : ℕ) (f : Pool → Pool) → i ≢ j → Fair nu nv s → Fair nu nv (change_pool j f s)
  fair_elsewhere nu nv s j f other here =
      fair_still nu nv s (change_at j f s.pools) here here.pool (at_place-change_at_other j i f s.pools other ∙ here.at) (record { core = here.core; has = here.has; cur_is = refl; due_is = refl; records_are = here.is })

  -- an event that is no decision, and no refill
  abbrev Calm : Pool → Action → Type 0
  Calm pool (Decide q) = ⊥
  Calm pool (Refill d) = ⊥
  Calm pool _ = Unit {0}

  abbrev SameTurn : Resource → Resource → Type 0
  SameTurn c d = (d.cur ≡ c.cur) × (d.due ≡ c.due)

  module _ (cur : Option UnitId) (due : Option Moment) (books : Credit2Records) where
    abbrev Q : Pool → Type 0
    Q = Still cur due (Credit2Pool books)

    still_cores : (cores : List (Option Resource)) (pool : Pool) → LikePlaces SameTurn pool.resources cores → Q pool → Q (record pool { resources = cores })
    still_cores cores pool like here =
        let x = like_is SameTurn pool.resources cores r here.core like here.has in
        record { core = x.0; has = x.1; cur_is = x.2.0 ∙ here.cur_is; due_is = x.2.1 ∙ here.due_is; records_are = here.records_are }

    still_core : (q : ℕ) (f : Resource → Resource) (pool : Pool) → ((c : Resource) → SameTurn c (f c)) → Q pool → Q (change_core q f pool)
    still_core q f pool same = still_cores (change_at q f pool.resources) pool (like_change_at SameTurn q f pool.resources (λ c. (refl, refl)) (λ c at. same c))

    still_parts : (g t : ℕ) → KeptByParts g t Calm Q
    still_parts g t = record {
      cores = λ cores pool like. still_cores cores pool (like_map KeepsCore SameTurn pool.resources cores (λ c d keeps. (keeps.cur, keeps.due)) like);
      domains = λ d f pool count moving here. record { core = here.core; has = here.has; cur_is = here.cur_is; due_is = here.due_is; records_are = here.records_are };
      queues = λ q pool runs here. record { core = here.core; has = here.has; cur_is = here.cur_is; due_is = here.due_is; records_are = here.records_are };
      dequeues = λ d pool here. record { core = here.core; has = here.has; cur_is = here.cur_is; due_is = here.due_is; records_are = here.records_are };
      decides = λ q c pool at no here. absurd no;
      saves = λ q c w pool at is on. still_core q pools.saved_core pool (λ x. (refl, refl));
      replenishes = λ w pool on here. record { core = here.core; has = here.has; cur_is = here.cur_is; due_is = here.due_is; records_are = ap (λ (rs : Records). policy.records_after_replenish rs t w) here.records_are };
      dues = λ q w x old pool on is here. absurd (let e : None ≡ Some x = sym (ap (λ (rs : Records). unit_rtds_record rs w) here.records_are) ∙ is in cc);
      refills = λ d pool no here. absurd no;
    }

    still_after : (g t : ℕ) (pool : Pool) (action : Action) → Calm pool action → Q pool → Q (settled_pool t (after_in g t pool action))
    still_after g t pool action calm here = kept_settled (commands_of (still_parts g t)) t (after_in g t pool action) (kept_by_parts (still_parts g t) pool action calm here)

  -- an event of the pool that is no decision
  pub fair_event : (nu nv g : ℕ) (s : State) (action : Action) (here : Fair nu nv s) → Calm here.pool action → Fair nu nv (change_pool i (λ pool. settled_pool s.now (after_in g s.now pool action)) s)
  fair_event nu nv g s action here calm =
      let f : Pool → Pool = λ pool. settled_pool s.now (after_in g s.now pool action) in
      fair_still nu nv s (change_at i f s.pools) here (f here.pool) (at_place-change_at i f s.pools ∙ ap (option_map f) here.at)
      (still_after here.core.cur here.core.due here.books g s.now here.pool action calm (record { core = here.core; has = here.has; cur_is = refl; due_is = refl; records_are = here.is }))

  -- the pool is never refilled
  pub no_refill : (nu nv g : ℕ) (s : State) (d : ℕ) (here : Fair nu nv s) → enabled_in g s.now here.pool (Refill (record { 0 = d })) ≡ true → ⊥
  no_refill nu nv g s d here on =
      let come : has_moment_come s.now (policy.next_refill_moment (Credit2Pool here.books) d) ≡ true = subst (λ (rs : Records). has_moment_come s.now (policy.next_refill_moment rs d) ≡ true) here.is (and_left _ _ on) in
      by_domain (at_place here.books.domains d) refl come
    where
      by_refill : (o : Option ℕ) → o ≡ None → has_moment_come s.now (option_map (λ n. record { 0 = n }) o) ≡ true → ⊥
      by_refill None is come = cc
      by_refill (Some n) is come = cc

      by_domain : (o : Option Credit2Domain) → at_place here.books.domains d ≡ o → has_moment_come s.now (elim o as (λ _. Option Moment) [ None ↦ None | Some x ↦ option_map (λ n. record { 0 = n }) x.refill ]) ≡ true → ⊥
      by_domain None at come = cc
      by_domain (Some x) at come = by_refill x.refill (here.unfilled d x at) come

  -- a decision of the core
  module _ (some_u : 0 < wu) (some_v : 0 < wv) (nu nv g : ℕ) (s : State) (here : Fair nu nv s) where
    abbrev ask : Ask
    ask = core_ask g s.now here.pool r here.core

    abbrev pick : Option UnitId
    pick = chosen ask here.pool.scheduler here.books

    module _ (stays : here.core.leaving ≡ false) (unkept : is_kept ask here.pool.scheduler here.books ≡ false) (may : MayBeChosen ask here.pool.scheduler here.books v) where
      decision_is : decision_of ask here.pool.scheduler ≡ credit2_decision ask here.pool.scheduler here.books
      decision_is = ap (λ (rs : Records). decision_by rs ask here.pool.scheduler) here.is

      charged_u : (y : Credit2Unit) × Charged here.core.cur s.now here.books u wu y × PaysAll most here.given wu nu y
      charged_u = charge_all here.core.cur s.now here.last here.books u wu most here.given here.ran_u nu here.unit_u some_u here.heavy here.sees_u here.runs_u here.time_u here.all

      charged_v : (y : Credit2Unit) × Charged here.core.cur s.now here.books v wv y × PaysNoMore most here.given wv nv y
      charged_v = charge_no_more here.core.cur s.now here.last here.books v wv most here.given here.ran_v nv here.unit_v some_v here.heavy here.sees_v here.runs_v here.time_v here.no_more

      credit_v : unit_credit (charged_records ask here.pool.scheduler here.books) v ≡ charged_v.0.credit
      credit_v = sees_credit (own_burned_records here.core.cur s.now here.books) v wv charged_v.0 charged_v.1.sees

      credit_u : unit_credit (charged_records ask here.pool.scheduler here.books) u ≡ charged_u.0.credit
      credit_u = sees_credit (own_burned_records here.core.cur s.now here.books) u wu charged_u.0 charged_u.1.sees

      richest : (z : UnitId) → pick ≡ Some z → int_lt (unit_credit (charged_records ask here.pool.scheduler here.books) z) (unit_credit (charged_records ask here.pool.scheduler here.books) v) ≡ false
      richest z is = not_poorer ask here.pool.scheduler here.books z v wv charged_v.0 stays unkept is may charged_v.1.sees

      -- where the first unit is chosen, it paid no more than the other one
      own_turn : pick ≡ Some u → nu * wv ≤ nv * wu + wv
      own_turn is =
          let less = subst (λ a. int_lt a charged_v.0.credit ≡ false) credit_u (subst (λ b. int_lt (unit_credit (charged_records ask here.pool.scheduler here.books) u) b ≡ false) credit_v (richest u is)) in
          let paid = paid_less charged_u.0.credit charged_v.0.credit here.given charged_u.2.paid charged_v.2.paid charged_u.2.has charged_v.2.has less in
          let weight = weight_most here.books u.dom.0 here.sees_u.domain here.sees_u.at in
          let heavy = here.heavy in
          let own_weight = here.sees_u.weight in
          let low : wu ≤ most = omega (arith, weight, heavy, own_weight) in
          fair most wu wv charged_u.2.paid charged_v.2.paid charged_u.0.residual charged_v.0.residual nu nv (omega (arith, low, some_u)) low charged_u.2.low paid charged_u.2.least charged_v.2.most_paid

      not_cut : (resets ask here.pool.scheduler here.books pick ≡ 0) ⊎ (here.given + resets ask here.pool.scheduler here.books pick * 10000000 ≤ charged_v.2.paid + 10500000)
      not_cut = uncut ask here.pool.scheduler here.books pick v here.given charged_v.2.paid (credit_v ∙ charged_v.2.has) richest

      pub fair_decided : Fair nu nv (change_pool i (λ pool. settled_pool s.now (after_decide g s.now r here.core here.pool)) s)
      fair_decided =
          let d : Decision = decision_of (core_ask g s.now here.pool r here.core) here.pool.scheduler in
          let decided : Resource = decided_core s.now d here.core in
          let after : Pool = after_decide g s.now r here.core here.pool in
          let look : ℕ → Resource → Resource = reconsidered_core s.now (pools.pool_core_set after) after.scheduler in
          let f : Pool → Pool = λ pool. settled_pool s.now after in
          let cur : (look (0 + r) decided).cur ≡ pick =
          by_cond (λ (c : Resource). c.cur ≡ decided.cur) decided.leaving decided _ (λ is. refl) (λ is. refl) ∙ decided_cur s.now d here.core ∙ ap (λ (x : Decision). x.unit) decision_is ∙ unit_then ask here.pool.scheduler here.books in
          let due : (look (0 + r) decided).due ≡ (credit2_decision ask here.pool.scheduler here.books).due =
          by_cond (λ (c : Resource). c.due ≡ decided.due) decided.leaving decided _ (λ is. refl) (λ is. refl)
          ∙ by_test (λ (c : Resource). c.due ≡ d.due) (same_choice d.unit here.core.cur) _ _ (λ is. refl) (λ is. refl) ∙ ap (λ (x : Decision). x.due) decision_is in
          let au = sees_then ask here.pool.scheduler here.books pick u wu charged_u.0 charged_u.2.low charged_u.1.runs charged_u.1.sees in
          let av = sees_then ask here.pool.scheduler here.books pick v wv charged_v.0 charged_v.2.low charged_v.1.runs charged_v.1.sees in
          let stop : (b : Bool) (n : ℕ) → n ≡ n + cond b (s.now - s.now) 0 = none_more s.now in
          record {
            pool = settled_pool s.now after;
            at = at_place-change_at i f s.pools ∙ ap (option_map f) here.at;
            core = look (0 + r) decided;
            has = at_place-change_each 0 r look after.resources ∙ ap (option_map (look (0 + r))) (at_place-put_at r decided here.pool.resources (place_below here.pool.resources r here.core here.has));
            books = then ask here.pool.scheduler here.books pick;
            is = ap (λ (x : Decision). x.records) decision_is ∙ records_then ask here.pool.scheduler here.books;
            unfilled = none_then ask here.books pick here.unfilled;
            limit = decided_limit ask here.books pick ∙ here.limit;
            heavy = most_decided ask here.books pick ∙ here.heavy;
            given = here.given + resets ask here.pool.scheduler here.books pick * 10000000;
            last = s.now;
            past = omega arith;
            unit_u = au.0;
            sees_u = au.1;
            ran_u = nu;
            time_u = stop (is_unit (look (0 + r) decided).cur u) nu;
            runs_u = au.3 ∙ ap (λ (o : Option UnitId). since_last (is_unit o u) s.now) (sym cur);
            all = all_then ask here.pool.scheduler here.books pick most here.given wu nu charged_u.0 au.0 au.2 charged_u.2;
            unit_v = av.0;
            sees_v = av.1;
            ran_v = nv;
            time_v = stop (is_unit (look (0 + r) decided).cur v) nv;
            runs_v = av.3 ∙ ap (λ (o : Option UnitId). since_last (is_unit o v) s.now) (sym cur);
            no_more = no_more_then ask here.pool.scheduler here.books pick most here.given wv nv charged_v.0 av.0 charged_v.2 not_cut av.2;
            turn = λ on. (
                let is : pick ≡ Some u = sym cur ∙ is_unit_same (look (0 + r) decided).cur u on in
                let x = due_then ask here.pool.scheduler here.books u is in
                (own_turn is, x.0, due ∙ x.1, subst (λ k. x.0.0 ≤ s.now + max 10000000 (k * 1000)) here.limit x.2));
            bound = here.bound;
          }
        where
          none_more : (now : ℕ) (b : Bool) (n : ℕ) → n ≡ n + cond b (now - now) 0
          none_more now true n = omega arith
          none_more now false n = omega arith

  -- nanoseconds pass
  passed : (nu nv : ℕ) (s : State) (here : Fair nu nv s) (w : UnitId) (next : ℕ) → time_until (has_unit i r w) s (Some next) ≡ cond (is_unit here.core.cur w) (next - s.now) 0
  passed nu nv s here w next =
      constant_count (λ k. has_unit i r w (at_moment k s)) (is_unit here.core.cur w) s.now (next - s.now)
      (λ k. ap (λ (o : Option Pool). elim o as (λ _. Bool) [ None ↦ false | Some pool ↦ elim (at_place pool.resources r) as (λ _. Bool) [ None ↦ false | Some c ↦ is_unit c.cur w ] ]) here.at
      ∙ ap (λ (o : Option Resource). elim o as (λ _. Bool) [ None ↦ false | Some c ↦ is_unit c.cur w ]) here.has)

  later_time : (b : Bool) (n ran now last next x : ℕ) → x ≡ cond b (next - now) 0 → last ≤ now → now ≤ next → n ≡ ran + cond b (now - last) 0 → n + x ≡ ran + cond b (next - last) 0
  later_time true n ran now last next x is past more time = omega (arith, is, past, more, time)
  later_time false n ran now last next x is past more time = omega (arith, is, time)

  pub fair_later : (nu nv : ℕ) (s : State) (here : Fair nu nv s) (next : ℕ) → s.now ≤ next → ((due : Moment) → here.core.due ≡ Some due → next ≤ due.0) → Fair (nu + time_until (has_unit i r u) s (Some next)) (nv + time_until (has_unit i r v) s (Some next)) (record s { now = next })
  fair_later nu nv s here next more before =
      let xu : ℕ = time_until (has_unit i r u) s (Some next) in
      let xv : ℕ = time_until (has_unit i r v) s (Some next) in
      let tu : nu + xu ≡ here.ran_u + cond (is_unit here.core.cur u) (next - here.last) 0 = later_time (is_unit here.core.cur u) nu here.ran_u s.now here.last next xu (passed nu nv s here u next) here.past more here.time_u in
      let tv : nv + xv ≡ here.ran_v + cond (is_unit here.core.cur v) (next - here.last) 0 = later_time (is_unit here.core.cur v) nv here.ran_v s.now here.last next xv (passed nu nv s here v next) here.past more here.time_v in
      record {
        pool = here.pool;
        at = here.at;
        core = here.core;
        has = here.has;
        books = here.books;
        is = here.is;
        unfilled = here.unfilled;
        limit = here.limit;
        heavy = here.heavy;
        given = here.given;
        last = here.last;
        past = (let p = here.past in omega (arith, p, more));
        unit_u = here.unit_u;
        sees_u = here.sees_u;
        ran_u = here.ran_u;
        time_u = tu;
        runs_u = here.runs_u;
        all = here.all;
        unit_v = here.unit_v;
        sees_v = here.sees_v;
        ran_v = here.ran_v;
        time_v = tv;
        runs_v = here.runs_v;
        no_more = here.no_more;
        turn = here.turn;
        bound = by_unit (is_unit here.core.cur u) refl tu tv;
      }
    where
      by_unit : (b : Bool) → is_unit here.core.cur u ≡ b → nu + time_until (has_unit i r u) s (Some next) ≡ here.ran_u + cond b (next - here.last) 0 → nv + time_until (has_unit i r v) s (Some next) ≡ here.ran_v + cond (is_unit here.core.cur v) (next - here.last) 0
          → (nu + time_until (has_unit i r u) s (Some next)) * wv ≤ (nv + time_until (has_unit i r v) s (Some next)) * wu + (longest_slice rate + 1) * wv
      by_unit true is tu tv =
          let turn = here.turn is in
          let low : next - here.last ≤ longest_slice rate = slice_low next here.last turn.1.0 (longest_slice rate) (before turn.1 turn.2) turn.3 in
          let a = slice_more wu wv here.ran_u here.ran_v (next - here.last) (longest_slice rate) turn.0 low in
          let b = more_time wu wv (here.ran_u + (next - here.last)) here.ran_v (cond (is_unit here.core.cur v) (next - here.last) 0) (longest_slice rate) a in
          subst (λ k. k * wv ≤ (nv + time_until (has_unit i r v) s (Some next)) * wu + (longest_slice rate + 1) * wv) (sym tu)
          (subst (λ k. (here.ran_u + (next - here.last)) * wv ≤ k * wu + (longest_slice rate + 1) * wv) (sym tv) b)
        where
          slice_low : (next last due slice : ℕ) → next ≤ due → due ≤ last + slice → next - last ≤ slice
          slice_low next last due slice a b = omega (arith, a, b)
      by_unit false is tu tv =
          let none : time_until (has_unit i r u) s (Some next) ≡ 0 = passed nu nv s here u next ∙ ap (λ b. cond b (next - s.now) 0) is in
          let a = more_time wu wv nu nv (time_until (has_unit i r v) s (Some next)) (longest_slice rate) here.bound in
          subst (λ k. (nu + k) * wv ≤ (nv + time_until (has_unit i r v) s (Some next)) * wu + (longest_slice rate + 1) * wv) (sym none)
          (subst (λ k. k * wv ≤ (nv + time_until (has_unit i r v) s (Some next)) * wu + (longest_slice rate + 1) * wv) (plus_none nu) a)
        where
          plus_none : (n : ℕ) → n ≡ n + 0
          plus_none n = omega arith
