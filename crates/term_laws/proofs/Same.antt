-- The events of a pool that leave one domain of it, or one unit, as it is: the cores that have units of the domain, their dues, and what is read of the records.
use Rattle.sched_base.specs.Numbers.{core, domain, moment}
use Rattle.std.proofs.Common.{◌≡◌, ◌≢◌, ℕ, zero, suc, true, false, List, [], ◌∷◌, refl, arith, ap, sym, ◌∙◌, cond}
use Rattle.std.specs.Prelude.{Option, Some, None, Bool, slice_get, slice_set, ◌==◌}
use Rattle.sched_base.specs.declared.DomId.{DomId}
use Rattle.sched_base.specs.declared.Moment.{Moment}
use Rattle.sched_base.specs.declared.UnitId.{UnitId}
use Rattle.sched_model.specs.declared.action.Action.{Action}
use Rattle.sched_model.specs.declared.action.Action.TheVariants.{DomMoved, Xl, Repl, Refill, Decide}
use Rattle.sched_model.specs.declared.config.ParamChange.{ParamChange}
use Rattle.sched_model.specs.declared.config.ParamChange.TheVariants as changes
use Rattle.sched_model.specs.declared.config.SchedKind.TheVariants as kinds
use Rattle.sched_model.specs.declared.machine.Machine.{Machine}
use Rattle.sched_model.specs.declared.plan.Plan.{Plan}
use Rattle.sched_model.specs.declared.plan.Plan.TheVariants as plan
use Rattle.sched_model.specs.declared.work.CommandLine.{CommandLine}
use Rattle.sched_model.specs.declared.state.Domain.{Domain}
use Rattle.sched_model.specs.declared.state.Resource.{Resource}
use Rattle.sched_model.specs.declared.state.State.{State}
use Rattle.sched_model.specs.declared.state.Pool.{Pool}
use Rattle.sched_model.specs.declared.state.Scheduler.{Scheduler}
use Rattle.sched_model.specs.declared.state.Records.{Records}
use Rattle.sched_model.specs.declared.state.RtdsUnit.{RtdsUnit}
use Rattle.sched_model.specs.Commands.{is_same_kind}
use Rattle.sched_model.specs.Places.{at_place, put_at, change_each, test_at, numbers_from}
use Rattle.sched_model.specs.Policy as policy
use Rattle.sched_model.specs.Policy.{records_kind, unit_rtds_record}
use Rattle.sched_model.specs.Opening.{joined_core}
use Rattle.sched_model.specs.Pool as pools
use Rattle.sched_model.specs.Pool.{settled_pool, change_core, change_domain, changed_pool, pending_core, is_domain_unit, pool_with_domain, pool_without_domain, domain_unit_count}
use Rattle.sched_model.specs.Machine.{after, after_dom_moved, line_verdict, is_action_enabled}
use Rattle.sched_laws.proofs.EachPlace.{by_cond}
use Rattle.sched_laws.proofs.Events.{LikePlace, LikePlaces, like_look, like_change_at, like_change_each, like_map, KeepsCore, KeptByCommands, KeptByParts, commands_of, kept_settled, kept_by_parts, kept_processor, kept_set_leaving, kept_withdrawn, kept_pause, kept_unpause, kept_queue_units}
use Rattle.sched_laws.proofs.Kept.{IsApart}
use Rattle.sched_laws.proofs.Lists.{test_at-change_at}
use Rattle.term_laws.proofs.AtPlaces.{at_place-set_other}
use Rattle.term_laws.proofs.AtHome.{HoldsAt, KeptAtHome, IsNoDom, at_after, at_dom_moved, IfOk}
use Rattle.term_laws.proofs.CapTracks.{number_in}

-- the unit of a core, and its due
abbrev pub cur_in : Option Resource → Option UnitId
cur_in None = None
cur_in (Some c) = c.cur

abbrev pub due_in : Option Resource → Option Moment
due_in None = None
due_in (Some c) = c.due

-- what is followed of a domain's records: where they are there, when two are alike, and what leaves them alike
pub record Followed (d : ℕ) (Has : Records → Type 0) (Like : Records → Records → Type 0) (Refills : ℕ → Type 0) (Renews : Type 0) (Sets : ℕ → Option ℕ → Type 0) : Type 0 where
  pub itself : (a : Records) → Like a a
  pub joined : (a b c : Records) → Like a b → Like b c → Like a c
  pub has : (a b : Records) → Like a b → Has a → Has b
  -- another domain parts or joins
  pub parts : (e : ℕ) → e ≢ d → (a : Records) → Like a (policy.parted_records a e)
  pub joins : (e count t : ℕ) → e ≢ d → (a : Records) → Like a (policy.joined_records a (policy.standard_dom_params a) e count t)
  -- a refill and a replenishment that may come
  pub refills : (t e : ℕ) → Refills e → (a : Records) → Like a (policy.records_after_refill a t e)
  pub renews : (t : ℕ) (u : UnitId) → Renews → (a : Records) → Like a (policy.records_after_replenish a t u)
  pub no_dues : (u : UnitId) (x : RtdsUnit) → Renews → (a : Records) → unit_rtds_record a u ≡ Some x → Has a → ⊥
  -- a change of parameters, and a setting of a weight or a cap that may come
  pub changes_it : (change : ParamChange) (t : ℕ) → IsNoDom change → (a : Records) → Like a (policy.changed_records a change t)
  pub sets : (e : DomId) (weight limit : Option ℕ) (t : ℕ) → Sets e.0 limit → (a : Records) → is_same_kind kinds.Credit2 (records_kind a) ≡ true → Like a (policy.changed_records a (changes.Dom e weight limit) t)
  pub marks : (e n : ℕ) → Sets e (Some n) → (a : Records) → is_same_kind kinds.Credit2 (records_kind a) ≡ true → Has a → e ≢ d

-- a plan that may come
abbrev pub PlanLeaves : (ℕ → Option ℕ → Type 0) → Plan → Type 0
PlanLeaves Sets (plan.Credit2Dom e weight limit answer) = Sets e.0 limit
PlanLeaves Sets _ = Unit {0}

-- another domain's place is written
there_other : (d e : ℕ) → e ≢ d → (o : Option Domain) (domains : List (Option Domain)) → test_at (slice_set domains e o) d (λ x. true) ≡ test_at domains d (λ x. true)
there_other d e other o domains = ap (λ (x : Option Domain). elim x as (λ _. Bool) [ None ↦ false | Some y ↦ true ]) (at_place-set_other e d o domains other)

-- a core that has a unit of another domain
of_other : (d e : ℕ) (cur : Option UnitId) (n : ℕ) → e ≢ d → is_domain_unit e cur ≡ true → number_in d cur ≡ Some n → ⊥
of_other d e None n other is here = cc
of_other d e (Some u) n other is here = go (u.dom.0 == d) refl here
  where
    go : (b : Bool) → (u.dom.0 == d) ≡ b → cond b (Some u.n) None ≡ Some n → ⊥
    go true same h = other (grind (arith, is, same))
    go false same h = cc

module _ (d : ℕ) (Has : Records → Type 0) (Like : Records → Records → Type 0) where
  -- the core has the same unit, and the same due where that is one of the domain
  pub record SameCore (o o2 : Option Resource) : Type 0 where
    pub cur : cur_in o2 ≡ cur_in o
    pub due : (n : ℕ) → number_in d (cur_in o) ≡ Some n → due_in o2 ≡ due_in o

  pub core_refl : (o : Option Resource) → SameCore o o
  core_refl o = record { cur = refl; due = λ n is. refl }

  -- the second pool is as the first one, for what is followed
  pub record Same (p q : Pool) : Type 0 where
    pub curs : (r : ℕ) → cur_in (at_place q.resources r) ≡ cur_in (at_place p.resources r)
    pub dues : Has p.scheduler.records → (r n : ℕ) → number_in d (cur_in (at_place p.resources r)) ≡ Some n → due_in (at_place q.resources r) ≡ due_in (at_place p.resources r)
    pub records : Like p.scheduler.records q.scheduler.records
    pub there : test_at q.domains d (λ x. true) ≡ test_at p.domains d (λ x. true)

  pub same_of : (p q : Pool) → ((r : ℕ) → SameCore (at_place p.resources r) (at_place q.resources r)) → Like p.scheduler.records q.scheduler.records → test_at q.domains d (λ x. true) ≡ test_at p.domains d (λ x. true) → Same p q
  same_of p q cores records there = record { curs = λ r. (cores r).cur; dues = λ has r n is. (cores r).due n is; records = records; there = there }

  -- cores that have the same units and dues
  abbrev SameCores : Resource → Resource → Type 0
  SameCores c e = SameCore (Some c) (Some e)

  -- a core without a unit comes to an empty place, or goes
  core_set : (r : ℕ) (o : Option Resource) (cores : List (Option Resource)) → cur_in o ≡ None → cur_in (at_place cores r) ≡ None → (n : ℕ) → SameCore (at_place cores n) (at_place (slice_set cores r o) n)
  core_set zero o [] new old n = core_refl None
  core_set (suc r) o [] new old n = core_refl None
  core_set zero o (p ∷ cores) new old zero = record { cur = new ∙ sym old; due = λ n is. absurd (let e : None ≡ Some n = sym (ap (number_in d) old) ∙ is in cc) }
  core_set zero o (p ∷ cores) new old (suc n) = core_refl (at_place cores n)
  core_set (suc r) o (p ∷ cores) new old zero = core_refl p
  core_set (suc r) o (p ∷ cores) new old (suc n) = core_set r o cores new old n

  module _ {Refills : ℕ → Type 0} {Renews : Type 0} {Sets : ℕ → Option ℕ → Type 0} (followed : Followed d Has Like Refills Renews Sets) where
    pub same_refl : (p : Pool) → Same p p
    same_refl p = same_of p p (λ r. core_refl (at_place p.resources r)) (followed.itself p.scheduler.records) refl

    pub same_trans : (p q r : Pool) → Same p q → Same q r → Same p r
    same_trans p q r a b = record {
      curs = λ k. b.curs k ∙ a.curs k;
      dues = λ has k n is. b.dues (followed.has p.scheduler.records q.scheduler.records a.records has) k n (ap (number_in d) (a.curs k) ∙ is) ∙ a.dues has k n is;
      records = followed.joined p.scheduler.records q.scheduler.records r.scheduler.records a.records b.records;
      there = b.there ∙ a.there;
    }

    same_like : (cores : List (Option Resource)) (p q : Pool) → LikePlaces SameCores q.resources cores → Same p q → Same p (record q { resources = cores })
    same_like cores p q like a = same_trans p q (record q { resources = cores }) a (same_of _ _ (λ r. there (at_place q.resources r) (at_place cores r) (like.at r)) (followed.itself q.scheduler.records) refl)
      where
        there : (o n : Option Resource) → LikePlace SameCores o n → SameCore o n
        there None None same = core_refl None
        there None (Some e) none = absurd none
        there (Some c) None none = absurd none
        there (Some c) (Some e) same = same

    same_change_each : (f : ℕ → Resource → Resource) (p q : Pool) → ((n : ℕ) (c : Resource) → SameCore (Some c) (Some (f n c))) → Same p q → Same p (record q { resources = change_each 0 f q.resources })
    same_change_each f p q keeps a = same_like (change_each 0 f q.resources) p q (like_change_each SameCores f q.resources keeps) a

    same_change_domain : (e : ℕ) (f : Domain → Domain) (p q : Pool) → Same p q → Same p (change_domain e f q)
    same_change_domain e f p q a = same_trans p q (change_domain e f q) a (same_of _ _ (λ r. core_refl (at_place q.resources r)) (followed.itself q.scheduler.records) (test_at-change_at e d f (λ x. true) q.domains (λ x. refl)))

    -- other records, and another queue or other sets of cores
    same_scheduler : (scheduler : Scheduler) (p q : Pool) → Like q.scheduler.records scheduler.records → Same p q → Same p (record q { scheduler = scheduler })
    same_scheduler scheduler p q like a = same_trans p q (record q { scheduler = scheduler }) a (same_of _ _ (λ r. core_refl (at_place q.resources r)) like refl)

    same_dues : (r t : ℕ) (u : UnitId) (x : RtdsUnit) (p q : Pool) → Renews → unit_rtds_record q.scheduler.records u ≡ Some x → Same p q → Same p (change_core r (pools.due_within t x.budget) q)
    same_dues r t u x p q may is a = record {
      curs = λ k. like_look (λ c e. e.cur ≡ c.cur) cur_in q.resources _ (λ c e same. same) (like_change_at (λ c e. e.cur ≡ c.cur) r (pools.due_within t x.budget) q.resources (λ c. refl) (λ c at. refl)) k ∙ a.curs k;
      dues = λ has k n own. absurd (followed.no_dues u x may q.scheduler.records is (followed.has p.scheduler.records q.scheduler.records a.records has));
      records = a.records;
      there = a.there;
    }

    -- all actions but a decision, a move of the domain, and those that may not come
    abbrev pub LeavesIt : Machine → State → Action → Type 0
    LeavesIt m s (Decide r) = ⊥
    LeavesIt m s (DomMoved e) = ⊥
    LeavesIt m s (Repl u) = Renews
    LeavesIt m s (Refill e) = Refills e.0
    LeavesIt m s Xl = (line : CommandLine) → slice_get m.work.commands s.next_command ≡ Some line → IfOk (PlanLeaves Sets) (line_verdict m s line)
    LeavesIt m s _ = Unit {0}

    same_parts : (On : Action → Type 0) → ((r : ℕ) → On (Decide (core r)) → ⊥) → ((e : ℕ) → On (Refill (domain e)) → Refills e) → ((u : UnitId) → On (Repl u) → Renews) → (g t : ℕ) (p : Pool) → KeptByParts g t (λ pool. On) (Same p)
    same_parts On no_decide may_refill may_renew g t p = record {
      cores = λ cores q like. same_like cores p q (like_map KeepsCore SameCores q.resources cores (λ c e keeps. record { cur = keeps.cur; due = λ n is. keeps.due }) like);
      domains = λ e f q count moving. same_change_domain e f p q;
      queues = λ u q runs. same_scheduler (policy.scheduler_with_queued u q.scheduler) p q (followed.itself q.scheduler.records);
      dequeues = λ e q. same_scheduler (policy.scheduler_without_queued e q.scheduler) p q (followed.itself q.scheduler.records);
      decides = λ r c q at on. absurd (no_decide r on);
      saves = λ r c u q at is on. same_like _ p q (like_change_at SameCores r pools.saved_core q.resources (λ x. core_refl (Some x)) (λ x there. record { cur = refl; due = λ n own. refl }));
      replenishes = λ u q on. same_scheduler _ p q (followed.renews t u (may_renew u on) q.scheduler.records);
      dues = λ r u x old q on is. same_dues r t u x p q (may_renew u on) is;
      refills = λ e q on. same_scheduler _ p q (followed.refills t e (may_refill e on) q.scheduler.records);
    }

    same_commands : (g : ℕ) (p : Pool) → KeptByCommands g (Same p)
    same_commands g p = commands_of (same_parts (λ action. ⊥) (λ r none. none) (λ e none. absurd none) (λ u none. absurd none) g 0 p)

    pub same_settled : (t : ℕ) (p q : Pool) → Same p q → Same p (settled_pool t q)
    same_settled t p q a = kept_settled (same_commands 1 p) t q a

    -- a change of parameters
    same_changes : (change : ParamChange) (t : ℕ) (p q : Pool) → IsNoDom change → Same p q → Same p (changed_pool change t q)
    same_changes (changes.Dom e weight limit) t p q none a = absurd none
    same_changes (changes.Frame frame) t p q none a =
        same_change_each (λ r c. pending_core c) p _ (λ r c. record { cur = refl; due = λ n is. refl }) (same_scheduler (policy.changed_scheduler (changes.Frame frame) t q.scheduler) p q (followed.changes_it (changes.Frame frame) t tt q.scheduler.records) a)
    same_changes (changes.Rate limit) t p q none a = same_scheduler (policy.changed_scheduler (changes.Rate limit) t q.scheduler) p q (followed.changes_it (changes.Rate limit) t tt q.scheduler.records) a
    same_changes (changes.«Unit» u period budget extra) t p q none a = same_scheduler (policy.changed_scheduler (changes.«Unit» u period budget extra) t q.scheduler) p q (followed.changes_it (changes.«Unit» u period budget extra) t tt q.scheduler.records) a
    same_changes (changes.Pin e unit cores) t p q none a = same_scheduler (policy.changed_scheduler (changes.Pin e unit cores) t q.scheduler) p q (followed.changes_it (changes.Pin e unit cores) t tt q.scheduler.records) a

    -- a weight or a cap is set in a Credit2 pool
    marked_curs : (e t : ℕ) (cores : List (Option Resource)) (r : ℕ) → cur_in (at_place (change_each 0 (λ k c. cond (is_domain_unit e c.cur) (record c { pending = true; due = Some (moment t) }) c) cores) r) ≡ cur_in (at_place cores r)
    marked_curs e t cores r = like_look (λ c x. x.cur ≡ c.cur) cur_in cores _ (λ c x same. same)
        (like_change_each (λ c x. x.cur ≡ c.cur) (λ k c. cond (is_domain_unit e c.cur) (record c { pending = true; due = Some (moment t) }) c) cores
        (λ k c. by_cond (λ (y : Resource). y.cur ≡ c.cur) (is_domain_unit e c.cur) _ _ (λ is. refl) (λ is. refl))) r

    marked_core : (e t : ℕ) (c : Resource) → e ≢ d → SameCore (Some c) (Some (cond (is_domain_unit e c.cur) (record c { pending = true; due = Some (moment t) }) c))
    marked_core e t c other =
        by_cond (λ (y : Resource). SameCore (Some c) (Some y)) (is_domain_unit e c.cur) (record c { pending = true; due = Some (moment t) }) c
        (λ is. record { cur = refl; due = λ n here. absurd (of_other d e c.cur n other is here) })
        (λ is. core_refl (Some c))

    same_weights : (e : DomId) (weight limit : Option ℕ) (t : ℕ) (p q : Pool) → is_same_kind kinds.Credit2 (records_kind q.scheduler.records) ≡ true → Sets e.0 limit → Same p q → Same p (changed_pool (changes.Dom e weight limit) t q)
    same_weights e weight None t p q kind may a = same_scheduler (policy.changed_scheduler (changes.Dom e weight None) t q.scheduler) p q (followed.sets e weight None t may q.scheduler.records kind) a
    same_weights e weight (Some n) t p q kind may a = same_trans p q (changed_pool (changes.Dom e weight (Some n)) t q) a (record {
      curs = marked_curs e.0 t q.resources;
      dues = λ has r k own. (
          let other = followed.marks e.0 n may q.scheduler.records kind has in
          let same = like_change_each SameCores (λ j c. cond (is_domain_unit e.0 c.cur) (record c { pending = true; due = Some (moment t) }) c) q.resources (λ j c. marked_core e.0 t c other) in
          (same_like _ q q same (same_refl q)).dues has r k own);
      records = followed.sets e weight (Some n) t may q.scheduler.records kind;
      there = refl;
    })

    -- the pool i is as it was
    module _ (i : ℕ) (p : Pool) (there : test_at p.domains d (λ x. true) ≡ true) where
      abbrev pub SameAt : State → Type 0
      SameAt = HoldsAt i (Same p)

      same_at_home : (m : Machine) (s : State) (t : ℕ) → KeptAtHome m s t d (LeavesIt m s) (PlanLeaves Sets) (Same p)
      same_at_home m s t =
          let g : ℕ = m.config.granularity in
          let commands : KeptByCommands g (Same p) = same_commands g p in
          let parts : KeptByParts g t (λ pool. LeavesIt m s) (Same p) = same_parts (LeavesIt m s) (λ r none. none) (λ e may. may) (λ u may. may) g t p in
          record {
            there = λ q a. a.there ∙ there;
            settles = same_settled t p;
            acts = kept_by_parts parts;
            stalls = λ n end. kept_processor parts n _;
            leaves = kept_set_leaving commands;
            moves = λ e j q a. kept_withdrawn commands e _ (same_change_domain e _ p q a);
            pauses = kept_pause commands;
            unpauses = kept_unpause commands;
            sets = λ change q none a. same_changes change t p q none a;
            weights = λ e weight limit answer q kind may a. same_weights e weight limit t p q kind may a;
            core_comes = λ r ends q none a. same_trans p q _ a (same_of _ _ (core_set r (Some (joined_core ends)) q.resources refl (ap cur_in none)) (followed.itself q.scheduler.records) refl);
            core_goes = λ r c q at none a. same_trans p q _ a (same_of _ _ (core_set r None q.resources refl (ap cur_in at ∙ none)) (followed.itself q.scheduler.records) refl);
            line = λ leaves line. leaves line;
            no_move = λ e none. none;
          }

      pub sat_after : (m : Machine) (t : ℕ) (action : Action) (s : State) → LeavesIt m s action → IsApart s → is_action_enabled m s t action ≡ true → SameAt s → SameAt (after m s t action)
      sat_after m t action s leaves apart on a = at_after (same_at_home m s t) i action leaves apart on a

      -- another domain moves
      pub sat_dom_moved : (e : ℕ) → e ≢ d → (g t : ℕ) (s : State) → SameAt s → SameAt (after_dom_moved g t e s)
      sat_dom_moved e other g t s a = at_dom_moved i g t e s (same_settled t p) without joining_it a
        where
          without : (q : Pool) → Same p q → Same p (pool_without_domain e q)
          without q b = same_trans p q (pool_without_domain e q) b (same_of _ _ (λ r. core_refl (at_place q.resources r)) (followed.parts e other q.scheduler.records) (there_other d e other None q.domains))

          joining_it : (joining : Domain) (q : Pool) → Same p q → Same p (pool_with_domain g t e joining (policy.standard_dom_params q.scheduler.records) q)
          joining_it joining q b =
              let count = domain_unit_count g joining in
              let with : Pool = record q { domains = put_at e joining q.domains; scheduler = policy.joined_scheduler e count (policy.standard_dom_params q.scheduler.records) t q.scheduler } in
              kept_queue_units (same_commands g p) e (numbers_from 0 count) with (same_trans p q with b (same_of _ _ (λ r. core_refl (at_place q.resources r)) (followed.joins e count t other q.scheduler.records) (there_other d e other (Some joining) q.domains)))
