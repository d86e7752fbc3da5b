-- What each step of a pool keeps, the pool at its place keeps through each action of the machine but those that are excepted.
use Rattle.std.proofs.Common.{◌≡◌, ◌/◌, ℕ, zero, suc, true, false, List, [], ◌∷◌, arith, ap, subst, sym, ◌∙◌, length, refl}
use Rattle.std.specs.Prelude.{Option, Some, None, Ok, Err, Bool, Result, is_some, is_none, not, option_map, unwrap_or, slice_get, ◌&&◌, ◌==◌}
use Rattle.std.proofs.Math.Decide.{ℕ_discrete}
use Rattle.sched_base.specs.Numbers.{moment, span, domain as domain_number, core as core_number}
use Rattle.sched_base.specs.declared.DomId.{DomId}
use Rattle.sched_base.specs.declared.Moment.{Moment}
use Rattle.sched_base.specs.declared.Span.{Span}
use Rattle.sched_base.specs.declared.UnitId.{UnitId}
use Rattle.sched_model.specs.declared.action.Action.{Action}
use Rattle.sched_model.specs.declared.action.Action.TheVariants.{Stall, Xl, Moved, DomMoved}
use Rattle.sched_model.specs.declared.config.ParamChange.{ParamChange}
use Rattle.sched_model.specs.declared.config.ParamChange.TheVariants as changes
use Rattle.sched_model.specs.declared.config.SchedKind.TheVariants as kinds
use Rattle.sched_model.specs.declared.event.Refusal.{Refusal}
use Rattle.sched_model.specs.declared.event.Reply.{Reply}
use Rattle.sched_model.specs.declared.machine.Machine.{Machine}
use Rattle.sched_model.specs.declared.plan.Plan.{Plan}
use Rattle.sched_model.specs.declared.plan.Plan.TheVariants as plan
use Rattle.sched_model.specs.declared.state.Domain.{Domain}
use Rattle.sched_model.specs.declared.state.FreeCore.{FreeCore}
use Rattle.sched_model.specs.declared.state.Pool.{Pool}
use Rattle.sched_model.specs.declared.state.Resource.{Resource}
use Rattle.sched_model.specs.declared.state.State.{State}
use Rattle.sched_model.specs.declared.work.CommandLine.{CommandLine}
use Rattle.sched_model.specs.Actions.{home_pool_of_action, home_pool_of_core, home_pool_of_domain, change_pool}
use Rattle.sched_model.specs.Commands.{carried_out, change_home, pool_with_rtds, pool_with_rtds_unit, plan_pool, is_same_kind}
use Rattle.sched_model.specs.Machine.{is_action_enabled, after, after_at_home, state_after_moved, after_dom_moved, state_with_stall, line_verdict, settled_at, with_core_in, without_core_in, left_by, joined_by, is_null_pool}
use Rattle.sched_model.specs.Opening.{joined_core}
use Rattle.sched_model.specs.Places.{at_place, put_at, clear_at, change_at, test_at, numbered_items, numbers_from}
use Rattle.sched_model.specs.Policy.{unit_rtds_record, records_kind, standard_dom_params}
use Rattle.sched_model.specs.Pool.{enabled_in, after_in, settled_pool, changed_pool, change_processor, pool_with_leaving, pool_with_moving, paused_pool, unpaused_pool, pool_with_domain, pool_without_domain, is_gathering, is_first_processor_up}
use Rattle.sched_base.proofs.Bools.{and_left, and_right}
use Rattle.sched_laws.proofs.EachPlace.{at_place-change_at, at_place-set_other, by_option, by_cond, is_empty}
use Rattle.sched_laws.proofs.Kept.{IsApart, passes_at}
use Rattle.sched_laws.proofs.Lists.{test_at-some, some-test_at, is_some_at}
use Rattle.sched_laws.proofs.Sound.{none_is}
use Rattle.sched_laws.proofs.Judged.{Fits, verdict_fits_next}

-- the pool i is there, and this holds of it
pub record HoldsAt (i : ℕ) (P : Pool → Type 0) (s : State) : Type 0 where
  pub pool : Pool
  pub at : at_place s.pools i ≡ Some pool
  pub same : P pool

-- a change of other parameters than those of a domain
abbrev pub IsNoDom : ParamChange → Type 0
IsNoDom (changes.Dom d weight limit) = ⊥
IsNoDom _ = Unit {0}

abbrev pub IfOk : (Plan → Type 0) → Result Plan Refusal → Type 0
IfOk P (Ok p) = P p
IfOk P (Err fault) = Unit {0}

-- kept by each step of the pool of the domain d at t, where these actions and plans may come in s
pub record KeptAtHome (m : Machine) (s : State) (t d : ℕ) (May : Action → Type 0) (Leaves : Plan → Type 0) (P : Pool → Type 0) : Type 0 where
  pub there : (q : Pool) → P q → test_at q.domains d (λ x. true) ≡ true
  pub settles : (q : Pool) → P q → P (settled_pool t q)
  pub acts : (q : Pool) (action : Action) → May action → P q → P (after_in m.config.granularity t q action)
  pub stalls : (n end : ℕ) (q : Pool) → P q → P (change_processor m.config.granularity n (λ x. record x { stall_end = moment end }) q)
  pub leaves : (r : ℕ) (q : Pool) → P q → P (pool_with_leaving r q)
  pub moves : (e j : ℕ) (q : Pool) → P q → P (pool_with_moving e j q)
  pub pauses : (e : ℕ) (q : Pool) → P q → P (paused_pool e q)
  pub unpauses : (e : ℕ) (q : Pool) → P q → P (unpaused_pool m.config.granularity e q)
  pub sets : (change : ParamChange) (q : Pool) → IsNoDom change → P q → P (changed_pool change t q)
  pub weights : (e : DomId) (weight limit : Option ℕ) (answer : Reply) (q : Pool) → is_same_kind kinds.Credit2 (records_kind q.scheduler.records) ≡ true → Leaves (plan.Credit2Dom e weight limit answer) → P q → P (changed_pool (changes.Dom e weight limit) t q)
  pub core_comes : (r : ℕ) (ends : List Moment) (q : Pool) → at_place q.resources r ≡ None → P q → P (record q { resources = put_at r (joined_core ends) q.resources })
  pub core_goes : (r : ℕ) (c : Resource) (q : Pool) → at_place q.resources r ≡ Some c → c.cur ≡ None → P q → P (record q { resources = clear_at r q.resources })
  pub line : May Xl → (line : CommandLine) → slice_get m.work.commands s.next_command ≡ Some line → IfOk Leaves (line_verdict m s line)
  pub no_move : (e : ℕ) → May (DomMoved (domain_number e)) → ⊥

some_numbered : {X : Type 0} (n d : ℕ) (places : List (Option X)) → test_at places d (λ x. true) ≡ true → length (numbered_items n places) ≡ 0 → ⊥
some_numbered n d [] passes none = absurd (cc)
some_numbered n zero (None ∷ places) passes none = absurd (cc)
some_numbered n (suc d) (None ∷ places) passes none = some_numbered (suc n) d places passes none
some_numbered n d (Some x ∷ places) passes none = omega (arith, none)

module _ {P : Pool → Type 0} (i : ℕ) where
  -- one pool changed
  at_change : (j : ℕ) (f : Pool → Pool) (s : State) → ((q : Pool) → at_place s.pools i ≡ Some q → j ≡ i → P q → P (f q)) → HoldsAt i P s → HoldsAt i P (change_pool j f s)
  at_change j f s keeps a =
      elim (ℕ_discrete j i) [
        | yes e ↦ record { pool = f a.pool; at = subst (λ k. at_place (change_at j f s.pools) k ≡ Some (f a.pool)) e (at_place-change_at j f s.pools ∙ ap (option_map f) (subst (λ k. at_place s.pools k ≡ Some a.pool) (sym e) a.at)); same = keeps a.pool a.at e a.same }
        | no ne ↦ record { pool = a.pool; at = at_place-set_other j i _ s.pools ne ∙ a.at; same = a.same }
      ]

  -- a domain leaves its pool for another one
  pub at_dom_moved : (g t d : ℕ) (s : State) → ((q : Pool) → P q → P (settled_pool t q)) → ((q : Pool) → P q → P (pool_without_domain d q)) → ((joining : Domain) (q : Pool) → P q → P (pool_with_domain g t d joining (standard_dom_params q.scheduler.records) q))
      → HoldsAt i P s → HoldsAt i P (after_dom_moved g t d s)
  at_dom_moved g t d s settles parts joins a =
      by_option (HoldsAt i P) (home_pool_of_domain s d) _ _ (λ is. a)
      (λ j is. by_option (HoldsAt i P) (at_place s.pools j) _ _ (λ is2. a)
      (λ pool is2. by_option (HoldsAt i P) (at_place pool.domains d) _ _ (λ is3. a)
      (λ domain is3. by_option (HoldsAt i P) domain.moving _ _ (λ is4. a)
      (λ k is4. at_change k.0 (joined_by g t d domain) (change_pool j (left_by t d) s) (λ q at e here. settles _ (joins (record domain { moving = None }) q here))
      (at_change j (left_by t d) s (λ q at e here. by_cond P (is_null_pool q.scheduler.records) _ _ (λ is5. settles _ (parts q here)) (λ is5. parts q here)) a)))))

module _ {m : Machine} {s : State} {t d : ℕ} {May : Action → Type 0} {Leaves : Plan → Type 0} {P : Pool → Type 0} (kept : KeptAtHome m s t d May Leaves P) (i : ℕ) where
  abbrev At : State → Type 0
  At = HoldsAt i P

  at_stalled : (n end : ℕ) (s : State) → At s → At (state_with_stall m.config.granularity n end s)
  at_stalled n end s a =
      by_option At (home_pool_of_core s (n / m.config.granularity)) _ _ (λ is. record { pool = a.pool; at = a.at; same = a.same })
      (λ j is. at_change i j (change_processor m.config.granularity n (λ x. record x { stall_end = moment end })) s (λ q at e. kept.stalls n end q) a)

  at_home : (action : Action) → May action → At s → At (after_at_home m.config.granularity s t action)
  at_home action may a =
      by_option At (home_pool_of_action m.config.granularity s action) _ _ (λ is. a)
      (λ j is. at_change i j (λ pool. settled_pool t (after_in m.config.granularity t pool action)) s (λ q at e here. kept.settles _ (kept.acts q action may here)) a)

  -- the commands
  at_change_home : (e : ℕ) (f : Pool → Pool) (s : State) → ((q : Pool) → at_place s.pools i ≡ Some q → home_pool_of_domain s e ≡ Some i → P q → P (f q)) → At s → At (change_home e f s)
  at_change_home e f s keeps a =
      by_option At (home_pool_of_domain s e) _ _ (λ is. a) (λ j is. at_change i j f s (λ q at same. keeps q at (subst (λ k. home_pool_of_domain s e ≡ Some k) same is)) a)

  at_set_rtds : (e : ℕ) (period budget : Option Span) (extra : Option Bool) (units : List ℕ) (q : Pool) → P q → P (pool_with_rtds t e period budget extra units q)
  at_set_rtds e period budget extra [] q here = here
  at_set_rtds e period budget extra (n ∷ ns) q here =
      let u : UnitId = record { dom = domain_number e; n = n } in
      at_set_rtds e period budget extra ns (pool_with_rtds_unit t period budget extra u q)
      (by_option P (unit_rtds_record q.scheduler.records u) _ _ (λ is. here) (λ x is. kept.sets (changes.«Unit» u (unwrap_or period (span x.next_period)) (unwrap_or budget (span x.next_budget)) (unwrap_or extra x.next_extra)) q tt here))

  at_carried_out : (p : Plan) (s : State) → Fits s p → Leaves p → At s → At (carried_out m t p s)
  at_carried_out (plan.PoolList pool answer) s fits leaves a = a
  at_carried_out (plan.PoolCreate j name kind answer) s fits leaves a =
      record { pool = a.pool; at = at_place-set_other j.0 i _ s.pools (λ e. (let at = subst (λ k. at_place s.pools k ≡ Some a.pool) (sym e) a.at in let none = fits.0 in cc)) ∙ a.at; same = a.same }
  at_carried_out (plan.PoolDestroy j answer) s fits leaves a =
      record {
        pool = a.pool;
        at = at_place-set_other j.0 i _ s.pools (λ e. some_numbered 0 d a.pool.domains (kept.there a.pool a.same) (let none = (fits a.pool (subst (λ k. at_place s.pools k ≡ Some a.pool) (sym e) a.at)).1 in grind (arith, none))) ∙ a.at;
        same = a.same;
      }
  at_carried_out (plan.PoolRename j name answer) s fits leaves a = record { pool = a.pool; at = a.at; same = a.same }
  at_carried_out (plan.CpuAdd j core answer) s fits leaves a = record { pool = a.pool; at = a.at; same = a.same }
  at_carried_out (plan.CpuRemove j core answer) s fits leaves a = at_change i j.0 (pool_with_leaving core.0) s (λ q at e. kept.leaves core.0 q) a
  at_carried_out (plan.Migrate e j k answer) s fits leaves a = by_cond At (j.0 == k.0) s _ (λ is. a) (λ is. at_change i j.0 (pool_with_moving e.0 k.0) s (λ q at same. kept.moves e.0 k.0 q) a)
  at_carried_out (plan.Credit2Dom e weight limit answer) s fits leaves a = at_change_home e.0 (changed_pool (changes.Dom e weight limit) t) s (λ q at home. kept.weights e weight limit answer q (ap (is_same_kind kinds.Credit2) (fits.1 i q home at)) leaves) a
  at_carried_out (plan.Credit2Pool j None answer) s fits leaves a = a
  at_carried_out (plan.Credit2Pool j (Some us) answer) s fits leaves a = at_change i j.0 (changed_pool (changes.Rate us) t) s (λ q at e. kept.sets (changes.Rate us) q tt) a
  at_carried_out (plan.RtdsDom e first count period budget extra answer) s fits leaves a =
      at_change_home e.0 (pool_with_rtds t e.0 period budget extra (numbers_from first count)) s (λ q at home. at_set_rtds e.0 period budget extra (numbers_from first count) q) a
  at_carried_out (plan.Pause e answer) s fits leaves a = at_change_home e.0 (paused_pool e.0) s (λ q at home. kept.pauses e.0 q) a
  at_carried_out (plan.Unpause e answer) s fits leaves a = at_change_home e.0 (unpaused_pool m.config.granularity e.0) s (λ q at home. kept.unpauses e.0 q) a
  at_carried_out (plan.ArincSet j frame answer) s fits leaves a = at_change i j.0 (changed_pool (changes.Frame frame) t) s (λ q at e. kept.sets (changes.Frame frame) q tt) a
  at_carried_out (plan.Pin e unit cores answer) s fits leaves a = at_change_home e.0 (changed_pool (changes.Pin e unit cores) t) s (λ q at home. kept.sets (changes.Pin e unit cores) q tt) a

  at_settled : (home : Option ℕ) (s : State) → At s → At (settled_at t home s)
  at_settled None s a = a
  at_settled (Some j) s a = at_change i j (settled_pool t) s (λ q at e. kept.settles q) a

  at_plan : (v : Result Plan Refusal) → ((p : Plan) → v ≡ Ok p → Fits (record s { next_command = suc s.next_command }) p) → IfOk Leaves v → At s
      → At (elim v as (λ _. State) [ Err fault ↦ record s { next_command = suc s.next_command } | Ok plan ↦ settled_at t (plan_pool s plan) (carried_out m t plan (record s { next_command = suc s.next_command })) ])
  at_plan (Err fault) fits leaves a = record { pool = a.pool; at = a.at; same = a.same }
  at_plan (Ok p) fits leaves a = at_settled (plan_pool s p) _ (at_carried_out p (record s { next_command = suc s.next_command }) (fits p refl) leaves (record { pool = a.pool; at = a.at; same = a.same }))

  -- a core joins, where the pool has none there, or goes without a unit
  at_attached : (r j : ℕ) (c : FreeCore) → IsApart s → at_place s.free r ≡ Some c → At s → At (with_core_in t r j c s)
  at_attached r j c apart free a =
      at_change i j (λ pool. settled_pool t (record pool { resources = put_at r (joined_core c.stall_ends) pool.resources })) (record s { free = clear_at r s.free })
      (λ q at e here. kept.settles _ (kept.core_comes r c.stall_ends q
      (is_empty (at_place q.resources r) (λ x there. apart.free i r (is_some_at (at_place s.free r) c free) (test_at-some s.pools i (λ x. is_some (at_place x.resources r)) q at (is_some_at (at_place q.resources r) x there)))) here))
      (record { pool = a.pool; at = a.at; same = a.same })

  at_detached : (r j : ℕ) (c : Resource) → test_at s.pools j (λ pool. enabled_in m.config.granularity t pool (Moved (core_number r))) ≡ true → At s → At (without_core_in t r j c s)
  at_detached r j c on a =
      let b = at_change i j (λ pool. settled_pool t (record pool { resources = clear_at r pool.resources })) s
      (λ q at e here.
      let may = passes_at s.pools j (λ x. enabled_in m.config.granularity t x (Moved (core_number r))) q (subst (λ k. at_place s.pools k ≡ Some q) (sym e) at) on in
      let x = some-test_at q.resources r (λ c. c.leaving && is_none c.cur && is_none c.saving && not c.pending && is_gathering c && is_first_processor_up t c) may in
      kept.settles _ (kept.core_goes r x.0 q x.1 (none_is x.0.cur (and_right x.0.leaving (is_none x.0.cur) (and_left _ _ (and_left _ _ (and_left _ _ (and_left _ _ x.2)))))) here)) a in
      record { pool = b.pool; at = b.at; same = b.same }

  at_moved : (r : ℕ) → IsApart s → is_action_enabled m s t (Moved (core_number r)) ≡ true → At s → At (state_after_moved t r s)
  at_moved r apart on a =
      by_option At (at_place s.free r) _ _ (λ is. goes (home_pool_of_core s r) (grind (arith, is, on))) (λ c is. by_option At c.target _ _ (λ is2. a) (λ j is2. at_attached r j c apart is a))
    where
      goes : (home : Option ℕ) → elim home [ None ↦ false | Some j ↦ test_at s.pools j (λ pool. enabled_in m.config.granularity t pool (Moved (core_number r))) ] ≡ true
          → At (elim home as (λ _. State) [ None ↦ s | Some j ↦ elim (at_place s.pools j) [ None ↦ s | Some pool ↦ elim (at_place pool.resources r) [ None ↦ s | Some c ↦ without_core_in t r j c s ] ] ])
      goes None on2 = a
      goes (Some j) on2 = by_option At (at_place s.pools j) _ _ (λ is. a) (λ pool is. by_option At (at_place pool.resources r) _ _ (λ is2. a) (λ c is2. at_detached r j c on2 a))

  pub at_after : (action : Action) → May action → IsApart s → is_action_enabled m s t action ≡ true → At s → At (after m s t action)
  at_after Stall may apart on a =
      by_option At (slice_get m.work.stalls s.next_stall) _ _ (λ is. a)
      (λ line is. (let b = at_stalled line.cpu.0 _ s a in record { pool = b.pool; at = b.at; same = b.same }))
  at_after Xl may apart on a = by_option At (slice_get m.work.commands s.next_command) _ _ (λ is. a) (λ line is. at_plan (line_verdict m s line) (verdict_fits_next m s line (suc s.next_command)) (kept.line may line is) a)
  at_after (Moved r) may apart on a = at_moved r.0 apart on a
  at_after (DomMoved e) may apart on a = absurd (kept.no_move e.0 may)
  at_after action may apart on a = at_home action may a
