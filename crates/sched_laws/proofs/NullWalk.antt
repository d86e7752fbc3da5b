-- What each step of a null pool keeps of the units for which its cores are kept.
use Rattle.std.proofs.Common.{◌≡◌, ◌<◌, ℕ, true, false, List, refl, subst, sym, ◌∙◌, ap, ◌⊎◌, inl, inr}
use Rattle.std.specs.Prelude.{Option, Some, None, is_some, length, replicate, ◌&&◌, ◌||◌, ◌==◌}
use Rattle.std.specs.List.{list_all}
use Rattle.std.proofs.lemmas.List.{length-replicate}
use Rattle.std.proofs.lemmas.Bool.{not-true}
use Rattle.sched_base.specs.Numbers.{moment, pool as pool_number, core, domain as domain_number}
use Rattle.sched_base.specs.declared.Moment.{Moment}
use Rattle.sched_base.specs.declared.UnitId.{UnitId}
use Rattle.sched_model.specs.declared.config.ParamChange.{ParamChange}
use Rattle.sched_model.specs.declared.config.ParamChange.TheVariants as changes
use Rattle.sched_model.specs.declared.config.DomParams.{DomParams}
use Rattle.sched_model.specs.declared.config.PoolParams.{PoolParams}
use Rattle.sched_model.specs.declared.config.PoolParams.TheVariants as pool_params
use Rattle.sched_model.specs.declared.state.Domain.{Domain}
use Rattle.sched_model.specs.declared.state.Resource.{Resource}
use Rattle.sched_model.specs.declared.state.Pool.{Pool}
use Rattle.sched_model.specs.declared.state.RtdsUnit.{RtdsUnit}
use Rattle.sched_model.specs.declared.state.Credit2Records.{Credit2Records}
use Rattle.sched_model.specs.declared.state.Records.{Records}
use Rattle.sched_model.specs.declared.state.Records.TheVariants.{Credit2Pool, RtdsPool, NullPool}
use Rattle.sched_model.specs.declared.action.Action.TheVariants.{DomMoved, Decide}
use Rattle.sched_model.specs.Places.{at_place, put_at, clear_at, test_at, numbers_from}
use Rattle.sched_model.specs.Opening.{joined_core, machine_core_count}
use Rattle.sched_model.specs.Policy as policy
use Rattle.sched_model.specs.Policy.{changed_records, joined_records, parted_records, empty_records}
use Rattle.sched_model.specs.NullScheduler as null
use Rattle.sched_model.specs.Pool as pools
use Rattle.sched_model.specs.Pool.{enabled_in, change_core, change_domain, changed_pool, pool_without_domain, pool_with_domain, is_domain_unit, is_held_back, is_gathering, is_first_processor_up}
use Rattle.sched_laws.specs.EachPlace.{EachPlace}
use Rattle.sched_laws.proofs.EachPlace.{read_put_at, read_clear_at, EachPlace-empty}
use Rattle.sched_laws.proofs.Lists.{none_passes, at_numbered}
use Rattle.sched_laws.proofs.Kept.{IsKept, IsFresh, passes_at}
use Rattle.sched_laws.proofs.Sound.{some_if_all}
use Rattle.sched_laws.proofs.Events.{LikePlaces, like_change_at, capped, like_of_domain, like_map, like_was, KeepsCore, Enabled, KeptByCommands, KeptByParts, commands_of, kept_settled, kept_processor, kept_by_parts, kept_set_leaving, kept_withdrawn, kept_pause, kept_unpause, kept_marked, kept_queue_units}
use Rattle.sched_laws.proofs.Known.{known_pools}
use Rattle.sched_laws.specs.PoolFacts.{IsKnownPool}
use Rattle.sched_laws.proofs.Records as records_lemmas
use Rattle.sched_laws.proofs.NullKept.{kept_of, KeptFits, NullFits, null_fits, fits_none, read_released, at_released, length_released, fits_after_decide}
use Rattle.sched_base.proofs.Bools.{and_left, and_right, or_left}
use Rattle.sched_laws.proofs.EachPlace.{length_set}

-- the core has the same cur, and saves the same unit or none
pub record Holds (c d : Resource) : Type 0 where
  pub cur : d.cur ≡ c.cur
  pub saving : (d.saving ≡ c.saving) ⊎ (d.saving ≡ None)

holds_same : (c d : Resource) → d.cur ≡ c.cur → d.saving ≡ c.saving → Holds c d
holds_same c d cur saving = record { cur = cur; saving = inl saving }

holds_itself : (c : Resource) → Holds c c
holds_itself c = holds_same c c refl refl

-- each core was there before, and holds what it held
abbrev Comes : List (Option Resource) → List (Option Resource) → Type 0
Comes old new = (r : ℕ) (d : Resource) → at_place new r ≡ Some d → (c : Resource) × (at_place old r ≡ Some c) × Holds c d

fits_come : (records : Records) (old new : List (Option Resource)) → length new ≡ length old → Comes old new → NullFits records old → NullFits records new
fits_come records old new same comes fits kept is =
    let before : KeptFits kept old = fits kept is in
    record {
      count = before.count ∙ sym same;
      cur = λ r d at u own. (let o = comes r d at in before.cur r o.0 o.1 u (sym o.2.cur ∙ own));
      saving = λ r d at u saves q at_q. (
          let o = comes r d at in
          elim o.2.saving [
            | inl e ↦ before.saving r o.0 o.1 u (sym e ∙ saves) q at_q
            | inr none ↦ absurd (let e : None ≡ Some u = sym none ∙ saves in cc)
          ]);
      once = before.once;
    }

fits_records : (a b : Records) (cores : List (Option Resource)) → kept_of b ≡ kept_of a → NullFits a cores → NullFits b cores
fits_records a b cores same fits kept is = fits kept (sym same ∙ is)

-- neither Credit2 nor RTDS keeps cores for units, nor does ARINC 653
no_credit2 : (a b : Credit2Records) → kept_of (Credit2Pool a) ≡ kept_of (Credit2Pool b)
no_credit2 a b = refl

no_rtds : (a b : List (Option (List RtdsUnit))) → kept_of (RtdsPool a) ≡ kept_of (RtdsPool b)
no_rtds a b = refl

same_frame : (records : Records) (change : ParamChange) (t : ℕ) → kept_of (changed_records records change t) ≡ kept_of records
same_frame records (changes.«Unit» u period budget extra) t = records_lemmas.same_changed kept_of no_credit2 no_rtds records (changes.«Unit» u period budget extra) t tt
same_frame (Credit2Pool records) (changes.Frame frame) t = refl
same_frame any (changes.Frame frame) t = refl
same_frame records other t = records_lemmas.same_changed kept_of no_credit2 no_rtds records other t tt

module _ (g : ℕ) where
  abbrev pub N : Pool → Type 0
  N pool = NullFits pool.scheduler.records pool.resources

  n_like : (cores : List (Option Resource)) (pool : Pool) → LikePlaces Holds pool.resources cores → N pool → N (record pool { resources = cores })
  n_like cores pool like fits = fits_come pool.scheduler.records pool.resources cores like.count (λ r d at. like_was Holds pool.resources cores r d like at) fits

  n_change_core : (r : ℕ) (f : Resource → Resource) (pool : Pool) → ((c : Resource) → Holds c (f c)) → N pool → N (change_core r f pool)
  n_change_core r f pool holds fits = n_like _ pool (like_change_at Holds r f pool.resources holds_itself (λ c at. holds c)) fits

  -- a core that decides saves nothing
  n_after_decide : (t r : ℕ) (c : Resource) (pool : Pool) → at_place pool.resources r ≡ Some c → enabled_in g t pool (Decide (core r)) ≡ true → IsKnownPool g pool → N pool → N (pools.after_decide g t r c pool)
  n_after_decide t r c pool at on known fits =
      let may = passes_at pool.resources r (λ (x : Resource). list_all is_held_back x.processors && is_gathering x && is_first_processor_up t x) c at on in
      let gathered = and_left (list_all is_held_back c.processors && is_gathering c) (is_first_processor_up t c) may in
      let any = some_if_all t c.processors (and_right (list_all is_held_back c.processors && is_gathering c) (is_first_processor_up t c) may) (and_left (list_all is_held_back c.processors) (is_gathering c) gathered) in
      fits_after_decide g t r c pool at ((known.sound r c at).gathers (and_right (list_all is_held_back c.processors) (is_gathering c) gathered) any).1 known.one fits

  n_parts : (t : ℕ) → KeptByParts g t (λ pool action. Enabled g t pool action × IsKnownPool g pool) N
  n_parts t = record {
    cores = λ cores pool like. n_like cores pool (like_map KeepsCore Holds pool.resources cores (λ c d keeps. holds_same c d keeps.cur keeps.saving) like);
    domains = λ d f pool count moving fits. fits;
    queues = λ u pool runs fits. fits;
    dequeues = λ d pool fits. fits;
    decides = λ r c pool at on. n_after_decide t r c pool at on.0 on.1;
    saves = λ r c u pool at is on. n_change_core r pools.saved_core pool (λ x. record { cur = refl; saving = inr refl });
    replenishes = λ u pool on. fits_records pool.scheduler.records (policy.records_after_replenish pool.scheduler.records t u) pool.resources (records_lemmas.same_replenish kept_of no_credit2 no_rtds pool.scheduler.records t u);
    dues = λ r u x old pool on is. n_change_core r (pools.due_within t x.budget) pool (λ c. holds_same c _ refl refl);
    refills = λ d pool on. fits_records pool.scheduler.records (policy.records_after_refill pool.scheduler.records t d) pool.resources (records_lemmas.same_refill kept_of no_credit2 no_rtds pool.scheduler.records t d);
  }

  n_commands : KeptByCommands g N
  n_commands = commands_of (n_parts 0)

  n_set_params : (change : ParamChange) (t : ℕ) (pool : Pool) → N pool → N (changed_pool change t pool)
  n_set_params change t pool fits =
      kept_marked n_commands t (λ d next. n_like _ next (like_of_domain Holds d (capped t) next.resources holds_itself (λ c. holds_same c _ refl refl)))
      change (record pool { scheduler = policy.changed_scheduler change t pool.scheduler })
      (fits_records pool.scheduler.records (changed_records pool.scheduler.records change t) pool.resources (same_frame pool.scheduler.records change t) fits)

  n_with_domain : (t d : ℕ) (domain : Domain) (params : DomParams) (pool : Pool) → N pool → N (pool_with_domain g t d domain params pool)
  n_with_domain t d domain params pool fits =
      kept_queue_units n_commands d (numbers_from 0 (pools.domain_unit_count g domain)) (record pool { domains = put_at d domain pool.domains; scheduler = policy.joined_scheduler d (pools.domain_unit_count g domain) params t pool.scheduler })
      (fits_records pool.scheduler.records (joined_records pool.scheduler.records params d (pools.domain_unit_count g domain) t) pool.resources (records_lemmas.same_joined kept_of no_credit2 no_rtds pool.scheduler.records params d (pools.domain_unit_count g domain) t) fits)

  n_core_comes : (r : ℕ) (ends : List Moment) (pool : Pool) → N pool → N (record pool { resources = put_at r (joined_core ends) pool.resources })
  n_core_comes r ends pool fits kept is =
      let before : KeptFits kept pool.resources = fits kept is in
      record {
        count = before.count ∙ sym (length_set r (Some (joined_core ends)) pool.resources);
        cur = λ k d at u own. elim (read_put_at r k (joined_core ends) pool.resources d at) [
          | inl was ↦ before.cur k d was u own
          | inr new ↦ absurd (let e : None ≡ Some u = ap (λ (x : Resource). x.cur) new.1 ∙ own in cc)
        ];
        saving = λ k d at u saves q at_q. elim (read_put_at r k (joined_core ends) pool.resources d at) [
          | inl was ↦ before.saving k d was u saves q at_q
          | inr new ↦ absurd (let e : None ≡ Some u = ap (λ (x : Resource). x.saving) new.1 ∙ saves in cc)
        ];
        once = before.once;
      }

  n_core_goes : (r : ℕ) (pool : Pool) → N pool → N (record pool { resources = clear_at r pool.resources })
  n_core_goes r pool fits =
      fits_come pool.scheduler.records pool.resources (clear_at r pool.resources) (length_set r None pool.resources)
      (λ k d at. (d, (read_clear_at r k pool.resources d at).1, holds_itself d)) fits

  not_of : (d : ℕ) (o : Option UnitId) (u : UnitId) → is_domain_unit d o ≡ false → o ≡ Some u → (u.dom.0 == d) ≡ false
  not_of d o u none is = subst (λ x. is_domain_unit d x ≡ false) is none

  n_without_domain : (t d : ℕ) (pool : Pool) → enabled_in g t pool (DomMoved (domain_number d)) ≡ true → N pool → N (pool_without_domain d pool)
  n_without_domain t d pool on fits = by_records pool.scheduler.records fits
    where
      none : EachPlace (λ (x : Resource). (is_domain_unit d x.cur || is_domain_unit d x.saving) ≡ false) pool.resources
      none = at_numbered (λ (x : Resource). (is_domain_unit d x.cur || is_domain_unit d x.saving) ≡ false) 0 pool.resources (none_passes _ _ (not-true _ (and_right (test_at pool.domains d (λ x. is_some x.moving)) _ on)))

      less : List (Option UnitId) → List (Option UnitId)
      less kept = null.kept_without (λ u. u.dom.0 == d) kept

      by_records : (records : Records) → NullFits records pool.resources → NullFits (parted_records records d) pool.resources
      by_records (NullPool kept) before =
          let fit : KeptFits kept pool.resources = before kept refl in
          null_fits (less kept) pool.resources (record {
            count = length_released (λ u. u.dom.0 == d) kept ∙ fit.count;
            cur = λ r c at u own. at_released (λ u. u.dom.0 == d) kept r u (fit.cur r c at u own) (not_of d c.cur u (or_left (is_domain_unit d c.cur) (is_domain_unit d c.saving) (none r c at)) own);
            saving = λ r c at u saves q at_q. fit.saving r c at u saves q (read_released (λ u. u.dom.0 == d) kept q u at_q).0;
            once = λ q r u at_q at_r. fit.once q r u (read_released (λ u. u.dom.0 == d) kept q u at_q).0 (read_released (λ u. u.dom.0 == d) kept r u at_r).0;
          })
      by_records any before = fits_none (parted_records any d) pool.resources refl

nowhere : (n : ℕ) (r : ℕ) (u : UnitId) → at_place (replicate n None) r ≡ Some u → ⊥
nowhere n r u at = EachPlace-empty {X = UnitId} (λ x. ⊥) n r u at

-- a pool that keeps no core for a unit, with fresh cores
n_opened : (params : PoolParams) (domains count : ℕ) (cores : List (Option Resource)) → length cores ≡ count → EachPlace IsFresh cores → NullFits (empty_records params domains count) cores
n_opened pool_params.Null domains count cores whole fresh =
    null_fits (replicate count None) cores (record {
      count = length-replicate count None ∙ sym whole;
      cur = λ r c at u own. absurd (let f = fresh r c at in let e : None ≡ Some u = sym (ap (λ (x : Resource). x.cur) f.1) ∙ own in cc);
      saving = λ r c at u saves q at_q. absurd (nowhere count q u at_q);
      once = λ q r u at_q at_r. absurd (nowhere count q u at_q);
    })
n_opened other domains count cores whole fresh = fits_none (empty_records other domains count) cores refl

-- what is kept of every pool, a null pool or not
pub record IsKeptPool (g : ℕ) (pool : Pool) : Type 0 where
  pub known : IsKnownPool g pool
  pub fits : NullFits pool.scheduler.records pool.resources

pub null_is_kept : (g : ℕ) → 0 < g → IsKept g (IsKeptPool g)
null_is_kept g some =
    let known : IsKept g (IsKnownPool g) = known_pools g some in
    record {
      inside = record {
        settles = λ t pool k. record { known = known.inside.settles t pool k.known; fits = kept_settled (n_commands g) t pool k.fits };
        stalls = λ p end pool k. record { known = known.inside.stalls p end pool k.known; fits = kept_processor (n_parts g 0) p (λ q. record q { stall_end = moment end }) pool k.fits };
        acts = λ t pool action on k. record { known = known.inside.acts t pool action on k.known; fits = kept_by_parts (n_parts g t) pool action (on, k.known) k.fits };
        leaves = λ r pool k. record { known = known.inside.leaves r pool k.known; fits = kept_set_leaving (n_commands g) r pool k.fits };
        moves = λ d i pool k. record { known = known.inside.moves d i pool k.known; fits = kept_withdrawn (n_commands g) d (change_domain d (λ x. record x { moving = Some (pool_number i) }) pool) k.fits };
        pauses = λ d pool k. record { known = known.inside.pauses d pool k.known; fits = kept_pause (n_commands g) d pool k.fits };
        unpauses = λ d pool k. record { known = known.inside.unpauses d pool k.known; fits = kept_unpause (n_commands g) d pool k.fits };
        changes = λ change t pool k. record { known = known.inside.changes change t pool k.known; fits = n_set_params g change t pool k.fits };
      };
      core_comes = λ r ends pool none k. record { known = known.core_comes r ends pool none k.known; fits = n_core_comes g r ends pool k.fits };
      core_goes = λ t r pool on k. record { known = known.core_goes t r pool on k.known; fits = n_core_goes g r pool k.fits };
      domain_comes = λ t d domain params pool stays none k. record { known = known.domain_comes t d domain params pool stays none k.known; fits = n_with_domain g t d domain params pool k.fits };
      domain_goes = λ t d pool on k. record { known = known.domain_goes t d pool on k.known; fits = n_without_domain g t d pool on k.fits };
      empty = λ config params. record { known = known.empty config params; fits = n_opened params (length config.domains) (machine_core_count config) _ (length-replicate (machine_core_count config) None) (EachPlace-empty IsFresh (machine_core_count config)) };
      opens = λ config params cores whole fresh. record { known = known.opens config params cores whole fresh; fits = n_opened params (length config.domains) (machine_core_count config) cores whole fresh };
    }
