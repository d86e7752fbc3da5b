-- Each core has all its processors, and until the due of a core that is neither leaving nor pending the window of its pool stays the same.
use Rattle.std.proofs.Common.{◌≡◌, ◌<◌, ◌≤◌, ℕ, true, false, List, refl, arith, subst, sym, ◌∙◌, ap, Bool}
use Rattle.std.specs.Prelude.{Option, Some, None, length, nat_le}
use Rattle.sched_base.specs.declared.Moment.{Moment}
use Rattle.sched_base.specs.declared.UnitId.{UnitId}
use Rattle.sched_model.specs.declared.config.ParamChange.{ParamChange}
use Rattle.sched_model.specs.declared.config.DomParams.{DomParams}
use Rattle.sched_model.specs.declared.config.ParamChange.TheVariants as changes
use Rattle.sched_model.specs.declared.config.Frame.{Frame}
use Rattle.sched_model.specs.declared.state.Domain.{Domain}
use Rattle.sched_model.specs.declared.state.Resource.{Resource}
use Rattle.sched_model.specs.Places.{at_place, put_at, clear_at, numbers_from}
use Rattle.sched_model.specs.declared.state.Pool.{Pool}
use Rattle.sched_model.specs.declared.state.Scheduler.{Scheduler}
use Rattle.sched_model.specs.declared.state.Records.{Records}
use Rattle.sched_model.specs.declared.state.Credit2Records.{Credit2Records}
use Rattle.sched_model.specs.declared.state.ArincRecords.{ArincRecords}
use Rattle.sched_model.specs.declared.state.RtdsUnit.{RtdsUnit}
use Rattle.sched_model.specs.declared.state.Records.TheVariants.{Credit2Pool, RtdsPool, ArincPool}
use Rattle.sched_model.specs.Opening.{joined_core}
use Rattle.sched_model.specs.Arinc.{frame_window, current_window_unit, current_window}
use Rattle.sched_model.specs.declared.ask.Ask.{Ask}
use Rattle.sched_model.specs.EligibleUnits.{Decision}
use Rattle.sched_model.specs.Policy as policy
use Rattle.sched_model.specs.Policy.{unit_rtds_record, decision_of, decision_by, arinc_decision, changed_records, joined_records, parted_records}
use Rattle.sched_model.specs.Pool as pools
use Rattle.sched_model.specs.Pool.{change_core, change_cores_of, decided_core as decided, same_choice, core_ask, pending_core, changed_pool, pool_without_domain, pool_with_domain}
use Rattle.std.proofs.lemmas.List.{length-map}
use Rattle.sched_laws.specs.EachPlace.{EachPlace}
use Rattle.sched_laws.proofs.EachPlace.{EachPlace-change_at, EachPlace-put_at, EachPlace-clear_at, read_change_each, by_option, by_test}
use Rattle.sched_base.specs.Numbers.{span, has_moment_come}
use Rattle.sched_base.specs.declared.Span.{Span}
use Rattle.std.specs.Prelude.{unwrap_or}
use Rattle.sched_model.specs.Commands.{pool_with_rtds_unit}
use Rattle.sched_laws.proofs.Fits.{ChangeFits}
use Rattle.sched_laws.proofs.Records as records_lemmas
use Rattle.sched_laws.proofs.Records.{IsNoFrame}
use Rattle.sched_laws.proofs.Window.{FitsMajor, unit_steady}
use Rattle.sched_base.proofs.Bools.{false_before}
use Rattle.sched_laws.proofs.Events.{LikePlaces, EachAt-like, capped, like_of_domain, KeepsCore, Anyway, KeptByCommands, KeptByParts, commands_of, kept_marked, kept_queue_units}
use Rattle.sched_laws.proofs.EachPlace.{length_set, length_change_each}

-- what ARINC 653 keeps of the pool, where the pool has windows
abbrev pub arinc_of : Records → Option ArincRecords
arinc_of (ArincPool records) = Some records
arinc_of any = None

-- the unit that the window is for, where the pool has windows
abbrev pub window_of : Records → ℕ → Option UnitId
window_of records t = elim (arinc_of records) as (λ _. Option UnitId) [ None ↦ None | Some arinc ↦ current_window_unit arinc t ]

-- the runs of the pool's frame, if it has one, fit its major span
abbrev pub FrameFits : Records → Type 0
FrameFits records = (arinc : ArincRecords) (frame : Frame) → arinc_of records ≡ Some arinc → arinc.frame ≡ Some frame → FitsMajor frame

-- records with the same windows
abbrev pub SameWindows : Records → Records → Type 0
SameWindows a b = arinc_of b ≡ arinc_of a

windows_same : (a b : Records) (t : ℕ) → SameWindows a b → window_of b t ≡ window_of a t
windows_same a b t same = ap (λ (o : Option ArincRecords). elim o as (λ _. Option UnitId) [ None ↦ None | Some arinc ↦ current_window_unit arinc t ]) same

pub record CoreFits (g t : ℕ) (records : Records) (c : Resource) : Type 0 where
  pub processors : length c.processors ≡ g
  pub due : c.leaving ≡ false → c.pending ≡ false → (later : ℕ) → t ≤ later → has_moment_come later c.due ≡ false → window_of records later ≡ window_of records t

pub record PoolFits (n g t : ℕ) (records : Records) (places : List (Option Resource)) : Type 0 where
  pub count : length places ≡ n
  pub frame : FrameFits records
  pub cores : EachPlace (CoreFits g t records) places

-- only ARINC 653 has windows
no_credit2 : (a b : Credit2Records) → arinc_of (Credit2Pool a) ≡ arinc_of (Credit2Pool b)
no_credit2 a b = refl

no_rtds : (a b : List (Option (List RtdsUnit))) → arinc_of (RtdsPool a) ≡ arinc_of (RtdsPool b)
no_rtds a b = refl

pub same_joined : (records : Records) (params : DomParams) (d count t : ℕ) → SameWindows records (joined_records records params d count t)
same_joined = records_lemmas.same_joined arinc_of no_credit2 no_rtds

pub same_changed : (records : Records) (change : ParamChange) (t : ℕ) → IsNoFrame change → SameWindows records (changed_records records change t)
same_changed = records_lemmas.same_changed arinc_of no_credit2 no_rtds

pub same_parted : (records : Records) (d : ℕ) → SameWindows records (parted_records records d)
same_parted (Credit2Pool records) d = refl
same_parted records d = refl

frame_changed : (records : Records) (frame : Frame) (t : ℕ) → FitsMajor frame → FrameFits records → FrameFits (changed_records records (changes.Frame frame) t)
frame_changed (ArincPool records) frame t good fits arinc other is has =
    let e : ◌≡◌ {A = ArincRecords} (record { frame = Some frame; installed = t }) arinc = cc in
    let f : Some frame ≡ Some other = ap (λ (a : ArincRecords). a.frame) e ∙ has in
    let g : frame ≡ other = cc in
    subst FitsMajor g good
frame_changed any frame t good fits arinc other is has = absurd (cc)

-- a unit with an RTDS record is in a pool without windows
no_windows : (records : Records) (u : UnitId) (x : RtdsUnit) → unit_rtds_record records u ≡ Some x → (a b : ℕ) → window_of records a ≡ window_of records b
no_windows (ArincPool records) u x is a b = absurd (cc)
no_windows any u x is a b = refl

same_decision : (records : Records) (ask : Ask) (scheduler : Scheduler) → scheduler.records ≡ records → SameWindows records (decision_by records ask scheduler).records
same_decision = records_lemmas.same_decision arinc_of no_credit2 no_rtds (λ a b. refl)

not_come : (later n : ℕ) → nat_le n later ≡ false → later < n
not_come later n is = grind arith

-- until the due of a decision the window is the same
due_steady : (records : Records) (ask : Ask) (scheduler : Scheduler) → FrameFits records → ask.leaving ≡ false → (later : ℕ) → ask.at.0 ≤ later → has_moment_come later (decision_by records ask scheduler).due ≡ false → window_of records later ≡ window_of records ask.at.0
due_steady (ArincPool records) ask scheduler fits stays later past low = by_frame records.frame refl
  where
    by_frame : (frame : Option Frame) → records.frame ≡ frame → window_of (ArincPool records) later ≡ window_of (ArincPool records) ask.at.0
    by_frame None is = rw (current_window_unit, current_window, is) refl
    by_frame (Some frame) is =
        let low2 : has_moment_come later (arinc_decision ask scheduler (Some (frame_window records.installed frame ask.at.0))).due ≡ false = rw (stays, current_window, is) at low in
        let steady = unit_steady records.installed frame ask.at.0 later (fits records frame refl is) past (not_come later (frame_window records.installed frame ask.at.0).until low2) in
        rw (current_window_unit, current_window, is) steady
due_steady any ask scheduler fits stays later past low = refl

module _ (n g t : ℕ) where
  abbrev pub D : Pool → Type 0
  D pool = PoolFits n g t pool.scheduler.records pool.resources

  -- a core that keeps its due, or becomes pending
  fits_kept : (records : Records) (c d : Resource) → KeepsCore c d → CoreFits g t records c → CoreFits g t records d
  fits_kept records c d keeps fits = record {
    processors = keeps.count ∙ fits.processors;
    due = λ stays decided later past low. fits.due (false_before c.leaving d.leaving keeps.leaving stays) (false_before c.pending d.pending keeps.pending decided) later past (ap (has_moment_come later) (sym keeps.due) ∙ low);
  }

  fits_pending : (records : Records) (c d : Resource) → length d.processors ≡ length c.processors → d.pending ≡ true → CoreFits g t records c → CoreFits g t records d
  fits_pending records c d same pending fits = record { processors = same ∙ fits.processors; due = λ stays decided later past low. absurd (let e : true ≡ false = sym pending ∙ decided in cc) }

  fits_records : (a b : Records) (c : Resource) → SameWindows a b → CoreFits g t a c → CoreFits g t b c
  fits_records a b c same fits = record { processors = fits.processors; due = λ stays decided later past low. windows_same a b later same ∙ fits.due stays decided later past low ∙ sym (windows_same a b t same) }

  pub d_records : (a b : Records) (places : List (Option Resource)) → SameWindows a b → PoolFits n g t a places → PoolFits n g t b places
  d_records a b places same fits = record { count = fits.count; frame = λ arinc frame is has. fits.frame arinc frame (sym same ∙ is) has; cores = λ r c at. fits_records a b c same (fits.cores r c at) }

  d_change_core : (r : ℕ) (f : Resource → Resource) (pool : Pool) → ((c : Resource) → at_place pool.resources r ≡ Some c → CoreFits g t pool.scheduler.records c → CoreFits g t pool.scheduler.records (f c)) → D pool → D (change_core r f pool)
  d_change_core r f pool keeps fits = record {
    count = length_set r _ pool.resources ∙ fits.count;
    frame = fits.frame;
    cores = EachPlace-change_at (CoreFits g t pool.scheduler.records) r f pool.resources fits.cores keeps;
  }

  d_after_decide : (r : ℕ) (c : Resource) (pool : Pool) → at_place pool.resources r ≡ Some c → D pool → D (pools.after_decide g t r c pool)
  d_after_decide r c pool at fits =
      let ask : Ask = core_ask g t pool r c in
      let records : Records = pool.scheduler.records in
      let decision : Decision = decision_of ask pool.scheduler in
      let same : SameWindows records decision.records = same_decision records ask pool.scheduler refl in
      let here : CoreFits g t records c = fits.cores r c at in
      let now_decided : (d : Resource) → d.processors ≡ c.processors → d.leaving ≡ c.leaving → d.due ≡ decision.due → CoreFits g t decision.records d =
      λ d processors leaving due. record {
        processors = ap length processors ∙ here.processors;
        due = λ stays decided2 later past low. windows_same records decision.records later same ∙ due_steady records ask pool.scheduler fits.frame (sym leaving ∙ stays) later past (ap (has_moment_come later) (sym due) ∙ low) ∙ sym (windows_same records decision.records t same);
      } in
      record {
        count = length_set r _ pool.resources ∙ fits.count;
        frame = (d_records records decision.records pool.resources same fits).frame;
        cores = EachPlace-put_at (CoreFits g t decision.records) r (decided t decision c) pool.resources (d_records records decision.records pool.resources same fits).cores
            (by_test (CoreFits g t decision.records) (same_choice decision.unit c.cur) _ _ (λ is. now_decided _ refl refl refl) (λ is. now_decided _ refl refl refl));
      }

  pub d_parts : KeptByParts g t Anyway D
  d_parts = record {
    cores = λ cores pool like fits. record {
      count = like.count ∙ fits.count;
      frame = fits.frame;
      cores = EachAt-like KeepsCore (λ r. CoreFits g t pool.scheduler.records) pool.resources cores like (λ r c d. fits_kept pool.scheduler.records c d) fits.cores;
    };
    domains = λ d f pool count moving fits. fits;
    queues = λ u pool runs fits. fits;
    dequeues = λ d pool fits. fits;
    decides = λ r c pool at on. d_after_decide r c pool at;
    saves = λ r c u pool at is on. d_change_core r pools.saved_core pool (λ x there old. record { processors = old.processors; due = old.due });
    replenishes = λ u pool on. d_records pool.scheduler.records (policy.records_after_replenish pool.scheduler.records t u) pool.resources (records_lemmas.same_replenish arinc_of no_credit2 no_rtds pool.scheduler.records t u);
    dues = λ r u x old pool on is. d_change_core r (pools.due_within t x.budget) pool (λ c at here. record { processors = here.processors; due = λ stays decided later past low. no_windows pool.scheduler.records u x is later t });
    refills = λ d pool on. d_records pool.scheduler.records (policy.records_after_refill pool.scheduler.records t d) pool.resources (records_lemmas.same_refill arinc_of no_credit2 no_rtds pool.scheduler.records t d);
  }

  pub d_commands : KeptByCommands g D
  d_commands = commands_of d_parts

  d_caps : (d : ℕ) (pool : Pool) → D pool → D (change_cores_of d (capped t) pool)
  d_caps d pool fits =
      let Fits : Resource → Type 0 = CoreFits g t pool.scheduler.records in
      let like : LikePlaces (λ c e. Fits c → Fits e) pool.resources (change_cores_of d (capped t) pool).resources = like_of_domain (λ c e. Fits c → Fits e) d (capped t) pool.resources (λ c here. here) (λ c. fits_pending pool.scheduler.records c _ refl refl) in
      record { count = like.count ∙ fits.count; frame = fits.frame; cores = EachAt-like (λ c e. Fits c → Fits e) (λ r. Fits) pool.resources _ like (λ r c e to. to) fits.cores }

  d_changed : (change : ParamChange) (pool : Pool) → IsNoFrame change → D pool → D (record pool { scheduler = policy.changed_scheduler change t pool.scheduler })
  d_changed change pool none fits = d_records pool.scheduler.records (changed_records pool.scheduler.records change t) pool.resources (same_changed pool.scheduler.records change t none) fits

  d_marked : (change : ParamChange) (pool : Pool) → IsNoFrame change → D pool → D (changed_pool change t pool)
  d_marked change pool none fits = kept_marked d_commands t d_caps change (record pool { scheduler = policy.changed_scheduler change t pool.scheduler }) (d_changed change pool none fits)

  pub d_set_params : (change : ParamChange) (pool : Pool) → ChangeFits change → D pool → D (changed_pool change t pool)
  d_set_params (changes.Dom d weight percent) pool good fits = d_marked (changes.Dom d weight percent) pool tt fits
  d_set_params (changes.Rate limit) pool good fits = d_marked (changes.Rate limit) pool tt fits
  d_set_params (changes.«Unit» u period budget extra) pool good fits = absurd good
  d_set_params (changes.Frame frame) pool good fits = record {
    count = length_change_each 0 _ pool.resources ∙ fits.count;
    frame = frame_changed pool.scheduler.records frame t good.0 fits.frame;
    cores = λ r c at. (
        let old = read_change_each r (λ k x. pending_core x) pool.resources c at in
        subst (CoreFits g t (changed_records pool.scheduler.records (changes.Frame frame) t)) old.2
        (record { processors = (fits.cores r old.0 old.1).processors; due = λ stays decided2 later past low. absurd (cc) }));
  }
  d_set_params (changes.Pin d unit cores) pool good fits = d_marked (changes.Pin d unit cores) pool tt fits

  pub d_set_rtds_unit : (period budget : Option Span) (extra : Option Bool) (u : UnitId) (pool : Pool) → D pool → D (pool_with_rtds_unit t period budget extra u pool)
  d_set_rtds_unit period budget extra u pool fits =
      by_option D (unit_rtds_record pool.scheduler.records u) _ _ (λ is. fits)
      (λ x is. d_changed (changes.«Unit» u (unwrap_or period (span x.next_period)) (unwrap_or budget (span x.next_budget)) (unwrap_or extra x.next_extra)) pool tt fits)

  pub d_with_domain : (d : ℕ) (domain : Domain) (params : DomParams) (pool : Pool) → D pool → D (pool_with_domain g t d domain params pool)
  d_with_domain d domain params pool fits =
      kept_queue_units d_commands d (numbers_from 0 (pools.domain_unit_count g domain)) (record pool { domains = put_at d domain pool.domains; scheduler = policy.joined_scheduler d (pools.domain_unit_count g domain) params t pool.scheduler })
      (d_records pool.scheduler.records (joined_records pool.scheduler.records params d (pools.domain_unit_count g domain) t) pool.resources (same_joined pool.scheduler.records params d (pools.domain_unit_count g domain) t) fits)

  pub d_core_comes : (r : ℕ) (ends : List Moment) (pool : Pool) → length ends ≡ g → D pool → D (record pool { resources = put_at r (joined_core ends) pool.resources })
  d_core_comes r ends pool whole fits = record {
    count = length_set r _ pool.resources ∙ fits.count;
    frame = fits.frame;
    cores = EachPlace-put_at (CoreFits g t pool.scheduler.records) r (joined_core ends) pool.resources fits.cores (record { processors = length-map ends _ ∙ whole; due = λ stays decided2 later past low. absurd (cc) });
  }

  pub d_core_goes : (r : ℕ) (pool : Pool) → D pool → D (record pool { resources = clear_at r pool.resources })
  d_core_goes r pool fits = record { count = length_set r None pool.resources ∙ fits.count; frame = fits.frame; cores = EachPlace-clear_at (CoreFits g t pool.scheduler.records) r pool.resources fits.cores }

  pub d_without_domain : (d : ℕ) (pool : Pool) → D pool → D (pool_without_domain d pool)
  d_without_domain d pool fits = d_records pool.scheduler.records (parted_records pool.scheduler.records d) pool.resources (same_parted pool.scheduler.records d) fits

not_le : (d later sooner : ℕ) → sooner ≤ later → nat_le d later ≡ false → nat_le d sooner ≡ false
not_le d later sooner past low = grind arith

-- a due that has not come had not come before
pub not_yet : (later sooner : ℕ) (due : Option Moment) → sooner ≤ later → has_moment_come later due ≡ false → has_moment_come sooner due ≡ false
not_yet later sooner None past low = refl
not_yet later sooner (Some d) past low = not_le d.0 later sooner past low

-- time passes
pub d_later : (n g t next : ℕ) → t ≤ next → (records : Records) (places : List (Option Resource)) → PoolFits n g t records places → PoolFits n g next records places
d_later n g t next past records places fits = record {
  count = fits.count;
  frame = fits.frame;
  cores = λ r c at. (
      let here : CoreFits g t records c = fits.cores r c at in
      record {
        processors = here.processors;
        due = λ stays decided later past2 low. here.due stays decided later (omega (arith, past, past2)) low ∙ sym (here.due stays decided next past (not_yet later next c.due past2 low));
      });
}
