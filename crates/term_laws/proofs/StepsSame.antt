-- What is followed of a capped domain in its pool: its Credit2 record, and the cores that have its units.
use Rattle.std.proofs.Common.{◌≡◌, ◌≢◌, ℕ, true, List, refl, ap, subst, ◌∙◌, sym}
use Rattle.std.specs.Prelude.{Option, Some, None, option_map, ◌%◌}
use Rattle.std.proofs.Math.Decide.{ℕ_discrete}
use Rattle.sched_base.specs.declared.UnitId.{UnitId}
use Rattle.sched_model.specs.declared.config.DomParams.{DomParams}
use Rattle.sched_model.specs.declared.config.DomParams.TheVariants as dom_params
use Rattle.sched_model.specs.declared.config.ParamChange.{ParamChange}
use Rattle.sched_model.specs.declared.config.ParamChange.TheVariants as changes
use Rattle.sched_model.specs.declared.action.Action.{Action}
use Rattle.sched_model.specs.declared.machine.Machine.{Machine}
use Rattle.sched_model.specs.declared.state.State.{State}
use Rattle.sched_model.specs.declared.state.Pool.{Pool}
use Rattle.sched_model.specs.Machine.{after, after_dom_moved, is_action_enabled}
use Rattle.sched_laws.proofs.Kept.{IsApart}
use Rattle.sched_model.specs.declared.state.Records.{Records}
use Rattle.sched_model.specs.declared.state.RtdsUnit.{RtdsUnit}
use Rattle.sched_model.specs.declared.state.Credit2Unit.{Credit2Unit}
use Rattle.sched_model.specs.declared.state.Credit2Domain.{Credit2Domain}
use Rattle.sched_model.specs.declared.state.Credit2Records.{Credit2Records}
use Rattle.sched_model.specs.declared.state.Records.TheVariants.{Credit2Pool, RtdsPool}
use Rattle.sched_model.specs.Places.{at_place, change_at, test_at}
use Rattle.sched_model.specs.Credit2.{most_weight, domain_with_weight, domain_with_cap, change_domain}
use Rattle.sched_model.specs.Policy as policy
use Rattle.sched_model.specs.Policy.{domain_credit2_record, unit_rtds_record, changed_records, joined_records, parted_records, standard_dom_params}
use Rattle.sched_model.specs.Pool.{settled_pool}
use Rattle.term_laws.proofs.AtPlaces.{at_place-change_at, at_place-change_at_other, at_place-set_other}
use Rattle.term_laws.proofs.AtHome.{IsNoDom}
use Rattle.term_laws.proofs.Same as same
use Rattle.term_laws.proofs.Same.{Followed}
use Rattle.term_laws.proofs.StepsDomain.{Kept, kept_same, kept_trans, kept_map}

-- the domain's record goes on: its cap and budget stay, and its running units are charged at most
pub record RecordGoes (x y : Credit2Domain) : Type 0 where
  pub cap : y.cap ≡ x.cap
  pub budget : y.budget ≡ x.budget
  pub units : (n : ℕ) → Kept x y n

pub record_same : (x : Credit2Domain) → RecordGoes x x
record_same x = record { cap = refl; budget = refl; units = λ n. kept_same x x n refl }

pub record_trans : (x y z : Credit2Domain) → RecordGoes x y → RecordGoes y z → RecordGoes x z
record_trans x y z a b = record { cap = b.cap ∙ a.cap; budget = b.budget ∙ a.budget; units = λ n. kept_trans x y z n a.cap (a.units n) (b.units n) }

-- the record that is there goes on, if any is
pub record SameRecord (o o2 : Option Credit2Domain) : Type 0 where
  pub none : o ≡ None → o2 ≡ None
  pub some : (x : Credit2Domain) → o ≡ Some x → (y : Credit2Domain) × (o2 ≡ Some y) × RecordGoes x y

pub same_record : (o o2 : Option Credit2Domain) → o2 ≡ o → SameRecord o o2
same_record o o2 same = record { none = λ is. same ∙ is; some = λ x is. (x, same ∙ is, record_same x) }

-- a record that is changed, and goes on
pub record_map : (f : Credit2Domain → Credit2Domain) (o : Option Credit2Domain) → ((x : Credit2Domain) → RecordGoes x (f x)) → SameRecord o (option_map f o)
record_map f None goes = record { none = λ is. refl; some = λ x is. absurd (cc) }
record_map f (Some y) goes = record { none = λ is. absurd (cc); some = λ x is. (let e : y ≡ x = cc in (f x, ap (λ (z : Credit2Domain). Some (f z)) e, goes x)) }

pub record_trans2 : (a b c : Option Credit2Domain) → SameRecord a b → SameRecord b c → SameRecord a c
record_trans2 a b c f g = record { none = λ is. g.none (f.none is); some = λ x is. (let y = f.some x is in let z = g.some y.0 y.1 in (z.0, z.1, record_trans x y.0 z.0 y.2 z.2)) }

-- a change of one place of the records
pub record_change : (e d : ℕ) (f : Credit2Domain → Credit2Domain) (places : List (Option Credit2Domain)) → ((x : Credit2Domain) → RecordGoes x (f x)) → SameRecord (at_place places d) (at_place (change_at e f places) d)
record_change e d f places goes =
    elim (ℕ_discrete e d) [
      | yes same ↦ subst (λ (n : ℕ). SameRecord (at_place places n) (at_place (change_at e f places) n)) same (subst (SameRecord (at_place places e)) (sym (at_place-change_at e f places)) (record_map f (at_place places e) goes))
      | no differs ↦ same_record (at_place places d) (at_place (change_at e f places) d) (at_place-change_at_other e d f places differs)
    ]

-- a new weight
pub weight_goes : (weight : Option ℕ) (x : Credit2Domain) → RecordGoes x (domain_with_weight weight x)
weight_goes None x = record_same x
weight_goes (Some weight) x = record {
  cap = refl;
  budget = refl;
  units = λ n. record { goes = λ stop s. (let k = (kept_map (λ (y : Credit2Unit). record y { residual = y.residual % weight }) x n (λ y. (refl, refl))).goes stop s in (k.0, record { unit = k.1.unit; at = k.1.at; from = k.1.from; burned = k.1.burned; sum = k.1.sum }, k.2)) };
}

-- a domain's Credit2 record is there; it goes on
abbrev pub HasRecord : ℕ → Records → Type 0
HasRecord d a = (x : Credit2Domain) × (domain_credit2_record a d ≡ Some x)

abbrev pub LikeRecord : ℕ → Records → Records → Type 0
LikeRecord d a b = SameRecord (domain_credit2_record a d) (domain_credit2_record b d)

-- a setting of the weight, or of another domain's cap
abbrev pub SetsOther : ℕ → ℕ → Option ℕ → Type 0
SetsOther d e None = Unit {0}
SetsOther d e (Some n) = e ≢ d

-- a change that sets no cap of the domain
abbrev SetsNoCap : ℕ → ParamChange → Type 0
SetsNoCap d (changes.Dom e weight limit) = SetsOther d e.0 limit
SetsNoCap d _ = Unit {0}

module _ (d t : ℕ) where
  weighed : (e : ℕ) (weight : Option ℕ) (own : Credit2Records) → SameRecord (at_place own.domains d) (at_place (change_at e (domain_with_weight weight) own.domains) d)
  weighed e weight own = record_change e d (domain_with_weight weight) own.domains (weight_goes weight)

  changed : (records : Records) (change : ParamChange) → SetsNoCap d change → SameRecord (domain_credit2_record records d) (domain_credit2_record (changed_records records change t) d)
  changed (Credit2Pool own) (changes.Dom e weight None) none =
      record_trans2 (at_place own.domains d) (at_place (change_at e.0 (domain_with_weight weight) own.domains) d) _ (weighed e.0 weight own)
      (record_change e.0 d (domain_with_cap (most_weight (change_domain e.0 (domain_with_weight weight) own)) t None) (change_at e.0 (domain_with_weight weight) own.domains) (λ x. record_same x))
  changed (Credit2Pool own) (changes.Dom e weight (Some n)) other =
      record_trans2 (at_place own.domains d) (at_place (change_at e.0 (domain_with_weight weight) own.domains) d) _ (weighed e.0 weight own)
      (same_record (at_place (change_at e.0 (domain_with_weight weight) own.domains) d) _ (at_place-change_at_other e.0 d (domain_with_cap (most_weight (change_domain e.0 (domain_with_weight weight) own)) t (Some n)) (change_at e.0 (domain_with_weight weight) own.domains) other))
  changed (Credit2Pool own) (changes.Rate limit) none = same_record (at_place own.domains d) (at_place own.domains d) refl
  changed (Credit2Pool own) (changes.«Unit» u period budget extra) none = same_record (at_place own.domains d) (at_place own.domains d) refl
  changed (Credit2Pool own) (changes.Frame frame) none = same_record (at_place own.domains d) (at_place own.domains d) refl
  changed (Credit2Pool own) (changes.Pin e unit cores) none = same_record (at_place own.domains d) (at_place own.domains d) refl
  changed records (changes.Frame frame) none = same_record None None refl
  changed records change none = same_record None None refl

module _ (d : ℕ) where
  -- the refill of another domain
  refill_other : (t e : ℕ) (records : Records) → e ≢ d → domain_credit2_record (policy.records_after_refill records t e) d ≡ domain_credit2_record records d
  refill_other t e (Credit2Pool own) other = at_place-change_at_other e d _ own.domains other
  refill_other t e (RtdsPool domains) other = refl
  refill_other t e records other = refl

  -- a replenishment, which changes no Credit2 pool
  replenish_record : (t : ℕ) (u : UnitId) (records : Records) → domain_credit2_record (policy.records_after_replenish records t u) d ≡ domain_credit2_record records d
  replenish_record t u (Credit2Pool own) = refl
  replenish_record t u records = refl

  no_rtds : (u : UnitId) (records : Records) (x : Credit2Domain) (y : RtdsUnit) → domain_credit2_record records d ≡ Some x → unit_rtds_record records u ≡ Some y → ⊥
  no_rtds u (Credit2Pool own) x y at is = cc
  no_rtds u records x y at is = cc

  -- another domain leaves or joins
  parted : (e : ℕ) → e ≢ d → (records : Records) → domain_credit2_record (parted_records records e) d ≡ domain_credit2_record records d
  parted e other (Credit2Pool own) = at_place-set_other e d None own.domains other
  parted e other records = refl

  joined : (e : ℕ) → e ≢ d → (records : Records) (params : DomParams) (count t : ℕ) → domain_credit2_record (joined_records records params e count t) d ≡ domain_credit2_record records d
  joined e other (Credit2Pool own) (dom_params.Credit2 weight percent) count t = at_place-set_other e d _ own.domains other
  joined e other (RtdsPool domains) (dom_params.Rtds period budget extra) count t = refl
  joined e other records params count t = refl

  sets_no_cap : (change : ParamChange) → IsNoDom change → SetsNoCap d change
  sets_no_cap (changes.Dom e weight limit) none = absurd none
  sets_no_cap (changes.Rate limit) none = tt
  sets_no_cap other none = tt

  pub followed : Followed d (HasRecord d) (LikeRecord d) (λ e. e ≢ d) (Unit {0}) (SetsOther d)
  followed = record {
    itself = λ a. same_record (domain_credit2_record a d) (domain_credit2_record a d) refl;
    joined = λ a b c. record_trans2 (domain_credit2_record a d) (domain_credit2_record b d) (domain_credit2_record c d);
    has = λ a b like x. (let y = like.some x.0 x.1 in (y.0, y.1));
    parts = λ e other a. same_record (domain_credit2_record a d) _ (parted e other a);
    joins = λ e count t other a. same_record (domain_credit2_record a d) _ (joined e other a (standard_dom_params a) count t);
    refills = λ t e other a. same_record (domain_credit2_record a d) _ (refill_other t e a other);
    renews = λ t u may a. same_record (domain_credit2_record a d) _ (replenish_record t u a);
    no_dues = λ u x may a is has. no_rtds u a has.0 x has.1 is;
    changes_it = λ change t none a. changed d t a change (sets_no_cap change none);
    sets = λ e weight limit t may a kind. changed d t a (changes.Dom e weight limit) may;
    marks = λ e n other a kind has. other;
  }

  -- the second pool is as the first one, for the domain
  abbrev pub Same : Pool → Pool → Type 0
  Same = same.Same d (HasRecord d) (LikeRecord d)

  pub same_refl : (p : Pool) → Same p p
  same_refl = same.same_refl d (HasRecord d) (LikeRecord d) followed

  pub same_settled : (t : ℕ) (p q : Pool) → Same p q → Same p (settled_pool t q)
  same_settled = same.same_settled d (HasRecord d) (LikeRecord d) followed

  abbrev pub LeavesIt : Machine → State → Action → Type 0
  LeavesIt = same.LeavesIt d (HasRecord d) (LikeRecord d) followed

  module _ (i : ℕ) (p : Pool) (there : test_at p.domains d (λ x. true) ≡ true) where
    -- the pool i is as it was
    abbrev pub SameAt : State → Type 0
    SameAt = same.SameAt d (HasRecord d) (LikeRecord d) followed i p there

    pub sat_after : (m : Machine) (t : ℕ) (action : Action) (s : State) → LeavesIt m s action → IsApart s → is_action_enabled m s t action ≡ true → SameAt s → SameAt (after m s t action)
    sat_after = same.sat_after d (HasRecord d) (LikeRecord d) followed i p there

    pub sat_dom_moved : (e : ℕ) → e ≢ d → (g t : ℕ) (s : State) → SameAt s → SameAt (after_dom_moved g t e s)
    sat_dom_moved = same.sat_dom_moved d (HasRecord d) (LikeRecord d) followed i p there
