-- The opening: no core has a unit, and each budget is that of the cap.
use Rattle.std.proofs.Common.{◌≡◌, ℕ, refl, subst, ◌∙◌, inl, inr}
use Rattle.std.specs.Prelude.{Option, Some, None, pos}
use Rattle.sched_base.specs.Credit2Numbers.{cap_budget}
use Rattle.sched_model.specs.declared.config.PoolParams.{PoolParams}
use Rattle.sched_model.specs.declared.config.PoolParams.TheVariants as pool_params
use Rattle.sched_model.specs.declared.config.DomParams.{DomParams}
use Rattle.sched_model.specs.declared.config.DomParams.TheVariants as dom_params
use Rattle.sched_model.specs.declared.machine.Machine.{Machine}
use Rattle.sched_base.specs.declared.UnitId.{UnitId}
use Rattle.sched_model.specs.declared.state.Pool.{Pool}
use Rattle.sched_model.specs.declared.state.Resource.{Resource}
use Rattle.sched_model.specs.declared.state.RtdsUnit.{RtdsUnit}
use Rattle.sched_model.specs.declared.state.Credit2Domain.{Credit2Domain}
use Rattle.sched_model.specs.declared.state.Records.{Records}
use Rattle.sched_model.specs.declared.state.Records.TheVariants.{Credit2Pool, RtdsPool}
use Rattle.sched_model.specs.Places.{at_place}
use Rattle.sched_model.specs.Credit2.{fresh_credit2_domain}
use Rattle.sched_model.specs.Policy.{domain_credit2_record, unit_rtds_record, joined_records, empty_records}
use Rattle.sched_model.specs.Opening.{opening}
use Rattle.sched_model.specs.Actions.{home_pool_of_core, home_pool_of_domain}
use Rattle.sched_laws.proofs.EachPlace.{by_option, is_empty, read_put_at, EachPlace-empty}
use Rattle.term_laws.proofs.Same.{cur_in}
use Rattle.term_laws.proofs.Beginning.{nobody_runs, records_at_first, IsFull, full_opening}
use Rattle.term_laws.specs.CapTerm.{credit2_in}
use Rattle.term_laws.specs.RtdsTerm.{rtds_in}
use Rattle.term_laws.proofs.CapTracks.{number_in, on_core}
use Rattle.term_laws.proofs.StepsState.{unit_of_number, on_core_cur}

-- no core has a unit
pub nobody_at_first : (m : Machine) (d r : ℕ) → on_core (opening m) d r ≡ None
nobody_at_first m d r =
    on_core_cur (opening m) d r
    ∙ by_option (λ (o : Option Resource). number_in d (cur_in o) ≡ None) (home_pool_of_core (opening m) r) None _ (λ none. refl)
    (λ i found. by_option (λ (o : Option Resource). number_in d (cur_in o) ≡ None) (at_place (opening m).pools i) None (λ p. at_place p.resources r) (λ none. refl)
    (λ p at. is_empty (number_in d (cur_in (at_place p.resources r))) (λ n is. (let u = unit_of_number d n (cur_in (at_place p.resources r)) is in nobody_runs m i p at r u.0 u.1))))

-- the budgets of all records are full
abbrev AllUnspent : Records → Type 0
AllUnspent records = (d : ℕ) (x : Credit2Domain) → domain_credit2_record records d ≡ Some x → x.budget ≡ pos (cap_budget x.cap)

unspent_joined : (records : Records) (params : DomParams) (d count : ℕ) → AllUnspent records → AllUnspent (joined_records records params d count 0)
unspent_joined (Credit2Pool own) (dom_params.Credit2 weight percent) d count full = λ e x is. elim (read_put_at d e (fresh_credit2_domain weight percent count 0) own.domains x is) [
  | inl was ↦ full e x was
  | inr new ↦ subst (λ (y : Credit2Domain). y.budget ≡ pos (cap_budget y.cap)) new.1 refl
]
unspent_joined (RtdsPool domains) (dom_params.Rtds period budget extra) d count full = λ e x is. absurd (cc)
unspent_joined records params d count full = full

unspent_fresh : (params : PoolParams) (domains cores : ℕ) → AllUnspent (empty_records params domains cores)
unspent_fresh (pool_params.Credit2 limit) n cores d x is = absurd (EachPlace-empty {X = Credit2Domain} (λ y. ⊥) n d x is)
unspent_fresh other n cores d x is = absurd (cc)

-- what holds of each record of the pools holds of the one that is read from the domain's pool
read_first : (m : Machine) (d : ℕ) (X : Type 0) (f : Records → Option X) (P : X → Type 0) → ((i : ℕ) (p : Pool) → at_place (opening m).pools i ≡ Some p → (x : X) → f p.scheduler.records ≡ Some x → P x) → (x : X)
    → elim (home_pool_of_domain (opening m) d) as (λ _. Option X) [ None ↦ None | Some i ↦ elim (at_place (opening m).pools i) as (λ _. Option X) [ None ↦ None | Some pool ↦ f pool.scheduler.records ] ] ≡ Some x → P x
read_first m d X f P each x =
    by_option (λ (o : Option X). o ≡ Some x → P x) (home_pool_of_domain (opening m) d) _ _ (λ none is. absurd (cc))
    (λ i found. by_option (λ (o : Option X). o ≡ Some x → P x) (at_place (opening m).pools i) None (λ p. f p.scheduler.records) (λ none is. absurd (cc)) (λ p at is. each i p at x is))

pub full_at_first : (m : Machine) (d : ℕ) (x : Credit2Domain) → credit2_in (opening m) d ≡ Some x → x.budget ≡ pos (cap_budget x.cap)
full_at_first m d = read_first m d Credit2Domain (λ (r : Records). domain_credit2_record r d) (λ x. x.budget ≡ pos (cap_budget x.cap)) (λ i p at x is. records_at_first AllUnspent unspent_joined unspent_fresh m i p at d x is)

-- the record of an RTDS unit is as it begins its first term
pub full_unit_at_first : (m : Machine) (u : UnitId) (x : RtdsUnit) → rtds_in (opening m) u ≡ Some x → IsFull x
full_unit_at_first m u = read_first m u.dom.0 RtdsUnit (λ (r : Records). unit_rtds_record r u) IsFull (λ i p at x is. full_opening m i p at u x is)
