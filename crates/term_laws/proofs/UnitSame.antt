-- An RTDS unit, read from the pool that has its domain; an event that leaves it as it is there.
use Rattle.std.proofs.Common.{◌≡◌, ℕ, Bool, true, false, refl, arith, ap, sym, ◌∙◌}
use Rattle.std.specs.Prelude.{Option, Some, None, ◌==◌, ◌&&◌, cond}
use Rattle.sched_base.specs.declared.UnitId.{UnitId}
use Rattle.sched_base.proofs.Bools.{clash}
use Rattle.sched_model.specs.declared.config.SchedKind.{SchedKind}
use Rattle.sched_model.specs.declared.config.SchedKind.TheVariants as kinds
use Rattle.sched_model.specs.declared.event.Event.{Event}
use Rattle.sched_model.specs.declared.machine.Machine.{Machine}
use Rattle.sched_model.specs.declared.state.State.{State}
use Rattle.sched_model.specs.declared.state.Pool.{Pool}
use Rattle.sched_model.specs.declared.state.Records.{Records}
use Rattle.sched_model.specs.declared.state.Records.TheVariants.{RtdsPool}
use Rattle.sched_model.specs.declared.state.RtdsUnit.{RtdsUnit}
use Rattle.sched_model.specs.Places.{at_place, test_at, is_unit}
use Rattle.sched_model.specs.Policy.{records_kind, unit_rtds_record}
use Rattle.term_laws.specs.Term.{late_of}
use Rattle.term_laws.specs.RtdsTerm.{rtds_in}
use Rattle.term_laws.proofs.UnitFollowed.{Same, charged}
use Rattle.term_laws.proofs.Same.{cur_in}
use Rattle.term_laws.proofs.ReachedStates.{Known}
use Rattle.term_laws.proofs.CapTracks.{number_in, due_at}
use Rattle.term_laws.proofs.Same.{due_in}
use Rattle.term_laws.proofs.StepsState.{record_is, on_is, due_is}
use Rattle.term_laws.proofs.UnitTracks.{is_number, HasIt, renews, UnitTracks}

-- the unit that is numbered
pub number_unit : (u : UnitId) (o : Option UnitId) → is_number u.n (number_in u.dom.0 o) ≡ is_unit o u
number_unit u None = refl
number_unit u (Some w) = go (w.dom.0 == u.dom.0)
  where
    go : (b : Bool) → is_number u.n (cond b (Some w.n) None) ≡ (b && (w.n == u.n))
    go true = refl
    go false = refl

-- records of another kind have none of RTDS
pub no_rtds : (records : Records) (u : UnitId) (kind : SchedKind) → records_kind records ≡ kind → (kind ≡ kinds.Rtds → ⊥) → unit_rtds_record records u ≡ None
no_rtds (RtdsPool domains) u kind is other = absurd (other (sym is))
no_rtds records u kind is other = refl

-- the unit in a state, by the pool that has its domain
module _ (m : Machine) (u : UnitId) (s : State) (k : Known m s) (i : ℕ) (p : Pool) (at : at_place s.pools i ≡ Some p) (there : test_at p.domains u.dom.0 (λ x. true) ≡ true) where
  pub rtds_is : rtds_in s u ≡ unit_rtds_record p.scheduler.records u
  rtds_is = record_is m s k u.dom.0 i p at there RtdsUnit (λ (records : Records). unit_rtds_record records u)

  pub has_number : (r : ℕ) → HasIt u s r → number_in u.dom.0 (cur_in (at_place p.resources r)) ≡ Some u.n
  has_number r on = sym (on_is m s k u.dom.0 i p at there r) ∙ on

  pub due_here : (r : ℕ) → HasIt u s r → due_at s r ≡ due_in (at_place p.resources r)
  due_here r on = due_is m s k u.dom.0 i p at there r u.n (has_number r on)

-- the pool with the unit's domain, before and after an event that leaves the unit as it is
module _ (m : Machine) (u : UnitId) (e : Event) (s s2 : State) (k : Known m s) (k2 : Known m s2) (i i2 : ℕ) (p q : Pool) (at : at_place s.pools i ≡ Some p) (there : test_at p.domains u.dom.0 (λ x. true) ≡ true)
    (at2 : at_place s2.pools i2 ≡ Some q) (there2 : test_at q.domains u.dom.0 (λ x. true) ≡ true) where
  -- the core has the unit still
  pub has_still : (r : ℕ) → cur_in (at_place q.resources r) ≡ cur_in (at_place p.resources r) → HasIt u s r → HasIt u s2 r
  has_still r same on = on_is m s2 k2 u.dom.0 i2 q at2 there2 r ∙ ap (number_in u.dom.0) same ∙ has_number m u s k i p at there r on

  pub same_tracks : ((r : ℕ) → late_of r e ≡ None) → renews u e ≡ false → Same u p q → UnitTracks m u e s s2
  same_tracks late_none not_renewed same = record {
    renewed = λ is. absurd (clash (renews u e) is not_renewed);
    decided = λ r late is. absurd (let no = late_none r in cc);
    taken = λ r late y is on y_is. absurd (let no = late_none r in cc);
    goes = λ none not_renewed2 stays. ap charged (rtds_is m u s2 k2 i2 q at2 there2) ∙ same.records ∙ sym (ap charged (rtds_is m u s k i p at there));
    due = λ x r due x_is on none is. (
        let on2 = has_still r (same.curs r) on in (
          due,
          due_here m u s2 k2 i2 q at2 there2 r on2 ∙ same.dues (x, sym (rtds_is m u s k i p at there) ∙ x_is) r u.n (has_number m u s k i p at there r on) ∙ sym (due_here m u s k i p at there r on) ∙ is,
          omega arith,
        ));
  }
