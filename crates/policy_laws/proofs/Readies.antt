-- What a Credit2 pool keeps of its units, from what every pool keeps.
use Rattle.std.proofs.Common.{◌≡◌, ◌<◌, ℕ, Bool, true, false, refl, sym, ap, subst, ◌∙◌, arith}
use Rattle.std.specs.Prelude.{Option, Some, None, is_some, slice_get}
use Rattle.sched_base.specs.declared.UnitId.{UnitId}
use Rattle.sched_model.specs.declared.state.Credit2Domain.{Credit2Domain}
use Rattle.sched_model.specs.declared.state.Credit2Records.{Credit2Records}
use Rattle.sched_model.specs.declared.state.Credit2Unit.{Credit2Unit}
use Rattle.sched_model.specs.declared.state.Pool.{Pool}
use Rattle.sched_model.specs.declared.state.Records.{Records}
use Rattle.sched_model.specs.declared.state.Records.TheVariants.{Credit2Pool, RtdsPool, ArincPool, NullPool}
use Rattle.sched_model.specs.Places.{at_place, has_listed_unit}
use Rattle.sched_model.specs.State.{may_unit_run}
use Rattle.sched_laws.specs.Counts.{one_at}
use Rattle.sched_laws.specs.PoolFacts.{core_places}
use Rattle.sched_laws.proofs.Choices.{at_unit}
use Rattle.sched_laws.proofs.Counts.{times_some, total_at}
use Rattle.sched_laws.proofs.Lists.{item_below}
use Rattle.sched_laws.proofs.OnePlace.{one_same}
use Rattle.state_ranges.specs.Records.{HasCredit2Record, IsRecorded}
use Rattle.settle_laws.specs.Ready.{AreCut, AreReadyBy, HasRecord, IsOff}
use Rattle.settle_laws.proofs.Tests.{false_if}
use Rattle.sched_ops.specs.Conditions.{is_member, is_on, may_unit_be_on}
use Rattle.policy_laws.specs.Holds.{Holds}
use Rattle.policy_laws.proofs.Alike.{found_core}
use Rattle.policy_laws.proofs.Members.{member_recorded, runnable_member}

-- a record that is on is there
on_known : (records : Credit2Records) (u : UnitId) → is_on (Credit2Pool records) u ≡ true → HasRecord records u
on_known records u on = by_domain (at_place records.domains u.dom.0) refl on
  where
    by_unit : (d : Credit2Domain) → at_place records.domains u.dom.0 ≡ Some d → (o : Option Credit2Unit) → slice_get d.units u.n ≡ o → elim o as (λ _. Bool) [ None ↦ false | Some x ↦ is_some x.burned ] ≡ true → HasRecord records u
    by_unit d at None there is = absurd (cc)
    by_unit d at (Some x) there is = record { domain = d; unit = x; at = at; there = there }

    by_domain : (o : Option Credit2Domain) → at_place records.domains u.dom.0 ≡ o → elim o as (λ _. Bool) [ None ↦ false | Some d ↦ elim (slice_get d.units u.n) as (λ _. Bool) [ None ↦ false | Some x ↦ is_some x.burned ] ] ≡ true → HasRecord records u
    by_domain None at is = absurd (cc)
    by_domain (Some d) at is = by_unit d at (slice_get d.units u.n) refl is

no_moment : (o : Option ℕ) → is_some o ≡ false → o ≡ None
no_moment None is = refl
no_moment (Some k) is = absurd (cc)

-- one that is not on, of a domain that is recorded, is there and off
off_known : (records : Credit2Records) (u : UnitId) (count : ℕ) → HasCredit2Record records u.dom.0 count → u.n < count → is_on (Credit2Pool records) u ≡ false → IsOff records u
off_known records u count has low off =
    let i = item_below has.domain.units u.n (let e = has.units in omega (arith, low, e)) in
    record {
      known = record { domain = has.domain; unit = i.0; at = has.at; there = i.1 };
      off = no_moment i.0.burned (sym (ap (λ (o : Option Credit2Domain). elim o as (λ _. Bool) [ None ↦ false | Some d ↦ elim (slice_get d.units u.n) as (λ _. Bool) [ None ↦ false | Some x ↦ is_some x.burned ] ]) has.at
          ∙ ap (λ (o : Option Credit2Unit). elim o as (λ _. Bool) [ None ↦ false | Some x ↦ is_some x.burned ]) i.1) ∙ off);
    }

module _ (g t : ℕ) (pool : Pool) (holds : Holds g t pool) where
  waiting_off : (u : UnitId) → has_listed_unit pool.scheduler.queue u ≡ true → is_on pool.scheduler.records u ≡ false
  waiting_off u waits = false_if (is_on pool.scheduler.records u) (λ on.
      let f = found_core pool u (holds.on.off u on) in
      let a = total_at (core_places u) f.0 f.1 pool.resources f.2 in
      let b = times_some u pool.scheduler.queue waits in
      let m = holds.known.one.most u in
      let o : one_at u f.1.cur ≡ 1 = ap (one_at u) f.3 ∙ one_same u in
      omega (arith, a, b, m, o))

  waiting_member : (u : UnitId) → has_listed_unit pool.scheduler.queue u ≡ true → is_member pool.scheduler u ≡ true
  waiting_member u waits = runnable_member g holds.some pool u holds.members (at_unit (λ w. may_unit_run g pool w ≡ true) u pool.scheduler.queue waits holds.known.one.waits)

  by_records : (records : Records) → pool.scheduler.records ≡ records → AreCut records → AreReadyBy records pool
  by_records (Credit2Pool records) is cut = record {
    waits = λ u waits.
        let m = member_recorded g pool u holds.members holds.records (waiting_member u waits) in
        off_known records u m.0 (subst (λ (r : Records). IsRecorded r u.dom.0 m.0) is m.1) m.2 (sym (ap (λ (r : Records). is_on r u) is) ∙ waiting_off u waits);
    runs = λ r c u at own. on_known records u (sym (ap (λ (x : Records). may_unit_be_on x u) is) ∙ holds.on.own r c at u own);
    cut = cut;
  }
  by_records (RtdsPool domains) is cut = tt
  by_records (ArincPool records) is cut = tt
  by_records (NullPool kept) is cut = tt

  pub units_ready : AreCut pool.scheduler.records → AreReadyBy pool.scheduler.records pool
  units_ready cut = by_records pool.scheduler.records refl cut
