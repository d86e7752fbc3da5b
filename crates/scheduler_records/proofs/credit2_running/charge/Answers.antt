use Rattle.std.proofs.Common.{◌≡◌, ◌∙◌, sym, ap, subst, refl}
use Rattle.std.specs.Prelude.{List, Option, Some, slice_set}
use Rattle.sched_base.specs.declared.UnitId.{UnitId}
use Rattle.sched_model.specs.declared.state.Credit2Domain.{Credit2Domain}
use Rattle.sched_model.specs.declared.state.Credit2Records.{Credit2Records}
use Rattle.sched_model.specs.Credit2.{most_weight}
use Rattle.sched_laws.specs.RecordRanges.{Credit2InRange}
use Rattle.scheduler_records.specs.Bounds.{DomainFits, own_charged}
use Rattle.sched_laws.proofs.EachPlace.{place_fits}
use Rattle.scheduler_records.proofs.Ranges.{pool_in_range}
use Rattle.scheduler_records.proofs.Steps.{burn_cur-own, change_at-put}
use Rattle.scheduler_records.proofs.credit2_running.charge.Goals as goal

pub burn_own-requires-clause-fits : goal.burn_own-requires-clause-fits
burn_own-requires-clause-fits c =
    let records : Credit2Records = c.args.records.now in
    let d : Credit2Domain = c.in-Some-place.d in
    let here : DomainFits (most_weight records) c.args.t.0 d =
    place_fits (DomainFits (most_weight records) c.args.t.0) records.domains c.args.u.dom.0 _ d (pool_in_range c.args.t.0 records c.requires.early c.requires.fits) (c.in-Some.ensures.some.0 refl) c.in-Some.ensures.value c.in-Some-place.is
    in
    subst (λ w. DomainFits w c.args.t.0 d) (sym c.requires.most) here

pub burn_own-requires-clause-range : goal.burn_own-requires-clause-range
burn_own-requires-clause-range c =
    place_fits (Credit2InRange c.args.t.0) c.args.records.now.domains c.args.u.dom.0 _ c.in-Some-place.d c.requires.fits.domains (c.in-Some.ensures.some.0 refl) c.in-Some.ensures.value c.in-Some-place.is

pub returns-in-Some-place : goal.returns-in-Some-place
returns-in-Some-place c =
    let records : Credit2Records = c.args.records.now in
    let u : UnitId = c.args.u in
    let d : Credit2Domain = c.in-Some-place.d in
    let charged : c.burn_own.new.d ≡ own_charged (most_weight records) c.args.t.0 u.n d = c.burn_own.ensures ∙ ap (λ w. own_charged w c.args.t.0 u.n d) c.requires.most in
    let put = change_at-put u.dom.0 (own_charged (most_weight records) c.args.t.0 u.n) records.domains _ d c.in-Some.ensures.value c.in-Some-place.is in
    ap (λ (domains : List (Option Credit2Domain)). record records { domains = domains }) (ap (λ (x : Credit2Domain). slice_set records.domains u.dom.0 (Some x)) charged ∙ put)
    ∙ sym (burn_cur-own u c.args.t.0 records)
