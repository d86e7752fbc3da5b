use Rattle.std.proofs.Common.{◌≡◌, ◌∙◌, ◌+◌, sym, ap, refl, subst, ℕ, length, arith, Bool, false}
use Rattle.std.specs.Prelude.{List, Option, Some, ℤ}
use Rattle.sched_base.specs.Numbers.{moment}
use Rattle.sched_base.specs.declared.UnitId.{UnitId}
use Rattle.sched_base.specs.declared.Cores.{Cores}
use Rattle.sched_model.specs.declared.ask.Ask.{Ask}
use Rattle.sched_model.specs.declared.state.Credit2Records.{Credit2Records}
use Rattle.sched_model.specs.Places.{has_listed_unit, without_unit}
use Rattle.sched_model.specs.Credit2.{reset_records, change_domain, domain_after_take, reset_count, chosen_slice, best_other_credit}
use Rattle.scheduler_records.specs.Bounds.{PoolParamsFit}
use Rattle.scheduler_records.proofs.Steps.{reset_params, taken_params}
use Rattle.queue_laws.specs.Arrivals.{arrivals}
use Rattle.arrival_queue.specs.Filters.{first_that, has_core_bit}
use Rattle.credit2_core.specs.declared.run_queue.Ready.{Ready}
use Rattle.credit2_core.specs.declared.state.Credit2State.{Credit2State}
use Rattle.credit2_core.specs.Credit2State.{scheduler_in}
use Rattle.credit2_core.specs.Choice.{unit_slice, credit_or_0, best_of}
use Rattle.credit2_core.proofs.Kept.{IsSpared, ready_spared, first_runnable, spared_reset, spared_switch_off, spared_set_running}
use Rattle.credit2_core.proofs.Choosing.{other_best}
use Rattle.credit2_core.proofs.Deciding.{length_reset}
use Rattle.credit2_core.proofs.decide.run_unit.Goals as goal
use Rattle.sched_laws.proofs.Counts.{gone_without}

pub take_slice-long-requires-clause-ready : goal.take_slice-long-requires-clause-ready
take_slice-long-requires-clause-ready c =
    let left : Credit2State = c.depart.new.state in
    let kept : Ready = c.depart.new.ready in
    let begun : c.reset_pool.new.state.records ≡ reset_records c.args.ask.now.at.0 c.resets_for-resets.result left.records = c.reset_pool.ensures.records in
    let spared : IsSpared left.records c.reset_pool.new.state.records = subst (IsSpared left.records) (sym begun) (spared_reset c.args.ask.now.at.0 c.resets_for-resets.result left.records) in
    let p : UnitId → Bool = λ w. has_core_bit kept.domains.0 w.dom.0 in
    record {
      domains = λ i other. c.depart.ensures.ready.domains.each i ∙ sym (spared.runs i);
      first = λ stand.
          let none : c.reset_pool.new.state ≡ left = c.reset_pool.ensures.none (c.stands-stands.ensures stand) in
          c.depart.ensures.ready.first ∙ sym (first_runnable left.records kept.domains.0 left.queue.units c.depart.ensures.ready.domains) ∙ sym (ap (λ (x : Credit2State). first_that p x.queue.units) none);
      most = c.depart.ensures.ready.most ∙ sym spared.weight;
    }

pub returns-clause-ready : goal.returns-clause-ready
returns-clause-ready c =
    let taken : Credit2State = c.take_slice-long.new.state in
    let off : Credit2State = c.stop_own.new.state in
    let kept : Ready = c.take_slice-long.new.ready in
    let one : IsSpared taken.records off.records = subst (IsSpared taken.records) (sym c.stop_own.ensures.records) (spared_switch_off c.args.ask.now.cur taken.records) in
    let two : IsSpared off.records c.start.new.state.records = subst (IsSpared off.records) (sym c.start.ensures.records) (spared_set_running (Some c.args.ask.now.at.0) c.args.u off.records) in
    ready_spared off c.start.new.state kept (ap (λ (x : Credit2State). x.queue) c.start.ensures.rest) two (ready_spared taken off kept (ap (λ (x : Credit2State). x.queue) c.stop_own.ensures.rest) one c.take_slice-long.ensures.ready)

pub take_slice-long-requires-clause-few : goal.take_slice-long-requires-clause-few
take_slice-long-requires-clause-few c =
    let first : c.depart.new.state.records ≡ c.args.state.now.records = ap (λ (h : Credit2State). h.records) c.depart.ensures.rest in
    let e = ap (λ (r : Credit2Records). length r.domains) (c.reset_pool.ensures.records ∙ ap (reset_records c.args.ask.now.at.0 c.resets_for-resets.result) first) in
    let l = length_reset c.args.ask.now.at.0 c.resets_for-resets.result c.args.state.now.records in
    let f = c.requires.few in
    omega (arith, e, l, f)

pub take_slice-long-requires-clause-params : goal.take_slice-long-requires-clause-params
take_slice-long-requires-clause-params c =
    let first : c.depart.new.state.records ≡ c.args.state.now.records = ap (λ (h : Credit2State). h.records) c.depart.ensures.rest in
    let e : c.reset_pool.new.state.records ≡ reset_records c.args.ask.now.at.0 c.resets_for-resets.result c.args.state.now.records = c.reset_pool.ensures.records ∙ ap (reset_records c.args.ask.now.at.0 c.resets_for-resets.result) first in
    subst PoolParamsFit (sym e) (reset_params c.args.ask.now.at.0 c.resets_for-resets.result c.args.state.now.records c.requires.fits)

pub take_slice-long-requires-clause-taken : goal.take_slice-long-requires-clause-taken
take_slice-long-requires-clause-taken c =
    let first : c.depart.new.state.records ≡ c.args.state.now.records = ap (λ (h : Credit2State). h.records) c.depart.ensures.rest in
    let e : c.reset_pool.new.state.records ≡ reset_records c.args.ask.now.at.0 c.resets_for-resets.result c.args.state.now.records = c.reset_pool.ensures.records ∙ ap (reset_records c.args.ask.now.at.0 c.resets_for-resets.result) first in
    subst (λ (r : Credit2Records). PoolParamsFit (change_domain c.args.u.dom.0 (domain_after_take c.args.u.n) r)) (sym e) (taken_params c.args.ask.now.at.0 c.resets_for-resets.result c.args.u c.args.state.now.records c.requires.fits)

pub start-requires-clause-waits_not : goal.start-requires-clause-waits_not
start-requires-clause-waits_not c =
    let left : c.stop_own.new.state.queue ≡ c.reset_pool.new.state.queue = ap (λ (h : Credit2State). h.queue) c.stop_own.ensures.rest ∙ ap (λ (h : Credit2State). h.queue) c.take_slice-long.ensures.rest in
    let order : arrivals c.stop_own.new.state.queue.units ≡ without_unit c.args.u (arrivals c.args.state.now.queue.units) = ap (λ q. arrivals q.units) left ∙ c.reset_pool.ensures.order ∙ c.depart.ensures.order in
    subst (λ (units : List UnitId). has_listed_unit units c.args.u ≡ false) (sym order) (gone_without c.args.u (arrivals c.args.state.now.queue.units))

pub returns-clause-tells : goal.returns-clause-tells
returns-clause-tells c =
    let h : Credit2State = c.args.state.now in
    let ask : Ask = c.args.ask.now in
    let u : UnitId = c.args.u in
    let q : List UnitId = arrivals h.queue.units in
    let m : ℕ = reset_count ask.at.0 u h.records in
    let taken : Credit2Records = change_domain u.dom.0 (domain_after_take u.n) (reset_records ask.at.0 m h.records) in
    let first : c.depart.new.state.records ≡ h.records = ap (λ (x : Credit2State). x.records) c.depart.ensures.rest in
    let resets : c.resets_for-resets.result ≡ m = c.resets_for-resets.ensures.exact ∙ ap (reset_count ask.at.0 u) first in
    let begun : c.reset_pool.new.state.records ≡ reset_records ask.at.0 m h.records = c.reset_pool.ensures.records ∙ ap (λ (k : ℕ). reset_records ask.at.0 k c.depart.new.state.records) resets ∙ ap (reset_records ask.at.0 m) first in
    let records : c.take_slice-long.new.state.records ≡ taken = c.take_slice-long.ensures.records ∙ ap (change_domain u.dom.0 (domain_after_take u.n)) begun in
    let order : arrivals c.take_slice-long.new.state.queue.units ≡ without_unit u q = ap (λ (x : Credit2State). arrivals x.queue.units) c.take_slice-long.ensures.rest ∙ c.reset_pool.ensures.order ∙ c.depart.ensures.order in
    let sets : c.take_slice-long.new.state.affinity ≡ h.affinity = ap (λ (x : Credit2State). x.affinity) c.take_slice-long.ensures.rest ∙ ap (λ (x : Credit2State). x.affinity) c.reset_pool.ensures.rest ∙ ap (λ (x : Credit2State). x.affinity) c.depart.ensures.rest in
    let best : List UnitId → List (Option (List Cores)) → Credit2Records → ℤ = λ units affinity r. credit_or_0 r (best_of units affinity ask.home.0 ask.core.0 r) in
    let other : best (arrivals c.take_slice-long.new.state.queue.units) c.take_slice-long.new.state.affinity c.take_slice-long.new.state.records ≡ best_other_credit ask (scheduler_in h) taken u =
    ap (λ (units : List UnitId). best units c.take_slice-long.new.state.affinity c.take_slice-long.new.state.records) order
    ∙ ap (λ (affinity : List (Option (List Cores))). best (without_unit u q) affinity c.take_slice-long.new.state.records) sets
    ∙ ap (best (without_unit u q) h.affinity) records
    ∙ other_best ask q h.affinity h.records taken u
    in
    let long : c.take_slice-long.result ≡ chosen_slice ask (scheduler_in h) taken u =
    c.take_slice-long.ensures.slice
    ∙ ap (λ (w : ℤ). unit_slice c.take_slice-long.new.state.records u w) other
    ∙ ap (λ (r : Credit2Records). unit_slice r u (best_other_credit ask (scheduler_in h) taken u)) records
    in
    record { unit = refl; due = ap (λ (k : ℕ). Some (moment (ask.at.0 + k))) long; reset = resets }
