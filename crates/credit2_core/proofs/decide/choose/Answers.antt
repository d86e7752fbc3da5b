use Rattle.std.proofs.Common.{◌≡◌, ◌∙◌, sym, ap, subst, ℕ}
use Rattle.std.specs.Prelude.{Some}
use Rattle.sched_base.specs.declared.UnitId.{UnitId}
use Rattle.sched_model.specs.declared.ask.Ask.{Ask}
use Rattle.sched_model.specs.declared.state.Credit2Records.{Credit2Records}
use Rattle.sched_model.specs.Credit2.{own_burned_records, off_records, reset_count, credit2_choice}
use Rattle.scheduler_records.specs.Parts.{credit2_scheduler}
use Rattle.queue_laws.specs.Arrivals.{arrivals}
use Rattle.credit2_core.specs.declared.state.Credit2State.{Credit2State}
use Rattle.credit2_core.specs.Choice.{records_after_run}
use Rattle.credit2_core.specs.Credit2State.{IsSound, IsLine, IsSameRoom, scheduler_in}
use Rattle.runq.specs.Queue.{Queue}
use Rattle.credit2_core.proofs.Deciding.{sound_idle, sound_ran}
use Rattle.credit2_core.proofs.Kept.{IsSpared, ready_spared, spared_switch_off}
use Rattle.credit2_core.proofs.decide.choose.Goals as goal

pub returns-in-None-clause-sound : goal.returns-in-None-clause-sound
returns-in-None-clause-sound c =
    let h : Credit2State = c.args.state.now in
    let ask : Ask = c.args.ask.now in
    let next : Credit2Records = off_records ask.cur (own_burned_records ask.cur ask.at.0 h.records) in
    let records : c.idle.new.state.records ≡ next = c.idle.ensures.records ∙ ap (off_records ask.cur) c.charge_own.ensures.records in
    let is : c.idle.new.state ≡ record h { records = next; latest = ask.at.0 } =
    c.idle.ensures.rest
    ∙ ap (λ (x : Credit2State). record x { records = c.idle.new.state.records; latest = ask.at.0 }) c.charge_own.ensures.rest
    ∙ ap (λ (r : Credit2Records). record h { records = r; latest = ask.at.0 }) records
    in
    let line : IsLine (record h { records = next; latest = ask.at.0 }) = subst IsLine is c.idle.ensures.line in
    subst IsSound (sym is) (sound_idle h ask c.requires.sound c.requires.asked.now.after line)

pub returns-in-None-clause-ready : goal.returns-in-None-clause-ready
returns-in-None-clause-ready c =
    let h : Credit2State = c.charge_own.new.state in
    let spared : IsSpared h.records c.idle.new.state.records = subst (IsSpared h.records) (sym c.idle.ensures.records) (spared_switch_off c.args.ask.now.cur h.records) in
    ready_spared h c.idle.new.state c.charge_own.new.ready (ap (λ (x : Credit2State). x.queue) c.idle.ensures.rest) spared c.charge_own.ensures.ready

pub returns-in-Some-clause-sound : goal.returns-in-Some-clause-sound
returns-in-Some-clause-sound c =
    let h : Credit2State = c.args.state.now in
    let ask : Ask = c.args.ask.now in
    let u : UnitId = c.in-Some.u in
    let burned : Credit2Records = own_burned_records ask.cur ask.at.0 h.records in
    let k : ℕ = reset_count ask.at.0 u burned in
    let q : Queue = c.run_unit.new.state.queue in
    let records : c.run_unit.new.state.records ≡ records_after_run ask.cur ask.at.0 k u burned = c.run_unit.ensures.records ∙ ap (λ (r : Credit2Records). records_after_run ask.cur ask.at.0 (reset_count ask.at.0 u r) u r) c.charge_own.ensures.records in
    let is : c.run_unit.new.state ≡ record h { records = records_after_run ask.cur ask.at.0 k u burned; queue = q; latest = ask.at.0 } =
    c.run_unit.ensures.rest
    ∙ ap (λ (x : Credit2State). record x { records = c.run_unit.new.state.records; queue = q; latest = ask.at.0 }) c.charge_own.ensures.rest
    ∙ ap (λ (r : Credit2Records). record h { records = r; queue = q; latest = ask.at.0 }) records
    in
    let line : IsLine (record h { records = records_after_run ask.cur ask.at.0 k u burned; queue = q; latest = ask.at.0 }) = subst IsLine is c.run_unit.ensures.line in
    let same : c.charge_own.new.state.queue ≡ h.queue = ap (λ (x : Credit2State). x.queue) c.charge_own.ensures.rest in
    let room : IsSameRoom h.queue q = subst (λ (old : Queue). IsSameRoom old q) same c.run_unit.ensures.room in
    let chosen : credit2_choice ask (scheduler_in c.charge_own.new.state) c.charge_own.new.state.records ≡ Some u = sym c.choice.ensures ∙ c.in-Some.is in
    let here : credit2_choice ask (credit2_scheduler (arrivals h.queue.units) h.affinity burned) burned ≡ Some u =
    subst (λ (x : Credit2State). credit2_choice ask (scheduler_in x) x.records ≡ Some u) (c.charge_own.ensures.rest ∙ ap (λ (r : Credit2Records). record h { records = r }) c.charge_own.ensures.records) chosen
    in
    subst IsSound (sym is) (sound_ran h ask u k q c.requires.sound c.requires.asked.now.after c.requires.asked.own here line room)
