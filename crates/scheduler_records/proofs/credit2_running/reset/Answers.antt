use Rattle.std.proofs.Common.{◌∙◌, sym, ap, arith, ℕ}
use Rattle.std.specs.Prelude.{List, Option, Some}
use Rattle.sched_model.specs.declared.state.Credit2Domain.{Credit2Domain}
use Rattle.sched_model.specs.declared.state.Credit2Records.{Credit2Records}
use Rattle.sched_model.specs.Places.{change_each}
use Rattle.scheduler_records.specs.Bounds.{reset_by}
use Rattle.scheduler_records.proofs.Steps.{reset-each}
use Rattle.scheduler_records.proofs.credit2_running.reset.Goals as goal

pub returns : goal.returns
returns c =
    let records : Credit2Records = c.args.records.now in
    ap (λ (domains : List (Option Credit2Domain)). record records { last_reset = Some c.args.t.0; domains = domains })
    (c.reset_all.ensures ∙ ap (λ w. change_each 0 (λ (n : ℕ). reset_by w c.args.t.0 c.args.resets) records.domains) c.max_weight-most.ensures)
    ∙ sym (reset-each c.args.t.0 c.args.resets records (omega arith))
