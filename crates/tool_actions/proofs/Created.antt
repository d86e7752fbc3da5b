-- A plan that makes a pool is that of a command that asks for one.
use Rattle.std.proofs.Common.{◌≡◌, ◌∙◌, Bool, true, false, ap, sym}
use Rattle.std.specs.Prelude.{Result, Ok, Err}
use Rattle.sched_base.specs.declared.Name.{Name}
use Rattle.sched_base.specs.declared.PoolId.{PoolId}
use Rattle.sched_model.specs.declared.command.Command.{Command}
use Rattle.sched_model.specs.declared.command.Syntax.{Syntax}
use Rattle.sched_model.specs.declared.config.SchedKind.{SchedKind}
use Rattle.sched_model.specs.declared.event.Reply.{Reply}
use Rattle.sched_model.specs.declared.machine.Machine.{Machine}
use Rattle.sched_model.specs.declared.plan.Plan.TheVariants as plan
use Rattle.sched_model.specs.declared.state.State.{State}
use Rattle.sched_model.specs.declared.work.CommandLine.{CommandLine}
use Rattle.sched_model.specs.Commands.{is_same_kind}
use Rattle.sched_model.specs.Machine.{line_verdict}
use Rattle.sched_laws.proofs.Judged.{verdict_passed}
use Rattle.machine_parts.specs.Counts.{is_made_by, makes_at}
use Rattle.machine_parts.proofs.Keeping.{kind-itself}

-- the line whose plan makes a pool has a command that asks for one of that scheduler
pub line-makes : (m : Machine) (s : State) (line : CommandLine) (i : PoolId) (name : Name) (kind : SchedKind) (answer : Reply) → line_verdict m s line ≡ Ok (plan.PoolCreate i name kind answer) → makes_at kind line ≡ true
line-makes m s line i name kind answer is =
    let passed = verdict_passed m s line (plan.PoolCreate i name kind answer) is in
    let made : Result Command Syntax → Bool = λ r. elim r [ Err fault ↦ false | Ok c ↦ is_made_by kind c ] in
    let asked = passed.2 in
    ap made (passed.1 ∙ ap Ok asked.2) ∙ ap (is_same_kind kind) (sym asked.3) ∙ kind-itself kind
