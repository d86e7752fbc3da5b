use Rattle.std.proofs.Common.{◌≡◌, ◌∙◌, arith, sym}
use Rattle.std.specs.Prelude.{Some, slice_get}
use Rattle.sched_plain.proofs.Commanding.{refusal-told, refused-state, reply-told}
use Rattle.sched_plain.proofs.Spares.{spares-past}
use Rattle.sched_plain.proofs.Stalling.{slice_get-read}
use Rattle.sched_plain.proofs.command.command.Goals as goal

pub accept-requires-clause-accepted : goal.accept-requires-clause-accepted
accept-requires-clause-accepted c =
    let next : slice_get c.args.machine.now.work.commands c.args.state.now.next_command ≡ Some c.in-Some.line.now =
    rw c.as_slice.ensures at (slice_get-read c.as_slice.result.now c.args.state.now.next_command c.in-Some.line.now c.in-Some.ensures.lookup.3.0 (c.in-Some.ensures.lookup.3.1 c.in-Some.line.now)) in
    record { line = c.in-Some.line.now; next = next; accepted = sym c.verdict.ensures.verdict ∙ c.in-Ok.is }

pub accept-requires-clause-spares : goal.accept-requires-clause-spares
accept-requires-clause-spares c = c.requires.spares

pub returns-in-Err-clause-event : goal.returns-in-Err-clause-event
returns-in-Err-clause-event c =
    let next : slice_get c.args.machine.now.work.commands c.args.state.now.next_command ≡ Some c.in-Some.line.now =
    rw c.as_slice.ensures at (slice_get-read c.as_slice.result.now c.args.state.now.next_command c.in-Some.line.now c.in-Some.ensures.lookup.3.0 (c.in-Some.ensures.lookup.3.1 c.in-Some.line.now)) in
    refusal-told c.args.machine.now c.args.state.now c.in-Some.line.now c.in-Err.fault _ next (sym c.verdict.ensures.verdict ∙ c.in-Err.is) (omega arith)

pub returns-in-Err-clause-state : goal.returns-in-Err-clause-state
returns-in-Err-clause-state c =
    let next : slice_get c.args.machine.now.work.commands c.args.state.now.next_command ≡ Some c.in-Some.line.now =
    rw c.as_slice.ensures at (slice_get-read c.as_slice.result.now c.args.state.now.next_command c.in-Some.line.now c.in-Some.ensures.lookup.3.0 (c.in-Some.ensures.lookup.3.1 c.in-Some.line.now)) in
    refused-state c.args.machine.now c.args.state.now c.in-Some.line.now c.in-Err.fault _ next (sym c.verdict.ensures.verdict ∙ c.in-Err.is) (omega arith)

pub returns-in-Err-clause-spares : goal.returns-in-Err-clause-spares
returns-in-Err-clause-spares c = spares-past c.args.machine.now c.args.state.now.next_command _ c.args.spares.now c.requires.spares (omega arith)

pub returns-in-Ok-clause-event : goal.returns-in-Ok-clause-event
returns-in-Ok-clause-event c =
    let next : slice_get c.args.machine.now.work.commands c.args.state.now.next_command ≡ Some c.in-Some.line.now =
    rw c.as_slice.ensures at (slice_get-read c.as_slice.result.now c.args.state.now.next_command c.in-Some.line.now c.in-Some.ensures.lookup.3.0 (c.in-Some.ensures.lookup.3.1 c.in-Some.line.now)) in
    reply-told c.args.machine.now c.args.state.now c.in-Some.line.now c.in-Ok.plan _ c.reply_of-reply.result next (sym c.verdict.ensures.verdict ∙ c.in-Ok.is) (omega arith) c.reply_of-reply.ensures

pub returns-in-Ok-clause-state : goal.returns-in-Ok-clause-state
returns-in-Ok-clause-state c = c.accept.ensures.state

pub returns-in-Ok-clause-spares : goal.returns-in-Ok-clause-spares
returns-in-Ok-clause-spares c = c.accept.ensures.spares
