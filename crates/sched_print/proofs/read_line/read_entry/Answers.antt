use Rattle.std.proofs.Common.{◌≡◌, ◌-◌, ℕ, List, length, take, sym, ap, ◌∙◌, subst, arith}
use Rattle.std.specs.Prelude.{Ok, Err, min}
use Rattle.std.proofs.lemmas.List.{length-take}
use Rattle.sched_print.specs.Readers.{read}
use Rattle.sched_print.specs.Forms.{entries}
use Rattle.sched_print.specs.Places.{IsPlace}
use Rattle.sched_print.proofs.EntryForms.{formed_entries}
use Rattle.sched_print.proofs.Stuck.{left_within}
use Rattle.sched_print.proofs.Found.{entry_found, entry_only, entry_place}
use Rattle.sched_print.proofs.read_line.read_entry.Goals as goal

pub overflow_sub-result : goal.overflow_sub-result
overflow_sub-result c = left_within entries c.front-seen.result.now c.in-Err.left formed_entries (sym c.in-Err.ensures)

pub overflow_cast-result : goal.overflow_cast-result
overflow_cast-result c =
    let few : length c.front-seen.result.now ≡ min 192 (length c.args.line.now) = ap length c.front-seen.ensures ∙ length-take 192 c.args.line.now in
    omega arith

pub returns-in-Ok-clause-found : goal.returns-in-Ok-clause-found
returns-in-Ok-clause-found c = entry_found c.args.line.now c.in-Ok.e (ap (read entries) (sym c.front-seen.ensures) ∙ sym c.in-Ok.ensures)

pub returns-in-Ok-clause-only : goal.returns-in-Ok-clause-only
returns-in-Ok-clause-only c = λ e h.
    let was : Ok c.in-Ok.e ≡ read entries (take 192 c.args.line.now) = c.in-Ok.ensures ∙ ap (read entries) c.front-seen.ensures in
    let is : read entries (take 192 c.args.line.now) ≡ Ok e = entry_only c.args.line.now e h in
    let joined : Ok c.in-Ok.e ≡ Ok e = was ∙ is in
    let same : c.in-Ok.e ≡ e = cc in
    ap Ok same

pub returns-in-Err-clause-only : goal.returns-in-Err-clause-only
returns-in-Err-clause-only c = λ e h.
    let was : Err c.in-Err.left ≡ read entries (take 192 c.args.line.now) = c.in-Err.ensures ∙ ap (read entries) c.front-seen.ensures in
    let is : read entries (take 192 c.args.line.now) ≡ Ok e = entry_only c.args.line.now e h in
    let joined : Err c.in-Err.left ≡ Ok e = was ∙ is in
    absurd cc

pub returns-in-Err-clause-place : goal.returns-in-Err-clause-place
returns-in-Err-clause-place c =
    let stopped : read entries (take 192 c.args.line.now) ≡ Err c.in-Err.left = ap (read entries) (sym c.front-seen.ensures) ∙ sym c.in-Err.ensures in
    let P : List ℕ → Type 0 = λ seen. IsPlace c.args.line.now (length seen - c.in-Err.left) in
    subst P (sym c.front-seen.ensures) (entry_place c.args.line.now c.in-Err.left stopped)
