use Rattle.std.proofs.Common.{List, sym, subst}
use Rattle.std.specs.Slots.{slots_items}
use Rattle.sched_model.specs.declared.event.Entry.{Entry}
use Rattle.sched_model.specs.declared.machine.Machine.{Machine}
use Rattle.journal_core.specs.Histories.{NamesStandOnce}
use Rattle.lock_moves.specs.declared.content.Content.{Content}
use Rattle.lock_moves.specs.TableContent.{HaveParts}
use Rattle.lock_moves.proofs.Closing.{are_parts}
use Rattle.lock_moves.proofs.set.LockSet.dissolve.Goals as goal

pub take_out-requires-clause-values : goal.take_out-requires-clause-values
take_out-requires-clause-values g c k low = let x = c.ended-closed.ensures.parts k low in (x.0, x.1)

pub returns-clause-once : goal.returns-clause-once
returns-clause-once g c = subst (λ (z : Machine × List Entry). NamesStandOnce z.0 z.1) (λ i. (sym c.ended-closed.ensures.input i, sym c.ended-closed.ensures.history i)) c.ended-closed.ensures.once

pub returns-clause-parts : goal.returns-clause-parts
returns-clause-parts g c = let contents : List (Content g.row.V.Denot) = slots_items c.ended-closed.result.0.slots in are_parts g.V.Part.part g.V.Part.suits c.ended-closed.result.1 contents _
    (subst (λ (z : Machine × List Entry). HaveParts g.V.Part.part g.V.Part.suits z.0 z.1 contents) (λ i. (sym c.ended-closed.ensures.input i, sym c.ended-closed.ensures.history i)) c.ended-closed.ensures.parts)
    c.take_out.ensures.first
