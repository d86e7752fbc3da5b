use Rattle.std.proofs.Common.{◌≡◌, ◌∙◌, ◌++◌, ◌∷◌, [], ℕ, List, ap, length}
use Rattle.std.specs.Prelude.{decimal}
use Rattle.sched_print.specs.Line.{with_event}
use Rattle.sched_print.proofs.Fronts.{front_inside, front_stays}
use Rattle.sched_print.proofs.entry_line.EntryLine.set.Goals as goal

pub invariant_of-self : goal.invariant_of-self
invariant_of-self c =
    let at = c.args.e.now.at.0 in
    let event = c.args.e.now.event in
    let begun = c.begin-self-inside in
    let is : c.put.new.self ≡ with_event (decimal at) event ++ 10 ∷ [] =
    c.put.ensures.bytes ∙ ap (λ (bytes : List ℕ). bytes ++ 10 ∷ []) (c.put_event.ensures.bytes ∙ ap (λ (front : List ℕ). with_event front event) begun.ensures.line) in
    let count : begun.result ≡ length (decimal at) = begun.ensures.count ∙ ap (λ (bytes : List ℕ). length bytes) begun.ensures.line in
    record { digits = front_stays at event begun.result c.put.new.self count is; inside = front_inside at event begun.result c.put.new.self count is; few = begun.ensures.few }
