-- Two events are the same where their `==` holds, and only there.
use Rattle.std.proofs.Common.{◌≡◌, ◌∙◌, true, ap, sym, rules}
use Rattle.std.specs.Prelude.{◌↔◌, Ok, Err}
use Rattle.sched_model.specs.declared.event.Event.{Event}
use Rattle.sched_model.specs.declared.event.Event.TheVariants as event
use Rattle.sched_model.specs.declared.event.Refusal.{Refusal}
use Rattle.sched_model.specs.contracts.event.RefusalPartialEq.TheImpl as refusal_eq
use Rattle.sched_check.specs.Same.{same_event}

-- the same of refusals
same_refusals : (a b : Refusal) → ((refusal_eq.ghosts).eq a b ≡ true) ↔ (a ≡ b)
same_refusals a b = search rules

-- events whose `==` holds are the same
from_true : (a b : Event) → same_event a b ≡ true → a ≡ b
from_true (event.Stall p until) (event.Stall p1 until1) same = search rules
from_true (event.Xl k (Ok r)) (event.Xl k1 (Ok r1)) same = search rules
from_true (event.Xl k (Err r)) (event.Xl k1 (Err r1)) same = search (rules, (same_refusals r r1).0)
from_true (event.Moved r to) (event.Moved r1 to1) same = search rules
from_true (event.DomMoved d to) (event.DomMoved d1 to1) same = search rules
from_true (event.Wake v) (event.Wake v1) same = search rules
from_true (event.Block p v) (event.Block p1 v1) same = search rules
from_true (event.Slice r) (event.Slice r1) same = search rules
from_true (event.Repl u start deadline budget extra) (event.Repl u1 start1 deadline1 budget1 extra1) same = search rules
from_true (event.Refill d periods budget) (event.Refill d1 periods1 budget1) same = search rules
from_true (event.Arrive p) (event.Arrive p1) same = search rules
from_true (event.Decide r unit due late reset) (event.Decide r1 unit1 due1 late1 reset1) same = search rules
from_true (event.Leave p v) (event.Leave p1 v1) same = search rules
from_true (event.Save r u queued) (event.Save r1 u1 queued1) same = search rules
from_true (event.End next) (event.End next1) same = search rules
from_true event.Finish event.Finish same = search rules
from_true _ _ same = absurd (search rules)

-- an event is the same as itself
to_true : (a : Event) → same_event a a ≡ true
to_true (event.Stall p until) = search rules
to_true (event.Xl k answer) = search rules
to_true (event.Moved r to) = search rules
to_true (event.DomMoved d to) = search rules
to_true (event.Wake v) = search rules
to_true (event.Block p v) = search rules
to_true (event.Slice r) = search rules
to_true (event.Repl u start deadline budget extra) = search rules
to_true (event.Refill d periods budget) = search rules
to_true (event.Arrive p) = search rules
to_true (event.Decide r unit due late reset) = search rules
to_true (event.Leave p v) = search rules
to_true (event.Save r u queued) = search rules
to_true (event.End next) = search rules
to_true event.Finish = search rules

pub same_events : (a b : Event) → (same_event a b ≡ true) ↔ (a ≡ b)
same_events a b = (from_true a b, λ e. sym (ap (same_event a) e) ∙ to_true a)
