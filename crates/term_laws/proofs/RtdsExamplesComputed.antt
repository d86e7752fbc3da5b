-- The worked examples of terms, computed.
use Rattle.std.proofs.Common.{◌≡◌, [], ◌∷◌, refl}
use Rattle.term_laws.specs.RtdsExamples.{terms_of, legs_of, term, leg, unit, two_units, stall_past_the_due, late_replenishment, new_budget, new_budget_while_running}

pub first_of_two : terms_of two_units (unit 0) ≡ (term 0 10000000 4000000 0 4000000 0 ∷ term 10000000 20000000 4000000 0 4000000 0 ∷ term 20000000 30000000 4000000 0 0 0 ∷ [])
unfolding two_units
first_of_two = refl

pub second_of_two : terms_of two_units (unit 1) ≡ (term 0 20000000 5000000 0 5000000 0 ∷ term 20000000 40000000 5000000 0 0 0 ∷ [])
unfolding two_units
second_of_two = refl

pub legs_of_first : legs_of two_units (unit 0) ≡ (leg 0 4000000 0 ∷ leg 10000000 14000000 0 ∷ leg 20000000 20000000 0 ∷ [])
unfolding two_units
legs_of_first = refl

pub runs_longer : terms_of stall_past_the_due (unit 0) ≡ (term 0 10000000 4000000 0 5000000 1000000 ∷ [])
unfolding stall_past_the_due
runs_longer = refl

pub begins_late : terms_of late_replenishment (unit 0) ≡ (term 0 10000000 4000000 0 4000000 0 ∷ term 35000000 40000000 4000000 5000000 0 0 ∷ [])
unfolding late_replenishment
begins_late = refl

pub budget_from_the_next_term : terms_of new_budget (unit 0) ≡ (term 0 10000000 4000000 0 4000000 0 ∷ term 10000000 20000000 1000000 0 0 0 ∷ [])
unfolding new_budget
budget_from_the_next_term = refl

pub less_while_running : terms_of new_budget_while_running (unit 0) ≡ (term 0 10000000 4000000 0 3000000 0 ∷ term 10000000 20000000 500000 0 500000 0 ∷ [])
unfolding new_budget_while_running
less_while_running = refl

pub legs_while_running : legs_of new_budget_while_running (unit 0) ≡ (leg 0 1000000 0 ∷ leg 8000000 10500000 0 ∷ [])
unfolding new_budget_while_running
legs_while_running = refl
