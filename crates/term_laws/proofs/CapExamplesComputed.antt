-- The worked examples of terms, computed.
use Rattle.std.proofs.Common.{◌≡◌, [], ◌∷◌, refl, true, false}
use Rattle.term_laws.specs.RtdsExamples.{leg}
use Rattle.term_laws.specs.CapExamples.{terms_of, spans_of, term, shared_cap, refill_while_running, stall_past_the_budget, set_after_overrun, set_after_refill, moved_domain}

pub both_share : terms_of shared_cap 0 ≡ (term 0 10000000 2500000 2500000 0 true ∷ term 10000000 10000000 2500000 0 0 true ∷ [])
unfolding shared_cap
both_share = refl

pub held_at_refill : terms_of refill_while_running 0 ≡ (term 0 10000000 10000000 7000000 0 true ∷ term 10000000 20000000 10000000 10000000 0 true ∷ term 20000000 20000000 10000000 0 0 true ∷ [])
unfolding refill_while_running
held_at_refill = refl

pub overruns : terms_of stall_past_the_budget 0 ≡ (term 0 10000000 2500000 4000000 1500000 true ∷ term 10000000 10000000 2500000 0 0 true ∷ [])
unfolding stall_past_the_budget
overruns = refl

pub set_late : terms_of set_after_overrun 0 ≡ (term 0 10000000 3300000 10000000 0 false ∷ term 10000000 10000000 3300000 0 0 true ∷ [])
unfolding set_after_overrun
set_late = refl

pub refilled_first : terms_of set_after_refill 1 ≡ (term 0 10000000 3300000 10000000 0 false ∷ term 10000000 20000000 3300000 10000000 0 false ∷ term 20000000 20000000 3300000 0 0 true ∷ [])
unfolding set_after_refill
refilled_first = refl

pub moves_on : terms_of moved_domain 0 ≡ (term 0 1000000 2500000 1000000 0 true ∷ [])
unfolding moved_domain
moves_on = refl

pub legs_of_both_pools : spans_of moved_domain 0 ≡ (leg 0 1000000 0 ∷ leg 1000000 11000000 0 ∷ leg 11000000 11000000 0 ∷ [])
unfolding moved_domain
legs_of_both_pools = refl
