-- How often each core has decided, in a history with one entry more and in one that begins another.
use Rattle.std.proofs.Common.{◌≡◌, ℕ, suc, ◌+◌, ◌≤◌, eqb, cond, List, [], ◌∷◌, ◌++◌, eq-eqb, ne_eqb, sym, ap, ◌∙◌, subst, arith}
use mathlib.Core.List.{IsPrefix}
use mathlib.Core.Logic.{dite}
use native.Mathlib.Decide.{ℕ_discrete}
use Rattle.sched_model.specs.declared.event.Event.{Event}
use Rattle.sched_model.specs.declared.event.Event.TheVariants as event
use Rattle.sched_model.specs.declared.event.Entry.{Entry}
use Rattle.sched_model.specs.Runs.{event_action}
use Rattle.journal_core.specs.Histories.{decides_at, decision_of}
use Rattle.journal_core.proofs.Grows.{decides_at-append}
use Rattle.lock_moves.specs.SeatSight.{Seen, raise}
use Rattle.lock_moves.specs.Plays.{Decided}
use Rattle.lock_moves.specs.Decisions.{who_decides}

-- one entry more
pub one_more : (h : List Entry) (entry : Entry) (r : ℕ) → decides_at (h ++ entry ∷ []) r ≡ decides_at h r + decision_of entry.event r
one_more h entry r = let e = decides_at-append h entry r in omega (arith, e)

eqb_flip : (a b : ℕ) → eqb (suc b) (suc a) ≡ eqb a b
eqb_flip a b = dite (ℕ_discrete a b)
    (λ is. eq-eqb (suc b) (suc a) (ap suc (sym is)) ∙ sym (eq-eqb a b is))
    (λ ne. ne_eqb (suc b) (suc a) (λ e. ne (omega (arith, e))) ∙ sym (ne_eqb a b ne))

-- a view that names no core raises none
abbrev raised_by : ℕ → ℕ → ℕ
raised_by r n = cond (eqb (suc r) n) 1 0

raises_none : (r : ℕ) → raised_by r 0 ≡ 0
raises_none r = ap (λ b. let z : ℕ = cond b 1 0 in z) (ne_eqb (suc r) 0 (λ e. absurd (omega (arith, e))))

-- the event counts for the core r exactly where a view that names its decider raises r
decision_raises : (e : Event) (r : ℕ) → decision_of e r ≡ raised_by r (who_decides (event_action e))
decision_raises (event.Decide core unit due late reset) r = ap (λ b. let z : ℕ = cond b 1 0 in z) (sym (eqb_flip core.0 r))
decision_raises e r = sym (raises_none r)

pub decided_added : (v : Seen) (entry : Entry) → v.named ≡ who_decides (event_action entry.event) → Decided v (v.front ++ entry ∷ [])
decided_added v entry named r low = one_more v.front entry r ∙ ap (λ (n : ℕ). decides_at v.front r + n) (decision_raises entry.event r ∙ ap (raised_by r) (sym named))

pub decided_same : (v : Seen) → v.named ≡ 0 → Decided v v.front
decided_same v named r low = let none : raise r v ≡ 0 = ap (raised_by r) named ∙ raises_none r in omega (arith, none)

-- a history that goes on
grows : (h more : List Entry) (r : ℕ) → decides_at h r ≤ decides_at (h ++ more) r
unfolding decides_at
grows [] more r = omega arith
grows (entry ∷ h) more r = let rest = grows h more r in omega (arith, rest)

pub prefix_grows : (h longer : List Entry) → IsPrefix h longer → (r : ℕ) → decides_at h r ≤ decides_at longer r
prefix_grows h longer p r = subst (λ (z : List Entry). decides_at h r ≤ decides_at z r) p.1 (grows h p.0 r)
