-- Actions by kind: the action of a kind at a place, and the order of two actions by their kinds.
use Rattle.std.proofs.Common.{◌≡◌, ◌<◌, ℕ, refl, ap, sym, subst, ◌∙◌, arith}
use Rattle.std.specs.Prelude.{◌==◌, if◌then◌else◌}
use Rattle.sched_base.specs.Numbers.{domain, core, processor}
use Rattle.sched_base.specs.declared.UnitId.{UnitId}
use Rattle.sched_base.specs.declared.VcpuId.{VcpuId}
use Rattle.sched_model.specs.declared.action.Action.{Action}
use Rattle.sched_model.specs.declared.action.Action.TheVariants.{Stall, Xl, Moved, DomMoved, Wake, Block, Slice, Repl, Refill, Arrive, Decide, Leave, Save}
use Rattle.pool_laws.specs.Order.{kind_place, subject_place, index_place, IsNotAfter}

-- the action of the kind at a place, by the number and the index of its subject
abbrev pub action_at : ℕ → ℕ → ℕ → Action
action_at k i n =
    let v : VcpuId = record { dom = domain i; n = n } in
    let u : UnitId = record { dom = domain i; n = n } in
    if k == 0
    then Stall
    else if k == 1 then Xl
    else if k == 2 then Moved (core i)
    else if k == 3 then DomMoved (domain i)
    else if k == 4 then Wake v
    else if k == 5 then Block (processor i)
    else if k == 6 then Slice (core i)
    else if k == 7 then Repl u
    else if k == 8 then Refill (domain i)
    else if k == 9 then Arrive (processor i)
    else if k == 10 then Decide (core i)
    else if k == 11 then Leave (processor i)
    else Save (core i)

at_own : (a : Action) → action_at (kind_place a) (subject_place a) (index_place a) ≡ a
at_own Stall = refl
at_own a = refl

-- an action of a kind
pub of_kind : (k : ℕ) (a : Action) → kind_place a ≡ k → action_at k (subject_place a) (index_place a) ≡ a
of_kind k a is = subst (λ (j : ℕ). action_at j (subject_place a) (index_place a) ≡ a) is (at_own a)

-- of two actions of which neither comes after the other both are the same
pub same_place : (a b : Action) → IsNotAfter a b → IsNotAfter b a → a ≡ b
same_place a b f s =
    let kind : kind_place a ≡ kind_place b = (let x = f.by_kind in let y = s.by_kind in omega (arith, x, y)) in
    let subject : subject_place a ≡ subject_place b = (let x = f.then_by_subject kind in let y = s.then_by_subject (sym kind) in omega (arith, x, y)) in
    let index : index_place a ≡ index_place b = (let x = f.then_by_index kind subject in let y = s.then_by_index (sym kind) (sym subject) in omega (arith, x, y)) in
    sym (of_kind (kind_place b) a kind)
    ∙ ap (λ i. action_at (kind_place b) i (index_place a)) subject
    ∙ ap (λ n. action_at (kind_place b) (subject_place b) n) index
    ∙ at_own b

pub not_after_itself : (a : Action) → IsNotAfter a a
not_after_itself a = record { by_kind = omega arith; then_by_subject = λ e. omega arith; then_by_index = λ e f. omega arith }

-- an action of a later kind
pub later_kind : (a b : Action) → kind_place a < kind_place b → IsNotAfter a b
later_kind a b before = record {
  by_kind = omega (arith, before);
  then_by_subject = λ same. absurd (omega (arith, before, same));
  then_by_index = λ same also. absurd (omega (arith, before, same));
}
