-- The order of actions: by kind, then by the number of the subject, then by the index in the domain.
use Rattle.std.specs.Prelude.{ℕ, ◌≡◌, ◌≤◌}
use Rattle.sched_model.specs.declared.action.Action.{Action}
use Rattle.sched_model.specs.declared.action.Action.TheVariants.{Stall, Xl, Moved, DomMoved, Wake, Block, Slice, Repl, Refill, Arrive, Decide, Leave, Save}

-- the place of an action's kind in the order of kinds
abbrev pub kind_place : Action → ℕ
kind_place Stall = 0
kind_place Xl = 1
kind_place (Moved r) = 2
kind_place (DomMoved d) = 3
kind_place (Wake v) = 4
kind_place (Block p) = 5
kind_place (Slice r) = 6
kind_place (Repl u) = 7
kind_place (Refill d) = 8
kind_place (Arrive p) = 9
kind_place (Decide r) = 10
kind_place (Leave p) = 11
kind_place (Save r) = 12

-- the number of an action's subject: of a vCPU and a unit that of the domain
abbrev pub subject_place : Action → ℕ
subject_place Stall = 0
subject_place Xl = 0
subject_place (Moved r) = r.0
subject_place (DomMoved d) = d.0
subject_place (Wake v) = v.dom.0
subject_place (Block p) = p.0
subject_place (Slice r) = r.0
subject_place (Repl u) = u.dom.0
subject_place (Refill d) = d.0
subject_place (Arrive p) = p.0
subject_place (Decide r) = r.0
subject_place (Leave p) = p.0
subject_place (Save r) = r.0

-- the index of a vCPU and a unit in the domain
abbrev pub index_place : Action → ℕ
index_place (Wake v) = v.n
index_place (Repl u) = u.n
index_place _ = 0

-- the first action does not come after the second: by kind, then by number, then by index
pub record IsNotAfter (a b : Action) : Type 0 where
  pub by_kind : kind_place a ≤ kind_place b
  pub then_by_subject : kind_place a ≡ kind_place b → subject_place a ≤ subject_place b
  pub then_by_index : kind_place a ≡ kind_place b → subject_place a ≡ subject_place b → index_place a ≤ index_place b
