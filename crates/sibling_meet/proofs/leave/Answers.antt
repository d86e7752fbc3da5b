use Rattle.std.proofs.Common.{◌≡◌, ◌∙◌, false, refl, sym, ap, arith}
use Rattle.std.specs.Prelude.{count_by}
use Rattle.std.proofs.lemmas.Bool.{false≢true}
use Rattle.sched_model.specs.Pool.{is_held_back, reopened_core}
use Rattle.sibling_meet.proofs.Counts.{none_held, some_held, opened, kept}
use Rattle.sibling_meet.proofs.leave.Goals as goal

pub returns-in-0-clause-core : goal.returns-in-0-clause-core
returns-in-0-clause-core c = opened c.set_doing.new.core (sym (ap (count_by is_held_back) c.as_slice.ensures.items) ∙ sym c.held_among.ensures ∙ c.in-0.is) ∙ ap reopened_core c.set_doing.ensures

pub returns-in-0-clause-last : goal.returns-in-0-clause-last
returns-in-0-clause-last c = (λ _. none_held c.set_doing.new.core.processors (sym (ap (count_by is_held_back) c.as_slice.ensures.items) ∙ sym c.held_among.ensures ∙ c.in-0.is), λ _. refl)

pub returns-in_default-clause-core : goal.returns-in_default-clause-core
returns-in_default-clause-core c = kept c.set_doing.new.core (omega (arith, c.in_default, c.held_among.ensures, ap (count_by is_held_back) c.as_slice.ensures.items)) ∙ ap reopened_core c.set_doing.ensures

pub returns-in_default-clause-last : goal.returns-in_default-clause-last
returns-in_default-clause-last c =
    (λ e. absurd (grind arith), λ none. absurd (false≢true (sym none ∙ some_held c.set_doing.new.core.processors (omega (arith, c.in_default, c.held_among.ensures, ap (count_by is_held_back) c.as_slice.ensures.items)))))
