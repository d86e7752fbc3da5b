use Rattle.std.proofs.Common.{◌≡◌, ◌∙◌, false, refl, sym, ap, arith}
use Rattle.std.specs.Prelude.{count_by}
use Rattle.std.proofs.lemmas.Bool.{false≢true}
use Rattle.sibling_meet.specs.Meeting.{is_away}
use Rattle.sibling_meet.proofs.Counts.{all_held, not_all_held}
use Rattle.sibling_meet.proofs.arrive.Goals as goal

pub returns-in-0-clause-last : goal.returns-in-0-clause-last
returns-in-0-clause-last c = (λ _. all_held c.set_doing.new.core.processors (sym (ap (count_by is_away) c.as_slice.ensures.items) ∙ sym c.away_among.ensures ∙ c.in-0.is), λ _. refl)

pub returns-in_default-clause-last : goal.returns-in_default-clause-last
returns-in_default-clause-last c =
    (λ e. absurd (grind arith), λ t. absurd (false≢true (sym (not_all_held c.set_doing.new.core.processors (omega (arith, c.in_default, c.away_among.ensures, ap (count_by is_away) c.as_slice.ensures.items))) ∙ t)))
