use Rattle.std.proofs.Common.{◌≡◌, ◌≤◌, ◌∙◌, ℕ, Bool, true, false, min, max, refl, ap, arith}
use Rattle.std.specs.Prelude.{Some}
use Rattle.sched_base.specs.Numbers.{moment}
use Rattle.sched_base.specs.declared.Moment.{Moment}
use Rattle.pool_laws.specs.ReadyMoments.{later_of, guarded_moment}
use Rattle.plain_pool.specs.Ready.{is_waiting_or_on, lesser_moment, repl_end}
use Rattle.plain_pool.proofs.ready.of_unit.Goals as goal

-- a moment that is not before the least so far changes nothing, wherever the unit stands
unit_late : (best deadline at : ℕ) (end : Moment) (b : Bool) → at ≡ max deadline end.0 → best ≤ at → best ≡ lesser_moment best (later_of (guarded_moment b (Some (moment deadline))) (Some end))
unit_late best deadline at end true is late = omega (arith, is, late)
unit_late best deadline at end false is late = refl

unit_soon : (best deadline at : ℕ) (end : Moment) (b : Bool) → at ≡ max deadline end.0 → lesser_moment best (guarded_moment b (Some (moment at))) ≡ lesser_moment best (later_of (guarded_moment b (Some (moment deadline))) (Some end))
unit_soon best deadline at end true is = ap (λ (n : ℕ). min best n) is
unit_soon best deadline at end false is = refl

pub returns-then-best-at : goal.returns-then-best-at
unfolding repl_end
returns-then-best-at c = unit_late c.args.best c.args.deadline c.max-at.result c.args.end (is_waiting_or_on c.args.pool.now c.args.u) c.max-at.ensures c.if-best-at.true

pub returns : goal.returns
unfolding repl_end
returns c =
    c.lesser.ensures ∙ ap (lesser_moment c.args.best) (c.end_if.ensures ∙ ap (λ (b : Bool). guarded_moment b (Some (moment c.max-at.result))) c.is_about.ensures)
    ∙ unit_soon c.args.best c.args.deadline c.max-at.result c.args.end (is_waiting_or_on c.args.pool.now c.args.u) c.max-at.ensures
