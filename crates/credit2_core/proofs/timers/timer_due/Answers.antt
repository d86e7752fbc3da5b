use Rattle.std.proofs.Common.{◌≡◌, ◌<◌, ◌≤◌, ◌+◌, ◌∙◌, ℕ, true, sym, ap, refl, arith}
use Rattle.std.specs.Prelude.{List, [], Option, Some, None, is_some, slice_index_or}
use Rattle.sched_base.specs.Numbers.{domain}
use Rattle.sched_base.specs.declared.Moment.{Moment}
use Rattle.sched_model.specs.declared.state.Credit2Domain.{Credit2Domain}
use Rattle.sched_model.specs.Places.{at_place, numbered_items}
use Rattle.sched_ops.specs.Timers.{Armed, refills, first_due_timer, soonest_timer}
use Rattle.sched_ops.specs.declared.timer.Timer.TheVariants.{Refill}
use Rattle.due_heap.specs.Dues.{GoesFirst}
use Rattle.credit2_core.specs.Places.{refill_of}
use Rattle.credit2_core.proofs.Refills.{due_is, none_armed, none_due, some_due, soonest_is}
use Rattle.credit2_core.proofs.timers.timer_due.Goals as goal

-- the timer of these that comes first, or else the soonest
abbrev first_or : Option Armed → Option Armed → Option Armed
first_or o soon = elim o [ Some x ↦ Some x | None ↦ soon ]

first_some : (o soon : Option Armed) → is_some o ≡ true → o ≡ first_or o soon
first_some None soon e = absurd cc
first_some (Some x) soon e = refl

pub returns-in-None : goal.returns-in-None
returns-in-None c =
    let h = c.args.state.now in
    let domains : List (Option Credit2Domain) = h.records.domains in
    let none : (i : ℕ) (at : Moment) → refill_of (at_place domains i) ≡ Some at → ⊥ = λ i at is. c.in-None.ensures.none i at (ap (λ (rs : List (Option Moment)). slice_index_or rs i None) c.requires.refills ∙ due_is domains i ∙ is) in
    let empty : refills (numbered_items 0 domains) ≡ [] = none_armed c.args.t.0 0 domains none in
    ap (λ (xs : List Armed). first_or (first_due_timer c.args.t.0 xs) (soonest_timer None xs)) (sym empty)

pub returns-then-at-t : goal.returns-then-at-t
returns-then-at-t c =
    let h = c.args.state.now in
    let domains : List (Option Credit2Domain) = h.records.domains in
    let same : (i : ℕ) → slice_index_or h.refills i None ≡ refill_of (at_place domains i) = λ i. ap (λ (rs : List (Option Moment)). slice_index_or rs i None) c.requires.refills ∙ due_is domains i in
    let is : refill_of (at_place domains c.in-Some.d) ≡ Some c.in-Some.at = sym (same c.in-Some.d) ∙ c.in-Some.ensures.armed in
    let first : (j : ℕ) (b : Moment) → refill_of (at_place domains j) ≡ Some b → GoesFirst c.in-Some.at c.in-Some.d b j = λ j b here. c.in-Some.ensures.first j b (same j ∙ here) in
    let after : c.args.t.0 < c.in-Some.at.0 = c.if-at-t.true in
    let none : first_due_timer c.args.t.0 (refills (numbered_items 0 domains)) ≡ None = none_due c.args.t.0 0 domains (λ i at here. (let g = (first i at here).by_moment in omega (arith, after, g))) in
    let soon : soonest_timer None (refills (numbered_items 0 domains)) ≡ Some (c.in-Some.at, Refill (domain (0 + c.in-Some.d))) = soonest_is 0 None domains c.in-Some.d c.in-Some.at is first tt in
    ap (λ (k : ℕ). Some (c.in-Some.at, Refill (domain k))) (omega arith) ∙ sym soon ∙ ap (λ (o : Option Armed). first_or o (soonest_timer None (refills (numbered_items 0 domains)))) (sym none)

pub returns-else-at-t : goal.returns-else-at-t
returns-else-at-t c =
    let h = c.args.state.now in
    let domains : List (Option Credit2Domain) = h.records.domains in
    let is : refill_of (at_place domains c.in-Some.d) ≡ Some c.in-Some.at = sym (ap (λ (rs : List (Option Moment)). slice_index_or rs c.in-Some.d None) c.requires.refills ∙ due_is domains c.in-Some.d) ∙ c.in-Some.ensures.armed in
    let come : c.in-Some.at.0 ≤ c.args.t.0 = c.if-at-t.false in
    let found : c.first_due.result ≡ first_due_timer c.args.t.0 (refills (numbered_items 0 domains)) = c.first_due.ensures ∙ ap (λ (ds : List (Option Credit2Domain)). first_due_timer c.args.t.0 (refills (numbered_items 0 ds))) c.as_slice.ensures in
    found ∙ first_some (first_due_timer c.args.t.0 (refills (numbered_items 0 domains))) (soonest_timer None (refills (numbered_items 0 domains))) (some_due c.args.t.0 0 domains c.in-Some.d c.in-Some.at is come)
