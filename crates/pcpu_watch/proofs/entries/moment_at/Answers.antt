use Rattle.std.proofs.Common.{◌≡◌, ◌∙◌, ◌-◌, ℕ, suc, take, ap, arith}
use Rattle.sched_report.specs.Stays.{last_moment}
use Rattle.pcpu_watch.proofs.Counting.{last-at}
use Rattle.pcpu_watch.proofs.entries.moment_at.Goals as goal

pub returns-clause-moment : goal.returns-clause-moment
returns-clause-moment g c =
    let n : ℕ = c.args.entries in
    let front = c.entry_at.new.seat.sitting.view.front in
    let next : suc (n - 1) ≡ n = (let some = c.if-entries-eq0.false in omega (arith, some)) in
    last-at front (n - 1) c.in_ok-last.last c.in_ok-last.ensures.found ∙ ap (λ (m : ℕ). last_moment (take m front)) next
