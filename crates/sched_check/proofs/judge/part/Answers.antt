use Rattle.std.proofs.Common.{◌+◌, ◌-◌, ◌≤◌, List, ℕ, take, drop, length, length-drop, take_all, arith, sym, subst}
use Rattle.sched_check.specs.Lines.{IsParted}
use Rattle.sched_check.proofs.Newlines.{found_none, found_some}
use Rattle.sched_check.proofs.judge.part.Goals as goal

pub returns-in-None : goal.returns-in-None
returns-in-None c = found_none c.args.bytes.now c.in-None.ensures

pub returns-in-Some : goal.returns-in-Some
returns-in-Some c =
    let bytes = c.args.bytes.now in
    let k = c.in-Some.end + 1 in
    let fits : length (drop k bytes) ≤ length bytes - k = omega (arith, length-drop k bytes) in
    subst (λ (z : List ℕ). IsParted bytes (take c.in-Some.end bytes) z) (sym (take_all (length bytes - k) (drop k bytes) fits)) (found_some bytes c.in-Some.end c.in-Some.ensures)
