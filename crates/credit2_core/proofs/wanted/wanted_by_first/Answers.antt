use Rattle.std.proofs.Common.{◌≡◌, ◌<◌, ◌+◌, ◌*◌, ◌-◌, ℕ, Bool, suc, length, arith, subst, sym, ap, ◌∙◌}
use Rattle.std.specs.Prelude.{◌^◌, None}
use mir.Val.{bool_byte}
use Rattle.std.proofs.lemmas.List.{get_or_default}
use Rattle.sched_model.specs.Places.{at_place}
use Rattle.sched_ops.specs.WantedCores.{is_core_wanted}
use Rattle.sched_ops.proofs.Bits.{front_fits}
use Rattle.credit2_core.specs.Credit2State.{scheduler_in}
use Rattle.credit2_core.proofs.Looking.{bits_before}
use Rattle.credit2_core.proofs.wanted.wanted_by_first.Goals as goal

pub loop-r-preserved : goal.loop-r-preserved
loop-r-preserved c =
    let r : ℕ = c.loop-r.r in
    let some : 0 < r = omega arith in
    let inside : r - 1 < length c.args.cores.now = omega arith in
    let at : c.index-cores-r.result ≡ at_place c.args.cores.now (r - 1) = c.index-cores-r.is ∙ get_or_default c.args.cores.now (r - 1) c.index-cores-r.result None inside in
    let longer : suc (length c.args.cores.now - r) ≡ length c.args.cores.now - (r - 1) = omega arith in
    let is : ℕ → ℕ → Bool = λ home i. is_core_wanted c.args.t.0 home (scheduler_in c.args.state.now) i (at_place c.args.cores.now i) in
    let low : r - 1 < 64 = omega (arith, c.requires.few, inside) in
    let here : (home : ℕ) → c.is_wanted-wanted.result ≡ is home (r - 1) = λ home. c.is_wanted-wanted.ensures (r - 1) home low ∙ ap (is_core_wanted c.args.t.0 home (scheduler_in c.args.state.now) (r - 1)) at in
    record {
      fits = subst (λ (n : ℕ). 2 * c.loop-r.set + bool_byte c.is_wanted-wanted.result < 2 ^ n) longer (front_fits c.loop-r.set (length c.args.cores.now - r) c.is_wanted-wanted.result c.loop-r.invariant.fits);
      bits = λ home. bits_before (is home) r c.loop-r.set c.is_wanted-wanted.result (c.loop-r.invariant.bits home) some (here home);
    }

pub is_wanted-wanted-requires-clause-asks : goal.is_wanted-wanted-requires-clause-asks
is_wanted-wanted-requires-clause-asks c core here =
    let r : ℕ = c.loop-r.r in
    let inside : r - 1 < length c.args.cores.now = omega arith in
    let at : c.index-cores-r.result ≡ at_place c.args.cores.now (r - 1) = c.index-cores-r.is ∙ get_or_default c.args.cores.now (r - 1) c.index-cores-r.result None inside in
    c.requires.asks (r - 1) core (sym at ∙ here)

pub returns : goal.returns
returns c home r =
    let is : ℕ → Bool = λ i. is_core_wanted c.args.t.0 home (scheduler_in c.args.state.now) i (at_place c.args.cores.now i) in
    let end : c.loop-r.r + r ≡ r = omega arith in
    c.loop-r.invariant.bits home r ∙ ap is end
