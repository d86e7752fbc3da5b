use Rattle.std.proofs.Common.{◌≡◌, ◌≢◌, ◌≤◌, ◌∙◌, ◌/◌, ◌*◌, ℕ, sym, subst, ap, arith}
use Rattle.sched_model.specs.declared.machine.Machine.{Machine}
use Rattle.journal_core.specs.Histories.{decides_at}
use Rattle.lock_moves.specs.SeatSight.{Sitting}
use Rattle.lock_moves.specs.Sets.{LockTable}
use Rattle.hall.specs.declared.turns.Waits.{Waits}
use Rattle.hall.specs.Seats.{Seated}
use Rattle.hall.specs.Turns.{Awaits, HasLoaded, IsWaiting}
use Rattle.hall.proofs.Counting.{exact}
use Rattle.hall.proofs.hall.Hall.still_waits.Goals as goal
use Rattle.hall.proofs.hall.Hall.still_waits.Goals.{then-decides-from, else-decides-from}

pub returns-after-decides-from-clause-waits : goal.returns-after-decides-from-clause-waits
returns-after-decides-from-clause-waits c =
    let g : ℕ = c.args.self.now.opened.input.config.granularity in
    let p : ℕ = c.args.p.0 in
    let s0 = c.seat.inside.seat in
    let old : Seated = record { sitting = s0; arrived = c.seat.inside.arrived } in
    let new : Seated = record { sitting = c.read_stage-decides.new.seat; arrived = c.seat.inside.arrived } in
    let a = c.in-Some.a in
    let n : ℕ = c.read_stage-decides.result in
    let told = c.read_stage-decides.ensures.counts in
    let from = c.from.ensures in
    let kept : c.self.inside.granularity ≡ g = c.self.invariant.granularity_is ∙ ap (λ (x : LockTable). x.opened.input.config.granularity) c.self.view_is in
    let input : s0.view.input ≡ c.args.self.now.opened.input = ap (λ (x : Seated). x.sitting.view.input) c.seat.view_is ∙ c.requires.of.input in
    let same : s0.view.input.config.granularity ≡ c.self.inside.granularity = ap (λ (m : Machine). m.config.granularity) input ∙ sym kept in
    let awaits : Awaits g c.args.p old a = record { kept = c.in-Some.is; is_p = c.if-a-p.true; follows = subst (λ (z : ℕ). p ≢ p / z * z) kept c.if-p-core.true } in
    let loaded : HasLoaded (p / g) n old new = subst (λ (z : ℕ). HasLoaded (p / z) n old new) kept
    (record {
      seat = ap (λ (s : Sitting). (let x : Seated = record { sitting = s; arrived = c.seat.inside.arrived } in x)) c.read_stage-decides.ensures.kept;
      history = told.0;
      begins = told.1;
      counts = told.2;
    }) in
    elim c.if-decides-from.branch [
      | then-decides-from w ↦
          let more = w.if-decides-from in
          subst (λ (s : Seated). IsWaiting g c.args.p c.if-decides-from.result s new) c.seat.view_is
          (subst (λ (r : Waits). IsWaiting g c.args.p r old new) (sym w.result-is) (a, awaits, loaded, omega (arith, more, from)))
      | else-decides-from w ↦
          let no_more = w.if-decides-from in
          let most : n ≤ a.decides = omega (arith, no_more, from) in
          let counts : decides_at told.0 (a.p.0 / s0.view.input.config.granularity) ≤ n =
          subst (λ (z : ℕ). decides_at told.0 (a.p.0 / z) ≤ n) (sym same) (subst (λ (q : ℕ). decides_at told.0 (q / c.self.inside.granularity) ≤ n) (sym c.if-a-p.true) told.2) in
          let is : n ≡ a.decides = exact s0.view.input.config.granularity s0.view.front told.0 a n (c.seat.invariant.counted a c.in-Some.is) told.1 counts most in
          subst (λ (s : Seated). IsWaiting g c.args.p c.if-decides-from.result s new) c.seat.view_is
          (subst (λ (r : Waits). IsWaiting g c.args.p r old new) (sym w.result-is) (a, awaits, subst (λ (m : ℕ). HasLoaded (p / g) m old new) is loaded))
    ]
