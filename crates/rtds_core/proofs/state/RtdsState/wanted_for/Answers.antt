use Rattle.std.proofs.Common.{◌≡◌, ◌≤◌, ◌<◌, ℕ, false, ◌∙◌, ap, sym, subst, List, arith, length, rules}
use Rattle.std.specs.Prelude.{Option, ◌==◌}
use Rattle.std.proofs.lemmas.Nat.Bits.{bit_at-zero}
use Rattle.unit_places.specs.Masks.{mask_of}
use Rattle.sched_base.specs.CoreSets.{is_core_allowed}
use Rattle.sched_base.specs.declared.Cores.{Cores}
use Rattle.sched_laws.proofs.EachPlace.{place_below}
use Rattle.sched_model.specs.declared.state.RtdsUnit.{RtdsUnit}
use Rattle.sched_model.specs.Places.{at_place}
use Rattle.sched_model.specs.State.{has_core_bit}
use Rattle.sched_ops.specs.Seen.{Seen, scheduler_without_unit}
use Rattle.sched_ops.specs.WantedCores.{is_core_wanted}
use Rattle.sched_ops.proofs.Coming.{none_alone, wanted_alone, wanted_alone_by}
use Rattle.rtds_core.specs.declared.wanted.Ahead.{Ahead}
use Rattle.rtds_core.specs.RtdsParts.{seen_of}
use Rattle.rtds_core.specs.WantedCores.{is_outrun, is_ready}
use Rattle.rtds_core.proofs.Queues.{IsOrdered}
use Rattle.rtds_core.proofs.Behind.{behind_first}
use Rattle.rtds_core.proofs.Coming.{ready_outruns, unready_alone}
use Rattle.rtds_core.proofs.state.RtdsState.wanted_for.Goals as goal

pub returns-then-not-waits_ready : goal.returns-then-not-waits_ready
returns-then-not-waits_ready c r =
    let i = c.self.inside in
    let u = c.args.u in
    let low : u.n < 256 = search rules in
    let home : ℕ = c.args.home.0 in
    let t : ℕ = c.args.t.0 in
    let order : IsOrdered i.queues = record { order = c.law_order.ensures.order; ranks = c.law_order.ensures.ranks; units = c.law_order.ensures.units } in
    let seen : Seen = seen_of i.domains i.affinity i.queues i.spare i.latest in
    let before : is_core_wanted t home (scheduler_without_unit u seen.scheduler) r (at_place c.args.cores.now r) ≡ false =
    subst (λ (s : Seen). is_core_wanted t home (scheduler_without_unit u s.scheduler) r (at_place c.args.cores.now r) ≡ false) (sym c.self.view_is) (c.requires.before r) in
    let unready : is_ready i.domains i.queues u ≡ false = ap (λ (ds : List (Option (List RtdsUnit))). is_ready ds i.queues u) (sym c.as_slice.ensures) ∙ sym c.waits_ready.ensures ∙ c.if-not-waits_ready.true in
    ap (λ (n : ℕ). n == 1) (bit_at-zero r)
    ∙ sym (wanted_alone t home seen.scheduler u r (at_place c.args.cores.now r) before
    ∙ unready_alone i.domains i.affinity i.queues i.masks i.spare i.latest c.self.invariant.shape c.self.invariant.queued c.self.invariant.sets order u low t home r (at_place c.args.cores.now r) unready)
    ∙ ap (λ (s : Seen). is_core_wanted t home s.scheduler r (at_place c.args.cores.now r)) c.self.view_is

pub returns-then-stands_behind : goal.returns-then-stands_behind
returns-then-stands_behind c r =
    let i = c.self.inside in
    let u = c.args.u in
    let low : u.n < 256 = search rules in
    let home : ℕ = c.args.home.0 in
    let t : ℕ = c.args.t.0 in
    let order : IsOrdered i.queues = record { order = c.law_order.ensures.order; ranks = c.law_order.ensures.ranks; units = c.law_order.ensures.units } in
    let seen : Seen = seen_of i.domains i.affinity i.queues i.spare i.latest in
    let before : is_core_wanted t home (scheduler_without_unit u seen.scheduler) r (at_place c.args.cores.now r) ≡ false =
    subst (λ (s : Seen). is_core_wanted t home (scheduler_without_unit u s.scheduler) r (at_place c.args.cores.now r) ≡ false) (sym c.self.view_is) (c.requires.before r) in
    let ready = ap (λ (ds : List (Option (List RtdsUnit))). is_ready ds i.queues u) (sym c.as_slice.ensures) ∙ sym c.waits_ready.ensures ∙ c.if-not-waits_ready.false in
    ap (λ (n : ℕ). n == 1) (bit_at-zero r)
    ∙ sym (none_alone t home seen.scheduler u r (at_place c.args.cores.now r) before
    (λ x at listed may.
    let below : r < length c.args.cores.now = place_below c.args.cores.now r x at in
    let few : length c.args.cores.now ≤ 64 = c.requires.few in
    behind_first i.domains i.affinity c.self.invariant.shape u low i.queues i.masks i.spare i.latest home r t c.self.invariant.queued c.self.invariant.sets order ready (omega (arith, below, few)) (c.stands_behind.ensures c.if-stands_behind.true)))
    ∙ ap (λ (s : Seen). is_core_wanted t home s.scheduler r (at_place c.args.cores.now r)) c.self.view_is

pub returns : goal.returns
returns c r =
    let i = c.self.inside in
    let u = c.args.u in
    let low : u.n < 256 = search rules in
    let home : ℕ = c.args.home.0 in
    let t : ℕ = c.args.t.0 in
    let order : IsOrdered i.queues = record { order = c.law_order.ensures.order; ranks = c.law_order.ensures.ranks; units = c.law_order.ensures.units } in
    let seen : Seen = seen_of i.domains i.affinity i.queues i.spare i.latest in
    let before : is_core_wanted t home (scheduler_without_unit u seen.scheduler) r (at_place c.args.cores.now r) ≡ false =
    subst (λ (s : Seen). is_core_wanted t home (scheduler_without_unit u s.scheduler) r (at_place c.args.cores.now r) ≡ false) (sym c.self.view_is) (c.requires.before r) in
    let ready = ap (λ (ds : List (Option (List RtdsUnit))). is_ready ds i.queues u) (sym c.as_slice.ensures) ∙ sym c.waits_ready.ensures ∙ c.if-not-waits_ready.false in
    let coming : Ahead = record { unit = u; cores = c.open_cores.result } in
    let is_open : r < 64 → has_core_bit coming.cores.0 r ≡ is_core_allowed (mask_of i.masks u).0 r home =
    λ low. c.open_cores.ensures r low ∙ ap (λ (set : Cores). is_core_allowed set.0 r home) c.get.ensures in
    wanted_alone_by (λ core cur since answer. answer ≡ is_outrun c.as_slice-2.result.now coming cur core) t home seen.scheduler u r (at_place c.args.cores.now r) (has_core_bit c.outrun_by.result.0 r) before
    (λ x answer at asked is.
    let below : r < length c.args.cores.now = place_below c.args.cores.now r x at in
    let few : length c.args.cores.now ≤ 64 = c.requires.few in
    is
    ∙ ap (λ (ds : List (Option (List RtdsUnit))). is_outrun ds coming x.cur (record { 0 = r })) c.as_slice-2.ensures
    ∙ ready_outruns i.domains i.affinity i.queues i.masks i.spare i.latest c.self.invariant.shape c.self.invariant.queued c.self.invariant.sets order u low t home r x.cur x.since.0 c.open_cores.result ready (is_open (omega (arith, below, few))))
    (c.outrun_by.ensures r)
    ∙ ap (λ (s : Seen). is_core_wanted t home s.scheduler r (at_place c.args.cores.now r)) c.self.view_is
