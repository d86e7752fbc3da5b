use Rattle.std.proofs.Common.{◌≡◌, ◌≤◌, ◌∙◌, ap, sym, subst, List, Option, arith, refl}
use Rattle.std.specs.Option.{ForSome, IfSome}
use Rattle.sched_base.specs.declared.Cores.{Cores}
use Rattle.sched_base.specs.declared.UnitId.{UnitId}
use Rattle.sched_model.specs.declared.state.RtdsUnit.{RtdsUnit}
use Rattle.sched_model.specs.declared.state.Records.TheVariants.{RtdsPool}
use Rattle.sched_model.specs.Rtds.{own_burned_domains, off_domains, rtds_choice, unit_left_budget}
use Rattle.sched_model.specs.Policy.{decision_of, after_decision}
use Rattle.sched_ops.specs.Seen.{Seen, seen_at}
use Rattle.scheduler_records.specs.Parts.{scheduler_of}
use Rattle.rtds_queue.specs.Lists.{Lists}
use Rattle.rtds_core.specs.Best.{queue_of, AreQueued, queues_without, dues_with, dues_without, run_from, IsCharged}
use Rattle.rtds_core.specs.RtdsParts.{IsShaped, seen_of}
use Rattle.rtds_core.proofs.Again.{is_charged}
use Rattle.rtds_core.proofs.Changed.{shared_fits}
use Rattle.rtds_core.proofs.Queues.{IsOrdered}
use Rattle.rtds_core.proofs.First.{IsKnown}
use Rattle.rtds_core.proofs.Chosen.{kept_charged, kept_chosen, seen_chosen}
use Rattle.rtds_core.proofs.Calls.{own_low, choice_known, kept_as, kept_asked, own_asked, known_low}
use Rattle.rtds_core.proofs.state.RtdsState.choose.Goals as goal

pub burn_cur-requires-clause-fits : goal.burn_cur-requires-clause-fits
burn_cur-requires-clause-fits c =
    let i = c.self.inside in
    let ask = c.args.ask.now in
    let later = kept_asked i.domains i.affinity i.queues i.masks i.alarms i.spare i.latest ask c.args.self.now c.self.view_is c.requires.asked c.self.invariant in
    let places = c.self.invariant.shape.places in
    let most = c.self.invariant.shape.few in
    shared_fits ask.at.0 i.domains (omega (arith, places, most)) later.fits

pub pick-chosen-requires-clause-queues : goal.pick-chosen-requires-clause-queues
pick-chosen-requires-clause-queues c =
    let i = c.self.inside in
    let ask = c.args.ask.now in
    let later = kept_asked i.domains i.affinity i.queues i.masks i.alarms i.spare i.latest ask c.args.self.now c.self.view_is c.requires.asked c.self.invariant in
    let own = own_asked i.domains i.affinity i.queues i.spare i.latest ask c.args.self.now c.self.view_is c.requires.asked c.self.invariant.shape in
    let charged = kept_charged i.affinity i.queues i.masks i.spare ask.at.0 ask.cur i.domains i.alarms own later in
    subst (λ (ds : List (Option (List RtdsUnit))). AreQueued ds i.queues) (sym (c.as_slice.ensures ∙ c.burn_cur.ensures.domains)) charged.queued

pub pick-chosen-requires-clause-shape : goal.pick-chosen-requires-clause-shape
pick-chosen-requires-clause-shape c =
    let i = c.self.inside in
    let ask = c.args.ask.now in
    let later = kept_asked i.domains i.affinity i.queues i.masks i.alarms i.spare i.latest ask c.args.self.now c.self.view_is c.requires.asked c.self.invariant in
    let own = own_asked i.domains i.affinity i.queues i.spare i.latest ask c.args.self.now c.self.view_is c.requires.asked c.self.invariant.shape in
    let charged = kept_charged i.affinity i.queues i.masks i.spare ask.at.0 ask.cur i.domains i.alarms own later in
    subst (λ (a : List (Option (List Cores))). IsShaped c.as_slice.result.now a) (sym c.as_slice-2.ensures)
    (subst (λ (ds : List (Option (List RtdsUnit))). IsShaped ds i.affinity) (sym (c.as_slice.ensures ∙ c.burn_cur.ensures.domains)) charged.shape)

pub due_of-due-requires-clause-left : goal.due_of-due-requires-clause-left
due_of-due-requires-clause-left c u =
    subst (λ (ds : List (Option (List RtdsUnit))). unit_left_budget ds u ≤ 1000000000000) (sym c.as_slice-3.ensures) (c.burn_cur.ensures.left u)

pub switch-requires-clause-own : goal.switch-requires-clause-own
switch-requires-clause-own c =
    let i = c.self.inside in
    let ask = c.args.ask.now in
    let own = own_asked i.domains i.affinity i.queues i.spare i.latest ask c.args.self.now c.self.view_is c.requires.asked c.self.invariant.shape in
    λ u is. (own_low i.domains i.affinity i.queues ask.cur c.self.invariant.shape own u is).id

pub switch-requires-clause-charged : goal.switch-requires-clause-charged
switch-requires-clause-charged c =
    let i = c.self.inside in
    let ask = c.args.ask.now in
    let later = kept_asked i.domains i.affinity i.queues i.masks i.alarms i.spare i.latest ask c.args.self.now c.self.view_is c.requires.asked c.self.invariant in
    let own = own_asked i.domains i.affinity i.queues i.spare i.latest ask c.args.self.now c.self.view_is c.requires.asked c.self.invariant.shape in
    subst (λ (ds : List (Option (List RtdsUnit))). ForSome ask.cur (IsCharged ask.at.0 ds i.queues i.alarms)) (sym c.burn_cur.ensures.domains)
    (is_charged i.affinity i.queues i.masks i.spare ask.at.0 ask.cur i.domains i.alarms own later)

pub switch-requires-clause-known : goal.switch-requires-clause-known
switch-requires-clause-known c =
    let i = c.self.inside in
    let ask = c.args.ask.now in
    let later = kept_asked i.domains i.affinity i.queues i.masks i.alarms i.spare i.latest ask c.args.self.now c.self.view_is c.requires.asked c.self.invariant in
    let own = own_asked i.domains i.affinity i.queues i.spare i.latest ask c.args.self.now c.self.view_is c.requires.asked c.self.invariant.shape in
    let charged = kept_charged i.affinity i.queues i.masks i.spare ask.at.0 ask.cur i.domains i.alarms own later in
    let burned : List (Option (List RtdsUnit)) = own_burned_domains ask.cur ask.at.0 i.domains in
    let order : IsOrdered i.queues = record { order = c.law_order.ensures.order; ranks = c.law_order.ensures.ranks; units = c.law_order.ensures.units } in
    let slice : c.as_slice.result.now ≡ burned = c.as_slice.ensures ∙ c.burn_cur.ensures.domains in
    let chosen : c.pick-chosen.result ≡ rtds_choice ask (seen_of i.domains i.affinity i.queues i.spare i.latest).scheduler burned =
    c.pick-chosen.ensures ∙ ap (λ (a : List (Option (List Cores))). rtds_choice ask (scheduler_of (queue_of i.queues) a (RtdsPool c.as_slice.result.now)) c.as_slice.result.now) c.as_slice-2.ensures
    ∙ ap (λ (ds : List (Option (List RtdsUnit))). rtds_choice ask (scheduler_of (queue_of i.queues) i.affinity (RtdsPool ds)) ds) slice in
    let known : IfSome c.pick-chosen.result (IsKnown burned) = subst (λ (o : Option UnitId). IfSome o (IsKnown burned)) (sym chosen) (choice_known burned ask (seen_of i.domains i.affinity i.queues i.spare i.latest).scheduler) in
    λ u is. (known_low burned i.affinity c.pick-chosen.result charged.shape known u is).id

pub invariant_of-self : goal.invariant_of-self
invariant_of-self c =
    let i = c.self.inside in
    let ask = c.args.ask.now in
    let later = kept_asked i.domains i.affinity i.queues i.masks i.alarms i.spare i.latest ask c.args.self.now c.self.view_is c.requires.asked c.self.invariant in
    let own = own_asked i.domains i.affinity i.queues i.spare i.latest ask c.args.self.now c.self.view_is c.requires.asked c.self.invariant.shape in
    let charged = kept_charged i.affinity i.queues i.masks i.spare ask.at.0 ask.cur i.domains i.alarms own later in
    let burned : List (Option (List RtdsUnit)) = own_burned_domains ask.cur ask.at.0 i.domains in
    let order : IsOrdered i.queues = record { order = c.law_order.ensures.order; ranks = c.law_order.ensures.ranks; units = c.law_order.ensures.units } in
    let slice : c.as_slice.result.now ≡ burned = c.as_slice.ensures ∙ c.burn_cur.ensures.domains in
    let chosen : c.pick-chosen.result ≡ rtds_choice ask (seen_of i.domains i.affinity i.queues i.spare i.latest).scheduler burned =
    c.pick-chosen.ensures ∙ ap (λ (a : List (Option (List Cores))). rtds_choice ask (scheduler_of (queue_of i.queues) a (RtdsPool c.as_slice.result.now)) c.as_slice.result.now) c.as_slice-2.ensures
    ∙ ap (λ (ds : List (Option (List RtdsUnit))). rtds_choice ask (scheduler_of (queue_of i.queues) i.affinity (RtdsPool ds)) ds) slice in
    let known : IfSome c.pick-chosen.result (IsKnown burned) = subst (λ (o : Option UnitId). IfSome o (IsKnown burned)) (sym chosen) (choice_known burned ask (seen_of i.domains i.affinity i.queues i.spare i.latest).scheduler) in
    let domains : c.switch.new.domains ≡ run_from ask.at.0 c.pick-chosen.result (off_domains ask.cur burned) =
    c.switch.ensures.domains ∙ ap (λ (ds : List (Option (List RtdsUnit))). run_from ask.at.0 c.pick-chosen.result (off_domains ask.cur ds)) c.burn_cur.ensures.domains in
    let alarms : c.switch.new.alarms ≡ dues_with (off_domains ask.cur burned) c.pick-chosen.result (dues_without ask.cur i.alarms) =
    c.switch.ensures.alarms ∙ ap (λ (ds : List (Option (List RtdsUnit))). dues_with (off_domains ask.cur ds) c.pick-chosen.result (dues_without ask.cur i.alarms)) c.burn_cur.ensures.domains in
    kept_as (run_from ask.at.0 c.pick-chosen.result (off_domains ask.cur burned)) c.switch.new.domains i.affinity i.affinity (queues_without c.pick-chosen.result i.queues) c.switch.new.queues i.masks
    (dues_with (off_domains ask.cur burned) c.pick-chosen.result (dues_without ask.cur i.alarms)) c.switch.new.alarms i.spare ask.at.0 domains refl c.switch.ensures.queues alarms
    (kept_chosen i.affinity i.queues i.masks i.spare ask.at.0 ask.cur c.pick-chosen.result i.domains i.alarms own known order later)

pub returns-clause-after : goal.returns-clause-after
returns-clause-after c =
    let i = c.self.inside in
    let ask = c.args.ask.now in
    let later = kept_asked i.domains i.affinity i.queues i.masks i.alarms i.spare i.latest ask c.args.self.now c.self.view_is c.requires.asked c.self.invariant in
    let own = own_asked i.domains i.affinity i.queues i.spare i.latest ask c.args.self.now c.self.view_is c.requires.asked c.self.invariant.shape in
    let charged = kept_charged i.affinity i.queues i.masks i.spare ask.at.0 ask.cur i.domains i.alarms own later in
    let burned : List (Option (List RtdsUnit)) = own_burned_domains ask.cur ask.at.0 i.domains in
    let order : IsOrdered i.queues = record { order = c.law_order.ensures.order; ranks = c.law_order.ensures.ranks; units = c.law_order.ensures.units } in
    let slice : c.as_slice.result.now ≡ burned = c.as_slice.ensures ∙ c.burn_cur.ensures.domains in
    let chosen : c.pick-chosen.result ≡ rtds_choice ask (seen_of i.domains i.affinity i.queues i.spare i.latest).scheduler burned =
    c.pick-chosen.ensures ∙ ap (λ (a : List (Option (List Cores))). rtds_choice ask (scheduler_of (queue_of i.queues) a (RtdsPool c.as_slice.result.now)) c.as_slice.result.now) c.as_slice-2.ensures
    ∙ ap (λ (ds : List (Option (List RtdsUnit))). rtds_choice ask (scheduler_of (queue_of i.queues) i.affinity (RtdsPool ds)) ds) slice in
    let known : IfSome c.pick-chosen.result (IsKnown burned) = subst (λ (o : Option UnitId). IfSome o (IsKnown burned)) (sym chosen) (choice_known burned ask (seen_of i.domains i.affinity i.queues i.spare i.latest).scheduler) in
    let domains : c.switch.new.domains ≡ run_from ask.at.0 c.pick-chosen.result (off_domains ask.cur burned) =
    c.switch.ensures.domains ∙ ap (λ (ds : List (Option (List RtdsUnit))). run_from ask.at.0 c.pick-chosen.result (off_domains ask.cur ds)) c.burn_cur.ensures.domains in
    ap (λ (ds : List (Option (List RtdsUnit))). seen_of ds i.affinity c.switch.new.queues i.spare ask.at.0) domains
    ∙ ap (λ (q : Lists). seen_of (run_from ask.at.0 c.pick-chosen.result (off_domains ask.cur burned)) i.affinity q i.spare ask.at.0) c.switch.ensures.queues
    ∙ seen_chosen i.affinity i.queues i.masks i.spare ask.at.0 ask c.pick-chosen.result i.domains i.alarms i.latest refl own known order later chosen
    ∙ ap (λ (s : Seen). seen_at ask.at.0 (after_decision (decision_of ask s.scheduler) s.scheduler) s) c.self.view_is
