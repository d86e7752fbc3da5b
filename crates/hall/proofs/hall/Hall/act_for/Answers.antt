use Rattle.std.proofs.Common.{refl, sym, subst, List}
use Rattle.std.specs.Prelude.{IfNone, Option}
use Rattle.std.specs.Option.{ForSome}
use Rattle.sched_model.specs.declared.event.Entry.{Entry}
use Rattle.hall.specs.declared.hold.Hold.{Hold}
use Rattle.hall.specs.Seats.{IsCounted}
use Rattle.hall.specs.Serving.{FindsNoPool}
use Rattle.hall.proofs.Calls.{kept-stays}
use Rattle.hall.proofs.Holds.{answer-held, arrival-on, begun, refusal-held, sight-same, stays-on}
use Rattle.hall.proofs.hall.Hall.act_for.Goals as goal

pub returns-in_default : goal.returns-in_default
returns-in_default g c =
    let hall = c.args.self.now in
    let s0 = c.args.seat.now in
    let s1 = c.begin_hold.new.seat in
    let kept = c.args.arrived.now in
    let idle : FindsNoPool c.args.holder.actor s0 s1 = subst (λ (o : Option Hold). IfNone o (FindsNoPool c.args.holder.actor s0 s1)) c.in_default.is c.begin_hold.ensures.none in
    record {
      stays = idle.stays;
      nothing = idle.free;
      inside = arrival-on hall s0 s1 kept idle.nothing.looked.begins c.requires.inside;
      done = (idle.nothing, refl);
      full = tt;
      kept = tt;
    }

pub act_on-done-requires : goal.act_on-done-requires
act_on-done-requires g c =
    let began = begun c.args.self.now c.args.holder c.args.seat.now c.begin_hold.new.seat c.begin_hold.result c.in-Some.hold c.in-Some.is c.begin_hold.ensures.some in
    record {
      number = began.low;
      hold = began.held c.args.arrived.now c.requires.inside;
      holder = c.requires.holder;
    }

pub end_hold-requires : goal.end_hold-requires
end_hold-requires g c =
    let began = begun c.args.self.now c.args.holder c.args.seat.now c.begin_hold.new.seat c.begin_hold.result c.in-Some.hold c.in-Some.is c.begin_hold.ensures.some in
    let hold = c.act_on-done.ensures.hold in
    record {
      set = hold.of.table;
      number = began.low;
      only = hold.only;
      knows = hold.knows;
    }

pub returns : goal.returns
returns g c =
    let hall = c.args.self.now in
    let s0 = c.args.seat.now in
    let s1 = c.begin_hold.new.seat in
    let kept = c.args.arrived.now in
    let s3 = c.act_on-done.new.seat in
    let s4 = c.end_hold.new.seat in
    let gave = c.end_hold.ensures.keeps in
    let has = c.act_on-done.new.arrived in
    let inside = c.act_on-done.ensures.hold.inside in
    let r = c.act_on-done.result in
    let began = begun hall c.args.holder s0 s1 c.begin_hold.result c.in-Some.hold c.in-Some.is c.begin_hold.ensures.some in
    record {
      stays = stays-on s0 s1 s4 (kept-stays s0 s1 began.sight) (stays-on s1 s3 s4 c.act_on-done.ensures.stays (kept-stays s3 s4 gave));
      nothing = c.end_hold.ensures.nothing;
      inside = record { processor = inside.processor; counted = subst (λ (h : List Entry). ForSome has (IsCounted hall.opened.input.config.granularity h)) (sym gave.front) inside.counted };
      done = answer-held s0 s1 s3 s4 began.sight (sight-same s3 s4 gave) c.args.holder.actor kept has r c.act_on-done.ensures.done;
      full = refusal-held s0 s1 s3 s4 began.sight (sight-same s3 s4 gave) c.args.holder.actor r c.act_on-done.ensures.full;
      kept = c.act_on-done.ensures.kept;
    }
