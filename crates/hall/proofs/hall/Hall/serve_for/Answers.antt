use Rattle.std.proofs.Common.{refl, sym, subst, List}
use Rattle.std.specs.Prelude.{IfNone, Option}
use Rattle.std.specs.Option.{ForSome}
use Rattle.sched_model.specs.declared.event.Entry.{Entry}
use Rattle.hall.specs.declared.hold.Hold.{Hold}
use Rattle.hall.specs.Holds.{seated}
use Rattle.hall.specs.Seats.{IsCounted}
use Rattle.hall.specs.Serving.{FindsNoPool}
use Rattle.hall.proofs.Calls.{kept-stays}
use Rattle.hall.proofs.Holds.{arrival-on, begun, stays-on}
use Rattle.hall.proofs.Serving.{held-full, held-served, idle-served}
use Rattle.hall.proofs.hall.Hall.serve_for.Goals as goal

pub returns-in_default : goal.returns-in_default
returns-in_default g c =
    let hall = c.args.self.now in
    let s0 = c.args.seat.now in
    let s1 = c.begin_hold.new.seat in
    let kept = c.args.arrived.now in
    let idle : FindsNoPool c.args.holder.actor s0 s1 = subst (λ (o : Option Hold). IfNone o (FindsNoPool c.args.holder.actor s0 s1)) c.in_default.is c.begin_hold.ensures.none in
    record {
      stays = idle.stays;
      nothing = idle.free;
      inside = arrival-on hall s0 s1 kept idle.nothing.looked.begins c.requires.inside;
      all = idle-served c.args.holder.actor c.nothing.result s0 s1 kept idle c.nothing.ensures.count c.nothing.ensures.first;
      full = tt;
    }

pub serve_on-acted-requires : goal.serve_on-acted-requires
serve_on-acted-requires g c =
    let began = begun c.args.self.now c.args.holder c.args.seat.now c.begin_hold.new.seat c.begin_hold.result c.in-Some.hold c.in-Some.is c.begin_hold.ensures.some in
    record {
      number = began.low;
      hold = began.held c.args.arrived.now c.requires.inside;
      holder = c.requires.holder;
    }

pub end_hold-requires : goal.end_hold-requires
end_hold-requires g c =
    let began = begun c.args.self.now c.args.holder c.args.seat.now c.begin_hold.new.seat c.begin_hold.result c.in-Some.hold c.in-Some.is c.begin_hold.ensures.some in
    let hold = c.serve_on-acted.ensures.hold in
    record {
      set = hold.of.table;
      number = began.low;
      only = hold.only;
      knows = hold.knows;
    }

pub returns : goal.returns
returns g c =
    let hall = c.args.self.now in
    let s0 = c.args.seat.now in
    let s1 = c.begin_hold.new.seat in
    let kept = c.args.arrived.now in
    let s3 = c.serve_on-acted.new.seat in
    let s4 = c.end_hold.new.seat in
    let gave = c.end_hold.ensures.keeps in
    let has = c.serve_on-acted.new.arrived in
    let inside = c.serve_on-acted.ensures.hold.inside in
    let r = c.serve_on-acted.result in
    let began = begun hall c.args.holder s0 s1 c.begin_hold.result c.in-Some.hold c.in-Some.is c.begin_hold.ensures.some in
    record {
      stays = stays-on s0 s1 s4 (kept-stays s0 s1 began.sight) (stays-on s1 s3 s4 c.serve_on-acted.ensures.stays (kept-stays s3 s4 gave));
      nothing = c.end_hold.ensures.nothing;
      inside = record { processor = inside.processor; counted = subst (λ (h : List Entry). ForSome has (IsCounted hall.opened.input.config.granularity h)) (sym gave.front) inside.counted };
      all = held-served c.args.holder.actor (seated s0 kept) (seated s1 kept) (seated s3 has) (seated s4 has) (record { sight = began.sight; arrived = refl }) (record { sight = gave; arrived = refl }) r c.serve_on-acted.ensures.all;
      full = held-full c.args.holder.actor (seated s0 kept) (seated s1 kept) (seated s3 has) (seated s4 has) (record { sight = began.sight; arrived = refl }) (record { sight = gave; arrived = refl }) r c.serve_on-acted.ensures.full;
    }
