use Rattle.std.proofs.Common.{[], ◌++◌, take, refl, sym, ◌∙◌}
use Rattle.std.proofs.lemmas.Bool.{eqb-true}
use Rattle.sched_io.proofs.KnownLemmas.{appends_nothing, appends_both, moved_front, all_done}
use Rattle.sched_io.proofs.out_sink.write_whole.Goals as goal

pub loop-rest-init : goal.loop-rest-init
loop-rest-init g c = record { done = []; whole = refl; written = appends_nothing _ }

pub loop-rest-preserved : goal.loop-rest-preserved
loop-rest-preserved g c = record {
  done = c.loop-rest.invariant.done ++ take c.in-Ok.count c.loop-rest.rest.now;
  whole = moved_front c.loop-rest.invariant.done c.loop-rest.rest.now c.args.piece.now c.in-Ok.count c.loop-rest.invariant.whole;
  written = appends_both _ _ _ _ _ c.loop-rest.invariant.written c.in-Ok.ensures.bytes;
}

pub returns : goal.returns
returns g c = record {
  whole = all_done _ _ _ _ _ c.loop-rest.invariant.whole (eqb-true _ _ (sym c.is_empty.ensures ∙ c.loop-rest-test.false)) c.loop-rest.invariant.written;
}
