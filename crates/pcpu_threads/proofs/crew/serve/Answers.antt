use Rattle.std.proofs.Common.{◌≡◌, ◌-◌, length, arith}
use Rattle.pcpu_threads.proofs.Serving.{acts-served, among-is, among-pool}
use Rattle.pcpu_threads.proofs.crew.serve.Goals as goal

pub returns-clause-acts : goal.returns-clause-acts
returns-clause-acts g c =
    let e = c.act_pool-acted.ensures in
    let w = c.in-Some-worker_of in
    let config = c.args.hall.now.opened.input.config in
    let count = c.requires.wide.count in
    let processors : length c.args.seats.now - 1 ≡ config.processors = omega (arith, count) in
    acts-served c.args.hall.now c.args.domains c.args.seats.now w.worker c.index-seats-worker.result c.act_pool-acted.new.seat c.in-Some.actor c.act_pool-acted.result c.requires w.ensures.low e.stays
    (among-is config (length c.args.seats.now - 1) c.args.domains c.in-Some.actor processors c.requires.wide.domains_are w.ensures.there)
    (among-pool (length c.args.seats.now - 1) c.args.domains c.in-Some.actor w.ensures.there) e.all e.full
