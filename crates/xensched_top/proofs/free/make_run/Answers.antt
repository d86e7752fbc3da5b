use Rattle.std.proofs.Common.{◌≡◌, ◌<◌, false, length, ap, subst, sym, ◌∙◌, arith}
use Rattle.std.specs.Prelude.{◌^◌}
use Rattle.journal_core.specs.Books.{Chronicle}
use Rattle.xensched_top.specs.Ends.{HasEnded}
use Rattle.xensched_top.specs.Entries.{Coming}
use Rattle.xensched_top.proofs.FreeLemmas.{free_ends}
use Rattle.xensched_top.proofs.free.make_run.Goals as goal

pub returns-in-Ok-clause-ended : goal.returns-in-Ok-clause-ended
returns-in-Ok-clause-ended g c =
    subst (λ (v : Coming). HasEnded v.end false c.args.limit c.args.machine.now v.entries) (sym c.of.ensures)
    (free_ends c.args.limit c.args.machine.now c.run_free-book.result.0 c.run_free-book.result.1
    (c.run_free-book.ensures.input ∙ ap (λ (b : Chronicle). b.input) c.in_ok-hall.ensures.opened)
    (c.run_free-book.ensures.limit ∙ ap (λ (b : Chronicle). b.limit) c.in_ok-hall.ensures.opened)
    c.tell.ensures.run c.tell.ensures.fits c.run_free-book.ensures.finished c.run_free-book.ensures.full)

pub returns-in-Ok-clause-few : goal.returns-in-Ok-clause-few
returns-in-Ok-clause-few g c =
    let limit : c.run_free-book.result.0.limit ≡ c.args.limit = c.run_free-book.ensures.limit ∙ ap (λ (b : Chronicle). b.limit) c.in_ok-hall.ensures.opened in
    subst (λ (v : Coming). length v.entries < 2 ^ 32) (sym c.of.ensures) (omega (arith, c.tell.ensures.fits, limit, c.requires.limit.most))
