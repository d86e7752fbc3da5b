use Rattle.std.proofs.Common.{◌∙◌, subst}
use Rattle.sched_model.specs.declared.action.Actor.TheVariants.{Tool}
use Rattle.sched_model.specs.CheckedMachine.{IsChecked}
use Rattle.lock_moves.specs.Sets.{LockTable}
use Rattle.hall.proofs.Calls.{call-stays, done-held, fills-held}
use Rattle.hall.proofs.Counting.{answer-begins}
use Rattle.hall.proofs.Parting.{knows-taken}
use Rattle.hall.proofs.UnderAll.{below-book, stays-settled, tool-answer}
use Rattle.hall.proofs.hall.Hall.act_as_tool.Goals as goal

pub take_book-book-requires-clause-order : goal.take_book-book-requires-clause-order
take_book-book-requires-clause-order g c = below-book c.take_all-all.result c.take_all-all.new.seat.view c.take_all-all.ensures.knows c.take_all-all.ensures.book

pub settle_tool-done-requires-clause-knows : goal.settle_tool-done-requires-clause-knows
settle_tool-done-requires-clause-knows g c = knows-taken c.take_all-all.result c.take_all-all.new.seat.view c.take_book-book.new.seat.view c.take_book-book.ensures.sees.input c.take_book-book.ensures.locks c.take_book-book.ensures.still c.take_all-all.ensures.knows

pub put_all-requires-clause-set : goal.put_all-requires-clause-set
put_all-requires-clause-set g c =
    (stays-settled Tool c.take_book-book.result c.take_book-book.new.seat c.settle_tool-done.new.seat c.settle_tool-done.result c.settle_tool-done.ensures.done c.settle_tool-done.ensures.full).table
    ∙ c.take_book-book.ensures.has.table

pub returns : goal.returns
returns g c =
    let hall = c.args.self.now in
    let b = c.take_book-book.result in
    let s0 = c.args.seat.now in
    let s1 = c.take_all-all.new.seat in
    let s2 = c.take_book-book.new.seat in
    let s3 = c.settle_tool-done.new.seat in
    let s4 = c.put_all.new.seat in
    let book = c.take_book-book.ensures in
    let settled = c.settle_tool-done.ensures in
    let r = c.settle_tool-done.result in
    let took = c.take_all-all.ensures.keeps in
    let gave = c.put_all.ensures.keeps in
    let checked = subst (λ (x : LockTable). IsChecked x.opened.input) c.self.view_is c.self.invariant.checked in
    let done = done-held c.self.inside.set hall b s0 s1 s2 s3 s4 took book.sees book.has book.current gave c.requires.of.input checked Tool r settled.done in
    let full = fills-held c.self.inside.set hall b s0 s1 s2 s3 s4 took book.sees book.has book.current gave c.requires.of.input checked Tool r settled.full in
    record {
      stays = call-stays b s0 s1 s2 s3 s4 took book.sees (stays-settled Tool b s2 s3 r settled.done settled.full) gave;
      nothing = c.put_all.ensures.nothing;
      begins = answer-begins Tool s0.view s4.view r done full;
      done = λ kept. tool-answer s0 s4 kept r done;
      full = full;
    }
