use Rattle.std.proofs.Common.{◌≡◌, ◌-◌, ℕ, suc, length, sym, arith}
use Rattle.std.proofs.lemmas.Option.{slice_get_within}
use Rattle.hall.proofs.UnderAll.{over-not, over-there}
use Rattle.hall.proofs.act.is_over.Goals as goal

pub returns-in-Finish : goal.returns-in-Finish
returns-in-Finish c =
    let b = c.args.book.now in
    let n : ℕ = c.len.result - 1 in
    let within = slice_get_within b.history n c.get.result c.get.ensures in
    let count : length b.history ≡ suc n = (let len = c.len.ensures in omega (arith, len, within)) in
    sym ((over-there b.input b.history n c.get.result c.tell.ensures.run c.get.ensures count).1 c.in-Finish.is)

pub returns-in_default-matches : goal.returns-in_default-matches
returns-in_default-matches c =
    let b = c.args.book.now in
    let n : ℕ = c.len.result - 1 in
    let within = slice_get_within b.history n c.get.result c.get.ensures in
    let count : length b.history ≡ suc n = (let len = c.len.ensures in omega (arith, len, within)) in
    over-not b.input b.history n c.get.result c.tell.ensures.run c.get.ensures count c.in_default-matches.not-Finish
