use Rattle.std.proofs.Common.{◌∙◌, sym, arith}
use Rattle.core_state.proofs.Counting.{other_places, same_places}
use Rattle.core_state.proofs.counts.count_chosen.Goals as goal

pub returns-then-same : goal.returns-then-same
returns-then-same c = λ t due u has. (let e = same_places u t c.args.unit due c.args.core.now (sym c.is_same_choice-same.ensures ∙ c.if-same.true) in omega (arith, e))

pub returns : goal.returns
returns c = λ t due u has. (
    let e = other_places u t c.args.unit due c.args.core.now (sym c.is_same_choice-same.ensures ∙ c.if-same.false) in
    let less = c.count_out.ensures u has in
    let more = c.count_in.ensures u has in
    omega (arith, e, less, more))
