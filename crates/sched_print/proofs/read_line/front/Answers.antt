use Rattle.std.proofs.Common.{sym, arith}
use Rattle.std.proofs.lemmas.List.{length-take-le, take_all}
use Rattle.sched_print.proofs.read_line.front.Goals as goal

pub slice_bounds-result-end : goal.slice_bounds-result-end
slice_bounds-result-end c = sym (length-take-le 192 c.args.line.now (omega arith))

pub returns-else-line-gt-LINE_MOST : goal.returns-else-line-gt-LINE_MOST
returns-else-line-gt-LINE_MOST c = sym (take_all 192 c.args.line.now (omega arith))
