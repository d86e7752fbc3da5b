use Rattle.std.proofs.Common.{◌∙◌, arith, sym, Some, None}
use Rattle.std.specs.Str.Parse.{ExplainsUnsignedError, HasUnsignedDigitsIfOk, ParsesUnsigned}
use Rattle.command_line.proofs.Reading.{number_reads}
use Rattle.command_line.proofs.entries.number_in.Goals as goal

pub returns-in-Some-clause-value : goal.returns-in-Some-clause-value
returns-in-Some-clause-value c =
    c.within.ensures.value ∙ sym (number_reads (λ bs r. ParsesUnsigned 32 10 bs r × ExplainsUnsignedError 10 bs r × HasUnsignedDigitsIfOk bs r) (λ t x g. g.0)
    c.args.found.now c.args.id.now c.args.low c.args.high (Some c.in-Some.n) (omega arith) c.in-Some.ensures.none c.in-Some.ensures.value)

pub returns-in-None-clause-value : goal.returns-in-None-clause-value
returns-in-None-clause-value c =
    sym (number_reads (λ bs r. ParsesUnsigned 32 10 bs r × ExplainsUnsignedError 10 bs r × HasUnsignedDigitsIfOk bs r) (λ t x g. g.0)
    c.args.found.now c.args.id.now c.args.low c.args.high None (omega arith) c.in-None.ensures.none c.in-None.ensures.value)
