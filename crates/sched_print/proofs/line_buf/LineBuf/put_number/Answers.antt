use Rattle.std.proofs.Common.{append_assoc, ◌∷◌, [], ◌++◌, ◌/◌, ◌+◌, ap, sym, ◌∙◌, List, ℕ}
use Rattle.std.proofs.lemmas.Fmt.{decimal_digit}
use Rattle.itoa.proofs.Decimal.{decimal_two}
use Rattle.sched_print.proofs.line_buf.LineBuf.put_number.Goals as goal

pub returns-then-number-lt10-clause-bytes : goal.returns-then-number-lt10-clause-bytes
returns-then-number-lt10-clause-bytes c =
    c.push.ensures.bytes ∙ ap (λ (bs : List ℕ). c.args.self.now ++ bs) (ap (λ (d : ℕ). d ∷ []) c.digit.ensures ∙ sym (decimal_digit c.args.number c.if-number-lt10.true))

pub returns-then-number-lt100-clause-bytes : goal.returns-then-number-lt100-clause-bytes
returns-then-number-lt100-clause-bytes c =
    c.push-then-number-lt100-2.ensures.bytes
    ∙ ap (λ (bs : List ℕ). bs ++ c.digit-then-number-lt100-2.result ∷ []) c.push-then-number-lt100.ensures.bytes
    ∙ append_assoc c.args.self.now (c.digit-then-number-lt100.result ∷ []) (c.digit-then-number-lt100-2.result ∷ [])
    ∙ ap (λ (bs : List ℕ). c.args.self.now ++ bs)
    (ap (λ (d : ℕ). d ∷ c.digit-then-number-lt100-2.result ∷ []) c.digit-then-number-lt100.ensures ∙ ap (λ (d : ℕ). (48 + c.args.number / 10) ∷ d ∷ []) c.digit-then-number-lt100-2.ensures
    ∙ sym (decimal_two c.args.number c.if-number-lt10.false c.if-number-lt100.true))
