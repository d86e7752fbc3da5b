use Rattle.std.proofs.Common.{◌≡◌, rules, refl, sym}
use Rattle.xl_words.specs.Parts.{words}
use Rattle.xl_words.proofs.OptionLemmas.{goes_on_given, goes_on_valued}
use Rattle.xl_words.proofs.options.+read_options.Goals as goal

pub returns-then-take_word-clause-value : goal.returns-then-take_word-clause-value
returns-then-take_word-clause-value g t c =
    goes_on_given g.G.Options.rules c.args.place c.args.given c.take_word.new.self c.in-Some.word.now (words c.args.rest.now) (words c.in-Some.rest.now) c.read_options.result
    (search rules) (sym c.if-take_word.ensures.value) c.read_options.ensures.value

pub returns-clause-value : goal.returns-clause-value
returns-clause-value g t c =
    let same : c.take_word.new.self ≡ c.args.given = c.if-take_word.ensures.none refl in
    goes_on_valued g.G.Options.rules c.args.place c.args.given c.take_value.new.self c.in-Some.word.now c.in-Some-next_word.value.now (words c.args.rest.now) (words c.in-Some.rest.now) (words c.in-Some-next_word.rest.now) c.read_options-2.result
    (search rules) (search rules) (sym c.if-take_word.ensures.value) (cc) (rw same at (sym c.if-not-take_value.ensures.value)) c.read_options-2.ensures.value
