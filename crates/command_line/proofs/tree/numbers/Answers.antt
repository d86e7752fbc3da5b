use Rattle.std.proofs.Common.{◌≡◌, rules, ◌∙◌, ap}
use Rattle.std.specs.Prelude.{codes}
use Rattle.clap.specs.Words.{new_app, with_rule}
use Rattle.command_line.specs.Tree.{number_rule, seed_rule, count_rule}
use Rattle.command_line.proofs.tree.numbers.Goals as goal

pub returns : goal.returns
returns c =
    let seeds : c.range-seeds.result ≡ seed_rule = search rules in
    let counts : c.range-counts.result ≡ count_rule = search rules in
    let first = c.with_arg-command.ensures (new_app c.args.command.now) (number_rule (codes "seed") seed_rule) (c.new-3.ensures.app, c.new-3.ensures.local)
    (c.number.ensures.rule ∙ ap (number_rule (codes "seed")) seeds) c.number.ensures.local in
    let second = c.with_arg-command-2.ensures (with_rule (new_app c.args.command.now) (number_rule (codes "seed") seed_rule)) (number_rule (codes "processors") count_rule) first
    (c.number-2.ensures.rule ∙ ap (number_rule (codes "processors")) counts) c.number-2.ensures.local in
    c.with_arg.ensures (with_rule (with_rule (new_app c.args.command.now) (number_rule (codes "seed") seed_rule)) (number_rule (codes "processors") count_rule)) (number_rule (codes "domains") count_rule) second
    (c.number-3.ensures.rule ∙ ap (number_rule (codes "domains")) counts) c.number-3.ensures.local
