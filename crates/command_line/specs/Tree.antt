-- The words that commands have, as `clap` reads them.
use Rattle.std.specs.Prelude.{◌≡◌, true, false, pos, [], ◌∷◌, Some, codes}
use Rattle.clap.specs.Words.{App, Rule, Text, app_of, new_app, new_rule, with_rule, with_subcommand}
use Rattle.clap.specs.Simple.{on_top}
use Rattle.clap.specs.declared.builder.action.ArgAction.TheVariants.{SetTrue}
use Rattle.clap.specs.declared.builder.command.Command.{Command}
use Rattle.clap.specs.declared.builder.command.Command.TheViews.{out-Command}
use Rattle.clap.specs.declared.builder.value_parser.ValueParser.{ValueParser}
use Rattle.clap.specs.declared.builder.value_parser.ValueParser.TheVariants as vp

-- a word that must stand
abbrev pub name_rule : Text → Rule
name_rule id = record (new_rule id) { required = true }

-- a number that must stand, where the parser takes it
abbrev pub number_rule : Text → ValueParser → Rule
number_rule id parser = record (name_rule id) { parser = Some parser }

-- the flag `--ordered`
abbrev pub ordered_rule : Rule
ordered_rule = record (new_rule (codes "ordered")) { long = Some (codes "ordered"); action = Some SetTrue }

-- the most entries that a run may have, `--events`: 1 to 4,000,000, and 1,000,000 where none is given
abbrev pub events_rule : Rule
events_rule = record (new_rule (codes "events")) { long = Some (codes "events"); parser = Some (vp.Signed (pos 1) (pos 4000000)); defaults = codes "1000000" ∷ [] }

-- a run on two files: `run` or `report`
abbrev pub run_app : Text → App
run_app command = with_rule (with_rule (with_rule (with_rule (new_app command) ordered_rule) events_rule) (name_rule (codes "domains"))) (name_rule (codes "work"))

-- a watched run on two files
abbrev pub watch_app : App
watch_app = with_rule (with_rule (with_rule (new_app (codes "watch")) events_rule) (name_rule (codes "domains"))) (name_rule (codes "work"))

-- seeds, and counts of processors and domains
abbrev pub seed_rule : ValueParser
seed_rule = vp.Signed (pos 0) (pos 2147483647)

abbrev pub count_rule : ValueParser
count_rule = vp.Signed (pos 1) (pos 64)

-- a command with the numbers that texts are made from
abbrev pub numbers_app : Text → App
numbers_app command = with_rule (with_rule (with_rule (new_app command) (number_rule (codes "seed") seed_rule)) (number_rule (codes "processors") count_rule)) (number_rule (codes "domains") count_rule)

-- one of the two texts that are made from a number
abbrev pub make_app : App
make_app = with_rule (numbers_app (codes "make")) (name_rule (codes "text"))

-- whether a schedule is a run on two files
abbrev pub check_app : App
check_app = with_rule (with_rule (with_rule (with_rule (new_app (codes "check")) ordered_rule) (name_rule (codes "domains"))) (name_rule (codes "work"))) (name_rule (codes "schedule"))

-- the program, of which one command must stand; it has no help and no version
abbrev pub program_app : App
program_app = on_top (λ s. record s { no_binary_name = true; subcommand_required = true; disable_help_flag = true; disable_help_subcommand = true }) (new_app (codes "xensched"))

-- all commands
unfoldable pub command_tree : App
command_tree =
    with_subcommand (with_subcommand (with_subcommand (with_subcommand (with_subcommand (with_subcommand program_app
    (run_app (codes "run")).top) (run_app (codes "report")).top) watch_app.top) make_app.top) (numbers_app (codes "load")).top) check_app.top

-- what a parse reads of the command is this, and no argument of it is global
abbrev pub IsTree : App → Command → Type 0
IsTree app command = (app_of command ≡ app) × ((out-Command command).has_globals ≡ false)
