-- What a parse of the tree says of the command that the words are.
use Rattle.std.proofs.Common.{◌≡◌, ◌∙◌, true, refl, sym, ap, List, [], ◌∷◌, Option, None, inl, inr}
use Rattle.clap.specs.Words.{App, HasKind, HasMatchesOf, Kinds, Text, fault_of, is_simple, is_simple_and_free, kind_of, subcommand_of, subcommand_rows_of}
use Rattle.clap.specs.declared.error.Error.{Error}
use Rattle.clap.specs.declared.error.ErrorKind.TheVariants.{OutOfMemory}
use Rattle.clap.specs.declared.parser.matches.ArgMatches.{ArgMatches}
use Rattle.clap.proofs.OnLiterals.{clap_on_literals}
use Rattle.command_line.specs.Commands.{Asked, entered_command, unless_refused}
use Rattle.command_line.specs.Tree.{command_tree}

tree_is_simple : is_simple command_tree ≡ true
unfolding command_tree clap_on_literals
tree_is_simple = refl

tree_is_free : is_simple_and_free command_tree ≡ true
unfolding command_tree clap_on_literals
tree_is_free = refl

-- what is read of the matches of a parse that took the words
pub taken : (a : App) (ws : List Text) (m : ArgMatches) (r : Option Asked) → a ≡ command_tree → HasMatchesOf a ws m → (is_simple_and_free a ≡ true → fault_of a ws ≡ [])
    → r ≡ entered_command (subcommand_rows_of m) → r ≡ unless_refused (fault_of command_tree ws) (subcommand_of command_tree ws)
taken a ws m r is has none read =
    let free : is_simple_and_free a ≡ true = ap is_simple_and_free is ∙ tree_is_free in
    let rows : subcommand_rows_of m ≡ subcommand_of command_tree ws = (has (ap is_simple is ∙ tree_is_simple)).1 ∙ ap (λ (b : App). subcommand_of b ws) is in
    let no_fault : fault_of command_tree ws ≡ [] = ap (λ (b : App). fault_of b ws) (sym is) ∙ none free in
    read ∙ ap entered_command rows ∙ sym (ap (λ (ks : Kinds). unless_refused ks (subcommand_of command_tree ws)) no_fault)

refused_by : (ks : Kinds) (e : Error) (entered : _) → HasKind ks e → (kind_of e ≡ OutOfMemory → ⊥) → None ≡ unless_refused ks entered
refused_by ks e entered (inl memory) other = absurd (other memory)
refused_by [] e entered (inr among) other = absurd among
refused_by (k ∷ ks) e entered (inr among) other = refl

-- and a parse that did not, for another cause than memory
pub refused : (a : App) (ws : List Text) (e : Error) → a ≡ command_tree → (is_simple_and_free a ≡ true → HasKind (fault_of a ws) e) → (kind_of e ≡ OutOfMemory → ⊥)
    → None ≡ unless_refused (fault_of command_tree ws) (subcommand_of command_tree ws)
refused a ws e is kinds other =
    let free : is_simple_and_free a ≡ true = ap is_simple_and_free is ∙ tree_is_free in
    refused_by (fault_of a ws) e (subcommand_of command_tree ws) (kinds free) other ∙ ap (λ (b : App). unless_refused (fault_of b ws) (subcommand_of command_tree ws)) is
