-- The first that passes, of lists joined.
use Rattle.std.proofs.Common.{◌≡◌, ◌∙◌, Bool, List, [], ◌∷◌, ◌++◌, ap, sym}
use Rattle.std.specs.Prelude.{find, map}
use Rattle.std.specs.Option.{option_or}
use Rattle.std.proofs.lemmas.List.{append_assoc, append-nil, map-append}
use Rattle.std.proofs.lemmas.List.Folds.{find-append}
use Rattle.sched_model.specs.declared.action.Action.{Action}
use Rattle.sched_model.specs.declared.config.Config.{Config}
use Rattle.sched_model.specs.Actions.{candidates}
use Rattle.sched_plain.specs.declared.scan.Kind.{Kind}
use Rattle.sched_plain.specs.declared.scan.Kind.TheVariants as kinds
use Rattle.sched_plain.specs.declared.scan.Numbered.TheVariants as kind
use Rattle.sched_plain.specs.Search.{actions_in, actions_of}

-- the first of two lists is the first of one, else of the other
pub found_in_both : {X : Type 0} (p : X → Bool) (xs ys : List X) → find p (xs ++ ys) ≡ option_or (find p xs) (find p ys)
found_in_both p xs ys = find-append p xs ys

-- the same under a map
pub found_in_map : {X Y : Type 0} (p : Y → Bool) (f : X → Y) (xs ys : List X) → find p (map f (xs ++ ys)) ≡ option_or (find p (map f xs)) (find p (map f ys))
found_in_map p f xs ys = ap (find p) (map-append f xs ys) ∙ find-append p (map f xs) (map f ys)

-- the actions of each of these kinds behind others, as the candidates are joined
abbrev behind : Config → List Action → List Kind → List Action
behind config before [] = before
behind config before (k ∷ rest) = behind config (before ++ actions_of config k) rest

behind-in : (config : Config) (before : List Action) (ks : List Kind) → behind config before ks ≡ before ++ actions_in config ks
behind-in config before [] = sym (append-nil before)
behind-in config before (k ∷ rest) = behind-in config (before ++ actions_of config k) rest ∙ append_assoc before (actions_of config k) (actions_in config rest)

-- every kind, in the order in which a run takes them
abbrev pub every_kind : List Kind
every_kind =
    kinds.Stall ∷ kinds.Xl ∷ kinds.Of kind.Moved ∷ kinds.Of kind.DomMoved ∷ kinds.Wake ∷ kinds.Of kind.Block ∷ kinds.Of kind.Slice ∷ kinds.Repl ∷ kinds.Of kind.Refill
    ∷ kinds.Of kind.Arrive ∷ kinds.Of kind.Decide ∷ kinds.Of kind.Leave ∷ kinds.Of kind.Save ∷ []

-- the candidates are those of every kind
pub candidates-in : (config : Config) → candidates config ≡ actions_in config every_kind
candidates-in config = behind-in config [] every_kind
