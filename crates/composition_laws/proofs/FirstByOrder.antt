-- The first by order is the first of the list.
use Rattle.std.proofs.Common.{◌≡◌, Bool, List}
use Rattle.std.specs.Prelude.{◌↔◌, Option, Some, None, find}
use Rattle.sched_model.specs.declared.action.Action.{Action}
use Rattle.sched_model.specs.declared.config.Config.{Config}
use Rattle.sched_model.specs.Actions.{candidates}
use Rattle.pool_laws.specs.Order.{IsNotAfter}
use Rattle.composition_laws.specs.OrderLaws.{IsFirstOf}
use Rattle.composition_laws.proofs.Members.{Has-from_contains, Contains-from_has}
use Rattle.composition_laws.proofs.Sorted.{found_if_first, none_if_none, first_if_found, none_if_none_found}
use Rattle.pool_laws.proofs.ActionOrder.{same_place, not_after_itself}
use Rattle.composition_laws.proofs.Stretches.{candidates_in_order}

module _ (config : Config) (test : Action → Bool) where
  abbrev all : List Action
  all = candidates config

  is_found : (found : Option Action) → IsFirstOf test all found → find test all ≡ found
  is_found None none = none_if_none test all (λ b h. none b (Contains-from_has b all h))
  is_found (Some action) f =
      found_if_first IsNotAfter same_place test all (candidates_in_order config) action (Has-from_contains action all f.there) f.passes (λ b h on. f.first b (Contains-from_has b all h) on)

  is_first : (found : Option Action) → find test all ≡ found → IsFirstOf test all found
  is_first None none = λ b h. none_if_none_found test all none b (Has-from_contains b all h)
  is_first (Some action) found =
      let f = first_if_found IsNotAfter not_after_itself test all (candidates_in_order config) action found in
      record { there = Contains-from_has action all f.there; passes = f.passes; first = λ b h on. f.first b (Has-from_contains b all h) on }

  pub first_by_order : (found : Option Action) → IsFirstOf test all found ↔ (find test all ≡ found)
  first_by_order found = (is_found found, is_first found)
