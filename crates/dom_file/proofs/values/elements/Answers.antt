use Rattle.std.proofs.Common.{◌≡◌, Some, option_map, sym, ap, refl, ◌∙◌}
use Rattle.toml.specs.Data.{as_array}
use Rattle.toml.specs.View.{view, array_view}
use Rattle.dom_file.proofs.Lists.{list_of-items_view}
use Rattle.dom_file.proofs.values.elements.Goals as goal

pub returns-in-Some : goal.returns-in-Some
returns-in-Some c =
    let is : as_array (view c.args.value.now) ≡ Some (array_view c.in-Some.array.now) = sym (c.as_array.ensures) ∙ ap (option_map (λ v. array_view v.now)) c.in-Some.is in
    rw (is, list_of-items_view c.in-Some.array.now.items, c.as_slice.ensures.value) refl
