-- The elements of an array and the keys of a table, as the definitions and as the code go over them.
use Rattle.std.proofs.Common.{◌≡◌, Bool, ◌||◌, String, Global, List, [], ◌∷◌, map, string_bytes, refl, ap}
use Rattle.std.specs.List.{list_any}
use Rattle.std.specs.Map.{keys_of as map_keys_of}
use Rattle.toml.specs.declared.value.Value.{Value}
use Rattle.toml.specs.View.{view, items_view, members_view}
use Rattle.dom_file.specs.Values.{list_of}
use Rattle.dom_file.specs.Keys.{keys_of}

pub list_of-items_view : (vs : List Value) → list_of (items_view vs) ≡ map view vs
list_of-items_view [] = refl
list_of-items_view (v ∷ vs) = ap (λ ds. view v ∷ ds) (list_of-items_view vs)

pub keys_of-members_view : (es : List (String Global × Value)) → keys_of (members_view es) ≡ map string_bytes (map_keys_of es)
keys_of-members_view [] = refl
keys_of-members_view (e ∷ es) = ap (λ ks. string_bytes e.0 ∷ ks) (keys_of-members_view es)

pub list_any-map : {A B : Type 0} (p : B → Bool) (f : A → B) (xs : List A) → list_any p (map f xs) ≡ list_any (λ x. p (f x)) xs
list_any-map p f [] = refl
list_any-map p f (x ∷ xs) = ap (λ b. p (f x) || b) (list_any-map p f xs)
