-- What a name holds in the list of pairs is what the map has at its text.
use Rattle.std.proofs.Common.{◌≡◌, ◌≢◌, ℕ, Bool, true, false, cond, List, [], ◌∷◌, map, Option, Some, refl, bytes_eq, ap, sym, ◌∙◌}
use Rattle.std.specs.Prelude.{Vec, String}
use Rattle.std.specs.declared.alloc.Global.{Global}
use Rattle.std.specs.String.{string_bytes, string_cmp}
use Rattle.std.specs.BTreeMap.{BTreeMap, UpdatesBy, get_by_text}
use Rattle.std.specs.Map.{lookup}
use Rattle.std.specs.Option.{option_map}
use Rattle.std.specs.Ordering.{is_eq, nat_cmp}
use Rattle.std.specs.Cmp.Lexicographic.{slice_cmp}
use Rattle.std.proofs.lemmas.Bool.{false_from_ne_true}
use Rattle.std.proofs.lemmas.Map.Text.{is_eq-slice_cmp, btree_map_updates_text}
use Rattle.std.proofs.lemmas.Slice.Eq.{bytes_eq-Decides}
use Rattle.sched_io.specs.HeldBytes.{bytes_under}

-- the pairs as contracts see them
abbrev pub plain : List (String Global × Vec ℕ Global) → List (List ℕ × List ℕ)
plain entries = map (λ e. (string_bytes e.0, e.1.items)) entries

-- a choice of values is taken before or after a change of them
map_choice : (b : Bool) (v : Vec ℕ Global) (rest : Option (Vec ℕ Global)) →
    cond b (Some v.items) (option_map (λ w. w.items) rest) ≡ option_map (λ w. w.items) (cond b (Some v) rest)
map_choice true v rest = refl
map_choice false v rest = refl

-- a name holds what the map has at its text
pub lookup_plain : (name : List ℕ) (entries : List (String Global × Vec ℕ Global)) →
    bytes_under name (plain entries)
    ≡ option_map (λ w. w.items) (lookup (λ k. is_eq (slice_cmp nat_cmp name (string_bytes k))) entries)
lookup_plain name [] = refl
lookup_plain name (e ∷ rest) =
    rw (lookup_plain name rest, is_eq-slice_cmp) (map_choice (bytes_eq name (string_bytes e.0)) e.1 _)

-- what another name holds after a change at a key
changed : (key : String Global) (value : Vec ℕ Global) (old new : BTreeMap (String Global) (Vec ℕ Global)) →
    UpdatesBy string_cmp (string_cmp key) old new (Some value) → (other : List ℕ) →
    bytes_under other (plain new.entries)
    ≡ cond (bytes_eq (string_bytes key) other) (Some value.items) (bytes_under other (plain old.entries))
changed key value old new updates other =
    lookup_plain other new.entries
    ∙ ap (option_map (λ w. w.items)) (btree_map_updates_text (string_bytes key) old new (Some value) updates other)
    ∙ sym (map_choice (bytes_eq (string_bytes key) other) value (get_by_text old other))
    ∙ ap (λ rest. cond (bytes_eq (string_bytes key) other) (Some value.items) rest) (sym (lookup_plain other old.entries))

-- after a change at a key the name of its text holds the value
pub set_held : (key : String Global) (value : Vec ℕ Global) (old new : BTreeMap (String Global) (Vec ℕ Global)) →
    UpdatesBy string_cmp (string_cmp key) old new (Some value) → (name : List ℕ) → string_bytes key ≡ name →
    bytes_under name (plain new.entries) ≡ Some value.items
set_held key value old new updates name is =
    let same : bytes_eq (string_bytes key) name ≡ true = (bytes_eq-Decides (string_bytes key) name).1 is in
    rw (changed key value old new updates name, same) refl

-- and every other name holds what it held
pub set_others : (key : String Global) (value : Vec ℕ Global) (old new : BTreeMap (String Global) (Vec ℕ Global)) →
    UpdatesBy string_cmp (string_cmp key) old new (Some value) → (name : List ℕ) → string_bytes key ≡ name →
    (other : List ℕ) → other ≢ name → bytes_under other (plain new.entries) ≡ bytes_under other (plain old.entries)
set_others key value old new updates name is other differs =
    let unlike : bytes_eq (string_bytes key) other ≡ false =
    false_from_ne_true _ (λ e. differs (sym ((bytes_eq-Decides (string_bytes key) other).0 e) ∙ is)) in
    rw (changed key value old new updates other, unlike) refl
