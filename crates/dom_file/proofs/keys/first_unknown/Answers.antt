use Rattle.std.proofs.Common.{map, not, string_bytes, ap, sym, ◌∙◌}
use Rattle.std.specs.Prelude.{find}
use Rattle.dom_file.specs.Keys.{is_listed_key}
use Rattle.dom_file.proofs.Lists.{keys_of-members_view}
use Rattle.dom_file.proofs.keys.first_unknown.Goals as goal

pub loop-key-init : goal.loop-key-init
loop-key-init c =
    let keys = map (λ k. k.now) c.args.keys.now in
    ap (find (λ key. not (is_listed_key keys key))) (keys_of-members_view c.args.table.now.entries ∙ ap (map string_bytes) (sym (c.into_iter-key-iterator.ensures.into_iter_gives ∙ c.keys-key-items.ensures.rest)))
