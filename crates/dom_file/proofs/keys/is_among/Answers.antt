use Rattle.std.proofs.Common.{◌≡◌, sym, ◌∙◌, rules, tests}
use Rattle.std.specs.List.{list_any}
use Rattle.std.specs.Str.{bytes_eq}
use Rattle.std.proofs.lemmas.Iterator.{YieldsList-from_slice}
use Rattle.std.proofs.lemmas.Iterator.Search.{any_from_yields_List}
use Rattle.dom_file.proofs.Lists.{list_any-map}
use Rattle.dom_file.proofs.keys.is_among.Goals as goal

pub returns : goal.returns
returns c =
    let found : c.any.result ≡ list_any (λ k. bytes_eq k.now c.args.key.now) c.args.keys.now = any_from_yields_List (λ k. bytes_eq k.now c.args.key.now) _ _ c.any.result c.any.ensures.ran (YieldsList-from_slice c.args.keys.now cc) (λ x b q k. search (rules, tests)) in
    found ∙ sym (list_any-map (λ k. bytes_eq k c.args.key.now) (λ k. k.now) c.args.keys.now)
