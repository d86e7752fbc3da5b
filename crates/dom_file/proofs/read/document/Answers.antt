use Rattle.std.proofs.Common.{◌≡◌, ℕ, List, true, None, sym, ◌∙◌, refl, inl, inr}
use Rattle.std.specs.Str.{IsUtf8, is_utf8}
use Rattle.std.proofs.lemmas.Bool.{cases_Bool, false≢true}
use Rattle.std.proofs.lemmas.Str.{IsUtf8-from_is_utf8, is_utf8-from_IsUtf8}
use Rattle.toml.specs.Parse.{parse_document}
use Rattle.toml.specs.Errors.{IsMemory}
use Rattle.dom_file.specs.Configs.{spelled_table}
use Rattle.dom_file.proofs.read.document.Goals as goal

refused : (bytes : List ℕ) → (IsUtf8 bytes → parse_document bytes ≡ None) → spelled_table bytes ≡ None
refused bytes none = elim (cases_Bool (is_utf8 bytes)) [
  | inl text ↦ rw (text, none (IsUtf8-from_is_utf8 bytes text)) refl
  | inr other ↦ rw other refl
]

pub returns-in-Ok : goal.returns-in-Ok
returns-in-Ok c =
    let ok = c.in-Ok.ensures.ok in
    let text : is_utf8 c.args.bytes.now ≡ true = is_utf8-from_IsUtf8 c.args.bytes.now ok.0 in
    rw (text, ok.1) refl

pub returns-else-is_memory : goal.returns-else-is_memory
returns-else-is_memory c =
    let no_memory : ¬ IsMemory c.in-Err.e = λ memory. false≢true (sym c.if-is_memory.false ∙ c.is_memory.ensures.1 memory) in
    refused c.args.bytes.now (λ text. c.in-Err.ensures.refused no_memory text)
