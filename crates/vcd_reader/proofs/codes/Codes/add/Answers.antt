use Rattle.std.proofs.Common.{◌≡◌, List, ℕ, [], ◌∷◌, ◌++◌, Some, None, sym, ap, ◌∙◌}
use Rattle.std.specs.Map.{lookup, keys_of}
use Rattle.indexmap.proofs.CallerLemmas.{insert_entry-new}
use Rattle.vcd_reader.specs.Codes.{find_code}
use Rattle.vcd_reader.specs.inner.CodesView.{codes_of}
use Rattle.vcd_reader.proofs.CodeLemmas.{test, lookup_none, codes_push}
use Rattle.vcd_reader.proofs.codes.Codes.add.Goals as goal

pub returns-clause-added : goal.returns-clause-added
returns-clause-added c =
    let es = c.self.inside.sizes.entries in
    let key = c.in_ok-key.key in
    let same : key.items ≡ c.args.id.now = c.in_ok-key.ensures.items in
    let free : find_code (codes_of es) c.args.id.now ≡ None = ap (λ v. find_code v c.args.id.now) c.self.view_is
    ∙ c.requires in
    let none : lookup (test c.args.id.now) es ≡ None = lookup_none 0 es c.args.id.now free in
    let here : lookup (test key.items) es ≡ None = rw same none in
    let grown : c.insert.new.self.entries ≡ es ++ (key, c.args.size) ∷ [] = c.in_ok-insert.ensures.entries
    ∙ insert_entry-new _ c.self.inside.sizes key c.args.size here in
    ap codes_of grown ∙ codes_push es key c.args.size ∙ ap (λ v. v ++ (key.items, c.args.size) ∷ []) c.self.view_is
    ∙ ap (λ t. c.args.self.now ++ (t, c.args.size) ∷ []) same
