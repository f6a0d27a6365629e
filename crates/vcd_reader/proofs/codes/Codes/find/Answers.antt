use Rattle.std.proofs.Common.{◌≡◌, List, ℕ, Some, None, sym, ap, ◌∙◌}
use Rattle.std.specs.List.{position}
use Rattle.std.specs.Map.{lookup, keys_of}
use Rattle.vcd_reader.specs.Codes.{find_code}
use Rattle.vcd_reader.proofs.CodeLemmas.{test, code_none, code_found}
use Rattle.vcd_reader.proofs.codes.Codes.find.Goals as goal

pub returns-in-None : goal.returns-in-None
returns-in-None c = record {
  found = sym (ap (λ v. find_code v c.args.id.now) (sym c.self.view_is)
      ∙ code_none 0 c.self.inside.sizes.entries c.args.id.now (sym c.in-None.ensures.value));
}

pub returns-in-Some : goal.returns-in-Some
returns-in-Some c =
    let at : position (test c.args.id.now) (keys_of c.self.inside.sizes.entries) ≡ Some c.in-Some.code =
    sym c.in-Some.ensures.index in
    let is : lookup (test c.args.id.now) c.self.inside.sizes.entries ≡ Some c.in-Some.size.now =
    sym c.in-Some.ensures.value in
    record {
      found = sym (ap (λ v. find_code v c.args.id.now) (sym c.self.view_is)
          ∙ code_found c.self.inside.sizes.entries c.args.id.now c.in-Some.code c.in-Some.size.now at is);
    }
