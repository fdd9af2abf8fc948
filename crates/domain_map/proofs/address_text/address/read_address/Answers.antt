use Rattle.std.proofs.Common.{sym, ◌∙◌, subst}
use Rattle.std.specs.Net.Grammar.{IsDotted}
use Rattle.domain_map.specs.declared.address_text.address.Address.TheVariants.{V4, V6}
use Rattle.domain_map.proofs.address_text.Texts.{computed, none_computed, no_dotted_address, no_address}
use Rattle.domain_map.proofs.address_text.address.read_address.Goals as goal

pub returns-in-Ok-clause-value : goal.returns-in-Ok-clause-value
returns-in-Ok-clause-value c =
    let dotted = subst (IsDotted c.args.text.now) (sym c.octets.ensures) c.in-Ok.ensures in
    sym (computed c.args.text.now (V4 c.octets.result) dotted)

pub returns-then-contains-clause-read : goal.returns-then-contains-clause-read
returns-then-contains-clause-read c =
    no_dotted_address c.args.text.now (λ octets h. c.in_default.ensures (record { octets = octets }) h) (sym c.contains.ensures.value ∙ c.if-contains.true)

pub returns-then-contains-clause-value : goal.returns-then-contains-clause-value
returns-then-contains-clause-value c =
    sym (none_computed c.args.text.now (no_dotted_address c.args.text.now (λ octets h. c.in_default.ensures (record { octets = octets }) h) (sym c.contains.ensures.value ∙ c.if-contains.true)))

pub returns-in-Ok-parse_ascii-clause-read : goal.returns-in-Ok-parse_ascii-clause-read
returns-in-Ok-parse_ascii-clause-read c = record {
  groups = c.in-Ok-parse_ascii.six.segments;
  are = c.in-Ok-parse_ascii.ensures;
  undotted = sym c.contains.ensures.value ∙ c.if-contains.false;
  value = c.octets-in-Ok-parse_ascii.ensures;
}

pub returns-in-Ok-parse_ascii-clause-value : goal.returns-in-Ok-parse_ascii-clause-value
returns-in-Ok-parse_ascii-clause-value c =
    sym (computed c.args.text.now (V6 c.octets-in-Ok-parse_ascii.result) (record {
      groups = c.in-Ok-parse_ascii.six.segments;
      are = c.in-Ok-parse_ascii.ensures;
      undotted = sym c.contains.ensures.value ∙ c.if-contains.false;
      value = c.octets-in-Ok-parse_ascii.ensures;
    }))

pub returns-in-Err-clause-read : goal.returns-in-Err-clause-read
returns-in-Err-clause-read c =
    no_address c.args.text.now (λ octets h. c.in_default.ensures (record { octets = octets }) h) (λ groups h. c.in-Err.ensures (record { segments = groups }) h)

pub returns-in-Err-clause-value : goal.returns-in-Err-clause-value
returns-in-Err-clause-value c =
    sym (none_computed c.args.text.now (no_address c.args.text.now (λ octets h. c.in_default.ensures (record { octets = octets }) h) (λ groups h. c.in-Err.ensures (record { segments = groups }) h)))
