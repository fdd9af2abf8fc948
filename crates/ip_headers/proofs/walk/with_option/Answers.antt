use Rattle.std.proofs.Common.{rules}
use Rattle.ip_headers.proofs.Walks.{Finds-push}
use Rattle.ip_headers.proofs.walk.with_option.Goals as goal

pub returns : goal.returns
returns c = λ options f.
    Finds-push c.args.version options c.args.found _ c.args.at c.args.option c.is_label-is_label.result c.if-is_label.is_second c.is_jumbo-is_jumbo.result c.is_other-is_other.result f c.is_label-is_label.ensures (search rules) c.is_jumbo-is_jumbo.ensures c.is_other-is_other.ensures (search rules) (search rules) (search rules) (search rules)
