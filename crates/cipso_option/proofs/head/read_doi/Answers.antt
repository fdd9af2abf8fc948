use Rattle.std.proofs.lemmas.Result.{IfErr-weaker}
use Rattle.mls_label.specs.octet_grammar.Fault.{FailsFront}
use Rattle.mls_label.specs.octet_grammar.Place.{FaultsInNonzero}
use Rattle.mls_label.proofs.octet_grammar.Octets.{octets_of}
use Rattle.mls_label.proofs.octet_grammar.Layouts.{nonzero_fails}
use Rattle.std.proofs.Common.{get_or}
use Rattle.cipso_option.specs.Cipso.{IsCipso}
use Rattle.cipso_option.proofs.Places.{MayStand, left_of, option_places, doi_places}
use Rattle.cipso_option.proofs.Options.{start_passed}
use Rattle.cipso_option.proofs.head.read_doi.Goals as goal

pub returns-clause-err : goal.returns-clause-err
returns-clause-err c =
    let s = c.args.bytes.now in
    IfErr-weaker c.nonzero_at.result (FaultsInNonzero s 2) (FailsFront IsCipso s)
    (λ f faults. nonzero_fails IsCipso MayStand left_of option_places s 2 f (octets_of s c.type_inv.bytes) (start_passed s c.requires) (doi_places (get_or s 0 0) (get_or s 1 0)) faults)
    c.nonzero_at.ensures.err
