use Rattle.std.proofs.Common.{rules, ◌≡◌, ◌%◌, length, sym, append_assoc}
use Rattle.std.proofs.lemmas.List.{append-nil}
use Rattle.ip_headers.specs.Written.{alignment, gap_to}
use Rattle.ip_headers.proofs.Layouts.{kept_none, kept_one, last_write}
use Rattle.ip_headers.proofs.layout.push_option.Goals as goal

pub returns-then-not-is_other : goal.returns-then-not-is_other
returns-then-not-is_other c =
    rw (kept_none c.args.version _ c.args.place c.args.option.now (search rules)) (sym (append-nil c.args.out.now.items))

pub returns : goal.returns
returns c =
    let old = c.args.out.now.items in
    let gap : c.gap_to.result ≡ gap_to (alignment c.args.version) (c.args.place % alignment c.args.version) (length c.args.out.now.items) =
    rw (c.gap_to.ensures.value, c.alignment-unit.ensures) (search rules) in
    last_write c.extend_from_slice.result _ c.push_padding.new.out.items c.args.option.now _ c.extend_from_slice.ensures.items
    (rw (c.in_ok-push_padding.ensures, kept_one c.args.version _ c.args.place c.args.option.now (search rules), gap) (append_assoc old _ c.args.option.now))
