use Rattle.std.proofs.Common.{arith, rules, ◌≡◌, ◌++◌, length, ℕ, ap, ◌∙◌}
use Rattle.std.specs.Option.{option_copied}
use Rattle.std.proofs.lemmas.Result.{on_ok_weaker}
use Rattle.ip_headers.specs.declared.version.Version.TheVariants.{V6}
use Rattle.ip_headers.specs.Written.{padding, gap_to}
use Rattle.ip_headers.specs.inside.Write.{others_in}
use Rattle.ip_headers.proofs.Writing.{no_hop, some_hop, hop_from}
use Rattle.ip_headers.proofs.writing6.push_hop_by_hop.Goals as goal

pub returns-then-size-eq0 : goal.returns-then-size-eq0
returns-then-size-eq0 c = no_hop (option_copied c.args.option) (others_in V6 c.args.area.now) c.args.protocol c.args.size c.args.out.now.items c.requires.size c.if-size-eq0.true

pub overflow_sub-size : goal.overflow_sub-size
overflow_sub-size c = omega (arith, some_hop (option_copied c.args.option) (others_in V6 c.args.area.now) c.args.size c.requires.size c.if-size-eq0.false)

pub returns : goal.returns
returns c =
    let gap : c.gap_to.result ≡ gap_to 8 0 (length c.push_kept.new.out.items) = rw (c.gap_to.ensures.value) (search rules) in
    on_ok_weaker c.push_padding.result
    (λ out_is. hop_from (option_copied c.args.option) (others_in V6 c.args.area.now) c.args.protocol c.args.size c.args.out.now.items c.push.new.self.items c.push-2.new.self.items
    c.push_label.new.out.items c.push_kept.new.out.items c.push_padding.new.out.items c.requires.front c.requires.size c.if-size-eq0.false
    c.in_ok-push.ensures.items c.in_ok-push-2.ensures.items c.in_ok-push_label.ensures c.in_ok-push_kept.ensures
    (out_is ∙ ap (λ (n : ℕ). c.push_kept.new.out.items ++ padding V6 n) gap))
    c.push_padding.ensures
