use Rattle.std.specs.Option.{option_copied}
use Rattle.std.proofs.Common.{rules, ◌≡◌, length, ◌++◌, List, ℕ, ap, ◌∙◌}
use Rattle.std.proofs.lemmas.Result.{on_ok_weaker}
use Rattle.ip_headers.specs.declared.version.Version.TheVariants.{V4}
use Rattle.ip_headers.specs.Written.{padding, gap_to}
use Rattle.ip_headers.specs.inside.Write.{others_in}
use Rattle.ip_headers.proofs.Writing.{header_from4}
use Rattle.ip_headers.proofs.writing4.push_header.Goals as goal

pub returns : goal.returns
returns c =
    let front = c.extend_from_slice.new.self.items in
    let front_is : front ≡ c.fixed.result = c.in_ok-extend_from_slice.ensures.items ∙ ap (λ (x : List ℕ). x ++ c.fixed.result) c.requires.empty in
    let gap : c.gap_to.result ≡ gap_to 4 0 (length c.push_kept.new.out.items) = rw (c.gap_to.ensures.value) (search rules) in
    let long : length c.fixed.result ≡ 20 = search rules in
    on_ok_weaker c.push_padding.result
    (λ out_is. header_from4 c.args.fields.now (option_copied c.args.option) (others_in V4 c.args.area.now) c.args.payload.now c.args.size front c.push_label.new.out.items c.push_kept.new.out.items c.push_padding.new.out.items
    (ap length front_is ∙ long) (front_is ∙ c.fixed.ensures) c.in_ok-push_label.ensures c.in_ok-push_kept.ensures c.requires.size
    (out_is ∙ ap (λ (n : ℕ). c.push_kept.new.out.items ++ padding V4 n) gap))
    c.push_padding.ensures
