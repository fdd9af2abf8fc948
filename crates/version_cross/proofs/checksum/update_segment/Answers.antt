use Rattle.std.proofs.Common.{◌≡◌, ℕ, ◌+◌, ◌-◌, ◌++◌, length, take, drop, ap, ◌∙◌, arith, length-append}
use Rattle.std.specs.Int.{w16, to_be_bytes}
use Rattle.version_cross.specs.Segment.{checksum_place, segment_checksum}
use Rattle.version_cross.specs.Checksum.{updated_checksum, written_checksum}
use Rattle.version_cross.proofs.Segments.{crossed_behind}
use Rattle.version_cross.proofs.checksum.update_segment.Goals as goal

pub returns : goal.returns
returns c = λ head whole.
    let protocol = c.args.protocol in
    let segment = c.args.segment.now in
    let place = c.len.result - length segment + c.checksum_place.result in
    let place_is : place ≡ length head + checksum_place protocol =
    omega (arith, c.len.ensures, c.args.packet.now.ok.0, ap length whole, length-append head segment, c.checksum_place.ensures) in
    let number : c.written_checksum.result ≡ written_checksum protocol (updated_checksum (segment_checksum protocol segment) c.args.old c.args.new) =
    c.written_checksum.ensures ∙ ap (λ (n : ℕ). written_checksum protocol n) (c.updated_checksum-checksum.ensures ∙ ap (λ (h : ℕ). updated_checksum h c.args.old c.args.new) c.segment_checksum.ensures) in
    c.put_u16.ensures ∙ (λ i. take place (whole i) ++ to_be_bytes w16 (number i) ++ drop (place + 2) (whole i)) ∙ crossed_behind protocol c.args.old c.args.new head segment place c.requires.whole place_is
