use Rattle.ip_headers.proofs.Layouts.{pad_n, last_write}
use Rattle.ip_headers.proofs.layout.push_pad_n.Goals as goal

pub returns : goal.returns
returns c =
    last_write c.extend_from_slice.result _ c.push-2.new.self.items _ _ c.extend_from_slice.ensures.items
    (pad_n c.args.size c.args.out.now.items c.push.new.self.items c.push-2.new.self.items c.requires.long c.requires.below c.in_ok-push.ensures.items c.in_ok-push-2.ensures.items)
