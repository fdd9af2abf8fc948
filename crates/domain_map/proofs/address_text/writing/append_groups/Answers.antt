use Rattle.std.proofs.Common.{ℕ, List, ◌++◌, ◌≡◌, ap, ◌∙◌, append_assoc, Result, Ok, Err}
use Rattle.std.specs.Prelude.{OnErr}
use Rattle.domain_map.specs.address_text.inside.Extends.{Extends}
use Rattle.domain_map.proofs.address_text.writing.append_groups.Goals as goal

on_err : {T E : Type 0} (r : Result T E) (P : Type 0) → P → OnErr r P
on_err (Ok x) P p = tt
on_err (Err e) P p = p

extended : (old one more all new : List ℕ) → one ≡ old ++ more → all ≡ one ++ new → Extends old all
extended old one more all new first then = record { more = more ++ new; is = then ∙ ap (λ t. t ++ new) first ∙ append_assoc old more new }

pub returns-in_err-push-clause-err : goal.returns-in_err-push-clause-err
returns-in_err-push-clause-err c =
    on_err c.from_residual-in_err-push.result _ (extended c.args.out.now.items c.append_hex.new.out.items _ c.push.new.self.items _ c.in_ok-append_hex.ensures.ok (c.in_err-push.ensures.items ∙ c.loop-group.invariant))
