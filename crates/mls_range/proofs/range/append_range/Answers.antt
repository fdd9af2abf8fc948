use Rattle.std.proofs.Common.{◌≡◌, ℕ, List, [], ◌∷◌, ◌++◌, ap, sym, ◌∙◌, append_assoc}
use Rattle.std.proofs.lemmas.Bool.{false≢true}
use Rattle.mls_range.specs.LabelText.{label_text}
use Rattle.mls_range.proofs.RangeTexts.{text_pair}
use Rattle.mls_range.proofs.range.append_range.Goals as goal

joined : (old a b c low high : List ℕ) → a ≡ old ++ low → b ≡ a ++ 45 ∷ [] → c ≡ b ++ high → c ≡ old ++ (low ++ 45 ∷ high)
joined old a b c low high first dash last =
    last ∙ ap (λ t. t ++ high) (dash ∙ ap (λ t. t ++ 45 ∷ []) first) ∙ append_assoc (old ++ low) (45 ∷ []) high ∙ append_assoc old low (45 ∷ high)

pub returns-in_ok-append_label-2-clause-ok : goal.returns-in_ok-append_label-2-clause-ok
returns-in_ok-append_label-2-clause-ok c =
    let range = c.args.range.now in
    let old = c.args.out.now.items in
    let text = text_pair range (λ e. false≢true (c.if-not-same.ensures.1 (c.high.ensures.high ∙ e ∙ sym c.low-2.ensures.low))) in
    let low = label_text c.low.result.now in
    let high = label_text c.high-then-not-same.result.now in
    joined old c.append_label.new.out.items c.push.new.self.items c.append_label-then-not-same.new.out.items low high c.in_ok-append_label.ensures.ok c.in_ok-push.ensures.items c.in_ok-append_label-2.ensures.ok ∙ (λ i. old ++ (label_text (c.low.ensures.low i) ++ 45 ∷ label_text (c.high-then-not-same.ensures.high i))) ∙ ap (λ t. old ++ t) (sym text)
