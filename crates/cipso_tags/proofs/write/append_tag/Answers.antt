use Rattle.std.proofs.Common.{◌≡◌, ℕ, ◌+◌, ◌-◌, List, [], ◌∷◌, ◌++◌, length, take, slice_set, refl, sym, ap, ◌∙◌, append_assoc, arith, length-append}
use Rattle.std.specs.List.{refill}
use Rattle.std.proofs.Math.Facts.{Fits-of_lt}
use Rattle.std.proofs.lemmas.List.{append-nil, drop_all, take_all, set-append_right}
use Rattle.arrayvec.specs.ArrayVec.{array_vec_len}
use Rattle.cipso_tags.specs.Tag.{tag_type}
use Rattle.cipso_tags.specs.Text.{body_text}
use Rattle.cipso_tags.proofs.Fitting.{body_small}
use Rattle.cipso_tags.proofs.write.append_tag.Goals as goal

whole_refill : (n : ℕ) (xs ws : List ℕ) → n ≡ length xs → length ws ≡ length xs → refill n xs ws ≡ ws
whole_refill n xs ws long same =
    ap (λ rest. take n (ws ++ rest)) (drop_all (length ws) xs (omega (arith, same)))
    ∙ ap (take n) (append-nil ws)
    ∙ take_all n ws (omega (arith, long, same))

-- the second of the octets behind old is set
length_set : (old body items : List ℕ) (t l n len : ℕ) → items ≡ old ++ t ∷ 0 ∷ 0 ∷ l ∷ body → len ≡ length items → refill len items (slice_set items (length old + 1) n) ≡ old ++ t ∷ n ∷ 0 ∷ l ∷ body
length_set old body items t l n len is long =
    let one : length old + 1 - length old ≡ 1 = omega arith in
    let new = old ++ t ∷ n ∷ 0 ∷ l ∷ body in
    let written : slice_set items (length old + 1) n ≡ new =
    ap (λ xs. slice_set xs (length old + 1) n) is
    ∙ set-append_right old (t ∷ 0 ∷ 0 ∷ l ∷ body) (length old) (length old + 1) n (omega arith) (omega arith)
    ∙ ap (λ i. old ++ slice_set (t ∷ 0 ∷ 0 ∷ l ∷ body) i n) one in
    let same : length new ≡ length items = length-append old (t ∷ n ∷ 0 ∷ l ∷ body) ∙ sym (length-append old (t ∷ 0 ∷ 0 ∷ l ∷ body)) ∙ sym (ap length is) in
    ap (refill len items) written ∙ whole_refill len items new long same

pub overflow_cast-len : goal.overflow_cast-len
overflow_cast-len g c =
    let label = c.args.label.now in
    let body = body_text c.args.tag label.cats in
    Fits-of_lt (omega (arith, body_small c.args.tag label c.requires.fits, c.len.ensures.value, c.len-start.ensures.value, c.in-Ok.ensures.len, ap length c.append_body.ensures, length-append c.try_extend_from_slice.new.self.items body))

pub returns : goal.returns
returns g c =
    let old = c.args.out.now.items in
    let body = body_text c.args.tag c.args.label.now.cats in
    let items = c.append_body.new.out.items in
    let level = c.args.label.now.level in
    let head = tag_type c.args.tag ∷ 0 ∷ 0 ∷ level ∷ [] in
    let pushed : c.try_extend_from_slice.new.self.items ≡ old ++ head = c.in-Ok.ensures.ok ∙ ap (λ t. old ++ t ∷ 0 ∷ 0 ∷ level ∷ []) c.type_octet.ensures in
    let is = c.append_body.ensures ∙ ap (λ xs. xs ++ body) pushed ∙ append_assoc old head body in
    let octets : c.len.result - c.len-start.result ≡ 4 + length body = omega (arith, c.len.ensures.value, c.len-start.ensures.value, ap length is, length-append old (tag_type c.args.tag ∷ 0 ∷ 0 ∷ level ∷ body)) in
    (λ i. refill (array_vec_len c.append_body.new.out) items (slice_set (c.deref_mut.ensures.value i) (c.len-start.ensures.value i + 1) (octets i)))
    ∙ length_set old body items (tag_type c.args.tag) level (4 + length body) (array_vec_len c.append_body.new.out) is refl
