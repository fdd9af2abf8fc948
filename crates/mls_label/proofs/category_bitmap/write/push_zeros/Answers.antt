use Rattle.std.proofs.Common.{◌≡◌, ℕ, ◌+◌, ◌-◌, ◌≤◌, List, ◌++◌, take, replicate, ap, append_assoc, ◌∙◌, arith}
use Rattle.std.proofs.lemmas.List.{take-replicate, replicate-append-replicate}
use Rattle.mls_label.proofs.category_bitmap.write.push_zeros.Goals as goal

more_zeros : (old items new : List ℕ) (before piece most all : ℕ) → items ≡ old ++ replicate before 0 → new ≡ items ++ take piece (replicate most 0) → piece ≤ most → before + piece ≡ all → new ≡ old ++ replicate all 0
more_zeros old items new before piece most all e n few sum =
    let zeros : List ℕ = replicate piece 0 in
    n
    ∙ ap (λ xs. items ++ xs) (take-replicate piece most 0 few)
    ∙ ap (λ xs. xs ++ zeros) e
    ∙ append_assoc old (replicate before 0) zeros
    ∙ ap (λ xs. old ++ xs) (replicate-append-replicate before piece 0 ∙ ap (λ k. replicate k 0) sum)

pub loop-left-preserved : goal.loop-left-preserved
loop-left-preserved g c =
    let l = c.loop-left in
    let piece = c.min-piece.result in
    record {
      within = omega (arith, l.invariant.within);
      room = omega (arith, l.invariant.room, c.in-Ok.ensures.len, c.min-piece.ensures);
      zeros = more_zeros _ l.out.items _ (c.args.octets - l.left) piece 32 _ l.invariant.zeros c.in-Ok.ensures.ok (omega (arith, c.min-piece.ensures)) (omega (arith, c.min-piece.ensures, l.invariant.within));
    }
