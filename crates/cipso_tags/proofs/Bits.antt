-- Bitmaps as bodies: the octets may only end early.
use Rattle.std.proofs.Common.{◌≡◌, ℕ, ◌-◌, ◌<◌, ◌≤◌, List, ◌++◌, length, replicate, refl, sym, ◌∙◌, arith, length-append}
use Rattle.std.proofs.lemmas.List.{take_all, length-replicate}
use Rattle.mls_label.specs.declared.octet_grammar.fault.WireKind.TheVariants.{End}
use Rattle.mls_label.specs.octet_grammar.Octets.{IsOctets}
use Rattle.mls_label.specs.octet_grammar.Front.{IsFront, IsPrefixFree}
use Rattle.mls_label.specs.octet_grammar.Fault.{FailsFront}
use Rattle.mls_label.proofs.octet_grammar.Fronts.{free_by_length}
use Rattle.mls_label.proofs.octet_grammar.Octets.{octets-append, octets-zeros}
use Rattle.mls_label.proofs.octet_grammar.Places.{next_fails}
use Rattle.mls_label.specs.category_bitmap.Bitmap.{bitmap_cats}
use Rattle.cipso_tags.specs.Body.{IsBitmap}
use Rattle.cipso_tags.specs.inside.Header.{IsSized}

pub bits_free : (size : ℕ) → IsPrefixFree (IsSized size IsBitmap)
bits_free size =
    free_by_length (IsSized size IsBitmap) (λ a b v w m n. n.long ∙ sym m.long) (λ t v w m n. m.is.carries ∙ sym n.is.carries)

bits_front : (size : ℕ) (s : List ℕ) → size ≤ 30 → length s ≤ size → IsOctets s → IsFront (IsSized size IsBitmap) s
bits_front size s le short octets =
    let count = size - length s in
    let more : List ℕ = replicate count 0 in
    let long : length (s ++ more) ≡ size = omega (arith, length-append s more, length-replicate {A = ℕ} count 0) in
    record {
      more = more;
      value = bitmap_cats (s ++ more);
      member = record { long = long; is = record { room = omega arith; octets = octets-append s more octets (octets-zeros count); carries = refl } };
    }

pub bits_end : (size : ℕ) (s : List ℕ) → size ≤ 30 → length s < size → IsOctets s → FailsFront (IsSized size IsBitmap) s (record { octet = length s; kind = End })
bits_end size s le short octets =
    next_fails (IsSized size IsBitmap) (bits_free size) s s (length s) (λ b. Unit {0}) (record { octet = length s; kind = End }) (omega arith)
    (take_all (length s) s (omega arith))
    (bits_front size s le (omega arith) octets)
    (λ rest v m. (omega (arith, m.long, length-append s rest), tt))
    (refl, refl)
