-- Options by their places: which octet strings are options, and no option begins another.
use Rattle.std.proofs.Common.{◌≡◌, ℕ, ◌+◌, ◌-◌, ◌*◌, ◌/◌, ◌%◌, ◌^◌, ◌<◌, ◌≤◌, List, [], ◌∷◌, ◌++◌, length, get_or, take, drop, refl, sym, ap, subst, ◌∙◌, arith, length-drop}
use Rattle.std.specs.Prelude.{slice_index}
use Rattle.std.specs.Int.{w16, w32, to_be_bytes, to_le_bytes, from_le_bytes}
use Rattle.std.proofs.lemmas.Nat.{from_be_bytes-to_be_bytes_4, from_le_bytes-to_le_bytes_2}
use Rattle.std.proofs.lemmas.List.{length-take, get_or-take, get_or_append_left}
use Rattle.mls_label.specs.octet_grammar.Octets.{IsOctets}
use Rattle.mls_label.specs.octet_grammar.Front.{IsPrefixFree, ReadsFront}
use Rattle.mls_label.specs.octet_grammar.Numbers.{u32_at}
use Rattle.mls_label.proofs.octet_grammar.Numbers.{u32_octets, u32_small}
use Rattle.mls_label.proofs.octet_grammar.Octets.{octets-cons, octets-take}
use Rattle.mls_label.proofs.octet_grammar.Fronts.{free_by_length}
use Rattle.mls_label.proofs.octet_grammar.Layouts.{firsts_rest}
use Rattle.mls_label.specs.category_bitmap.Bitmap.{bitmap_cats}
use Rattle.calipso_option.specs.declared.calipso.Calipso.{Calipso}
use Rattle.calipso_option.specs.Calipso.{option_octets, IsCalipsoShape, IsCalipso}
use Rattle.calipso_option.specs.declared.fault.CalipsoFault.{CalipsoFault}
use Rattle.calipso_option.specs.declared.fault.CalipsoFault.TheVariants.{Wire, BadChecksum}
use Rattle.calipso_option.specs.Fault.{IsFaulty}
use Rattle.calipso_option.specs.inside.Layout.{IsLength, checksum_at, IsLaidOut, IsFalseChecksum}

-- ---- an octet string whose places fit is an option, and each option's places fit

-- what the octets of an option say
abbrev pub value_at : List ℕ → Calipso
value_at s = record { doi = u32_at s 2; label = record { level = slice_index s 7; cats = bitmap_cats (drop 10 s) } }

checksum_spelled : (low high : ℕ) → low < 256 → high < 256 → to_le_bytes w16 (from_le_bytes w16 (low ∷ high ∷ [])) ≡ low ∷ high ∷ []
checksum_spelled low high ll lh =
    let n = from_le_bytes w16 (low ∷ high ∷ []) in
    let first : n % 256 ≡ low = omega arith in
    let second : n / 256 % 256 ≡ high = omega arith in
    λ i. first i ∷ second i ∷ []

pub shape_of : (s : List ℕ) → IsOctets s → IsLaidOut s (length s) → IsCalipsoShape s (value_at s, checksum_at s)
shape_of s octets laid =
    let words = (get_or s 1 0 - 8) / 4 in
    let size : get_or s 1 0 ≡ 8 + 4 * words = omega (arith, laid.size.low, laid.size.whole) in
    let long : length s ≡ 2 + get_or s 1 0 = laid.octets in
    let doi = u32_octets s 2 octets in
    let checksum = checksum_spelled (get_or s 8 0) (get_or s 9 0) (octets.at 8) (octets.at 9) in
    record {
      words = words;
      bitmap = drop 10 s;
      is = firsts_rest s 10 (omega (arith, laid.size.low)) ∙ (λ i. laid.type i ∷ size i ∷ (sym doi i ++ laid.words i ∷ get_or s 7 0 ∷ (sym checksum i ++ drop 10 s)));
      long = omega (arith, length-drop 10 s);
      room = omega (arith, laid.size.high);
      octets = octets;
      named = laid.named;
      fits = u32_small s 2 octets;
      stored = omega (arith, octets.at 8, octets.at 9);
      carries = refl;
    }

-- the octets of an option are octets
pub octets_laid : (doi words level checksum : ℕ) (bitmap : List ℕ) → words ≤ 61 → level < 256 → IsOctets bitmap → IsOctets (option_octets doi words level checksum bitmap)
octets_laid doi words level checksum bitmap few small octets =
    let stored = octets-cons (checksum % 256) (checksum / 256 % 256 ∷ bitmap) (omega arith) (octets-cons (checksum / 256 % 256) bitmap (omega arith) octets) in
    let behind = octets-cons words (level ∷ (to_le_bytes w16 checksum ++ bitmap)) (omega arith) (octets-cons level (to_le_bytes w16 checksum ++ bitmap) small stored) in
    let rest = words ∷ level ∷ (to_le_bytes w16 checksum ++ bitmap) in
    let doi_4 = octets-cons (doi % 256) rest (omega arith) behind in
    let doi_3 = octets-cons (doi / 256 % 256) (doi % 256 ∷ rest) (omega arith) doi_4 in
    let doi_2 = octets-cons (doi / 65536 % 256) (doi / 256 % 256 ∷ doi % 256 ∷ rest) (omega arith) doi_3 in
    let named = octets-cons (doi / 16777216 % 256) (doi / 65536 % 256 ∷ doi / 256 % 256 ∷ doi % 256 ∷ rest) (omega arith) doi_2 in
    octets-cons 7 ((8 + 4 * words) ∷ (to_be_bytes w32 doi ++ rest)) (omega arith) (octets-cons (8 + 4 * words) (to_be_bytes w32 doi ++ rest) (omega arith) named)

-- the values of the fixed places
record Places (s : List ℕ) (v : Calipso × ℕ) (words : ℕ) (bitmap : List ℕ) : Type 0 where
  long : length s ≡ 10 + length bitmap
  type : get_or s 0 0 ≡ 7
  size : get_or s 1 0 ≡ 8 + 4 * words
  doi : u32_at s 2 ≡ v.0.doi
  count : get_or s 6 0 ≡ words
  level : get_or s 7 0 ≡ v.0.label.level
  checksum : checksum_at s ≡ v.1
  rest : drop 10 s ≡ bitmap

places_of : (v : Calipso × ℕ) (words : ℕ) (bitmap : List ℕ) → v.0.doi < 2 ^ 32 → v.1 < 2 ^ 16 → Places (option_octets v.0.doi words v.0.label.level v.1 bitmap) v words bitmap
places_of v words bitmap fits stored =
    record {
      long = omega arith;
      type = refl;
      size = refl;
      doi = from_be_bytes-to_be_bytes_4 v.0.doi fits;
      count = refl;
      level = refl;
      checksum = from_le_bytes-to_le_bytes_2 v.1 stored;
      rest = refl;
    }

places : (s : List ℕ) (v : Calipso × ℕ) (m : IsCalipsoShape s v) → Places s v m.words m.bitmap
places s v m = subst (λ x. Places x v m.words m.bitmap) (sym m.is) (places_of v m.words m.bitmap m.fits m.stored)

pub laid_out : (s : List ℕ) (v : Calipso × ℕ) → IsCalipsoShape s v → IsLaidOut s (length s)
laid_out s v m =
    let p = places s v m in
    record {
      within = omega arith;
      type = p.type;
      size = record { low = omega (arith, p.size); high = omega (arith, p.size, m.room); whole = omega (arith, p.size) };
      octets = omega (arith, p.long, p.size, m.long);
      named = omega (arith, p.doi, m.named);
      words = omega (arith, p.count, p.size);
    }

pub value_read : (s : List ℕ) (v : Calipso × ℕ) → IsCalipsoShape s v → (value_at s, checksum_at s) ≡ v
value_read s v m =
    let p = places s v m in
    let cats : bitmap_cats (drop 10 s) ≡ v.0.label.cats = ap bitmap_cats p.rest ∙ sym m.carries in
    λ i. (record { doi = p.doi i; label = record { level = p.level i; cats = cats i } }, p.checksum i)

-- the octets of an option at the front are one
pub laid_alone : (s : List ℕ) (n : ℕ) → IsLaidOut s n → IsLaidOut (take n s) (length (take n s))
laid_alone s n laid =
    let at = λ (i : ℕ) (lt : i < n). get_or-take n s i 0 lt in
    let low : 10 ≤ n = omega (arith, laid.octets, laid.size.low) in
    let long : length (take n s) ≡ n = omega (arith, length-take n s, laid.within) in
    let second = at 1 (omega arith) in
    record {
      within = omega arith;
      type = at 0 (omega arith) ∙ laid.type;
      size = subst IsLength (sym second) laid.size;
      octets = omega (arith, long, laid.octets, second);
      named = omega (arith, laid.named, at 2 (omega arith), at 3 (omega arith), at 4 (omega arith), at 5 (omega arith));
      words = at 6 (omega arith) ∙ laid.words ∙ ap (λ b. (b - 8) / 4) (sym second);
    }

pub shape_read : (s : List ℕ) (n : ℕ) → IsOctets s → IsLaidOut s n → ReadsFront IsCalipsoShape s (value_at (take n s), checksum_at (take n s)) n
shape_read s n octets laid =
    record { within = laid.within; member = shape_of (take n s) (octets-take n s octets) (laid_alone s n laid) }

pub false_checksum : (s : List ℕ) (n : ℕ) (fault : CalipsoFault) → IsOctets s → IsLaidOut s n → IsFalseChecksum (take n s) fault → IsFaulty s fault
false_checksum s n (BadChecksum stored computed) octets laid found =
    record {
      value = value_at (take n s);
      octets = n;
      shape = subst (λ k. ReadsFront IsCalipsoShape s (value_at (take n s), k) n) (sym found.0) (shape_read s n octets laid);
      computes = found.1;
      differ = found.2;
    }
false_checksum s n (Wire fault) octets laid found = absurd found

-- ---- no option begins another, and each has one value

pub shapes_free : IsPrefixFree IsCalipsoShape
shapes_free =
    free_by_length IsCalipsoShape
    (λ a b v w m n.
    let la = laid_out a v m in
    let lb = laid_out (a ++ b) w n in
    omega (arith, la.octets, lb.octets, get_or_append_left a b 0 1 (omega (arith, la.octets))))
    (λ t v w m n. sym (value_read t v m) ∙ value_read t w n)

pub options_free : IsPrefixFree IsCalipso
options_free a b v w m n =
    let same = shapes_free a b (v, m.stored) (w, n.stored) m.shape n.shape in
    (same.0, ap (λ x. x.0) same.1)
