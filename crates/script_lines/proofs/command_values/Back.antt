-- Written values read back.
use Rattle.std.proofs.Common.{◌≡◌, ℕ, ◌^◌, ◌<◌, ◌≤◌, Bool, false, cond, List, [], ◌∷◌, ◌++◌, length, map, Option, Some, None, refl, ap, ◌∙◌, arith, decimal, All, IsTrue}
use Rattle.std.specs.Prelude.{◌==◌, nat_le, option_map, option_and_then}
use Rattle.std.specs.List.{slice_split, after_first}
use Rattle.std.specs.Fmt.{digits}
use Rattle.std.proofs.lemmas.Bool.{cond-true, and_parts, le-leb, leb-true, ne_eqb}
use Rattle.std.proofs.lemmas.List.Elements.{All-nil, All-cons, All-head, All-tail, All-append, All-weaker}
use Rattle.std.proofs.lemmas.List.Splits.{slice_split_none, slice_split_at}
use Rattle.mls_label.specs.declared.label.Tag.{Tag}
use Rattle.mls_label.specs.declared.label.Tag.TheVariants.{One, Two, Five}
use Rattle.domain_map.specs.declared.protocol.Protocol.{Protocol}
use Rattle.domain_map.specs.declared.protocol.Protocol.TheVariants.{Unlbl, Cipso, Calipso}
use Rattle.domain_map.specs.address_text.Number.{number_of_text}
use Rattle.script_lines.specs.command_values.Doi.{is_doi, doi_of_text}
use Rattle.script_lines.specs.command_values.List.{all_of, list_of_text, list_text, AreEntries}
use Rattle.script_lines.specs.command_values.Pairs.{pair_of_text, pair_text, IsPairWithin}
use Rattle.script_lines.specs.command_values.Tags.{tag_of_text, tag_number_text, tags_of_text, AreTags}
use Rattle.script_lines.specs.command_values.MapProtocol.{is_map_protocol, map_protocol_of_text, map_protocol_text}
use Rattle.script_lines.proofs.command_values.Numbers.{number_of_written, digits_lack}
use Rattle.script_lines.proofs.command_values.Splits.{Lacks, before_at, after_at}

abbrev is_comma : ℕ → Bool
is_comma c = c == 44

abbrev is_equals : ℕ → Bool
is_equals c = c == 61

pub doi_back : (n : ℕ) → IsTrue (is_doi n) → doi_of_text (decimal n) ≡ Some n
doi_back n is =
    let parts = and_parts (nat_le 1 n) (nat_le n 4294967295) is in
    let kept : ℕ → Option ℕ = λ k. cond (is_doi k) (Some k) None in
    ap (option_and_then kept) (number_of_written 4294967295 n (omega arith) (leb-true n 4294967295 parts.1)) ∙ cond-true (is_doi n) (Some n) None is

-- an entry's text reads back, and has no comma
pub record Reads {X : Type 0} (of : List ℕ → Option X) (text_of : X → List ℕ) (x : X) : Type 0 where
  pub back : of (text_of x) ≡ Some x
  pub whole : Lacks is_comma (text_of x)

list_back : {X : Type 0} (of : List ℕ → Option X) (text_of : X → List ℕ) (xs : List X) → 0 < length xs → All (Reads of text_of) xs → list_of_text of (list_text text_of xs) ≡ Some xs
list_back of text_of [] some reads = absurd (omega arith)
list_back of text_of (x ∷ []) some reads =
    let first = All-head (Reads of text_of) x [] reads in
    ap (λ parts. all_of (map of parts)) (slice_split_none is_comma (text_of x) first.whole) ∙ ap (λ o. all_of (o ∷ [])) first.back
list_back of text_of (x ∷ y ∷ ys) some reads =
    let rest = list_text text_of (y ∷ ys) in
    let first = All-head (Reads of text_of) x (y ∷ ys) reads in
    let others = list_back of text_of (y ∷ ys) (omega arith) (All-tail (Reads of text_of) x (y ∷ ys) reads) in
    ap (λ parts. all_of (map of parts)) (slice_split_at is_comma (text_of x) 44 rest first.whole refl)
    ∙ ap (λ o. all_of (o ∷ map of (slice_split is_comma rest))) first.back ∙ ap (option_map (λ zs. x ∷ zs)) others

-- pairs

pair_lacks : (test : ℕ → Bool) (first second : ℕ) (pair : ℕ × ℕ) → ((c : ℕ) → 48 ≤ c → c ≤ 57 → test c ≡ false) → test 61 ≡ false → first < 2 ^ 64 → second < 2 ^ 64 → IsPairWithin first second pair → Lacks test (pair_text pair)
pair_lacks test first second pair none equals small narrow is =
    All-append (λ c. test c ≡ false) (decimal pair.0) (61 ∷ decimal pair.1) (digits_lack test pair.0 none (omega (arith, is)))
    (All-cons (λ c. test c ≡ false) 61 (decimal pair.1) equals (digits_lack test pair.1 none (omega (arith, is))))

pair_back : (first second : ℕ) (pair : ℕ × ℕ) → first < 2 ^ 64 → second < 2 ^ 64 → IsPairWithin first second pair → pair_of_text first second (pair_text pair) ≡ Some pair
pair_back first second pair small narrow is =
    let front = decimal pair.0 in
    let back = decimal pair.1 in
    let lacks = digits_lack is_equals pair.0 (λ c low high. ne_eqb c 61 (λ e. omega arith)) (omega (arith, is)) in
    let left = ap (number_of_text first) (before_at is_equals front 61 back lacks refl) ∙ number_of_written first pair.0 small is.0 in
    let right = ap (number_of_text second) (after_at is_equals front 61 back lacks refl) ∙ number_of_written second pair.1 narrow is.1 in
    let both : Option ℕ → Option ℕ → Option (ℕ × ℕ) = λ l r. option_and_then (λ m. option_map (λ n. (m, n)) r) l in
    ap (λ l. both l (number_of_text second (after_first is_equals (front ++ 61 ∷ back)))) left ∙ ap (λ r. both (Some pair.0) r) right

pub pairs_back : (first second : ℕ) (pairs : List (ℕ × ℕ)) → first < 2 ^ 64 → second < 2 ^ 64 → AreEntries (IsPairWithin first second) pairs → list_of_text (pair_of_text first second) (list_text pair_text pairs) ≡ Some pairs
pairs_back first second pairs small narrow are =
    list_back (pair_of_text first second) pair_text pairs are.some (All-weaker (IsPairWithin first second) (Reads (pair_of_text first second) pair_text) (λ pair is.
    record {
      back = pair_back first second pair small narrow is;
      whole = pair_lacks is_comma first second pair (λ c low high. ne_eqb c 44 (λ e. omega arith)) refl small narrow is;
    }) pairs are.each)

-- tags

tag_reads : (tag : Tag) → Reads tag_of_text tag_number_text tag
unfolding digits
tag_reads One = record { back = refl; whole = All-cons (λ c. is_comma c ≡ false) 49 [] refl (All-nil (λ c. is_comma c ≡ false)) }
tag_reads Two = record { back = refl; whole = All-cons (λ c. is_comma c ≡ false) 50 [] refl (All-nil (λ c. is_comma c ≡ false)) }
tag_reads Five = record { back = refl; whole = All-cons (λ c. is_comma c ≡ false) 53 [] refl (All-nil (λ c. is_comma c ≡ false)) }

pub tags_back : (tags : List Tag) → AreTags tags → tags_of_text (list_text tag_number_text tags) ≡ Some tags
tags_back tags are =
    let few : List Tag → Option (List Tag) = λ ts. cond (nat_le (length ts) 5) (Some ts) None in
    ap (option_and_then few) (list_back tag_of_text tag_number_text tags are.some (λ k tag within. tag_reads _)) ∙ cond-true (nat_le (length tags) 5) (Some tags) None (le-leb (length tags) 5 are.few)

-- protocols

pub map_protocol_back : (protocol : Protocol) → IsTrue (is_map_protocol protocol) → map_protocol_of_text (map_protocol_text protocol) ≡ Some protocol
map_protocol_back Unlbl is = refl
map_protocol_back (Cipso doi) is = ap (option_map Cipso) (doi_back doi is)
map_protocol_back (Calipso doi) is = ap (option_map Calipso) (doi_back doi is)
