-- The last word of a line, read from the left.
use Rattle.std.proofs.Common.{◌≡◌, ℕ, suc, ◌+◌, ◌*◌, ◌-◌, ◌/◌, ◌%◌, ◌^◌, ◌<◌, ◌≤◌, Bool, true, false, List, [], ◌∷◌, ◌++◌, length, take, drop, get_or, arith, refl, sym, ap, ◌∙◌, subst, append_assoc, append-nil, IsTrue, Some, None}
use Rattle.std.specs.Prelude.{All, map, fold, ◌&&◌, ◌==◌, nat_lt, if◌then◌else◌}
use Rattle.std.specs.List.{join_with_byte}
use Rattle.std.specs.Fmt.{decimal}
use Rattle.std.proofs.lemmas.List.Sums.{fold-append}
use Rattle.std.proofs.lemmas.List.{length-append, length-drop, take-append-drop, drop-drop, drop-append-le}
use Rattle.std.proofs.Math.Seq.{take-add, drop-cons}
use Rattle.net_io.specs.file_window.Window.{IsFrom}
use Rattle.net_io.proofs.file_window.Law.{a_window_is_a_front_of_the_rest, a_window_has_no_more_than_the_rest, octets_of_a_window_are_the_files}
use Rattle.std.proofs.lemmas.List.Elements.{All-head, All-tail}
use Rattle.std.proofs.lemmas.Bool.{true≢false}
use Rattle.std.proofs.lemmas.Bool.Decides.{nat_tests}
use Rattle.std.proofs.lemmas.Fmt.{decimal_digit, decimal_step, decimal_by_steps}
use Rattle.call_report.specs.Lines.Flow.{versions_text}
use Rattle.call_report.specs.report_file.Versions.{EndsWithVersions, AreVersions}
use Rattle.call_report.specs.declared.report_file.word.Word.{Word}
use Rattle.call_report.specs.declared.report_file.word.Word.TheVariants.{Other, Dash, Begun, Number}
use Rattle.call_report.specs.report_file.inside.Word.{LastWord, is_digit, with_digit, behind_word, next_word, word_behind, versions_by, versions_of}
use Rattle.call_report.proofs.report_file.Lines.{has_end, with_end, none_in_front, none_in_both, one_line}

abbrev word_at : Word → List ℕ → LastWord
word_at word versions = record { word = word; versions = versions }

-- ---- what is written is read

digit_first : (done : List ℕ) (n : ℕ) → n < 10 → next_word (word_at Begun done) (48 + n) ≡ word_at (Number n) done
digit_first done n few = grind (arith, nat_tests)

digit_more : (done : List ℕ) (n : ℕ) → 10 ≤ n → n < 2 ^ 32 → next_word (word_at (Number (n / 10)) done) (48 + n % 10) ≡ word_at (Number n) done
digit_more done n many few = grind (arith, nat_tests)

number_read : (done : List ℕ) (n : ℕ) → n < 2 ^ 32 → word_behind (word_at Begun done) (decimal n) ≡ word_at (Number n) done
number_read done n few = decimal_by_steps (λ m ds. m < 2 ^ 32 → word_behind (word_at Begun done) ds ≡ word_at (Number m) done) one more n (omega arith) few
  where
    one : (m : ℕ) → m < 10 → m < 2 ^ 32 → word_behind (word_at Begun done) ((48 + m) ∷ []) ≡ word_at (Number m) done
    one m small _ = digit_first done m small

    more : (m : ℕ) (ds : List ℕ) → 10 ≤ m → (m / 10 < 2 ^ 32 → word_behind (word_at Begun done) ds ≡ word_at (Number (m / 10)) done) → m < 2 ^ 32
        → word_behind (word_at Begun done) (ds ++ (48 + m % 10) ∷ []) ≡ word_at (Number m) done
    more m ds many front small =
        fold-append next_word (word_at Begun done) ds ((48 + m % 10) ∷ []) ∙ ap (λ w. next_word w (48 + m % 10)) (front (omega arith)) ∙ digit_more done m many small

comma_read : (done : List ℕ) (n : ℕ) → length done < 15 → next_word (word_at (Number n) done) 44 ≡ word_at Begun (done ++ n ∷ [])
comma_read done n few = grind (arith, nat_tests)

snoc_append : (xs : List ℕ) (v : ℕ) (ys : List ℕ) → (xs ++ v ∷ []) ++ ys ≡ xs ++ v ∷ ys
snoc_append xs v ys = append_assoc xs (v ∷ []) ys

numbers_read : (v : ℕ) (rest done : List ℕ) → length done + (1 + length rest) ≤ 16 → v < 2 ^ 32 → All (λ u. u < 2 ^ 32) rest
    → versions_of (word_behind (word_at Begun done) (join_with_byte 44 (decimal v ∷ map decimal rest))) ≡ Some (done ++ v ∷ rest)
numbers_read v [] done room few others = ap versions_of (number_read done v few)
numbers_read v (u ∷ us) done room few others =
    ap versions_of (fold-append next_word (word_at Begun done) (decimal v) (44 ∷ join_with_byte 44 (decimal u ∷ map decimal us))
    ∙ ap (λ w. fold next_word w (44 ∷ join_with_byte 44 (decimal u ∷ map decimal us))) (number_read done v few)
    ∙ ap (λ w. fold next_word w (join_with_byte 44 (decimal u ∷ map decimal us))) (comma_read done v (omega (arith, room))))
    ∙ numbers_read u us (done ++ v ∷ []) (omega (arith, room, length-append done (v ∷ []))) (All-head (λ (w : ℕ). w < 2 ^ 32) u us others) (All-tail (λ (w : ℕ). w < 2 ^ 32) u us others)
    ∙ ap Some (snoc_append done v (u ∷ us))

word_read : (versions : List ℕ) → AreVersions versions → versions_of (word_behind (word_at Begun []) (versions_text versions)) ≡ Some versions
word_read [] are = refl
word_read (v ∷ vs) are = numbers_read v vs [] (omega (arith, are.0)) (All-head (λ (w : ℕ). w < 2 ^ 32) v vs are.1) (All-tail (λ (w : ℕ). w < 2 ^ 32) v vs are.1)

pub written_is_read : (front versions : List ℕ) → AreVersions versions → versions_of (word_behind (word_at Other []) (front ++ 32 ∷ versions_text versions)) ≡ Some versions
written_is_read front versions are = ap versions_of (fold-append next_word (word_at Other []) front (32 ∷ versions_text versions)) ∙ word_read versions are

-- ---- what is written has no end of a line in it

none_in_decimal : (n : ℕ) → n < 2 ^ 32 → has_end (decimal n) ≡ false
none_in_decimal n few = decimal_by_steps (λ m ds. has_end ds ≡ false) (λ m small. digit m) (λ m ds many none. none_in_both ds ((48 + m % 10) ∷ []) none (digit (m % 10))) n (omega arith)
  where
    digit : (m : ℕ) → has_end ((48 + m) ∷ []) ≡ false
    digit m = grind (arith, nat_tests)

none_in_numbers : (v : ℕ) (rest : List ℕ) → v < 2 ^ 32 → All (λ u. u < 2 ^ 32) rest → has_end (join_with_byte 44 (decimal v ∷ map decimal rest)) ≡ false
none_in_numbers v [] few others = none_in_decimal v few
none_in_numbers v (u ∷ us) few others =
    none_in_both (decimal v) (44 ∷ join_with_byte 44 (decimal u ∷ map decimal us)) (none_in_decimal v few)
    (none_in_numbers u us (All-head (λ (w : ℕ). w < 2 ^ 32) u us others) (All-tail (λ (w : ℕ). w < 2 ^ 32) u us others))

pub none_in_versions : (versions : List ℕ) → All (λ v. v < 2 ^ 32) versions → has_end (versions_text versions) ≡ false
none_in_versions [] few = refl
none_in_versions (v ∷ vs) few = none_in_numbers v vs (All-head (λ (w : ℕ). w < 2 ^ 32) v vs few) (All-tail (λ (w : ℕ). w < 2 ^ 32) v vs few)

-- ---- what is read is written

-- numbers, each with its comma
abbrev commas : List ℕ → List ℕ
commas [] = []
commas (v ∷ vs) = decimal v ++ 44 ∷ commas vs

-- a line ends with a blank and this word
abbrev EndsWith : List ℕ → List ℕ → Type 0
EndsWith word line = (front : List ℕ) × (line ≡ front ++ 32 ∷ word)

abbrev Says : Word → List ℕ → List ℕ → Type 0
Says Other versions line = Unit {0}
Says Dash versions line = (versions ≡ []) × EndsWith (45 ∷ []) line
Says Begun versions line = EndsWith (commas versions) line
Says (Number value) versions line = EndsWith (commas versions ++ decimal value) line

abbrev SaysOf : LastWord → List ℕ → Type 0
SaysOf last line = Says last.word last.versions line

ends_more : (word more line : List ℕ) (octet : ℕ) → word ++ octet ∷ [] ≡ more → EndsWith word line → EndsWith more (line ++ octet ∷ [])
ends_more word more line octet is e = (e.0, ap (λ l. l ++ octet ∷ []) e.1 ∙ append_assoc e.0 (32 ∷ word) (octet ∷ []) ∙ ap (λ w. e.0 ++ 32 ∷ w) is)

commas_more : (versions : List ℕ) (n : ℕ) → (commas versions ++ decimal n) ++ 44 ∷ [] ≡ commas (versions ++ n ∷ [])
commas_more [] n = refl
commas_more (v ∷ vs) n =
    ap (λ l. l ++ 44 ∷ []) (append_assoc (decimal v) (44 ∷ commas vs) (decimal n)) ∙ append_assoc (decimal v) (44 ∷ (commas vs ++ decimal n)) (44 ∷ [])
    ∙ ap (λ l. decimal v ++ 44 ∷ l) (commas_more vs n)

is_digit_of : (octet : ℕ) → is_digit octet ≡ true → (48 ≤ octet) × (octet ≤ 57)
is_digit_of octet is = grind (arith, nat_tests)

digit_written : (octet : ℕ) → is_digit octet ≡ true → decimal (octet - 48) ≡ octet ∷ []
digit_written octet is =
    let within = is_digit_of octet is in
    decimal_digit (octet - 48) (omega (arith, within)) ∙ ap (λ n. n ∷ []) (omega (arith, within))

begun_more : (versions line : List ℕ) (octet : ℕ) (d m : Bool) → is_digit octet ≡ d → (octet == 45 && length versions == 0) ≡ m → EndsWith (commas versions) line
    → Says (if d then Number (octet - 48) else (if m then Dash else Other)) versions (line ++ octet ∷ [])
begun_more versions line octet true m is dash e = ends_more (commas versions) (commas versions ++ decimal (octet - 48)) line octet (ap (λ l. commas versions ++ l) (sym (digit_written octet is))) e
begun_more versions line octet false true is dash e = dashed versions (grind (arith, nat_tests)) (grind (arith, nat_tests)) e
  where
    dashed : (vs : List ℕ) → octet ≡ 45 → length vs ≡ 0 → EndsWith (commas vs) line → (vs ≡ []) × EndsWith (45 ∷ []) (line ++ octet ∷ [])
    dashed [] o none e = (refl, ends_more [] (45 ∷ []) line octet (ap (λ n. n ∷ []) o) e)
    dashed (v ∷ vs) o none e = absurd (omega (arith, none))
begun_more versions line octet false false is dash e = tt

longer_more : (versions line : List ℕ) (value octet : ℕ) (b : Bool) → is_digit octet ≡ true → (nat_lt 0 value && nat_lt (value * 10 + (octet - 48)) 4294967296) ≡ b → EndsWith (commas versions ++ decimal value) line
    → Says (if b then Number (value * 10 + (octet - 48)) else Other) versions (line ++ octet ∷ [])
longer_more versions line value octet false is fits e = tt
longer_more versions line value octet true is fits e =
    let within = is_digit_of octet is in
    let some : 0 < value = grind (arith, nat_tests) in
    let small : value * 10 + (octet - 48) < 4294967296 = grind (arith, nat_tests) in
    let n : ℕ = value * 10 + (octet - 48) in
    let step : decimal n ≡ decimal (n / 10) ++ (48 + n % 10) ∷ [] = decimal_step n (omega (arith, some)) (omega (arith, small)) in
    let front : n / 10 ≡ value = omega (arith, within) in
    let last : 48 + n % 10 ≡ octet = omega (arith, within) in
    let whole : decimal n ≡ decimal value ++ octet ∷ [] = step ∙ ap (λ k. decimal k ++ (48 + n % 10) ∷ []) front ∙ ap (λ o. decimal value ++ o ∷ []) last in
    ends_more (commas versions ++ decimal value) (commas versions ++ decimal n) line octet (append_assoc (commas versions) (decimal value) (octet ∷ []) ∙ ap (λ l. commas versions ++ l) (sym whole)) e

number_more : (versions line : List ℕ) (value octet : ℕ) (d m : Bool) → is_digit octet ≡ d → (octet == 44 && nat_lt (length versions) 15) ≡ m → EndsWith (commas versions ++ decimal value) line
    → SaysOf (if d then word_at (with_digit value (octet - 48)) versions else (if m then word_at Begun (versions ++ value ∷ []) else word_at Other versions)) (line ++ octet ∷ [])
number_more versions line value octet true m is comma e = longer_more versions line value octet (nat_lt 0 value && nat_lt (value * 10 + (octet - 48)) 4294967296) is refl e
number_more versions line value octet false true is comma e =
    let o : octet ≡ 44 = grind (arith, nat_tests) in
    ends_more (commas versions ++ decimal value) (commas (versions ++ value ∷ [])) line octet (ap (λ n. (commas versions ++ decimal value) ++ n ∷ []) o ∙ commas_more versions value) e
number_more versions line value octet false false is comma e = tt

word_more : (word : Word) (versions line : List ℕ) (octet : ℕ) → Says word versions line → SaysOf (behind_word word versions octet) (line ++ octet ∷ [])
word_more Other versions line octet says = tt
word_more Dash versions line octet says = tt
word_more Begun versions line octet says = begun_more versions line octet (is_digit octet) (octet == 45 && length versions == 0) refl refl says
word_more (Number value) versions line octet says = number_more versions line value octet (is_digit octet) (octet == 44 && nat_lt (length versions) 15) refl refl says

octet_more : (last : LastWord) (line : List ℕ) (octet : ℕ) (b : Bool) → (octet == 32) ≡ b → SaysOf last line → SaysOf (if b then word_at Begun [] else behind_word last.word last.versions octet) (line ++ octet ∷ [])
octet_more last line octet true is says = let o : octet ≡ 32 = grind (arith, nat_tests) in (line, ap (λ n. line ++ n ∷ []) o)
octet_more last line octet false is says = word_more last.word last.versions line octet says

says_behind : (last : LastWord) (line octets : List ℕ) → SaysOf last line → SaysOf (word_behind last octets) (line ++ octets)
says_behind last line [] says = subst (SaysOf last) (sym (append-nil line)) says
says_behind last line (o ∷ octets) says =
    subst (SaysOf (word_behind (next_word last o) octets)) (append_assoc line (o ∷ []) octets) (says_behind (next_word last o) (line ++ o ∷ []) octets (octet_more last line o (o == 32) refl says))

text_of_commas : (versions : List ℕ) (n : ℕ) → commas versions ++ decimal n ≡ versions_text (versions ++ n ∷ [])
text_of_commas [] n = refl
text_of_commas (v ∷ []) n = append_assoc (decimal v) (44 ∷ []) (decimal n)
text_of_commas (v ∷ u ∷ us) n = append_assoc (decimal v) (44 ∷ commas (u ∷ us)) (decimal n) ∙ ap (λ l. decimal v ++ 44 ∷ l) (text_of_commas (u ∷ us) n)

named_ends : (word : Word) (versions named line : List ℕ) → versions_by word versions ≡ Some named → Says word versions line → EndsWith (versions_text named) line
named_ends Other versions named line is says = absurd (cc)
named_ends Dash versions named line is says =
    let none : named ≡ [] = (let same : versions ≡ named = cc in sym same ∙ says.0) in
    subst (λ vs. EndsWith (versions_text vs) line) (sym none) says.1
named_ends Begun versions named line is says = absurd (cc)
named_ends (Number value) versions named line is says =
    let same : versions ++ value ∷ [] ≡ named = cc in
    (says.0, says.1 ∙ ap (λ w. says.0 ++ 32 ∷ w) (text_of_commas versions value ∙ ap versions_text same))

pub read_is_written : (line named : List ℕ) → versions_of (word_behind (word_at Other []) line) ≡ Some named → EndsWith (versions_text named) line
read_is_written line named is =
    let last = word_behind (word_at Other []) line in
    named_ends last.word last.versions named line is (says_behind (word_at Other []) [] line tt)

-- ---- a line of a file, read in pieces

-- so many octets of what is left were read, and no line ends among them
pub record HasRead (left : List ℕ) (count : ℕ) (word : Word) (versions : List ℕ) : Type 0 where
  pub within : count ≤ length left
  pub one : has_end (take count left) ≡ false
  pub reads : word_behind (word_at Other []) (take count left) ≡ word_at word versions

pub read_none : (left : List ℕ) → HasRead left 0 Other []
read_none left = record { within = omega arith; one = refl; reads = refl }

-- octets more, read behind those
pub read_more : (left octets : List ℕ) (count more : ℕ) (word next : Word) (versions versions' : List ℕ) → HasRead left count word versions
    → take more (drop count left) ≡ take more octets → more ≤ length (drop count left) → has_end (take more octets) ≡ false
    → word_behind (word_at word versions) (take more octets) ≡ word_at next versions' → HasRead left (count + more) next versions'
read_more left octets count more word next versions versions' read same within one reads =
    let split : take (count + more) left ≡ take count left ++ take more octets = take-add count more left ∙ ap (λ l. take count left ++ l) same in
    record {
      within = omega (arith, within, length-drop count left, read.within);
      one = ap has_end split ∙ none_in_both (take count left) (take more octets) read.one one;
      reads = ap (word_behind (word_at Other [])) split ∙ fold-append next_word (word_at Other []) (take count left) (take more octets)
          ∙ ap (λ w. fold next_word w (take more octets)) read.reads ∙ reads;
    }

-- behind them the line ends
pub record IsAtEnd (left : List ℕ) (count : ℕ) : Type 0 where
  pub behind : List ℕ
  pub is : drop count left ≡ 10 ∷ behind

whole_line : (left : List ℕ) (count : ℕ) (end : IsAtEnd left count) → left ≡ take count left ++ 10 ∷ end.behind
whole_line left count end = sym (take-append-drop count left) ∙ ap (λ l. take count left ++ l) end.is

pub line_names : (left : List ℕ) (count : ℕ) (word : Word) (versions named : List ℕ) → HasRead left count word versions → IsAtEnd left count
    → versions_of (word_at word versions) ≡ Some named → EndsWithVersions left named
line_names left count word versions named read end is =
    let ends = read_is_written (take count left) named (ap versions_of read.reads ∙ is) in
    record {
      front = ends.0;
      behind = end.behind;
      one = none_in_front ends.0 (32 ∷ versions_text named) (sym (ap has_end ends.1) ∙ read.one);
      is = whole_line left count end ∙ ap (λ l. l ++ 10 ∷ end.behind) ends.1 ∙ append_assoc ends.0 (32 ∷ versions_text named) (10 ∷ end.behind);
    }

-- the line of versions that stands first is what was read
ends_line : (left versions : List ℕ) → All (λ v. v < 2 ^ 32) versions → (ends : EndsWithVersions left versions) (line behind : List ℕ) → has_end line ≡ false → left ≡ line ++ 10 ∷ behind
    → line ≡ ends.front ++ 32 ∷ versions_text versions
ends_line left versions few ends line behind one is =
    one_line line (ends.front ++ 32 ∷ versions_text versions) behind ends.behind one
    (none_in_both ends.front (32 ∷ versions_text versions) ends.one (none_in_versions versions few))
    (sym is ∙ ends.is ∙ sym (append_assoc ends.front (32 ∷ versions_text versions) (10 ∷ ends.behind)))

pub line_named : (left : List ℕ) (count : ℕ) (word : Word) (versions others : List ℕ) → HasRead left count word versions → IsAtEnd left count
    → AreVersions others → EndsWithVersions left others → versions_of (word_at word versions) ≡ Some others
line_named left count word versions others read end are ends =
    let line = ends_line left others are.1 ends (take count left) end.behind read.one (whole_line left count end) in
    ap versions_of (sym read.reads ∙ ap (word_behind (word_at Other [])) line) ∙ written_is_read ends.front others are

-- a file that ends in its last line names none there
pub no_line : (left : List ℕ) (count : ℕ) (word : Word) (versions others : List ℕ) → HasRead left count word versions → drop count left ≡ [] → EndsWithVersions left others → ⊥
no_line left count word versions others read end ends =
    let all : left ≡ take count left = sym (take-append-drop count left) ∙ ap (λ l. take count left ++ l) end ∙ append-nil (take count left) in
    true≢false (sym (with_end (ends.front ++ 32 ∷ versions_text others) ends.behind)
    ∙ ap has_end (append_assoc ends.front (32 ∷ versions_text others) (10 ∷ ends.behind) ∙ sym ends.is ∙ all) ∙ read.one)

-- ---- a window over the line

left_of_left : (file : List ℕ) (at next : ℕ) → at ≤ next → drop (next - at) (drop at file) ≡ drop next file
left_of_left file at next le = drop-drop (next - at) at file ∙ ap (λ n. drop n file) (omega (arith, le))

pub read_turn : (file ahead : List ℕ) (at next count : ℕ) (word word' : Word) (versions versions' : List ℕ) → at ≤ next → HasRead (drop at file) (next - at) word versions → IsFrom file next ahead
    → count ≤ length ahead → has_end (take count ahead) ≡ false → word_behind (word_at word versions) (take count ahead) ≡ word_at word' versions'
    → HasRead (drop at file) (next + count - at) word' versions'
read_turn file ahead at next count word word' versions versions' le read from within one reads =
    let left = left_of_left file at next le in
    let same : take count (drop (next - at) (drop at file)) ≡ take count ahead = ap (take count) left ∙ octets_of_a_window_are_the_files file next 0 count ahead from (omega (arith, within)) in
    let more = read_more (drop at file) ahead (next - at) count word word' versions versions' read same
    (omega (arith, within, a_window_has_no_more_than_the_rest file next ahead from, ap length left)) one reads in
    subst (λ (n : ℕ). HasRead (drop at file) n word' versions') (omega (arith, le)) more

pub end_turn : (file ahead : List ℕ) (at next count : ℕ) → at ≤ next → IsFrom file next ahead → count < length ahead → get_or ahead count 0 ≡ 10 → IsAtEnd (drop at file) (next + count - at)
end_turn file ahead at next count le from within is =
    let more = drop (length ahead) (drop next file) in
    let here : drop (next + count - at) (drop at file) ≡ drop (next + count) file = left_of_left file at (next + count) (omega (arith, le)) in
    let window : drop (next + count) file ≡ drop count ahead ++ more =
    sym (drop-drop count next file) ∙ ap (drop count) (a_window_is_a_front_of_the_rest file next ahead from) ∙ drop-append-le count ahead more (omega (arith, within)) in
    let first : drop count ahead ≡ 10 ∷ drop (suc count) ahead = drop-cons ahead count 0 within ∙ ap (λ o. o ∷ drop (suc count) ahead) is in
    record { behind = drop (suc count) ahead ++ more; is = here ∙ window ∙ ap (λ l. l ++ more) first }

pub told_by : (b : Bool) (items others : List ℕ) → (if b then Some items else None) ≡ Some others → IsTrue b × (items ≡ others)
told_by true items others is = (refl, cc)
told_by false items others is = absurd (cc)

pub nothing_left : (file ahead : List ℕ) (at next : ℕ) → at ≤ next → length ahead ≡ length (drop next file) → length ahead ≡ 0 → drop (next - at) (drop at file) ≡ []
nothing_left file ahead at next le all none = left_of_left file at next le ∙ empty (drop next file) (omega (arith, all, none))
  where
    empty : (xs : List ℕ) → length xs ≡ 0 → xs ≡ []
    empty [] e = refl
    empty (x ∷ xs) e = absurd (omega (arith, e))
