-- The words of a line, one by one.
use Rattle.std.proofs.Common.{◌≡◌, ℕ, zero, suc, ◌+◌, ◌<◌, true, false, cond, not, ◌&&◌, List, [], ◌∷◌, ◌++◌, length, take, drop, filter, Option, Some, None, refl, sym, ap, ◌∙◌, subst, arith, All, append_assoc, append-nil, nat_eq}
use Rattle.std.specs.Prelude.{take_while, IsTrue}
use Rattle.std.specs.List.{slice_split, position, list_any, join_with_byte}
use Rattle.std.proofs.lemmas.Bool.{and_parts, and_from, not-true, not_from_false, cond-true, cond-false}
use Rattle.std.proofs.lemmas.List.{length-append, length-drop, length-take-le}
use Rattle.std.proofs.lemmas.List.Splits.{slice_split_at, slice_split_none}
use Rattle.std.proofs.lemmas.List.Sums.{take_while-cons}
use Rattle.std.proofs.lemmas.List.Elements.{All-nil, All-cons, All-head, All-tail, All-same}
use Rattle.std.proofs.lemmas.List.Folds.{list_any_none}
use Rattle.script_lines.specs.Octet.{is_blank}
use Rattle.script_lines.specs.Word.{LineWord, placed, has_octets, begins_comment, words_from, words_of_line, is_word_text, IsWordOf}
use Rattle.script_lines.proofs.Splits.{Cut, cut_at, none_passes, none_of}

abbrev pub word_at : ℕ → List ℕ → LineWord
word_at place text = record { at = place; text = text }

abbrev pub Unblank : List ℕ → Type 0
Unblank text = All (λ c. is_blank c ≡ false) text

-- the words among texts that are placed
abbrev chosen : List LineWord → List LineWord
chosen words = take_while (λ word. not (begins_comment word.text)) (filter (λ word. has_octets word.text) words)

-- a text and the words behind it
abbrev pub onto_words : LineWord → List LineWord → List LineWord
onto_words word more = cond (begins_comment word.text) [] (filter (λ w. has_octets w.text) (word ∷ []) ++ more)

chosen-cons : (place : ℕ) (text : List ℕ) (words : List LineWord) → chosen (word_at place text ∷ words) ≡ onto_words (word_at place text) (chosen words)
chosen-cons place [] words = refl
chosen-cons place (c ∷ cs) words =
    let goes = λ (word : LineWord). not (begins_comment word.text) in
    let word = word_at place (c ∷ cs) in
    take_while-cons goes word (filter (λ w. has_octets w.text) words)
    ∙ elim (nat_eq c 35) as (λ b. cond (not b) (word ∷ chosen words) [] ≡ cond b [] (word ∷ chosen words)) [ true ↦ refl | false ↦ refl ]

-- a text in front of a blank
words_split : (place : ℕ) (text : List ℕ) (blank : ℕ) (rest : List ℕ) → Unblank text → is_blank blank ≡ true
    → words_from place (text ++ (blank ∷ rest)) ≡ onto_words (word_at place text) (words_from (place + length text + 1) rest)
words_split place text blank rest fails passes =
    ap (λ parts. chosen (placed place parts)) (slice_split_at is_blank text blank rest fails passes)
    ∙ chosen-cons place text (placed (place + length text + 1) (slice_split is_blank rest))

pub words_cut : (place next : ℕ) (text : List ℕ) (i : ℕ) → Cut is_blank text i → next ≡ place + (i + 1)
    → words_from place text ≡ onto_words (word_at place (take i text)) (words_from next (drop (i + 1) text))
words_cut place next text i cut is =
    let rest = drop (i + 1) text in
    let same : place + length (take i text) + 1 ≡ next = omega (arith, is, length-take-le i text (omega (arith, cut.within))) in
    ap (words_from place) cut.is ∙ words_split place (take i text) cut.octet rest cut.fails cut.passes
    ∙ ap (λ n. onto_words (word_at place (take i text)) (words_from n rest)) same

-- the last one
pub words_last : (place : ℕ) (text : List ℕ) → Unblank text → words_from place text ≡ onto_words (word_at place text) []
words_last place text fails =
    ap (λ parts. chosen (placed place parts)) (slice_split_none is_blank text fails) ∙ chosen-cons place text []

-- ---- gathering

-- nothing follows a comment
pub comment_ends : (items total : List LineWord) (word : LineWord) (words more : List LineWord) → words ≡ onto_words word more
    → begins_comment word.text ≡ true → items ++ words ≡ total → items ≡ total
comment_ends items total word words more is comment so =
    sym (append-nil items) ∙ ap (λ ws. items ++ ws) (sym (is ∙ cond-true (begins_comment word.text) [] _ comment)) ∙ so

pub word_goes : (items total : List LineWord) (word : LineWord) (words more : List LineWord) → words ≡ onto_words word more
    → begins_comment word.text ≡ false → items ++ words ≡ total → (items ++ filter (λ w. has_octets w.text) (word ∷ [])) ++ more ≡ total
word_goes items total word words more is goes so =
    append_assoc items (filter (λ w. has_octets w.text) (word ∷ [])) more
    ∙ ap (λ ws. items ++ ws) (sym (is ∙ cond-false (begins_comment word.text) [] _ goes)) ∙ so

-- ---- each word stands in its line

all_onto : (P : LineWord → Type 0) (word : LineWord) (more : List LineWord) → (begins_comment word.text ≡ false → has_octets word.text ≡ true → P word)
    → All P more → All P (onto_words word more)
all_onto P word more stands all =
    elim (begins_comment word.text) as (λ b. (b ≡ false → has_octets word.text ≡ true → P word) → All P (cond b [] (filter (λ w. has_octets w.text) (word ∷ []) ++ more))) [
      | true ↦ λ h. All-nil P
      | false ↦ λ h. elim (has_octets word.text) as (λ d. (d ≡ true → P word) → All P (cond d (word ∷ []) [] ++ more)) [
        | true ↦ λ g. All-cons P word more (g refl) all
        | false ↦ λ g. all
      ] (h refl)
    ] stands

stands : (front text back : List ℕ) → Unblank text → begins_comment text ≡ false → has_octets text ≡ true → IsWordOf (front ++ (text ++ back)) (word_at (length front) text)
stands front text back fails goes some = record {
  front = front;
  back = back;
  is = refl;
  place = refl;
  text = and_from _ _ (and_from _ _ some (not_from_false _ goes)) (not_from_false _ (list_any_none is_blank text fails));
}

stand_in : (front text : List ℕ) (place : Option ℕ) → position is_blank text ≡ place
    → ((f t : List ℕ) → length t < length text → All (IsWordOf (f ++ t)) (words_from (length f) t)) → All (IsWordOf (front ++ text)) (words_from (length front) text)
stand_in front text None e below =
    let fails = none_passes is_blank text e in
    let P = IsWordOf (front ++ text) in
    let whole : begins_comment text ≡ false → has_octets text ≡ true → P (word_at (length front) text) = λ goes some. subst (λ t. IsWordOf (front ++ t) (word_at (length front) text)) (append-nil text) (stands front text [] fails goes some) in
    All-same P _ _ (words_last (length front) text fails) (all_onto P (word_at (length front) text) [] whole (All-nil P))
stand_in front text (Some i) e below =
    let cut = cut_at is_blank text i e in
    let part = take i text in
    let rest = drop (i + 1) text in
    let P = IsWordOf (front ++ text) in
    let here : begins_comment part ≡ false → has_octets part ≡ true → P (word_at (length front) part) = λ goes some. subst (λ t. IsWordOf (front ++ t) (word_at (length front) part)) (sym cut.is) (stands front part (cut.octet ∷ rest) cut.fails goes some) in
    let f = front ++ (part ++ (cut.octet ∷ [])) in
    let line : f ++ rest ≡ front ++ text =
    append_assoc front (part ++ (cut.octet ∷ [])) rest ∙ ap (λ t. front ++ t) (append_assoc part (cut.octet ∷ []) rest ∙ sym cut.is) in
    let next : length f ≡ length front + (i + 1) =
    omega (arith, length-append front (part ++ (cut.octet ∷ [])), length-append part (cut.octet ∷ []), length-take-le i text (omega (arith, cut.within))) in
    let behind = subst (λ l. All (IsWordOf l) (words_from (length f) rest)) line (below f rest (omega (arith, length-drop (i + 1) text, cut.within))) in
    All-same P _ _ (words_cut (length front) (length f) text i cut next) (all_onto P (word_at (length front) part) _ here behind)

stand_below : (n : ℕ) (front text : List ℕ) → length text < n → All (IsWordOf (front ++ text)) (words_from (length front) text)
stand_below zero front text lt = absurd (omega arith)
stand_below (suc n) front text lt = stand_in front text (position is_blank text) refl (λ f t less. stand_below n f t (omega arith))

pub words_stand : (line : List ℕ) → All (IsWordOf line) (words_of_line line)
words_stand line = stand_below (length line + 1) [] line (omega arith)

-- ---- words joined by spaces

onto_is : (place : ℕ) (text : List ℕ) (more : List LineWord) → IsTrue (is_word_text text) → onto_words (word_at place text) more ≡ word_at place text ∷ more
onto_is place text more is =
    let front = and_parts (has_octets text && not (begins_comment text)) (not (list_any is_blank text)) is in
    let parts = and_parts (has_octets text) (not (begins_comment text)) front.0 in
    let word = word_at place text in
    cond-false (begins_comment text) [] (filter (λ w. has_octets w.text) (word ∷ []) ++ more) (not-true (begins_comment text) parts.1)
    ∙ ap (λ b. cond b (word ∷ []) [] ++ more) parts.0

unblank : (text : List ℕ) → IsTrue (is_word_text text) → Unblank text
unblank text is =
    let front = and_parts (has_octets text && not (begins_comment text)) (not (list_any is_blank text)) is in
    none_of is_blank text (not-true (list_any is_blank text) front.1)

joined : (place : ℕ) (texts : List (List ℕ)) → All (λ text. IsTrue (is_word_text text)) texts → words_from place (join_with_byte 32 texts) ≡ placed place texts
joined place [] all = refl
joined place (text ∷ []) all =
    let is = All-head (λ t. IsTrue (is_word_text t)) text [] all in words_last place text (unblank text is) ∙ onto_is place text [] is
joined place (text ∷ next ∷ texts) all =
    let is = All-head (λ t. IsTrue (is_word_text t)) text (next ∷ texts) all in
    let rest = joined (place + length text + 1) (next ∷ texts) (All-tail (λ t. IsTrue (is_word_text t)) text (next ∷ texts) all) in
    words_split place text 32 (join_with_byte 32 (next ∷ texts)) (unblank text is) refl
    ∙ onto_is place text _ is ∙ ap (λ ws. word_at place text ∷ ws) rest

behind_blanks : (place : ℕ) (blanks text : List ℕ) → All (λ octet. IsTrue (is_blank octet)) blanks → words_from place (blanks ++ text) ≡ words_from (place + length blanks) text
behind_blanks place [] text all = let same : place ≡ place + 0 = omega arith in ap (λ n. words_from n text) same
behind_blanks place (blank ∷ blanks) text all =
    let none : List ℕ = [] in
    let next = place + length none + 1 in
    let more = words_from next (blanks ++ text) in
    let skips : onto_words (word_at place none) more ≡ more = refl in
    let same : next + length blanks ≡ place + length (blank ∷ blanks) = omega arith in
    words_split place none blank (blanks ++ text) (All-nil (λ c. is_blank c ≡ false)) (All-head (λ octet. IsTrue (is_blank octet)) blank blanks all)
    ∙ skips ∙ behind_blanks next blanks text (All-tail (λ octet. IsTrue (is_blank octet)) blank blanks all) ∙ ap (λ n. words_from n text) same

pub words_joined : (blanks : List ℕ) (texts : List (List ℕ)) → All (λ octet. IsTrue (is_blank octet)) blanks → All (λ text. IsTrue (is_word_text text)) texts
    → words_of_line (blanks ++ join_with_byte 32 texts) ≡ placed (length blanks) texts
words_joined blanks texts in_front all =
    let line = join_with_byte 32 texts in
    let same : 0 + length blanks ≡ length blanks = omega arith in
    behind_blanks 0 blanks line in_front ∙ ap (λ n. words_from n line) same ∙ joined (length blanks) texts all
