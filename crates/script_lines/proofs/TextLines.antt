-- The lines of a text, one by one.
use Rattle.std.proofs.Common.{◌≡◌, ℕ, zero, suc, ◌+◌, ◌-◌, ◌<◌, ◌≤◌, Bool, true, false, List, [], ◌∷◌, ◌++◌, length, take, drop, Option, Some, None, refl, sym, ap, ◌∙◌, arith, All, ne_eqb}
use Rattle.std.specs.Prelude.{◌==◌, if◌then◌else◌, slice_index, IsTrue}
use Rattle.std.specs.List.{slice_split, position, list_any}
use Rattle.std.specs.Str.Lines.{lines, lines_of_parts, strip_carriage_return}
use Rattle.std.proofs.lemmas.Bool.{cond-false, eqb-true, false_from_ne_true, false≢true}
use Rattle.std.proofs.lemmas.Bool.Decides.{nat_tests}
use Rattle.std.proofs.lemmas.List.{length-drop}
use Rattle.std.proofs.lemmas.List.Splits.{slice_split_at, slice_split_none, length-slice_split}
use Rattle.std.proofs.lemmas.List.Elements.{All-nil, All-cons, All-get_or, All-same, All-take, All-weaker}
use Rattle.std.proofs.lemmas.List.Folds.{list_any_none}
use Rattle.script_lines.specs.Octet.{is_plain}
use Rattle.script_lines.proofs.Splits.{Cut, cut_at, none_passes, split_cut}

abbrev pub is_feed : ℕ → Bool
is_feed octet = octet == 10

onto_lines : (part : List ℕ) (parts : List (List ℕ)) → 0 < length parts → lines_of_parts (part ∷ parts) ≡ strip_carriage_return part ∷ lines_of_parts parts
onto_lines part [] some = absurd (omega arith)
onto_lines part (next ∷ parts) some = refl

-- a line that ends with LF
pub lines_cut : (text : List ℕ) (i : ℕ) → Cut is_feed text i → lines text ≡ strip_carriage_return (take i text) ∷ lines (drop (i + 1) text)
lines_cut text i cut =
    let rest = drop (i + 1) text in
    ap lines_of_parts (split_cut is_feed text i cut) ∙ onto_lines (take i text) (slice_split is_feed rest) (omega (arith, length-slice_split is_feed rest))

-- the last one, which doesn't
pub lines_alone : (text : List ℕ) → 0 < length text → All (λ c. is_feed c ≡ false) text → lines text ≡ text ∷ []
lines_alone text some fails =
    ap lines_of_parts (slice_split_none is_feed text fails) ∙ cond-false (length text == 0) [] (text ∷ []) (ne_eqb (length text) 0 (λ e. omega (arith, e)))

pub some_octets : (text : List ℕ) → (length text == 0) ≡ false → 0 < length text
some_octets text e = grind (arith, nat_tests)

-- ---- no line has a LF

abbrev pub Lacks : List ℕ → Type 0
Lacks line = list_any is_feed line ≡ false

strip_lacks : (line : List ℕ) → All (λ c. is_feed c ≡ false) line → Lacks (strip_carriage_return line)
strip_lacks line fails =
    elim (slice_index line (length line - 1) == 13) as (λ b. Lacks (if b then take (length line - 1) line else line)) [
      | true ↦ list_any_none is_feed (take (length line - 1) line) (All-take (λ c. is_feed c ≡ false) (length line - 1) line fails)
      | false ↦ list_any_none is_feed line fails
    ]

one_more : (n : ℕ) (text : List ℕ) (place : Option ℕ) → position is_feed text ≡ place → 0 < length text → length text ≤ suc n
    → ((t : List ℕ) → length t ≤ n → All Lacks (lines t)) → All Lacks (lines text)
one_more n text None e some le below =
    let fails = none_passes is_feed text e in
    All-same Lacks (lines text) (text ∷ []) (lines_alone text some fails) (All-cons Lacks text [] (list_any_none is_feed text fails) (All-nil Lacks))
one_more n text (Some i) e some le below =
    let cut = cut_at is_feed text i e in
    let rest = drop (i + 1) text in
    All-same Lacks (lines text) (strip_carriage_return (take i text) ∷ lines rest) (lines_cut text i cut)
    (All-cons Lacks _ (lines rest) (strip_lacks (take i text) cut.fails) (below rest (omega (arith, length-drop (i + 1) text))))

lines_below : (n : ℕ) (text : List ℕ) → length text ≤ n → All Lacks (lines text)
lines_below n [] le = All-nil Lacks
lines_below zero (c ∷ cs) le = absurd (omega arith)
lines_below (suc n) (c ∷ cs) le = one_more n (c ∷ cs) (position is_feed (c ∷ cs)) refl (omega arith) le (lines_below n)

pub lines_lack : (text : List ℕ) → All Lacks (lines text)
lines_lack text = lines_below (length text) text (omega arith)

-- ---- plain octets with LF behind them

abbrev Plain : ℕ → Type 0
Plain octet = IsTrue (is_plain octet)

-- an octet that isn't plain isn't there
differs : (unfit octet : ℕ) → is_plain unfit ≡ false → Plain octet → (octet == unfit) ≡ false
differs unfit octet fails plain = false_from_ne_true (octet == unfit) λ same. false≢true (sym fails ∙ ap is_plain (sym (eqb-true octet unfit same)) ∙ plain)

keeps_its_end : (line : List ℕ) → All Plain line → strip_carriage_return line ≡ line
keeps_its_end [] plain = refl
keeps_its_end (octet ∷ octets) plain =
    let line = octet ∷ octets in
    let last = length line - 1 in
    cond-false (slice_index line last == 13) (take last line) line (differs 13 (slice_index line last) refl (All-get_or Plain line last 0 (omega arith) plain))

pub plain_line : (line text : List ℕ) → All Plain line → lines (line ++ (10 ∷ text)) ≡ line ∷ lines text
plain_line line text plain =
    let parts = slice_split is_feed text in
    ap lines_of_parts (slice_split_at is_feed line 10 text (All-weaker Plain (λ c. is_feed c ≡ false) (λ c is. differs 10 c refl is) line plain) refl)
    ∙ onto_lines line parts (omega (arith, length-slice_split is_feed text)) ∙ ap (λ first. first ∷ lines text) (keeps_its_end line plain)
