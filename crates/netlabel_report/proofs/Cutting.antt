-- A text that is cut at the ends of its lines, read from its front on.
use Rattle.std.proofs.Common.{◌≡◌, ℕ, ◌+◌, ◌<◌, ◌≤◌, Bool, true, false, nat_lt, List, [], ◌∷◌, ◌++◌, length, take, drop, Some, refl, sym, ap, subst, ◌∙◌, arith, append_assoc, length-append}
use Rattle.std.specs.Prelude.{◌==◌}
use Rattle.std.specs.List.{All, onto_first}
use Rattle.std.proofs.lemmas.Bool.{lt-ltb, le-ltb, ltb-true, ltb-false}
use Rattle.std.proofs.Math.Seq.{take-append_seam, drop-append_seam}
use Rattle.std.proofs.lemmas.List.{append-nil, take-append-drop, drop-drop}
use Rattle.std.proofs.lemmas.List.Elements.{All-append, All-head, All-tail}
use Rattle.std.proofs.lemmas.List.Splits.{slice_split_none, slice_split_at, slice_split-cons_no, length-slice_split}
use Rattle.net_io.specs.file_window.Window.{IsFrom}
use Rattle.netlabel_report.specs.declared.report_telling.way.Manner.{Manner}
use Rattle.netlabel_report.specs.report_telling.Taking.{Standing}
use Rattle.netlabel_report.specs.Course.{Course, at_fault, most_line, parts_of, ended, kind_course, line_course, last_course, lines_course}
use Rattle.netlabel_report.specs.inside.Telling.{IsGathered, IsNextLine, IsReadOn, MovesOn, last_part, part_read}

-- octets that end no line
abbrev NoEnd : List ℕ → Type 0
NoEnd octets = All (λ c. (c == 10) ≡ false) octets

-- ---- a window of a file

module _ (file : List ℕ) (at : ℕ) where
  behind : (front rest : List ℕ) → drop at file ≡ front ++ rest → drop (at + length front) file ≡ rest
  behind front rest is = sym (drop-drop (length front) at file) ∙ ap (drop (length front)) is ∙ drop-append_seam front rest

  from_behind : (front window rest : List ℕ) → drop at file ≡ front ++ (window ++ rest) → IsFrom file (at + length front) window
  from_behind front window rest is = ap (take (length window)) (behind front (window ++ rest) is) ∙ take-append_seam window rest

  whole : (window : List ℕ) → IsFrom file at window → drop at file ≡ window ++ drop (length window) (drop at file)
  whole window is = sym (take-append-drop (length window) (drop at file)) ∙ ap (λ t. t ++ drop (length window) (drop at file)) is

  module _ (at' : ℕ) (window window' line line' : List ℕ) where
    -- the line's end was passed
    gathers_end : (g : IsGathered true at at' window window' line line') → IsFrom file at window → (drop at file ≡ g.taken ++ 10 ∷ drop at' file) × IsFrom file at' window'
    gathers_end g from =
        let rest = drop (length window) (drop at file) in
        let all = g.all refl in
        let front = g.taken ++ 10 ∷ [] in
        let is : drop at file ≡ front ++ (window' ++ rest) =
        whole window from ∙ ap (λ w. w ++ rest) all.0 ∙ append_assoc g.taken (10 ∷ window') rest ∙ sym (append_assoc g.taken (10 ∷ []) (window' ++ rest)) in
        let place : at + length front ≡ at' = omega (arith, all.1, length-append g.taken (10 ∷ [])) in
        let there : drop at' file ≡ window' ++ rest = ap (λ k. drop k file) (sym place) ∙ behind front (window' ++ rest) is in (
          is ∙ append_assoc g.taken (10 ∷ []) (window' ++ rest) ∙ ap (λ t. g.taken ++ 10 ∷ t) (sym there),
          subst (λ (k : ℕ). IsFrom file k window') place (from_behind front window' rest is),
        )

    -- or all of the window was taken
    gathers_all : (g : IsGathered false at at' window window' line line') → IsFrom file at window → (drop at file ≡ g.taken ++ drop at' file) × IsFrom file at' window'
    gathers_all g from =
        let rest = drop (length window) (drop at file) in
        let part = g.part refl in
        let is : drop at file ≡ g.taken ++ rest = whole window from ∙ ap (λ w. w ++ rest) part.0 in
        let there : drop at' file ≡ rest = ap (λ k. drop k file) part.2 ∙ behind g.taken rest is in
        (is ∙ ap (λ t. g.taken ++ t) (sym there), subst (IsFrom file at') (sym part.1) refl)

-- ---- the front of a text

-- octets in front of the first part
abbrev onto : List ℕ → List (List ℕ) → List (List ℕ)
onto front [] = front ∷ []
onto front (part ∷ parts) = (front ++ part) ∷ parts

one_more : (x : ℕ) (front : List ℕ) (parts : List (List ℕ)) → onto_first x (onto front parts) ≡ onto (x ∷ front) parts
one_more x front [] = refl
one_more x front (part ∷ parts) = refl

onto_none : (parts : List (List ℕ)) → 0 < length parts → parts ≡ onto [] parts
onto_none [] some = absurd (omega (arith, some))
onto_none (part ∷ parts) some = refl

parts_some : (text : List ℕ) → 0 < length (parts_of text)
parts_some text = omega (arith, length-slice_split (λ c. c == 10) text)

parts_behind : (front text : List ℕ) → NoEnd front → parts_of (front ++ text) ≡ onto front (parts_of text)
parts_behind [] text none = onto_none (parts_of text) (parts_some text)
parts_behind (x ∷ front) text none =
    slice_split-cons_no (λ c. c == 10) x (front ++ text) (All-head (λ c. (c == 10) ≡ false) x front none)
    ∙ ap (onto_first x) (parts_behind front text (All-tail (λ c. (c == 10) ≡ false) x front none))
    ∙ one_more x front (parts_of text)

module _ (manner : Manner) (s : Standing) where
  long_last : (line : List ℕ) → most_line < length line → last_course line s ≡ ended (at_fault most_line) s
  long_last [] long = absurd (omega (arith, long))
  long_last (octet ∷ octets) long = rw (lt-ltb most_line (length (octet ∷ octets)) long) refl

  long_onto : (front : List ℕ) (parts : List (List ℕ)) → most_line < length front → lines_course manner (onto front parts) s ≡ ended (at_fault most_line) s
  long_onto front [] long = long_last front long
  long_onto front (part ∷ []) long = long_last (front ++ part) (omega (arith, long, length-append front part))
  long_onto front (part ∷ next ∷ parts) long = rw (lt-ltb most_line (length (front ++ part)) (omega (arith, long, length-append front part))) refl

  -- a line of too many octets
  pub too_long : (front text : List ℕ) → NoEnd front → most_line < length front → lines_course manner (parts_of (front ++ text)) s ≡ ended (at_fault most_line) s
  too_long front text none long = ap (λ parts. lines_course manner parts s) (parts_behind front text none) ∙ long_onto front (parts_of text) long

  by_line : (line : List ℕ) (parts : List (List ℕ)) → 0 < length parts → lines_course manner (line ∷ parts) s ≡ line_course manner line s (lines_course manner parts)
  by_line line [] some = absurd (omega (arith, some))
  by_line line (next ∷ parts) some = refl

  short_line : (line : List ℕ) (next : Standing → Course) → length line ≤ most_line → line_course manner line s next ≡ kind_course manner line s next
  short_line line next short = rw (le-ltb most_line (length line) short) refl

  -- a line in front of the rest
  pub one_line : (line text : List ℕ) → NoEnd line → length line ≤ most_line → lines_course manner (parts_of (line ++ 10 ∷ text)) s ≡ kind_course manner line s (lines_course manner (parts_of text))
  one_line line text none short =
      ap (λ parts. lines_course manner parts s) (slice_split_at (λ c. c == 10) line 10 text none refl)
      ∙ by_line line (parts_of text) (parts_some text)
      ∙ short_line line (lines_course manner (parts_of text)) short

  -- the last part
  pub one_part : (line : List ℕ) → NoEnd line → lines_course manner (parts_of line) s ≡ last_course line s
  one_part line none = ap (λ parts. lines_course manner parts s) (slice_split_none (λ c. c == 10) line none)

  short_last : (octet : ℕ) (octets : List ℕ) → length (octet ∷ octets) ≤ most_line → last_course (octet ∷ octets) s ≡ ended (at_fault (length (octet ∷ octets))) s
  short_last octet octets short = rw (le-ltb most_line (length (octet ∷ octets)) short) refl

-- ---- what a turn has read

pub reads_last : (line rest : List ℕ) → NoEnd line → length line ≤ most_line → IsNextLine (last_part line) line line rest
reads_last [] rest none short = λ manner s. one_part manner s [] none
reads_last (octet ∷ octets) rest none short = λ manner s. one_part manner s (octet ∷ octets) none ∙ short_last manner s octet octets short

pub reads_nothing : (line rest rest' : List ℕ) → NoEnd line → length line ≤ most_line → rest ≡ [] → IsReadOn (Some (last_part line)) (line ++ rest) line rest'
reads_nothing line rest rest' none short empty =
    subst (λ (t : List ℕ). IsNextLine (last_part line) t line rest') (sym (ap (λ r. line ++ r) empty ∙ append-nil line)) (reads_last line rest' none short)

none_more : (line taken line' : List ℕ) → NoEnd line → NoEnd taken → line' ≡ line ++ taken → NoEnd line'
none_more line taken line' none more is = subst NoEnd (sym is) (All-append (λ c. (c == 10) ≡ false) line taken none more)

module _ (file : List ℕ) (at at' : ℕ) (window window' line line' : List ℕ) (none : NoEnd line) where
  text_behind : (taken rest : List ℕ) → line' ≡ line ++ taken → drop at file ≡ taken ++ rest → line ++ drop at file ≡ line' ++ rest
  text_behind taken rest moved is = ap (λ t. line ++ t) is ∙ sym (append_assoc line taken rest) ∙ ap (λ t. t ++ rest) (sym moved)

  reads_end : IsGathered true at at' window window' line line' → IsFrom file at window → IsReadOn (part_read true (length line')) (line ++ drop at file) line' (drop at' file)
  reads_end g from =
      let there = (gathers_end file at at' window window' line line' g from).0 in
      let free = none_more line g.taken line' none g.none g.moved in
      let is = text_behind g.taken (10 ∷ drop at' file) g.moved there in
      elim (nat_lt most_line (length line')) as (λ b. nat_lt most_line (length line') ≡ b → IsReadOn (part_read true (length line')) (line ++ drop at file) line' (drop at' file)) [
        | true ↦ λ e. rw e (λ manner s. ap (λ t. lines_course manner (parts_of t) s) is ∙ too_long manner s line' (10 ∷ drop at' file) free (ltb-true most_line (length line') e))
        | false ↦ λ e. rw e (λ manner s. ap (λ t. lines_course manner (parts_of t) s) is ∙ one_line manner s line' (drop at' file) free (ltb-false most_line (length line') e))
      ] refl

  reads_part : IsGathered false at at' window window' line line' → IsFrom file at window → IsReadOn (part_read false (length line')) (line ++ drop at file) line' (drop at' file)
  reads_part g from =
      let there = (gathers_all file at at' window window' line line' g from).0 in
      let free = none_more line g.taken line' none g.none g.moved in
      let is = text_behind g.taken (drop at' file) g.moved there in
      elim (nat_lt most_line (length line')) as (λ b. nat_lt most_line (length line') ≡ b → IsReadOn (part_read false (length line')) (line ++ drop at file) line' (drop at' file)) [
        | true ↦ λ e. rw e (λ manner s. ap (λ t. lines_course manner (parts_of t) s) is ∙ too_long manner s line' (drop at' file) free (ltb-true most_line (length line') e))
        | false ↦ λ e. rw e is
      ] refl

  moves_end : IsGathered true at at' window window' line line' → MovesOn (part_read true (length line')) at at' line line'
  moves_end g =
      let all = g.all refl in
      elim (nat_lt most_line (length line')) as (λ b. nat_lt most_line (length line') ≡ b → MovesOn (part_read true (length line')) at at' line line') [
        | true ↦ λ e. rw e tt
        | false ↦ λ e. rw e (omega (arith, all.1))
      ] refl

  moves_part : IsGathered false at at' window window' line line' → 0 < length window → MovesOn (part_read false (length line')) at at' line line'
  moves_part g some =
      let part = g.part refl in
      let taken : length g.taken ≡ length window = ap length (sym part.0) in
      let more : length line' ≡ length line + length g.taken = ap length g.moved ∙ length-append line g.taken in
      elim (nat_lt most_line (length line')) as (λ b. nat_lt most_line (length line') ≡ b → MovesOn (part_read false (length line')) at at' line line') [
        | true ↦ λ e. rw e tt
        | false ↦ λ e. rw e (omega (arith, part.2, some, taken), omega (arith, some, taken, more), ltb-false most_line (length line') e, none_more line g.taken line' none g.none g.moved)
      ] refl

  pub from_on : (ended : Bool) → IsGathered ended at at' window window' line line' → IsFrom file at window → IsFrom file at' window'
  from_on true g from = (gathers_end file at at' window window' line line' g from).1
  from_on false g from = (gathers_all file at at' window window' line line' g from).1

  pub reads_on : (ended : Bool) → IsGathered ended at at' window window' line line' → IsFrom file at window → IsReadOn (part_read ended (length line')) (line ++ drop at file) line' (drop at' file)
  reads_on true = reads_end
  reads_on false = reads_part

  pub moves_on : (ended : Bool) → IsGathered ended at at' window window' line line' → 0 < length window → MovesOn (part_read ended (length line')) at at' line line'
  moves_on true g some = moves_end g
  moves_on false g some = moves_part g some
