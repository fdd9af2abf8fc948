-- How far a course was told.
use Rattle.std.proofs.Common.{◌≡◌, ℕ, Bool, List, [], ◌∷◌, ◌++◌, Option, Some, None, Result, Ok, Err, refl, sym, ap, subst, ◌∙◌, append_assoc}
use Rattle.std.specs.Prelude.{IsTrue, IsSome}
use Rattle.std.specs.List.{concat}
use Rattle.std.proofs.lemmas.Bool.{false≢true}
use Rattle.std.proofs.lemmas.List.{append-nil}
use Rattle.std.proofs.lemmas.List.Folds.{concat-append}
use Rattle.net_io.specs.Depot.{octets_of}
use Rattle.net_io.specs.Sink.{SinkState}
use Rattle.net_io.specs.declared.fault.IoFault.{IoFault}
use Rattle.net_io.specs.declared.fault.IoFault.TheVariants as io
use Rattle.call_report.specs.Printing.{HandsOn}
use Rattle.call_report.proofs.Law.{nothing_is_handed_on, texts_join}
use Rattle.netlabel_report.specs.declared.report_telling.way.Manner.{Manner}
use Rattle.netlabel_report.specs.declared.report_telling.taking.LineKind.{LineKind}
use Rattle.netlabel_report.specs.report_telling.Counts.{risen}
use Rattle.netlabel_report.specs.report_telling.Taking.{Standing, line_kind, line_text, after_line, unfinished_text}
use Rattle.netlabel_report.specs.declared.lines.NextLine.TheVariants.{Line, End}
use Rattle.netlabel_report.specs.declared.desk.TellStop.{TellStop}
use Rattle.netlabel_report.specs.declared.desk.TellStop.TheVariants.{NoReport, ReadFault, Unwritten, OutOfMemory}
use Rattle.netlabel_report.specs.Course.{at_end, at_absent, at_script, at_fault, Course, parts_of, ended, with_front, followed_by, kind_course, lines_course, closed, end_course, report_course, reports_course}
use Rattle.netlabel_report.specs.inside.Telling.{IsNextLine, read_stop, IsTaken, IsEndTaken, handed, IsRest, Tells}

-- ---- courses

module _ (next : Standing → Course) where
  pub followed_front : (pieces : List (List ℕ)) (course : Course) → followed_by (with_front pieces course) next ≡ with_front pieces (followed_by course next)
  followed_front pieces course = elim course.end as (λ end. followed_by (with_front pieces (record { pieces = course.pieces; standing = course.standing; end = end })) next ≡ with_front pieces (followed_by (record { pieces = course.pieces; standing = course.standing; end = end }) next)) [
    | at_end ↦ ap (λ ps. let c : Course = record { pieces = ps; standing = (next course.standing).standing; end = (next course.standing).end } in c) (append_assoc pieces course.pieces (next course.standing).pieces)
    | at_absent ↦ refl
    | at_script stop ↦ refl
    | at_fault octet ↦ refl
  ]

  pub followed_kind : (manner : Manner) (line : List ℕ) (s : Standing) (more : Standing → Course) → followed_by (kind_course manner line s more) next ≡ kind_course manner line s (λ s'. followed_by (more s') next)
  followed_kind manner line s more = elim (line_kind manner.commands s.progress line) as (λ (read : Result LineKind ℕ).
      followed_by (elim read [ Err octet ↦ ended (at_fault octet) s | Ok kind ↦ with_front (line_text manner (risen s.progress.reports) kind line ∷ []) (more (after_line kind line s)) ]) next
      ≡ elim read [ Err octet ↦ ended (at_fault octet) s | Ok kind ↦ with_front (line_text manner (risen s.progress.reports) kind line ∷ []) (followed_by (more (after_line kind line s)) next) ]) [
        | Err octet ↦ refl
        | Ok kind ↦ followed_front (line_text manner (risen s.progress.reports) kind line ∷ []) (more (after_line kind line s))
      ]

front_front : (one two : List (List ℕ)) (course : Course) → with_front one (with_front two course) ≡ with_front (one ++ two) course
front_front one two course = ap (λ ps. let c : Course = record { pieces = ps; standing = course.standing; end = course.end } in c) (sym (append_assoc one two course.pieces))

pub present_course : (manner : Manner) (file : Option (List ℕ)) (s : Standing) → IsSome file → report_course manner file s ≡ followed_by (lines_course manner (parts_of (octets_of file)) s) (end_course manner)
present_course manner None s some = absurd (false≢true some)
present_course manner (Some octets) s some = refl

-- ---- on the manner

-- These pieces were handed on, and this is left.
pub record Comes (tells : Bool) (course rest : Course) (waits waits' : List ℕ) (old new : SinkState) : Type 0 where
  pub pieces : List (List ℕ)
  pub is : IsTrue tells → course ≡ with_front pieces rest
  pub hands : HandsOn {T = Unit {0}} (concat pieces) waits waits' (Ok tt) old new

nothing_on : (waits : List ℕ) (a : SinkState) → HandsOn {T = Unit {0}} [] waits waits (Ok tt) a a
nothing_on waits a = subst (λ (w : List ℕ). HandsOn {T = Unit {0}} [] waits w (Ok tt) a a) (append-nil waits) (nothing_is_handed_on [] waits tt a)

one_piece : {T : Type 0} (text waits waits' : List ℕ) (result : Result T IoFault) (a b : SinkState) → HandsOn text waits waits' result a b → HandsOn (concat (text ∷ [])) waits waits' result a b
one_piece {T} text waits waits' result a b hands = subst (λ (t : List ℕ). HandsOn {T = T} t waits waits' result a b) (sym (append-nil text)) hands

module _ (tells : Bool) where
  pub comes_start : (course rest : Course) (waits : List ℕ) (a : SinkState) → (IsTrue tells → course ≡ rest) → Comes tells course rest waits waits a a
  comes_start course rest waits a is = record { pieces = []; is = is; hands = nothing_on waits a }

  module _ (course rest : Course) (waits mid : List ℕ) (a b : SinkState) (come : Comes tells course rest waits mid a b) where
    pub comes_as : (rest' : Course) → (IsTrue tells → rest ≡ rest') → Comes tells course rest' waits mid a b
    comes_as rest' same = record { pieces = come.pieces; is = λ told. come.is told ∙ ap (with_front come.pieces) (same told); hands = come.hands }

    pub comes_on : (next : Course) (waits' : List ℕ) (c : SinkState) → Comes tells rest next mid waits' b c → Comes tells course next waits waits' a c
    comes_on next waits' c more = record {
      pieces = come.pieces ++ more.pieces;
      is = λ told. come.is told ∙ ap (with_front come.pieces) (more.is told) ∙ front_front come.pieces more.pieces next;
      hands = subst (λ (t : List ℕ). HandsOn {T = Unit {0}} t waits waits' (Ok tt) a c) (sym (concat-append come.pieces more.pieces))
          (texts_join (concat come.pieces) (concat more.pieces) waits mid waits' tt (Ok tt) a b c come.hands more.hands);
    }

    pub comes_told : (s : Standing) (waits' : List ℕ) (result : Result (Unit {0}) TellStop) (c : SinkState) → Tells tells rest s mid waits' result b c → Tells tells course s waits waits' result a c
    comes_told s waits' result c more = record {
      pieces = come.pieces ++ more.pieces;
      rest = more.rest;
      still = more.still;
      is = λ told. come.is told ∙ ap (with_front come.pieces) (more.is told) ∙ front_front come.pieces more.pieces more.rest;
      end = more.end;
      hands = subst (λ (t : List ℕ). HandsOn {T = Unit {0}} t waits more.still (handed result) a c) (sym (concat-append come.pieces more.pieces))
          (texts_join (concat come.pieces) (concat more.pieces) waits mid more.still tt (handed result) a b c come.hands more.hands);
      kept = more.kept;
    }

  -- ---- stops

  pub stops : (course : Course) (s : Standing) (waits waits' : List ℕ) (a : SinkState) → Tells tells course s waits waits' (Err OutOfMemory) a a
  stops course s waits waits' a = record { pieces = []; rest = course; still = waits; is = λ told. refl; end = λ told. tt; hands = nothing_on waits a; kept = λ other. absurd (other refl) }

  pub stops_unread : (fault : IoFault) (course : Course) (s : Standing) (waits : List ℕ) (a : SinkState) → Tells tells course s waits waits (Err (read_stop fault)) a a
  stops_unread io.Failed course s waits a = record { pieces = []; rest = course; still = waits; is = λ told. refl; end = λ told. tt; hands = nothing_on waits a; kept = λ other. refl }
  stops_unread io.OutOfMemory course s waits a = stops course s waits waits a

  pub stops_broken : (course : Course) (octet : ℕ) (s : Standing) (waits : List ℕ) (a : SinkState) → (IsTrue tells → course ≡ ended (at_fault octet) s) → Tells tells course s waits waits (Err (NoReport octet)) a a
  stops_broken course octet s waits a is = record { pieces = []; rest = course; still = waits; is = λ told. refl; end = is; hands = nothing_on waits a; kept = λ other. refl }

  pub told_nothing : (s : Standing) (waits : List ℕ) (a : SinkState) → Tells tells (ended at_end s) s waits waits (Ok tt) a a
  told_nothing s waits a = record { pieces = []; rest = ended at_end s; still = waits; is = λ told. refl; end = λ told. refl; hands = nothing_on waits a; kept = λ other. refl }

  -- ---- a line

  module _ (manner : Manner) (line : List ℕ) (s s' : Standing) (next : Standing → Course) (waits waits' : List ℕ) (a b : SinkState) where
    kind_ok : (kind : LineKind) → line_kind manner.commands s.progress line ≡ Ok kind → kind_course manner line s next ≡ with_front (line_text manner (risen s.progress.reports) kind line ∷ []) (next (after_line kind line s))
    kind_ok kind is = ap (λ (read : Result LineKind ℕ). elim read [ Err octet ↦ ended (at_fault octet) s | Ok kind ↦ with_front (line_text manner (risen s.progress.reports) kind line ∷ []) (next (after_line kind line s)) ]) is

    kind_err : (octet : ℕ) → line_kind manner.commands s.progress line ≡ Err octet → kind_course manner line s next ≡ ended (at_fault octet) s
    kind_err octet is = ap (λ (read : Result LineKind ℕ). elim read [ Err octet ↦ ended (at_fault octet) s | Ok kind ↦ with_front (line_text manner (risen s.progress.reports) kind line ∷ []) (next (after_line kind line s)) ]) is

    pub takes_line : (x : Unit {0}) → IsTaken {T = Unit {0}} manner line s s' waits waits' (Ok x) a b → Comes tells (kind_course manner line s next) (next s') waits waits' a b
    takes_line x taken = record {
      pieces = line_text manner (risen s.progress.reports) taken.0 line ∷ [];
      is = λ told. kind_ok taken.0 taken.1 ∙ ap (λ (st : Standing). with_front (line_text manner (risen s.progress.reports) taken.0 line ∷ []) (next st)) (sym taken.2);
      hands = one_piece (line_text manner (risen s.progress.reports) taken.0 line) waits waits' (Ok tt) a b taken.3;
    }

    pub refuses_line : (stop : TellStop) → IsTaken {T = Unit {0}} manner line s s' waits waits' (Err stop) a b → Tells tells (kind_course manner line s next) s' waits waits' (Err stop) a b
    refuses_line (NoReport octet) taken =
        subst (λ (w : List ℕ). Tells tells (kind_course manner line s next) s' waits w (Err (NoReport octet)) a b) (sym taken.2)
        (subst (λ (x : SinkState). Tells tells (kind_course manner line s next) s' waits waits (Err (NoReport octet)) a x) (sym taken.3)
        (stops_broken (kind_course manner line s next) octet s' waits a (λ told. kind_err octet taken.0 ∙ ap (ended (at_fault octet)) (sym taken.1))))
    refuses_line ReadFault taken = absurd taken
    refuses_line (Unwritten fault) taken = record {
      pieces = line_text manner (risen s.progress.reports) taken.0 line ∷ [];
      rest = next (after_line taken.0 line s);
      still = waits';
      is = λ told. kind_ok taken.0 taken.1;
      end = λ told. tt;
      hands = one_piece (line_text manner (risen s.progress.reports) taken.0 line) waits waits' (Err fault) a b taken.2;
      kept = λ other. refl;
    }
    refuses_line OutOfMemory taken = subst (λ (x : SinkState). Tells tells (kind_course manner line s next) s' waits waits' (Err OutOfMemory) a x) (sym taken) (stops (kind_course manner line s next) s' waits waits' a)

  -- ---- a report's end

  pub takes_end : (manner : Manner) (s s' : Standing) (waits waits' : List ℕ) (a b : SinkState) (result : Result (Unit {0}) TellStop) → IsEndTaken {T = Unit {0}} manner s s' waits waits' result a b
      → Tells tells (end_course manner s) s' waits waits' result a b
  takes_end manner s s' waits waits' a b (Ok x) taken = record {
    pieces = unfinished_text manner.way (risen s.progress.reports) s.progress.finished ∷ [];
    rest = ended at_end (closed s);
    still = waits';
    is = λ told. refl;
    end = λ told. ap (ended at_end) (sym taken.0);
    hands = one_piece (unfinished_text manner.way (risen s.progress.reports) s.progress.finished) waits waits' (Ok x) a b taken.1;
    kept = λ other. refl;
  }
  takes_end manner s s' waits waits' a b (Err (NoReport octet)) taken = absurd taken
  takes_end manner s s' waits waits' a b (Err ReadFault) taken = absurd taken
  takes_end manner s s' waits waits' a b (Err (Unwritten fault)) taken = record {
    pieces = unfinished_text manner.way (risen s.progress.reports) s.progress.finished ∷ [];
    rest = ended at_end (closed s);
    still = waits';
    is = λ told. refl;
    end = λ told. tt;
    hands = one_piece (unfinished_text manner.way (risen s.progress.reports) s.progress.finished) waits waits' (Err fault) a b taken;
    kept = λ other. refl;
  }
  takes_end manner s s' waits waits' a b (Err OutOfMemory) taken = subst (λ (x : SinkState). Tells tells (end_course manner s) s' waits waits' (Err OutOfMemory) a x) (sym taken) (stops (end_course manner s) s' waits waits' a)

  -- ---- one course behind another

  module _ (course : Course) (next : Standing → Course) (s : Standing) (waits waits' : List ℕ) (a b : SinkState) where
    pub tells_then : (x : Unit {0}) → Tells tells course s waits waits' (Ok x) a b → Comes tells (followed_by course next) (next s) waits waits' a b
    tells_then x told = record {
      pieces = told.pieces;
      is = λ t. ap (λ c. followed_by c next) (told.is t ∙ ap (with_front told.pieces) (told.end t)) ∙ followed_front next told.pieces (ended at_end s);
      hands = subst (λ (w : List ℕ). HandsOn {T = Unit {0}} (concat told.pieces) waits w (Ok tt) a b) (told.kept (λ e. absurd cc)) told.hands;
    }

    rest_stops : (stop : TellStop) (rest : Course) → IsRest {T = Unit {0}} (Err stop) s rest → IsRest {T = Unit {0}} (Err stop) s (followed_by rest next)
    rest_stops (NoReport octet) rest is = ap (λ c. followed_by c next) is
    rest_stops ReadFault rest is = tt
    rest_stops (Unwritten fault) rest is = tt
    rest_stops OutOfMemory rest is = tt

    pub tells_stops : (stop : TellStop) → Tells tells course s waits waits' (Err stop) a b → Tells tells (followed_by course next) s waits waits' (Err stop) a b
    tells_stops stop told = record {
      pieces = told.pieces;
      rest = followed_by told.rest next;
      still = told.still;
      is = λ t. ap (λ c. followed_by c next) (told.is t) ∙ followed_front next told.pieces told.rest;
      end = λ t. rest_stops stop told.rest (told.end t);
      hands = told.hands;
      kept = told.kept;
    }

  -- ---- a turn

  module _ (course : Course) (manner : Manner) (text line : List ℕ) (s : Standing) (waits mid : List ℕ) (a b : SinkState)
      (come : Comes tells course (followed_by (lines_course manner (parts_of text) s) (end_course manner)) waits mid a b) where
    -- what is left, by its first line
    module _ (rest : List ℕ) (reads : IsTrue tells → IsNextLine Line text line rest) where
      left : Standing → Course
      left s' = followed_by (lines_course manner (parts_of rest) s') (end_course manner)

      by_kind : Comes tells course (kind_course manner line s left) waits mid a b
      unfolding left
      by_kind = comes_as course (followed_by (lines_course manner (parts_of text) s) (end_course manner)) waits mid a b come (kind_course manner line s left)
          (λ told. ap (λ c. followed_by c (end_course manner)) (reads told manner s) ∙ followed_kind (end_course manner) manner line s (lines_course manner (parts_of rest)))

      pub turns : (s' : Standing) (waits' : List ℕ) (x : Unit {0}) (c : SinkState) → IsTaken {T = Unit {0}} manner line s s' mid waits' (Ok x) b c
          → Comes tells course (followed_by (lines_course manner (parts_of rest) s') (end_course manner)) waits waits' a c
      unfolding left
      turns s' waits' x c taken = comes_on course (kind_course manner line s left) waits mid a b by_kind (left s') waits' c (takes_line manner line s s' left mid waits' b c x taken)

      pub turns_off : (s' : Standing) (waits' : List ℕ) (stop : TellStop) (c : SinkState) → IsTaken {T = Unit {0}} manner line s s' mid waits' (Err stop) b c → Tells tells course s' waits waits' (Err stop) a c
      turns_off s' waits' stop c taken = comes_told course (kind_course manner line s left) waits mid a b by_kind s' waits' (Err stop) c (refuses_line manner line s s' left mid waits' b c stop taken)

    pub ends_there : (rest : List ℕ) (s' : Standing) (waits' : List ℕ) (result : Result (Unit {0}) TellStop) (c : SinkState) → (IsTrue tells → IsNextLine End text line rest)
        → IsEndTaken {T = Unit {0}} manner s s' mid waits' result b c → Tells tells course s' waits waits' result a c
    ends_there rest s' waits' result c reads taken =
        comes_told course (end_course manner s) waits mid a b
        (comes_as course (followed_by (lines_course manner (parts_of text) s) (end_course manner)) waits mid a b come (end_course manner s) (λ told. ap (λ c. followed_by c (end_course manner)) (reads told manner s)))
        s' waits' result c (takes_end manner s s' mid waits' b c result taken)

-- ---- report for report

-- the same where it is said of a course that is this one
pub tells_as : (tells told : Bool) (course other : Course) (s : Standing) (waits waits' : List ℕ) (result : Result (Unit {0}) TellStop) (a b : SinkState) → (IsTrue tells → IsTrue told) → (IsTrue tells → course ≡ other)
    → Tells told other s waits waits' result a b → Tells tells course s waits waits' result a b
tells_as tells told course other s waits waits' result a b also same t = record {
  pieces = t.pieces;
  rest = t.rest;
  still = t.still;
  is = λ e. same e ∙ t.is (also e);
  end = λ e. t.end (also e);
  hands = t.hands;
  kept = t.kept;
}

module _ (tells told : Bool) (course : Course) (manner : Manner) (held now : List ℕ → Option (List ℕ)) (name : List ℕ) (names : List (List ℕ)) (s s' : Standing) (waits mid waits' : List ℕ) (a b c : SinkState)
    (come : Comes tells course (reports_course manner held (name ∷ names) s) waits mid a b) (also : told ≡ tells) (same : IsTrue tells → now name ≡ held name) where
  of_report : (result : Result (Unit {0}) TellStop) → Tells told (report_course manner (now name) s) s' mid waits' result b c → Tells tells (report_course manner (held name) s) s' mid waits' result b c
  of_report result t =
      tells_as tells told (report_course manner (held name) s) (report_course manner (now name) s) s' mid waits' result b c (λ e. subst IsTrue (sym also) e) (λ e. ap (λ file. report_course manner file s) (sym (same e))) t

  pub turns_report : (x : Unit {0}) → Tells told (report_course manner (now name) s) s' mid waits' (Ok x) b c → Comes tells course (reports_course manner held names s') waits waits' a c
  turns_report x t = comes_on tells course (reports_course manner held (name ∷ names) s) waits mid a b come (reports_course manner held names s') waits' c
      (tells_then tells (report_course manner (held name) s) (reports_course manner held names) s' mid waits' b c x (of_report (Ok x) t))

  pub stops_report : (stop : TellStop) → Tells told (report_course manner (now name) s) s' mid waits' (Err stop) b c → Tells tells course s' waits waits' (Err stop) a c
  stops_report stop t = comes_told tells course (reports_course manner held (name ∷ names) s) waits mid a b come s' waits' (Err stop) c
      (tells_stops tells (report_course manner (held name) s) (reports_course manner held names) s' mid waits' b c stop (of_report (Err stop) t))

-- one report alone
pub told_alone : (tells : Bool) (course : Course) (s : Standing) (waits waits' : List ℕ) (result : Result (Unit {0}) TellStop) (a b : SinkState) → Tells tells course s waits waits' result a b
    → Tells tells (followed_by course (ended at_end)) s waits waits' result a b
told_alone tells course s waits waits' (Ok x) a b t =
    comes_told tells (followed_by course (ended at_end)) (ended at_end s) waits waits' a b (tells_then tells course (ended at_end) s waits waits' a b x t) s waits' (Ok tt) b (told_nothing tells s waits' b)
told_alone tells course s waits waits' (Err stop) a b t = tells_stops tells course (ended at_end) s waits waits' a b stop t

-- a text in front of a course was appended to what waits
pub opens : (tells : Bool) (course : Course) (text waits : List ℕ) (a : SinkState) → Comes tells (with_front (text ∷ []) course) course waits (waits ++ text) a a
opens tells course text waits a = record { pieces = text ∷ []; is = λ told. refl; hands = one_piece text waits (waits ++ text) (Ok tt) a a (nothing_is_handed_on text waits tt a) }

pub opens_told : (tells : Bool) (course : Course) (text waits mid waits' : List ℕ) (a b : SinkState) (s : Standing) (result : Result (Unit {0}) TellStop) → mid ≡ waits ++ text → Tells tells course s mid waits' result a b
    → Tells tells (with_front (text ∷ []) course) s waits waits' result a b
opens_told tells course text waits mid waits' a b s result is t =
    comes_told tells (with_front (text ∷ []) course) course waits mid a a (subst (λ (w : List ℕ). Comes tells (with_front (text ∷ []) course) course waits w a a) (sym is) (opens tells course text waits a)) s waits' result b t
