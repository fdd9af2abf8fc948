-- A folder that is read, from call to call.
use Rattle.std.proofs.Common.{◌≡◌, ℕ, Bool, true, codes, ◌≤◌, ◌-◌, List, [], ◌∷◌, length, take, drop, get_or, drop-cons, Result, Ok, Err, refl, sym, ap, subst, ◌∙◌, arith}
use Rattle.std.specs.Prelude.{◌==◌, IsTrue, String, string_bytes}
use Rattle.std.specs.declared.alloc.Global.{Global}
use Rattle.std.proofs.lemmas.Bool.Decides.{Decides-eqb}
use Rattle.std.proofs.lemmas.List.{take_rest}
use Rattle.net_io.specs.Depot.{DepotState, octets_of, OnlyReads}
use Rattle.net_io.specs.Faults.{Rose, CountsByName}
use Rattle.net_io.specs.file_window.Window.{IsFrom}
use Rattle.netlabel_report.specs.declared.lines.NextLine.{NextLine}
use Rattle.netlabel_report.specs.declared.desk.TellStop.{TellStop}
use Rattle.netlabel_report.specs.declared.desk.TellStop.TheVariants.{ReadFault}
use Rattle.netlabel_report.specs.inside.Telling.{IsNextLine, AreRead}
use Rattle.netlabel_report.specs.Names.{reports_named}
use Rattle.label_commands.specs.command_words.Words.{texts_of}

module _ {E : Type 0} (failed : E) (name : List ℕ) (a b : DepotState) where
  -- all reads so far have succeeded
  abbrev pub IsReadSoFar : Type 0
  IsReadSoFar = OnlyReads {T = Unit {0}} failed (Ok tt) name a b

  pub read_so_far : {T F : Type 0} (other : F) (x : T) → OnlyReads {T = T} {E = F} other (Ok x) name a b → IsReadSoFar
  read_so_far other x reads = record {
    told = reads.told;
    kept = reads.kept;
    reads = record { no_less = reads.reads.no_less; ok = reads.reads.ok; still = λ none. reads.reads.ok; cause = λ e. absurd cc };
    creates = reads.creates;
    appends = reads.appends;
  }

  module _ (so : IsReadSoFar) where
    pub told_still : IsTrue a.tells → IsTrue b.tells
    told_still told = subst IsTrue (sym so.told) told

    pub same_file : IsTrue a.tells → octets_of (b.held name) ≡ octets_of (a.held name)
    same_file told = ap octets_of (so.kept told name)

    pub from_here : (at : ℕ) (window : List ℕ) → (IsTrue a.tells → IsFrom (octets_of (a.held name)) at window) → IsTrue b.tells → IsFrom (octets_of (b.held name)) at window
    from_here at window from told =
        let told_a = subst IsTrue so.told told in
        subst (λ (file : List ℕ). IsFrom file at window) (sym (same_file told_a)) (from told_a)

    pub from_start : (at : ℕ) (window : List ℕ) → (IsTrue b.tells → IsFrom (octets_of (b.held name)) at window) → IsTrue a.tells → IsFrom (octets_of (a.held name)) at window
    from_start at window from told = subst (λ (file : List ℕ). IsFrom file at window) (same_file told) (from (told_still told))

    pub next_here : (next : NextLine) (at at' : ℕ) (line : List ℕ) → (IsTrue b.tells → IsNextLine next (drop at (octets_of (b.held name))) line (drop at' (octets_of (b.held name))))
        → IsTrue a.tells → IsNextLine next (drop at (octets_of (a.held name))) line (drop at' (octets_of (a.held name)))
    next_here next at at' line is told = subst (λ (file : List ℕ). IsNextLine next (drop at file) line (drop at' file)) (same_file told) (is (told_still told))

    module _ (c : DepotState) where
      counts_then : {T : Type 0} (result : Result T E) → CountsByName failed result name b.reads c.reads → CountsByName failed result name a.reads c.reads
      counts_then (Ok x) counts = record {
        no_less = λ other. omega (arith, so.reads.no_less other, counts.no_less other);
        ok = λ other. counts.ok other ∙ so.reads.ok other;
        still = λ none other. counts.ok other ∙ so.reads.ok other;
        cause = λ e. absurd cc;
      }
      counts_then (Err fault) counts = record {
        no_less = λ other. omega (arith, so.reads.no_less other, counts.no_less other);
        ok = tt;
        still = λ none other. counts.still none other ∙ so.reads.ok other;
        cause = λ e. subst (λ (n : ℕ). Rose n (c.reads name)) (so.reads.ok name) (counts.cause e);
      }

      pub reads_then : {T : Type 0} (result : Result T E) → OnlyReads {T = T} failed result name b c → OnlyReads {T = T} failed result name a c
      reads_then result reads = record {
        told = reads.told ∙ so.told;
        kept = λ told other. reads.kept (told_still told) other ∙ so.kept told other;
        reads = counts_then result reads.reads;
        creates = λ other. reads.creates other ∙ so.creates other;
        appends = λ other. reads.appends other ∙ so.appends other;
      }

pub nothing_read : {E : Type 0} (failed : E) (name : List ℕ) (a : DepotState) → OnlyReads {T = Unit {0}} failed (Ok tt) name a a
nothing_read failed name a = record {
  told = refl;
  kept = λ told other. refl;
  reads = record { no_less = λ other. omega arith; ok = λ other. refl; still = λ none other. refl; cause = λ e. absurd cc };
  creates = λ other. refl;
  appends = λ other. refl;
}

-- one report more was read
pub read_more : {T : Type 0} (names : List (List ℕ)) (name : List ℕ) (x : T) (a b c : DepotState) → AreRead {T = Unit {0}} names (Ok tt) a b → OnlyReads {T = T} ReadFault (Ok x) name b c → AreRead {T = Unit {0}} names (Ok tt) a c
read_more names name x a b c so reads = record {
  only = record {
    told = reads.told ∙ so.only.told;
    kept = λ told other. reads.kept (subst IsTrue (sym so.only.told) told) other ∙ so.only.kept told other;
    creates = λ other. reads.creates other ∙ so.only.creates other;
    appends = λ other. reads.appends other ∙ so.only.appends other;
  };
  still = λ none other. reads.reads.ok other ∙ so.still (λ e. absurd cc) other;
  cause = λ e. absurd cc;
}

-- the first of some words, and the texts of the others
pub first_word : (words : List (String Global)) (word : String Global) → 1 ≤ length words → word ≡ get_or words 0 word → texts_of words ≡ string_bytes word ∷ texts_of (take (length words - 1) (drop 1 words))
first_word words word some is =
    ap texts_of (drop-cons words 0 word (omega (arith, some)))
    ∙ ap (λ w. string_bytes w ∷ texts_of (drop 1 words)) (sym is)
    ∙ ap (λ ws. string_bytes word ∷ texts_of ws) (sym (take_rest words 1))

-- the one report of a name was read
pub one_read : (name : List ℕ) (result : Result (Unit {0}) TellStop) (a b : DepotState) → OnlyReads {T = Unit {0}} ReadFault result name a b → AreRead {T = Unit {0}} (name ∷ []) result a b
one_read name result a b reads = record {
  only = record { told = reads.told; kept = reads.kept; creates = reads.creates; appends = reads.appends };
  still = reads.reads.still;
  cause = λ e. record { front = []; name = name; behind = []; are = refl; rose = reads.reads.cause e };
}

pub none_named : (words : List (String Global)) (b : Bool) → b ≡ (length words == 0) → b ≡ true → reports_named (texts_of words) ≡ codes "/dev/stdin" ∷ []
none_named [] b is e = refl
none_named (word ∷ words) b is e = absurd (let none = (Decides-eqb (length (word ∷ words)) 0).0 (sym is ∙ e) in omega (arith, none))
