-- The written form, as it is appended.
use Rattle.std.proofs.Common.{◌≡◌, ℕ, ◌-◌, ◌<◌, ◌≤◌, List, [], ◌∷◌, ◌++◌, length, get_or, take, drop, map, All, Option, Some, None, Bor, refl, sym, ap, ◌∙◌, arith, append_assoc, append-nil}
use Rattle.std.specs.Prelude.{filter_map}
use Rattle.std.specs.List.{cons_option, flat_map, join_with_byte}
use Rattle.std.proofs.lemmas.List.{take_rest}
use Rattle.std.proofs.lemmas.List.Concat.{flat_map-append}
use Rattle.std.proofs.lemmas.List.Elements.{All-cons, All-same}
use Rattle.script_lines.specs.declared.row.Row.{Row}
use Rattle.script_lines.specs.declared.row.Row.TheVariants.{CipsoAddPass, CipsoAddTrans, CalipsoAddPass, CipsoDel, CalipsoDel, CipsoList, CalipsoList, MapAdd, MapDel, MapList, AcceptOn, AcceptOff, UnlblAdd, UnlblDel, UnlblList, ReceiverAdd, ReceiverDel, RangeAdd, RangeDel, PairAdd, PairDel, MgmtVersion, MgmtProtocols, CalipsoAddTrans, Reading}
use Rattle.script_lines.specs.declared.form.Slot.{Slot}
use Rattle.script_lines.specs.declared.fields.Fields.{Fields}
use Rattle.script_lines.specs.declared.command.Command.{Command}
use Rattle.script_lines.specs.Form.{with_translations, form_of}
use Rattle.script_lines.specs.Value.{word_of, IsValue}
use Rattle.script_lines.specs.Command.{said_of, command_text}
use Rattle.script_lines.specs.inside.Extends.{Extends}
use Rattle.script_lines.specs.inside.Written.{behind_space, spaced_words}

-- words, each behind a space
abbrev pub spaced : List (List ℕ) → List ℕ
spaced words = flat_map (λ word. 32 ∷ word) words

pub joined-cons : (x : List ℕ) (xs : List (List ℕ)) → join_with_byte 32 (x ∷ xs) ≡ x ++ spaced xs
joined-cons x [] = sym (append-nil x)
joined-cons x (y ∷ ys) = ap (λ t. x ++ (32 ∷ t)) (joined-cons y ys)

pub joined-append : (first more : List (List ℕ)) → 0 < length first → join_with_byte 32 (first ++ more) ≡ join_with_byte 32 first ++ spaced more
joined-append [] more some = absurd (omega arith)
joined-append (x ∷ xs) more some =
    joined-cons x (xs ++ more) ∙ ap (λ t. x ++ t) (flat_map-append (λ word. 32 ∷ word) xs more) ∙ sym (append_assoc x (spaced xs) (spaced more))
    ∙ ap (λ t. t ++ spaced more) (sym (joined-cons x xs))

-- the words that are given
abbrev pub given_words : List Slot → Fields → List (List ℕ)
given_words slots fields = filter_map (λ slot. word_of slot.parameter fields) slots

one_spaced : (word : Option (List ℕ)) (words : List (List ℕ)) → behind_space word ++ spaced words ≡ spaced (cons_option word words)
one_spaced None words = refl
one_spaced (Some word) words = refl

spaced_given : (slots : List Slot) (fields : Fields) → spaced_words slots fields ≡ spaced (given_words slots fields)
spaced_given [] fields = refl
spaced_given (slot ∷ slots) fields =
    ap (λ t. behind_space (word_of slot.parameter fields) ++ t) (spaced_given slots fields) ∙ one_spaced (word_of slot.parameter fields) (given_words slots fields)

pub some_fixed : (row : Row) → 0 < length (form_of with_translations row).fixed
some_fixed CipsoAddPass = omega arith
some_fixed CipsoAddTrans = omega arith
some_fixed CalipsoAddPass = omega arith
some_fixed CipsoDel = omega arith
some_fixed CalipsoDel = omega arith
some_fixed CipsoList = omega arith
some_fixed CalipsoList = omega arith
some_fixed MapAdd = omega arith
some_fixed MapDel = omega arith
some_fixed MapList = omega arith
some_fixed AcceptOn = omega arith
some_fixed AcceptOff = omega arith
some_fixed UnlblAdd = omega arith
some_fixed UnlblDel = omega arith
some_fixed UnlblList = omega arith
some_fixed ReceiverAdd = omega arith
some_fixed ReceiverDel = omega arith
some_fixed RangeAdd = omega arith
some_fixed RangeDel = omega arith
some_fixed PairAdd = omega arith
some_fixed PairDel = omega arith
some_fixed MgmtVersion = omega arith
some_fixed MgmtProtocols = omega arith
some_fixed CalipsoAddTrans = omega arith
some_fixed Reading = omega arith

pub command_written : (command : Command) (row : Row) (fields : Fields) (fixed : List (List ℕ)) (slots : List Slot) (old one all : List ℕ)
    → row ≡ (said_of command).row → fields ≡ (said_of command).fields → fixed ≡ (form_of with_translations row).fixed → slots ≡ (form_of with_translations row).slots
    → one ≡ old ++ join_with_byte 32 fixed → all ≡ one ++ spaced_words slots fields → all ≡ old ++ command_text command
command_written command row fields fixed slots old one all row_is fields_is fixed_is slots_is first then =
    let said = said_of command in
    let form = form_of with_translations said.row in
    let words = given_words form.slots said.fields in
    let fixed_all = fixed_is ∙ ap (λ r. (form_of with_translations r).fixed) row_is in
    let slots_all = slots_is ∙ ap (λ r. (form_of with_translations r).slots) row_is in
    then ∙ ap (λ t. t ++ spaced_words slots fields) (first ∙ ap (λ f. old ++ join_with_byte 32 f) fixed_all)
    ∙ (λ i. (old ++ join_with_byte 32 form.fixed) ++ spaced_words (slots_all i) (fields_is i))
    ∙ append_assoc old (join_with_byte 32 form.fixed) (spaced_words form.slots said.fields)
    ∙ ap (λ t. old ++ (join_with_byte 32 form.fixed ++ t)) (spaced_given form.slots said.fields)
    ∙ ap (λ t. old ++ t) (sym (joined-append form.fixed words (some_fixed said.row)))

-- ---- steps of the loops

abbrev pub behind_first : {X : Type 0} → List X → List X
behind_first xs = take (length xs - 1) (drop 1 xs)

pub words_step : (fields : Fields) (rest : List Slot) (first : Slot) (out new goal : List ℕ) → 1 ≤ length rest → new ≡ out ++ behind_space (word_of (get_or rest 0 first).parameter fields)
    → out ++ spaced_words rest fields ≡ goal → new ++ spaced_words (behind_first rest) fields ≡ goal
words_step fields [] first out new goal some written is = absurd (omega arith)
words_step fields (slot ∷ rest) first out new goal some written is =
    ap (λ ss. new ++ spaced_words ss fields) (take_rest (slot ∷ rest) 1) ∙ ap (λ t. t ++ spaced_words rest fields) written
    ∙ append_assoc out (behind_space (word_of slot.parameter fields)) (spaced_words rest fields) ∙ is

pub values_step : (fields : Fields) (rest all : List Slot) (first : Slot) → 1 ≤ length rest → IsValue (get_or rest 0 first).parameter fields
    → (All (λ slot. IsValue slot.parameter fields) rest → All (λ slot. IsValue slot.parameter fields) all)
    → All (λ slot. IsValue slot.parameter fields) (behind_first rest) → All (λ slot. IsValue slot.parameter fields) all
values_step fields [] all first some value goes others = absurd (omega arith)
values_step fields (slot ∷ rest) all first some value goes others =
    let P : Slot → Type 0 = λ s. IsValue s.parameter fields in
    goes (All-cons P slot rest value (All-same P rest (behind_first (slot ∷ rest)) (sym (take_rest (slot ∷ rest) 1)) others))

pub extends_step : (old out new more : List ℕ) → Extends old out → new ≡ out ++ more → Extends old new
extends_step old out new more e is = record { more = e.more ++ more; is = is ∙ ap (λ t. t ++ more) e.is ∙ append_assoc old e.more more }

none_left : {X : Type 0} (rest : List X) → length rest < 1 → rest ≡ []
none_left [] few = refl
none_left (x ∷ rest) few = absurd (omega arith)

abbrev texts : List (Bor (List ℕ)) → List (List ℕ)
texts fixed = map (λ word. word.now) fixed

spaced_texts : (fixed : List (Bor (List ℕ))) → flat_map (λ word. 32 ∷ word.now) fixed ≡ spaced (texts fixed)
spaced_texts [] = refl
spaced_texts (word ∷ fixed) = ap (λ t. (32 ∷ word.now) ++ t) (spaced_texts fixed)

pub fixed_written : (fixed rest : List (Bor (List ℕ))) (word : Bor (List ℕ)) (text old one all : List ℕ) → 1 ≤ length fixed → text ≡ (get_or fixed 0 word).now → one ≡ old ++ text → length rest < 1
    → all ++ flat_map (λ w. 32 ∷ w.now) rest ≡ one ++ flat_map (λ w. 32 ∷ w.now) (behind_first fixed) → all ≡ old ++ join_with_byte 32 (texts fixed)
fixed_written [] rest word text old one all some first written few is = absurd (omega arith)
fixed_written (x ∷ xs) rest word text old one all some first written few is =
    let others : List (Bor (List ℕ)) → List ℕ = flat_map (λ w. 32 ∷ w.now) in
    sym (append-nil all) ∙ ap (λ r. all ++ others r) (sym (none_left rest few)) ∙ is ∙ ap (λ r. one ++ others r) (take_rest (x ∷ xs) 1)
    ∙ ap (λ t. t ++ others xs) (written ∙ ap (λ t. old ++ t) first) ∙ append_assoc old x.now (others xs)
    ∙ ap (λ t. old ++ (x.now ++ t)) (spaced_texts xs) ∙ ap (λ t. old ++ t) (sym (joined-cons x.now (texts xs)))
