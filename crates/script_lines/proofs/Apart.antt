-- The table: rows are apart, and keys are distinct.
use Rattle.std.proofs.Common.{◌≡◌, ℕ, Bool, true, false, ◌&&◌, List, [], ◌∷◌, All, Some, IsTrue, refl, sym, subst, codes}
use Rattle.std.specs.Str.{bytes_eq}
use Rattle.std.proofs.lemmas.Bool.{and_parts, or_cases, false≢true}
use Rattle.std.proofs.lemmas.List.Elements.{All-from_recursion, All-nil}
use Rattle.std.proofs.lemmas.Slice.Eq.{bytes_eq-Decides}
use Rattle.std.proofs.Common.{inl, inr}
use Rattle.script_lines.specs.declared.row.Row.{Row}
use Rattle.script_lines.specs.declared.row.Row.TheVariants.{CipsoAddPass, CipsoAddTrans, CalipsoAddPass, CipsoDel, CalipsoDel, CipsoList, CalipsoList, MapAdd, MapDel, MapList, AcceptOn, AcceptOff, UnlblAdd, UnlblDel, UnlblList, ReceiverAdd, ReceiverDel, RangeAdd, RangeDel, PairAdd, PairDel, MgmtVersion, MgmtProtocols, CalipsoAddTrans, Reading}
use Rattle.script_lines.specs.declared.parameter.Parameter.TheVariants.{Doi, Tags, Levels, Categories, Domain, Interface, Prefix, Protocol, Label, Address, Home, Level, Range, Four, Six, ReadingLevels, ReadingCategories}
use Rattle.script_lines.specs.declared.form.Slot.{Slot}
use Rattle.script_lines.specs.Form.{Edition, with_labels, with_ranges, with_translations, must, may, form_of, line_rows, key_text, has_default, is_key}
use Rattle.script_lines.specs.Said.{are_apart, slot_of}

pub apart : (led : Bool) (edition : Edition) → IsTrue (are_apart edition (line_rows led edition))
apart true with_labels = refl
apart true with_ranges = refl
apart true with_translations = refl
apart false with_labels = refl
apart false with_ranges = refl
apart false with_translations = refl

-- ---- keys

-- each key of the slot's parameter finds the slot
abbrev pub FindsKeys : List Slot → Slot → Type 0
FindsKeys slots slot = (key : List ℕ) → IsTrue (is_key slot.parameter key) → slot_of slots key ≡ Some slot

finds : (slots : List Slot) (slot : Slot) → slot_of slots (key_text slot.parameter) ≡ Some slot → (has_default slot.parameter ≡ true → slot_of slots (codes "default") ≡ Some slot) → FindsKeys slots slot
finds slots slot by_key by_default key is =
    let P : List ℕ → Type 0 = λ k. slot_of slots k ≡ Some slot in
    elim (or_cases (bytes_eq key (key_text slot.parameter)) (has_default slot.parameter && bytes_eq key (codes "default")) is) [
      | inl same ↦ subst P (sym ((bytes_eq-Decides key (key_text slot.parameter)).0 same)) by_key
      | inr both ↦
          let parts = and_parts (has_default slot.parameter) (bytes_eq key (codes "default")) both in
          subst P (sym ((bytes_eq-Decides key (codes "default")).0 parts.1)) (by_default parts.0)
    ]

no_default : {X : Type 0} → false ≡ true → X
no_default h = absurd (false≢true h)

none_to_find : All (FindsKeys []) []
none_to_find = All-nil (FindsKeys [])

pub keys_found : (edition : Edition) (row : Row) → All (FindsKeys (form_of edition row).slots) (form_of edition row).slots
keys_found edition CipsoAddPass = let all : List Slot = must Doi ∷ must Tags ∷ [] in All-from_recursion (FindsKeys all) all (finds all (must Doi) refl no_default, (finds all (must Tags) refl no_default, tt))
keys_found edition CipsoAddTrans = let all : List Slot = must Doi ∷ must Tags ∷ must Levels ∷ may Categories ∷ [] in All-from_recursion (FindsKeys all) all (finds all (must Doi) refl no_default, (finds all (must Tags) refl no_default, (finds all (must Levels) refl no_default, (finds all (may Categories) refl no_default, tt))))
keys_found edition CalipsoAddPass = let all : List Slot = must Doi ∷ [] in All-from_recursion (FindsKeys all) all (finds all (must Doi) refl no_default, tt)
keys_found edition CipsoDel = let all : List Slot = must Doi ∷ [] in All-from_recursion (FindsKeys all) all (finds all (must Doi) refl no_default, tt)
keys_found edition CalipsoDel = let all : List Slot = must Doi ∷ [] in All-from_recursion (FindsKeys all) all (finds all (must Doi) refl no_default, tt)
keys_found edition CipsoList = let all : List Slot = may Doi ∷ [] in All-from_recursion (FindsKeys all) all (finds all (may Doi) refl no_default, tt)
keys_found edition CalipsoList = let all : List Slot = may Doi ∷ [] in All-from_recursion (FindsKeys all) all (finds all (may Doi) refl no_default, tt)
keys_found edition MapAdd = let all : List Slot = must Domain ∷ may Prefix ∷ must Protocol ∷ [] in All-from_recursion (FindsKeys all) all (finds all (must Domain) refl (λ h. refl), (finds all (may Prefix) refl no_default, (finds all (must Protocol) refl no_default, tt)))
keys_found with_labels MapDel = let all : List Slot = must Domain ∷ [] in All-from_recursion (FindsKeys all) all (finds all (must Domain) refl (λ h. refl), tt)
keys_found with_ranges MapDel = let all : List Slot = must Domain ∷ [] in All-from_recursion (FindsKeys all) all (finds all (must Domain) refl (λ h. refl), tt)
keys_found with_translations MapDel = let all : List Slot = must Domain ∷ may Prefix ∷ [] in All-from_recursion (FindsKeys all) all (finds all (must Domain) refl (λ h. refl), (finds all (may Prefix) refl no_default, tt))
keys_found edition MapList = none_to_find
keys_found edition AcceptOn = none_to_find
keys_found edition AcceptOff = none_to_find
keys_found edition UnlblAdd = let all : List Slot = must Interface ∷ must Prefix ∷ must Label ∷ [] in All-from_recursion (FindsKeys all) all (finds all (must Interface) refl (λ h. refl), (finds all (must Prefix) refl no_default, (finds all (must Label) refl no_default, tt)))
keys_found edition UnlblDel = let all : List Slot = must Interface ∷ must Prefix ∷ [] in All-from_recursion (FindsKeys all) all (finds all (must Interface) refl (λ h. refl), (finds all (must Prefix) refl no_default, tt))
keys_found edition UnlblList = none_to_find
keys_found edition ReceiverAdd = let all : List Slot = must Address ∷ must Home ∷ must Level ∷ [] in All-from_recursion (FindsKeys all) all (finds all (must Address) refl no_default, (finds all (must Home) refl no_default, (finds all (must Level) refl no_default, tt)))
keys_found edition ReceiverDel = let all : List Slot = must Address ∷ [] in All-from_recursion (FindsKeys all) all (finds all (must Address) refl no_default, tt)
keys_found edition RangeAdd = let all : List Slot = must Interface ∷ must Range ∷ [] in All-from_recursion (FindsKeys all) all (finds all (must Interface) refl (λ h. refl), (finds all (must Range) refl no_default, tt))
keys_found edition RangeDel = let all : List Slot = must Interface ∷ [] in All-from_recursion (FindsKeys all) all (finds all (must Interface) refl (λ h. refl), tt)
keys_found edition PairAdd = let all : List Slot = must Four ∷ must Six ∷ [] in All-from_recursion (FindsKeys all) all (finds all (must Four) refl no_default, (finds all (must Six) refl no_default, tt))
keys_found edition PairDel = let all : List Slot = must Four ∷ [] in All-from_recursion (FindsKeys all) all (finds all (must Four) refl no_default, tt)
keys_found edition MgmtVersion = none_to_find
keys_found edition MgmtProtocols = none_to_find
keys_found edition CalipsoAddTrans = let all : List Slot = must Doi ∷ must Levels ∷ may Categories ∷ [] in All-from_recursion (FindsKeys all) all (finds all (must Doi) refl no_default, (finds all (must Levels) refl no_default, (finds all (may Categories) refl no_default, tt)))
keys_found edition Reading = let all : List Slot = may ReadingLevels ∷ may ReadingCategories ∷ [] in All-from_recursion (FindsKeys all) all (finds all (may ReadingLevels) refl no_default, (finds all (may ReadingCategories) refl no_default, tt))
