-- Where a file stands in a list of files, and what the list holds after a change there.
use Rattle.std.proofs.Common.{◌≡◌, ◌≢◌, ◌<◌, ℕ, zero, suc, Bool, true, false, List, [], ◌∷◌, ◌++◌, length, get_or, set, Option, Some, None, refl, sym, ◌∙◌, ap, arith, bytes_eq, string_bytes}
use Rattle.std.specs.Bool.{if◌then◌else◌}
use Rattle.std.proofs.lemmas.Slice.Eq.{bytes_eq-Decides}
use Rattle.net_io.specs.Folder.{held_in}
use Rattle.net_io.specs.inside.Place.{IsElsewhere, IsPlaceOf}
use Rattle.net_io.specs.Depot.{SameHeld, NowHolds}
use Rattle.net_io.specs.declared.folder.NamedFile.{NamedFile}

same_name : (a b : List ℕ) → a ≡ b → bytes_eq a b ≡ true
same_name a b same = (bytes_eq-Decides a b).1 same

pub other_name : (a b : List ℕ) → a ≢ b → bytes_eq a b ≡ false
other_name a b other = told (bytes_eq a b) (bytes_eq-Decides a b).0
  where
    told : (r : Bool) → (r ≡ true → a ≡ b) → r ≡ false
    told true same = absurd (other (same refl))
    told false same = refl

-- one file more that hasn't the name
pub elsewhere_more : (files : List NamedFile) (name : List ℕ) (file : NamedFile) → IsElsewhere files name
    → bytes_eq (string_bytes file.name) name ≡ false → IsElsewhere (files ++ file ∷ []) name
elsewhere_more [] name file none other = (other, tt)
elsewhere_more (first ∷ files) name file none other = (none.0, elsewhere_more files name file none.1 other)

-- a name that no file has is absent
pub held_in-elsewhere : (files : List NamedFile) (name : List ℕ) → IsElsewhere files name → held_in files name ≡ None
held_in-elsewhere [] name none = refl
held_in-elsewhere (file ∷ files) name none = rw none.0 (held_in-elsewhere files name none.1)

-- the place in the files behind the first
later : (first : NamedFile) (files : List NamedFile) (name : List ℕ) (place : ℕ) → IsPlaceOf (first ∷ files) name (suc place) → IsPlaceOf files name place
later first files name place at = record { within = omega (arith, at.within); before = at.before.1; here = at.here }

-- what stands at a name's place is what it holds
pub held_in-place : (files : List NamedFile) (name : List ℕ) (place : ℕ) (file : NamedFile) → IsPlaceOf files name place
    → file ≡ get_or files place file → held_in files name ≡ Some file.octets.items
held_in-place [] name place file at is = absurd (omega (arith, at.within))
held_in-place (first ∷ files) name zero file at is =
    let same : bytes_eq (string_bytes first.name) name ≡ true = same_name (string_bytes first.name) name (at.here first refl) in
    rw same (ap (λ (f : NamedFile). Some f.octets.items) (sym is))
held_in-place (first ∷ files) name (suc place) file at is =
    rw at.before.0 (held_in-place files name place file (later first files name place at) is)

held_in-set-here : (files : List NamedFile) (name : List ℕ) (place : ℕ) (new : NamedFile) → IsPlaceOf files name place
    → string_bytes new.name ≡ name → held_in (set files place new) name ≡ Some new.octets.items
held_in-set-here [] name place new at named = absurd (omega (arith, at.within))
held_in-set-here (first ∷ files) name zero new at named =
    let same : bytes_eq (string_bytes new.name) name ≡ true = same_name (string_bytes new.name) name named in
    rw same refl
held_in-set-here (first ∷ files) name (suc place) new at named =
    rw at.before.0 (held_in-set-here files name place new (later first files name place at) named)

held_in-set-elsewhere : (files : List NamedFile) (name : List ℕ) (place : ℕ) (new : NamedFile) → IsPlaceOf files name place
    → string_bytes new.name ≡ name → (other : List ℕ) → other ≢ name → held_in (set files place new) other ≡ held_in files other
held_in-set-elsewhere [] name place new at named other not_it = absurd (omega (arith, at.within))
held_in-set-elsewhere (first ∷ files) name zero new at named other not_it =
    let new_not : bytes_eq (string_bytes new.name) other ≡ false = other_name (string_bytes new.name) other (λ e. not_it (sym e ∙ named)) in
    let first_not : bytes_eq (string_bytes first.name) other ≡ false = other_name (string_bytes first.name) other (λ e. not_it (sym e ∙ at.here first refl)) in
    rw (new_not, first_not) refl
held_in-set-elsewhere (first ∷ files) name (suc place) new at named other not_it =
    ap (λ rest. if bytes_eq (string_bytes first.name) other then Some first.octets.items else rest)
    (held_in-set-elsewhere files name place new (later first files name place at) named other not_it)

-- other octets at a name's place are what it holds then
pub holds-set : (files : List NamedFile) (name : List ℕ) (place : ℕ) (new : NamedFile) → IsPlaceOf files name place
    → string_bytes new.name ≡ name → NowHolds name new.octets.items (held_in files) (held_in (set files place new))
holds-set files name place new at named = record {
  here = held_in-set-here files name place new at named;
  elsewhere = held_in-set-elsewhere files name place new at named;
}

-- what is found behind a file that isn't the one
behind : (is : Bool) (octets : List ℕ) (old new found : Option (List ℕ)) → (old ≡ None → new ≡ found)
    → (if is then Some octets else old) ≡ None → (if is then Some octets else new) ≡ found
behind true octets old new found rest absent = cc
behind false octets old new found rest absent = rest absent

held_in-push-here : (files : List NamedFile) (name : List ℕ) (new : NamedFile) → held_in files name ≡ None
    → string_bytes new.name ≡ name → held_in (files ++ new ∷ []) name ≡ Some new.octets.items
held_in-push-here [] name new none named =
    let same : bytes_eq (string_bytes new.name) name ≡ true = same_name (string_bytes new.name) name named in
    rw same refl
held_in-push-here (first ∷ files) name new none named =
    behind (bytes_eq (string_bytes first.name) name) first.octets.items (held_in files name) (held_in (files ++ new ∷ []) name) (Some new.octets.items)
    (λ absent. held_in-push-here files name new absent named) none

held_in-push-elsewhere : (files : List NamedFile) (name : List ℕ) (new : NamedFile) → string_bytes new.name ≡ name
    → (other : List ℕ) → other ≢ name → held_in (files ++ new ∷ []) other ≡ held_in files other
held_in-push-elsewhere [] name new named other not_it =
    let new_not : bytes_eq (string_bytes new.name) other ≡ false = other_name (string_bytes new.name) other (λ e. not_it (sym e ∙ named)) in
    rw new_not refl
held_in-push-elsewhere (first ∷ files) name new named other not_it =
    ap (λ rest. if bytes_eq (string_bytes first.name) other then Some first.octets.items else rest)
    (held_in-push-elsewhere files name new named other not_it)

-- a file more, of a name that was absent
pub holds-push : (files : List NamedFile) (name : List ℕ) (new : NamedFile) → held_in files name ≡ None
    → string_bytes new.name ≡ name → NowHolds name new.octets.items (held_in files) (held_in (files ++ new ∷ []))
holds-push files name new none named = record {
  here = held_in-push-here files name new none named;
  elsewhere = held_in-push-elsewhere files name new named;
}

-- a file of the same name and octets at a place leaves all as it was
pub same_held-set : (files : List NamedFile) (place : ℕ) (old new : NamedFile) → place < length files → old ≡ get_or files place old
    → string_bytes new.name ≡ string_bytes old.name → new.octets.items ≡ old.octets.items → SameHeld (held_in files) (held_in (set files place new))
same_held-set [] place old new within is name octets other = absurd (omega arith)
same_held-set (first ∷ files) zero old new within is name octets other =
    ap (λ text. if bytes_eq text other then Some new.octets.items else held_in files other) (name ∙ ap (λ (f : NamedFile). string_bytes f.name) is)
    ∙ ap (λ items. if bytes_eq (string_bytes first.name) other then Some items else held_in files other) (octets ∙ ap (λ (f : NamedFile). f.octets.items) is)
same_held-set (first ∷ files) (suc place) old new within is name octets other =
    ap (λ rest. if bytes_eq (string_bytes first.name) other then Some first.octets.items else rest)
    (same_held-set files place old new (omega arith) is name octets other)
