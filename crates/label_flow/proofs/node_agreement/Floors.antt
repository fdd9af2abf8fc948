-- The lowest DOI of a table that isn't below a number.
use Rattle.std.proofs.Common.{◌≡◌, ℕ, ◌<◌, ◌≤◌, Bool, true, false, nat_eq, [], ◌∷◌, length, Option, Some, None, IfSome, IfNone, refl, sym, subst, arith}
use Rattle.std.specs.List.{AllByRecursion, AllWithin}
use Rattle.std.proofs.lemmas.Bool.{and_parts, false≢true}
use Rattle.std.proofs.lemmas.Map.{lookup-none}
use Rattle.std.proofs.lemmas.Map.Views.{exact_unsigned_eq}
use Rattle.std.proofs.lemmas.List.Elements.{All-from_all_within, recursion_from_All}
use Rattle.mls_label.specs.declared.label.Proto.{Proto}
use Rattle.mls_label.specs.declared.label.Proto.TheVariants.{Cipso, Calipso}
use Rattle.doi_table.specs.declared.plan.DoiPlan.{DoiPlan}
use Rattle.doi_table.specs.Table.{Entries, same_proto, same_doi, definition_of}
use Rattle.label_flow.specs.node_agreement.inside.Found.{IsFloor}

-- the entry is of the other protocol, or its DOI isn't below what was found
abbrev pub IsPassed : Proto → ℕ → Option ℕ → (Proto × ℕ) × DoiPlan → Type 0
IsPassed proto from lowest e = e.0.0 ≡ proto → IsFloor from lowest e.0.1

same_proto_is : (a b : Proto) → same_proto a b ≡ true → a ≡ b
same_proto_is Cipso Cipso h = refl
same_proto_is Cipso Calipso h = absurd (false≢true h)
same_proto_is Calipso Cipso h = absurd (false≢true h)
same_proto_is Calipso Calipso h = refl

-- a DOI that no entry of the protocol has isn't defined
undefined : (proto : Proto) (n : ℕ) (entries : Entries) → AllByRecursion (λ (e : (Proto × ℕ) × DoiPlan). e.0.0 ≡ proto → e.0.1 ≡ n → ⊥) entries → definition_of entries proto n ≡ None
undefined proto n entries all = lookup-none (same_doi (proto, n)) entries (each entries all)
  where
    other : (name : Proto × ℕ) → (name.0 ≡ proto → name.1 ≡ n → ⊥) → (b : Bool) → same_doi (proto, n) name ≡ b → b ≡ false
    other name never false e = refl
    other name never true e =
        let parts = and_parts (same_proto proto name.0) (nat_eq n name.1) e in
        absurd (never (sym (same_proto_is proto name.0 parts.0)) (sym (exact_unsigned_eq n name.1 parts.1)))

    each : (es : Entries) → AllByRecursion (λ (e : (Proto × ℕ) × DoiPlan). e.0.0 ≡ proto → e.0.1 ≡ n → ⊥) es → AllByRecursion (λ (e : (Proto × ℕ) × DoiPlan). same_doi (proto, n) e.0 ≡ false) es
    each [] all = tt
    each (e ∷ es) all = (other e.0 all.0 (same_doi (proto, n) e.0) refl, each es all.1)

passed_all : (proto : Proto) (from : ℕ) (lowest : Option ℕ) (n : ℕ) → (IsFloor from lowest n → ⊥) → (es : Entries) → AllByRecursion (IsPassed proto from lowest) es → AllByRecursion (λ (e : (Proto × ℕ) × DoiPlan). e.0.0 ≡ proto → e.0.1 ≡ n → ⊥) es
passed_all proto from lowest n below [] all = tt
passed_all proto from lowest n below (e ∷ es) all =
    (λ p q. below (subst (IsFloor from lowest) q (all.0 p)), passed_all proto from lowest n below es all.1)

-- what is below what was found isn't defined
pub below_lowest : (proto : Proto) (from : ℕ) (lowest : Option ℕ) (entries : Entries) (n : ℕ) → AllWithin (IsPassed proto from lowest) entries 0 (length entries) → (IsFloor from lowest n → ⊥) → definition_of entries proto n ≡ None
below_lowest proto from lowest entries n passed below =
    undefined proto n entries (passed_all proto from lowest n below entries (recursion_from_All (IsPassed proto from lowest) entries (All-from_all_within (IsPassed proto from lowest) entries passed)))

pub lowest_is : (proto : Proto) (from : ℕ) (lowest : Option ℕ) (entries : Entries) → AllWithin (IsPassed proto from lowest) entries 0 (length entries) → IfSome lowest (λ doi. (n : ℕ) → from ≤ n → n < doi → definition_of entries proto n ≡ None)
lowest_is proto from None entries passed = tt
lowest_is proto from (Some low) entries passed =
    λ n ge lt. below_lowest proto from (Some low) entries n passed (λ floor. omega (arith, floor ge, lt))

pub none_is : (proto : Proto) (from : ℕ) (lowest : Option ℕ) (entries : Entries) → AllWithin (IsPassed proto from lowest) entries 0 (length entries) → IfNone lowest ((n : ℕ) → from ≤ n → definition_of entries proto n ≡ None)
none_is proto from None entries passed = λ n ge. below_lowest proto from None entries n passed (λ floor. floor ge)
none_is proto from (Some low) entries passed = tt
