-- What a node's tables keep, as definitions and entries come and go.
use Rattle.std.proofs.Common.{◌≡◌, ℕ, ◌<◌, Bool, true, false, not, nat_eq, cond, List, [], ◌∷◌, ◌++◌, Option, Some, None, Result, Ok, Err, is_some, is_none, slice_get, refl, sym, ap, subst, ◌∙◌, inl, inr}
use Rattle.std.specs.Prelude.{IsSome}
use Rattle.std.specs.List.{AllByRecursion}
use Rattle.std.specs.Map.{lookup, remove_entry}
use Rattle.std.proofs.lemmas.Bool.{cases_Bool, and_parts, eqb-true, eq-eqb, false≢true}
use Rattle.mls_label.specs.declared.label.Proto.{Proto}
use Rattle.mls_label.specs.declared.label.Proto.TheVariants as Of
use Rattle.doi_table.specs.declared.plan.DoiPlan.{DoiPlan}
use Rattle.doi_table.specs.Table.{Entries, same_proto, same_doi, definition_of, with_definition, without_definition, add_fault}
use Rattle.domain_map.specs.address_text.Prefix.{AddressBlock}
use Rattle.domain_map.specs.declared.protocol.Protocol.{Protocol}
use Rattle.domain_map.specs.declared.protocol.Protocol.TheVariants.{Unlbl, Cipso, Calipso}
use Rattle.domain_map.specs.declared.fault.MapFault.{MapFault}
use Rattle.domain_map.specs.Protocol.{has_doi}
use Rattle.domain_map.specs.Domains.{Domain, Domains, Line, added, deleted, lines_of, names_doi_of}
use Rattle.node_tables.specs.declared.reply.Refusal.{Refusal}
use Rattle.node_tables.specs.declared.reply.Refusal.TheVariants.{DoiUnknown, DoiInUse, MapUnknown}
use Rattle.node_tables.specs.Refusal.{doi_refusal}
use Rattle.node_tables.specs.Change.{definition_added, definition_deleted, is_defined, refused_map, entry_added, or_refused, entry_deleted}
use Rattle.node_tables.specs.Coherence.{NamesDefined, IsCoherent}
use Rattle.mls_label.specs.declared.octet_grammar.memory.OutOfMemory.{OutOfMemory}
use Rattle.node_tables.specs.declared.stop.Stop.{Stop}
use Rattle.node_tables.specs.declared.stop.Stop.TheVariants as Stopped
use Rattle.node_tables.specs.inside.Turns.{Turns}
use Rattle.node_tables.specs.inside.Kept.{IsGiven, AreGiven, HasNoZero, NamesNoZero, IsKept}
use Rattle.node_tables.proofs.Names.{named_at, named_by_added, named_by_deleted}

-- ---- what changes are

pub definition_added_is : (definitions new : Entries) (proto : Proto) (doi : ℕ) (plan : DoiPlan) → definition_added definitions proto doi plan ≡ Ok new → new ≡ with_definition definitions proto doi plan
definition_added_is definitions new proto doi plan made =
    (elim (add_fault definitions proto doi plan) as (λ o. (elim o as (λ _. Result Entries Refusal) [ Some fault ↦ Err (doi_refusal fault) | None ↦ Ok (with_definition definitions proto doi plan) ]) ≡ Ok new → new ≡ with_definition definitions proto doi plan) [
      | Some fault ↦ λ h. absurd (cc)
      | None ↦ λ h. cc
    ]) made

pub definition_deleted_is : (definitions new : Entries) (domains : Domains) (proto : Proto) (doi : ℕ) → definition_deleted definitions domains proto doi ≡ Ok new
    → (names_doi_of domains proto doi ≡ false) × (new ≡ without_definition definitions proto doi)
definition_deleted_is definitions new domains proto doi made =
    let left = without_definition definitions proto doi in
    (elim (is_none (definition_of definitions proto doi)) as (λ b. cond b (Err DoiUnknown) (cond (names_doi_of domains proto doi) (Err DoiInUse) (Ok left)) ≡ Ok new → (names_doi_of domains proto doi ≡ false) × (new ≡ left)) [
      | true ↦ λ h. absurd (cc)
      | false ↦
          elim (names_doi_of domains proto doi) as (λ b. cond b (Err DoiInUse) (Ok left) ≡ Ok new → (b ≡ false) × (new ≡ left)) [
            | true ↦ λ h. absurd (cc)
            | false ↦ λ h. (refl, cc)
          ]
    ]) made

refused_map_is : (r : Result Domains MapFault) (new : Domains) → refused_map r ≡ Ok new → r ≡ Ok new
refused_map_is (Ok domains) new h = let same : domains ≡ new = cc in ap Ok same
refused_map_is (Err fault) new h = absurd (cc)

pub entry_added_is : (definitions : Entries) (domains new : Domains) (domain : Domain) (block : Option AddressBlock) (protocol : Protocol) → entry_added definitions domains domain block protocol ≡ Ok new
    → (is_defined definitions protocol ≡ true) × (added domains domain block protocol ≡ Ok new)
entry_added_is definitions domains new domain block protocol made =
    (elim (is_defined definitions protocol) as (λ b. cond b (refused_map (added domains domain block protocol)) (Err DoiUnknown) ≡ Ok new → (b ≡ true) × (added domains domain block protocol ≡ Ok new)) [
      | true ↦ λ h. (refl, refused_map_is (added domains domain block protocol) new h)
      | false ↦ λ h. absurd (cc)
    ]) made

pub or_refused_is : {X : Type 0} (o : Option X) (why : Refusal) (new : X) → or_refused o why ≡ Ok new → o ≡ Some new
or_refused_is (Some x) why new h = cc
or_refused_is None why new h = absurd (cc)

-- ---- definitions stay

still_found : {K X : Type 0} (test : K → Bool) (es : List (K × X)) (e : K × X) → is_some (lookup test es) ≡ true → is_some (lookup test (es ++ e ∷ [])) ≡ true
still_found test [] e h = absurd (false≢true h)
still_found {K} {X} test (x ∷ es) e h =
    (elim (test x.0) as (λ b. is_some (cond b (Some x.1) (lookup test es)) ≡ true → is_some (cond b (Some x.1) (lookup test (es ++ e ∷ []))) ≡ true) [
      | true ↦ λ g. refl
      | false ↦ λ g. still_found test es e g
    ]) h

pub same_proto_is : (a b : Proto) → same_proto a b ≡ true → a ≡ b
same_proto_is Of.Cipso Of.Cipso h = refl
same_proto_is Of.Cipso Of.Calipso h = absurd (false≢true h)
same_proto_is Of.Calipso Of.Cipso h = absurd (false≢true h)
same_proto_is Of.Calipso Of.Calipso h = refl

pub same_doi_is : (a b : Proto × ℕ) → same_doi a b ≡ true → a ≡ b
same_doi_is a b h =
    let parts = and_parts (same_proto a.0 b.0) (nat_eq a.1 b.1) h in
    λ i. (same_proto_is a.0 b.0 parts.0 i, eqb-true a.1 b.1 parts.1 i)

still_without : (name gone : Proto × ℕ) (es : Entries) → same_doi name gone ≡ false → is_some (lookup (same_doi name) es) ≡ true → is_some (lookup (same_doi name) (remove_entry (same_doi gone) es)) ≡ true
still_without name gone [] apart found = found
still_without name gone (e ∷ es) apart found =
    elim (cases_Bool (same_doi gone e.0)) [
      | inl there ↦
          let other : same_doi name e.0 ≡ false = elim (cases_Bool (same_doi name e.0)) [
            | inl same ↦
                let name_is = same_doi_is name e.0 same ∙ sym (same_doi_is gone e.0 there) in
                absurd (false≢true (sym apart ∙ (λ i. same_doi (name_is i) (same_doi_is gone e.0 there i)) ∙ there))
            | inr not ↦ not
          ] in
          subst (λ b. is_some (lookup (same_doi name) (cond b es (e ∷ remove_entry (same_doi gone) es))) ≡ true) (sym there)
          (subst (λ b. is_some (cond b (Some e.1) (lookup (same_doi name) es)) ≡ true) other found)
      | inr other ↦
          subst (λ b. is_some (lookup (same_doi name) (cond b es (e ∷ remove_entry (same_doi gone) es))) ≡ true) (sym other)
          ((elim (same_doi name e.0) as (λ b. is_some (cond b (Some e.1) (lookup (same_doi name) es)) ≡ true → is_some (cond b (Some e.1) (lookup (same_doi name) (remove_entry (same_doi gone) es))) ≡ true) [
            | true ↦ λ g. refl
            | false ↦ λ g. still_without name gone es apart g
          ]) found)
    ]

-- ---- what entries name stays defined

pub defined_added : (definitions new : Entries) (domains : Domains) (proto : Proto) (doi : ℕ) (plan : DoiPlan) → definition_added definitions proto doi plan ≡ Ok new → NamesDefined definitions domains → NamesDefined new domains
defined_added definitions new domains proto doi plan made kept p d named =
    subst (λ es. IsSome (definition_of es p d)) (sym (definition_added_is definitions new proto doi plan made)) (still_found (same_doi (p, d)) definitions ((proto, doi), plan) (kept p d named))

pub defined_deleted : (definitions new : Entries) (domains : Domains) (proto : Proto) (doi : ℕ) → definition_deleted definitions domains proto doi ≡ Ok new → NamesDefined definitions domains → NamesDefined new domains
defined_deleted definitions new domains proto doi made kept p d named =
    let is = definition_deleted_is definitions new domains proto doi made in
    let apart : same_doi (p, d) (proto, doi) ≡ false = elim (cases_Bool (same_doi (p, d) (proto, doi))) [
      | inl same ↦
          let name_is = same_doi_is (p, d) (proto, doi) same in
          absurd (false≢true (sym is.0 ∙ (λ i. names_doi_of domains (sym name_is i).0 (sym name_is i).1) ∙ named))
      | inr other ↦ other
    ] in
    subst (λ es. IsSome (definition_of es p d)) (sym is.1) (still_without (p, d) (proto, doi) definitions apart (kept p d named))

-- a protocol that has a DOI has one that is defined
pub defined_of : (definitions : Entries) (protocol : Protocol) (proto : Proto) (doi : ℕ) → is_defined definitions protocol ≡ true → has_doi proto doi protocol ≡ true → IsSome (definition_of definitions proto doi)
defined_of definitions Unlbl Of.Cipso doi is has = absurd (false≢true has)
defined_of definitions Unlbl Of.Calipso doi is has = absurd (false≢true has)
defined_of definitions (Cipso named) Of.Cipso doi is has = subst (λ n. IsSome (definition_of definitions Of.Cipso n)) (sym (eqb-true doi named has)) is
defined_of definitions (Cipso named) Of.Calipso doi is has = absurd (false≢true has)
defined_of definitions (Calipso named) Of.Cipso doi is has = absurd (false≢true has)
defined_of definitions (Calipso named) Of.Calipso doi is has = subst (λ n. IsSome (definition_of definitions Of.Calipso n)) (sym (eqb-true doi named has)) is

pub defined_entry : (definitions : Entries) (domains new : Domains) (domain : Domain) (block : Option AddressBlock) (protocol : Protocol) → entry_added definitions domains domain block protocol ≡ Ok new
    → NamesDefined definitions domains → NamesDefined definitions new
defined_entry definitions domains new domain block protocol made kept p d named =
    let is = entry_added_is definitions domains new domain block protocol made in
    elim (named_by_added p d domains new domain block protocol is.1 named) [
      | inl old ↦ kept p d old
      | inr own ↦ defined_of definitions protocol p d is.0 own
    ]

pub defined_left : (definitions : Entries) (domains new : Domains) (domain : Domain) (block : Option AddressBlock) → entry_deleted domains domain block ≡ Ok new → NamesDefined definitions domains → NamesDefined definitions new
defined_left definitions domains new domain block made kept p d named =
    kept p d (named_by_deleted p d domains new domain block (or_refused_is (deleted domains domain block) MapUnknown new made) named)

-- ---- definitions are such as commands give

pub all_push : {X : Type 0} (P : X → Type 0) (xs : List X) (x : X) → AllByRecursion P xs → P x → AllByRecursion P (xs ++ x ∷ [])
all_push P [] x all h = (h, tt)
all_push P (y ∷ xs) x all h = (all.0, all_push P xs x all.1 h)

pub all_without : {K X : Type 0} (P : K × X → Type 0) (test : K → Bool) (es : List (K × X)) → AllByRecursion P es → AllByRecursion P (remove_entry test es)
all_without P test [] all = tt
all_without P test (e ∷ es) all =
    elim (test e.0) as (λ b. AllByRecursion P (cond b es (e ∷ remove_entry test es))) [
      | true ↦ all.1
      | false ↦ (all.0, all_without P test es all.1)
    ]

-- what is found is an entry
pub all_found : {K X : Type 0} (P : K × X → Type 0) (test : K → Bool) (es : List (K × X)) (x : X) → AllByRecursion P es → lookup test es ≡ Some x → (k : K) × (test k ≡ true) × P (k, x)
all_found P test [] x all found = absurd (cc)
all_found {K} {X} P test (e ∷ es) x all found =
    (elim (test e.0) as (λ b. test e.0 ≡ b → cond b (Some e.1) (lookup test es) ≡ Some x → (k : K) × (test k ≡ true) × P (k, x)) [
      | true ↦ λ is h. let same : e.1 ≡ x = cc in (e.0, is, subst (λ v. P (e.0, v)) same all.0)
      | false ↦ λ is h. all_found P test es x all.1 h
    ]) refl found

pub given_of : (definitions : Entries) (proto : Proto) (doi : ℕ) (plan : DoiPlan) → AreGiven definitions → definition_of definitions proto doi ≡ Some plan → IsGiven (proto, doi) plan
given_of definitions proto doi plan given found =
    let entry = all_found (λ e. IsGiven e.0 e.1) (same_doi (proto, doi)) definitions plan given found in
    subst (λ name. IsGiven name plan) (sym (same_doi_is (proto, doi) entry.0 entry.1)) entry.2

pub positive_of : (definitions : Entries) (proto : Proto) (doi : ℕ) → AreGiven definitions → IsSome (definition_of definitions proto doi) → 0 < doi
positive_of definitions proto doi given some =
    (elim (definition_of definitions proto doi) as (λ o. definition_of definitions proto doi ≡ o → is_some o ≡ true → 0 < doi) [
      | Some plan ↦ λ found h. (given_of definitions proto doi plan given found).doi
      | None ↦ λ found h. absurd (false≢true h)
    ]) refl some

pub coherent_of : (definitions : Entries) (domains : Domains) → NamesDefined definitions domains → AreGiven definitions → IsCoherent definitions domains
coherent_of definitions domains defined given = record { defined = defined; positive = λ proto doi some. positive_of definitions proto doi given some }

pub no_zero_of : (definitions : Entries) (domains : Domains) → NamesDefined definitions domains → AreGiven definitions → NamesNoZero domains
no_zero_of definitions domains defined given proto doi named = positive_of definitions proto doi given (defined proto doi named)

-- the protocol of a line has no DOI that is 0
pub protocol_given : (domains : Domains) (i : ℕ) (line : Line) → NamesNoZero domains → slice_get (lines_of domains) i ≡ Some line → HasNoZero line.2
protocol_given domains i line no_zero at =
    (elim line.2 as (λ p. line.2 ≡ p → HasNoZero p) [
      | Unlbl ↦ λ is. tt
      | Cipso doi ↦ λ is. no_zero Of.Cipso doi (named_at domains i line Of.Cipso doi at (ap (has_doi Of.Cipso doi) is ∙ eq-eqb doi doi refl))
      | Calipso doi ↦ λ is. no_zero Of.Calipso doi (named_at domains i line Of.Calipso doi at (ap (has_doi Of.Calipso doi) is ∙ eq-eqb doi doi refl))
    ]) refl

-- ---- what is kept stays so

turns_keep : {X : Type 0} (P : X → Type 0) (made : Result X Refusal) (old new : X) (stopped : Result (Unit {0}) Stop) → Turns made old new stopped → P old → (made ≡ Ok new → P new) → P new
turns_keep P made old new (Ok done) turns was step = step turns
turns_keep P made old new (Err (Stopped.Refused why)) turns was step = subst P (sym turns.1) was
turns_keep P made old new (Err Stopped.OutOfMemory) turns was step = subst P (sym turns) was

pub kept_defined : (old new : Entries) (domains : Domains) (proto : Proto) (doi : ℕ) (plan : DoiPlan) (stopped : Result (Unit {0}) Stop) → Turns (definition_added old proto doi plan) old new stopped → IsGiven (proto, doi) plan
    → IsKept old domains → IsKept new domains
kept_defined old new domains proto doi plan stopped turns given kept =
    turns_keep (λ definitions. IsKept definitions domains) (definition_added old proto doi plan) old new stopped turns kept (λ made. record {
      defined = defined_added old new domains proto doi plan made kept.defined;
      given = subst AreGiven (sym (definition_added_is old new proto doi plan made)) (all_push (λ e. IsGiven e.0 e.1) old ((proto, doi), plan) kept.given given);
    })

pub kept_forgotten : (old new : Entries) (domains : Domains) (proto : Proto) (doi : ℕ) (stopped : Result (Unit {0}) Stop) → Turns (definition_deleted old domains proto doi) old new stopped → IsKept old domains → IsKept new domains
kept_forgotten old new domains proto doi stopped turns kept =
    turns_keep (λ definitions. IsKept definitions domains) (definition_deleted old domains proto doi) old new stopped turns kept (λ made. record {
      defined = defined_deleted old new domains proto doi made kept.defined;
      given = subst AreGiven (sym (definition_deleted_is old new domains proto doi made).1) (all_without (λ e. IsGiven e.0 e.1) (same_doi (proto, doi)) old kept.given);
    })

pub kept_entered : (definitions : Entries) (old new : Domains) (domain : Domain) (block : Option AddressBlock) (protocol : Protocol) (stopped : Result (Unit {0}) Stop) → Turns (entry_added definitions old domain block protocol) old new stopped
    → IsKept definitions old → IsKept definitions new
kept_entered definitions old new domain block protocol stopped turns kept =
    turns_keep (IsKept definitions) (entry_added definitions old domain block protocol) old new stopped turns kept (λ made. record {
      defined = defined_entry definitions old new domain block protocol made kept.defined;
      given = kept.given;
    })

pub kept_left : (definitions : Entries) (old new : Domains) (domain : Domain) (block : Option AddressBlock) (stopped : Result (Unit {0}) Stop) → Turns (entry_deleted old domain block) old new stopped → IsKept definitions old → IsKept definitions new
kept_left definitions old new domain block stopped turns kept =
    turns_keep (IsKept definitions) (entry_deleted old domain block) old new stopped turns kept (λ made. record {
      defined = defined_left definitions old new domain block made kept.defined;
      given = kept.given;
    })

-- nothing is kept of a fresh node
pub kept_fresh : (definitions : Entries) (domains : Domains) → definitions ≡ [] → domains ≡ [] → IsKept definitions domains
unfolding names_doi_of
kept_fresh definitions domains no_definition no_entry = record {
  defined = λ proto doi named. absurd (false≢true (ap (λ ds. names_doi_of ds proto doi) (sym no_entry) ∙ named));
  given = subst AreGiven (sym no_definition) tt;
}
