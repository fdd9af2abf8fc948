-- The entries of an interface, by their places among all entries of the node.
use Rattle.std.proofs.Common.{◌≡◌, ◌↔◌, ℕ, ◌<◌, ◌≤◌, Bool, true, false, not, MatchBool, IsTrue, Option, is_some, List, [], ◌∷◌, length, Contains, Some, None, slice_get, refl, sym, ap, subst, ◌∙◌, arith}
use Rattle.std.specs.Prelude.{MatchOption}
use Rattle.std.proofs.lemmas.Bool.{false≢true}
use Rattle.std.proofs.lemmas.Option.{same_Some, slice_get_within}
use Rattle.mls_label.specs.declared.label.Label.{Label}
use Rattle.domain_map.specs.declared.static_map.StaticEntry.{StaticEntry}
use Rattle.domain_map.specs.Domains.{Domain, same_domain}
use Rattle.domain_map.specs.Statics.{Statics, entries_of}
use Rattle.domain_map.proofs.Law.{entries_stand_at_their_places}
use Rattle.label_commands.specs.node_readings.Reading.{NamedMeanings}
use Rattle.label_commands.specs.node_readings.Meaning.{Meaning, meaning_of, MeansDominates}
use Rattle.static_law.specs.Covered.{MeansNoLess}

-- what is among these entries, of which none stands anywhere
pub none_contained : (entries : List (ℕ × StaticEntry)) → ((place : ℕ) (entry : StaticEntry) → Contains entries (place, entry) → ⊥) → entries ≡ []
none_contained [] none = refl
none_contained (e ∷ entries) none = absurd (none e.0 e.1 (0, omega arith, refl))

pub some_contained : (entries : List (ℕ × StaticEntry)) (place : ℕ) (entry : StaticEntry) → Contains entries (place, entry) → entries ≡ [] → ⊥
some_contained entries place entry (k, lt, is) none = omega (arith, lt, ap length none)

module _ (statics : Statics) (interface : Domain) (entries : List (ℕ × StaticEntry)) (are : entries_of statics interface ≡ entries) (place : ℕ) where
  stands : (entry : StaticEntry) → Contains entries (place, entry) → (slice_get statics place ≡ Some entry) × (same_domain interface entry.interface ≡ true)
  stands entry there = (entries_stand_at_their_places statics interface place entry).0 (subst (λ es. Contains es (place, entry)) (sym are) there)

  -- none of them stands behind all entries
  pub not_behind : (entry : StaticEntry) → length statics ≤ place → Contains entries (place, entry) → ⊥
  not_behind entry behind there = omega (arith, behind, slice_get_within statics place entry (stands entry there).0)

  pub within : (entry : StaticEntry) → Contains entries (place, entry) → place < length statics
  within entry there = slice_get_within statics place entry (stands entry there).0

  -- nor where one of another interface stands
  pub not_of_another : (other entry : StaticEntry) → slice_get statics place ≡ Some other → same_domain interface other.interface ≡ false → Contains entries (place, entry) → ⊥
  not_of_another other entry at off there =
      let is = stands entry there in
      let same : entry ≡ other = same_Some entry other (sym is.0 ∙ at) in
      false≢true (sym off ∙ ap (λ (e : StaticEntry). same_domain interface e.interface) (sym same) ∙ is.1)

  pub is_there : (entry : StaticEntry) → slice_get statics place ≡ Some entry → same_domain interface entry.interface ≡ true → Contains entries (place, entry)
  is_there entry at on = subst (λ es. Contains es (place, entry)) are ((entries_stand_at_their_places statics interface place entry).1 (at, on))

  -- where one stands no other does
  pub is_one : (one entry : StaticEntry) → slice_get statics place ≡ Some one → Contains entries (place, entry) → entry ≡ one
  is_one one entry at there = same_Some entry one (sym (stands entry there).0 ∙ at)

-- ---- what is found at a place

pub where_none : {X : Type 0} (A : Type 0) (B : X → Type 0) (r : Option X) → false ≡ is_some r → MatchOption r A B → A
where_none A B None none is = is
where_none A B (Some x) none is = absurd (false≢true none)

module _ (entries : List (ℕ × StaticEntry)) (place : ℕ) (named : NamedMeanings) (least : Meaning) (high : Label) where
  pub low_by : (b : Bool) → ((entry : StaticEntry) × Contains entries (place, entry) × (entry.high ≡ high)) → ((entry : StaticEntry) → Contains entries (place, entry) → entry.high ≡ high) → (IsTrue b ↔ MeansDominates (meaning_of named high) least)
      → MatchBool (not b) ((entry : StaticEntry) × Contains entries (place, entry) × (MeansNoLess named least entry → ⊥)) ((entry : StaticEntry) → Contains entries (place, entry) → MeansNoLess named least entry)
  low_by true there one is = λ entry at. subst (λ l. MeansDominates (meaning_of named l) least) (sym (one entry at)) (is.0 refl)
  low_by false there one is = (there.0, there.1, λ means. false≢true (is.1 (subst (λ l. MeansDominates (meaning_of named l) least) there.2 means)))
