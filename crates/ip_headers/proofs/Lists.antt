-- Lists of options, one option at a time.
use Rattle.std.proofs.Common.{◌≡◌, ℕ, zero, suc, ◌+◌, ◌-◌, ◌≤◌, Bool, true, false, ◌&&◌, ◌||◌, cond, leb, List, [], ◌∷◌, ◌++◌, length, get_or, take, drop, All, Some, None, refl, sym, ap, subst, ◌∙◌, append_assoc, arith, length-append, length-take, length-drop}
use Rattle.std.specs.List.{concat}
use Rattle.std.proofs.lemmas.Bool.Decides.{nat_tests}
use Rattle.std.proofs.lemmas.List.{take_at, drop_at}
use Rattle.std.proofs.lemmas.List.Elements.{All-nil, All-cons, All-head, All-tail}
use Rattle.mls_label.specs.octet_grammar.Octets.{IsOctets}
use Rattle.mls_label.proofs.octet_grammar.Octets.{octets-take, octets-drop}
use Rattle.ip_headers.specs.declared.version.Version.{Version}
use Rattle.ip_headers.specs.declared.fault.HeadFault.{HeadFault}
use Rattle.ip_headers.specs.declared.fault.HeadKind.TheVariants.{OptionList}
use Rattle.ip_headers.specs.Options.{Placed, IsOption, with_first, options_within, options_from, ends_list, is_whole, is_single, announced, uncounted, type_octet}

-- ---- one option

bounds : (single : Bool) (counted n : ℕ) → 1 ≤ n → single || leb 2 (cond single 1 counted) && leb (cond single 1 counted) n ≡ true → (1 ≤ cond single 1 counted) × (cond single 1 counted ≤ n)
bounds true counted n some e = (omega arith, some)
bounds false counted n some e = grind (arith, nat_tests)

pub some_octets : (version : Version) (octets : List ℕ) → ends_list version octets ≡ false → 1 ≤ length octets
some_octets version [] e = absurd cc
some_octets version (t ∷ octets) e = omega arith

-- a whole option has octets, and they are there
pub option_size : (version : Version) (octets : List ℕ) → ends_list version octets ≡ false → is_whole version octets ≡ true → (1 ≤ announced version octets) × (announced version octets ≤ length octets)
option_size version octets e w = bounds (is_single version (type_octet octets)) (get_or octets 1 0 + uncounted version) (length octets) (some_octets version octets e) w

-- a length octet that counts
counted_bounds : (single : Bool) (counted n : ℕ) → single || leb 2 (cond single 1 counted) && leb (cond single 1 counted) n ≡ true → single ≡ false → (2 ≤ counted) × (counted ≤ n)
counted_bounds true counted n e f = absurd cc
counted_bounds false counted n e f = grind (arith, nat_tests)

fits : (single : Bool) (counted n : ℕ) → (single ≡ false → (2 ≤ counted) × (counted ≤ n)) → single || leb 2 (cond single 1 counted) && leb (cond single 1 counted) n ≡ true
fits true counted n h = refl
fits false counted n h = let b = h refl in grind (arith, nat_tests)

-- an option is one whatever follows it
pub record InFront (version : Version) (option more : List ℕ) : Type 0 where
  pub goes_on : ends_list version (option ++ more) ≡ false
  pub whole : is_whole version (option ++ more) ≡ true
  pub exact : announced version (option ++ more) ≡ length option

pub in_front : (version : Version) (option more : List ℕ) → IsOption version option → InFront version option more
in_front version [] more is = absurd (let e = is.goes_on in cc)
in_front version (t ∷ []) more is =
    by_single (is_single version t) refl where
      by_single : (b : Bool) → is_single version t ≡ b → InFront version (t ∷ []) more
      by_single true e = record { goes_on = is.goes_on; whole = rw e refl; exact = rw e refl }
      by_single false e = let low = counted_bounds (is_single version t) (0 + uncounted version) 1 is.whole e in absurd (omega (arith, low.0, low.1))
in_front version (t ∷ c ∷ option) more is = record {
  goes_on = is.goes_on;
  whole = fits (is_single version t) (c + uncounted version) (length ((t ∷ c ∷ option) ++ more))
      (λ e. let b = counted_bounds (is_single version t) (c + uncounted version) (length (t ∷ c ∷ option)) is.whole e in (b.0, omega (arith, b.1, length-append (t ∷ c ∷ option) more)));
  exact = is.exact;
}

-- a whole option that is cut off is an option
pub cut_off : (version : Version) (octets : List ℕ) → ends_list version octets ≡ false → is_whole version octets ≡ true → IsOption version (take (announced version octets) octets)
cut_off version [] e w = absurd cc
cut_off version (t ∷ []) e w =
    let n = option_size version (t ∷ []) e w in
    let one : announced version (t ∷ []) ≡ 1 = omega (arith, n.0, n.1) in
    subst (λ (x : ℕ). IsOption version (take x (t ∷ []))) (sym one) (record { goes_on = e; whole = w; exact = one })
cut_off version (t ∷ c ∷ octets) e w =
    by_single (is_single version t) refl where
      by_single : (b : Bool) → is_single version t ≡ b → IsOption version (take (cond (is_single version t) 1 (c + uncounted version)) (t ∷ c ∷ octets))
      by_single true s = rw s (record { goes_on = e; whole = rw s refl; exact = rw s refl })
      by_single false s =
          let n = c + uncounted version in
          let b = counted_bounds (is_single version t) n (length (t ∷ c ∷ octets)) w s in
          let k = n - 2 in
          let two : n ≡ suc (suc k) = omega (arith, b.0) in
          let long : n ≡ length (t ∷ c ∷ take k octets) = omega (arith, length-take k octets, b.0, b.1) in
          let is : IsOption version (t ∷ c ∷ take k octets) = record { goes_on = e; whole = fits (is_single version t) n (length (t ∷ c ∷ take k octets)) (λ f. (b.0, omega (arith, long))); exact = rw s long } in
          rw s (rw two is)

-- ---- all of them

-- each number of options that is enough gives them all
enough : (n m : ℕ) (version : Version) (place : ℕ) (octets : List ℕ) → length octets ≤ n → length octets ≤ m → options_within n version place octets ≡ options_within m version place octets
unfolding options_within
enough zero zero version place octets le lf = refl
enough zero (suc m) version place [] le lf = refl
enough (suc n) zero version place [] le lf = refl
enough zero (suc m) version place (t ∷ octets) le lf = absurd (omega arith)
enough (suc n) zero version place (t ∷ octets) le lf = absurd (omega arith)
enough (suc n) (suc m) version place octets le lf =
    by_front (ends_list version octets) (is_whole version octets) refl refl
    (λ some. enough n m version (place + announced version octets) (drop (announced version octets) octets)
    (omega (arith, some, length-drop (announced version octets) octets)) (omega (arith, some, length-drop (announced version octets) octets))) where
      by_front : (e w : Bool) → ends_list version octets ≡ e → is_whole version octets ≡ w
          → (1 ≤ announced version octets → options_within n version (place + announced version octets) (drop (announced version octets) octets) ≡ options_within m version (place + announced version octets) (drop (announced version octets) octets))
          → options_within (suc n) version place octets ≡ options_within (suc m) version place octets
      by_front true w ie iw next = rw ie refl
      by_front false false ie iw next = rw (ie, iw) refl
      by_front false true ie iw next = rw (ie, iw) (ap (with_first (record { place = place; octets = take (announced version octets) octets })) (next (option_size version octets ie iw).0))

pub listed_end : (version : Version) (place : ℕ) (octets : List ℕ) → ends_list version octets ≡ true → options_from version place octets ≡ record { options = []; broken = None }
unfolding options_within
listed_end version place [] e = refl
listed_end version place (t ∷ octets) e = rw e refl

pub listed_broken : (version : Version) (place : ℕ) (octets : List ℕ) → ends_list version octets ≡ false → is_whole version octets ≡ false
    → options_from version place octets ≡ record { options = []; broken = Some (record { octet = place + 1; kind = OptionList }) }
unfolding options_within
listed_broken version place [] e w = absurd cc
listed_broken version place (t ∷ octets) e w = rw (e, w) refl

pub listed_option : (version : Version) (place : ℕ) (octets : List ℕ) → ends_list version octets ≡ false → is_whole version octets ≡ true
    → options_from version place octets
    ≡ with_first (record { place = place; octets = take (announced version octets) octets }) (options_from version (place + announced version octets) (drop (announced version octets) octets))
unfolding options_within
listed_option version place [] e w = absurd cc
listed_option version place (t ∷ octets) e w =
    let a = announced version (t ∷ octets) in
    let s = option_size version (t ∷ octets) e w in
    rw (e, w) (ap (with_first (record { place = place; octets = take a (t ∷ octets) }))
    (enough (length octets) (length (drop a (t ∷ octets))) version (place + a) (drop a (t ∷ octets)) (omega (arith, s.0, length-drop a (t ∷ octets))) (omega arith)))

-- ---- a list that is given option by option

-- the options with their places, the first of them at this one
unfoldable pub placed_from : ℕ → List (List ℕ) → List Placed
placed_from place [] = []
placed_from place (option ∷ options) = record { place = place; octets = option } ∷ placed_from (place + length option) options

pub listed_whole : (version : Version) (place : ℕ) (options : List (List ℕ)) (rest : List ℕ) → All (IsOption version) options → ends_list version rest ≡ true
    → options_from version place (concat options ++ rest) ≡ record { options = placed_from place options; broken = None }
unfolding placed_from
listed_whole version place [] rest each e = listed_end version place rest e
listed_whole version place (o ∷ options) rest each e =
    let is = All-head (IsOption version) o options each in
    let more = concat options ++ rest in
    let f = in_front version o more is in
    let p : Placed = record { place = place; octets = o } in
    let first : options_from version place (o ++ more) ≡ with_first p (options_from version (place + length o) more) =
    listed_option version place (o ++ more) f.goes_on f.whole
    ∙ rw (f.exact, take_at o more (length o) refl, drop_at o more (length o) refl) refl in
    ap (options_from version place) (append_assoc o (concat options) rest) ∙ first
    ∙ ap (with_first p) (listed_whole version (place + length o) options rest (All-tail (IsOption version) o options each) e)

-- ---- what each option of a list is

-- an option stands at its place, before this one
abbrev pub IsBelow : Version → ℕ → Placed → Type 0
IsBelow version limit option = IsOption version option.octets × (option.place + length option.octets ≤ limit)

abbrev pub HasOctets : Placed → Type 0
HasOctets option = IsOctets option.octets

-- what holds of each option that is cut off holds of them all
module _ (version : Version) (P : Placed → Type 0) (I : ℕ → List ℕ → Type 0)
    (cut : (place : ℕ) (octets : List ℕ) → ends_list version octets ≡ false → is_whole version octets ≡ true → I place octets
    → P (record { place = place; octets = take (announced version octets) octets }) × I (place + announced version octets) (drop (announced version octets) octets)) where
  each : (n place : ℕ) (octets : List ℕ) → I place octets → All P (options_within n version place octets).options
  unfolding options_within
  each zero place octets is = All-nil P
  each (suc n) place octets is =
      by_front (ends_list version octets) (is_whole version octets) refl refl
      (λ more. each n (place + announced version octets) (drop (announced version octets) octets) more) where
        by_front : (e w : Bool) → ends_list version octets ≡ e → is_whole version octets ≡ w
            → (I (place + announced version octets) (drop (announced version octets) octets) → All P (options_within n version (place + announced version octets) (drop (announced version octets) octets)).options)
            → All P (options_within (suc n) version place octets).options
        by_front true w ie iw next = rw ie (All-nil P)
        by_front false false ie iw next = rw (ie, iw) (All-nil P)
        by_front false true ie iw next =
            let h = cut place octets ie iw is in
            rw (ie, iw) (All-cons P (record { place = place; octets = take (announced version octets) octets }) (options_within n version (place + announced version octets) (drop (announced version octets) octets)).options h.0 (next h.1))

-- the octets from this place on, if there are any, end at the limit
abbrev pub Ends : ℕ → ℕ → List ℕ → Type 0
Ends limit place octets = 1 ≤ length octets → place + length octets ≤ limit

Ends-more : (version : Version) (limit place : ℕ) (octets : List ℕ) → ends_list version octets ≡ false → is_whole version octets ≡ true → Ends limit place octets
    → Ends limit (place + announced version octets) (drop (announced version octets) octets)
Ends-more version limit place octets e w ends some =
    let s = option_size version octets e w in
    omega (arith, s.0, s.1, ends (omega (arith, s.0, s.1)), length-drop (announced version octets) octets)

pub options_below : (version : Version) (place limit : ℕ) (octets : List ℕ) → Ends limit place octets → All (IsBelow version limit) (options_from version place octets).options
options_below version place limit octets ends =
    each version (IsBelow version limit) (Ends limit)
    (λ at rest e w h. let s = option_size version rest e w in ((cut_off version rest e w, omega (arith, length-take (announced version rest) rest, s.0, s.1, h (omega (arith, s.0, s.1)))), Ends-more version limit at rest e w h))
    (length octets) place octets ends

pub options_octets : (version : Version) (place : ℕ) (octets : List ℕ) → IsOctets octets → All HasOctets (options_from version place octets).options
options_octets version place octets are =
    each version HasOctets (λ (at : ℕ) (rest : List ℕ). IsOctets rest)
    (λ at rest e w h. (octets-take (announced version rest) rest h, octets-drop (announced version rest) rest h))
    (length octets) place octets are

-- an option that isn't whole stands there too
broken_within : (n : ℕ) (version : Version) (limit place : ℕ) (octets : List ℕ) (f : HeadFault) → Ends limit place octets → (options_within n version place octets).broken ≡ Some f → f.octet ≤ limit
unfolding options_within
broken_within zero version limit place octets f ends is = absurd cc
broken_within (suc n) version limit place octets f ends is =
    by_front (ends_list version octets) (is_whole version octets) refl refl
    (λ more. broken_within n version limit (place + announced version octets) (drop (announced version octets) octets) f more) is where
      by_front : (e w : Bool) → ends_list version octets ≡ e → is_whole version octets ≡ w
          → (Ends limit (place + announced version octets) (drop (announced version octets) octets) → (options_within n version (place + announced version octets) (drop (announced version octets) octets)).broken ≡ Some f → f.octet ≤ limit)
          → (options_within (suc n) version place octets).broken ≡ Some f → f.octet ≤ limit
      by_front true w ie iw next is = absurd (let h = rw ie at is in cc)
      by_front false false ie iw next is =
          let h = rw (ie, iw) at is in
          let at : place + 1 ≡ f.octet = cc in
          let some = some_octets version octets ie in
          omega (arith, at, some, ends some)
      by_front false true ie iw next is = next (Ends-more version limit place octets ie iw ends) (rw (ie, iw) at is)

pub broken_below : (version : Version) (place limit : ℕ) (octets : List ℕ) (f : HeadFault) → Ends limit place octets → (options_from version place octets).broken ≡ Some f → f.octet ≤ limit
broken_below version place limit octets f ends is = broken_within (length octets) version limit place octets f ends is
