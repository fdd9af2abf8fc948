-- A packet that was read, by the fields of its header.
use Rattle.std.proofs.Common.{◌≡◌, ℕ, ◌<◌, IsTrue, false, List, [], ◌∷◌, length, Option, None, refl, sym, ap, ◌∙◌, arith}
use Rattle.std.proofs.lemmas.Bool.{false≢true, true≢false}
use Rattle.ip_headers.specs.declared.version.Version.{Version}
use Rattle.ip_headers.specs.declared.version.Version.TheVariants.{V4, V6}
use Rattle.ip_headers.specs.declared.fields.Fields4.{Fields4}
use Rattle.ip_headers.specs.declared.fields.Fields6.{Fields6}
use Rattle.ip_headers.specs.declared.parts.Parts.{Parts}
use Rattle.ip_headers.specs.Options.{Placed, Listed, options_from, others_of, has_any}
use Rattle.ip_headers.specs.Reading.{first_place}
use Rattle.ip_headers.specs.Packet.{Headers}
use Rattle.ip_headers.specs.Fields.{packet4, packet6}
use Rattle.ip_headers.specs.Written.{rewritten}
use Rattle.ip_headers.specs.inside.View.{view_of, Holds}
use Rattle.ip_headers.specs.inside.Write.{IsWholeList, others_in, fields4, fields6}
use Rattle.ip_headers.proofs.Lists.{listed_end}

pub same4 : (parts : Parts) (now : Headers) (hops : ℕ) (fields : Fields4) → view_of V4 parts ≡ now → fields ≡ fields4 now hops
    → (option : Option (List ℕ)) → packet4 fields option now.others now.payload ≡ rewritten now option hops
same4 parts now hops fields view_is fields_is option =
    ap (λ (f : Fields4). packet4 f option now.others now.payload) fields_is
    ∙ ap (λ (n : Headers). packet4 (fields4 n hops) option n.others n.payload) (sym view_is) ∙ ap (λ (n : Headers). rewritten n option hops) view_is

pub same6 : (parts : Parts) (now : Headers) (hops : ℕ) (fields : Fields6) → view_of V6 parts ≡ now → fields ≡ fields6 now hops
    → (option : Option (List ℕ)) → packet6 fields option now.others now.payload ≡ rewritten now option hops
same6 parts now hops fields view_is fields_is option =
    ap (λ (f : Fields6). packet6 f option now.others now.payload) fields_is
    ∙ ap (λ (n : Headers). packet6 (fields6 n hops) option n.others n.payload) (sym view_is) ∙ ap (λ (n : Headers). rewritten n option hops) view_is

pub any_is_some : (options : List Placed) → (IsTrue (has_any options) → 0 < length options) × (0 < length options → IsTrue (has_any options))
any_is_some [] = ((λ e. absurd (false≢true e)), λ h. absurd (omega arith))
any_is_some (o ∷ options) = ((λ e. omega arith), λ h. refl)

-- where no option is kept, a list without options has the same
pub none_kept : (options : List Placed) → has_any options ≡ false → [] ≡ options
none_kept [] none = refl
none_kept (p ∷ options) none = absurd (true≢false none)

pub no_options : (version : Version) (place : ℕ) → options_from version place [] ≡ record { options = []; broken = None }
no_options version place = listed_end version place [] refl

pub none_whole : (version : Version) → IsWholeList version []
none_whole version = ap (λ (l : Listed). l.broken) (no_options version (first_place version))

pub none_others : (version : Version) (parts : Parts) (now : Headers) → view_of version parts ≡ now → Holds version parts → parts.has_others ≡ false → others_in version [] ≡ now.others
none_others V4 parts now view_is holds none =
    ap (λ (l : Listed). others_of V4 l.options) (no_options V4 (first_place V4))
    ∙ none_kept (view_of V4 parts).others (sym holds.others ∙ none) ∙ ap (λ (n : Headers). n.others) view_is
none_others V6 parts now view_is holds none =
    ap (λ (l : Listed). others_of V6 l.options) (no_options V6 (first_place V6))
    ∙ none_kept (view_of V6 parts).others (sym holds.others ∙ none) ∙ ap (λ (n : Headers). n.others) view_is
