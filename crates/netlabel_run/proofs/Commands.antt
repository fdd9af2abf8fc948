-- The words of the command line, one by one.
use Rattle.std.proofs.Common.{◌≡◌, ◌≢◌, ◌<◌, ◌≤◌, ◌^◌, ℕ, Bool, true, false, cond, List, [], ◌∷◌, length, get_or, Some, None, refl, sym, ap, subst, ◌∙◌, arith}
use Rattle.std.specs.Prelude.{IsTrue, codes, string_bytes, String}
use Rattle.std.specs.Fmt.{decimal}
use Rattle.std.specs.declared.alloc.Global.{Global}
use Rattle.std.proofs.lemmas.Fmt.{decimal_injective}
use Rattle.std.proofs.lemmas.List.{length-map}
use Rattle.mls_label.specs.declared.label.Label.{Label}
use Rattle.netlabel_run.specs.declared.command.Command.TheVariants.{Judge, Check, Show, Agree, Make, Run}
use Rattle.label_commands.specs.flow_lines.FileName.{is_file_name, file_name_of_text}
use Rattle.label_commands.specs.command_words.Words.{texts_of}
use Rattle.netlabel_run.specs.Words.{IsLevel, plainly, with_workers, without_versions, with_versions, IsForm}

named_by : (test : Bool) (word name : List ℕ) → Some name ≡ cond test (Some word) None → (name ≡ word) × IsTrue test
named_by true word name is = (cc, refl)
named_by false word name is = absurd cc

-- the name of a file is its word
pub is_named : (word name : List ℕ) → Some name ≡ file_name_of_text word → (name ≡ word) × IsTrue (is_file_name word)
is_named word name is = named_by (is_file_name word) word name is

-- words whose level is none ask for nothing
pub no_level : (doi level file : List ℕ) → ((l : Label) → IsLevel level l → ⊥) → IsForm (codes "judge" ∷ doi ∷ level ∷ file ∷ []) → ⊥
no_level doi level file none (Check f, asks) = omega (arith, ap length asks.are)
no_level doi level file none (Show f, asks) = omega (arith, ap length asks.are)
no_level doi level file none (Agree f n vs, without_versions t are name is) = omega (arith, ap length are)
no_level doi level file none (Agree f n vs, with_versions t l v are name is lists) = let first : 106 ≡ 97 = ap (λ ws. get_or (get_or ws 0 []) 0 0) are in omega (arith, first)
no_level doi level file none (Make s n f, asks) = let first : 106 ≡ 109 = ap (λ ws. get_or (get_or ws 0 []) 0 0) asks.are in omega (arith, first)
no_level doi level file none (Run f n, plainly are name) = omega (arith, ap length are)
no_level doi level file none (Run f n, with_workers t w are name named) = absurd (let no = are in cc)
no_level doi level file none (Judge d l f, asks) = none l (subst (λ t. IsLevel t l) (sym (ap (λ ws. get_or ws 2 []) asks.are)) asks.is_level)

-- all forms have two words, three or four
pub no_words : (words : List (String Global)) → length words ≢ 2 → length words ≢ 3 → length words ≢ 4 → IsForm (texts_of words) → ⊥
no_words words two three four (Judge d l f, asks) = four (sym (length-map words string_bytes) ∙ ap length asks.are)
no_words words two three four (Check f, asks) = two (sym (length-map words string_bytes) ∙ ap length asks.are)
no_words words two three four (Show f, asks) = two (sym (length-map words string_bytes) ∙ ap length asks.are)
no_words words two three four (Agree f n vs, without_versions t are name is) = three (sym (length-map words string_bytes) ∙ ap length are)
no_words words two three four (Agree f n vs, with_versions t l v are name is lists) = four (sym (length-map words string_bytes) ∙ ap length are)
no_words words two three four (Make s n f, asks) = four (sym (length-map words string_bytes) ∙ ap length asks.are)
no_words words two three four (Run f n, plainly are name) = two (sym (length-map words string_bytes) ∙ ap length are)
no_words words two three four (Run f n, with_workers t w are name named) = four (sym (length-map words string_bytes) ∙ ap length are)

-- a text of a greater number is that of no number of packets
pub too_many : (text : List ℕ) (n : ℕ) → text ≡ decimal n → n < 2 ^ 64 → 1048576 < n → (count : ℕ) → count ≤ 1048576 → text ≡ decimal count → ⊥
too_many text n is small many count few is_count =
    let same : n ≡ count = decimal_injective n count small (omega (arith, few)) (sym is ∙ is_count) in
    omega (arith, same, many, few)
