-- Lists of tags of CIPSO, as numbers of their types (CIPSO draft 2.2, section 3.4).
use Rattle.std.specs.Prelude.{ℕ, ◌≤◌, ◌<◌, nat_le, List, [], ◌∷◌, length, Option, Some, None, find, option_and_then, if◌then◌else◌}
use Rattle.std.specs.Fmt.{decimal}
use Rattle.std.specs.Str.{bytes_eq}
use Rattle.mls_label.specs.declared.label.Tag.{Tag}
use Rattle.mls_label.specs.declared.label.Tag.TheVariants.{One, Two, Five}
use Rattle.cipso_tags.specs.Tag.{tag_type}
use Rattle.script_lines.specs.command_values.List.{list_of_text}

-- a tag by its type's number
abbrev pub tag_number_text : Tag → List ℕ
tag_number_text tag = decimal (tag_type tag)

-- the tag whose type's number this is
abbrev pub tag_of_text : List ℕ → Option Tag
tag_of_text text = find (λ tag. bytes_eq text (tag_number_text tag)) (One ∷ Two ∷ Five ∷ [])

-- 1 to 5 tags with commas between
abbrev pub tags_of_text : List ℕ → Option (List Tag)
tags_of_text text = option_and_then (λ tags. if nat_le (length tags) 5 then Some tags else None) (list_of_text tag_of_text text)

pub record AreTags (tags : List Tag) : Type 0 where
  pub some : 0 < length tags
  pub few : length tags ≤ 5
