-- A label under a DOI's definition: its level and each of its categories go by the pairs.
use Rattle.std.specs.Prelude.{ℕ, List, Option, Some, None, Result, Ok, Err, is_none, if◌then◌else◌}
use Rattle.std.specs.List.{find, filter_map}
use Rattle.mls_label.specs.declared.label.Label.{Label}
use Rattle.mls_label.specs.Cats.{has, cats_where}
use Rattle.doi_table.specs.declared.plan.DoiPlan.{DoiPlan}
use Rattle.doi_table.specs.declared.unmapped.Unmapped.{Unmapped}
use Rattle.doi_table.specs.declared.unmapped.Unmapped.TheVariants.{Level, Category}
use Rattle.doi_table.specs.Pairs.{number_by, flipped}

-- the least category that no pair begins with: a label's categories ascend
abbrev pub first_unmapped : List (ℕ × ℕ) → List ℕ → Option ℕ
first_unmapped pairs cats = find (λ c. is_none (number_by pairs c)) cats

-- the set of what the pairs give for the categories
abbrev pub mapped_cats : List (ℕ × ℕ) → List ℕ → List ℕ
mapped_cats pairs cats = cats_where (has (filter_map (number_by pairs) cats))

-- no level comes first, then the least category without a number
abbrev pub mapped_label : Option ℕ → Option ℕ → List ℕ → Result Label Unmapped
mapped_label None unmapped cats = Err Level
mapped_label (Some level) (Some c) cats = Err (Category c)
mapped_label (Some level) None cats = Ok (record { level = level; cats = cats })

-- the pairs applied to the level and to every category
abbrev pub label_by : List (ℕ × ℕ) → List (ℕ × ℕ) → Label → Result Label Unmapped
label_by levels cats label =
    mapped_label (number_by levels label.level) (first_unmapped cats label.cats) (mapped_cats cats label.cats)

-- from local to remote numbers; a definition that passes all numbers leaves the label
abbrev pub wire_label : DoiPlan → Label → Result Label Unmapped
wire_label plan label = if plan.trans then label_by plan.levels plan.cats label else Ok label

-- from remote to local numbers
abbrev pub local_label : DoiPlan → Label → Result Label Unmapped
local_label plan label = if plan.trans then label_by (flipped plan.levels) (flipped plan.cats) label else Ok label
