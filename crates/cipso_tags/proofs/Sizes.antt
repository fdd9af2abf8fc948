-- Which lengths tags have.
use Rattle.std.proofs.Common.{◌≡◌, ℕ, ◌+◌, ◌-◌, ◌*◌, ◌/◌, ◌<◌, ◌≤◌, List, ◌∷◌, ◌++◌, length, replicate, refl, sym, ap, subst, ◌∙◌, arith}
use Rattle.std.specs.List.{range_with_len}
use Rattle.std.proofs.lemmas.List.{length-replicate}
use Rattle.std.proofs.lemmas.List.FromFn.{length-range_with_len}
use Rattle.mls_label.proofs.octet_grammar.Octets.{octets-zeros}
use Rattle.mls_label.specs.declared.label.Tag.{Tag}
use Rattle.mls_label.specs.declared.label.Tag.TheVariants.{One, Two, Five}
use Rattle.mls_label.specs.declared.label.Label.{Label}
use Rattle.mls_label.specs.Cats.{cats_where}
use Rattle.mls_label.proofs.Law.{ranges_ascend}
use Rattle.mls_label.specs.category_bitmap.Bitmap.{bitmap_cats}
use Rattle.cipso_tags.specs.Body.{words, covers, IsBody}
use Rattle.cipso_tags.specs.Tag.{tag_type, IsTag, HasLength}
use Rattle.cipso_tags.specs.inside.Header.{header_of, IsSize}
use Rattle.cipso_tags.proofs.Words.{length-words}
use Rattle.cipso_tags.proofs.Ranges.{lowest, length-lowest, lowest_descends}

-- a body of so many octets
record Sample (tag : Tag) (size : ℕ) : Type 0 where
  body : List ℕ
  cats : List ℕ
  is : IsBody tag body cats
  long : length body ≡ size

sample : (tag : Tag) (size : ℕ) → IsSize tag size → Sample tag size
sample One size fits =
    let zeros : List ℕ = replicate size 0 in
    let long : length zeros ≡ size = length-replicate {A = ℕ} size 0 in
    record { body = zeros; cats = bitmap_cats zeros; is = record { room = omega (arith, fits, long); octets = octets-zeros size; carries = refl }; long = long }
sample Two size fits =
    let numbers = range_with_len 0 (size / 2) in
    let long : length numbers ≡ size / 2 = length-range_with_len 0 (size / 2) in
    record {
      body = words numbers;
      cats = numbers;
      is = record { numbers = numbers; is = refl; room = omega (arith, fits); ordered = ranges_ascend 0 65535 0 (size / 2) (omega arith) (omega (arith, fits)); carries = refl };
      long = omega (arith, fits, length-words numbers);
    }
sample Five size fits =
    let numbers = lowest (size / 2) in
    let long : length numbers ≡ size / 2 = length-lowest (size / 2) in
    record {
      body = words numbers;
      cats = cats_where (covers numbers);
      is = record { numbers = numbers; is = refl; room = omega (arith, fits); ordered = lowest_descends 65535 (size / 2) (omega (arith, fits)); carries = refl };
      long = omega (arith, fits, length-words numbers);
    }

-- a tag from its parts
pub tag_with : (tag : Tag) (size level : ℕ) (body cats : List ℕ) → IsBody tag body cats → length body ≡ size → level < 256 → IsTag (header_of tag (4 + size) level ++ body) (tag, record { level = level; cats = cats })
tag_with tag size level body cats is long small =
    record { body = body; is = λ i. tag_type tag ∷ (4 + sym long i) ∷ 0 ∷ level ∷ body; level = small; carries = is }

pub tag_long : (bytes : List ℕ) (v : Tag × Label) (m : IsTag bytes v) → length bytes ≡ 4 + length m.body
tag_long bytes v m = omega (arith, ap length m.is)

pub size_there : (tag : Tag) (size : ℕ) → IsSize tag size → HasLength tag (4 + size)
size_there tag size fits =
    let s = sample tag size fits in
    (header_of tag (4 + size) 0 ++ s.body, record { level = 0; cats = s.cats }, tag_with tag size 0 s.body s.cats s.is s.long (omega arith), omega (arith, s.long))

body_size : (tag : Tag) (body cats : List ℕ) → IsBody tag body cats → IsSize tag (length body)
body_size One body cats m = m.room
body_size Two body cats m =
    let long : length body ≡ 2 * length m.numbers = ap length m.is ∙ length-words m.numbers in
    (omega (arith, m.room), omega arith)
body_size Five body cats m =
    let long : length body ≡ 2 * length m.numbers = ap length m.is ∙ length-words m.numbers in
    (omega (arith, m.room), omega arith)

-- what a tag of this length has behind its header
pub record HasBody (tag : Tag) (n : ℕ) : Type 0 where
  pub low : 4 ≤ n
  pub size : IsSize tag (n - 4)

pub there_body : (tag : Tag) (n : ℕ) → HasLength tag n → HasBody tag n
there_body tag n h =
    let m = h.2 in
    let long = tag_long h.0 (tag, h.1) m in
    let size : length m.body ≡ n - 4 = omega (arith, long, h.3) in
    record { low = omega (arith, long, h.3); size = subst (IsSize tag) size (body_size tag m.body h.1.cats m.carries) }

pub two_size : (tag : Tag) (size : ℕ) → IsSize tag size → tag ≡ Two → (size ≤ 30) × (2 * (size / 2) ≡ size)
two_size tag size fits is =
    let even : IsSize Two size = subst (λ t. IsSize t size) is fits in
    (even.0, omega (arith, even.1))

pub five_size : (tag : Tag) (size : ℕ) → IsSize tag size → tag ≡ Five → (size ≤ 28) × (2 * (size / 2) ≡ size)
five_size tag size fits is =
    let even : IsSize Five size = subst (λ t. IsSize t size) is fits in
    (even.0, omega (arith, even.1))

size_most : (tag : Tag) (size : ℕ) → IsSize tag size → size ≤ 30
size_most One size fits = fits
size_most Two size fits = omega (arith, fits)
size_most Five size fits = omega (arith, fits)

pub there_bounds : (tag : Tag) (n : ℕ) → HasLength tag n → (4 ≤ n) × (n ≤ 34)
there_bounds tag n h =
    let b = there_body tag n h in
    (b.low, omega (arith, b.low, size_most tag (n - 4) b.size))

pub shortest : (tag : Tag) → HasLength tag 4
shortest One = size_there One 0 (omega arith)
shortest Two = size_there Two 0 (omega arith, refl)
shortest Five = size_there Five 0 (omega arith, refl)
