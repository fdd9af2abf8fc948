-- How what is left of a report is judged, piece by piece.
use Rattle.std.proofs.Common.{◌≡◌, ◌≢◌, ◌<◌, ◌≤◌, ◌⊎◌, inl, inr, ℕ, ◌+◌, ◌-◌, Bool, true, false, List, [], ◌∷◌, ◌++◌, Some, refl, sym, ap, ◌∙◌, subst, arith, append_assoc}
use Rattle.std.specs.Prelude.{slice_get}
use Rattle.std.proofs.lemmas.Bool.{cases_lt, false≢true}
use Rattle.std.proofs.lemmas.List.{append-nil}
use Rattle.call_report.specs.report_file.Meeting.{DiffersBehind, lines_in}
use Rattle.label_audit.specs.inside.Awaited.{Awaited, BadBehind, BadFrom, ComesTo, GoodFrom}
use Rattle.label_audit.proofs.Fronts.{Whole, cut, lines-cons}

-- ---- beginnings of one text

pub rest_of : (a xs ys : List ℕ) → a ++ xs ≡ a ++ ys → xs ≡ ys
rest_of [] xs ys is = is
rest_of (x ∷ a) xs ys is = rest_of a xs ys (let tail : a ++ xs ≡ a ++ ys = cc in tail)

-- b goes on behind a
record Goes (a b x y : List ℕ) : Type 0 where
  more : List ℕ
  is : b ≡ a ++ more
  left : x ≡ more ++ y

goes_on : (o p : ℕ) (a b x y : List ℕ) → o ≡ p → Goes a b x y → Goes (o ∷ a) (p ∷ b) x y
goes_on o p a b x y same g = record { more = g.more; is = ap (λ n. n ∷ b) (sym same) ∙ ap (λ t. o ∷ t) g.is; left = g.left }

-- of two beginnings of one text one begins the other
split : (a b x y : List ℕ) → a ++ x ≡ b ++ y → Goes a b x y ⊎ Goes b a y x
split [] b x y is = inl (record { more = b; is = refl; left = is })
split (o ∷ a) [] x y is = inr (record { more = o ∷ a; is = refl; left = sym is })
split (o ∷ a) (p ∷ b) x y is =
    let head : o ≡ p = cc in
    let tail : a ++ x ≡ b ++ y = cc in
    elim (split a b x y tail) [
      | inl g ↦ inl (goes_on o p a b x y head g)
      | inr g ↦ inr (goes_on p o b a y x (sym head) g)
    ]

pub lines-append : (xs ys : List ℕ) → lines_in (xs ++ ys) ≡ lines_in xs + lines_in ys
lines-append [] ys = omega arith
lines-append (o ∷ xs) ys = omega (arith, lines-cons o (xs ++ ys), lines-cons o xs, lines-append xs ys)

no_octets : (o : ℕ) (xs : List ℕ) → [] ≡ o ∷ xs → ⊥
no_octets o xs is = absurd cc

-- what stands behind octets of whole lines is of whole lines
last_one : (z one : List ℕ) → 10 ∷ [] ≡ one ++ z → Whole z
last_one z [] is = inr ([], sym is)
last_one [] (o ∷ one) is = inl refl
last_one (p ∷ z) (o ∷ one) is = absurd (no_behind one p z (let tail : [] ≡ one ++ p ∷ z = cc in tail)) where
  no_behind : (one : List ℕ) (p : ℕ) (z : List ℕ) → [] ≡ one ++ p ∷ z → ⊥
  no_behind [] p z is = no_octets p z is
  no_behind (o ∷ one) p z is = no_octets o (one ++ p ∷ z) is

pub whole_behind : (t z : List ℕ) → Whole (t ++ z) → Whole z
whole_behind t z (inl none) = by t none where
  by : (t : List ℕ) → t ++ z ≡ [] → Whole z
  by [] is = inl is
  by (o ∷ t) is = absurd (no_octets o (t ++ z) (sym is))
whole_behind t z (inr last) = elim (split t last.0 z (10 ∷ []) last.1) [
  | inl g ↦ inr (g.more, g.left)
  | inr g ↦ last_one z g.more g.left
]

pub whole_both : (t z : List ℕ) → Whole t → Whole z → Whole (t ++ z)
whole_both t z first (inr last) = inr (t ++ last.0, ap (λ x. t ++ x) last.1 ∙ sym (append_assoc t last.0 (10 ∷ [])))
whole_both t z first (inl none) = subst Whole (sym (ap (λ x. t ++ x) none ∙ append-nil t)) first

-- whole lines that are none are no octets
pub none_whole : (z : List ℕ) → Whole z → lines_in z ≡ 0 → z ≡ []
none_whole z (inl none) few = none
none_whole z (inr last) few =
    let one : lines_in (10 ∷ []) ≡ 1 = refl in
    absurd (omega (arith, few, ap lines_in last.1, lines-append last.0 (10 ∷ []), one))

-- ---- a piece that stands there

abbrev pub Inhabits : Awaited → Type 0
Inhabits may = (text : List ℕ) × may false text

module _ (may may' : Awaited) (left left' text : List ℕ) (is : left ≡ text ++ left') (whole : Whole text)
    (up : (all : Bool) (more : List ℕ) → may' all more → may all (text ++ more)) (down : (all : Bool) (more : List ℕ) → may all (text ++ more) → may' all more) where
  good_behind : (k : ℕ) → GoodFrom may' left' k → GoodFrom may left (lines_in text + k)
  good_behind k g = record {
    front = text ++ g.front;
    first = record {
      rest = g.first.rest;
      is = is ∙ ap (λ t. text ++ t) g.first.is ∙ sym (append_assoc text g.front g.first.rest);
      count = lines-append text g.front ∙ ap (λ n. lines_in text + n) g.first.count;
      ends = whole_both text g.front whole g.first.ends;
    };
    more = g.more;
    printed = subst (may false) (sym (append_assoc text g.front g.more)) (up false (g.front ++ g.more) g.printed);
  }

  good_within : (k : ℕ) → k ≤ lines_in text → Inhabits may' → GoodFrom may left k
  good_within k few some =
      let c = cut k text few in
      record {
        front = c.front;
        first = record {
          rest = c.rest ++ left';
          is = is ∙ ap (λ t. t ++ left') c.is ∙ append_assoc c.front c.rest left';
          count = c.count;
          ends = c.whole;
        };
        more = c.rest ++ some.0;
        printed = subst (may false) (ap (λ t. t ++ some.0) c.is ∙ append_assoc c.front c.rest some.0) (up false some.0 some.1);
      }

  good_back : (k : ℕ) → 0 < k → GoodFrom may left (lines_in text + k) → GoodFrom may' left' k
  good_back k some g = elim (split text g.front left' g.first.rest (sym is ∙ g.first.is)) [
    | inl b ↦ record {
      front = b.more;
      first = record {
        rest = g.first.rest;
        is = b.left;
        count = omega (arith, g.first.count, ap lines_in b.is, lines-append text b.more);
        ends = whole_behind text b.more (subst Whole b.is g.first.ends);
      };
      more = g.more;
      printed = down false (b.more ++ g.more) (subst (may false) (ap (λ t. t ++ g.more) b.is ∙ append_assoc text b.more g.more) g.printed);
    }
    | inr b ↦ absurd (omega (arith, some, g.first.count, ap lines_in b.is, lines-append g.front b.more))
  ]

  bad_behind : (k : ℕ) → BadFrom may' left' k → BadFrom may left (lines_in text + k)
  bad_behind k b = record {
    some = omega (arith, b.some);
    before = λ j less. elim (cases_lt j (lines_in text)) [
      | inl within ↦ good_within j (omega (arith, within)) (let g = b.before 0 b.some in (g.front ++ g.more, g.printed))
      | inr behind ↦
          let same : lines_in text + (j - lines_in text) ≡ j = omega (arith, behind) in
          subst (GoodFrom may left) same (good_behind (j - lines_in text) (b.before (j - lines_in text) (omega (arith, less, behind))))
    ];
    bad = λ g. b.bad (good_back k b.some g);
    other = λ all. b.other (down true left' (subst (may true) is all));
  }

  -- what is left behind it tells the rest
  pub stands : (lines : ℕ) → ComesTo may left lines may' left' (lines + lines_in text)
  stands lines = record {
    yes = λ all. subst (may true) (sym is) (up true left' all);
    no = λ l b. record { here = lines_in text + b.here; is = omega (arith, b.is); bad = bad_behind b.here b.bad };
  }

-- ---- a piece that doesn't stand there

-- nothing, or this text and what may stand behind it
abbrev pub Opens : Awaited → List ℕ → Type 0
Opens may text = (all : Bool) (whole : List ℕ) → may all whole → ((all ≡ false) × (whole ≡ [])) ⊎ ((more : List ℕ) × (whole ≡ text ++ more))

module _ (may : Awaited) (left text : List ℕ) (lines : ℕ) (d : DiffersBehind lines left text) (some : (more : List ℕ) × may false (text ++ more)) (opens : Opens may text) where
  behind_is : (more : List ℕ) → text ++ more ≡ d.front ++ d.octet ∷ (d.more ++ more)
  behind_is more = ap (λ t. t ++ more) d.of_text ∙ append_assoc d.front (d.octet ∷ d.more) more

  stands_not : (more : List ℕ) → left ≡ text ++ more → ⊥
  stands_not more is =
      let same : d.behind ≡ d.octet ∷ (d.more ++ more) = rest_of d.front d.behind (d.octet ∷ (d.more ++ more)) (sym d.of_left ∙ is ∙ behind_is more) in
      d.other (ap (λ t. slice_get t 0) same)

  good_to : (k : ℕ) → k ≤ lines → GoodFrom may left k
  good_to k few =
      let c = cut k d.front (omega (arith, few, d.count)) in
      let rest = c.rest ++ d.octet ∷ (d.more ++ some.0) in
      let is : text ++ some.0 ≡ c.front ++ rest = behind_is some.0 ∙ ap (λ t. t ++ d.octet ∷ (d.more ++ some.0)) c.is ∙ append_assoc c.front c.rest (d.octet ∷ (d.more ++ some.0)) in
      record {
        front = c.front;
        first = record {
          rest = c.rest ++ d.behind;
          is = d.of_left ∙ ap (λ t. t ++ d.behind) c.is ∙ append_assoc c.front c.rest d.behind;
          count = c.count;
          ends = c.whole;
        };
        more = rest;
        printed = subst (may false) is some.1;
      }

  bad_by : (g : GoodFrom may left (lines + 1)) → (more : List ℕ) → g.front ++ g.more ≡ text ++ more → ⊥
  bad_by g more is = elim (split d.front g.front d.behind g.first.rest (sym d.of_left ∙ g.first.is)) [
    | inl b ↦
        let there : b.more ++ g.more ≡ d.octet ∷ (d.more ++ more) =
        rest_of d.front (b.more ++ g.more) (d.octet ∷ (d.more ++ more)) (sym (append_assoc d.front b.more g.more) ∙ ap (λ t. t ++ g.more) (sym b.is) ∙ is ∙ behind_is more) in
        let count : lines_in b.more ≡ 1 = omega (arith, g.first.count, ap lines_in b.is, lines-append d.front b.more, d.count) in
        d.other (ap (λ t. slice_get t 0) b.left ∙ first_of b.more count there)
    | inr b ↦ absurd (omega (arith, g.first.count, ap lines_in b.is, lines-append g.front b.more, d.count))
  ] where
    first_of : (z : List ℕ) → lines_in z ≡ 1 → z ++ g.more ≡ d.octet ∷ (d.more ++ more) → slice_get (z ++ g.first.rest) 0 ≡ Some d.octet
    first_of [] count there = absurd (omega (arith, count))
    first_of (o ∷ z) count there = let head : o ≡ d.octet = cc in ap Some head

  differing : BadFrom may left (lines + 1)
  differing = record {
    some = omega arith;
    before = λ k less. good_to k (omega (arith, less));
    bad = λ g. elim (opens false (g.front ++ g.more) g.printed) [
      | inl none ↦ absurd (no_front g.front g.more none.1 g.first.count)
      | inr there ↦ bad_by g there.0 there.1
    ];
    other = λ all. elim (opens true left all) [
      | inl none ↦ absurd (false≢true (sym none.0))
      | inr there ↦ stands_not there.0 there.1
    ];
  } where
    no_front : (front more : List ℕ) → front ++ more ≡ [] → lines_in front ≡ lines + 1 → ⊥
    no_front [] more is count = absurd (omega (arith, count))
    no_front (o ∷ front) more is count = no_octets o (front ++ more) (sym is)

  pub differs : (before : ℕ) → BadBehind may left before (before + lines + 1)
  differs before = record { here = lines + 1; is = omega arith; bad = differing }

-- ---- a line that may not stand there

-- one line, with its end
pub record OneLine (line : List ℕ) : Type 0 where
  pub whole : Whole line
  pub one : lines_in line ≡ 1

-- two lines in front of one text are one
pub same_line : (a b x y : List ℕ) → OneLine a → OneLine b → a ++ x ≡ b ++ y → (a ≡ b) × (x ≡ y)
same_line a b x y one other is = elim (split a b x y is) [
  | inl g ↦
      let none = none_whole g.more (whole_behind a g.more (subst Whole g.is other.whole)) (omega (arith, one.one, other.one, ap lines_in g.is, lines-append a g.more)) in
      (sym (g.is ∙ ap (λ t. a ++ t) none ∙ append-nil a), g.left ∙ ap (λ t. t ++ y) none)
  | inr g ↦
      let none = none_whole g.more (whole_behind b g.more (subst Whole g.is one.whole)) (omega (arith, one.one, other.one, ap lines_in g.is, lines-append b g.more)) in
      (g.is ∙ ap (λ t. b ++ t) none ∙ append-nil b, sym (g.left ∙ ap (λ t. t ++ x) none))
]

-- nothing, or a line of this kind and what may stand behind it
abbrev pub OpensWith : Awaited → (List ℕ → Type 0) → Type 0
OpensWith may Line = (all : Bool) (whole : List ℕ) → may all whole → ((all ≡ false) × (whole ≡ [])) ⊎ ((line : List ℕ) × (more : List ℕ) × OneLine line × Line line × (whole ≡ line ++ more))

module _ (may : Awaited) (left : List ℕ) (Line : List ℕ → Type 0) (nothing : may false []) (opens : OpensWith may Line) (none : (line more : List ℕ) → OneLine line → Line line → left ≡ line ++ more → ⊥) where
  no_line : BadFrom may left 1
  no_line = record {
    some = omega arith;
    before = λ k less. record {
      front = [];
      first = record { rest = left; is = refl; count = omega (arith, less); ends = inl refl };
      more = [];
      printed = nothing;
    };
    bad = λ g. elim (opens false (g.front ++ g.more) g.printed) [
      | inl empty ↦ absurd (no_front g.front g.more empty.1 g.first.count)
      | inr there ↦
          let one : OneLine g.front = record { whole = g.first.ends; one = g.first.count } in
          let same = same_line g.front there.0 g.more there.1 one there.2 there.4 in
          none g.front g.first.rest one (subst Line (sym same.0) there.3) g.first.is
    ];
    other = λ all. elim (opens true left all) [
      | inl empty ↦ absurd (false≢true (sym empty.0))
      | inr there ↦ none there.0 there.1 there.2 there.3 there.4
    ];
  } where
    no_front : (front more : List ℕ) → front ++ more ≡ [] → lines_in front ≡ 1 → ⊥
    no_front [] more is count = absurd (omega (arith, count))
    no_front (o ∷ front) more is count = no_octets o (front ++ more) (sym is)

  pub stands_none : (before : ℕ) → BadBehind may left before (before + 1)
  stands_none before = record { here = 1; is = refl; bad = no_line }

-- ---- the end

abbrev pub ended : Awaited
ended all text = text ≡ []

pub more_left : (left : List ℕ) (before : ℕ) → left ≢ [] → BadBehind ended left before (before + 1)
more_left left before some = record {
  here = 1;
  is = refl;
  bad = record {
    some = omega arith;
    before = λ k less. record { front = []; first = record { rest = left; is = refl; count = omega (arith, less); ends = inl refl }; more = []; printed = refl };
    bad = λ g. no_front g.front g.more g.printed g.first.count;
    other = some;
  };
} where
  no_front : (front more : List ℕ) → front ++ more ≡ [] → lines_in front ≡ 1 → ⊥
  no_front [] more is count = absurd (omega (arith, count))
  no_front (o ∷ front) more is count = no_octets o (front ++ more) (sym is)

pub comes_on : (a b c : Awaited) (left left' left'' : List ℕ) (n m k : ℕ) → ComesTo a left n b left' m → ComesTo b left' m c left'' k → ComesTo a left n c left'' k
comes_on a b c left left' left'' n m k first then = record { yes = λ all. first.yes (then.yes all); no = λ l bad. first.no l (then.no l bad) }
