-- Fronts of members: closed under shortening, and found by a member that agrees so far.
use Rattle.std.proofs.Common.{◌≡◌, ℕ, ◌<◌, ◌≤◌, List, [], ◌++◌, length, get_or, take, drop, sym, ap, subst, ◌∙◌, append_assoc, arith}
use Rattle.std.proofs.lemmas.List.{append-nil, take-take, take-append-drop, take-append-le, length-take, length-append, get_or-take, nil_from_length}
use Rattle.mls_label.specs.octet_grammar.Front.{IsFront, IsPrefixFree}

-- what agrees with s on n octets agrees on fewer
pub take_agree_less : (m n : ℕ) (t s : List ℕ) → m ≤ n → take n t ≡ take n s → take m t ≡ take m s
take_agree_less m n t s le e = sym (take-take m n t le) ∙ ap (take m) e ∙ take-take m n s le

-- and has the same octets there
pub at_agree : (o n : ℕ) (t s : List ℕ) → o < n → take n t ≡ take n s → get_or t o 0 ≡ get_or s o 0
at_agree o n t s lt e = sym (get_or-take n t o 0 lt) ∙ ap (λ x. get_or x o 0) e ∙ get_or-take n s o 0 lt

-- and is no shorter than n
pub long_agree : (n : ℕ) (t s : List ℕ) → n ≤ length s → take n t ≡ take n s → n ≤ length t
long_agree n t s le e = omega (arith, length-take n t, length-take n s, ap length e)

pub take_front : (n : ℕ) (s more : List ℕ) → n ≤ length s → take n (take n s ++ more) ≡ take n s
take_front n s more le =
    let long : n ≤ length (take n s) = omega (arith, length-take n s) in
    take-append-le n (take n s) more long ∙ take-take n n s (omega arith)

pub front_of_member : {V : Type 0} (G : List ℕ → V → Type 0) (s : List ℕ) (v : V) → G s v → IsFront G s
front_of_member G s v m = record { more = []; value = v; member = subst (λ x. G x v) (sym (append-nil s)) m }

pub front_part : {V : Type 0} (G : List ℕ → V → Type 0) (a b : List ℕ) → IsFront G (a ++ b) → IsFront G a
front_part G a b f = record { more = b ++ f.more; value = f.value; member = subst (λ x. G x f.value) (append_assoc a b f.more) f.member }

pub front_take : {V : Type 0} (G : List ℕ → V → Type 0) (n : ℕ) (s : List ℕ) → IsFront G s → IsFront G (take n s)
front_take G n s f = front_part G (take n s) (drop n s) (subst (IsFront G) (sym (take-append-drop n s)) f)

pub front_less : {V : Type 0} (G : List ℕ → V → Type 0) (m n : ℕ) (s : List ℕ) → m ≤ n → IsFront G (take n s) → IsFront G (take m s)
front_less G m n s le f = subst (IsFront G) (take-take m n s le) (front_take G m (take n s) f)

-- the witness: a member that agrees with s so far
pub front_agree : {V : Type 0} (G : List ℕ → V → Type 0) (s t : List ℕ) (o : ℕ) (v : V) → G t v → take o t ≡ take o s → IsFront G (take o s)
front_agree G s t o v m e = subst (IsFront G) e (front_take G o t (front_of_member G t v m))

-- a member of a prefix-free grammar is no shorter than a front of another with which it begins
pub member_long : {V : Type 0} (G : List ℕ → V → Type 0) (free : IsPrefixFree G) (s : List ℕ) (n o : ℕ) (v : V) → o ≤ length s → IsFront G (take o s) → G (take n s) v → n < o → ⊥
member_long G free s n o v le f m lt =
    let split : take n s ++ drop n (take o s) ≡ take o s =
    ap (λ x. x ++ drop n (take o s)) (sym (take-take n o s (omega arith))) ∙ take-append-drop n (take o s) in
    let whole : take n s ++ (drop n (take o s) ++ f.more) ≡ take o s ++ f.more =
    sym (append_assoc (take n s) (drop n (take o s)) f.more) ∙ ap (λ x. x ++ f.more) split in
    let same = free (take n s) (drop n (take o s) ++ f.more) v f.value m (subst (λ x. G x f.value) (sym whole) f.member) in
    let e : length (take o s ++ f.more) ≡ length (take n s) = ap length (sym whole ∙ same.0) in
    omega (arith, e, length-append (take o s) f.more, length-take o s, length-take n s)

-- Where a member's front can be no shorter member, and each member has one value, no member begins another.
pub free_by_length : {V : Type 0} (G : List ℕ → V → Type 0) → ((a b : List ℕ) (v w : V) → G a v → G (a ++ b) w → length (a ++ b) ≡ length a) → ((t : List ℕ) (v w : V) → G t v → G t w → v ≡ w) → IsPrefixFree G
free_by_length G long once a b v w m n =
    let none : b ≡ [] = nil_from_length b (omega (arith, long a b v w m n, length-append a b)) in
    let whole : a ++ b ≡ a = ap (λ x. a ++ x) none ∙ append-nil a in
    (whole, once a v w m (subst (λ x. G x w) whole n))
