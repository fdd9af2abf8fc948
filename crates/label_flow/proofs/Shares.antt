-- What the workers made of a batch, each of a batch of its own that stands at the same number, is what they made of one batch.
use Rattle.std.proofs.Common.{◌≡◌, ◌≢◌, ⊎_elim, get_or-set_same, get_or-set_other, le_refl, ℕ, zero, suc, ◌+◌, ◌%◌, ◌<◌, ◌≤◌, Bool, true, false, List, [], ◌∷◌, length, take, drop, set, get_or, slice_get, Some, None, Option, nat_eq, refl, sym, ◌∙◌, ap, subst, le_trans, arith, add-zero}
use Rattle.std.proofs.lemmas.Bool.{cases_eq}
use Rattle.std.proofs.lemmas.Bool.Decides.{nat_tests}
use Rattle.std.proofs.lemmas.Nat.{mod_below}
use Rattle.label_commands.specs.declared.flow_lines.hop.Hop.{Hop}
use Rattle.shared_tables.specs.Board.{ViewerState}
use Rattle.captures.specs.declared.packet_in.PacketIn.{PacketIn}
use Rattle.label_flow.specs.Pair.{PairState}
use Rattle.label_flow.specs.Feed.{MayAccept}
use Rattle.label_flow.specs.Round.{pick, IsWork, IsLater, AreLater}
use Rattle.label_flow.specs.declared.work.Part.{Part}
use Rattle.label_flow.specs.inside.Work.{AreWorks}
use Rattle.label_flow.specs.inside.Crew.{IsTold, IsShare, AreShared}
use Rattle.label_flow.proofs.Works.{pick_mine, pick_other}
use Rattle.label_flow.proofs.Handing.{read_any}
use Rattle.label_flow.proofs.Batches.{pick_all, work_fits}

abbrev head_or : List PacketIn → PacketIn
head_or [] = record { bytes = []; is_ip = true }
head_or (x ∷ xs) = x

abbrev tail_of : List PacketIn → List PacketIn
tail_of [] = []
tail_of (x ∷ xs) = xs

-- the packets of so many, from number n on, each as the list of its worker has it
abbrev weave : (ℕ → List PacketIn) → ℕ → ℕ → ℕ → List PacketIn
weave lists w n zero = []
weave lists w n (suc count) = head_or (lists (n % w)) ∷ weave (λ k. tail_of (lists k)) w (n + 1) count

weave_length : (lists : ℕ → List PacketIn) (w n count : ℕ) → length (weave lists w n count) ≡ count
weave_length lists w n zero = refl
weave_length lists w n (suc count) = ap suc (weave_length (λ k. tail_of (lists k)) w (n + 1) count)

weave_same : (lists : ℕ → List PacketIn) (all : List PacketIn) (w n count : ℕ) → 0 < w → length all ≡ count → ((k : ℕ) → k < w → lists k ≡ all) → weave lists w n count ≡ all
weave_same lists [] w n zero some is same = refl
weave_same lists (x ∷ xs) w n zero some is same = absurd (omega (arith, is))
weave_same lists [] w n (suc count) some is same = absurd (omega (arith, is))
weave_same lists (x ∷ xs) w n (suc count) some is same =
    let r = weave_same (λ k. tail_of (lists k)) xs w (n + 1) count some (omega (arith, is)) (λ k less. ap tail_of (same k less)) in
    ap (λ y. y ∷ weave (λ k. tail_of (lists k)) w (n + 1) count) (ap head_or (same (n % w) (mod_below n w some))) ∙ ap (λ zs. x ∷ zs) r

-- what is woven is told where each list is
weave_told : (told : Option (List PacketIn)) (lists : ℕ → List PacketIn) (w n count : ℕ) → 0 < w → ((k : ℕ) → k < w → IsTold told n (lists k)) → ((k : ℕ) → k < w → length (lists k) ≡ count)
    → IsTold told n (weave lists w n count)
weave_told None lists w n count some here long = tt
weave_told (Some all) lists w n count some here long =
    let part = take count (drop n all) in
    let same : (k : ℕ) → k < w → lists k ≡ part = λ k lt. here k lt ∙ ap (λ m. take m (drop n all)) (long k lt) in
    let e = weave_same lists part w n count some (ap length (sym (same 0 some)) ∙ long 0 some) same in
    e ∙ ap (λ m. take m (drop n all)) (sym (weave_length lists w n count))

-- what each worker has of its list is what it has of the woven one
pick_none : (k w n : ℕ) (xs : List PacketIn) → length xs ≡ 0 → pick k w n xs ≡ []
pick_none k w n [] is = refl
pick_none k w n (x ∷ xs) is = absurd (omega (arith, is))

weave_step : (k w n : ℕ) (x h : PacketIn) (xs ws : List PacketIn) → pick k w (n + 1) ws ≡ pick k w (n + 1) xs → (n % w ≡ k → h ≡ x) → pick k w n (h ∷ ws) ≡ pick k w n (x ∷ xs)
weave_step k w n x h xs ws rest same = go (nat_eq (n % w) k) refl
  where
    go : (b : Bool) → nat_eq (n % w) k ≡ b → pick k w n (h ∷ ws) ≡ pick k w n (x ∷ xs)
    go true e =
        let is : n % w ≡ k = grind (arith, nat_tests) in
        pick_mine k w n h ws is ∙ ap (λ zs. h ∷ zs) rest ∙ ap (λ y. y ∷ pick k w (n + 1) xs) (same is) ∙ sym (pick_mine k w n x xs is)
    go false e =
        let is : n % w ≢ k = grind (arith, nat_tests) in
        pick_other k w n h ws is ∙ rest ∙ sym (pick_other k w n x xs is)

pick_weave : (lists : ℕ → List PacketIn) (k w n count : ℕ) → length (lists k) ≡ count → pick k w n (weave lists w n count) ≡ pick k w n (lists k)
pick_weave lists k w n zero is = sym (pick_none k w n (lists k) is)
pick_weave lists k w n (suc count) is = go (lists k) refl (λ len. pick_weave (λ j. tail_of (lists j)) k w (n + 1) count len)
  where
    go : (xs : List PacketIn) → lists k ≡ xs
        → (length (tail_of (lists k)) ≡ count → pick k w (n + 1) (weave (λ j. tail_of (lists j)) w (n + 1) count) ≡ pick k w (n + 1) (tail_of (lists k)))
        → pick k w n (weave lists w n (suc count)) ≡ pick k w n (lists k)
    go [] e rec = absurd (omega (arith, is, ap length e))
    go (x ∷ xs) e rec =
        let rest = rec (ap (λ l. length (tail_of l)) e ∙ omega (arith, is, ap length e)) in
        weave_step k w n x (head_or (lists (n % w))) xs (weave (λ j. tail_of (lists j)) w (n + 1) count) (rest ∙ ap (λ l. pick k w (n + 1) (tail_of l)) e)
        (λ here. ap (λ j. head_or (lists j)) here ∙ ap head_or e)
        ∙ ap (pick k w n) (sym e)

-- worker k and those after it, each with its share
abbrev AreShares : List Hop → Option (List PacketIn) → ℕ → ℕ → ℕ → ℕ → List ViewerState → List (List PairState) → List ViewerState → Type 0
AreShares hops told w n count k [] [] [] = Unit {0}
AreShares hops told w n count k (v ∷ vs) (d ∷ ds) (u ∷ us) = IsShare hops told k w n count v d u × AreShares hops told w n count (k + 1) vs ds us
AreShares hops told w n count k _ _ _ = ⊥

shares_each : (hops : List Hop) (told : Option (List PacketIn)) (w n count k : ℕ) (vs : List ViewerState) (ds : List (List PairState)) (us : List ViewerState) → length ds ≡ length vs → length us ≡ length vs
    → ((j : ℕ) (d : ViewerState) → j < length vs → IsShare hops told (k + j) w n count (get_or vs j d) (get_or ds j []) (get_or us j d)) → AreShares hops told w n count k vs ds us
shares_each hops told w n count k [] [] [] a b h = tt
shares_each hops told w n count k [] [] (u ∷ us) a b h = absurd (omega (arith, b))
shares_each hops told w n count k [] (d ∷ ds) us a b h = absurd (omega (arith, a))
shares_each hops told w n count k (v ∷ vs) [] us a b h = absurd (omega (arith, a))
shares_each hops told w n count k (v ∷ vs) (d ∷ ds) [] a b h = absurd (omega (arith, b))
shares_each hops told w n count k (v ∷ vs) (d ∷ ds) (u ∷ us) a b h = (
  subst (λ (i : ℕ). IsShare hops told i w n count v d u) (add-zero k) (h 0 v (omega arith)),
  shares_each hops told w n count (k + 1) vs ds us (omega (arith, a)) (omega (arith, b))
      (λ j e lt. subst (λ (i : ℕ). IsShare hops told i w n count (get_or vs j e) (get_or ds j []) (get_or us j e)) (omega arith) (h (suc j) e (omega (arith, lt)))),
)

-- the batches of which the shares are
abbrev batches : (hops : List Hop) (told : Option (List PacketIn)) (w n count k : ℕ) (vs : List ViewerState) (ds : List (List PairState)) (us : List ViewerState) → AreShares hops told w n count k vs ds us
    → List (List PacketIn)
batches hops told w n count k [] ds us h = []
batches hops told w n count k (v ∷ vs) [] us h = []
batches hops told w n count k (v ∷ vs) (d ∷ ds) [] h = []
batches hops told w n count k (v ∷ vs) (d ∷ ds) (u ∷ us) h = h.0.packets ∷ batches hops told w n count (k + 1) vs ds us h.1

batches_long : (hops : List Hop) (told : Option (List PacketIn)) (w n count k : ℕ) (vs : List ViewerState) (ds : List (List PairState)) (us : List ViewerState) (h : AreShares hops told w n count k vs ds us)
    → (j : ℕ) → j < length vs → length (get_or (batches hops told w n count k vs ds us h) j []) ≡ count
batches_long hops told w n count k [] ds us h j lt = absurd (omega (arith, lt))
batches_long hops told w n count k (v ∷ vs) [] us h j lt = absurd h
batches_long hops told w n count k (v ∷ vs) (d ∷ ds) [] h j lt = absurd h
batches_long hops told w n count k (v ∷ vs) (d ∷ ds) (u ∷ us) h zero lt = h.0.count_is
batches_long hops told w n count k (v ∷ vs) (d ∷ ds) (u ∷ us) h (suc j) lt = batches_long hops told w n count (k + 1) vs ds us h.1 j (omega (arith, lt))

batches_told : (hops : List Hop) (told : Option (List PacketIn)) (w n count k : ℕ) (vs : List ViewerState) (ds : List (List PairState)) (us : List ViewerState) (h : AreShares hops told w n count k vs ds us)
    → (j : ℕ) → j < length vs → IsTold told n (get_or (batches hops told w n count k vs ds us h) j [])
batches_told hops told w n count k [] ds us h j lt = absurd (omega (arith, lt))
batches_told hops told w n count k (v ∷ vs) [] us h j lt = absurd h
batches_told hops told w n count k (v ∷ vs) (d ∷ ds) [] h j lt = absurd h
batches_told hops told w n count k (v ∷ vs) (d ∷ ds) (u ∷ us) h zero lt = h.0.told
batches_told hops told w n count k (v ∷ vs) (d ∷ ds) (u ∷ us) h (suc j) lt = batches_told hops told w n count (k + 1) vs ds us h.1 j (omega (arith, lt))

-- each made its pairs of what it has of one list, where that is what it has of its batch
shares_work : (hops : List Hop) (told : Option (List PacketIn)) (w n count : ℕ) (woven : List PacketIn) (k : ℕ) (vs : List ViewerState) (ds : List (List PairState)) (us : List ViewerState)
    (h : AreShares hops told w n count k vs ds us)
    → ((j : ℕ) → j < length vs → pick (k + j) w n woven ≡ pick (k + j) w n (get_or (batches hops told w n count k vs ds us h) j [])) → AreWorks hops w n woven k vs ds us
shares_work hops told w n count woven k [] [] [] h same = tt
shares_work hops told w n count woven k [] [] (u ∷ us) h same = absurd h
shares_work hops told w n count woven k [] (d ∷ ds) us h same = absurd h
shares_work hops told w n count woven k (v ∷ vs) [] us h same = absurd h
shares_work hops told w n count woven k (v ∷ vs) (d ∷ ds) [] h same = absurd h
shares_work hops told w n count woven k (v ∷ vs) (d ∷ ds) (u ∷ us) h same =
    let here : pick k w n woven ≡ pick k w n h.0.packets = subst (λ (i : ℕ). pick i w n woven ≡ pick i w n h.0.packets) (add-zero k) (same 0 (omega arith)) in (
      subst (λ (zs : List PacketIn). IsWork v.plan hops v.seen zs d u.seen) (sym here) h.0.work,
      shares_work hops told w n count woven (k + 1) vs ds us h.1
          (λ j lt. subst (λ (i : ℕ). pick i w n woven ≡ pick i w n (get_or (batches hops told w n count (k + 1) vs ds us h.1) j [])) (omega arith) (same (suc j) (omega (arith, lt)))),
    )

shares_fit : (hops : List Hop) (told : Option (List PacketIn)) (w n count k : ℕ) (vs : List ViewerState) (ds : List (List PairState)) (us : List ViewerState) → AreShares hops told w n count k vs ds us
    → (i j : ℕ) (r : PairState) → slice_get (get_or ds i []) j ≡ Some r → MayAccept (length hops) r.walked.end r.octets
shares_fit hops told w n count k vs [] us h i j r at = absurd (cc (at))
shares_fit hops told w n count k [] (d ∷ ds) us h i j r at = absurd h
shares_fit hops told w n count k (v ∷ vs) (d ∷ ds) [] h i j r at = absurd h
shares_fit hops told w n count k (v ∷ vs) (d ∷ ds) (u ∷ us) h zero j r at =
    work_fits v.plan hops v.seen u.seen (pick k w n h.0.packets) d (pick_all k w n h.0.packets h.0.short) h.0.work j r at
shares_fit hops told w n count k (v ∷ vs) (d ∷ ds) (u ∷ us) h (suc i) j r at = shares_fit hops told w n count (k + 1) vs ds us h.1 i j r at

pub all_shared : (hops : List Hop) (told : Option (List PacketIn)) (part : Part) (vs : List ViewerState) (ds : List (List PairState)) (us : List ViewerState) → 0 < length vs → part.workers ≡ length vs
    → length ds ≡ length vs → length us ≡ length vs
    → ((j : ℕ) (d : ViewerState) → j < length vs → IsShare hops told j part.workers part.base part.count (get_or vs j d) (get_or ds j []) (get_or us j d))
    → AreShared hops told part vs ds us
all_shared hops told part vs ds us some w a b each =
    let n = part.base in
    let count = part.count in
    let m = length vs in
    let each' : (j : ℕ) (d : ViewerState) → j < m → IsShare hops told (0 + j) m n count (get_or vs j d) (get_or ds j []) (get_or us j d) =
    λ j d lt. subst (λ (i : ℕ). IsShare hops told i m n count (get_or vs j d) (get_or ds j []) (get_or us j d)) (omega arith)
    (subst (λ (l : ℕ). IsShare hops told j l n count (get_or vs j d) (get_or ds j []) (get_or us j d)) w (each j d lt)) in
    let h = shares_each hops told m n count 0 vs ds us a b each' in
    let lists : ℕ → List PacketIn = λ j. get_or (batches hops told m n count 0 vs ds us h) j [] in
    let woven = weave lists m n count in
    let long = batches_long hops told m n count 0 vs ds us h in
    record {
      packets = woven;
      count_is = weave_length lists m n count;
      told = weave_told told lists m n count some (batches_told hops told m n count 0 vs ds us h) long;
      works = shares_work hops told m n count woven 0 vs ds us h
          (λ j lt. subst (λ (i : ℕ). pick i m n woven ≡ pick i m n (lists j)) (omega arith) (pick_weave lists j m n count (long j lt)));
      fits = record { each = shares_fit hops told m n count 0 vs ds us h };
    }

pub later_each : (vs us : List ViewerState) → length us ≡ length vs → ((k : ℕ) (d : ViewerState) → k < length vs → IsLater (get_or vs k d) (get_or us k d)) → AreLater vs us
later_each [] [] len h = tt
later_each [] (u ∷ us) len h = absurd (omega (arith, len))
later_each (v ∷ vs) [] len h = absurd (omega (arith, len))
later_each (v ∷ vs) (u ∷ us) len h = (h 0 v (omega arith), later_each vs us (omega (arith, len)) (λ k d lt. h (suc k) d (omega (arith, lt))))

pub later_at : (vs us : List ViewerState) → AreLater vs us → (k : ℕ) (d : ViewerState) → k < length vs → IsLater (get_or vs k d) (get_or us k d)
later_at [] us h k d lt = absurd (omega (arith, lt))
later_at (v ∷ vs) [] h k d lt = absurd h
later_at (v ∷ vs) (u ∷ us) h zero d lt = h.0
later_at (v ∷ vs) (u ∷ us) h (suc k) d lt = later_at vs us h.1 k d (omega (arith, lt))

pub later_set : (vs us : List ViewerState) (k : ℕ) (x : ViewerState) → AreLater vs us → ((d : ViewerState) → IsLater (get_or us k d) x) → AreLater vs (set us k x)
later_set [] [] k x h one = tt
later_set [] (u ∷ us) k x h one = absurd h
later_set (v ∷ vs) [] k x h one = absurd h
later_set (v ∷ vs) (u ∷ us) zero x h one =
    let l : IsLater u x = one u in
    (record { board = l.board ∙ h.0.board; plan = l.plan ∙ h.0.plan; seen = le_trans h.0.seen l.seen }, h.1)
later_set (v ∷ vs) (u ∷ us) (suc k) x h one = (h.0, later_set vs us k x h.1 one)

-- one share more
pub mine_more : (hops : List Hop) (told : Option (List PacketIn)) (w n count at : ℕ) (fs vs : List ViewerState) (ds : List (List PairState)) (v x : ViewerState) (e : List PairState)
    → at < length vs → at < length ds → v ≡ get_or vs at v → ((k : ℕ) (d : ViewerState) → at ≤ k → get_or vs k d ≡ get_or fs k d)
    → ((k : ℕ) (d : ViewerState) → k < at → IsShare hops told k w n count (get_or fs k d) (get_or ds k []) (get_or vs k d)) → IsShare hops told at w n count v e x
    → (k : ℕ) (d : ViewerState) → k < at + 1 → IsShare hops told k w n count (get_or fs k d) (get_or (set ds at e) k []) (get_or (set vs at x) k d)
mine_more hops told w n count at fs vs ds v x e inside room here others mine share k d lt = ⊎_elim same other (cases_eq at k)
  where
    same : at ≡ k → IsShare hops told k w n count (get_or fs k d) (get_or (set ds at e) k []) (get_or (set vs at x) k d)
    same is =
        let first : v ≡ get_or fs at d = here ∙ read_any vs at v d inside ∙ others at d (le_refl at) in
        let a = subst (λ (y : ViewerState). IsShare hops told at w n count y e x) first share in
        let b = subst (λ (ys : List PairState). IsShare hops told at w n count (get_or fs at d) ys x) (sym (get_or-set_same ds at e [] room)) a in
        let c = subst (λ (y : ViewerState). IsShare hops told at w n count (get_or fs at d) (get_or (set ds at e) at []) y) (sym (get_or-set_same vs at x d inside)) b in
        subst (λ (j : ℕ). IsShare hops told j w n count (get_or fs j d) (get_or (set ds at e) j []) (get_or (set vs at x) j d)) is c

    other : at ≢ k → IsShare hops told k w n count (get_or fs k d) (get_or (set ds at e) k []) (get_or (set vs at x) k d)
    other apart =
        let less : k < at = omega (arith, lt, apart) in
        let b = subst (λ (ys : List PairState). IsShare hops told k w n count (get_or fs k d) ys (get_or vs k d)) (sym (get_or-set_other ds at k e [] (λ (t : k ≡ at). apart (sym t)))) (mine k d less) in
        subst (λ (y : ViewerState). IsShare hops told k w n count (get_or fs k d) (get_or (set ds at e) k []) y) (sym (get_or-set_other vs at k x d (λ (t : k ≡ at). apart (sym t)))) b
