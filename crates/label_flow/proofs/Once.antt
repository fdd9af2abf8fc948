-- A schedule gives one list of versions.
use Rattle.std.proofs.Common.{◌≡◌, ℕ, ◌+◌, ◌%◌, List, [], ◌∷◌, ◌++◌, refl, sym, ◌∙◌, ap, subst}
use Rattle.label_commands.specs.declared.flow_lines.hop.Hop.{Hop}
use Rattle.shared_tables.specs.Plan.{PlanState}
use Rattle.captures.specs.declared.packet_in.PacketIn.{PacketIn}
use Rattle.label_flow.proofs.packet_walk.Law.{walks_are_cut_in_one_way}
use Rattle.label_flow.specs.Schedule.{FlowEvent, looks_of, left_to, AreJudged, IsPlay}
use Rattle.label_flow.proofs.EachWalk.{rest_same, cons_same}

rest_of : (a xs ys : List ℕ) → a ++ xs ≡ a ++ ys → xs ≡ ys
rest_of [] xs ys is = is
rest_of (x ∷ a) xs ys is = rest_of a xs ys (rest_same is)

judged_once : (plan : PlanState) (hops : List Hop) (w n : ℕ) (ps : List PacketIn) (looks : ℕ → List ℕ) (xs ys : List (List ℕ)) → AreJudged plan hops w n ps looks xs → AreJudged plan hops w n ps looks ys → xs ≡ ys
judged_once plan hops w n [] looks [] [] x y = refl
judged_once plan hops w n [] looks [] (b ∷ ys) x y = absurd y
judged_once plan hops w n [] looks (a ∷ xs) ys x y = absurd x
judged_once plan hops w n (p ∷ ps) looks [] ys x y = absurd x
judged_once plan hops w n (p ∷ ps) looks (a ∷ xs) [] x y = absurd y
judged_once plan hops w n (p ∷ ps) looks (a ∷ xs) (b ∷ ys) x y =
    let both : a ++ x.0 ≡ b ++ y.0 = sym x.1 ∙ y.1 in
    let one : a ≡ b = walks_are_cut_in_one_way plan hops p a b x.0 y.0 x.2.0 y.2.0 x.2.1 y.2.1 both x.2.2 y.2.2 in
    let left : y.0 ≡ x.0 = sym (rest_of a x.0 y.0 (both ∙ ap (λ (vs : List ℕ). vs ++ y.0) (sym one))) in
    let there = subst (λ (rest : List ℕ). AreJudged plan hops w (n + 1) ps (left_to (n % w) rest looks) ys) left y.3 in
    cons_same one (judged_once plan hops w (n + 1) ps (left_to (n % w) x.0 looks) xs ys x.3 there)

pub plays_once : (plan : PlanState) (hops : List Hop) (w before after : ℕ) (packets : List PacketIn) (events : List FlowEvent) (seen seen' : List (List ℕ))
    → IsPlay plan hops w before after packets events seen → IsPlay plan hops w before after packets events seen' → seen ≡ seen'
plays_once plan hops w before after packets events seen seen' x y = judged_once plan hops w 0 packets (λ k. looks_of k before events) seen seen' x.judged y.judged
