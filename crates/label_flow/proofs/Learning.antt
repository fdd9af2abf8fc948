-- What a round was for its viewers, once each has learned of what was judged in its name.
use Rattle.std.proofs.Common.{◌≡◌, ℕ, suc, ◌+◌, ◌<◌, ◌≤◌, max, List, [], ◌∷◌, length, get_or, All, Bool, Option, Result, Ok, Err, OnOk, append-nil, refl, sym, ◌∙◌, ap, subst, le_trans, arith}
use Rattle.label_commands.specs.declared.flow_lines.hop.Hop.{Hop}
use Rattle.shared_tables.specs.Plan.{PlanState}
use Rattle.shared_tables.specs.Board.{ViewerState}
use Rattle.captures.specs.declared.packet_in.PacketIn.{PacketIn}
use Rattle.label_flow.specs.Pair.{PairState}
use Rattle.label_flow.specs.Feed.{AreWhole}
use Rattle.label_flow.specs.Stops.{IsStop}
use Rattle.label_flow.specs.declared.rounds.RoundStop.{RoundStop}
use Rattle.label_flow.specs.declared.rounds.RoundStop.TheVariants.{OutOfMemory}
use Rattle.label_flow.specs.Round.{pick, IsWork, IsLater, AreLater, AreRounds}
use Rattle.label_flow.specs.inside.Work.{TakesRound}
use Rattle.label_flow.specs.inside.Crew.{IsServant, HasLed, HaveLearnt, AreOfOne}
use Rattle.label_flow.proofs.Batches.{later_length, none_round, begun_none}
use Rattle.label_flow.proofs.Shares.{later_each, later_at}

-- one has seen no less than another
abbrev AreAbove : List ViewerState → List ViewerState → Type 0
AreAbove us xs = (length xs ≡ length us) × ((k : ℕ) (d : ViewerState) → k < length us → (get_or us k d).seen ≤ (get_or xs k d).seen)

learnt_later : (v u x s : ViewerState) → IsLater v u → x ≡ record u { seen = max u.seen s.seen } → IsLater v x
learnt_later v u x s h is =
    let seen : x.seen ≡ max u.seen s.seen = ap (λ (y : ViewerState). y.seen) is in
    record { board = ap (λ (y : ViewerState). y.board) is ∙ h.board; plan = ap (λ (y : ViewerState). y.plan) is ∙ h.plan; seen = omega (arith, seen, h.seen) }

pub later_learnt : (vs us ss xs : List ViewerState) → AreLater vs us → HaveLearnt us ss xs → AreLater vs xs
later_learnt vs us ss xs h learn =
    let len = later_length vs us h in
    later_each vs xs (learn.same ∙ len) (λ k d lt. learnt_later (get_or vs k d) (get_or us k d) (get_or xs k d) (get_or ss k d) (later_at vs us h k d lt) (learn.each k d (omega (arith, lt, len))))

learnt_above : (us ss xs : List ViewerState) → length ss ≡ length us → HaveLearnt us ss xs → AreAbove ss xs
learnt_above us ss xs same learn = (
  learn.same ∙ sym same,
  λ k d lt.
      let seen : (get_or xs k d).seen ≡ max (get_or us k d).seen (get_or ss k d).seen = ap (λ (y : ViewerState). y.seen) (learn.each k d (omega (arith, lt, same))) in
      omega (arith, seen),
)

work_upper : (p : PlanState) (hops : List Hop) (seen now up : ℕ) (xs : List PacketIn) (rs : List PairState) → now ≤ up → IsWork p hops seen xs rs now → IsWork p hops seen xs rs up
work_upper p hops seen now up [] [] le h = le_trans h le
work_upper p hops seen now up [] (r ∷ rs) le h = absurd h
work_upper p hops seen now up (x ∷ xs) [] le h = absurd h
work_upper p hops seen now up (x ∷ xs) (r ∷ rs) le h = (h.0, h.1, work_upper p hops h.0 now up xs rs le h.2)

above_tail : (u x : ViewerState) (us xs : List ViewerState) → AreAbove (u ∷ us) (x ∷ xs) → AreAbove us xs
above_tail u x us xs h = (omega (arith, h.0), λ k d lt. h.1 (suc k) d (omega (arith, lt)))

rounds_upper : (hops : List Hop) (w n : ℕ) (ps : List PacketIn) (rs : List PairState) (k : ℕ) (vs us xs : List ViewerState) → AreAbove us xs → AreRounds hops w n ps rs k vs us → AreRounds hops w n ps rs k vs xs
rounds_upper hops w n ps rs k [] [] [] up h = tt
rounds_upper hops w n ps rs k [] [] (x ∷ xs) up h = absurd (omega (arith, up.0))
rounds_upper hops w n ps rs k [] (u ∷ us) xs up h = absurd h
rounds_upper hops w n ps rs k (v ∷ vs) [] xs up h = absurd h
rounds_upper hops w n ps rs k (v ∷ vs) (u ∷ us) [] up h = absurd (omega (arith, up.0))
rounds_upper hops w n ps rs k (v ∷ vs) (u ∷ us) (x ∷ xs) up h = (
  work_upper v.plan hops v.seen u.seen x.seen (pick k w n ps) (pick k w n rs) (up.1 0 u (omega arith)) h.0,
  rounds_upper hops w n ps rs (k + 1) vs us xs (above_tail u x us xs up) h.1,
)

-- what was taken under what was seen was taken under what the viewers have seen
pub takes_learnt : {Q : Type 0} (took : Q → Q → List PairState → Type 0) (old new : Q) (hops : List Hop) (left : Option (List PacketIn)) (told : List PacketIn → Type 0) (vs us ss xs : List ViewerState)
    → length ss ≡ length us → HaveLearnt us ss xs → TakesRound took old new hops 0 left told vs ss → TakesRound took old new hops 0 left told vs xs
takes_learnt took old new hops left told vs us ss xs same learn takes was h here =
    let t = takes was h here in
    let up = learnt_above us ss xs same learn in
    (t.0, t.1, record { each = rounds_upper hops (length vs) 0 t.0 t.1 0 vs ss xs up t.2.each; count = t.2.count }, t.3, t.4, t.5)

pub all_of_one : (board : ℕ) (plan : PlanState) (vs : List ViewerState) → All (λ (v : ViewerState). (v.plan ≡ plan) × (v.board ≡ board)) vs → AreOfOne vs
all_of_one board plan [] h = λ k d lt. absurd (omega (arith, lt))
all_of_one board plan (v ∷ vs) h = λ k d lt.
    let one = h k d lt in
    let first = h 0 v (omega arith) in
    (one.1 ∙ sym first.1, one.0 ∙ sym first.0)

-- nothing was done for want of memory
pub not_led : {Q A E : Type 0} (took : Q → Q → List PairState → Type 0) (left : Q → Option (List PacketIn)) (ended : Q → Bool) (due : Q → ℕ) (stop : Q → Option E) (told : Q → ℕ) (ready : Q → Type 0)
    (hops : List Hop) (r : Result A (RoundStop E)) (q : Q) (vs us : List ViewerState) → AreLater vs us → r ≡ Err OutOfMemory → ready q → HasLed took left ended due stop told ready hops r q q vs us
not_led took left ended due stop told ready hops (Ok a) q vs us later is here = absurd (cc (is))
not_led {Q} {A} {E} took left ended due stop told ready hops (Err e) q vs us later is here =
    let same : e ≡ OutOfMemory = cc (is) in record {
      later = later;
      leaves = record { hops_stay = refl; is_ready = here; ok = tt; err = subst (λ (f : RoundStop E). IsStop f (stop q) (stop q)) (sym same) refl };
      ok = tt;
      takes = λ was h took_h. ([], [], none_round hops 0 vs us later, begun_none (left q), subst (λ (rs : List PairState). took was q rs) (sym (append-nil h)) took_h, tt);
    }

-- what was judged under what was seen was judged for the viewers, which learned of it
pub led_learnt : {Q A E : Type 0} (took : Q → Q → List PairState → Type 0) (left : Q → Option (List PacketIn)) (ended : Q → Bool) (due : Q → ℕ) (stop : Q → Option E) (told : Q → ℕ) (ready : Q → Type 0)
    (hops : List Hop) (r : Result A (RoundStop E)) (old new : Q) (vs us ss ts xs : List ViewerState) → ss ≡ vs → AreLater vs us → HaveLearnt us ts xs
    → HasLed took left ended due stop told ready hops r old new ss ts → HasLed took left ended due stop told ready hops r old new vs xs
led_learnt took left ended due stop told ready hops r old new vs us ss ts xs same later learn led =
    let len : length ts ≡ length us = later_length ss ts led.later ∙ ap length same ∙ sym (later_length vs us later) in
    let R : List PacketIn → Type 0 = λ packets. OnOk r (AreWhole (left old) packets) in record {
      later = later_learnt vs us ts xs later learn;
      leaves = led.leaves;
      ok = led.ok;
      takes = takes_learnt took old new hops (left old) R vs us ts xs len learn (subst (λ (zs : List ViewerState). TakesRound took old new hops 0 (left old) R zs ts) same led.takes);
    }

pub later_boards : (board : ℕ) (plan : PlanState) (agreed hops : List Hop) (vs us : List ViewerState) → AreLater vs us → All (IsServant board plan agreed hops) vs → All (λ (v : ViewerState). v.board ≡ board) us
later_boards board plan agreed hops vs us h all = λ k d lt.
    let inside : k < length vs = omega (arith, lt, later_length vs us h) in
    (later_at vs us h k d inside).board ∙ (all k d inside).board_is
