use Rattle.std.proofs.Common.{◌≡◌, add-zero, ◌+◌, ◌%◌, ◌<◌, List, [], ◌∷◌, ◌++◌, length, take, get_or, append-nil, ap, sym, ◌∙◌, subst, arith, append_assoc, ⊎_elim, refl, true}
use Rattle.label_flow.specs.Pair.{PairState, pair}
use Rattle.label_flow.proofs.Works.{turn_on}
use Rattle.label_flow.proofs.Handing.{pick_room, placed_more, handing_more, are_first, next_found, read_any, pick_le, zero_at}
use Rattle.label_flow.proofs.rounds.hand_over.Goals as goal

pub loop-at-init : goal.loop-at-init
loop-at-init g c = record {
  due = add-zero _;
  ready = c.requires.ready;
  hops = refl;
  left = refl;
  stop = refl;
  turn = ap (λ n. n % length c.args.done.now) (sym (add-zero c.args.base));
  placed = record { long = c.requires.few; inside = omega arith; each = λ k less. zero_at 16 k };
  took = λ was hist took.
      let T : List PairState → Type 0 = λ rs. g.Q.Feed.took was c.args.feed.now rs in
      ([], record { each = λ k less. ap (λ n. take n (get_or c.args.done.now k [])) (zero_at 16 k); count = refl }, subst T (sym (append-nil hist)) took);
}

pub get-judged-requires : goal.get-judged-requires
get-judged-requires g c =
    let h = c.loop-at.invariant in
    let m = c.loop-at.turn in
    let mine = sym h.turn in
    let below : m < length c.args.done.now = omega (arith, c.requires.some, h.turn) in
    let d = c.index-done-worker.result in
    let is : d ≡ get_or c.args.done.now m [] = c.index-done-worker.is ∙ read_any c.args.done.now m d [] below in
    let room = pick_room m (length c.args.done.now) c.args.base c.args.packets.now c.loop-at.at (record { bytes = []; is_ip = true }) (omega arith) mine in
    omega (arith, h.placed.each m below, c.requires.room.each m below, ap length is, room)

pub accept-requires-clause-fits : goal.accept-requires-clause-fits
accept-requires-clause-fits g c =
    let h = c.loop-at.invariant in
    let m = c.loop-at.turn in
    let mine = sym h.turn in
    let below : m < length c.args.done.now = omega (arith, c.requires.some, h.turn) in
    let r : PairState = c.get-judged.result.now in
    let found = next_found c.args.done.now c.loop-at.places m c.index-done-worker.result r below c.index-done-worker.is c.get-judged.ensures in
    let may = c.requires.fits.each m (get_or c.loop-at.places m 0) r found in
    rw (h.hops, c.show-walked.ensures ∙ c.walked.ensures, c.octets.ensures) may

pub overflow_add-places : goal.overflow_add-places
overflow_add-places g c =
    let h = c.loop-at.invariant in
    let m = c.loop-at.turn in
    let mine = sym h.turn in
    let below : m < length c.args.done.now = omega (arith, c.requires.some, h.turn) in
    let room = pick_room m (length c.args.done.now) c.args.base c.args.packets.now c.loop-at.at (record { bytes = []; is_ip = true }) (omega arith) mine in
    omega (arith, h.placed.each m below, room, pick_le m (length c.args.done.now) c.args.base c.args.packets.now, c.requires.numbers)

pub returns-in-Err-clause-took : goal.returns-in-Err-clause-took
returns-in-Err-clause-took g c was hist took =
    let h = c.loop-at.invariant in
    let m = c.loop-at.turn in
    let mine = sym h.turn in
    let below : m < length c.args.done.now = omega (arith, c.requires.some, h.turn) in
    let r : PairState = c.get-judged.result.now in
    let found = next_found c.args.done.now c.loop-at.places m c.index-done-worker.result r below c.index-done-worker.is c.get-judged.ensures in
    let place = get_or c.loop-at.places m 0 in
    let t = h.took was hist took in
    let said = c.in-Err.ensures.cut was (hist ++ t.0) t.2 in
    let now : pair c.show-walked.result.now c.octets.result.now ≡ r = λ i. record { walked = (c.show-walked.ensures ∙ c.walked.ensures) i; octets = c.octets.ensures i } in
    let more = handing_more _ _ _ _ _ t.0 m (place + 1) r t.1 h.placed.long mine below refl found in
    let T : List PairState → Type 0 = λ rs. g.Q.Feed.took was c.accept.new.self rs in
    ⊎_elim (λ (old : T (hist ++ t.0)). (t.0, are_first _ _ _ _ _ _ t.1, omega (arith, t.1.count, h.placed.inside), old, tt))
    (λ (new : T ((hist ++ t.0) ++ pair c.show-walked.result.now c.octets.result.now ∷ [])).
    let whole : T (hist ++ (t.0 ++ r ∷ [])) = subst T (append_assoc hist t.0 (r ∷ [])) (subst (λ (q : PairState). T ((hist ++ t.0) ++ q ∷ [])) now new) in
    (t.0 ++ r ∷ [], are_first _ _ _ _ _ _ more, omega (arith, more.count), whole, tt))
    said

pub loop-at-preserved : goal.loop-at-preserved
loop-at-preserved g c =
    let h = c.loop-at.invariant in
    let m = c.loop-at.turn in
    let mine = sym h.turn in
    let below : m < length c.args.done.now = omega (arith, c.requires.some, h.turn) in
    let r : PairState = c.get-judged.result.now in
    let found = next_found c.args.done.now c.loop-at.places m c.index-done-worker.result r below c.index-done-worker.is c.get-judged.ensures in
    let place = get_or c.loop-at.places m 0 in
    let now : pair c.show-walked.result.now c.octets.result.now ≡ r = λ i. record { walked = (c.show-walked.ensures ∙ c.walked.ensures) i; octets = c.octets.ensures i } in
    let e = c.in_default.ensures in
    record {
      due = omega (arith, e.due, h.due);
      ready = c.accept.ensures.ready;
      hops = c.accept.ensures.hops ∙ h.hops;
      left = c.accept.ensures.left ∙ h.left;
      stop = e.stop ∙ h.stop;
      turn = turn_on _ _ _ _ (c.next_turn-turn.ensures (c.args.base + c.loop-at.at) h.turn);
      placed = placed_more _ _ _ _ _ (record { bytes = []; is_ip = true }) m (place + 1) h.placed (omega arith) mine below refl;
      took = λ was hist took.
          let T : List PairState → Type 0 = λ rs. g.Q.Feed.took was c.accept.new.self rs in
          let t = h.took was hist took in
          let more = handing_more _ _ _ _ _ t.0 m (place + 1) r t.1 h.placed.long mine below refl found in
          let new = e.took was (hist ++ t.0) t.2 in
          let whole : T (hist ++ (t.0 ++ r ∷ [])) = subst T (append_assoc hist t.0 (r ∷ [])) (subst (λ (q : PairState). T ((hist ++ t.0) ++ q ∷ [])) now new) in
          (t.0 ++ r ∷ [], more, whole);
    }

pub returns-clause-took : goal.returns-clause-took
returns-clause-took g c was hist took =
    let h = c.loop-at.invariant in
    let t = h.took was hist took in
    (t.0, are_first _ _ _ _ _ _ t.1, omega (arith, t.1.count, h.placed.inside), t.2, omega (arith, t.1.count, h.placed.inside, c.loop-at-test.false))
