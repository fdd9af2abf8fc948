-- A making from its first packet to its end: the round, what is appended behind it, and what that makes of the folder.
use Rattle.std.proofs.Common.{◌≡◌, ◌<◌, ℕ, ◌-◌, ◌^◌, true, false, IsTrue, List, [], length, take, All, Option, Some, None, nat_eq, refl, sym, ap, subst, ◌∙◌, arith, inl, inr}
use Rattle.std.proofs.lemmas.Bool.{eqb-true}
use Rattle.std.proofs.Math.Seq.{take-append_seam}
use Rattle.std.proofs.lemmas.List.{append-nil}
use Rattle.net_io.specs.Depot.{DepotState}
use Rattle.net_io.specs.Faults.{Rose, SameCounts}
use Rattle.pcap_frames.specs.Written.{capture_head_octets}
use Rattle.label_commands.specs.declared.flow_lines.hop.Hop.{Hop}
use Rattle.shared_tables.specs.Board.{ViewerState}
use Rattle.captures.specs.declared.packet_in.PacketIn.{PacketIn}
use Rattle.label_flow.specs.Pair.{PairState}
use Rattle.label_flow.specs.Round.{IsRound}
use Rattle.made_run.specs.made_capture.Capture.{capture_made}
use Rattle.made_run.specs.made_capture.Maker.{Making}
use Rattle.made_run.proofs.made_capture.Law.{captures_grow_by_a_frame}
use Rattle.made_run.specs.declared.feed.MakeFeed.{MakeFeed}
use Rattle.made_run.specs.declared.stop.MadeStop.{MadeStop}
use Rattle.made_run.specs.declared.stop.MadeStop.TheVariants.{Create, Append, OutOfMemory}
use Rattle.made_run.specs.Ends.{IsMakeCause, MakesCapture}
use Rattle.made_run.specs.inside.File.{IsSent, IsBegun, AppendsMove, HasAppended, HasSent, HasBegun}
use Rattle.made_run.specs.inside.Source.{packets_made, IsSentUpTo, IsBegunUpTo}
use Rattle.made_run.specs.inside.Node.{made_hops}
use Rattle.made_run.specs.inside.Feed.{delivered_in, denied_in, left_of, IsReadyFeed, HasJudged, IsNewFeed, HasRound, HasMade}
use Rattle.made_run.proofs.Round.{SitsAt, round_counts}
use Rattle.made_run.proofs.Sends.{appended_none, appended_more}
use Rattle.made_run.proofs.Steps.{begun_up_to, begun_on, sent_on}

-- ---- the round

still_moves : (name : List ℕ) (stop : Option MadeStop) (counts : List ℕ → ℕ) → stop ≡ None → AppendsMove name stop counts counts
still_moves name stop counts none = subst (λ (s : Option MadeStop). AppendsMove name s counts counts) (sym none) (λ other. refl)

pub judged_none : {D : Type 0} (folder : D → DepotState) (feed : MakeFeed D) → feed.stop ≡ None → HasJudged folder feed feed []
judged_none folder feed none =
    let delivered : delivered_in [] ≡ 0 = refl in
    let denied : denied_in [] ≡ 0 = refl in
    record {
      loan = refl;
      name = refl;
      count = refl;
      seed = refl;
      delivered = omega (arith, delivered);
      denied = omega (arith, denied);
      appended = appended_none feed.name.now feed.stop (folder feed.depot.now) (still_moves feed.name.now feed.stop (folder feed.depot.now).appends none);
    }

-- all packets were judged
pub judged_all : {D : Type 0} (folder : D → DepotState) (board : ℕ) (old new : MakeFeed D) (hops : List Hop) (packets : List PacketIn) (pairs : List PairState) (olds news : List ViewerState)
    → IsNewFeed folder old → length olds ≡ 4 → All (SitsAt board) olds → hops ≡ made_hops → IsRound hops 0 packets pairs olds news → left_of old ≡ packets
    → HasJudged folder old new pairs → IsReadyFeed folder new → new.stop ≡ None → nat_eq new.given new.count ≡ true → HasRound folder None old new
judged_all folder board old new hops packets pairs olds news fresh four seats way round whole judged ready stop ended =
    let seed = old.source.maker.seed in
    let all : old.count - old.given ≡ old.count = omega (arith, fresh.given) in
    let are : packets ≡ packets_made seed 0 old.count = sym whole ∙ (λ i. packets_made seed (fresh.given i) (all i)) in
    let mine : IsRound made_hops 0 (packets_made seed 0 old.count) pairs olds news =
    subst (λ hs. IsRound hs 0 (packets_made seed 0 old.count) pairs olds news) way (subst (λ ps. IsRound hops 0 ps pairs olds news) are round) in
    let counts = round_counts seed board old.count pairs olds news four seats mine in
    record {
      loan = judged.loan;
      name = judged.name;
      count = judged.count;
      seed = judged.seed;
      ready = ready;
      stop_is = stop;
      given = λ none. eqb-true new.given new.count ended;
      delivered = λ none. omega (arith, judged.delivered, fresh.delivered, counts.0);
      denied = λ none. omega (arith, judged.denied, fresh.denied, counts.1);
      appended = subst (λ (s : Option MadeStop). HasAppended old.name.now s (folder old.depot.now) (folder new.depot.now)) stop judged.appended;
    }

-- or the feed has stopped
pub judged_stops : {D : Type 0} (folder : D → DepotState) (stop : MadeStop) (old new : MakeFeed D) (pairs : List PairState) → HasJudged folder old new pairs → IsReadyFeed folder new → new.stop ≡ Some stop
    → HasRound folder (Some stop) old new
judged_stops folder stop old new pairs judged ready is = record {
  loan = judged.loan;
  name = judged.name;
  count = judged.count;
  seed = judged.seed;
  ready = ready;
  stop_is = is;
  given = λ none. absurd cc;
  delivered = λ none. absurd cc;
  denied = λ none. absurd cc;
  appended = subst (λ (s : Option MadeStop). HasAppended old.name.now s (folder old.depot.now) (folder new.depot.now)) is judged.appended;
}

-- or memory ran out beside it
pub judged_out : {D : Type 0} (folder : D → DepotState) (old new : MakeFeed D) (pairs : List PairState) → HasJudged folder old new pairs → IsReadyFeed folder new → new.stop ≡ None
    → HasRound folder (Some OutOfMemory) old (record new { stop = Some OutOfMemory })
judged_out folder old new pairs judged ready none =
    let appended = subst (λ (s : Option MadeStop). HasAppended old.name.now s (folder old.depot.now) (folder new.depot.now)) none judged.appended in
    record {
      loan = judged.loan;
      name = judged.name;
      count = judged.count;
      seed = judged.seed;
      ready = record { low = ready.low; within = ready.within; counts = ready.counts; made = λ no. absurd cc; sent = λ no. absurd cc; begun = ready.begun };
      stop_is = refl;
      given = λ no. absurd cc;
      delivered = λ no. absurd cc;
      denied = λ no. absurd cc;
      appended = record { told = appended.told; others = appended.others; reads = appended.reads; creates = appended.creates; moved = appended.moved };
    }

-- ---- what is appended behind it

begun_as : (seed seed' count count' : ℕ) (name name' : List ℕ) (folder : DepotState) → seed' ≡ seed → count' ≡ count → name' ≡ name → IsBegunUpTo seed' count' name' folder → IsBegunUpTo seed count name folder
begun_as seed seed' count count' name name' folder s c n was =
    subst (λ x. IsBegunUpTo x count name folder) s (subst (λ x. IsBegunUpTo seed' x name folder) c (subst (λ x. IsBegunUpTo seed' count' x folder) n was))

-- nothing waits any more
all_held : (text : List ℕ) (file : Option (List ℕ)) → IsSent text [] file → file ≡ Some text
all_held text file is = is.holds ∙ ap Some (sym (append-nil is.sent) ∙ is.all)

sent_as : (maker : Making) (seed count : ℕ) (waits name name' : List ℕ) (folder : DepotState) → maker.seed ≡ seed → maker.made ≡ count → name' ≡ name → IsSentUpTo maker waits name' folder
    → IsTrue folder.tells → IsSent (capture_made seed count) waits (folder.held name)
sent_as maker seed count waits name name' folder s c n was told =
    subst (λ x. IsSent (capture_made x count) waits (folder.held name)) s
    (subst (λ x. IsSent (capture_made maker.seed x) waits (folder.held name)) c (subst (λ x. IsSent (capture_made maker.seed maker.made) waits (folder.held x)) n (was told)))

-- what waits is appended where nothing has stopped the round
pub made_sent : {D : Type 0} (folder : D → DepotState) (stop : Option MadeStop) (was old new : MakeFeed D) → HasRound folder None was old
    → HasSent old.name.now stop old.waiting.items new.waiting.items (folder old.depot.now) (folder new.depot.now)
    → new.depot.ghost_name ≡ old.depot.ghost_name → new.delivered ≡ old.delivered → new.denied ≡ old.denied → HasMade folder stop was new
made_sent folder stop was old new round sent loan delivered denied =
    let before = folder old.depot.now in
    let after = folder new.depot.now in
    let name : old.name.now ≡ was.name.now = ap (λ n. n.now) round.name in
    let made : old.source.maker.made ≡ was.count = round.ready.made round.stop_is ∙ round.given refl ∙ round.count in
    let sent_all = round.ready.sent round.stop_is in
    record {
      loan = loan ∙ round.loan;
      delivered = λ none. delivered ∙ round.delivered refl;
      denied = λ none. denied ∙ round.denied refl;
      appended = appended_more was.name.now stop (folder was.depot.now) before after round.appended (subst (λ n. HasAppended n stop before after) name sent.appended);
      begun = begun_as _ _ _ _ _ _ after round.seed made name (begun_on stop old.source.maker old.waiting.items new.waiting.items old.name.now before after sent sent_all);
      whole = λ none told.
          let on = sent_on old.source.maker old.waiting.items new.waiting.items old.name.now before after (subst (λ (s : Option MadeStop). HasSent old.name.now s old.waiting.items new.waiting.items before after) none sent) sent_all in
          let here = sent_as old.source.maker was.source.maker.seed was.count new.waiting.items was.name.now old.name.now after round.seed made name on told in
          all_held (capture_made was.source.maker.seed was.count) (after.held was.name.now)
          (subst (λ ws. IsSent (capture_made was.source.maker.seed was.count) ws (after.held was.name.now)) (sent.sent none) here);
    }

pub made_cut : {D : Type 0} (folder : D → DepotState) (stop : MadeStop) (was old : MakeFeed D) → HasRound folder (Some stop) was old → HasMade folder (Some stop) was old
made_cut folder stop was old round = record {
  loan = round.loan;
  delivered = λ none. absurd cc;
  denied = λ none. absurd cc;
  appended = round.appended;
  begun = begun_as _ _ _ _ _ _ (folder old.depot.now) round.seed round.count (ap (λ n. n.now) round.name) round.ready.begun;
  whole = λ none. absurd cc;
}

-- memory ran out before the round
pub made_none : {D : Type 0} (folder : D → DepotState) (feed : MakeFeed D) → IsNewFeed folder feed → HasMade folder (Some OutOfMemory) feed feed
made_none folder feed fresh = record {
  loan = refl;
  delivered = λ none. absurd cc;
  denied = λ none. absurd cc;
  appended = appended_none feed.name.now (Some OutOfMemory) (folder feed.depot.now) (λ other. refl);
  begun = fresh.ready.begun;
  whole = λ none. absurd cc;
}

-- ---- the whole making

-- an empty file, and the head of the capture waits
pub new_feed : {D : Type 0} (folder : D → DepotState) (feed : MakeFeed D) (before : DepotState) → HasBegun feed.name.now None before (folder feed.depot.now)
    → (seed : ℕ) → ◌≡◌ {A = Making} feed.source.maker (record { seed = seed; made = 0 }) → feed.waiting.items ≡ capture_head_octets false
    → feed.count < 2 ^ 32 → feed.given ≡ 0 → feed.delivered ≡ 0 → feed.denied ≡ 0 → feed.stop ≡ None → IsNewFeed folder feed
new_feed folder feed before begun first maker head low given delivered denied stop =
    let after = folder feed.depot.now in
    let seed = feed.source.maker.seed in
    let none : feed.source.maker.made ≡ 0 = ap (λ (m : Making). m.made) maker in
    let sent : IsSentUpTo feed.source.maker feed.waiting.items feed.name.now after = λ told. record {
      sent = [];
      holds = begun.here refl (subst IsTrue begun.told told);
      all = head ∙ sym (captures_grow_by_a_frame.none seed) ∙ ap (capture_made seed) (sym none);
    } in
    record {
      ready = record {
        low = low;
        within = omega (arith, given);
        counts = omega (arith, given, delivered, denied);
        made = λ no. none ∙ sym given;
        sent = λ no. sent;
        begun = begun_up_to seed 0 feed.count feed.name.now after (omega arith)
            (λ told. (feed.waiting.items, subst (λ m. IsSent (capture_made seed m) feed.waiting.items (after.held feed.name.now)) none (sent told)));
      };
      given = given;
      delivered = delivered;
      denied = denied;
      stop = stop;
    }

-- the file holds some first octets
is_front : (text : List ℕ) (file : Option (List ℕ)) → IsBegun text file → (octets : ℕ) × (file ≡ Some (take octets text))
is_front text file begun =
    let sent = begun.1.sent in (
      length sent,
      begun.1.holds ∙ ap Some (sym (take-append_seam sent begun.0) ∙ ap (take (length sent)) begun.1.all),
    )

rose_on : (a b c : ℕ) → b ≡ a → Rose b c → Rose a c
rose_on a b c same rose = subst (λ (n : ℕ). Rose n c) same rose

causes : (name : List ℕ) (stop : Option MadeStop) (a b c : DepotState) → IsMakeCause name None a b → SameCounts b.creates c.creates → AppendsMove name stop b.appends c.appends → IsMakeCause name stop a c
causes name None a b c first creates moved = (λ other. creates other ∙ first.0 other, λ other. moved other ∙ first.1 other)
causes name (Some Create) a b c first creates moved = absurd moved
causes name (Some Append) a b c first creates moved = (λ other. creates other ∙ first.0 other, rose_on (a.appends name) (b.appends name) (c.appends name) (first.1 name) moved)
causes name (Some OutOfMemory) a b c first creates moved = (λ other. creates other ∙ first.0 other, λ other. moved other ∙ first.1 other)

pub captures : (seed count : ℕ) (name : List ℕ) (stop : Option MadeStop) (before begun after : DepotState) → HasBegun name None before begun → HasAppended name stop begun after → IsBegunUpTo seed count name after
    → (stop ≡ None → IsTrue after.tells → after.held name ≡ Some (capture_made seed count)) → MakesCapture seed count name stop before after
captures seed count name stop before begun after first appended some whole =
    let told : after.tells ≡ before.tells = appended.told ∙ first.told in
    record {
      told = told;
      begun = λ tells. inr (is_front (capture_made seed count) (after.held name) (some (subst IsTrue (sym told) tells)));
      whole = λ none tells. whole none (subst IsTrue (sym told) tells);
      others = λ tells other apart. appended.others (subst IsTrue (sym first.told) tells) other apart ∙ first.others tells other apart;
      reads = λ other. appended.reads other ∙ first.reads other;
      cause = causes name stop before begun after first.cause appended.creates appended.moved;
    }

-- where the file couldn't be begun
pub captures_none : (seed count : ℕ) (name : List ℕ) (stop : MadeStop) (before after : DepotState) → HasBegun name (Some stop) before after → MakesCapture seed count name (Some stop) before after
captures_none seed count name stop before after first = record {
  told = first.told;
  begun = λ tells. inl (first.kept (λ none. absurd cc) tells);
  whole = λ none. absurd cc;
  others = first.others;
  reads = first.reads;
  cause = first.cause;
}

pub captures_so : (seed count : ℕ) (name : List ℕ) (stop : Option MadeStop) (before after last : DepotState) → last ≡ after → MakesCapture seed count name stop before after → MakesCapture seed count name stop before last
captures_so seed count name stop before after last same is = subst (λ folder. MakesCapture seed count name stop before folder) (sym same) is

-- by a feed that was new behind the making of the file
pub captures_from : {D : Type 0} (folder : D → DepotState) (stop : Option MadeStop) (old new : MakeFeed D) (seed : ℕ) (before : DepotState) → old.source.maker.seed ≡ seed
    → HasBegun old.name.now None before (folder old.depot.now) → HasMade folder stop old new → MakesCapture seed old.count old.name.now stop before (folder new.depot.now)
captures_from folder stop old new seed before same begun made =
    subst (λ s. MakesCapture s old.count old.name.now stop before (folder new.depot.now)) same
    (captures old.source.maker.seed old.count old.name.now stop before (folder old.depot.now) (folder new.depot.now) begun made.appended made.begun made.whole)
