-- The laws of src/laws.rt under their names, for the crates above.
use Rattle.std.proofs.Common.{◌≡◌, ℕ, ◌+◌, ◌<◌, ◌≤◌, List, All, length, take}
use Rattle.label_commands.specs.declared.flow_lines.hop.Hop.{Hop}
use Rattle.shared_tables.specs.Plan.{PlanState}
use Rattle.shared_tables.specs.Board.{ViewerState}
use Rattle.captures.specs.declared.packet_in.PacketIn.{PacketIn}
use Rattle.label_flow.specs.Schedule.{FlowEvent, AreLawful, IsPlay, by_version, rows_by, versions_in}
use Rattle.label_flow.specs.Pair.{PairState}
use Rattle.label_flow.specs.Round.{IsRound}
use Rattle.label_flow.specs.Walked.{AreWalked}
use Rattle.label_flow.proofs.Forced.{forced}
use Rattle.label_flow.proofs.Lawful.{round_lawful}
use Rattle.label_flow.proofs.Schedules.{is_lawful, is_played}
use Rattle.label_flow.proofs.Once.{plays_once}
use Rattle.label_flow.proofs.EachWalk.{round_walked, walked_over, lawful_over, walked_once}

pub plays_are_lawful : (plan : PlanState) (hops : List Hop) (w before after : ℕ) (packets : List PacketIn) (events : List FlowEvent) (seen : List (List ℕ)) → IsPlay plan hops w before after packets events seen
    → AreLawful plan hops w before after packets seen
plays_are_lawful = is_lawful

pub lawful_versions_are_played : (plan : PlanState) (hops : List Hop) (w before steps : ℕ) (packets : List PacketIn) (seen : List (List ℕ)) → 0 < w → AreLawful plan hops w before (before + steps) packets seen
    → IsPlay plan hops w before (before + steps) packets (by_version (rows_by w seen) w before steps) seen
lawful_versions_are_played = is_played

pub versions_without_steps_are_forced : (plan : PlanState) (hops : List Hop) (w w' version : ℕ) (packets : List PacketIn) (seen seen' : List (List ℕ)) → 0 < w → 0 < w' → AreLawful plan hops w version version packets seen
    → AreLawful plan hops w' version version packets seen' → seen ≡ seen'
versions_without_steps_are_forced = forced

pub rounds_are_lawful : (plan : PlanState) (hops : List Hop) (before : ℕ) (packets : List PacketIn) (pairs : List PairState) (olds news : List ViewerState) → before ≤ length plan.steps
    → All (λ (v : ViewerState). (v.plan ≡ plan) × (v.seen ≡ before)) olds → IsRound hops 0 packets pairs olds news → AreLawful plan hops (length olds) before (length plan.steps) packets (versions_in pairs)
rounds_are_lawful = round_lawful

pub rounds_walk_each_packet : (plan : PlanState) (hops : List Hop) (packets : List PacketIn) (pairs : List PairState) (olds news : List ViewerState) → 0 < length olds → All (λ (v : ViewerState). v.plan ≡ plan) olds
    → IsRound hops 0 packets pairs olds news → AreWalked plan hops packets pairs × All (λ (pair : PairState). All (λ v. v ≤ length plan.steps) pair.walked.versions) pairs
rounds_walk_each_packet = round_walked

pub record LawsOnBeginnings : Type 0 where
  pub walked : (plan : PlanState) (hops : List Hop) (m : ℕ) (packets : List PacketIn) (pairs : List PairState) → All (λ (pair : PairState). All (λ v. v ≤ m) pair.walked.versions) pairs
      → AreWalked (record plan { steps = take m plan.steps }) hops packets pairs → AreWalked plan hops packets pairs
  pub lawful : (plan : PlanState) (hops : List Hop) (w before after m : ℕ) (packets : List PacketIn) (seen : List (List ℕ)) → after ≤ m
      → AreLawful (record plan { steps = take m plan.steps }) hops w before after packets seen → AreLawful plan hops w before after packets seen

pub flows_agree_on_a_beginning : LawsOnBeginnings
flows_agree_on_a_beginning = record { walked = walked_over; lawful = lawful_over }

pub walked_packets_are_determined : (plan : PlanState) (hops : List Hop) (packets : List PacketIn) (pairs pairs' : List PairState) → AreWalked plan hops packets pairs → AreWalked plan hops packets pairs'
    → versions_in pairs ≡ versions_in pairs' → pairs ≡ pairs'
walked_packets_are_determined = walked_once

pub schedules_give_one_play : (plan : PlanState) (hops : List Hop) (w before after : ℕ) (packets : List PacketIn) (events : List FlowEvent) (seen seen' : List (List ℕ))
    → IsPlay plan hops w before after packets events seen → IsPlay plan hops w before after packets events seen' → seen ≡ seen'
schedules_give_one_play = plays_once
