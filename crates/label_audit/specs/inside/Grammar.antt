-- What may be printed of a script's flows, piece by piece: each packet under versions that may follow those which its worker has met.
use Rattle.std.specs.Prelude.{ℕ, ◌≡◌, ◌+◌, ◌-◌, ◌%◌, ◌⊎◌, if◌then◌else◌, cond, nat_eq, Bool, false, List, [], ◌∷◌, ◌++◌}
use Rattle.label_commands.specs.declared.flow_lines.hop.Hop.{Hop}
use Rattle.label_commands.specs.declared.flow_lines.flow.FlowLine.{FlowLine}
use Rattle.label_commands.specs.declared.script.Script.{Script}
use Rattle.label_commands.specs.Script.{before}
use Rattle.shared_tables.specs.Plan.{PlanState}
use Rattle.captures.specs.declared.packet_in.PacketIn.{PacketIn}
use Rattle.label_flow.specs.packet_walk.Walk.{IsWalkOf, Rises}
use Rattle.label_flow.specs.Pair.{PairState}
use Rattle.call_report.specs.Report.{Folder}
use Rattle.call_report.specs.Lines.Flow.{flow_end_line, flow_line, walked_line}
use Rattle.call_report.specs.Lines.Fixed.{done_line}
use Rattle.call_report.specs.Lines.Reply.{replies_text}
use Rattle.call_report.specs.Event.{packets_limit}
use Rattle.label_flow.specs.flow_access.Valid.{plan_of}
use Rattle.script_run.specs.flow_run.Run.{is_denied}
use Rattle.script_run.specs.flow_run.Input.{flow_input, packets_in}
use Rattle.label_audit.specs.declared.flow.Counted.{Counted}
use Rattle.label_audit.specs.inside.Awaited.{Awaited}

-- the last version that is met, from one that was met before
abbrev pub last_met : ℕ → List ℕ → ℕ
last_met met [] = met
last_met met (version ∷ versions) = last_met version versions

-- what a worker has met is now this version
abbrev pub meets_now : (ℕ → ℕ) → ℕ → ℕ → ℕ → ℕ
meets_now met worker version k = cond (nat_eq worker k) version (met k)

-- a flow, as the lines of its packets need it
pub record Site : Type 0 where
  pub plan : PlanState
  pub names : List (List ℕ)
  pub hops : List Hop
  pub number : ℕ
  pub workers : ℕ
  pub after : ℕ

abbrev pub counted_more : Counted → PairState → Counted
counted_more count pair = record {
  packets = count.packets + 1;
  passed = count.passed + (if is_denied pair.walked.end then 0 else 1);
  denied = count.denied + (if is_denied pair.walked.end then 1 else 0);
}

-- what may be printed of these packets, of which the first has this number, and of what comes behind them
abbrev pub PacketsFrom : Site → (Counted → Awaited) → Counted → (ℕ → ℕ) → List PacketIn → Bool → List ℕ → Type 0
PacketsFrom site Behind count met [] all text = Behind count all text
PacketsFrom site Behind count met (packet ∷ packets) all text =
    ((all ≡ false) × (text ≡ []))
    ⊎ ((pair : PairState) × (more : List ℕ)
    × IsWalkOf site.plan site.hops packet pair.walked.versions pair.walked.end pair.octets
    × Rises (met (count.packets % site.workers)) site.after pair.walked.versions
    × (text ≡ walked_line site.number (count.packets + 1) site.names site.hops pair.walked ++ more)
    × PacketsFrom site Behind (counted_more count pair)
    (meets_now met (count.packets % site.workers) (last_met (met (count.packets % site.workers)) pair.walked.versions)) packets all more)

-- a text, and what may stand behind it
abbrev pub Then : List ℕ → Awaited → Bool → List ℕ → Type 0
Then text Behind all whole = (more : List ℕ) × (whole ≡ text ++ more) × Behind all more

abbrev pub site_of : Script → ℕ → ℕ → FlowLine → Site
site_of script workers number flow = record {
  plan = plan_of script;
  names = script.nodes;
  hops = flow.hops;
  number = number;
  workers = workers;
  after = before script number;
}

abbrev pub nothing_counted : Counted
nothing_counted = record { packets = 0; passed = 0; denied = 0 }

abbrev pub end_text_of : ℕ → Counted → List ℕ
end_text_of number count = flow_end_line number count.packets count.passed count.denied

abbrev pub replies_of : Script → ℕ → FlowLine → List ℕ
replies_of script number flow = replies_text script.nodes script.steps flow.before (before script number - flow.before)

-- what may be printed behind a flow's packets, of which so many were counted: its end, the replies behind it, and this
abbrev pub BehindPackets : Script → ℕ → FlowLine → (ℕ → Awaited) → Counted → Bool → List ℕ → Type 0
BehindPackets script number flow Behind count all text = Then (end_text_of number count) (Then (replies_of script number flow) (Behind count.packets)) all text

-- what may be printed of these flows, numbered from here on, where so many packets may be read
abbrev pub FlowsFrom : Script → ℕ → Folder → ℕ → ℕ → List FlowLine → Bool → List ℕ → Type 0
FlowsFrom script workers held number most [] all text = text ≡ done_line
FlowsFrom script workers held number most (flow ∷ flows) all text =
    ((all ≡ false) × (text ≡ []))
    ⊎ Then (flow_line number flow.input)
    (λ every rest. PacketsFrom (site_of script workers number flow)
    (BehindPackets script number flow (λ packets b u. FlowsFrom script workers held (number + 1) (most - packets) flows b u))
    nothing_counted (λ k. flow.before) (packets_in (flow_input number most (held flow.input))) every rest)
    all text

-- what may be printed of a script
abbrev pub ScriptFrom : Script → ℕ → Folder → Bool → List ℕ → Type 0
ScriptFrom script workers held all text =
    Then (replies_text script.nodes script.steps 0 (before script 0)) (λ b u. FlowsFrom script workers held 1 packets_limit script.flows b u) all text
