-- Parts of a batch that were handed over one behind the other.
use Rattle.std.proofs.Common.{◌≡◌, ℕ, ◌+◌, List, ◌++◌, length, Option, None, ap, sym, ◌∙◌, subst, append_assoc}
use Rattle.std.proofs.lemmas.List.{length-append}
use Rattle.label_commands.specs.declared.flow_lines.hop.Hop.{Hop}
use Rattle.shared_tables.specs.Board.{ViewerState}
use Rattle.captures.specs.declared.packet_in.PacketIn.{PacketIn}
use Rattle.label_flow.specs.Pair.{PairState}
use Rattle.label_flow.specs.Round.{AreLater}
use Rattle.label_flow.specs.inside.Work.{TakesRound}
use Rattle.label_flow.specs.inside.Crew.{IsTold}
use Rattle.label_flow.proofs.Batches.{round-append}
use Rattle.label_flow.proofs.Told.{told_append}

-- m packets, and what was handed over of those behind them
pub parts_join : {Q : Type 0} (took : Q → Q → List PairState → Type 0) (a b c : Q) (hops : List Hop) (left : Option (List PacketIn)) (n m : ℕ) (C D : ℕ → Type 0) (vs us ws : List ViewerState)
    → AreLater vs us → ((k : ℕ) → C k → D (m + k))
    → TakesRound took a b hops n None (λ ps. IsTold left n ps × (length ps ≡ m)) vs us
    → TakesRound took b c hops (n + m) None (λ qs. IsTold left (n + m) qs × C (length qs)) us ws
    → TakesRound took a c hops n None (λ zs. IsTold left n zs × D (length zs)) vs ws
parts_join took a b c hops left n m C D vs us ws later grows first then was h here =
    let t = first was h here in
    let u = then was (h ++ t.1) t.4 in
    let T : List PairState → Type 0 = λ rs. took was c rs in
    let long : length (t.0 ++ u.0) ≡ m + length u.0 = length-append t.0 u.0 ∙ ap (λ k. k + length u.0) t.5.1 in (
      t.0 ++ u.0,
      t.1 ++ u.1,
      round-append hops n (n + m) t.0 u.0 t.1 u.1 vs us ws (ap (λ k. n + k) (sym t.5.1)) later t.2 u.2,
      tt,
      subst T (append_assoc h t.1 u.1) u.4,
      (told_append left n t.0 u.0 t.5.0 (subst (λ (k : ℕ). IsTold left (n + k) u.0) (sym t.5.1) u.5.0), subst D (sym long) (grows (length u.0) u.5.1)),
    )
