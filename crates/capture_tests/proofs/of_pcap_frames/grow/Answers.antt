use Rattle.std.proofs.Common.{arith, ◌≡◌, ◌∙◌, ap, subst, sym, refl, take, ◌++◌, List, ℕ, IsTrue, Option, Some, None, Result, Ok, Err}
use Rattle.std.specs.Prelude.{IsSome, IfOk, OnErr}
use Rattle.net_io.specs.Depot.{DepotState, octets_of, NowHolds, SameHeld}
use Rattle.net_io.specs.Memory.{memory_state}
use Rattle.net_io.specs.declared.fault.IoFault.{IoFault}
use Rattle.pcap_frames.specs.Reader.{Reader, ReaderStandsIn, IsReady}
use Rattle.pcap_frames.proofs.Law.{header_long, a_reader_stands_in_a_longer_file}
use Rattle.capture_tests.proofs.of_pcap_frames.grow.Goals as goal

is_held : (reader : Reader) (file : Option (List ℕ)) → ReaderStandsIn reader (octets_of file) → IsSome file
is_held reader None stands = let long = header_long (octets_of None) reader.header stands.header in absurd (omega arith)
is_held reader (Some octets) stands = refl

grown : (reader : Reader) (name bytes : List ℕ) (old new : DepotState) (result : Result ℕ IoFault) → reader.name ≡ name → IsTrue old.tells → IsReady old reader
    → IfOk result (λ n. IsTrue old.tells → NowHolds name (octets_of (old.held name) ++ take n bytes) old.held new.held) → OnErr result (IsTrue old.tells → SameHeld old.held new.held) → IsReady new reader
grown reader name bytes old new (Ok n) named tells ready ok err = λ told.
    let more = a_reader_stands_in_a_longer_file reader (octets_of (old.held reader.name)) (take n bytes) (ready tells) in
    let here : octets_of (new.held reader.name) ≡ octets_of (old.held reader.name) ++ take n bytes =
    ap (λ m. octets_of (new.held m)) named ∙ ap octets_of (ok tells).here ∙ ap (λ m. octets_of (old.held m) ++ take n bytes) (sym named) in
    subst (ReaderStandsIn reader) (sym here) more
grown reader name bytes old new (Err fault) named tells ready ok err = λ told. subst (λ file. ReaderStandsIn reader (octets_of file)) (sym (err tells reader.name)) (ready tells)

pub append-requires : goal.append-requires
append-requires c = λ told.
    let held = (memory_state c.args.depot.now).held in
    is_held c.args.frames.now (held c.args.name.now) (subst (λ (n : List ℕ). ReaderStandsIn c.args.frames.now (octets_of (held n))) c.requires.named (c.requires.ready told))

pub returns : goal.returns
returns c = grown c.args.frames.now c.args.name.now c.args.record.now (memory_state c.args.depot.now) (memory_state c.append.new.self) c.append.result c.requires.named refl c.requires.ready c.append.ensures.ok c.append.ensures.err
