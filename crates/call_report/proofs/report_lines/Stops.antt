-- Lines that are written where a run stops early, by their words.
use Rattle.std.proofs.Common.{◌≡◌, ℕ, ◌<◌, ◌^◌, true, not, List, [], ◌∷◌, ◌++◌, codes, decimal, None, refl, ap, arith}
use Rattle.std.specs.Prelude.{◌==◌}
use Rattle.std.specs.Fmt.{digits}
use Rattle.std.specs.List.{list_all}
use Rattle.pcap_frames.specs.declared.fault.CaptureFault.{CaptureFault}
use Rattle.pcap_frames.specs.declared.fault.CaptureKind.{CaptureKind}
use Rattle.pcap_frames.specs.declared.fault.CaptureKind.TheVariants as pcap
use Rattle.pcapng_frames.specs.declared.fault.NgFault.{NgFault}
use Rattle.pcapng_frames.specs.declared.fault.NgKind.{NgKind}
use Rattle.pcapng_frames.specs.declared.fault.NgKind.TheVariants as ng
use Rattle.captures.specs.declared.fault.FileFault.TheVariants.{Pcap, Pcapng}
use Rattle.script_lines.specs.declared.stop.ScriptKind.{ScriptKind}
use Rattle.script_lines.specs.declared.stop.ScriptKind.TheVariants as of
use Rattle.script_lines.specs.declared.stop.LimitName.{LimitName}
use Rattle.script_lines.specs.declared.stop.LimitName.TheVariants as most
use Rattle.label_commands.specs.declared.stop.ScriptFault.{ScriptFault}
use Rattle.call_report.specs.Lines.Fixed.{packets_limit_line}
use Rattle.call_report.specs.Lines.Script.{script_kind_name, script_line, limit_name, limit_line}
use Rattle.call_report.specs.Lines.Capture.{kind_name, ng_kind_name, capture_line}
use Rattle.call_report.specs.declared.report_lines.form.Form.TheVariants as form
use Rattle.call_report.specs.declared.report_lines.slot.Field.TheVariants as name
use Rattle.call_report.specs.report_lines.Slot.{may_stand, is_one_of, capture_faults, script_faults, limits}
use Rattle.call_report.specs.report_lines.Form.{slots_of}
use Rattle.call_report.specs.report_lines.Line.{misfit_of}
use Rattle.call_report.specs.report_lines.Told.{IsToldAs}
use Rattle.call_report.proofs.report_lines.Numbers.{a_number}
use Rattle.call_report.proofs.report_lines.Blanks.{fixed, number_word}
use Rattle.call_report.proofs.report_lines.Written.{left_right, by_words}

-- ---- captures: the name of each kind of fault is one of the table, and has no blank

one_kind : (kind : CaptureKind) → is_one_of capture_faults (kind_name kind) ≡ true
unfolding capture_faults
one_kind pcap.Magic = refl
one_kind pcap.Version = refl
one_kind pcap.LinkType = refl
one_kind pcap.Captured = refl
one_kind pcap.SnapCut = refl
one_kind pcap.Short = refl

plain_kind : (kind : CaptureKind) → list_all (λ c. not (c == 32)) (kind_name kind) ≡ true
plain_kind pcap.Magic = refl
plain_kind pcap.Version = refl
plain_kind pcap.LinkType = refl
plain_kind pcap.Captured = refl
plain_kind pcap.SnapCut = refl
plain_kind pcap.Short = refl

one_ng_kind : (kind : NgKind) → is_one_of capture_faults (ng_kind_name kind) ≡ true
unfolding capture_faults
one_ng_kind ng.Short = refl
one_ng_kind ng.Long = refl
one_ng_kind ng.Magic = refl
one_ng_kind ng.BlockLength = refl
one_ng_kind ng.Trailer = refl
one_ng_kind ng.Version = refl
one_ng_kind ng.Block = refl
one_ng_kind ng.Options = refl
one_ng_kind ng.Interface = refl
one_ng_kind ng.LinkType = refl
one_ng_kind ng.Resolution = refl
one_ng_kind ng.Captured = refl
one_ng_kind ng.SnapCut = refl
one_ng_kind ng.Time = refl

plain_ng_kind : (kind : NgKind) → list_all (λ c. not (c == 32)) (ng_kind_name kind) ≡ true
plain_ng_kind ng.Short = refl
plain_ng_kind ng.Long = refl
plain_ng_kind ng.Magic = refl
plain_ng_kind ng.BlockLength = refl
plain_ng_kind ng.Trailer = refl
plain_ng_kind ng.Version = refl
plain_ng_kind ng.Block = refl
plain_ng_kind ng.Options = refl
plain_ng_kind ng.Interface = refl
plain_ng_kind ng.LinkType = refl
plain_ng_kind ng.Resolution = refl
plain_ng_kind ng.Captured = refl
plain_ng_kind ng.SnapCut = refl
plain_ng_kind ng.Time = refl

fault_fits : (number octet : ℕ) (kind : List ℕ) → number < 2 ^ 64 → octet < 2 ^ 64 → is_one_of capture_faults kind ≡ true
    → misfit_of 0 [] (slots_of form.Capture) (codes "capture" ∷ decimal number ∷ codes "octet" ∷ decimal octet ∷ kind ∷ []) ≡ None
unfolding may_stand
fault_fits number octet kind hn ho one = rw (a_number number (decimal number) hn refl, a_number octet (decimal octet) ho refl, one) refl

fault_written : (number octet : ℕ) (kind : List ℕ) → number < 2 ^ 64 → octet < 2 ^ 64 → is_one_of capture_faults kind ≡ true → list_all (λ c. not (c == 32)) kind ≡ true
    → IsToldAs form.Capture ((name.Capture, decimal number) ∷ (name.Octet, decimal octet) ∷ (name.Kind, kind) ∷ []) (codes "capture " ++ decimal number ++ (codes " octet " ++ decimal octet ++ codes " " ++ kind) ++ 10 ∷ [])
fault_written number octet kind hn ho one plain =
    by_words form.Capture (codes "capture" ∷ decimal number ∷ codes "octet" ∷ decimal octet ∷ kind ∷ []) (codes "capture ") (decimal number) ((codes " octet " ++ decimal octet ++ codes " " ++ kind) ∷ (10 ∷ []) ∷ []) (omega arith)
    (fixed (codes "capture") refl, (number_word number hn, (fixed (codes "octet") refl, (number_word octet ho, (fixed kind plain, tt)))))
    (ap (λ t. codes "capture " ++ (decimal number ++ t)) (left_right (codes " octet ") (decimal octet) (codes " " ∷ kind ∷ (10 ∷ []) ∷ [])))
    (fault_fits number octet kind hn ho one) (refl, (refl, (refl, tt)))

pub pcap_written : (number : ℕ) (fault : CaptureFault) → number < 2 ^ 64 → fault.octet < 2 ^ 64
    → IsToldAs form.Capture ((name.Capture, decimal number) ∷ (name.Octet, decimal fault.octet) ∷ (name.Kind, kind_name fault.kind) ∷ []) (capture_line number (Pcap fault))
unfolding capture_line
pcap_written number fault hn ho = fault_written number fault.octet (kind_name fault.kind) hn ho (one_kind fault.kind) (plain_kind fault.kind)

pub pcapng_written : (number : ℕ) (fault : NgFault) → number < 2 ^ 64 → fault.octet < 2 ^ 64
    → IsToldAs form.Capture ((name.Capture, decimal number) ∷ (name.Octet, decimal fault.octet) ∷ (name.Kind, ng_kind_name fault.kind) ∷ []) (capture_line number (Pcapng fault))
unfolding capture_line
pcapng_written number fault hn ho = fault_written number fault.octet (ng_kind_name fault.kind) hn ho (one_ng_kind fault.kind) (plain_ng_kind fault.kind)

-- ---- limits

one_limit : (kind : LimitName) → is_one_of limits (limit_name kind) ≡ true
unfolding limits
one_limit most.Octets = refl
one_limit most.Lines = refl
one_limit most.Nodes = refl
one_limit most.Flows = refl
one_limit most.Hops = refl

plain_limit : (kind : LimitName) → list_all (λ c. not (c == 32)) (limit_name kind) ≡ true
plain_limit most.Octets = refl
plain_limit most.Lines = refl
plain_limit most.Nodes = refl
plain_limit most.Flows = refl
plain_limit most.Hops = refl

limit_fits : (what : List ℕ) (number : ℕ) → is_one_of limits what ≡ true → number < 2 ^ 64 → misfit_of 0 [] (slots_of form.Limit) (codes "limit" ∷ what ∷ decimal number ∷ []) ≡ None
unfolding may_stand
limit_fits what number one small = rw (one, a_number number (decimal number) small refl) refl

some_limit_written : (what : List ℕ) (number : ℕ) → is_one_of limits what ≡ true → list_all (λ c. not (c == 32)) what ≡ true → number < 2 ^ 64
    → IsToldAs form.Limit ((name.Limit, what) ∷ (name.Most, decimal number) ∷ []) (codes "limit " ++ what ++ codes " " ++ decimal number ++ 10 ∷ [])
some_limit_written what number one plain small =
    by_words form.Limit (codes "limit" ∷ what ∷ decimal number ∷ []) (codes "limit ") what (codes " " ∷ decimal number ∷ (10 ∷ []) ∷ []) (omega arith)
    (fixed (codes "limit") refl, (fixed what plain, (number_word number small, tt))) refl (limit_fits what number one small) (refl, (refl, tt))

pub limit_written : (what : LimitName) (number : ℕ) → number < 2 ^ 64 → IsToldAs form.Limit ((name.Limit, limit_name what) ∷ (name.Most, decimal number) ∷ []) (limit_line what number)
unfolding limit_line
limit_written what number small = some_limit_written (limit_name what) number (one_limit what) (plain_limit what) small

pub packets_limit_written : IsToldAs form.Limit ((name.Limit, codes "packets") ∷ (name.Most, codes "1048576") ∷ []) packets_limit_line
unfolding packets_limit_line limits digits
packets_limit_written = some_limit_written (codes "packets") 1048576 refl refl (omega arith)

-- ---- scripts

one_script_kind : (kind : ScriptKind) → is_one_of script_faults (script_kind_name kind) ≡ true
unfolding script_faults
one_script_kind of.Octet = refl
one_script_kind of.Word = refl
one_script_kind of.NoNode = refl
one_script_kind of.Value = refl
one_script_kind of.UnknownNode = refl
one_script_kind of.HopOrder = refl
one_script_kind of.NameTwice = refl
one_script_kind of.Extra = refl
one_script_kind of.Missing = refl
one_script_kind of.ReadingTwice = refl
one_script_kind of.NotIncreasing = refl
one_script_kind of.NotDistinct = refl

plain_script_kind : (kind : ScriptKind) → list_all (λ c. not (c == 32)) (script_kind_name kind) ≡ true
plain_script_kind of.Octet = refl
plain_script_kind of.Word = refl
plain_script_kind of.NoNode = refl
plain_script_kind of.Value = refl
plain_script_kind of.UnknownNode = refl
plain_script_kind of.HopOrder = refl
plain_script_kind of.NameTwice = refl
plain_script_kind of.Extra = refl
plain_script_kind of.Missing = refl
plain_script_kind of.ReadingTwice = refl
plain_script_kind of.NotIncreasing = refl
plain_script_kind of.NotDistinct = refl

script_fits : (line octet : ℕ) (kind : List ℕ) → line < 2 ^ 64 → octet < 2 ^ 64 → is_one_of script_faults kind ≡ true
    → misfit_of 0 [] (slots_of form.Script) (codes "script" ∷ codes "line" ∷ decimal line ∷ codes "octet" ∷ decimal octet ∷ kind ∷ []) ≡ None
unfolding may_stand
script_fits line octet kind hl ho one = rw (a_number line (decimal line) hl refl, a_number octet (decimal octet) ho refl, one) refl

pub script_written : (fault : ScriptFault) → fault.line < 2 ^ 64 → fault.octet < 2 ^ 64
    → IsToldAs form.Script ((name.Line, decimal fault.line) ∷ (name.Octet, decimal fault.octet) ∷ (name.Kind, script_kind_name fault.kind) ∷ []) (script_line fault)
unfolding script_line
script_written fault hl ho =
    by_words form.Script (codes "script" ∷ codes "line" ∷ decimal fault.line ∷ codes "octet" ∷ decimal fault.octet ∷ script_kind_name fault.kind ∷ []) (codes "script line ") (decimal fault.line)
    ((codes " octet " ++ decimal fault.octet) ∷ codes " " ∷ script_kind_name fault.kind ∷ (10 ∷ []) ∷ []) (omega arith)
    (fixed (codes "script") refl, (fixed (codes "line") refl, (number_word fault.line hl, (fixed (codes "octet") refl, (number_word fault.octet ho, (fixed (script_kind_name fault.kind) (plain_script_kind fault.kind), tt)))))) refl
    (script_fits fault.line fault.octet (script_kind_name fault.kind) hl ho (one_script_kind fault.kind)) (refl, (refl, (refl, tt)))
