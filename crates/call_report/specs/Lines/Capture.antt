-- Lines of captures that are broken.
use Rattle.std.specs.Prelude.{ℕ, List, ◌++◌, codes}
use Rattle.std.specs.Fmt.{decimal}
use Rattle.pcap_frames.specs.declared.fault.CaptureKind.{CaptureKind}
use Rattle.pcap_frames.specs.declared.fault.CaptureKind.TheVariants.{Magic, Version, LinkType, Captured, SnapCut, Short}
use Rattle.pcapng_frames.specs.declared.fault.NgKind.{NgKind}
use Rattle.pcapng_frames.specs.declared.fault.NgKind.TheVariants as ng
use Rattle.captures.specs.declared.fault.FileFault.{FileFault}
use Rattle.captures.specs.declared.fault.FileFault.TheVariants.{Pcap, Pcapng}
use Rattle.call_report.specs.Lines.Parts.{line_of, octet_detail}

-- the name of a libpcap file's fault
abbrev pub kind_name : CaptureKind → List ℕ
kind_name Magic = codes "Magic"
kind_name Version = codes "Version"
kind_name LinkType = codes "LinkType"
kind_name Captured = codes "Captured"
kind_name SnapCut = codes "SnapCut"
kind_name Short = codes "Short"

-- the name of a pcapng file's fault
abbrev pub ng_kind_name : NgKind → List ℕ
ng_kind_name ng.Short = codes "Short"
ng_kind_name ng.Long = codes "Long"
ng_kind_name ng.Magic = codes "Magic"
ng_kind_name ng.BlockLength = codes "BlockLength"
ng_kind_name ng.Trailer = codes "Trailer"
ng_kind_name ng.Version = codes "Version"
ng_kind_name ng.Block = codes "Block"
ng_kind_name ng.Options = codes "Options"
ng_kind_name ng.Interface = codes "Interface"
ng_kind_name ng.LinkType = codes "LinkType"
ng_kind_name ng.Resolution = codes "Resolution"
ng_kind_name ng.Captured = codes "Captured"
ng_kind_name ng.SnapCut = codes "SnapCut"
ng_kind_name ng.Time = codes "Time"

-- a fault's octet and its name
abbrev pub fault_text : FileFault → List ℕ
fault_text (Pcap fault) = octet_detail fault.octet ++ codes " " ++ kind_name fault.kind
fault_text (Pcapng fault) = octet_detail fault.octet ++ codes " " ++ ng_kind_name fault.kind

-- the fault of a capture, the one with this number
unfoldable pub capture_line : ℕ → FileFault → List ℕ
capture_line number fault = line_of (codes "capture " ++ decimal number ++ fault_text fault)
