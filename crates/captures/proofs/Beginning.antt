-- How the reading of a pcapng file begins.
use Rattle.std.proofs.Common.{◌≡◌, ℕ, List, true, Option, Some, None, Result, Ok, refl, ap, ◌∙◌, if◌then◌else◌}
use Rattle.net_io.specs.Depot.{octets_of}
use Rattle.pcapng_frames.specs.declared.fault.NgFault.{NgFault}
use Rattle.pcapng_frames.specs.Section.{no_section}
use Rattle.pcapng_frames.specs.Block.{NgBlock, block_at}
use Rattle.pcapng_frames.specs.Capture.{NgCapture, is_pcapng, ng_of}
use Rattle.pcapng_frames.specs.Reader.{NgReader, begun_block}
use Rattle.pcapng_frames.proofs.Law.{the_first_block_gives_no_frame}
use Rattle.pcap_frames.specs.Capture.{capture_of}
use Rattle.captures.specs.declared.reader.AnyFrames.TheVariants.{Pcapng}
use Rattle.captures.specs.CaptureFile.{by_pcapng, by_pcap, capture_file}
use Rattle.captures.specs.Reader.{IsFileBegun}

pub file_of_pcapng : (file : List ℕ) → is_pcapng file ≡ true → capture_file file ≡ by_pcapng (block_at no_section 0 file) (ng_of file)
file_of_pcapng file is = ap (λ ng. if ng then by_pcapng (block_at no_section 0 file) (ng_of file) else by_pcap (capture_of file)) is

pub begins_pcapng : (held : Option (List ℕ)) (reader : NgReader) → is_pcapng (octets_of held) ≡ true → block_at no_section 0 (octets_of held) ≡ Ok (begun_block reader) → IsFileBegun (Ok (Pcapng reader)) held
begins_pcapng None reader is here = absurd cc
begins_pcapng (Some file) reader is here = (
  file,
  refl,
  file_of_pcapng file is ∙ ap (λ (block : Result (Option NgBlock) NgFault). by_pcapng block (ng_of file)) here
      ∙ ap (λ (capture : NgCapture). by_pcapng (Ok (begun_block reader)) capture) (the_first_block_gives_no_frame reader file here),
)
