-- What was found in a packet's parts, and what the packet says.
use Rattle.std.proofs.Common.{◌≡◌, ℕ, List, filter, Option, Some, None, Ok, refl, sym, ap, ◌∙◌}
use Rattle.std.specs.Prelude.{slice_get}
use Rattle.std.specs.Borrow.{Bor}
use Rattle.std.specs.Option.{option_map}
use Rattle.ip_headers.specs.declared.version.Version.{Version}
use Rattle.ip_headers.specs.declared.options.Found.{Found}
use Rattle.ip_headers.specs.declared.parts.Parts.{Parts}
use Rattle.ip_headers.specs.declared.fault.HeadFault.{HeadFault}
use Rattle.ip_headers.specs.declared.fault.HeadKind.{HeadKind}
use Rattle.ip_headers.specs.declared.fault.HeadKind.TheVariants.{Jumbo, SecondLabel}
use Rattle.ip_headers.specs.Options.{Placed, is_jumbo, labels_of}
use Rattle.ip_headers.specs.Reading.{fixed_fault, head_of, payload_of, options_of, parsed, jumbo_fault, second_fault, unless, packet_of, front_of}
use Rattle.ip_headers.specs.inside.Walk.{Finds}
use Rattle.ip_headers.specs.inside.View.{FailsBoth, IsScanned, IsSplit, view_of}

-- a fault of this kind at an octet, if there is one
abbrev pub found_fault : HeadKind → Option ℕ → Option HeadFault
found_fault kind found = option_map (λ octet. record { octet = octet; kind = kind }) found

fault_from : (kind : HeadKind) (option : Option Placed) (found : Option ℕ) → found ≡ option_map (λ o. o.place) option
    → option_map (λ o. let f : HeadFault = record { octet = o.place; kind = kind } in f) option ≡ found_fault kind found
fault_from kind None found e = rw e refl
fault_from kind (Some p) found e = rw e refl

pub fixed_fails : (version : Version) (octets : List ℕ) (f : HeadFault) → fixed_fault version octets ≡ Some f → FailsBoth version octets f
unfolding packet_of front_of
fixed_fails version octets f e = record { front = rw e refl; packet = rw e refl }

pub list_fails : (version : Version) (octets head payload : List ℕ) (f : HeadFault) → IsSplit version octets head payload → (options_of version head).broken ≡ Some f → FailsBoth version octets f
unfolding packet_of front_of
list_fails version octets head payload f s e = let b = rw s.head_is at e in let h = s.fixed in record { front = rw (h, b) refl; packet = rw (h, b) refl }

pub jumbo_fails : (version : Version) (octets head payload : List ℕ) (found : Found) (octet : ℕ) (f : HeadFault) → IsSplit version octets head payload → (options_of version head).broken ≡ None
    → Finds version (options_of version head).options found → found.jumbo ≡ Some octet → f ≡ record { octet = octet; kind = Jumbo } → FailsBoth version octets f
unfolding packet_of front_of
jumbo_fails version octets head payload found octet f s whole finds is f_is =
    let jumbo : jumbo_fault version (options_of version head).options ≡ Some f =
    fault_from Jumbo (slice_get (filter (is_jumbo version) (options_of version head).options) 0) found.jumbo finds.jumbo ∙ ap (found_fault Jumbo) is ∙ ap Some (sym f_is) in
    let w = rw s.head_is at whole in
    let j = rw s.head_is at jumbo in
    let h = s.fixed in
    record { front = rw (h, w, j) refl; packet = rw (h, w, j) refl }

pub scanned : (version : Version) (octets : List ℕ) (head payload : Bor (List ℕ)) (found : Found) → IsSplit version octets head.now payload.now → (options_of version head.now).broken ≡ None
    → Finds version (options_of version head.now).options found → found.jumbo ≡ None
    → IsScanned version octets (record { head = head; payload = payload; label = found.label; has_others = found.has_others }) found.second
unfolding packet_of front_of
scanned version octets head payload found s whole finds is =
    let parts : Parts = record { head = head; payload = payload; label = found.label; has_others = found.has_others } in
    let options = (options_of version head.now).options in
    let jumbo : jumbo_fault version options ≡ None = fault_from Jumbo (slice_get (filter (is_jumbo version) options) 0) found.jumbo finds.jumbo ∙ ap (found_fault Jumbo) is in
    let second : second_fault version options ≡ found_fault SecondLabel found.second = fault_from SecondLabel (slice_get (labels_of version options) 1) found.second finds.second in
    let view : parsed version (head_of version octets) (options_of version (head_of version octets)).options (payload_of version octets) ≡ view_of version parts =
    λ i. parsed version (sym s.head_is i) (options_of version (sym s.head_is i)).options (sym s.payload_is i) in
    let w = rw s.head_is at whole in
    let j = rw s.head_is at jumbo in
    let t = rw s.head_is at second in
    let h = s.fixed in
    record {
      holds = record { long = s.long; small = s.small; whole = whole; first = finds.label; others = finds.others };
      front = rw (h, w, j) (ap Ok view);
      packet = rw (h, w, j, t) (ap (unless (found_fault SecondLabel found.second)) view);
    }
