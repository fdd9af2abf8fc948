-- Why nothing is read: the fault of a grammar or the term that is too much, of a part and of the whole.
use Rattle.std.proofs.Common.{ℕ, ◌+◌, ◌-◌, List, length, drop, arith}
use Rattle.mls_label.specs.declared.octet_grammar.fault.WireKind.{WireKind}
use Rattle.mls_label.specs.declared.octet_grammar.fault.WireKind.TheVariants as wire
use Rattle.mls_label.specs.declared.octet_grammar.fault.WireFault.{WireFault}
use Rattle.mls_range.specs.declared.fault.TextKind.{TextKind}
use Rattle.mls_range.specs.declared.fault.TextKind.TheVariants.{Grammar, End, TooManyRuns, NotOrdered}
use Rattle.mls_range.specs.Place.{octet_fault, end_fault}
use Rattle.mls_range.specs.inside.Told.{text_kind}
use Rattle.mls_range.specs.inside.Rest.{Spells, FaultIn}
use Rattle.mls_range.specs.inside.Stops.{FailsAt}
use Rattle.mls_range.proofs.Places.{reads_length}
use Rattle.mls_range.proofs.Rests.{Goes, fault_goes}

fails_in_kind : (L : List ℕ → Type 0) (crowds : ℕ → Type 0) (text : List ℕ) (start octet : ℕ) (kind : WireKind) → FaultIn L text start (record { octet = octet; kind = kind }) → ((at : ℕ) → crowds at → ⊥) → FailsAt L crowds text start octet (text_kind kind)
fails_in_kind L crowds text start octet wire.Octet f roomy = (f, roomy)
fails_in_kind L crowds text start octet wire.End f roomy = (f, roomy)

-- the fault of a grammar, where no term is too much
pub fails_in : (L : List ℕ → Type 0) (crowds : ℕ → Type 0) (text : List ℕ) (start : ℕ) (fault : WireFault) → FaultIn L text start fault → ((at : ℕ) → crowds at → ⊥) → FailsAt L crowds text start fault.octet (text_kind fault.kind)
fails_in L crowds text start fault f roomy = fails_in_kind L crowds text start fault.octet fault.kind f roomy

-- behind p the texts of L go on as those of R, and the places of terms that are too much with them: then what fails there fails in the whole
pub fails_goes : (L R : List ℕ → Type 0) (left right : ℕ → Type 0) (p text : List ℕ) (start at octet : ℕ) (kind : TextKind) → Spells text start at p → Goes L p (drop at text) R → ((o : ℕ) → left o → right (o - length p)) → ((o : ℕ) → right o → left (length p + o)) → FailsAt R right text at octet kind → FailsAt L left text start octet kind
fails_goes L R left right p text start at octet Grammar reads g back into f = (fault_goes L p R text start at (octet_fault octet) reads g f.0, λ o c. f.1 (o - length p) (back o c))
fails_goes L R left right p text start at octet End reads g back into f = (fault_goes L p R text start at (end_fault octet) reads g f.0, λ o c. f.1 (o - length p) (back o c))
fails_goes L R left right p text start at octet TooManyRuns reads g back into f =
    (length p + f.0, omega (arith, f.1, reads_length text start at p reads, reads.forward), into f.0 f.2)
fails_goes L R left right p text start at octet NotOrdered reads g back into f = f
