use Rattle.std.proofs.Common.{◌≡◌, ◌∙◌, ap, subst, sym, Some, is_some, length, take, drop, ◌≤◌}
use Rattle.net_io.specs.Depot.{octets_of}
use Rattle.net_io.specs.Folder.{held_in}
use Rattle.net_io.specs.inside.Place.{IsPlaceOf}
use Rattle.net_io.proofs.Listed.{fault_reads}
use Rattle.net_io.proofs.Places.{held_in-place}
use Rattle.net_io.proofs.safe_depot.SafeDepot.read_piece.Goals as goal

pub returns-in-Some-clause-ok : goal.returns-in-Some-clause-ok
returns-in-Some-clause-ok c =
    let name = c.args.name.now in
    let place = c.in-Some.place in
    let files = c.args.self.now.files.items in
    let at : IsPlaceOf files name place = subst (λ list. IsPlaceOf list name place) c.deref.ensures.value c.in-Some.ensures in
    let held : held_in files name ≡ Some c.deref-in-Some.result.now =
    held_in-place files name place c.index.result.now at c.index.ensures ∙ ap Some (sym c.deref-in-Some.ensures.value) in
    record {
      present = λ told. ap is_some held;
      octets = λ told. c.copy_from.ensures.octets ∙ ap (λ file. take c.copy_from.result (drop c.args.at (octets_of file))) (sym held);
      end = λ told none room. subst (λ file. length (octets_of file) ≤ c.args.at) (sym held) (c.copy_from.ensures.end none room);
      rest = c.copy_from.ensures.rest;
      place = c.copy_from.ensures.place;
    }

pub returns-in-None-clause-frame : goal.returns-in-None-clause-frame
returns-in-None-clause-frame c =
    fault_reads c.fault_of.result c.args.name.now c.args.self.now.files.items c.args.self.now.failed.items c.fault_of.new.failed.items
    c.fault_of.ensures.failed c.fault_of.ensures.out_of_memory
