use Rattle.std.proofs.Common.{◌≡◌, length, sym, ap, ◌∙◌, subst, le_refl, Err}
use Rattle.label_flow.specs.declared.packet_walk.stop.VersionsStop.TheVariants.{TooFew, TooMany}
use Rattle.label_flow.specs.packet_walk.Walk.{Rises}
use Rattle.label_audit.proofs.Naming.{rises_all, met_last, too_few, too_many}
use Rattle.label_audit.proofs.walker.write_walk.Goals as goal

pub walk_named-walked-requires-clause-rises : goal.walk_named-walked-requires-clause-rises
walk_named-walked-requires-clause-rises c =
    let rises = rises_all c.args.place.now.low c.args.place.now.high c.args.tables.now.version (length c.args.tables.now.plan.steps) c.deref.result.now c.requires.low c.requires.high (c.rise.ensures.0 c.if-not-rise.false) in
    subst (Rises c.args.tables.now.version (length c.args.tables.now.plan.steps)) (c.deref.ensures.value ∙ sym c.deref-2.ensures.value) rises

pub returns-in_err-write_line-in-Ok-clause-most : goal.returns-in_err-write_line-in-Ok-clause-most
returns-in_err-write_line-in-Ok-clause-most c = λ within.
    let high = c.args.place.now.high in
    let rises = rises_all c.args.place.now.low high c.args.tables.now.version high c.deref.result.now c.requires.low (le_refl high) (c.rise.ensures.0 c.if-not-rise.false) in
    c.walk_named-walked.ensures.no_later high (subst (Rises c.args.tables.now.version high) (c.deref.ensures.value ∙ sym c.deref-2.ensures.value) rises)

pub returns-in_ok-write_line-in-Ok-clause-written : goal.returns-in_ok-write_line-in-Ok-clause-written
returns-in_ok-write_line-in-Ok-clause-written c =
    let walk = c.in-Ok.ensures in
    let versions = walk.named ∙ c.deref-2.ensures.value in
    record {
      walked = c.walk_named-walked.new.walked;
      octets = c.walk_named-walked.new.out.items;
      walk = walk.ok.walk;
      versions = versions;
      rises = subst (Rises c.args.place.now.low c.args.place.now.high) c.deref.ensures.value (c.rise.ensures.0 c.if-not-rise.false);
      line_is = c.in_ok-write_line-in-Ok.ensures.line;
      denied_is = c.in_ok-write_line-in-Ok.ensures.denied;
      met_is = met_last c.args.tables.now.version c.walk_named-walked.new.tables.version c.args.walker.now.versions.items (subst (Rises c.args.tables.now.version c.walk_named-walked.new.tables.version) versions walk.ok.rises)
          (λ high rises. c.walk_named-walked.ensures.no_later high (subst (Rises c.args.tables.now.version high) (sym c.deref-2.ensures.value) rises));
    }

pub returns-in_ok-write_line-in-Ok-clause-most : goal.returns-in_ok-write_line-in-Ok-clause-most
returns-in_ok-write_line-in-Ok-clause-most c = λ within.
    let high = c.args.place.now.high in
    let rises = rises_all c.args.place.now.low high c.args.tables.now.version high c.deref.result.now c.requires.low (le_refl high) (c.rise.ensures.0 c.if-not-rise.false) in
    c.walk_named-walked.ensures.no_later high (subst (Rises c.args.tables.now.version high) (c.deref.ensures.value ∙ sym c.deref-2.ensures.value) rises)

pub returns-in-Err-TooFew : goal.returns-in-Err-TooFew
returns-in-Err-TooFew c =
    let high = c.args.place.now.high in
    let rises = rises_all c.args.place.now.low high c.args.tables.now.version high c.deref.result.now c.requires.low (le_refl high) (c.rise.ensures.0 c.if-not-rise.false) in
    record {
      written = too_few c.args.tables.now.plan c.args.place.now c.args.packet.now c.args.walker.now.versions.items (rw c.deref-2.ensures.value at (c.walk_named-walked.ensures.few (let stop : c.in-Err-TooFew.field-0 ≡ TooFew = rw c.in-Err-TooFew.is at c.in-Err-TooFew.field-0-is in c.in-Err-TooFew.is ∙ ap Err stop)));
      plan = c.walk_named-walked.ensures.plan;
      most = λ within. c.walk_named-walked.ensures.no_later high (subst (Rises c.args.tables.now.version high) (c.deref.ensures.value ∙ sym c.deref-2.ensures.value) rises);
    }

pub returns-in-Err-TooMany : goal.returns-in-Err-TooMany
returns-in-Err-TooMany c =
    let high = c.args.place.now.high in
    let rises = rises_all c.args.place.now.low high c.args.tables.now.version high c.deref.result.now c.requires.low (le_refl high) (c.rise.ensures.0 c.if-not-rise.false) in
    let many = rw c.deref-2.ensures.value at (c.walk_named-walked.ensures.many (let stop : c.in-Err-TooMany.field-0 ≡ TooMany = rw c.in-Err-TooMany.is at c.in-Err-TooMany.field-0-is in c.in-Err-TooMany.is ∙ ap Err stop)) in
    record {
      written = too_many c.args.tables.now.plan c.args.place.now c.args.packet.now c.args.walker.now.versions.items many.0 many.1 many.2 many.3 many.4;
      plan = c.walk_named-walked.ensures.plan;
      most = λ within. c.walk_named-walked.ensures.no_later high (subst (Rises c.args.tables.now.version high) (c.deref.ensures.value ∙ sym c.deref-2.ensures.value) rises);
    }

pub returns-in-Err-OutOfMemory-clause-most : goal.returns-in-Err-OutOfMemory-clause-most
returns-in-Err-OutOfMemory-clause-most c = λ within.
    let high = c.args.place.now.high in
    let rises = rises_all c.args.place.now.low high c.args.tables.now.version high c.deref.result.now c.requires.low (le_refl high) (c.rise.ensures.0 c.if-not-rise.false) in
    c.walk_named-walked.ensures.no_later high (subst (Rises c.args.tables.now.version high) (c.deref.ensures.value ∙ sym c.deref-2.ensures.value) rises)
