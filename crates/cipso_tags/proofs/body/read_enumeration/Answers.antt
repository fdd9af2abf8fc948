use Rattle.std.proofs.Common.{◌≡◌, ◌+◌, ◌-◌, ◌*◌, ◌<◌, [], ◌∷◌, ◌++◌, length, take, sym, ap, subst, ◌∙◌, arith, length-append}
use Rattle.std.proofs.lemmas.List.{append-nil}
use Rattle.std.proofs.lemmas.Result.{err_from_is_err_and}
use Rattle.mls_label.specs.Cats.{Ascends, IsCats}
use Rattle.cipso_tags.specs.Body.{words}
use Rattle.mls_label.proofs.octet_grammar.Octets.{octets_of}
use Rattle.cipso_tags.proofs.Words.{take_number}
use Rattle.cipso_tags.proofs.Numbers.{IsAfter, step_fails, numbers_read}
use Rattle.cipso_tags.proofs.Enumeration.{ascends_small, enumeration_step, enumeration_more, cats_more}
use Rattle.cipso_tags.proofs.body.read_enumeration.Goals as goal

pub returns-in_err-category-clause-err : goal.returns-in_err-category-clause-err
returns-in_err-category-clause-err c =
    let s = c.args.bytes.now in
    let read = c.loop-read.read in
    let seen = c.loop-read.invariant in
    let later = c.args.count - 1 - read in
    let step = enumeration_step c.args.count c.loop-read.cats c.loop-read.low later (omega arith) (omega arith) seen.after in
    let p = err_from_is_err_and c.from_residual.result c.from_residual.ensures.1 in
    rw (p.1, p.2)
    (step_fails 15 IsCats (λ numbers. numbers) c.args.count s c.loop-read.cats (2 * read) c.loop-read.low (65534 - later) c.in_err-category.field-0.0 (ascends_small 0) c.requires seen.within seen.read (omega arith) (omega arith) (omega arith) ((octets_of s c.type_inv.bytes).at (2 * read)) step c.in_err-category.ensures.err)

pub loop-read-preserved : goal.loop-read-preserved
loop-read-preserved c =
    let s = c.args.bytes.now in
    let read = c.loop-read.read in
    let low = c.loop-read.low in
    let n = c.in_ok-category.category in
    let seen = c.loop-read.invariant in
    let number = c.in_ok-category.ensures.ok in
    let lt : n < 65535 = omega (arith, number.bounds) in
    let is : c.insert_run.new.self ≡ c.loop-read.cats ++ n ∷ [] = cats_more c.loop-read.cats c.insert_run.new.self low n number.bounds.0 lt seen.after c.insert_run.ensures.cats in
    let at : 2 * (read + 1) ≡ 2 * read + 2 = omega arith in
    let more = take_number s c.loop-read.cats (2 * read) n (octets_of s c.type_inv.bytes) seen.read number.within number.is in
    record {
      read = ap (λ k. take k s) at ∙ more ∙ ap words (sym is);
      long = ap length is ∙ omega (arith, length-append c.loop-read.cats (n ∷ []));
      within = omega (arith, number.within);
      after = subst (IsAfter IsCats (Ascends (n + 1) 65535)) (sym is) (enumeration_more c.loop-read.cats low n number.bounds.0 lt seen.after);
      room = omega (arith, number.bounds);
      few = omega (arith, c.insert_run.ensures.one_more);
    }

pub returns-clause-ok : goal.returns-clause-ok
returns-clause-ok c =
    let seen = c.loop-read.invariant in
    let cats = c.loop-read.cats in
    let all : c.args.count ≡ c.loop-read.read = omega arith in
    numbers_read 15 IsCats (λ numbers. numbers) c.args.count c.args.bytes.now cats c.requires (omega arith) (ap (λ k. take (2 * k) c.args.bytes.now) all ∙ seen.read) (seen.long ∙ sym all) (subst IsCats (append-nil cats) (seen.after.loose [] tt))
