use Rattle.std.proofs.lemmas.Result.{err_from_is_err_and}
use Rattle.ip_headers.proofs.Scans.{fixed_fails, list_fails, jumbo_fails, scanned}
use Rattle.ip_headers.proofs.parts.scan.Goals as goal

pub returns-in_err-head-clause-err : goal.returns-in_err-head-clause-err
returns-in_err-head-clause-err c =
    let p = err_from_is_err_and c.from_residual.result c.from_residual.ensures.1 in
    rw (p.1, p.2) (fixed_fails c.args.version c.args.bytes.now _ c.in_err-head.ensures.err)

pub returns-in_err-found-clause-err : goal.returns-in_err-found-clause-err
returns-in_err-found-clause-err c =
    let p = err_from_is_err_and c.from_residual-in_err-found.result c.from_residual-in_err-found.ensures.1 in
    rw (p.1, p.2) (list_fails c.args.version c.args.bytes.now c.in_ok-head.head.now c.in_ok-head.payload.now _ c.in_ok-head.ensures.ok c.in_err-found.ensures.err)

pub returns-in-Some-clause-err : goal.returns-in-Some-clause-err
returns-in-Some-clause-err c =
    jumbo_fails c.args.version c.args.bytes.now c.in_ok-head.head.now c.in_ok-head.payload.now c.in_ok-found.found c.in-Some.octet c.fault.result
    c.in_ok-head.ensures.ok c.in_ok-found.ensures.ok.0 c.in_ok-found.ensures.ok.1 c.in-Some.is c.fault.ensures

pub returns-clause-ok : goal.returns-clause-ok
returns-clause-ok c =
    scanned c.args.version c.args.bytes.now c.in_ok-head.head c.in_ok-head.payload c.in_ok-found.found c.in_ok-head.ensures.ok c.in_ok-found.ensures.ok.0 c.in_ok-found.ensures.ok.1 c.in_default.is
