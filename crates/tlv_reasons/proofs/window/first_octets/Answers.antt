use Rattle.std.proofs.Common.{◌≤◌, arith, length, sym}
use Rattle.std.proofs.lemmas.List.{length-take, length-take-le, take_all}
use Rattle.tlv_reasons.specs.WrongLength.{search_limit}
use Rattle.tlv_reasons.proofs.window.first_octets.Goals as goal

pub slice_bounds-result-end : goal.slice_bounds-result-end
slice_bounds-result-end c =
    let many : search_limit ≤ length c.args.octets.now = omega (arith, c.if-octets-gt-SEARCH_LIMIT.true) in
    sym (length-take-le search_limit c.args.octets.now many)

pub returns-else-octets-gt-SEARCH_LIMIT-clause-first : goal.returns-else-octets-gt-SEARCH_LIMIT-clause-first
returns-else-octets-gt-SEARCH_LIMIT-clause-first c =
    sym (take_all search_limit c.args.octets.now (omega (arith, c.if-octets-gt-SEARCH_LIMIT.false)))

pub returns-then-octets-gt-SEARCH_LIMIT-clause-few : goal.returns-then-octets-gt-SEARCH_LIMIT-clause-few
returns-then-octets-gt-SEARCH_LIMIT-clause-few c = omega (arith, length-take search_limit c.args.octets.now)
