use Rattle.std.proofs.Common.{false, length, take, sym, arith, subst}
use Rattle.std.proofs.lemmas.List.{length-take-le}
use Rattle.tlv_walk.specs.Reading.{AreOctets, IsReading}
use Rattle.tlv_walk.proofs.GrammarLemmas.Readings.{is-reading, reading}
use Rattle.tlv_open.specs.Opens.{closed_framing}
use Rattle.tlv_open.specs.Private.Finds.{AddsAll, FoundStrings, found_of}
use Rattle.tlv_open.proofs.FinderLemmas.Inputs.{are-all-found, are-found, octets-fit, read-within, top_spot}
use Rattle.tlv_open.proofs.finder.strings_of.Goals as goal

pub returns-then-sound-clause-opened : goal.returns-then-sound-clause-opened
returns-then-sound-clause-opened c =
    let each : AreOctets c.args.octets.now = octets-fit c.args.octets.now c.type_inv.octets in
    let r : IsReading (closed_framing c.args.padding) c.args.octets.now
    (reading (closed_framing c.args.padding) c.args.octets.now) =
    is-reading (closed_framing c.args.padding) c.args.octets.now each in
    (are-all-found c.args.padding c.args.octets.now (found_of c.add_all_strings.new.found) _ _ r
    c.in_ok-sound.ensures.sound c.if-sound.true
    (subst
    (λ (old : FoundStrings). AddsAll (top_spot c.args.padding) 0 false c.args.octets.now old
    (found_of c.add_all_strings.new.found) (length c.args.octets.now))
    (λ i. record { opened = c.in_ok-with_capacity.ensures.items i; broken = c.new.ensures.items i })
    c.in_ok-sound.ensures.adds)).0

pub returns-then-sound-clause-broken : goal.returns-then-sound-clause-broken
returns-then-sound-clause-broken c =
    let each : AreOctets c.args.octets.now = octets-fit c.args.octets.now c.type_inv.octets in
    let r : IsReading (closed_framing c.args.padding) c.args.octets.now
    (reading (closed_framing c.args.padding) c.args.octets.now) =
    is-reading (closed_framing c.args.padding) c.args.octets.now each in
    (are-all-found c.args.padding c.args.octets.now (found_of c.add_all_strings.new.found) _ _ r
    c.in_ok-sound.ensures.sound c.if-sound.true
    (subst
    (λ (old : FoundStrings). AddsAll (top_spot c.args.padding) 0 false c.args.octets.now old
    (found_of c.add_all_strings.new.found) (length c.args.octets.now))
    (λ i. record { opened = c.in_ok-with_capacity.ensures.items i; broken = c.new.ensures.items i })
    c.in_ok-sound.ensures.adds)).1

pub slice_bounds-read-end : goal.slice_bounds-read-end
slice_bounds-read-end c =
    let each : AreOctets c.args.octets.now = octets-fit c.args.octets.now c.type_inv.octets in
    let r : IsReading (closed_framing c.args.padding) c.args.octets.now
    (reading (closed_framing c.args.padding) c.args.octets.now) =
    is-reading (closed_framing c.args.padding) c.args.octets.now each in
    sym (length-take-le c.count_read.result c.args.octets.now
    (omega (arith, c.count_read.ensures _ r, read-within _ _ _ r)))

pub returns-clause-opened : goal.returns-clause-opened
returns-clause-opened c =
    let each : AreOctets c.args.octets.now = octets-fit c.args.octets.now c.type_inv.octets in
    let r : IsReading (closed_framing c.args.padding) c.args.octets.now
    (reading (closed_framing c.args.padding) c.args.octets.now) =
    is-reading (closed_framing c.args.padding) c.args.octets.now each in
    (are-found c.args.padding c.args.octets.now (found_of c.add_all_strings-2.new.found) _ c.count_read.result
    _ r (c.count_read.ensures _ r)
    (subst
    (λ (old : FoundStrings). AddsAll (top_spot c.args.padding) 0 false (take c.count_read.result c.args.octets.now) old
    (found_of c.add_all_strings-2.new.found) (length (take c.count_read.result c.args.octets.now)))
    (λ i. record { opened = c.truncate.ensures.items i; broken = c.truncate-2.ensures.items i })
    c.in_ok-add_all_strings.ensures.adds)).0

pub returns-clause-broken : goal.returns-clause-broken
returns-clause-broken c =
    let each : AreOctets c.args.octets.now = octets-fit c.args.octets.now c.type_inv.octets in
    let r : IsReading (closed_framing c.args.padding) c.args.octets.now
    (reading (closed_framing c.args.padding) c.args.octets.now) =
    is-reading (closed_framing c.args.padding) c.args.octets.now each in
    (are-found c.args.padding c.args.octets.now (found_of c.add_all_strings-2.new.found) _ c.count_read.result
    _ r (c.count_read.ensures _ r)
    (subst
    (λ (old : FoundStrings). AddsAll (top_spot c.args.padding) 0 false (take c.count_read.result c.args.octets.now) old
    (found_of c.add_all_strings-2.new.found) (length (take c.count_read.result c.args.octets.now)))
    (λ i. record { opened = c.truncate.ensures.items i; broken = c.truncate-2.ensures.items i })
    c.in_ok-add_all_strings.ensures.adds)).1
