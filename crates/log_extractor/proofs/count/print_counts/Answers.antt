-- The sorted list has the counts of the map.
use Rattle.std.proofs.Common.{◌≡◌, map, flat_map}
use Rattle.log_extractor.specs.Counts.{counted, tally_line}
use Rattle.log_extractor.proofs.CountLemmas.{count-list}
use Rattle.log_extractor.proofs.count.print_counts.Goals as goal

pub returns : goal.returns
returns g c = λ values tally.
    let items = c.sort.new.self.items in
    let list = count-list values c.args.counts.now c.in_ok-listed.listed.items items tally
    c.in_ok-listed.ensures.ordered c.in_ok-listed.ensures.found c.in_ok-listed.ensures.entries
    c.in_ok-sort.ensures.permutation c.in_ok-sort.ensures.sorted in
    let written : c.append_counts.new.out.items ≡ flat_map (tally_line c.args.form) (map counted items) =
    rw (c.new-rows.ensures.items, c.deref.ensures.value) at c.in_ok-append_counts.ensures in
    (map counted items, list, rw (c.deref-2.ensures.value, written) at c.in_ok-write_bytes.ensures)
