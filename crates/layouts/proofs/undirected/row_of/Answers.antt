use Rattle.std.proofs.Common.{◌<◌, sym, leb, rules, arith}
use Rattle.std.proofs.lemmas.List.Sorted.{IsPartitionPoint-from_clause, IsPartitionedBy-leb}
use Rattle.layouts.specs.Starts.{Lies, row_is}
use Rattle.layouts.proofs.RowSearch.{later_starts_rise, last_of_these}
use Rattle.layouts.proofs.undirected.row_of.Goals as goal

found : (c : goal.After-partition_point) → (c.partition_point.result < c.args.capacity.value) × Lies c.args.position c.partition_point.result
found c =
    let k = c.args.position in
    let searched = rw (c.row_starts.ensures, c.get.ensures.value) at c.partition_point.ensures in
    let parted = IsPartitionedBy-leb (λ x. x) _ k (later_starts_rise c.args.capacity.value) in
    let point = IsPartitionPoint-from_clause (λ y. leb y k) _ _ searched.partitioned parted (λ a r q s. search rules) in
    last_of_these c.args.capacity.value k _ c.args.capacity.small c.requires searched.bound point

pub returns : goal.returns
returns c =
    let (few, here) = found c in
    record { value = sym (row_is c.args.capacity.value _ c.args.position (omega arith) here.from here.to); before = here.from; after = here.to; within = few }
