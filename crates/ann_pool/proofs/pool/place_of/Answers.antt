use Rattle.std.proofs.Common.{rules}
use Rattle.std.proofs.lemmas.List.Sorted.{IsPartitionPoint-from_clause}
use Rattle.ann_pool.specs.Pool.{item_before}
use Rattle.ann_pool.proofs.Orders.{parted}
use Rattle.ann_pool.proofs.pool.place_of.Goals as goal

pub returns : goal.returns
returns c = record {
  inside = c.partition_point.ensures.bound;
  parts = IsPartitionPoint-from_clause (λ y. item_before y c.args.item.now) _ _ c.partition_point.ensures.partitioned (parted c.args.item.now c.args.items.now c.requires) (λ a r q k. search rules);
}
