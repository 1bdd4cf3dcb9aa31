-- An index for a name that nothing was picked for.
use Rattle.std.specs.Prelude.{[]}
use Rattle.std.proofs.Common.{refl, lit≤}
use Rattle.ann_types.specs.Index.{Index}
use Rattle.ann_types.specs.Limits.{IsWithinLimits}

abbrev pub small : IsWithinLimits 1 2 1 1 1 1 1 1
small = record {
  code_bytes = (lit≤ tt, lit≤ tt);
  components = (lit≤ tt, lit≤ tt);
  parts = refl;
  neighbours = (lit≤ tt, lit≤ tt);
  width = (lit≤ tt, lit≤ tt);
  alpha = (lit≤ tt, lit≤ tt, lit≤ tt);
  beam = (lit≤ tt, lit≤ tt);
  freeze = (lit≤ tt, lit≤ tt);
}

-- the least parameters, without a codebook
abbrev pub no_index : Index
no_index = record { params = record { d = 1; r = 2; l_build = 1; a = 1; b = 1; w = 1; m = 1; freeze_at = 1; in_limits = small }; book = [] }
