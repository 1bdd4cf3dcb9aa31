use Rattle.std.proofs.Common.{◌∙◌, ap, arith, length}
use Rattle.ann_script.proofs.Generating.{length-made}
use Rattle.ann_script.proofs.filling.insert.Goals as goal

pub from_components-vector-requires : goal.from_components-vector-requires
from_components-vector-requires c =
    let long = ap length c.in_ok-components.ensures.made ∙ length-made c.args.generator.now.state c.args.d in
    omega (arith, long, c.ranges.d.fits)
