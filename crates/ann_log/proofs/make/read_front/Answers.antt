use Rattle.std.proofs.Common.{◌≡◌, ◌+◌, subst, length, min, List, ℕ, slice_range}
use Rattle.ann_log.proofs.Fronts.{front_read}
use Rattle.ann_log.proofs.make.read_front.Goals as goal

pub returns-clause-bytes : goal.returns-clause-bytes
returns-clause-bytes g c told =
    let seen = g.F.LogFile.seen c.args.file.now in
    let size : c.resize.new.self.len ≡ min (length seen) 262218 =
    subst (λ (k : ℕ). c.resize.new.self.len ≡ min k 262218) (c.in_ok-length.ensures.value told)
    (subst (λ (k : ℕ). c.resize.new.self.len ≡ k) c.min.ensures c.in_ok-resize.ensures.len) in
    front_read 262218 c.resize.new.self.len seen c.resize.new.self.items c.deref_mut.result.now c.read_at.new.buf size c.deref_mut.ensures.value c.deref_mut.ensures.len
    (subst (λ (l : List ℕ). c.read_at.new.buf ≡ slice_range l 0 (0 + length c.deref_mut.result.now)) (c.length.ensures.same told).reads (c.in_ok-read_at.ensures.bytes told))
