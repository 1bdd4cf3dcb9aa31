use Rattle.std.proofs.Common.{◌≡◌, ℕ, ◌≤◌, List, length, sym, subst, Result, Ok, Err, OnOk, OnErr}
use Rattle.ann_disk.specs.File.{overwritten, Torn}
use Rattle.ann_disk.specs.Image.{Unsynced, IsImage, after_write}
use Rattle.ann_disk.specs.Memory.{memory_bytes, memory_unsynced}
use Rattle.ann_disk.proofs.Images.{write_keeps, overwritten_image, torn_by_part, torn_by_nothing}
use Rattle.ann_disk.proofs.memory.MemoryFile.store.Goals as goal

-- a store that wrote the piece or nothing leaves an image, and a torn range
module _ (u : Unsynced) (old new : List ℕ) (at n : ℕ) (piece : List ℕ) (fits : at ≤ length old) (part : length piece ≤ n) where
  stored_image : {T E : Type 0} (r : Result T E) → IsImage u old → OnOk r (new ≡ overwritten old at piece) → OnErr r (new ≡ old) → IsImage (after_write at n u) new
  stored_image (Ok x) is ok err = subst (IsImage (after_write at n u)) (sym ok) (overwritten_image u old at n piece is fits part)
  stored_image (Err x) is ok err = subst (IsImage (after_write at n u)) (sym err) (write_keeps u at n old is)

  stored_torn : {T E : Type 0} (r : Result T E) → OnOk r (new ≡ overwritten old at piece) → OnErr r (new ≡ old) → Torn at n old new
  stored_torn (Ok x) ok err = subst (Torn at n old) (sym ok) (torn_by_part at n old piece fits part)
  stored_torn (Err x) ok err = subst (Torn at n old) (sym err) (torn_by_nothing at n old)

pub invariant_of-self : goal.invariant_of-self
invariant_of-self c =
    let u = memory_unsynced c.args.self.now in
    let old = memory_bytes c.args.self.now in
    record {
      image = subst (λ v. IsImage v c.overwrite.new.bytes.items) (sym c.add_write.ensures)
          (stored_image u old c.overwrite.new.bytes.items c.args.at c.args.count c.args.piece.now c.requires.place c.requires.part c.overwrite.result
          c.args.self.now.image c.overwrite.ensures.ok c.overwrite.ensures.err);
    }

pub returns-clause-torn : goal.returns-clause-torn
returns-clause-torn c =
    stored_torn (memory_unsynced c.args.self.now) (memory_bytes c.args.self.now) c.overwrite.new.bytes.items c.args.at c.args.count c.args.piece.now c.requires.place c.requires.part c.overwrite.result
    c.overwrite.ensures.ok c.overwrite.ensures.err
