use Rattle.ann_disk.specs.Memory.{memory_bytes, memory_unsynced}
use Rattle.ann_disk.proofs.Chosen.{image_picked}
use Rattle.ann_disk.proofs.memory.MemoryFile.images.Goals as goal

pub returns-in_err-stretch-clause-onto : goal.returns-in_err-stretch-clause-onto
returns-in_err-stretch-clause-onto c image is each = image_picked (memory_unsynced c.args.self.now) (memory_bytes c.args.self.now) image is each

pub returns-in_err-bytes-clause-onto : goal.returns-in_err-bytes-clause-onto
returns-in_err-bytes-clause-onto c image is each = image_picked (memory_unsynced c.args.self.now) (memory_bytes c.args.self.now) image is each

pub returns-in_err-new-clause-onto : goal.returns-in_err-new-clause-onto
returns-in_err-new-clause-onto c image is each = image_picked (memory_unsynced c.args.self.now) (memory_bytes c.args.self.now) image is each

pub returns-clause-onto : goal.returns-clause-onto
returns-clause-onto c image is each = image_picked (memory_unsynced c.args.self.now) (memory_bytes c.args.self.now) image is each
