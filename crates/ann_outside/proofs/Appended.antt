-- Bytes that an output took, piece after piece.
use Rattle.std.proofs.Common.{ℕ, ◌+◌, List, ◌++◌, sym, ap, ◌∙◌, take, drop, append_assoc}
use Rattle.std.proofs.Math.Seq.{take-add}
use Rattle.std.specs.Prelude.{Option, Some, None}
use Rattle.std.specs.Io.KnownBytes.{Appends}

-- a front of the bytes, and then a front of the rest
pub appends_more : (a b c : Option (List ℕ)) (n m : ℕ) (xs : List ℕ) → Appends a b (take n xs) → Appends b c (take m (drop n xs)) → Appends a c (take (n + m) xs)
appends_more None b c n m xs h k = tt
appends_more (Some x) None c n m xs h k = absurd h
appends_more (Some x) (Some y) None n m xs h k = absurd k
appends_more (Some x) (Some y) (Some z) n m xs h k = k ∙ ap (λ t. t ++ take m (drop n xs)) h ∙ append_assoc x (take n xs) (take m (drop n xs)) ∙ ap (λ t. x ++ t) (sym (take-add n m xs))
