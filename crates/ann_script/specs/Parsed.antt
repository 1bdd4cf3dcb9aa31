-- What parsing gives: a value where the grammar gives one, a fault where it gives none; want of memory is free.
use Rattle.std.specs.Prelude.{◌≡◌, Option, Some, None, Result, Ok, Err}
use Rattle.ann_script.specs.declared.parse_refused.ParseRefused.{ParseRefused}
use Rattle.ann_script.specs.declared.parse_refused.ParseRefused.TheVariants.{Fault, Memory}

-- the value that was made stands for the grammar's
abbrev pub Parses : {T S : Type 0} → (T → S) → Result T ParseRefused → Option S → Type 0
Parses view (Ok x) said = said ≡ Some (view x)
Parses view (Err Fault) said = said ≡ None
Parses view (Err (Memory e)) said = Unit {0}

-- a change was made to what the grammar gives, or there was none to make
abbrev pub Becomes : {S : Type 0} → Result (Unit {0}) ParseRefused → Option S → S → Type 0
Becomes result said new = Parses (λ _. new) result said
