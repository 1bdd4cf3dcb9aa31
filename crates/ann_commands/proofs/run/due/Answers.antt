use Rattle.std.proofs.Common.{refl, arith}
use Rattle.ann_script.specs.Script.{rules}
use Rattle.ann_script.specs.declared.verbs.Verbs.TheVariants.{Once}
use Rattle.ann_commands.specs.Status.{Served, LineFault, ReadFault, NoMemory}
use Rattle.ann_commands.proofs.Ends.{owed_for, finds_fault, is_cut, due_number, read_few, fault_few, few, calm_due, calm_line}
use Rattle.ann_commands.proofs.run.due.Goals as goal

abbrev pub transcribed-requires : goal.transcribed-requires
transcribed-requires g c = record { code = c.in-Some.ensures.once.made.code; script = c.in-Ok.ensures.allowed }

abbrev pub returns-in-Ok-clause-is : goal.returns-in-Ok-clause-is
returns-in-Ok-clause-is g c = owed_for _ _ _ _ _ c.in-Some.params (Served c.in-Some.params c.in-Ok.script) c.transcribed.result c.in-Some.ensures.once (c.in-Some.ensures.once, c.in-Ok.ensures.reads) (read_few (rules Once 1) _ _ c.in-Ok.script c.in-Ok.ensures.reads) c.transcribed.ensures

abbrev pub returns-in-Err-Line-clause-is : goal.returns-in-Err-Line-clause-is
returns-in-Err-Line-clause-is g c =
    let finds = finds_fault (rules Once 1) _ _ c.in-Err-Line.field-0 c.in-Err-Line.number c.in-Err-Line.ensures.reads c.in-Err-Line.field-0-is in
    owed_for _ _ _ _ _ c.in-Some.params (LineFault c.in-Err-Line.number) c.line_at_fault.result c.in-Some.ensures.once (c.in-Some.params, c.in-Some.ensures.once, finds) (fault_few (rules Once 1) _ _ c.in-Err-Line.number finds) (due_number c.line_at_fault.result _ c.in-Err-Line.number c.in-Err-Line.number-is c.line_at_fault.ensures)

abbrev pub returns-in-Err-Failed-clause-is : goal.returns-in-Err-Failed-clause-is
returns-in-Err-Failed-clause-is g c = record { outcome = ReadFault; happens = ((c.in-Some.params, c.in-Some.ensures.once, is_cut (rules Once 1) _ _ c.in-Err-Failed.field-0 c.in-Err-Failed.ensures.reads c.in-Err-Failed.field-0-is), refl); status_is = refl; text_is = refl }

abbrev pub returns-in-Err-Memory-clause-is : goal.returns-in-Err-Memory-clause-is
returns-in-Err-Memory-clause-is g c = record { outcome = NoMemory; happens = ((c.in-Some.params, c.in-Some.ensures.once, few (rules Once 1) _ _ c.in-Err-Memory.field-0 _ c.in-Err-Memory.ensures.reads c.in-Err-Memory.field-0-is), refl); status_is = refl; text_is = refl }

pub returns-in-Ok-clause-count : goal.returns-in-Ok-clause-count
returns-in-Ok-clause-count g c = calm_due _ _ (Served c.in-Some.params c.in-Ok.script) c.transcribed.result c.transcribed.ensures (λ four. absurd (omega (arith, four))) c.in-Ok.ensures.count

pub returns-in-Err-Line-clause-count : goal.returns-in-Err-Line-clause-count
returns-in-Err-Line-clause-count g c = calm_due _ _ (LineFault _) c.line_at_fault.result c.line_at_fault.ensures (λ four. absurd (omega (arith, four))) (calm_line _ _ c.in-Err-Line.field-0 c.in-Err-Line.number c.in-Err-Line.ensures.count c.in-Err-Line.field-0-is)
