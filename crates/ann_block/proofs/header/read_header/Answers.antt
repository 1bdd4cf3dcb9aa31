use Rattle.std.proofs.Common.{ap, sym, ◌∙◌, subst, arith}
use Rattle.ann_block.specs.Header.{IsHeader, header_bytes}
use Rattle.ann_block.proofs.Headers.{header_grammar, header_sound}
use Rattle.ann_block.proofs.Rules.{when_ok}
use Rattle.ann_block.proofs.header.read_header.Goals as goal

pub returns-clause-grammar : goal.returns-clause-grammar
returns-clause-grammar c =
    when_ok c.judged_header.result (λ header is. header_grammar c.args.block.now (λ i. omega (arith, c.type_inv.block i)) is.0 ∙ ap header_bytes (sym is.1)) c.judged_header.ensures.read

pub returns-clause-sound : goal.returns-clause-sound
returns-clause-sound c =
    when_ok c.judged_header.result (λ header is. subst IsHeader (sym is.1) (header_sound c.args.block.now (λ i. omega (arith, c.type_inv.block i)) is.0)) c.judged_header.ensures.read
