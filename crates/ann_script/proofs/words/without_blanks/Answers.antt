use Rattle.std.proofs.lemmas.List.{take_rest}
use Rattle.ann_script.proofs.WordLists.{words-skipped, word_len-skipped}
use Rattle.ann_script.proofs.words.without_blanks.Goals as goal

pub returns-clause-words : goal.returns-clause-words
returns-clause-words c = simp take_rest (rw c.blanks.ensures.len (words-skipped c.args.text.now))

pub returns-clause-front : goal.returns-clause-front
returns-clause-front c = simp take_rest (rw c.blanks.ensures.len (word_len-skipped c.args.text.now))
