use Rattle.ann_script.proofs.WordLists.{words-first}
use Rattle.ann_script.proofs.words.split_word.Goals as goal

pub returns : goal.returns
returns c = rw (c.split_at.ensures.front, c.split_at.ensures.back, c.word_len.ensures.len) (words-first c.args.text.now c.requires)
