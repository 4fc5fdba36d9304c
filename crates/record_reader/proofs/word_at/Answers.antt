-- `word_at` meets its contract: the word at the front of the window.
use Rattle.record_reader.proofs.Windows.{word_read}
use Rattle.record_reader.proofs.word_at.Goals as goal

pub returns : goal.returns
returns c = search word_read
