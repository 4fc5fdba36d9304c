-- What a run leaves once its questions are answered.
use denote.Triple.Both.{Both}
use Rattle.claim_whole_run.specs.Whole.{Given, Buffers, Ran, of_done}
use Rattle.claim_whole_run.specs.declared.Answers.{Answers}

abbrev pub RunDone : Given → Both Buffers Buffers → Answers → Type 0
RunDone G B r = Ran G B.entry B.exit (of_done r)
