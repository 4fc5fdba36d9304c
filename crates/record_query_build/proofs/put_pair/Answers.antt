-- `record_query_build::put_pair` meets its contract.
use mathlib.Core.Path.{◌∙◌}
use Rattle.record_query_build.proofs.Puts.{pair_put}
use Rattle.record_query_build.proofs.put_pair.Goals as goal

pub returns : goal.returns
returns c =
    pair_put _ c.requires (c.index.ensures ∙ c.first_of_pair-first.ensures) c.index-2.ensures c.put_words-a.ensures
    c.put_words.ensures
