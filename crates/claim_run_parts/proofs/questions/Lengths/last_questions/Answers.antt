-- `claim_run_parts::questions::Lengths::last_questions` meets its contract.
use Rattle.theory_laws.proofs.Questions.{asks}
use Rattle.theory_record.proofs.Ranges.{sizes-small}
use Rattle.claim_run_parts.proofs.Numbers.{too_high, in_reach}
use borrow.Author.Rules.{rules}
use Rattle.claim_run_parts.proofs.questions.Lengths.last_questions.Goals as goal

pub returns-then-self-gt200 : goal.returns-then-self-gt200
returns-then-self-gt200 c = search asks depth 14 fits 4000

pub level_length-requires : goal.level_length-requires
level_length-requires c = (sizes-small _ _ c.requires, search rules)

pub returns-then-position-level_length : goal.returns-then-position-level_length
returns-then-position-level_length c = search too_high

pub returns : goal.returns
returns c = search in_reach
