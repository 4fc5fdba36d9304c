-- `ring_partials::fold_partials` meets its contract.
use Rattle.theory_laws.proofs.Questions.{asks}
use Rattle.ring_partials.specs.Numbers.{fold_number}
use borrow.Author.Rules.{rules}
use Rattle.ring_partials.proofs.fold_partials.Goals as goal

pub returns-then-s-ne256 : goal.returns-then-s-ne256
unfolding fold_number
returns-then-s-ne256 c = record { number_value = search (asks, rules); word_value = search (asks, rules) }

pub returns : goal.returns
unfolding fold_number
returns c = record { number_value = search (asks, rules); word_value = search (asks, rules) }
